-- What is stated in messages of the grammar.
use Rattle.std.proofs.Common.{ℕ, ◌*◌, ◌+◌, ◌≤◌, Bool, true, false, Option, None, Some, List, [], ◌∷◌, All, arith}
use Rattle.std.specs.Prelude.{nat_le, nat_lt, if◌then◌else◌}
use Rattle.std.proofs.lemmas.List.Elements.{All-nil, All-cons}
use Rattle.arrayvec.specs.ArrayVec.{ArrayVec}
use Rattle.ab_num.specs.declared.party.Party.TheVariants.{Replica}
use Rattle.ab_num.specs.Places.{position_in}
use Rattle.ab_hist.specs.declared.request.Request.{Request}
use Rattle.ab_form.specs.Lists.{FitsInside}
use Rattle.ab_msg.specs.declared.content.Content.{Content}
use Rattle.ab_msg.specs.declared.content.Content.TheVariants as content
use Rattle.ab_msg.specs.declared.message.Msg.{Msg}
use Rattle.ab_msg.specs.declared.message.Msg.TheVariants as msg
use Rattle.ab_msg.specs.Fields.{IsReply}
use Rattle.ab_msg.specs.Claims.{passed_at, fresh}
use Rattle.ab_msg.specs.Contents.{IsContent}
use Rattle.ab_msg.specs.Messages.{IsDraft}
use Rattle.ab_wire.proofs.KindLemmas.{req_content, order_content, resp_content, panic_content, abort_content, pre_prepare_content, prepare_content, commit_content, change_content, new_view_content, checkpoint_content, spec_content, local_commit_content}

-- one content, of a kind of which all are of the grammar
one : (c : Content) → IsContent c → All IsContent (c ∷ [])
one c h = All-cons IsContent c [] h (All-nil IsContent)

two : (c d : Content) → IsContent c → IsContent d → All IsContent (c ∷ d ∷ [])
two c d h g = All-cons IsContent c (d ∷ []) h (one d g)

-- ---- along a chain

-- what a position states with a reply, by whether it is one of the first 2f, and whether it is before the last
passed-fits : (early inner : Bool) (tag answer : Content) → IsContent tag → IsContent answer
    → All IsContent (if early then tag ∷ [] else if inner then tag ∷ answer ∷ [] else answer ∷ [])
passed-fits true inner tag answer h g = one tag h
passed-fits false true tag answer h g = two tag answer h g
passed-fits false false tag answer h g = one answer g

chain-fits : (f r i : ℕ) (m : Request) (n : ℕ) (d : List ℕ) (reply : Option (ArrayVec ℕ)) (p : ℕ) → r ≤ 6
    → IsContent (content.ChainTag (Replica r) i m.client m.stamp n d) → FitsInside IsReply reply → All IsContent (passed_at f i m n d reply r p)
chain-fits f r i m n d None p le tag short = one (content.ChainTag (Replica r) i m.client m.stamp n d) tag
chain-fits f r i m n d (Some reply) p le tag short =
    passed-fits (nat_le p (2 * f)) (nat_lt p (3 * f + 1)) (content.ChainTag (Replica r) i m.client m.stamp n d) (content.Resp (Replica r) i m.client m.stamp n d reply)
    tag (tag.0, (tag.1.0, (tag.1.1.0, (tag.1.1.1.0, (tag.1.1.1.1.0, (tag.1.1.1.1.1, short))))))

-- ---- messages

pub fresh-fits : (f r : ℕ) (m : Msg) → r ≤ 6 → IsDraft m → All IsContent (fresh f (Replica r) m)
fresh-fits f r (msg.Req c tags) le h = one c (req_content c h)
fresh-fits f r (msg.Order c client_tag tag) le h = one c (order_content c h.0)
fresh-fits f r (msg.Resp c tag) le h = one c (resp_content c h)
fresh-fits f r (msg.Chain i m n d reply tags) le h =
    chain-fits f r i m n d reply (position_in f i r) le ((omega arith, le), (h.0, (h.1.0.0, (h.1.0.1.0, (h.1.1.0, h.1.1.1.0))))) h.1.1.1.1.0
fresh-fits f r (msg.Panic c tag) le h = one c (panic_content c h)
fresh-fits f r (msg.Abort abort) le h = one abort.content (abort_content abort.content h.1.0)
fresh-fits f r (msg.Init cert) le h = All-nil IsContent
fresh-fits f r (msg.PrePrepare c tag offer) le h = one c (pre_prepare_content c h.0)
fresh-fits f r (msg.Prepare prepare) le h = one prepare.content (prepare_content prepare.content h.1.0)
fresh-fits f r (msg.Commit c tag) le h = one c (commit_content c h)
fresh-fits f r (msg.ViewChange change) le h = one change.change.content (change_content change.change.content h.0.1.0)
fresh-fits f r (msg.NewView c tag changes) le h = one c (new_view_content c h.0)
fresh-fits f r (msg.Checkpoint c tag) le h = one c (checkpoint_content c h)
fresh-fits f r (msg.LocalCommit c tag) le h = one c (local_commit_content c h)
fresh-fits f r (msg.Spec spec) le h = one spec.content (spec_content spec.content h.1.0)
fresh-fits f r (msg.Cert i zcert) le h = All-nil IsContent
