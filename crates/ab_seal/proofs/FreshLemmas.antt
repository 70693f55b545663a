-- What a draft states anew is of the grammar, and for whom its bytes are the same.
use Rattle.std.proofs.Common.{◌≡◌, ℕ, ◌+◌, ◌*◌, leb, ltb, cond, Bool, true, false, IsTrue, List, [], ◌∷◌, length, All, Option, None, Some, arith}
use Rattle.std.proofs.lemmas.List.Elements.{All-cons}
use Rattle.arrayvec.specs.ArrayVec.{ArrayVec}
use Rattle.ab_num.specs.declared.party.Party.{Party}
use Rattle.ab_num.specs.declared.party.Party.TheVariants.{Replica, Client}
use Rattle.ab_num.specs.Bounds.{IsInBounds}
use Rattle.ab_num.specs.Places.{position_in}
use Rattle.ab_hist.specs.declared.request.Request.{Request}
use Rattle.ab_form.specs.Formats.{IsWithin}
use Rattle.ab_form.specs.Lists.{FitsInside}
use Rattle.ab_keys.specs.Keys.{is_party}
use Rattle.ab_msg.specs.declared.content.Content.{Content}
use Rattle.ab_msg.specs.declared.content.Content.TheVariants.{Req, Order, Resp, ChainTag, Panic, Abort, PrePrepare, Prepare, Commit, ViewChange, NewView}
use Rattle.ab_msg.specs.declared.message.Msg.{Msg}
use Rattle.ab_msg.specs.declared.message.Msg.TheVariants as msg
use Rattle.ab_msg.specs.Claims.{fresh, passed_at}
use Rattle.ab_msg.specs.Fields.{IsInstance, IsReply, IsRequest}
use Rattle.ab_msg.specs.Contents.{IsContent}
use Rattle.ab_msg.specs.Messages.{IsDraft}
use Rattle.ab_seal.proofs.DraftLemmas.{party-fits}
use Rattle.ab_wire.proofs.KindLemmas.{req_content, order_content, resp_content, panic_content, abort_content, pre_prepare_content, prepare_content, commit_content, change_content, new_view_content, checkpoint_content, spec_content, local_commit_content}

nothing : All IsContent []
nothing = λ k d lt. absurd (omega (arith, lt))

alone : (c : Content) → IsContent c → All IsContent (c ∷ [])
alone c h = All-cons IsContent c [] h nothing

-- one of three lists
one-of-three : (late last : Bool) (tag answer : Content) → IsContent tag → IsContent answer
    → All IsContent (cond late (tag ∷ []) (cond last (tag ∷ answer ∷ []) (answer ∷ [])))
one-of-three true last tag answer h g = alone tag h
one-of-three false true tag answer h g = All-cons IsContent tag (answer ∷ []) h (alone answer g)
one-of-three false false tag answer h g = alone answer g

passed-fits : (f i : ℕ) (m : Request) (n : ℕ) (d : List ℕ) (reply : Option (ArrayVec ℕ)) (r p : ℕ) → IsWithin 0 6 r → IsInstance i → IsRequest 0 15 m → IsWithin 1 65535 n → length d ≡ 32
    → FitsInside IsReply reply → All IsContent (passed_at f i m n d reply r p)
passed-fits f i m n d None r p by at asks within long short = alone (ChainTag (Replica r) i m.client m.stamp n d) (by, (at, (asks.0, (asks.1.0, (within, long)))))
passed-fits f i m n d (Some reply) r p by at asks within long short =
    one-of-three (leb p (2 * f)) (ltb p (3 * f + 1)) (ChainTag (Replica r) i m.client m.stamp n d) (Resp (Replica r) i m.client m.stamp n d reply)
    (by, (at, (asks.0, (asks.1.0, (within, long))))) (by, (at, (asks.0, (asks.1.0, (within, (long, short))))))

pub fresh-fits : (f clients : ℕ) (p : Party) (m : Msg) → IsInBounds f clients → IsTrue (is_party f clients p) → IsDraft m → All IsContent (fresh f p m)
fresh-fits f clients p (msg.Req content tags) bounds party h = alone content (req_content content h)
fresh-fits f clients p (msg.Order content client_tag tag) bounds party h = alone content (order_content content h.0)
fresh-fits f clients p (msg.Resp content tag) bounds party h = alone content (resp_content content h)
fresh-fits f clients (Replica r) (msg.Chain i m n d reply tags) bounds party h =
    passed-fits f i m n d reply r (position_in f i r) (party-fits f clients (Replica r) bounds.few_faulty bounds.few_clients party) h.0 h.1.0 h.1.1.0 h.1.1.1.0 h.1.1.1.1.0
fresh-fits f clients (Client c) (msg.Chain i m n d reply tags) bounds party h = nothing
fresh-fits f clients p (msg.Panic content tag) bounds party h = alone content (panic_content content h)
fresh-fits f clients p (msg.Abort abort) bounds party h = alone abort.content (abort_content abort.content h.1.0)
fresh-fits f clients p (msg.Init cert) bounds party h = nothing
fresh-fits f clients p (msg.PrePrepare content tag offer) bounds party h = alone content (pre_prepare_content content h.0)
fresh-fits f clients p (msg.Prepare prepare) bounds party h = alone prepare.content (prepare_content prepare.content h.1.0)
fresh-fits f clients p (msg.Commit content tag) bounds party h = alone content (commit_content content h)
fresh-fits f clients p (msg.ViewChange change) bounds party h = alone change.change.content (change_content change.change.content h.0.1.0)
fresh-fits f clients p (msg.NewView content tag changes) bounds party h = alone content (new_view_content content h.0)
fresh-fits f clients p (msg.Checkpoint content tag) bounds party h = alone content (checkpoint_content content h)
fresh-fits f clients p (msg.LocalCommit content tag) bounds party h = alone content (local_commit_content content h)
fresh-fits f clients p (msg.Spec spec) bounds party h = alone spec.content (spec_content spec.content h.1.0)
fresh-fits f clients p (msg.Cert i zcert) bounds party h = nothing
