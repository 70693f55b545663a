-- What a call puts on the shelf.
use Rattle.std.proofs.Common.{◌≡◌, ℕ, ◌+◌, ◌*◌, ◌<◌, ◌==◌, Bool, true, false, Some, None, Option, List, [], ◌∷◌, ◌⊎◌, length, refl, subst, inl, inr}
use Rattle.std.specs.Prelude.{Contains, nat_lt, if◌then◌else◌}
use Rattle.std.proofs.lemmas.Bool.{cases_Bool, and_parts, ltb-true}
use Rattle.ab_num.specs.declared.cluster.Cluster.{Cluster}
use Rattle.ab_num.specs.declared.party.Party.TheVariants.{Replica, Client}
use Rattle.ab_num.proofs.Lists.{Contains-head, Contains-tail, Contains-cons_cases, Contains-none}
use Rattle.ab_hist.specs.declared.request.Request.{Request}
use Rattle.ab_form.specs.Formats.{EachFits}
use Rattle.ab_msg.specs.declared.content.Content.{Content}
use Rattle.ab_msg.specs.declared.content.Content.TheVariants.{Req, PrePrepare, Prepare, Commit, NewView}
use Rattle.ab_msg.specs.declared.change.Proof.{Proof}
use Rattle.ab_msg.specs.declared.signed.Signed.{Signed}
use Rattle.ab_msg.specs.declared.message.Msg.{Msg}
use Rattle.ab_msg.specs.declared.message.Msg.TheVariants as msg
use Rattle.ab_msg.specs.declared.message.Offer.{Offer}
use Rattle.ab_msg.specs.declared.message.Offer.TheVariants as offer
use Rattle.ab_msg.specs.Fields.{IsSig, IsTag, above}
use Rattle.ab_msg.specs.Certs.{IsProof}
use Rattle.ab_msg.specs.Messages.{IsMessage}
use Rattle.ab_abs.specs.Messages.{Call, took, timed, IsFormed}
use Rattle.ab_order.specs.Inputs.{Reading, request, pre_prepare_base, pre_prepare, prepare, commit, view_change, new_view, timeout, other, ChangeReading}
use Rattle.ab_order.specs.Readings.{is_own_request, is_ours, change_of, changes_of, read_request, base_offered, read_base, read_offer, read_pre_prepare, read_prepare, read_commit, read_change, read_new_view_of, read_new_view, read_message, read}
use Rattle.ab_pbft_rules.specs.Rules.{fits}
use Rattle.ab_pbft_shelf.specs.declared.kept.SignedVote.{SignedVote}
use Rattle.ab_pbft_shelf.specs.declared.kept.Tagged.{Tagged}
use Rattle.ab_pbft_shelf.specs.Shelves.{Shelf, maker_of, view_of, with_ballot_of, with_proof, with_tags, put_tags}
use Rattle.ab_pbft_shelf.specs.Signing.{puts}
use Rattle.ab_pbft_drafts.specs.Bounds.{HasTags}
use Rattle.ab_pbft_drafts.proofs.Reading.{IsChangeWritten, told_change}

-- an input for which nothing signed is put on the shelf
abbrev pub IsPlain : Reading → Type 0
IsPlain (request m) = Unit {0}
IsPlain (pre_prepare_base by view x h) = Unit {0}
IsPlain (pre_prepare by view slot x m) = Unit {0}
IsPlain (prepare by view slot x) = ⊥
IsPlain (commit by view slot x) = Unit {0}
IsPlain (view_change change) = ⊥
IsPlain (new_view by view changes) = Unit {0}
IsPlain timeout = Unit {0}
IsPlain other = Unit {0}

tags_long : (low : ℕ) (tags : List (ℕ × List ℕ)) → EachFits IsTag above low tags → (tag : ℕ × List ℕ) → Contains tags tag → length tag.1 ≡ 32
tags_long low [] fit tag has = absurd (Contains-none tag has)
tags_long low (t ∷ tags) fit tag has =
    elim (Contains-cons_cases t tags tag has) [
      | inl e ↦ subst (λ (z : ℕ × List ℕ). length z.1 ≡ 32) e fit.0.1
      | inr more ↦ tags_long (above low t) tags fit.1 tag more
    ]

pub tagged_in : (t : Tagged) (tagged : List Tagged) (x : Tagged) → Contains (put_tags t tagged) x → (t ≡ x) ⊎ Contains tagged x
tagged_in t [] x has = Contains-cons_cases t [] x has
tagged_in t (o ∷ tagged) x has = at (o.client == t.client) (λ more. tagged_in t tagged x more) has
  where
    at : (same : Bool) → (Contains (put_tags t tagged) x → (t ≡ x) ⊎ Contains tagged x) → Contains (if same then (t ∷ tagged) else (o ∷ put_tags t tagged)) x → (t ≡ x) ⊎ Contains (o ∷ tagged) x
    at true rest is = elim (Contains-cons_cases t tagged x is) [ inl e ↦ inl e | inr more ↦ inr (Contains-tail o x tagged more) ]
    at false rest is =
        elim (Contains-cons_cases o (put_tags t tagged) x is) [
          | inl e ↦ inr (subst (λ (z : Tagged). Contains (o ∷ tagged) z) e (Contains-head o tagged))
          | inr more ↦ elim (rest more) [ inl e ↦ inl e | inr there ↦ inr (Contains-tail o x tagged there) ]
        ]

module _ (c : Cluster) (i : ℕ) (s : Shelf) where
  -- what is on the shelf then, for an input
  pub data IsPut : Reading → Shelf → Type 0 where
    nothing : (e : Reading) → IsPlain e → IsPut e s
    tags : (m : Request) (t : Tagged) → HasTags t → IsPut (request m) (with_tags t s)
    ballot : (view : ℕ) (b : SignedVote) → b.by < 3 * c.f + 1 → IsSig b.sig → IsPut (prepare b.by view b.slot b.x) (with_ballot_of view b s)
    proof : (change : ChangeReading) (p : Proof) → IsChangeWritten change → maker_of p ≡ change.by → view_of p ≡ change.view → IsProof p → IsPut (view_change change) (if fits c.f change then with_proof p s else s)

  -- ---- what is told of messages by which nothing is put

  plain_base : (by view : ℕ) (x : List ℕ) (o : Option (List Request)) → IsPlain (read_base by view x o)
  plain_base by view x None = tt
  plain_base by view x (Some h) = tt

  plain_offer : (by view slot : ℕ) (x : List ℕ) (o : Offer) → IsPlain (read_offer c i by view slot x o)
  plain_offer by view slot x (offer.Base cert) =
      elim (cases_Bool (slot == 0)) [ inl first ↦ rw first (plain_base by view x (base_offered c i cert)) | inr later ↦ rw later tt ]
  plain_offer by view slot x (offer.Request m tag) = elim (cases_Bool (slot == 0)) [ inl first ↦ rw first tt | inr later ↦ rw later tt ]

  plain_pre_prepare : (content : Content) (o : Offer) → IsPlain (read_pre_prepare c i content o)
  plain_pre_prepare (PrePrepare (Replica by) j view slot x) o = elim (cases_Bool (is_ours c.f i j by)) [ inl ours ↦ rw ours (plain_offer by view slot x o) | inr others ↦ rw others tt ]
  plain_pre_prepare _ o = tt

  plain_commit : (content : Content) → IsPlain (read_commit c.f i content)
  plain_commit (Commit (Replica by) j view slot x) = elim (cases_Bool (is_ours c.f i j by)) [ inl ours ↦ rw ours tt | inr others ↦ rw others tt ]
  plain_commit _ = tt

  plain_new_view_of : (by view : ℕ) (o : Option (List ChangeReading)) → IsPlain (read_new_view_of by view o)
  plain_new_view_of by view None = tt
  plain_new_view_of by view (Some changes) = tt

  plain_new_view : (content : Content) (proofs : List Proof) → IsPlain (read_new_view c.f i content proofs)
  plain_new_view (NewView (Replica by) j view) proofs =
      elim (cases_Bool (is_ours c.f i j by)) [ inl ours ↦ rw ours (plain_new_view_of by view (changes_of c.f i proofs)) | inr others ↦ rw others tt ]
  plain_new_view _ proofs = tt

  -- ---- and of those by which something is

  abbrev Puts : Msg → Reading → Type 0
  Puts m e = IsPut e (puts c.f (took m) e s)

  put_prepare : (signed : Signed) (content : Content) → IsSig signed.sig → Puts (msg.Prepare signed) (read_prepare c.f i content)
  put_prepare signed (Prepare (Replica by) j view slot x) formed =
      elim (cases_Bool (is_ours c.f i j by)) [
        | inl ours ↦ rw ours (ballot view (record { by = by; slot = slot; x = x; sig = signed.sig }) (ltb-true by (3 * c.f + 1) (and_parts (j == i) (nat_lt by (3 * c.f + 1)) ours).1) formed)
        | inr others ↦ rw others (nothing other tt)
      ]
  put_prepare signed _ formed = nothing other tt

  put_change : (p : Proof) (o : Option ChangeReading) → IsProof p → change_of c.f i p ≡ o → Puts (msg.ViewChange p) (read_change o)
  put_change p None formed is = nothing other tt
  put_change p (Some change) formed is = let w = told_change c i p change formed is in proof change p w.written w.maker w.view formed

  put_message : (m : Msg) → IsMessage m → Puts m (read_message c i m)
  put_message (msg.Req content tagged) formed = put_request content
    where
      put_request : (told : Content) → Puts (msg.Req content tagged) (read_request i told)
      put_request (Req (Client q) j m) =
          elim (cases_Bool (is_own_request i j q m)) [
            | inl own ↦ rw own (tags m (record { client = m.client; tags = tagged }) (λ tag has. tags_long 0 tagged.items formed.1.1 tag has))
            | inr another ↦ rw another (nothing other tt)
          ]
      put_request _ = nothing other tt
  put_message (msg.PrePrepare content tag o) formed = nothing (read_pre_prepare c i content o) (plain_pre_prepare content o)
  put_message (msg.Prepare signed) formed = put_prepare signed signed.content formed.1.1
  put_message (msg.Commit content tag) formed = nothing (read_commit c.f i content) (plain_commit content)
  put_message (msg.ViewChange p) formed = put_change p (change_of c.f i p) formed refl
  put_message (msg.NewView content tag proofs) formed = nothing (read_new_view c.f i content proofs) (plain_new_view content proofs)
  put_message _ formed = nothing other tt

  pub puts_are : (call : Call) → IsFormed call → IsPut (read c i call) (puts c.f call (read c i call) s)
  puts_are (took m) formed = put_message m formed
  puts_are timed formed = nothing timeout tt
