-- Certificates of the grammar, and who signed them.
use Rattle.std.proofs.Common.{◌≡◌, ℕ, ◌+◌, ◌*◌, ◌⊎◌, Bool, true, false, Option, None, Some, List, [], ◌∷◌, refl, ap, subst, ◌∙◌, inl, inr}
use Rattle.std.specs.Prelude.{◌&&◌, ◌==◌, nat_lt, if◌then◌else◌, All}
use Rattle.std.specs.List.{list_all}
use Rattle.std.proofs.lemmas.Bool.{and_parts, cases_Bool, ltb-true}
use Rattle.std.proofs.lemmas.List.Elements.{All-head, All-tail, All-cons, All-nil}
use Rattle.std.proofs.Math.Bool.{and-false}
use Rattle.ab_num.specs.declared.cluster.Cluster.{Cluster}
use Rattle.ab_num.specs.declared.party.Party.TheVariants.{Replica, Client}
use Rattle.ab_num.specs.Places.{kind_of}
use Rattle.ab_hist.specs.declared.request.Request.{Request}
use Rattle.ab_msg.specs.declared.content.Content.{Content}
use Rattle.ab_msg.specs.declared.content.Content.TheVariants.{Abort, AbortZ, TrimmedAbort}
use Rattle.ab_msg.specs.declared.signed.Signed.{Signed}
use Rattle.ab_msg.specs.Claims.{maker_of}
use Rattle.ab_msg.specs.Certs.{IsSigned}
use Rattle.ab_msg.specs.Contents as contents
use Rattle.ab_abs.specs.Kinds.{is_zcert}
use Rattle.ab_abs.specs.Rules.{Held, Kept}
use Rattle.ab_abs.specs.Certificates.{aborted_in, with_held, held_in, is_beside, history_held, kept_in, with_kept, all_kept_in, kept_history, history_of}
use Rattle.ab_extract.specs.Certs.{IsAbort, AreAborts, StatesStop}

abort_is : (r : ℕ) (content : Content) → contents.IsStopContent content → maker_of content ≡ Replica r → StatesStop r content
abort_is r (Abort by i h) is made = inl (ap (λ p. Abort p i h) made)
abort_is r (AbortZ by i h zcert) is made = inr (inl (ap (λ p. AbortZ p i h zcert) made))
abort_is r (TrimmedAbort by i start digest rest) is made = inr (inr (start, digest, ap (λ p. TrimmedAbort p i start digest rest) made))
abort_is r _ is made = absurd is

-- signed by these replicas alone, they are ABORTs of their signers
pub aborts_are : (replicas : ℕ) (cert : List Signed) → All (IsSigned contents.IsStopContent) cert → list_all (λ s. nat_lt s.maker replicas) cert ≡ true → AreAborts replicas cert
aborts_are replicas [] formed all = All-nil (λ s. IsAbort replicas s)
aborts_are replicas (s ∷ cert) formed all =
    let both = and_parts (nat_lt s.maker replicas) (list_all (λ t. nat_lt t.maker replicas) cert) all in
    let here = All-head (IsSigned contents.IsStopContent) s cert formed in
    let is : IsAbort replicas s = record { content_is = abort_is s.maker s.content here.1.0 here.0; within = ltb-true s.maker replicas both.0 } in
    All-cons (λ t. IsAbort replicas t) s cert is (aborts_are replicas cert (All-tail (IsSigned contents.IsStopContent) s cert formed) both.1)

module _ (c : Cluster) (j : ℕ) where
  not_held : (r : ℕ) (content : Content) → contents.IsStopContent content → maker_of content ≡ Replica r → nat_lt r (3 * c.f + 1) ≡ false → aborted_in c j content ≡ None
  not_held r (Abort (Replica q) i h) is made over =
      let same : r ≡ q = cc (made) in
      let out : nat_lt q (3 * c.f + 1) ≡ false = subst (λ (n : ℕ). nat_lt n (3 * c.f + 1) ≡ false) same over in
      ap (λ b. if (i == j) && b then Some (let v : Held = record { by = q; log = h } in v) else None) out
      ∙ ap (λ b. if b then Some (let v : Held = record { by = q; log = h } in v) else None) (and-false (i == j))
  not_held r (Abort (Client q) i h) is made over = absurd (cc (made))
  not_held r (AbortZ maker i h zcert) is made over = refl
  not_held r (TrimmedAbort maker i start digest rest) is made over = refl
  not_held r _ is made over = absurd is

  nothing_with : (o : Option Held) → with_held o None ≡ None
  nothing_with None = refl
  nothing_with (Some v) = refl

  held_if : (s : Signed) (cert : List Signed) (b : Bool) → nat_lt s.maker (3 * c.f + 1) ≡ b → (b && list_all (λ t. nat_lt t.maker (3 * c.f + 1)) cert) ≡ false
      → IsSigned contents.IsStopContent s → (list_all (λ t. nat_lt t.maker (3 * c.f + 1)) cert ≡ false → held_in c j cert ≡ None) → with_held (aborted_in c j s.content) (held_in c j cert) ≡ None
  held_if s cert true here all is more = ap (with_held (aborted_in c j s.content)) (more all) ∙ nothing_with (aborted_in c j s.content)
  held_if s cert false here all is more = ap (λ o. with_held o (held_in c j cert)) (not_held s.maker s.content is.1.0 is.0 here)

  held_none : (cert : List Signed) → All (IsSigned contents.IsStopContent) cert → list_all (λ s. nat_lt s.maker (3 * c.f + 1)) cert ≡ false → held_in c j cert ≡ None
  held_none [] formed all = absurd (cc (all))
  held_none (s ∷ cert) formed all =
      held_if s cert (nat_lt s.maker (3 * c.f + 1)) refl all (All-head (IsSigned contents.IsStopContent) s cert formed)
      (held_none cert (All-tail (IsSigned contents.IsStopContent) s cert formed))

  not_kept : (r : ℕ) (content : Content) → contents.IsStopContent content → maker_of content ≡ Replica r → nat_lt r (3 * c.f + 1) ≡ false → kept_in c j content ≡ None
  not_kept r (AbortZ (Replica q) i h zcert) is made over =
      let same : r ≡ q = cc (made) in
      let out : nat_lt q (3 * c.f + 1) ≡ false = subst (λ (n : ℕ). nat_lt n (3 * c.f + 1) ≡ false) same over in
      let some : Option Kept = Some (record { by = q; log = h; zcert = zcert }) in
      ap (λ b. if (i == j) && (b && is_beside c.f h zcert) then some else None) out ∙ ap (λ b. if b then some else None) (and-false (i == j))
  not_kept r (AbortZ (Client q) i h zcert) is made over = absurd (cc (made))
  not_kept r (Abort maker i h) is made over = refl
  not_kept r (TrimmedAbort maker i start digest rest) is made over = refl
  not_kept r _ is made over = absurd is

  none_kept_with : (o : Option Kept) → with_kept o None ≡ None
  none_kept_with None = refl
  none_kept_with (Some v) = refl

  kept_if : (s : Signed) (cert : List Signed) (b : Bool) → nat_lt s.maker (3 * c.f + 1) ≡ b → (b && list_all (λ t. nat_lt t.maker (3 * c.f + 1)) cert) ≡ false
      → IsSigned contents.IsStopContent s → (list_all (λ t. nat_lt t.maker (3 * c.f + 1)) cert ≡ false → all_kept_in c j cert ≡ None) → with_kept (kept_in c j s.content) (all_kept_in c j cert) ≡ None
  kept_if s cert true here all is more = ap (with_kept (kept_in c j s.content)) (more all) ∙ none_kept_with (kept_in c j s.content)
  kept_if s cert false here all is more = ap (λ o. with_kept o (all_kept_in c j cert)) (not_kept s.maker s.content is.1.0 is.0 here)

  kept_none : (cert : List Signed) → All (IsSigned contents.IsStopContent) cert → list_all (λ s. nat_lt s.maker (3 * c.f + 1)) cert ≡ false → all_kept_in c j cert ≡ None
  kept_none [] formed all = absurd (cc (all))
  kept_none (s ∷ cert) formed all =
      kept_if s cert (nat_lt s.maker (3 * c.f + 1)) refl all (All-head (IsSigned contents.IsStopContent) s cert formed)
      (kept_none cert (All-tail (IsSigned contents.IsStopContent) s cert formed))

  abbrev by_kind : List Signed → Bool → Option (List Request)
  by_kind cert z = if z then kept_history c.f (all_kept_in c j cert) else history_held (kind_of c.plan j) c.f (held_in c j cert)

  -- with a signer outside the cluster it has no history
  pub foreign_signer : (cert : List Signed) → All (IsSigned contents.IsStopContent) cert → list_all (λ s. nat_lt s.maker (3 * c.f + 1)) cert ≡ false → history_of c j cert ≡ None
  foreign_signer cert formed all =
      elim (cases_Bool (is_zcert (kind_of c.plan j))) [
        | inl keeps ↦ ap (by_kind cert) keeps ∙ ap (kept_history c.f) (kept_none cert formed all)
        | inr plain ↦ ap (by_kind cert) plain ∙ ap (history_held (kind_of c.plan j) c.f) (held_none cert formed all)
      ]
