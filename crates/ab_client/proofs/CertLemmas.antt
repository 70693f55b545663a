-- Kept ABORTs, and the certificates that they make.
use Rattle.std.proofs.Common.{◌≡◌, ℕ, ◌+◌, ◌*◌, ◌≤◌, Bool, true, false, Option, Some, None, List, [], ◌∷◌, length, arith, refl, sym, ap, ◌∙◌, subst, inl, inr}
use Rattle.std.specs.Prelude.{◌==◌, ◌&&◌, ◌||◌, not, nat_lt, nat_le, if◌then◌else◌, All, ◌↔◌, Result, Err, IsErrOf}
use Rattle.std.specs.List.{list_all}
use Rattle.std.proofs.lemmas.Bool.{cases_Bool}
use Rattle.std.proofs.lemmas.List.Elements.{All-cons, All-head, All-tail}
use Rattle.std.proofs.Math.Bool.{and-false, and-true, or-false}
use Rattle.ab_num.specs.declared.cluster.Cluster.{Cluster}
use Rattle.ab_num.specs.declared.plan.Kind.{Kind}
use Rattle.ab_num.specs.declared.plan.Kind.TheVariants as kind
use Rattle.ab_num.specs.Places.{kind_of}
use Rattle.ab_hist.specs.declared.request.Request.{Request}
use Rattle.ab_msg.specs.declared.content.Content.{Content}
use Rattle.ab_msg.specs.declared.content.Content.TheVariants as content
use Rattle.ab_msg.specs.declared.signed.Signed.{Signed}
use Rattle.ab_msg.specs.Claims.{instance_of}
use Rattle.ab_msg.specs.Contents.{IsStopContent}
use Rattle.ab_msg.specs.Certs.{IsSigned, AreAborts}
use Rattle.ab_abs.specs.Kinds.{is_zcert, need_of}
use Rattle.ab_abs.specs.Certificates.{history_of, is_beside}
use Rattle.ab_stable.specs.Offers.{is_trimmed, makes_checkpoints}
use Rattle.ab_extract.specs.declared.cert.CertFault.{CertFault}
use Rattle.ab_extract.specs.declared.cert.CertFault.TheVariants as fault
use Rattle.ab_extract.specs.Certs.{IsFull, IsApart, IsSound, IsFitting, first_repeat, first_foreign, first_bad, is_fit}
use Rattle.ab_extract.proofs.MemberLemmas.{aborts_are, foreign_signer}
use Rattle.ab_extract.proofs.CertLemmas.{history_sound}
use Rattle.ab_run.specs.Clients.{keep, is_plain_abort, is_list_abort, is_kept_abort, is_abort_of}
use Rattle.ab_client.specs.Choices.{is_fit_of}

-- ---- ABORTs that were read

abort_by : (z m : Bool) (f j : ℕ) (s : Content) → IsStopContent s
    → (if z then is_kept_abort f j s else if m then is_list_abort j s else is_plain_abort j s) ≡ ((instance_of s == j) && (is_fit z f s || ((not z && m) && is_trimmed s)))
abort_by true m f j (content.Abort maker i h) is = sym (and-false (i == j))
abort_by false true f j (content.Abort maker i h) is = sym (and-true (i == j))
abort_by false false f j (content.Abort maker i h) is = sym (and-true (i == j))
abort_by true m f j (content.AbortZ maker i h zcert) is = ap (λ b. (i == j) && b) (sym (or-false (is_beside f h zcert)))
abort_by false true f j (content.AbortZ maker i h zcert) is = sym (and-false (i == j))
abort_by false false f j (content.AbortZ maker i h zcert) is = sym (and-false (i == j))
abort_by true m f j (content.TrimmedAbort maker i start d rest) is = sym (and-false (i == j))
abort_by false true f j (content.TrimmedAbort maker i start d rest) is = sym (and-true (i == j))
abort_by false false f j (content.TrimmedAbort maker i start d rest) is = sym (and-false (i == j))
abort_by z m f j _ is = absurd is

-- no kind has both certificates of answers and CHECKPOINTs
trims_without : (k : Kind) → (not (is_zcert k) && makes_checkpoints k) ≡ makes_checkpoints k
trims_without kind.Quorum = refl
trims_without kind.ZLight = refl
trims_without kind.Chain = refl
trims_without kind.Backup = refl
trims_without kind.ZCert = refl

-- an ABORT is one of the instance that it names, if it is as the instances of its kind have it
pub is_abort_of-fits : (k : Kind) (f j : ℕ) (s : Content) → IsStopContent s → is_abort_of k f j s ≡ ((instance_of s == j) && is_fit_of k f s)
is_abort_of-fits k f j s is =
    abort_by (is_zcert k) (makes_checkpoints k) f j s is ∙ ap (λ b. (instance_of s == j) && (is_fit (is_zcert k) f s || (b && is_trimmed s))) (trims_without k)

-- ---- how many there are

need_within : (c : Cluster) (k : Kind) → (1 ≤ need_of k c.f) × (need_of k c.f ≤ 7)
need_within c kind.Quorum = let few = c.in_bounds.few_faulty in (omega arith, omega (arith, few))
need_within c kind.ZLight = let few = c.in_bounds.few_faulty in (omega arith, omega (arith, few))
need_within c kind.Chain = let few = c.in_bounds.few_faulty in (omega arith, omega (arith, few))
need_within c kind.Backup = let few = c.in_bounds.few_faulty in (omega arith, omega (arith, few))
need_within c kind.ZCert = let few = c.in_bounds.few_faulty in (omega arith, omega (arith, few))

module _ (c : Cluster) (j : ℕ) where
  -- a certificate that names a replica that isn't there has no history
  pub foreign_none : (cert : List Signed) → All (IsSigned IsStopContent) cert → list_all (λ s. nat_lt s.maker (3 * c.f + 1)) cert ≡ false → history_of c j cert ≡ None
  foreign_none cert all above = foreign_signer c j cert all above

  -- one with a history has as many ABORTs as its kind needs
  history_counts : (cert : List Signed) (h : List Request) → All (IsSigned IsStopContent) cert → history_of c j cert ≡ Some h → length cert ≡ need_of (kind_of c.plan j) c.f
  history_counts cert h all is =
      elim (cases_Bool (list_all (λ s. nat_lt s.maker (3 * c.f + 1)) cert)) [
        | inl within ↦ (history_sound c j cert h (aborts_are (3 * c.f + 1) cert all within) is).0.0.0
        | inr above ↦ absurd (let two : Some h ≡ None = sym is ∙ foreign_none cert all above in cc (two))
      ]

  pub history_aborts : (cert : List Signed) (h : List Request) → All (IsSigned IsStopContent) cert → history_of c j cert ≡ Some h → AreAborts 1 7 cert
  history_aborts cert h all is =
      let n = history_counts cert h all is in
      let q = need_within c (kind_of c.plan j) in
      ((omega (arith, n, q.0), omega (arith, n, q.1)), all)

-- ---- why a certificate is refused

some_or_none : (o : Option (List Request)) → ((h : List Request) → o ≡ Some h → ⊥) → o ≡ None
some_or_none None not_some = refl
some_or_none (Some h) not_some = absurd (not_some h refl)

module _ (c : Cluster) (i : ℕ) (cert : List Signed) (sound : (h : List Request) → history_of c i cert ≡ Some h → IsFitting c i cert) (r : Result (List Request) CertFault)
    (count : IsErrOf r fault.Count ↔ (IsFull c i cert → ⊥))
    (signer : (q : ℕ) → IsErrOf r (fault.SameSigner q) ↔ (IsFull c i cert × (first_repeat cert ≡ Some q)))
    (foreign : (j : ℕ) → IsErrOf r (fault.WrongInstance j) ↔ (IsApart c i cert × (first_foreign i cert ≡ Some j)))
    (bad : (q : ℕ) → IsErrOf r (fault.BadCert q) ↔ (IsSound c i cert × (first_bad (kind_of c.plan i) c.f cert ≡ Some q)))
    (unequal : IsErrOf r fault.Unequal ↔ (IsFitting c i cert × (history_of c i cert ≡ None))) where
  err_of : (e : CertFault) → r ≡ Err e → IsErrOf r e
  err_of e is = subst (λ (x : Result (List Request) CertFault). IsErrOf x e) (sym is) refl

  -- one that is refused, and not because an allocation failed, has no history
  pub refused_none : (e : CertFault) → r ≡ Err e → (e ≡ fault.OutOfMemory → ⊥) → history_of c i cert ≡ None
  refused_none fault.Count is other = some_or_none (history_of c i cert) (λ h some. count.0 (err_of fault.Count is) (sound h some).0.0.0)
  refused_none (fault.SameSigner q) is other =
      some_or_none (history_of c i cert) (λ h some. let a = ((signer q).0 (err_of (fault.SameSigner q) is)).1 in let b = (sound h some).0.0.1 in let e : Some q ≡ None = sym a ∙ b in cc (e))
  refused_none (fault.WrongInstance j) is other =
      some_or_none (history_of c i cert) (λ h some. let a = ((foreign j).0 (err_of (fault.WrongInstance j) is)).1 in let b = (sound h some).0.1 in let e : Some j ≡ None = sym a ∙ b in cc (e))
  refused_none (fault.BadCert q) is other =
      some_or_none (history_of c i cert) (λ h some. let a = ((bad q).0 (err_of (fault.BadCert q) is)).1 in let b = (sound h some).1 in let e : Some q ≡ None = sym a ∙ b in cc (e))
  refused_none fault.Unequal is other = (unequal.0 (err_of fault.Unequal is)).1
  refused_none fault.OutOfMemory is other = absurd (other refl)

-- ---- one more that is kept

module _ (P : Signed → Type 0) (v : Signed) (here : P v) where
  pub All-keep : (kept : List Signed) → All P kept → All P (keep v kept)
  All-keep [] all = All-cons P v [] here all
  All-keep (w ∷ kept) all =
      kept_by (nat_le v.maker w.maker) (v ∷ w ∷ kept) (w ∷ keep v kept) (All-cons P v (w ∷ kept) here all) (All-cons P w (keep v kept) (All-head P w kept all) (All-keep kept (All-tail P w kept all)))
    where
      kept_by : (b : Bool) (xs ys : List Signed) → All P xs → All P ys → All P (if b then xs else ys)
      kept_by true xs ys p q = p
      kept_by false xs ys p q = q
