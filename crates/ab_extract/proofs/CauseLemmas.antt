-- The causes of faults exclude each other, and a history.
use Rattle.std.proofs.Common.{◌≡◌, ℕ, ◌+◌, ◌*◌, true, false, Option, None, Some, List, refl, sym, ap, subst, ◌∙◌}
use Rattle.std.specs.Prelude.{◌↔◌, Result, Ok, Err, IfOk, IfErr, IsErrOf}
use Rattle.std.specs.Option.{IsSome, is_some}
use Rattle.std.specs.Result.{IsErrAnd}
use Rattle.ab_num.specs.declared.cluster.Cluster.{Cluster}
use Rattle.ab_num.specs.Places.{kind_of}
use Rattle.ab_hist.specs.declared.request.Request.{Request}
use Rattle.ab_msg.specs.declared.signed.Signed.{Signed}
use Rattle.ab_abs.specs.Certificates.{history_of}
use Rattle.ab_extract.specs.declared.cert.CertFault.{CertFault}
use Rattle.ab_extract.specs.declared.cert.CertFault.TheVariants.{Count, SameSigner, WrongInstance, BadCert, Unequal, OutOfMemory}
use Rattle.ab_extract.specs.Certs.{AreAborts, IsFull, IsApart, IsSound, IsFitting, first_repeat, first_foreign, first_bad}
use Rattle.ab_extract.specs.Causes.{CauseOf}
use Rattle.ab_extract.proofs.CertLemmas.{history_sound}

clash : {A : Type 0} (o : Option A) (x : A) → o ≡ Some x → o ≡ None → ⊥
clash o x is none = let two : Some x ≡ None = sym is ∙ none in absurd (cc (two))

pub has_some : (o : Option (List Request)) (h : List Request) → o ≡ Some h → IsSome o
has_some o h is = ap (λ (p : Option (List Request)). is_some p) is

same_some : (o : Option ℕ) (x y : ℕ) → o ≡ Some x → o ≡ Some y → x ≡ y
same_some o x y is also = let two : Some x ≡ Some y = sym is ∙ also in cc (two)

module _ (c : Cluster) (i : ℕ) (cert : List Signed) (aborts : AreAborts (3 * c.f + 1) cert) where
  some_sound : (o : Option (List Request)) → history_of c i cert ≡ o → IsSome o → IsFitting c i cert
  some_sound None is has = absurd (cc (has))
  some_sound (Some h) is has = history_sound c i cert h aborts is

  -- what has a history has no fault
  sound_if : IsSome (history_of c i cert) → IsFitting c i cert
  sound_if has = some_sound (history_of c i cert) refl has

  none_clash : IsSome (history_of c i cert) → history_of c i cert ≡ None → ⊥
  none_clash has none = let two : false ≡ true = subst (λ (o : Option (List Request)). IsSome o) none has in absurd (cc (two))

  abbrev Answer : Type 0
  Answer = Result (List Request) CertFault

  -- a fault that is told has its cause
  told : (r : Answer) → IfErr r (λ e. CauseOf c i cert e) → (e : CertFault) → IsErrOf r e → CauseOf c i cert e
  told (Ok h) fault e is = absurd (cc (is))
  told (Err x) fault e is = let same : x ≡ e = cc (is) in subst (λ (y : CertFault). CauseOf c i cert y) same fault

  few : (r : Answer) → IfOk r (λ h. history_of c i cert ≡ Some h) → IfErr r (λ e. CauseOf c i cert e) → (IsFull c i cert → ⊥) → IsErrOf r Count
  few (Ok h) ok fault not_full = absurd (not_full (history_sound c i cert h aborts ok).0.0.0)
  few (Err Count) ok fault not_full = refl
  few (Err (SameSigner q)) ok fault not_full = absurd (not_full fault.0)
  few (Err (WrongInstance j)) ok fault not_full = absurd (not_full fault.0.0)
  few (Err (BadCert q)) ok fault not_full = absurd (not_full fault.0.0.0)
  few (Err Unequal) ok fault not_full = absurd (not_full fault.0.0.0.0)
  few (Err OutOfMemory) ok fault not_full = absurd (not_full (sound_if fault).0.0.0)

  twice : (r : Answer) → IfOk r (λ h. history_of c i cert ≡ Some h) → IfErr r (λ e. CauseOf c i cert e) → (q : ℕ) → IsFull c i cert × (first_repeat cert ≡ Some q) → IsErrOf r (SameSigner q)
  twice (Ok h) ok fault q is = absurd (clash (first_repeat cert) q is.1 (history_sound c i cert h aborts ok).0.0.1)
  twice (Err Count) ok fault q is = absurd (fault is.0)
  twice (Err (SameSigner p)) ok fault q is = ap (λ n. Err (SameSigner n)) (same_some (first_repeat cert) p q fault.1 is.1)
  twice (Err (WrongInstance j)) ok fault q is = absurd (clash (first_repeat cert) q is.1 fault.0.1)
  twice (Err (BadCert p)) ok fault q is = absurd (clash (first_repeat cert) q is.1 fault.0.0.1)
  twice (Err Unequal) ok fault q is = absurd (clash (first_repeat cert) q is.1 fault.0.0.0.1)
  twice (Err OutOfMemory) ok fault q is = absurd (clash (first_repeat cert) q is.1 (sound_if fault).0.0.1)

  other : (r : Answer) → IfOk r (λ h. history_of c i cert ≡ Some h) → IfErr r (λ e. CauseOf c i cert e) → (j : ℕ) → IsApart c i cert × (first_foreign i cert ≡ Some j) → IsErrOf r (WrongInstance j)
  other (Ok h) ok fault j is = absurd (clash (first_foreign i cert) j is.1 (history_sound c i cert h aborts ok).0.1)
  other (Err Count) ok fault j is = absurd (fault is.0.0)
  other (Err (SameSigner q)) ok fault j is = absurd (clash (first_repeat cert) q fault.1 is.0.1)
  other (Err (WrongInstance k)) ok fault j is = ap (λ n. Err (WrongInstance n)) (same_some (first_foreign i cert) k j fault.1 is.1)
  other (Err (BadCert q)) ok fault j is = absurd (clash (first_foreign i cert) j is.1 fault.0.1)
  other (Err Unequal) ok fault j is = absurd (clash (first_foreign i cert) j is.1 fault.0.0.1)
  other (Err OutOfMemory) ok fault j is = absurd (clash (first_foreign i cert) j is.1 (sound_if fault).0.1)

  abbrev bad : Option ℕ
  bad = first_bad (kind_of c.plan i) c.f cert

  unfit : (r : Answer) → IfOk r (λ h. history_of c i cert ≡ Some h) → IfErr r (λ e. CauseOf c i cert e) → (q : ℕ) → IsSound c i cert × (bad ≡ Some q) → IsErrOf r (BadCert q)
  unfit (Ok h) ok fault q is = absurd (clash bad q is.1 (history_sound c i cert h aborts ok).1)
  unfit (Err Count) ok fault q is = absurd (fault is.0.0.0)
  unfit (Err (SameSigner p)) ok fault q is = absurd (clash (first_repeat cert) p fault.1 is.0.0.1)
  unfit (Err (WrongInstance j)) ok fault q is = absurd (clash (first_foreign i cert) j fault.1 is.0.1)
  unfit (Err (BadCert p)) ok fault q is = ap (λ n. Err (BadCert n)) (same_some bad p q fault.1 is.1)
  unfit (Err Unequal) ok fault q is = absurd (clash bad q is.1 fault.0.1)
  unfit (Err OutOfMemory) ok fault q is = absurd (clash bad q is.1 (sound_if fault).1)

  differ : (r : Answer) → IfOk r (λ h. history_of c i cert ≡ Some h) → IfErr r (λ e. CauseOf c i cert e) → IsFitting c i cert × (history_of c i cert ≡ None) → IsErrOf r Unequal
  differ (Ok h) ok fault is = absurd (clash (history_of c i cert) h ok is.1)
  differ (Err Count) ok fault is = absurd (fault is.0.0.0.0)
  differ (Err (SameSigner q)) ok fault is = absurd (clash (first_repeat cert) q fault.1 is.0.0.0.1)
  differ (Err (WrongInstance j)) ok fault is = absurd (clash (first_foreign i cert) j fault.1 is.0.0.1)
  differ (Err (BadCert q)) ok fault is = absurd (clash bad q fault.1 is.0.1)
  differ (Err Unequal) ok fault is = refl
  differ (Err OutOfMemory) ok fault is = absurd (none_clash fault is.1)

  module _ (r : Answer) (ok : IfOk r (λ h. history_of c i cert ≡ Some h)) (fault : IfErr r (λ e. CauseOf c i cert e)) where
    pub count_is : IsErrOf r Count ↔ (IsFull c i cert → ⊥)
    count_is = (λ e. told r fault Count e, λ is. few r ok fault is)

    pub signer_is : (q : ℕ) → IsErrOf r (SameSigner q) ↔ (IsFull c i cert × (first_repeat cert ≡ Some q))
    signer_is q = (λ e. told r fault (SameSigner q) e, λ is. twice r ok fault q is)

    pub foreign_is : (j : ℕ) → IsErrOf r (WrongInstance j) ↔ (IsApart c i cert × (first_foreign i cert ≡ Some j))
    foreign_is j = (λ e. told r fault (WrongInstance j) e, λ is. other r ok fault j is)

    pub bad_is : (q : ℕ) → IsErrOf r (BadCert q) ↔ (IsSound c i cert × (bad ≡ Some q))
    bad_is q = (λ e. told r fault (BadCert q) e, λ is. unfit r ok fault q is)

    pub unequal_is : IsErrOf r Unequal ↔ (IsFitting c i cert × (history_of c i cert ≡ None))
    unequal_is = (λ e. told r fault Unequal e, λ is. differ r ok fault is)

    pub memory_is : IsErrOf r OutOfMemory → IsSome (history_of c i cert)
    memory_is e = told r fault OutOfMemory e

  -- memory may be wanting where there is a history
  pub memory_cause : (r : Answer) → IsErrAnd r (λ e. e ≡ OutOfMemory) → IsSome (history_of c i cert) → IfErr r (λ e. CauseOf c i cert e)
  memory_cause (Ok h) a has = tt
  memory_cause (Err e) a has = subst (λ (y : CertFault). CauseOf c i cert y) (sym a) has

  unless_sound : (o : Option (List Request)) → history_of c i cert ≡ o → (IsFitting c i cert → ⊥) → o ≡ None
  unless_sound None is not = refl
  unless_sound (Some h) is not = absurd (not (history_sound c i cert h aborts is))

  -- a certificate that is refused, and not for want of memory, has no history
  pub cause_none : (e : CertFault) → CauseOf c i cert e → (e ≡ OutOfMemory → ⊥) → history_of c i cert ≡ None
  cause_none Count cause memory = unless_sound (history_of c i cert) refl (λ is. cause is.0.0.0)
  cause_none (SameSigner q) cause memory = unless_sound (history_of c i cert) refl (λ is. clash (first_repeat cert) q cause.1 is.0.0.1)
  cause_none (WrongInstance j) cause memory = unless_sound (history_of c i cert) refl (λ is. clash (first_foreign i cert) j cause.1 is.0.1)
  cause_none (BadCert q) cause memory = unless_sound (history_of c i cert) refl (λ is. clash bad q cause.1 is.1)
  cause_none Unequal cause memory = cause.1
  cause_none OutOfMemory cause memory = absurd (memory refl)
