-- The acts of a replica of one of two protocols are those of a replica of the one that runs the instance.
use Rattle.std.proofs.Common.{◌≡◌, ℕ, ◌<◌, ◌≤◌, Bool, true, false, ◌||◌, List, [], ◌∷◌, length, refl, sym, subst, inl, inr}
use Rattle.std.specs.Prelude.{IsTrue}
use Rattle.std.proofs.lemmas.Bool.{cases_Bool}
use Rattle.ab_num.specs.declared.plan.Kind.{Kind}
use Rattle.ab_num.specs.Places.{kind_of}
use Rattle.ab_abs.specs.declared.entry.Entry.{Entry}
use Rattle.ab_abs.specs.Acts.{Act, Setting, setting, start_of}
use Rattle.ab_abs.specs.Kinds.{kind_in}
use Rattle.ab_abs.specs.Ensembles.{Proto, MayTake, asked_of, halt_of}
use Rattle.ab_plans.specs.declared.choice.Choice.{Choice}
use Rattle.ab_plans.specs.declared.choice.Choice.TheVariants.{First, Second}
use Rattle.ab_plans.specs.ChoiceRules.{choice, either, begins as begins_by}
use Rattle.ab_promises.specs.ReplicaActs.{AreActsOf, begins, takes, stops, aborts, marks, trims, aborts_by, marks_by, ActsKeep}

module _ {P Q : Type 0} (p : Proto P) (q : Proto Q) (serves : Kind → Bool) where
  abbrev both : Proto (Choice P Q)
  both = choice p q serves

  -- the value is that of one of the two, whose replica acts so
  abbrev IsFirst : Setting → ℕ → List Act → Choice P Q → Type 0
  IsFirst x r acts v = (u : P) × (v ≡ First u) × AreActsOf p x r acts u

  abbrev IsSecond : Setting → ℕ → List Act → Choice P Q → Type 0
  IsSecond x r acts v = (u : Q) × (v ≡ Second u) × AreActsOf q x r acts u

  begun_at : Setting → ℕ → Entry → Bool → Choice P Q
  begun_at x r e b = begins_by p q b x.cluster x.i r e

  first_acts : (x : Setting) (r : ℕ) (acts : List Act) (v : Choice P Q) → serves (kind_in x) ≡ true → AreActsOf both x r acts v → IsFirst x r acts v
  first_acts x r _ _ first (begins e fits may) =
      subst (λ (b : Bool). IsFirst x r (start_of x r e.base (both.state (begins_by p q b x.cluster x.i r e)) ∷ []) (begins_by p q b x.cluster x.i r e)) (sym first) (p.begin x.cluster x.i r e, refl, begins e fits may)
  first_acts x r _ _ first (takes {acts} {p = v} pen call seen before may) =
      let was = first_acts x r acts v first before in
      let next : MayTake both x acts r pen (First was.0) call seen → IsFirst x r (asked_of both x r pen (First was.0) call seen ∷ acts) (both.after pen (First was.0) call) =
      λ so. (p.after pen was.0 call, refl, takes pen call seen was.2 (record { formed = so.formed; for = so.for; noted = so.noted; settled = so.settled })) in
      subst (λ (z : Choice P Q). MayTake both x acts r pen z call seen → IsFirst x r (asked_of both x r pen z call seen ∷ acts) (both.after pen z call)) (sym was.1) next may
  first_acts x r _ _ first (stops {acts} {p = v} before) =
      let was = first_acts x r acts v first before in
      let next : IsFirst x r (halt_of both r (First was.0) ∷ acts) (both.halt (First was.0)) = (p.halt was.0, refl, stops was.2) in
      subst (λ (z : Choice P Q). IsFirst x r (halt_of both r z ∷ acts) (both.halt z)) (sym was.1) next
  first_acts x r _ _ first (aborts {acts} {p = v} before stopped) =
      let was = first_acts x r acts v first before in
      let next : (both.state (First was.0)).stopped ≡ true → IsFirst x r (aborts_by both x r (First was.0) ∷ acts) (First was.0) = λ is. (was.0, refl, aborts was.2 is) in
      subst (λ (z : Choice P Q). (both.state z).stopped ≡ true → IsFirst x r (aborts_by both x r z ∷ acts) z) (sym was.1) next stopped
  first_acts x r _ _ first (marks {acts} {p = v} n before runs more within) =
      let was = first_acts x r acts v first before in
      let next : (both.state (First was.0)).stopped ≡ false → both.trimmed (First was.0) < n → n ≤ length (both.state (First was.0)).log → IsFirst x r (marks_by both x r n (First was.0) ∷ acts) (First was.0) =
      λ is low high. (was.0, refl, marks n was.2 is low high) in
      subst (λ (z : Choice P Q). (both.state z).stopped ≡ false → both.trimmed z < n → n ≤ length (both.state z).log → IsFirst x r (marks_by both x r n z ∷ acts) z) (sym was.1) next runs more within
  first_acts x r _ _ first (trims {acts} {p = v} n before runs more within) =
      let was = first_acts x r acts v first before in
      let next : (both.state (First was.0)).stopped ≡ false → both.trimmed (First was.0) ≤ n → n ≤ length (both.state (First was.0)).log → IsFirst x r acts (both.trim n (First was.0)) =
      λ is low high. (p.trim n was.0, refl, trims n was.2 is low high) in
      subst (λ (z : Choice P Q). (both.state z).stopped ≡ false → both.trimmed z ≤ n → n ≤ length (both.state z).log → IsFirst x r acts (both.trim n z)) (sym was.1) next runs more within

  second_acts : (x : Setting) (r : ℕ) (acts : List Act) (v : Choice P Q) → serves (kind_in x) ≡ false → AreActsOf both x r acts v → IsSecond x r acts v
  second_acts x r _ _ second (begins e fits may) =
      subst (λ (b : Bool). IsSecond x r (start_of x r e.base (both.state (begins_by p q b x.cluster x.i r e)) ∷ []) (begins_by p q b x.cluster x.i r e)) (sym second) (q.begin x.cluster x.i r e, refl, begins e fits may)
  second_acts x r _ _ second (takes {acts} {p = v} pen call seen before may) =
      let was = second_acts x r acts v second before in
      let next : MayTake both x acts r pen (Second was.0) call seen → IsSecond x r (asked_of both x r pen (Second was.0) call seen ∷ acts) (both.after pen (Second was.0) call) =
      λ so. (q.after pen was.0 call, refl, takes pen call seen was.2 (record { formed = so.formed; for = so.for; noted = so.noted; settled = so.settled })) in
      subst (λ (z : Choice P Q). MayTake both x acts r pen z call seen → IsSecond x r (asked_of both x r pen z call seen ∷ acts) (both.after pen z call)) (sym was.1) next may
  second_acts x r _ _ second (stops {acts} {p = v} before) =
      let was = second_acts x r acts v second before in
      let next : IsSecond x r (halt_of both r (Second was.0) ∷ acts) (both.halt (Second was.0)) = (q.halt was.0, refl, stops was.2) in
      subst (λ (z : Choice P Q). IsSecond x r (halt_of both r z ∷ acts) (both.halt z)) (sym was.1) next
  second_acts x r _ _ second (aborts {acts} {p = v} before stopped) =
      let was = second_acts x r acts v second before in
      let next : (both.state (Second was.0)).stopped ≡ true → IsSecond x r (aborts_by both x r (Second was.0) ∷ acts) (Second was.0) = λ is. (was.0, refl, aborts was.2 is) in
      subst (λ (z : Choice P Q). (both.state z).stopped ≡ true → IsSecond x r (aborts_by both x r z ∷ acts) z) (sym was.1) next stopped
  second_acts x r _ _ second (marks {acts} {p = v} n before runs more within) =
      let was = second_acts x r acts v second before in
      let next : (both.state (Second was.0)).stopped ≡ false → both.trimmed (Second was.0) < n → n ≤ length (both.state (Second was.0)).log → IsSecond x r (marks_by both x r n (Second was.0) ∷ acts) (Second was.0) =
      λ is low high. (was.0, refl, marks n was.2 is low high) in
      subst (λ (z : Choice P Q). (both.state z).stopped ≡ false → both.trimmed z < n → n ≤ length (both.state z).log → IsSecond x r (marks_by both x r n z ∷ acts) z) (sym was.1) next runs more within
  second_acts x r _ _ second (trims {acts} {p = v} n before runs more within) =
      let was = second_acts x r acts v second before in
      let next : (both.state (Second was.0)).stopped ≡ false → both.trimmed (Second was.0) ≤ n → n ≤ length (both.state (Second was.0)).log → IsSecond x r acts (both.trim n (Second was.0)) =
      λ is low high. (q.trim n was.0, refl, trims n was.2 is low high) in
      subst (λ (z : Choice P Q). (both.state z).stopped ≡ false → both.trimmed z ≤ n → n ≤ length (both.state z).log → IsSecond x r acts (both.trim n z)) (sym was.1) next runs more within

  pub choice_keeps : (serves_q : Kind → Bool) (Promise : ℕ → ℕ → List Act → Type 0) → ActsKeep p serves Promise → ActsKeep q serves_q Promise → ActsKeep both (either serves serves_q) Promise
  choice_keeps serves_q Promise one two c i r acts v served at are =
      elim (cases_Bool (serves (kind_of c.plan i))) [
        | inl first ↦
            let its = first_acts (setting c [] i) r acts v first are in
            one c i r acts its.0 first at its.2
        | inr second ↦
            let its = second_acts (setting c [] i) r acts v second are in
            two c i r acts its.0 (subst (λ (b : Bool). IsTrue (b || serves_q (kind_of c.plan i))) second served) at its.2
      ]
