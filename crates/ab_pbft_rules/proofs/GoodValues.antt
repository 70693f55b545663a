-- What holds of all values that a replica accepts by themselves or finds in VIEW-CHANGEs holds of all that it accepts, prepares and executes.
use Rattle.std.proofs.Common.{◌≡◌, ℕ, suc, Some, List, [], ◌∷◌, take, slice_get, sym, ap, ◌∙◌, subst, inl, inr}
use Rattle.std.specs.Prelude.{Contains}
use Rattle.std.proofs.lemmas.Option.{none-some}
use Rattle.ab_num.proofs.Lists.{Contains-head, Contains-tail, Contains-cons_cases, Contains-none}
use Rattle.ab_msg.specs.declared.value.Value.{Value}
use Rattle.ab_msg.specs.Slots.{slot_digest}
use Rattle.ab_abs.specs.Values.{goes}
use Rattle.ab_lock.specs.Steps.{Change, Cert, accepts, signs, prepares, changes, enters, executes, cert_at, state_of, Can, Follows}
use Rattle.ab_lock.proofs.Lists.{nth_grown, nth_front}
use Rattle.ab_lock.proofs.ViewChangeLemmas.{cert_prepared}
use Rattle.ab_pbft_rules.specs.Traces.{OrderStep}

module _ (k : ℕ) (Good : ℕ → Value → Type 0) where
  abbrev GoodAccepts : List OrderStep → Type 0
  GoodAccepts steps = (n : ℕ) (value : Value) → Contains steps (accepts n value) → Good n value

  abbrev GoodEnters : List OrderStep → Type 0
  GoodEnters steps = (w : ℕ) (vcs : List (Change Value)) (chosen : List Value) (c : Change Value) (t : ℕ) (cert : Cert Value) → Contains steps (enters w vcs chosen) → Contains vcs c → slice_get c.certs t ≡ Some cert → Good t cert.value

  fewer_accepts : (step : OrderStep) (steps : List OrderStep) → GoodAccepts (step ∷ steps) → GoodAccepts steps
  fewer_accepts step steps by n value has = by n value (Contains-tail step (accepts n value) steps has)

  fewer_enters : (step : OrderStep) (steps : List OrderStep) → GoodEnters (step ∷ steps) → GoodEnters steps
  fewer_enters step steps choice w vcs chosen c t cert has = choice w vcs chosen c t cert (Contains-tail step (enters w vcs chosen) steps has)

  good_accepted : (steps : List OrderStep) → Follows slot_digest goes k steps → GoodAccepts steps → GoodEnters steps → (t : ℕ) (value : Value) → slice_get (state_of steps).accepted t ≡ Some value → Good t value
  good_accepted [] follows by choice t value is = absurd (none-some value is)
  good_accepted (accepts n other ∷ steps) follows by choice t value is =
      elim (nth_grown (state_of steps).accepted other t value is) [
        | inl old ↦ good_accepted steps follows.1 (fewer_accepts _ steps by) (fewer_enters _ steps choice) t value old.1
        | inr new ↦
            let place : n ≡ t = follows.0.3 ∙ sym new.0 in
            subst (λ (z : Value). Good t z) (sym new.1) (subst (λ (j : ℕ). Good j other) place (by n other (Contains-head _ steps)))
      ]
  good_accepted (signs v n d ∷ steps) follows by choice t value is = good_accepted steps follows.1 (fewer_accepts _ steps by) (fewer_enters _ steps choice) t value is
  good_accepted (prepares v h ∷ steps) follows by choice t value is = good_accepted steps follows.1 (fewer_accepts _ steps by) (fewer_enters _ steps choice) t value is
  good_accepted (changes w entries ∷ steps) follows by choice t value is = absurd (none-some value is)
  good_accepted (enters w vcs chosen ∷ steps) follows by choice t value is =
      let b = follows.0.1.best t value is in
      subst (λ (z : Value). Good t z) b.value_is (choice w vcs chosen b.change t b.cert (Contains-head _ steps) b.is_in b.stands)
  good_accepted (executes v n other ∷ steps) follows by choice t value is = good_accepted steps follows.1 (fewer_accepts _ steps by) (fewer_enters _ steps choice) t value is

  pub good_prepared : (steps : List OrderStep) → Follows slot_digest goes k steps → GoodAccepts steps → GoodEnters steps → (v : ℕ) (h : List Value) → Contains steps (prepares v h) → (t : ℕ) (value : Value) → slice_get h t ≡ Some value → Good t value
  good_prepared [] follows by choice v h has t value is = absurd (Contains-none _ has)
  good_prepared (step ∷ steps) follows by choice v h has t value is =
      elim (Contains-cons_cases step steps (prepares v h) has) [
        | inl e ↦
            let can = subst (λ (z : OrderStep). Can slot_digest goes k (state_of steps) z) e follows.0 in
            let there : slice_get (take (suc (state_of steps).prepared) (state_of steps).accepted) t ≡ Some value = ap (λ l. slice_get l t) (sym can.2) ∙ is in
            good_accepted steps follows.1 (fewer_accepts step steps by) (fewer_enters step steps choice) t value (nth_front (suc (state_of steps).prepared) (state_of steps).accepted t value there)
        | inr more ↦ good_prepared steps follows.1 (fewer_accepts step steps by) (fewer_enters step steps choice) v h more t value is
      ]

  pub good_executed : (steps : List OrderStep) → Follows slot_digest goes k steps → GoodAccepts steps → GoodEnters steps → (v t : ℕ) (value : Value) → Contains steps (executes v t value) → Good t value
  good_executed [] follows by choice v t value has = absurd (Contains-none _ has)
  good_executed (step ∷ steps) follows by choice v t value has =
      elim (Contains-cons_cases step steps (executes v t value) has) [
        | inl e ↦
            let can = subst (λ (z : OrderStep). Can slot_digest goes k (state_of steps) z) e follows.0 in
            good_accepted steps follows.1 (fewer_accepts step steps by) (fewer_enters step steps choice) t value can.3
        | inr more ↦ good_executed steps follows.1 (fewer_accepts step steps by) (fewer_enters step steps choice) v t value more
      ]

  -- and of all that have certificates
  pub good_certs : (steps : List OrderStep) → Follows slot_digest goes k steps → GoodAccepts steps → GoodEnters steps → (t : ℕ) (c : Cert Value) → cert_at (state_of steps).certs t ≡ Some c → Good t c.value
  good_certs steps follows by choice t c is =
      let p = cert_prepared slot_digest goes k steps t c is in
      good_prepared steps follows by choice c.at p.values p.is_in t c.value p.there
