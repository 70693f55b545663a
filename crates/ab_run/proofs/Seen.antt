-- What is observed in a run is observed in the instance that it names, and each init history has its certificate.
use Rattle.std.proofs.Common.{◌≡◌, ℕ, ◌+◌, ◌≤◌, Bool, cond, None, List, [], ◌∷◌, sym, subst, inl, inr, arith}
use Rattle.std.specs.Prelude.{Contains, ◌==◌}
use Rattle.std.proofs.lemmas.Bool.{cases_Bool}
use Rattle.std.proofs.lemmas.List.Elements.{Contains-append_cases, Contains-append_right}
use Rattle.ab_num.specs.declared.cluster.Cluster.{Cluster}
use Rattle.ab_num.specs.declared.party.Party.{Party}
use Rattle.ab_num.specs.declared.party.Party.TheVariants.{Replica}
use Rattle.ab_num.proofs.Lists.{Contains-one, Contains-none}
use Rattle.ab_hist.specs.declared.request.Request.{Request}
use Rattle.ab_abs.specs.declared.seen.Seen.{Seen}
use Rattle.ab_abs.specs.declared.seen.Seen.TheVariants.{Init, Cert}
use Rattle.ab_abs.specs.Acts.{Act, Setting, State, setting, observations, start_of}
use Rattle.ab_abs.specs.Deeds.{InstanceAct, acts_in, seen_in}
use Rattle.ab_abs.specs.Instances.{EachInitHasCert}
use Rattle.ab_abs.specs.Rules.{IsOther, by_client, takes, aborts}
use Rattle.ab_abs.specs.Ensembles.{Proto, Ensemble, EnsembleEvent, begins, asked, accepts, panics, trims, other, enters, Reached, at_first, further, did, entry_of, trimmed_entry, begin_of, asked_of, halt_of}
use Rattle.ab_run.proofs.Did.{seen_more, seen_own}

-- what a replica that begins observes
start_observes : (x : Setting) (r : ℕ) (base : List Request) (s : State) (o : Seen) → Contains (start_of x r base s).observations o → o ≡ Init x.i r base
start_observes x r base s o has =
    elim (cases_Bool (x.i == 1)) [
      | inl one ↦ absurd (Contains-none o (subst (λ (b : Bool). Contains (cond b [] (Init x.i r base ∷ [])) o) one has))
      | inr more ↦ sym (Contains-one (Init x.i r base) o (subst (λ (b : Bool). Contains (cond b [] (Init x.i r base ∷ [])) o) more has))
    ]

-- a certificate is taken in its instance, by an act that is no call
other_cert : (x : Setting) (acts : List Act) (a : Act) (i : ℕ) (p : Party) (h : List Request) → IsOther x acts a → Contains a.observations (Cert i p h) → i ≡ x.i
other_cert x acts a i p h (by_client c own is) has = (is.takes i p h has).0
other_cert x acts a i p h (takes r claims g lt is valid) has =
    let e = Contains-one (Cert x.i (Replica r) g) (Cert i p h) (subst (λ (b : Act). Contains b.observations (Cert i p h)) is has) in sym (cc (e))
other_cert x acts a i p h (aborts r s lt here stopped is) has = absurd (Contains-none (Cert i p h) (subst (λ (b : Act). Contains b.observations (Cert i p h)) is has))

other_init : (x : Setting) (acts : List Act) (a : Act) (i r : ℕ) (h : List Request) → IsOther x acts a → Contains a.observations (Init i r h) → ⊥
other_init x acts a i r h (by_client c own is) has = is.enters i r h has
other_init x acts a i r h (takes q claims g lt is valid) has = let e = Contains-one (Cert x.i (Replica q) g) (Init i r h) (subst (λ (b : Act). Contains b.observations (Init i r h)) is has) in cc (e)
other_init x acts a i r h (aborts q s lt here stopped is) has = Contains-none (Init i r h) (subst (λ (b : Act). Contains b.observations (Init i r h)) is has)

module _ {P : Type 0} (proto : Proto P) (c : Cluster) (faulty : List Party) where
  abbrev IsHere : ℕ → Party → List Request → List InstanceAct → Type 0
  IsHere i p h run = Contains (seen_in run) (Cert i p h) → Contains (observations (acts_in i run)) (Cert i p h)

  more_here : (i : ℕ) (p : Party) (h : List Request) (j : ℕ) (a : Act) (run : List InstanceAct) → (Contains a.observations (Cert i p h) → i ≡ j) → IsHere i p h run → IsHere i p h (did j a run)
  more_here i p h j a run own was has =
      elim (Contains-append_cases a.observations (seen_in run) (Cert i p h) has) [
        | inl new ↦ subst (λ (n : ℕ). Contains (observations (acts_in n (did j a run))) (Cert i p h)) (sym (own new)) (seen_own j a run (Cert i p h) new)
        | inr old ↦ seen_more j a run i (Cert i p h) (was old)
      ]

  step_here : (w v : Ensemble P) (i : ℕ) (p : Party) (h : List Request) → EnsembleEvent proto c faulty w v → IsHere i p h w.run → IsHere i p h v.run
  step_here w v i p h (begins r lt good none) was =
      more_here i p h 1 (begin_of proto (setting c faulty 1) r (entry_of [] None)) w.run
      (λ has. let e = start_observes (setting c faulty 1) r [] (proto.state (proto.begin c 1 r (entry_of [] None))) (Cert i p h) has in absurd (cc (e))) was
  step_here w v i p h (asked r pen m lt good begun formed for settled) was =
      more_here i p h (w.at r) (asked_of proto (setting c faulty (w.at r)) r pen (w.value r) m []) w.run (λ has. absurd (Contains-none (Cert i p h) has)) was
  step_here w v i p h (accepts r j pen m g lt good one at_is formed for first_is rises took_it) was =
      more_here i p h (w.at r) (asked_of proto (setting c faulty (w.at r)) r pen (w.value r) m (Init (w.at r) r g ∷ [])) w.run (λ has. let e = Contains-one (Init (w.at r) r g) (Cert i p h) has in absurd (cc (e))) was
  step_here w v i p h (panics r lt good begun) was = more_here i p h (w.at r) (halt_of proto r (w.value r)) w.run (λ has. absurd (Contains-none (Cert i p h) has)) was
  step_here w v i p h (trims r n lt good begun low high) was = was
  step_here w v i p h (other j a one good is) was = more_here i p h j a w.run (λ has. other_cert (setting c faulty j) (acts_in j w.run) a i p h is has) was
  step_here w v i p h (enters r j n cert g lt good begun le fits rises took_it) was =
      more_here i p h (j + 1) (begin_of proto (setting c faulty (j + 1)) r (trimmed_entry g n cert)) w.run
      (λ has. let e = start_observes (setting c faulty (j + 1)) r g (proto.state (proto.begin c (j + 1) r (trimmed_entry g n cert))) (Cert i p h) has in absurd (cc (e))) was

  pub certs_here : (w : Ensemble P) (i : ℕ) (p : Party) (h : List Request) → Reached proto c faulty w → Contains (seen_in w.run) (Cert i p h) → Contains (observations (acts_in i w.run)) (Cert i p h)
  certs_here w i p h (at_first value base) has = absurd (Contains-none (Cert i p h) has)
  certs_here w i p h (further {w = u} before step) has = step_here u w i p h step (certs_here u i p h before) has

  more_entered : (j : ℕ) (a : Act) (run : List InstanceAct) → ((i r : ℕ) (h : List Request) → 1 ≤ i → Contains a.observations (Init (i + 1) r h) → Contains (seen_in run) (Cert i (Replica r) h)) → EachInitHasCert (seen_in run) → EachInitHasCert (seen_in (did j a run))
  more_entered j a run here was i r h one has =
      Contains-append_right a.observations (seen_in run) (Cert i (Replica r) h)
      (elim (Contains-append_cases a.observations (seen_in run) (Init (i + 1) r h) has) [ inl now ↦ here i r h one now | inr old ↦ was i r h one old ])

  step_entered : (w v : Ensemble P) → EnsembleEvent proto c faulty w v → EachInitHasCert (seen_in w.run) → EachInitHasCert (seen_in v.run)
  step_entered w v (begins r lt good none) was =
      more_entered 1 (begin_of proto (setting c faulty 1) r (entry_of [] None)) w.run
      (λ i q h one has. let e = start_observes (setting c faulty 1) r [] (proto.state (proto.begin c 1 r (entry_of [] None))) (Init (i + 1) q h) has in let e_i : i + 1 ≡ 1 = cc (e) in absurd (omega (arith, e_i, one))) was
  step_entered w v (asked r pen m lt good begun formed for settled) was =
      more_entered (w.at r) (asked_of proto (setting c faulty (w.at r)) r pen (w.value r) m []) w.run (λ i q h one has. absurd (Contains-none (Init (i + 1) q h) has)) was
  step_entered w v (accepts r j pen m g lt good one at_is formed for first_is rises took_it) was =
      more_entered (w.at r) (asked_of proto (setting c faulty (w.at r)) r pen (w.value r) m (Init (w.at r) r g ∷ [])) w.run
      (λ i q h one' has.
      let e = Contains-one (Init (w.at r) r g) (Init (i + 1) q h) has in
      let e_at : w.at r ≡ i + 1 = cc (e) in
      let e_r : r ≡ q = cc (e) in
      let e_h : g ≡ h = cc (e) in
      let e_j : j ≡ i = omega (arith, at_is, e_at) in
      subst (λ (n : ℕ). Contains (seen_in w.run) (Cert n (Replica q) h)) e_j (subst (λ (n : ℕ). Contains (seen_in w.run) (Cert j (Replica n) h)) e_r (subst (λ (l : List Request). Contains (seen_in w.run) (Cert j (Replica r) l)) e_h took_it))) was
  step_entered w v (panics r lt good begun) was = more_entered (w.at r) (halt_of proto r (w.value r)) w.run (λ i q h one has. absurd (Contains-none (Init (i + 1) q h) has)) was
  step_entered w v (trims r n lt good begun low high) was = was
  step_entered w v (other j a one good is) was = more_entered j a w.run (λ i q h one' has. absurd (other_init (setting c faulty j) (acts_in j w.run) a (i + 1) q h is has)) was
  step_entered w v (enters r j n cert g lt good begun le fits rises took_it) was =
      more_entered (j + 1) (begin_of proto (setting c faulty (j + 1)) r (trimmed_entry g n cert)) w.run
      (λ i q h one has.
      let e = start_observes (setting c faulty (j + 1)) r g (proto.state (proto.begin c (j + 1) r (trimmed_entry g n cert))) (Init (i + 1) q h) has in
      let e_at : i + 1 ≡ j + 1 = cc (e) in
      let e_r : r ≡ q = sym (cc (e)) in
      let e_h : g ≡ h = sym (cc (e)) in
      let e_j : j ≡ i = omega (arith, e_at) in
      subst (λ (n : ℕ). Contains (seen_in w.run) (Cert n (Replica q) h)) e_j (subst (λ (n : ℕ). Contains (seen_in w.run) (Cert j (Replica n) h)) e_r (subst (λ (l : List Request). Contains (seen_in w.run) (Cert j (Replica r) l)) e_h took_it))) was

  pub inits_certified : (w : Ensemble P) → Reached proto c faulty w → EachInitHasCert (seen_in w.run)
  inits_certified w (at_first value base) i r h one has = absurd (Contains-none (Init (i + 1) r h) has)
  inits_certified w (further {w = u} before step) i r h one has = step_entered u w step (inits_certified u before) i r h one has
