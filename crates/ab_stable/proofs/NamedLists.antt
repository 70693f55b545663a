-- The whole of a list by the number and the digest of what it has forgotten.
use Rattle.std.proofs.Common.{◌≡◌, ℕ, ◌<◌, false, None, List, [], ◌++◌, take, ap, ◌∙◌, inl, inr}
use Rattle.std.specs.Prelude.{unwrap_or}
use Rattle.ab_num.specs.declared.party.Party.{Party}
use Rattle.ab_num.specs.declared.party.Party.TheVariants.{Replica}
use Rattle.ab_hist.specs.declared.request.Request.{Request}
use Rattle.ab_abs.specs.Acts.{State}
use Rattle.ab_abs.specs.Faults.{is_faulty}
use Rattle.ab_abs.specs.Observations.{history_at, longest}
use Rattle.ab_abs.proofs.Fronts.{named_front, front_is}
use Rattle.ab_hist.specs.Trimmed.{Trimmed, StandsFor, untrimmed}
use Rattle.ab_trim.specs.Links.{AreApart, IsAmong}
use Rattle.ab_stable.specs.Stable.{HasFront}
use Rattle.ab_stable.specs.Wholes.{Place, own_list, whole_first, next_state, whole_of}
use Rattle.ab_trim.proofs.Stands.{told_by}

pub named : (links : List (List ℕ × Request)) (faulty : List Party) (logs : ℕ → List Request) (replicas r : ℕ) (t : Trimmed) (h : List Request)
    → AreApart links → IsAmong links h → ((q : ℕ) → q < replicas → is_faulty faulty (Replica q) ≡ false → IsAmong links (logs q))
    → StandsFor t h → r < replicas → is_faulty faulty (Replica r) ≡ false → HasFront (logs r) t.start t.digest → whole_of (history_at faulty replicas logs) t ≡ h
named links faulty logs replicas r t h apart of_h of_logs stands lt good has =
    let f = named_front faulty logs t.start t.digest replicas r lt good has.reaches has.digest in
    ap (λ (x : List Request). x ++ t.rest) f.front_is ∙ (told_by links apart t h (logs f.r) of_h (of_logs f.r f.within f.correct) stands f.digest).1

named_nothing : (faulty : List Party) (logs : ℕ → List Request) (replicas : ℕ) (d : List ℕ) → history_at faulty replicas logs 0 d ≡ []
named_nothing faulty logs replicas d =
    elim (front_is faulty logs 0 d replicas) [
      | inl none ↦ ap (λ o. unwrap_or o (take 0 (longest faulty logs replicas))) none
      | inr some ↦ ap (λ o. unwrap_or o (take 0 (longest faulty logs replicas))) some.1 ∙ some.2.front_is
    ]

pub nothing_forgotten : (faulty : List Party) (logs : ℕ → List Request) (replicas : ℕ) (h : List Request) → whole_of (history_at faulty replicas logs) (untrimmed h) ≡ h
nothing_forgotten faulty logs replicas h = ap (λ (x : List Request). x ++ h) (named_nothing faulty logs replicas (untrimmed h).digest)

pub same_place : (old : State) (p : Place) → p.log.start ≡ 0 → p.first ≡ None → next_state old p ≡ record { entered = old.entered; base = take p.base p.log.rest; log = p.log.rest; stopped = p.stopped; first = None; zcert = p.zcert }
same_place old p none no_first =
    let log_is : take p.log.start (own_list old) ++ p.log.rest ≡ p.log.rest = ap (λ n. take n (own_list old) ++ p.log.rest) none in
    λ i. record { entered = old.entered; base = take p.base (log_is i); log = log_is i; stopped = p.stopped; first = whole_first (own_list old) (no_first i); zcert = p.zcert }
