-- A service that executes a log, one request after the other.
use Rattle.std.proofs.Common.{◌≡◌, ℕ, ◌+◌, ◌-◌, ◌≤◌, Some, List, length, take, slice_get, refl, sym, ap, ◌∙◌, arith}
use Rattle.std.proofs.lemmas.List.Sums.{fold_push}
use Rattle.ab_hist.specs.declared.request.Request.{Request}
use Rattle.ab_svc.specs.Machines.{Machine, serve}
use Rattle.ab_abs.proofs.BookLemmas.{take_more}
use Rattle.ab_trial.specs.Trials.{HasServed}

module _ {S : Type 0} (machine : Machine S) where
  -- one request more of the log
  pub served_more : (log : List Request) (k : ℕ) (s t : S) (m : Request) → HasServed machine log k s → k + 1 ≤ length log → slice_get log (k + 1 - 1) ≡ Some m → t ≡ machine.after s m → HasServed machine log (k + 1) t
  served_more log k s t m was more is goes =
      let front = take_more log log k (k + 1) (k + 1 - 1) m refl refl (omega arith) is in record {
        within = more;
        reached = goes ∙ (ap (λ u. machine.after u m) was.reached ∙ (sym (fold_push machine.after machine.begin (take k log) m) ∙ ap (serve machine) (sym front)));
      }
