-- What a service does with a history.
use Rattle.std.specs.Prelude.{◌≡◌, ℕ, List, fold, take, slice_get, Some}
use Rattle.arrayvec.specs.ArrayVec.{ArrayVec}
use Rattle.ab_hist.specs.declared.request.Request.{Request}

-- what a service answers
abbrev pub Reply : Type 0
Reply = ArrayVec ℕ

-- a service with the states S
pub record Machine (S : Type 0) : Type 0 where
  pub begin : S
  pub after : S → Request → S
  pub answer : S → Request → Reply

-- the state after the requests of h
abbrev pub serve : {S : Type 0} → Machine S → List Request → S
serve machine h = fold machine.after machine.begin h

-- m stands in h, and this is what the service answers to it there
pub record IsReply {S : Type 0} (machine : Machine S) (h : List Request) (m : Request) (reply : Reply) : Type 0 where
  pub before : ℕ
  pub stands : slice_get h before ≡ Some m
  pub reply_is : reply ≡ machine.answer (serve machine (take before h)) m
