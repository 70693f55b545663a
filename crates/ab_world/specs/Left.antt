-- The logs that replicas left.
use Rattle.std.specs.Prelude.{◌≡◌, ℕ, ◌==◌, ◌&&◌, if◌then◌else◌, Bool, is_some, Option, None, Some, List, [], ◌∷◌, ◌++◌, fold, slice_get}
use Rattle.std.specs.Option.{option_map}
use Rattle.ab_hist.specs.declared.request.Request.{Request}
use Rattle.ab_msg.specs.declared.message.Msg.{Msg}
use Rattle.ab_abs.specs.Ensembles.{Proto}
use Rattle.ab_abs.specs.Messages.{took}
use Rattle.ab_run.specs.Local.{Cue, cue_command, cue_message, cue_time, rep_after}
use Rattle.ab_run.specs.Replicas.{Rep, brought}
use Rattle.ab_replica.specs.Sites.{Site}
use Rattle.ab_cast.specs.declared.place.Place.{Place}
use Rattle.ab_cast.specs.declared.place.Place.TheVariants as place
use Rattle.ab_cast.specs.Setups.{Setup, run_setup}
use Rattle.ab_cast.specs.Cores.{Core, replica, client}
use Rattle.ab_cast.specs.Casts.{Cast}
use Rattle.ab_world.specs.declared.left.LeftLog.{LeftLog}

-- the last of these logs that replica r left in instance i
abbrev pub pick_left : ℕ → ℕ → Option (List Request) → LeftLog → Option (List Request)
pick_left i r before l = if (r == l.replica) && (i == l.instance) then Some l.log else before

abbrev pub last_left : List LeftLog → ℕ → ℕ → Option (List Request)
last_left left i r = fold (pick_left i r) None left

-- whether a message brings a certificate. By no other does a replica enter an instance
abbrev pub brings : Msg → Bool
brings m = is_some (brought m)

module _ {P : Type 0} (proto : Proto P) where
  -- the log of replica r, which is where s says
  abbrev pub log_at : ℕ → Rep P → LeftLog
  log_at r s = record { instance = s.at; replica = r; log = (proto.state s.value).log }

  -- with the log that replica r leaves as it goes from s to now, if that is another instance
  abbrev pub left_by : ℕ → Rep P → Rep P → List LeftLog → List LeftLog
  left_by r s now left = if s.at == now.at then left else left ++ log_at r s ∷ []

  -- the log that an own replica may leave by a message
  abbrev pub may_leave : Cast P → Place → Msg → Option LeftLog
  may_leave x (place.Replica r) m = if brings m then option_map (λ s. log_at r s.rep) (slice_get x.replicas r) else None
  may_leave x (place.Client c) m = None
  may_leave x (place.ReplicaTwin r at) m = None
  may_leave x (place.ClientTwin c at) m = None

  module _ (x : Setup) where
    -- with the log that an own replica leaves by what comes to it
    abbrev pub left_own : ℕ → Core P → Msg → List LeftLog → List LeftLog
    left_own r (replica s) m left = left_by r s.rep (rep_after (run_setup x) proto r s.rep (took m)) left
    left_own r (client s) m left = left

    abbrev pub left_at : Place → Core P → Msg → List LeftLog → List LeftLog
    left_at (place.Replica r) s m left = left_own r s m left
    left_at (place.Client c) s m left = left
    left_at (place.ReplicaTwin r at) s m left = left
    left_at (place.ClientTwin c at) s m left = left

    abbrev pub left_in : Place → Core P → Cue → List LeftLog → List LeftLog
    left_in at s (cue_command bytes) left = left
    left_in at s (cue_message m) left = left_at at s m left
    left_in at s cue_time left = left

-- a log that may have been left is kept behind the others if its replica is in another instance now
module _ {P : Type 0} where
  abbrev pub KeepsLeft : Cast P → Option LeftLog → List LeftLog → List LeftLog → Type 0
  KeepsLeft x None old new = new ≡ old
  KeepsLeft x (Some l) old new = (s : Site P) → slice_get x.replicas l.replica ≡ Some s → new ≡ (if l.instance == s.rep.at then old else old ++ l ∷ [])

-- the log that a replica has where it is, or had in an instance that it left
abbrev pub log_where : {P : Type 0} → Proto P → List LeftLog → ℕ → ℕ → Option (Site P) → Option (List Request)
log_where proto left i r None = None
log_where proto left i r (Some s) = if i == s.rep.at then Some (proto.state s.rep.value).log else last_left left i r
