-- What others hear of, of what the rules say that a replica does.
use Rattle.std.specs.Prelude.{ℕ, Option, Some, None, List, [], ◌∷◌, length, map, flat_map, pred, slice_get}
use Rattle.ab_msg.specs.declared.value.Value.{Value}
use Rattle.ab_lock.specs.Steps.{accepts, signs, prepares, changes, enters, executes}
use Rattle.ab_pbft_rules.specs.Traces.{pair_of}
use Rattle.ab_pbft_rules.specs.Rules.{Doing, takes_step, offers, leads}
use Rattle.ab_slots.specs.declared.notice.Notice.{Notice}
use Rattle.ab_slots.specs.declared.notice.Notice.TheVariants.{Signs, Prepares, Changes, Enters, Offers, Leads}

abbrev pub prepared_in : ℕ → ℕ → Option Value → List Notice
prepared_in v n None = []
prepared_in v n (Some value) = Prepares v n value ∷ []

-- the last of the slots that are prepared then is the one that becomes so
abbrev pub deeds_of : Doing → List Notice
deeds_of (takes_step (accepts n value)) = []
deeds_of (takes_step (signs v n x)) = Signs v n x ∷ []
deeds_of (takes_step (prepares v h)) = prepared_in v (pred (length h)) (slice_get h (pred (length h)))
deeds_of (takes_step (changes w entries)) = Changes w (map pair_of entries) ∷ []
deeds_of (takes_step (enters w proofs chosen)) = Enters w ∷ []
deeds_of (takes_step (executes v n value)) = []
deeds_of (offers v n value) = Offers v n value ∷ []
deeds_of (leads v) = Leads v ∷ []

abbrev pub told_in : List Doing → List Notice
told_in doings = flat_map deeds_of doings
