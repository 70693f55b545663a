-- What the timer of a replica counts, whatever the kind of its instance.
use Rattle.std.specs.Prelude.{ℕ, Option, None, if◌then◌else◌}
use Rattle.ab_order.specs.Backups.{Backing, is_done}
use Rattle.ab_pbft_rules.specs.Rules.{pbft}
use Rattle.ab_pbft_shelf.specs.Signing.{Signing, signing}
use Rattle.ab_pbft.specs.Events.{turns_of}
use Rattle.ab_plans.specs.ChoiceRules.{counted}
use Rattle.ab_replay.specs.Protocols.{Any}

-- a Backup over PBFT counts its turns until it is done
abbrev pub backup_counted : Backing Signing → Option ℕ
backup_counted q = if is_done q.k (pbft.base (signing.view q.order)) (pbft.ordered (signing.view q.order)) then None else turns_of q.order

-- no other kind has a timer
abbrev pub any_counted : Any → Option ℕ
any_counted = counted (λ q. None) (counted (λ q. None) (counted (λ q. None) (counted (λ q. None) backup_counted)))
