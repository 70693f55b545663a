-- A slot of a VIEW-CHANGE.
use Rattle.std.specs.Prelude.{ℕ, ◌+◌, ◌*◌, ◌&&◌, nat_lt, if◌then◌else◌, Option, None, Some, List}
use Rattle.std.specs.List.{list_all}
use Rattle.ab_msg.specs.declared.value.Value.{Value}
use Rattle.ab_order.specs.Inputs.{ProvedSlot}
use Rattle.ab_order.specs.Readings.{is_of_slot, proved_slot}

-- slot t, if its signers are of the cluster, and its value is one of it
abbrev pub slot_of : ℕ → ℕ → ℕ × List ℕ → Value → List (ℕ × List ℕ) → Option ProvedSlot
slot_of f t e v by = if list_all (λ s. nat_lt s.0 (3 * f + 1)) by && is_of_slot t v then Some (proved_slot e v by) else None
