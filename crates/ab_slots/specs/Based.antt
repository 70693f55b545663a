-- Values of slots that begin with a base.
use Rattle.std.specs.Prelude.{◌≡◌, ◌≤◌, Bool, true, false, List, [], ◌∷◌, length}
use Rattle.ab_hist.specs.declared.request.Request.{Request}
use Rattle.ab_msg.specs.declared.value.Value.{Value}
use Rattle.ab_msg.specs.declared.value.Value.TheVariants.{Base, Request as Order}
use Rattle.ab_abs.specs.Values.{list_of}

abbrev pub is_based : List Value → Bool
is_based [] = true
is_based (Base h ∷ values) = true
is_based (Order m ∷ values) = false

-- few values that begin with a base if there are any, with their list
pub record AreSlots (values : List Value) (list : List Request) : Type 0 where
  pub based : is_based values ≡ true
  pub few : length values ≤ 256
  pub listed : list ≡ list_of values
