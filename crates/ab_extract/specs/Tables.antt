-- Lists, each beside how far it agrees with those before it.
use Rattle.std.specs.Prelude.{◌≡◌, ℕ, List, [], map, take, get_or, slice_get, Some}
use Rattle.ab_hist.specs.declared.request.Request.{Request}
use Rattle.ab_extract.specs.declared.table.Branch.{Branch}
use Rattle.ab_extract.specs.Walks.{common_of}

abbrev pub lists_of : List Branch → List (List Request)
lists_of branches = map (λ b. b.list) branches

abbrev pub list_at : List Branch → ℕ → List Request
list_at branches i = get_or (lists_of branches) i []

-- each number says how far its list agrees with that of its place
pub record IsTable (branches : List Branch) : Type 0 where
  pub each : (n : ℕ) (b : Branch) → slice_get branches n ≡ Some b → b.shared.items ≡ map (λ x. common_of b.list x.list) (take n branches)
