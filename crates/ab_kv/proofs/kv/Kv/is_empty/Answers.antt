use Rattle.std.proofs.Common.{ap, sym, ◌∙◌, ℕ, List}
use Rattle.std.specs.Ordering.{nat_cmp}
use Rattle.std.specs.Cmp.Lexicographic.{slice_cmp}
use Rattle.std.specs.FinMap.{len, empty_of_len, len-empty}
use Rattle.std.proofs.lemmas.Bool.Decides.{Decides-eqb}
use Rattle.ab_kv.proofs.kv.Kv.is_empty.Goals as goal

pub returns : goal.returns
returns c = (
  λ none. empty_of_len c.args.self.now (sym c.len.ensures.len ∙ (Decides-eqb c.len.result 0).0 none),
  λ e. (Decides-eqb c.len.result 0).1 (c.len.ensures.len ∙ ap len e ∙ len-empty (slice_cmp nat_cmp) (List ℕ)),
)
