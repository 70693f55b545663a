use Rattle.std.proofs.Common.{◌∙◌, ap, codes, refl, sym, List}
use Rattle.clap.specs.Words.{found_of}
use Rattle.ab_words.specs.Uses.{Use}
use Rattle.ab_words.specs.Values.{optional_of}
use Rattle.ab_words.proofs.Matched.{optional-found}
use Rattle.ab_words.proofs.uses.Uses.checkpoint.Goals as goal

pub returns : goal.returns
returns c =
    let found = optional-found (found_of c.self.inside.matches) (codes "checkpoint") c.get_str.result c.self.invariant refl c.get_str.ensures in
    ap (λ (us : List Use). optional_of (codes "checkpoint") us) (sym c.self.view_is) ∙ found
