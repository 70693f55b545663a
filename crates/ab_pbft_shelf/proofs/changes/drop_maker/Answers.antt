use Rattle.std.proofs.Common.{rules}
use Rattle.std.proofs.lemmas.Fn.{filter_same}
use Rattle.ab_pbft_shelf.proofs.changes.drop_maker.Goals as goal

pub returns : goal.returns
returns c = filter_same _ _ _ (λ p b f' k. search rules) _ _ c.retain.ensures.filtered
