use Rattle.ab_trim.proofs.Stands.{grounds}
use Rattle.ab_trim.proofs.lists.grounded_lists_are_whole.Goals as goal

pub returns : goal.returns
returns c = λ ls own t b mine h apart of_mine of_h own_is t_is is.
    let g = grounds ls apart own t mine h of_mine of_h own_is t_is b is in
    (g.stands, g.told, g.own_first, g.offered_first)
