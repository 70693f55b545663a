use Rattle.std.proofs.Common.{◌≡◌, ◌++◌, ◌∷◌, [], true, false, sym, ◌∙◌}
use Rattle.ab_trim.proofs.RestLemmas.{same_there, place_more}
use Rattle.ab_trim.proofs.rest.Rest.is_front_of.Goals as goal

pub returns-then-not-are_same : goal.returns-then-not-are_same
returns-then-not-are_same c = (
  λ t. absurd (cc (t)),
  λ whole.
      let same = same_there c.args.self.now.requests c.args.r.now.requests c.entries.k c.at.result.now c.at-in-entries.result.now c.at.ensures c.at-in-entries.ensures whole in
      let both : true ≡ false = sym (c.are_same.ensures.1 same) ∙ c.if-not-are_same.true in
      absurd (cc (both)),
)

pub entries-preserved : goal.entries-preserved
entries-preserved c =
    let same = c.are_same.ensures.0 c.if-not-are_same.false in
    (place_more c.args.r.now.requests c.entries.k c.at-in-entries.result.now c.at-in-entries.ensures).1
    ∙ (λ i. c.entries.invariant i ++ sym same i ∷ [])
    ∙ sym (place_more c.args.self.now.requests c.entries.k c.at.result.now c.at.ensures).1
