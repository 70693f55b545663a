use Rattle.ab_picture.proofs.parts.number_string.Goals as goal

pub returns : goal.returns
returns c = c.format.ensures.ok
