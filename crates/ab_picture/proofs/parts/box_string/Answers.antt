use Rattle.ab_picture.proofs.parts.box_string.Goals as goal

pub returns : goal.returns
returns c = c.format.ensures.ok
