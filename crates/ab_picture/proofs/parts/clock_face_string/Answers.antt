use Rattle.ab_picture.proofs.parts.clock_face_string.Goals as goal

pub returns : goal.returns
returns c = c.format.ensures.ok
