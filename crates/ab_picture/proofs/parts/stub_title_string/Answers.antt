use Rattle.ab_picture.proofs.parts.stub_title_string.Goals as goal

pub returns : goal.returns
returns c = c.format.ensures.ok
