use Rattle.ab_storm.proofs.running.storm_events.Goals as goal

pub returns-in-Ok-clause-ok : goal.returns-in-Ok-clause-ok
returns-in-Ok-clause-ok g c = (c.in-Ok.field-0.world, c.in-Ok.ensures.ok)
