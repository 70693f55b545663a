use Rattle.ab_msg.specs.Contents.{spell_content}
use Rattle.ab_cast.specs.Setups.{run_setup}
use Rattle.ab_world.specs.Worlds.{opener}
use Rattle.ab_world.proofs.TellLemmas.{ends_there, keeps, tells_seen}
use Rattle.ab_world.proofs.laws.runs_are_told.Goals as goal

pub returns : goal.returns
returns g c = λ x es end serves out.
    let proto = g.P.Protocol.proto in
    let shown = c.stage_shows_the_run.ensures (run_setup x) proto spell_content (opener x) in
    record {
      seen = tells_seen proto x shown es end.lines (c.worlds_are_runs.ensures.lines x es end out);
      logs = λ r s good there. ends_there proto x shown es end r s (c.worlds_are_runs.ensures.stage x es end out) (c.worlds_are_runs.ensures.logs x es end out r s good there) there;
      exact = c.premise_is_exact.ensures x es end serves out;
      promises = λ holds. keeps proto x shown g.S.Service.machine es (c.worlds_keep_promises.ensures.shown x es end serves out holds) (c.worlds_keep_promises.ensures.ordered x es end serves out holds) (c.worlds_keep_promises.ensures.instances x es end serves out holds);
    }
