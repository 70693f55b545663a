use Rattle.std.proofs.Common.{arith, rules}
use Rattle.std.proofs.lemmas.List.{length-drop, take_rest}
use Rattle.ab_replay.proofs.StreamLemmas.{appends_next}
use Rattle.ab_replay.proofs.stream.write_all.Goals as goal

pub writing-preserved : goal.writing-preserved
writing-preserved g c = record {
  added = appends_next _ _ _ c.args.bytes.now _ c.writing.done c.in-Ok.count (take_rest c.args.bytes.now c.writing.done) c.writing.invariant.added c.in-Ok.ensures.puts.adds;
  within = search (rules, length-drop);
  later = omega (arith, c.in-Ok.ensures.puts.later, c.writing.invariant.later);
}
