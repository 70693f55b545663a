use Rattle.std.proofs.Common.{arith}
use Rattle.ab_open.proofs.ReadLemmas.{spelled, all-read, received}
use Rattle.ab_open.proofs.reading.read.Goals as goal

pub returns : goal.returns
returns c = record {
  exact = c.message_of.ensures.exact;
  spelled = spelled c.args.bytes.now _ (λ i. omega (arith, c.type_inv.bytes i)) c.message_of.ensures.exact;
  all = all-read c.args.bytes.now _ c.message_of.ensures.exact;
  received = received c.args.bytes.now _ (λ i. omega (arith, c.type_inv.bytes i)) c.message_of.ensures.exact c.message_of.ensures.kept;
}
