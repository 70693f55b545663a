use Rattle.ab_wire.specs.Views.{aborts}
use Rattle.ab_extract.proofs.CauseLemmas.{count_is, signer_is, foreign_is, bad_is, unequal_is, memory_is}
use Rattle.ab_extract.proofs.view.check_view.Goals as goal

pub returns-clause-count : goal.returns-clause-count
returns-clause-count c = count_is c.args.c.now c.args.i (aborts c.args.cert.now) c.requires.aborts c.history_in.result c.history_in.ensures.ok c.history_in.ensures.fault

pub returns-clause-signer : goal.returns-clause-signer
returns-clause-signer c = signer_is c.args.c.now c.args.i (aborts c.args.cert.now) c.requires.aborts c.history_in.result c.history_in.ensures.ok c.history_in.ensures.fault

pub returns-clause-foreign : goal.returns-clause-foreign
returns-clause-foreign c = foreign_is c.args.c.now c.args.i (aborts c.args.cert.now) c.requires.aborts c.history_in.result c.history_in.ensures.ok c.history_in.ensures.fault

pub returns-clause-bad : goal.returns-clause-bad
returns-clause-bad c = bad_is c.args.c.now c.args.i (aborts c.args.cert.now) c.requires.aborts c.history_in.result c.history_in.ensures.ok c.history_in.ensures.fault

pub returns-clause-unequal : goal.returns-clause-unequal
returns-clause-unequal c = unequal_is c.args.c.now c.args.i (aborts c.args.cert.now) c.requires.aborts c.history_in.result c.history_in.ensures.ok c.history_in.ensures.fault

pub returns-clause-memory : goal.returns-clause-memory
returns-clause-memory c = memory_is c.args.c.now c.args.i (aborts c.args.cert.now) c.requires.aborts c.history_in.result c.history_in.ensures.ok c.history_in.ensures.fault
