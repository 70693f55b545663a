use Rattle.ab_loop.proofs.CrashLemmas.{keep_rose, kept_or_more}
use Rattle.ab_loop.proofs.keeping.keep_body.Goals as goal

pub returns-in-Err-Failed-clause-retains : goal.returns-in-Err-Failed-clause-retains
returns-in-Err-Failed-clause-retains g c = record {
  keeps = kept_or_more _ _ c.args.body.now c.in-Err-Failed.ensures.told c.in-Err-Failed.ensures.err;
  counted = (c.in-Err-Failed.ensures.cause.later, keep_rose _ _ _ c.in-Err-Failed.field-0-is c.in-Err-Failed.ensures.cause.failed);
}

pub returns-in-Err-OutOfMemory-clause-retains : goal.returns-in-Err-OutOfMemory-clause-retains
returns-in-Err-OutOfMemory-clause-retains g c = record {
  keeps = kept_or_more _ _ c.args.body.now c.in-Err-OutOfMemory.ensures.told c.in-Err-OutOfMemory.ensures.err;
  counted = (c.in-Err-OutOfMemory.ensures.cause.later, tt);
}
