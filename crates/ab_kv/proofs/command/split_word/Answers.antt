use Rattle.std.proofs.Common.{◌+◌, sym, ap, ◌∙◌, take, Some, arith}
use Rattle.std.proofs.lemmas.List.{take_rest}
use Rattle.ab_kv.proofs.PartLemmas.{parts_there, parts_nowhere}
use Rattle.ab_kv.proofs.command.split_word.Goals as goal

pub returns-then-b-eq32 : goal.returns-then-b-eq32
returns-then-b-eq32 c =
    let bytes = c.args.bytes.now in
    ap (λ rest. Some (take c.loop-i.i bytes, rest)) (take_rest bytes (c.loop-i.i + 1))
    ∙ sym (parts_there bytes c.loop-i.i (omega arith) (omega arith) c.loop-i.invariant)

pub returns : goal.returns
returns c = sym (parts_nowhere c.args.bytes.now (λ k lt. c.loop-i.invariant k (omega arith)))
