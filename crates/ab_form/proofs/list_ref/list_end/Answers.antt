use Rattle.std.proofs.Common.{arith, refl, ◌+◌, ◌-◌}
use native.Mathlib.Numerals.{unary_clauses}
use Rattle.std.proofs.lemmas.Result.{err_from_is_err_and}
use Rattle.ab_form.proofs.LoopLemmas.{starts, fails, goes_on, ends}
use Rattle.ab_form.proofs.list_ref.list_end.Goals as goal

pub returns-in_err-behind : goal.returns-in_err-behind
returns-in_err-behind g c =
    let p = err_from_is_err_and c.from_residual.result c.from_residual.ensures.1 in
    rw (p.1, p.2) (fails (λ (_ : Unit {0}). g.P.Part.reader) (λ s _. s) _ _ (c.args.count - (c.parts.counter + 1)) _ _ _ (omega arith) c.in_err-behind.ensures.exact c.parts.invariant)

pub parts-preserved : goal.parts-preserved
parts-preserved g c =
    goes_on (λ (_ : Unit {0}). g.P.Part.reader) (λ s _. s) _ _ _ _ _ _ _ _ (omega arith) c.in_ok-behind.ensures.exact refl c.parts.invariant

pub returns : goal.returns
returns g c = ends (λ (_ : Unit {0}). g.P.Part.reader) (λ s _. s) g.P.Part.reader _ _ _ _ _ _ (λ s bytes a e. e) (omega arith) c.parts.invariant

pub parts-init : goal.parts-init
parts-init g c = simp unary_clauses (starts (λ (_ : Unit {0}). g.P.Part.reader) (λ s _. s) tt c.args.count c.args.bytes.now)
