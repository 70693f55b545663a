use Rattle.std.proofs.Common.{◌≡◌, ◌≤◌, ◌+◌, ℕ, List, length, arith, ap, sym, subst}
use Rattle.ab_sign.specs.Kept.{Signature, bytes_in, size_of}
use Rattle.ab_sign.proofs.KeptLemmas.{bytes_inserted}
use Rattle.ab_audit.proofs.tried.Tried.learn.Goals.{then-self-size-gt-LIMIT, else-self-size-gt-LIMIT}
use Rattle.ab_audit.proofs.tried.Tried.learn.Goals as goal

pub invariant_of-self-2-clause-counted : goal.invariant_of-self-2-clause-counted
invariant_of-self-2-clause-counted c =
    let was = c.if-self-size-gt-LIMIT.self in
    let before : bytes_in was.1.0.entries ≤ was.1.1.0 =
    elim c.if-self-size-gt-LIMIT.branch [
      | then-self-size-gt-LIMIT w ↦ subst (λ x. bytes_in x.1.0.entries ≤ x.1.1.0) (sym w.self-is) (subst (λ (es : List (List ℕ × Signature)). bytes_in es ≤ 0) (sym w.clear.ensures.empty) (omega arith))
      | else-self-size-gt-LIMIT w ↦ subst (λ x. bytes_in x.1.0.entries ≤ x.1.1.0) (sym w.self-is) c.args.self.now.counted
    ] in
    let size : size_of c.in_ok-verdict.verdict ≡ length c.args.content.now + length c.args.sig.now = ap size_of c.in_ok-verdict.ensures in
    let more = subst (λ (es : List (List ℕ × Signature)). bytes_in es ≤ bytes_in was.1.0.entries + size_of c.in_ok-verdict.verdict) (sym c.in_ok-insert.ensures.entries) (bytes_inserted _ was.1.0.entries c.name_of.result c.in_ok-verdict.verdict) in
    omega (arith, before, size, more)
