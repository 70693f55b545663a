use Rattle.std.proofs.Common.{arith, ◌≡◌, ◌++◌, ◌∷◌, ℕ, subst}
use Rattle.sha2.specs.Hashers.{Holds256}
use Rattle.ab_lms.specs.OneTime.{ends, leaf}
use Rattle.ab_lms.proofs.one_time.key_of_values.Goals as goal

pub returns : goal.returns
returns c =
    let e : c.chains.i ≡ 67 = omega arith in
    let P : ℕ → Type 0 = λ n. Holds256 c.chains.hasher (leaf c.args.id.now c.args.q ++ 0x80 ∷ 0x80 ∷ ends c.args.id.now c.args.q c.args.digits.now c.args.values.now n) in
    c.finalize.ensures _ (subst P e c.chains.invariant)
