use Rattle.std.proofs.Common.{List, ℕ, subst, sym, refl, inl}
use Rattle.ab_scheme.specs.Schemes.{VerifiesBy}
use Rattle.ab_scheme.proofs.SchemeLemmas.{of_one_level}
use Rattle.ab_sign.proofs.known.Known.check_key.Goals as goal

pub returns-then-has : goal.returns-then-has
returns-then-has c =
    let top = c.args.top.now in
    let key = c.args.key.now in
    let sig = c.args.sig.now in (
      λ _. of_one_level top key sig c.requires (subst (λ (p : List ℕ). VerifiesBy p key sig) c.one_level-public.ensures (c.has.ensures c.if-has.true)),
      λ _. refl,
    )

pub learn-requires : goal.learn-requires
learn-requires c =
    subst (λ (p : List ℕ). VerifiesBy p c.args.key.now c.args.sig.now) (sym c.one_level-public.ensures)
    (record { signed = inl (c.verify.ensures.verifies.0 c.if-not-verify.false) })
