use Rattle.std.proofs.Common.{◌≡◌, ℕ, List, length, subst, sym, ap, ◌∙◌}
use Rattle.ab_scheme.specs.Schemes.{SchemeKey, VerifiesBy, public_by}
use Rattle.ab_scheme.proofs.SchemeLemmas.{length-signature_by, verifies_by}
use Rattle.ab_scheme.proofs.secret.SecretKey.sign_at.Goals as goal

pub returns-clause-verifies : goal.returns-clause-verifies
returns-clause-verifies c =
    let k = c.args.self.now in
    let named : length k.id ≡ 16 = subst (λ (s : SchemeKey). length s.id ≡ 16) c.self.view_is c.self.invariant in
    subst (λ (sig : List ℕ). VerifiesBy (public_by k.scheme k.id k.seed) c.args.text.now sig) (sym c.in_ok-sig.ensures)
    (verifies_by k.scheme k.id k.seed c.args.text.now c.args.q named c.requires)

pub returns-clause-long : goal.returns-clause-long
returns-clause-long c =
    let k = c.args.self.now in
    ap length c.in_ok-sig.ensures ∙ length-signature_by k.scheme k.id k.seed c.args.text.now c.args.q
