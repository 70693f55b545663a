use Rattle.std.proofs.Common.{◌≡◌, ◌≤◌, List, length, sym, ap, ◌∙◌, subst}
use Rattle.ab_wire.specs.Views.{message}
use Rattle.ab_check.specs.Checks.{Check, checks_of}
use Rattle.ab_check.proofs.MessageLemmas.{checks-few}
use Rattle.ab_check.proofs.checking.check_claims.Goals as goal

pub check_each-requires : goal.check_each-requires
check_each-requires g c =
    let f = c.args.k.now.f in
    let all : c.checks_in.result ≡ checks_of f c.args.me (message c.args.m.now) = c.checks_in.ensures ∙ ap (λ m. checks_of f c.args.me (message m)) c.copy_of.ensures in
    subst (λ (ks : List Check). length ks ≤ 4294967295) (sym all) (checks-few f c.args.me (message c.args.m.now) c.args.k.now.in_bounds.few_faulty c.requires.received.of_grammar)
