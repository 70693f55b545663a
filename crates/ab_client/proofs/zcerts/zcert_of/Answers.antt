use Rattle.std.proofs.Common.{◌≡◌, ◌+◌, ◌*◌, ◌≤◌, ℕ, length, map, take, arith, ap, ◌∙◌}
use Rattle.ab_client.proofs.ZcertLemmas.{zcert_of_lent}
use Rattle.ab_client.proofs.zcerts.zcert_of.Goals as goal

pub returns : goal.returns
returns c =
    let needed : c.from-needed.result ≡ 2 * c.args.f + 1 = c.from-needed.ensures in
    let many : 2 * c.args.f + 1 ≤ length c.args.sigs.now = omega arith in
    zcert_of_lent c.args.f c.args.m.now c.args.b.now (λ s. (s.0, s.1.now)) c.args.sigs.now c.copy_reply.result c.of.result many c.copy_reply.ensures
    (c.of.ensures ∙ (c.in_ok-own.ensures ∙ ap (λ (n : ℕ). map (λ s. (s.0, s.1.now)) (take n c.args.sigs.now)) needed))
