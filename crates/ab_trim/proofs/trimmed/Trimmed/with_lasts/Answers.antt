use Rattle.std.proofs.Common.{◌≡◌, ◌+◌, ◌-◌, ◌≤◌, length, take, arith, ap, ◌∙◌}
use Rattle.ab_hist.specs.Trimmed.{end_of, forget}
use Rattle.ab_trim.specs.Chained.{behind}
use Rattle.ab_trim.specs.Logs.{padded, noted, lasts_to}
use Rattle.ab_trim.proofs.LastLemmas.{length-noted, padded-length, padded-whole}
use Rattle.ab_trim.proofs.TrimmedLemmas.{with_trimmed}
use Rattle.ab_trim.proofs.trimmed.Trimmed.with_lasts.Goals as goal

pub invariant_of-result : goal.invariant_of-result
invariant_of-result c =
    let own = c.self.inside in
    let other = c.list.inside in
    let lasts : c.in_ok-lasts.lasts.items ≡ padded own.lasts.items = c.in_ok-lasts.ensures ∙ ap padded c.deref.ensures.value in
    let long : length c.note_all.new.lasts.items ≡ 16 =
    ap length c.note_all.ensures ∙ length-noted own.start (take (c.args.n - own.start) own.rest.requests) c.in_ok-lasts.lasts.items ∙ ap length lasts ∙ padded-length own.lasts.items c.self.invariant.each in
    let rest = c.forget.ensures ∙ ap (behind (c.args.n - other.start)) c.in_ok-rest.ensures in
    let first : other.start ≤ c.args.n = omega (arith, c.requires.other.0, ap (λ k. k.list.start) c.list.view_is) in
    let last : c.args.n ≤ other.start + length other.rest.requests = omega (arith, c.requires.other.1, ap (λ k. end_of k.list) c.list.view_is) in
    with_trimmed other.start other.rest other.lasts.items c.list.invariant c.args.n first last c.forget.new.self c.note_all.new.lasts.items rest long

pub returns : goal.returns
returns c =
    let own = c.self.inside in
    let other = c.list.inside in
    let lasts : c.in_ok-lasts.lasts.items ≡ padded own.lasts.items = c.in_ok-lasts.ensures ∙ ap padded c.deref.ensures.value in
    let long : length c.note_all.new.lasts.items ≡ 16 =
    ap length c.note_all.ensures ∙ length-noted own.start (take (c.args.n - own.start) own.rest.requests) c.in_ok-lasts.lasts.items ∙ ap length lasts ∙ padded-length own.lasts.items c.self.invariant.each in
    let rest = c.forget.ensures ∙ ap (behind (c.args.n - other.start)) c.in_ok-rest.ensures in
    let noted_is = padded-whole c.note_all.new.lasts.items long ∙ c.note_all.ensures ∙ ap (noted own.start (take (c.args.n - own.start) own.rest.requests)) lasts in
    (λ i. record { list = record { start = c.args.n; digest = (rest i).start; rest = (rest i).requests }; lasts = noted_is i })
    ∙ (λ i. record { list = forget c.args.n (c.list.view_is i).list; lasts = lasts_to c.args.n (c.self.view_is i) })
