use Rattle.std.proofs.Common.{◌≡◌, true, length, arith, ap, sym, ◌∙◌, subst}
use Rattle.std.specs.List.{list_all}
use Rattle.std.proofs.lemmas.Bool.{and_parts}
use Rattle.ab_hist.specs.Histories.{IsNext, may_follow}
use Rattle.ab_hist.specs.Trimmed.{end_of}
use Rattle.ab_trim.specs.Known.{follows_last}
use Rattle.ab_trim.specs.Logs.{last_at, follows_by}
use Rattle.ab_trim.proofs.RestLemmas.{all_follow-Decides}
use Rattle.ab_trim.proofs.TrimmedLemmas.{not_full, pushed_trimmed}
use Rattle.ab_trim.proofs.trimmed.Trimmed.push.Goals as goal

pub invariant_of-self : goal.invariant_of-self
invariant_of-self c =
    let s = c.self.inside in
    let m = c.args.m in
    let was = c.args.self.now in
    let room = not_full was.list c.is_full.result c.is_full.ensures c.if-is_full.false in
    let whole : s.rest.requests ≡ was.list.rest = ap (λ k. k.list.rest) c.self.view_is in
    let says : follows_by was m ≡ true = sym c.follows.ensures ∙ c.if-not-follows.false in
    let next : IsNext was.list.rest m = (all_follow-Decides m was.list.rest).0 (and_parts (list_all (may_follow m) was.list.rest) (follows_last (last_at was.lasts m.client) m) says).0 in
    pushed_trimmed s.start s.rest s.lasts.items c.self.invariant c.push.new.self m c.push.result (omega (arith, c.if-len-gt0.true, c.len.ensures, s.lasts.ok.0)) (omega (arith, room.0, ap length whole)) (omega (arith, room.1, ap (λ k. end_of k.list) c.self.view_is))
    (subst (λ h. IsNext h m) (sym whole) next) c.requires c.push.ensures.ok c.push.ensures.err
