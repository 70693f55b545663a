use Rattle.std.proofs.Common.{◌≡◌, List, Bor, map, refl, sym, ap, ◌∙◌}
use Rattle.std.specs.List.{insert}
use Rattle.std.proofs.lemmas.List.{take_all}
use Rattle.ab_client.proofs.RefLemmas.{seen, map_insert}
use Rattle.ab_msg.specs.declared.signed.Signed.{Signed}
use Rattle.ab_client.proofs.choices.with_kept.Goals as goal

pub returns : goal.returns
returns c =
    let v : Signed = c.args.v.now in
    let all : seen c.loop-w.all.items ≡ c.args.kept.now = c.loop-w.invariant ∙ take_all c.loop-w.w-index c.args.kept.now c.loop-w-test.false in
    ap seen c.in_ok-insert.ensures.items
    ∙ map_insert (λ (s : Bor Signed). s.now) c.loop-w.all.items c.place_for.result c.args.v
    ∙ ap (λ l. insert l c.place_for.result v) all
    ∙ sym (c.place_for.ensures.place v refl)
