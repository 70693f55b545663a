use Rattle.std.proofs.Common.{◌≡◌, ◌+◌, Some, length, arith, ap, sym, ◌∙◌, refl, slice_get, subst}
use Rattle.std.specs.Option.{option_map}
use Rattle.std.proofs.lemmas.List.{length-map}
use Rattle.std.proofs.lemmas.Option.{slice_get_read, slice_get-map}
use Rattle.ab_trim.specs.Points.{lists_in}
use Rattle.ab_trim.proofs.FoundLemmas.{IsLastAmong, last_more, last_is, none_is}
use Rattle.ab_trim.proofs.agreeing.last_point.Goals as goal

pub loop-list-preserved : goal.loop-list-preserved
loop-list-preserved c =
    let logs = c.args.lists.now in
    let i = c.loop-list.list-index in
    let list = c.list-item.result in
    let at : slice_get (lists_in logs) i ≡ Some list.list =
    slice_get-map (λ l. l.list) logs i ∙ ap (option_map (λ l. l.list)) (slice_get_read logs (length logs) i list refl c.loop-list-test.true c.list-item.is)
    in
    subst (IsLastAmong c.args.q (lists_in logs) (i + 1)) (sym c.later-best.ensures)
    (last_more c.args.q (lists_in logs) i list.list c.loop-list.best c.last_of.result at c.loop-list.invariant c.last_of.ensures)

pub returns-clause-some : goal.returns-clause-some
returns-clause-some c =
    let many = length-map c.args.lists.now (λ l. l.list) in
    last_is c.args.q (lists_in c.args.lists.now) c.loop-list.list-index c.requires (omega (arith, many, c.loop-list-test.false)) c.loop-list.best c.loop-list.invariant

pub returns-clause-none : goal.returns-clause-none
returns-clause-none c =
    let many = length-map c.args.lists.now (λ l. l.list) in
    none_is c.args.q (lists_in c.args.lists.now) c.loop-list.list-index c.requires (omega (arith, many, c.loop-list-test.false)) c.loop-list.best c.loop-list.invariant
