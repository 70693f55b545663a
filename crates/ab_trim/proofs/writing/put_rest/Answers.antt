use Rattle.std.proofs.Common.{◌≡◌, ◌+◌, ◌-◌, take, slice_get, Some, ap, ◌∙◌, arith}
use Rattle.ab_write.proofs.WriteLemmas.{each-more}
use Rattle.ab_msg.specs.Fields.{spell_request}
use Rattle.ab_trim.proofs.RestLemmas.{place_more}
use Rattle.ab_trim.proofs.writing.put_rest.Goals as goal

pub entries-preserved : goal.entries-preserved
entries-preserved c =
    let rest = c.args.list.now.list.rest in
    let k = c.entries.k in
    let x = c.at.result.now in
    let n = c.start-start.result in
    let begins = c.start-start.ensures.start in
    let here : slice_get rest (k + 1 - 1) ≡ Some x = ap (slice_get rest) (let e : k + 1 - 1 ≡ n + k + 1 - c.args.list.now.list.start - 1 = omega (arith, begins) in e) ∙ c.at.ensures in
    let written = each-more spell_request c.put_u16.new.out.items c.entries.out.items (take k rest) x c.entries.invariant in
    let taken = (place_more rest k x here).1 in
    let put = c.in_ok-put.ensures in
    cc
