use Rattle.std.proofs.Common.{◌≡◌, true}
use Rattle.std.specs.Prelude.{slice_get}
use Rattle.ab_slots.specs.Places.{is_by, place_by}
use Rattle.ab_slots.proofs.KeptLemmas.{put_replaced_at}
use Rattle.ab_slots.proofs.kept.put.Goals as goal

pub returns-then-is_at : goal.returns-then-is_at
returns-then-is_at c =
    let e : c.place_of-at.result ≡ place_by c.args.new.change.by c.args.kept.now.items = cc in
    let there : is_by c.args.new.change.by (slice_get c.args.kept.now.items c.place_of-at.result) ≡ true = cc in
    put_replaced_at c.args.new c.args.kept.now.items c.replace.new.kept.items c.place_of-at.result e there c.replace.ensures
