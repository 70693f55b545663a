use Rattle.std.proofs.Common.{◌+◌, ◌++◌, [], ap, ◌∙◌, drop}
use Rattle.std.specs.List.{cons_option}
use Rattle.std.proofs.lemmas.List.{at_drop_more}
use Rattle.ab_num.specs.declared.party.Party.TheVariants.{Replica}
use Rattle.ab_picture.specs.declared.picture.SentPacket.{SentPacket}
use Rattle.ab_picture.specs.Pictures.{stub_of, stubs_of}
use Rattle.ab_picture.proofs.Gathering.{gathered_option}
use Rattle.ab_picture.proofs.composing.stubs.Goals as goal

pub loop-i-preserved : goal.loop-i-preserved
loop-i-preserved c =
    let events = c.args.told.now.events.now in
    let counts = c.args.told.now.counts.now in
    let parcels = c.args.told.now.parcels.now in
    let i = c.loop-i.i in
    let old = c.loop-i.stubs.items in
    let none : SentPacket = record { to = Replica 0; code = 0 } in
    gathered_option (λ y. stub_of events counts y.0 y.1) (drop i parcels) (drop (i + 1) parcels) (i + 1) _ (stubs_of events counts parcels)
    old c.keep.new.all.items (at_drop_more (λ t. t) parcels i none c.loop-i-test.true) c.loop-i.invariant
    (c.in_ok-keep.ensures ∙ ap (λ o. old ++ cons_option o []) c.stub_of-stub.ensures)
