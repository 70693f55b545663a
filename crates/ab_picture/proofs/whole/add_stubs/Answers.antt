use Rattle.std.specs.Prelude.{string_bytes}
use Rattle.std.proofs.Common.{◌+◌, take}
use Rattle.ab_num.specs.declared.party.Party.TheVariants.{Replica}
use Rattle.ab_picture.specs.declared.picture.Stub.{Stub}
use Rattle.std.proofs.lemmas.List.{take_more}
use Rattle.ab_picture.specs.Elements.{IsStub}
use Rattle.ab_picture.proofs.ListLemmas.{all_added, none_added, one_added, step, taken_all}
use Rattle.ab_picture.proofs.whole.add_stubs.Goals as goal

pub loop-stub-init : goal.loop-stub-init
loop-stub-init c = none_added (IsStub c.args.picture.now) c.args.out.now.items

pub loop-stub-preserved : goal.loop-stub-preserved
loop-stub-preserved c =
    let stubs = c.as_slice-stubs.result.now in
    let i = c.loop-stub.stub-index in
    let old = c.loop-stub.out.items in
    let none : Stub = record { packet = 0; code = 0; from = 0; to = Replica 0 } in
    one_added (IsStub c.args.picture.now) (take i stubs) _ (take (i + 1) stubs) c.args.out.now.items old c.add.new.out.items
    (take_more stubs i none c.loop-stub-test.true) c.loop-stub.invariant
    (step (IsStub c.args.picture.now) _ old c.add.new.out.items (string_bytes c.in_ok-line.line) c.in_ok-line.ensures c.in_ok-add.ensures)

pub returns : goal.returns
returns c =
    let stubs = c.as_slice-stubs.result.now in
    let i = c.loop-stub.stub-index in
    all_added (IsStub c.args.picture.now) (take i stubs) c.args.picture.now.stubs.items c.args.out.now.items c.loop-stub.out.items
    (taken_all stubs c.args.picture.now.stubs.items i c.loop-stub-test.false c.as_slice-stubs.ensures.value) c.loop-stub.invariant
