use Rattle.std.proofs.Common.{◌≡◌, ◌∷◌, ◌++◌, [], ◌∙◌, Ok, arith, ap, subst}
use Rattle.ab_num.proofs.Results.{on_ok_then}
use Rattle.ab_text.specs.declared.event.Event.{Event}
use Rattle.ab_text.specs.EventLines.{IsEvent}
use Rattle.ab_storm.specs.Storms.{next_of}
use Rattle.ab_world.specs.Steps.{WorldCause, stepped}
use Rattle.ab_storm.specs.Runs.{drawn_at}
use Rattle.ab_storm.proofs.StormLemmas.{drawn_so, end_caused, fault_ends}
use Rattle.ab_storm.proofs.Keeping.{memory_ends, on_ok}
use Rattle.ab_storm.proofs.Printing.{next_has_line}
use Rattle.ab_storm.proofs.running.step.Goals as goal

pub ended_by-requires : goal.ended_by-requires
ended_by-requires g c =
    let proto = g.P.Protocol.proto in
    let s = c.args.storm.now in
    let w = c.args.world.now in
    let so = drawn_so s c.next-event.new.self w c.next-event.result c.packets.result c.idle_clients.result c.packets.ensures c.idle_clients.ensures c.next-event.ensures in
    fault_ends proto s w c.in-Err.fault c.requires.goes c.requires.few (subst (λ (e : Event). WorldCause proto c.in-Err.fault w e) so.0 c.in-Err.ensures.cause)

pub returns-in-Ok-clause-ok : goal.returns-in-Ok-clause-ok
returns-in-Ok-clause-ok g c =
    let proto = g.P.Protocol.proto in
    let s = c.args.storm.now in
    let w = c.args.world.now in
    let so = drawn_so s c.next-event.new.self w c.next-event.result c.packets.result c.idle_clients.result c.packets.ensures c.idle_clients.ensures c.next-event.ensures in
    on_ok c.keep.result (stepped proto w (drawn_at s w).0 ≡ Ok c.step.new.self) (subst (λ (e : Event). stepped proto w e ≡ Ok c.step.new.self) so.0 c.in-Ok.ensures.ok)

pub returns-in-Ok-clause-kept : goal.returns-in-Ok-clause-kept
returns-in-Ok-clause-kept g c =
    let s = c.args.storm.now in
    let w = c.args.world.now in
    let kept = c.args.kept.now in
    let e = c.next-event.result in
    let so = drawn_so s c.next-event.new.self w e c.packets.result c.idle_clients.result c.packets.ensures c.idle_clients.ensures c.next-event.ensures in
    on_ok_then c.keep.result (c.keep.new.kept ≡ kept ++ e ∷ []) (c.keep.new.kept ≡ kept ++ (drawn_at s w).0 ∷ []) (λ is. is ∙ ap (λ (x : Event). kept ++ x ∷ []) so.0) c.keep.ensures.ok

pub returns-in-Ok-clause-line : goal.returns-in-Ok-clause-line
returns-in-Ok-clause-line g c =
    let s = c.args.storm.now in
    subst IsEvent (λ j. (next_of (c.packets.ensures j) (c.idle_clients.ensures j) s).0) (next_has_line s c.packets.result c.idle_clients.result (omega arith) (omega (arith, c.idle_clients.type_inv)))

pub returns-in-Ok-clause-next : goal.returns-in-Ok-clause-next
returns-in-Ok-clause-next g c =
    (drawn_so c.args.storm.now c.next-event.new.self c.args.world.now c.next-event.result c.packets.result c.idle_clients.result c.packets.ensures c.idle_clients.ensures c.next-event.ensures).1

pub returns-in-Ok-clause-cause : goal.returns-in-Ok-clause-cause
returns-in-Ok-clause-cause g c = memory_ends g.P.Protocol.proto (stepped g.P.Protocol.proto c.args.world.now (drawn_at c.args.storm.now c.args.world.now).0) c.keep.result c.keep.ensures.err

pub returns-in-Err-clause-line : goal.returns-in-Err-clause-line
returns-in-Err-clause-line g c =
    let s = c.args.storm.now in
    subst IsEvent (λ j. (next_of (c.packets.ensures j) (c.idle_clients.ensures j) s).0) (next_has_line s c.packets.result c.idle_clients.result (omega arith) (omega (arith, c.idle_clients.type_inv)))

pub returns-in-Err-clause-next : goal.returns-in-Err-clause-next
returns-in-Err-clause-next g c =
    (drawn_so c.args.storm.now c.next-event.new.self c.args.world.now c.next-event.result c.packets.result c.idle_clients.result c.packets.ensures c.idle_clients.ensures c.next-event.ensures).1

pub returns-in-Err-clause-cause : goal.returns-in-Err-clause-cause
returns-in-Err-clause-cause g c =
    let proto = g.P.Protocol.proto in
    let s = c.args.storm.now in
    let w = c.args.world.now in
    let so = drawn_so s c.next-event.new.self w c.next-event.result c.packets.result c.idle_clients.result c.packets.ensures c.idle_clients.ensures c.next-event.ensures in
    end_caused proto w (drawn_at s w).0 c.in-Err.fault c.ended_by.result c.ended_by.ensures (subst (λ (e : Event). WorldCause proto c.in-Err.fault w e) so.0 c.in-Err.ensures.cause)
