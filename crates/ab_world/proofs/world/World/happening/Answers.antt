use Rattle.std.proofs.Common.{◌≡◌, ◌≤◌, Some, length, arith, sym, ap, ◌∙◌, subst}
use Rattle.std.specs.Prelude.{IfOk}
use Rattle.std.specs.Option.{option_map}
use Rattle.ab_text.specs.declared.event.Event.{Event}
use Rattle.ab_text.specs.declared.event.Event.TheVariants.{Invoke, Deliver, Timeout, Inject}
use Rattle.ab_text.proofs.LineLemmas.{positive}
use Rattle.ab_cast.specs.Setups.{Setup, place_of}
use Rattle.ab_world.specs.Packets.{nth}
use Rattle.ab_world.specs.declared.given.Given.TheVariants as lent
use Rattle.ab_world.specs.Worlds.{World}
use Rattle.ab_world.specs.Steps.{addressed}
use Rattle.ab_world.specs.Giving.{Gives}
use Rattle.ab_world.proofs.GivingLemmas.{gives_at, gives_bytes, gives_command, gives_packet, gives_time}
use Rattle.ab_world.proofs.world.World.happening.Goals as goal

pub returns-else-is_empty-clause-ok : goal.returns-else-is_empty-clause-ok
returns-else-is_empty-clause-ok g c =
    let w : World g.row.P.Denot = record {
      cast = c.self.inside.cast;
      packets = c.self.inside.packets;
      made = c.self.inside.watch.made;
      seen = c.self.inside.seen.items;
      lines = c.self.inside.lines.items;
      left = c.self.inside.left.items;
      forged = c.self.inside.watch.forged;
      watch = record { kept = c.self.inside.watch.kept; collided = c.self.inside.watch.collided };
      ended = c.self.inside.ended;
    } in
    let core = c.in-Invoke.core in
    let command = c.in-Invoke.command in
    let bytes = c.as_slice-bytes.result in
    let result = c.at_place.result in
    let some : 1 ≤ length bytes.now = omega (arith, positive _ c.if-is_empty.ensures) in
    let place : place_of w.cast.setup core.party core.twin ≡ c.place.result = ap (λ (x : Setup). place_of x core.party core.twin) (sym c.setup-setup.ensures) ∙ sym c.place.ensures in
    subst (λ (v : World g.row.P.Denot). IfOk result (λ given. Gives v c.args.e.now given.0 given.1)) c.self.view_is
    (subst (λ (e : Event). IfOk result (λ given. Gives w e given.0 given.1)) (sym c.in-Invoke.is)
    (gives_at w (Invoke core command) c.place.result (lent.Command bytes) result
    (λ at found. gives_command w core command bytes at c.as_slice-bytes.ensures.value some c.as_slice-bytes.ensures.fits (place ∙ found)) c.at_place.ensures.ok))

pub returns-in-Some-clause-ok : goal.returns-in-Some-clause-ok
returns-in-Some-clause-ok g c =
    let w : World g.row.P.Denot = record {
      cast = c.self.inside.cast;
      packets = c.self.inside.packets;
      made = c.self.inside.watch.made;
      seen = c.self.inside.seen.items;
      lines = c.self.inside.lines.items;
      left = c.self.inside.left.items;
      forged = c.self.inside.watch.forged;
      watch = record { kept = c.self.inside.watch.kept; collided = c.self.inside.watch.collided };
      ended = c.self.inside.ended;
    } in
    let number = c.in-Deliver.packet in
    let core = c.in-Deliver.core in
    let packet = c.in-Some.sent.now in
    let result = c.at_place-in-Deliver.result in
    let sent : nth w.packets number ≡ Some packet = sym c.get.ensures ∙ ap (option_map (λ p. p.now)) c.in-Some.is in
    let to : addressed w.cast.setup packet.to core ≡ c.addressed.result =
    ap (λ p. addressed w.cast.setup p core) (sym c.to.ensures) ∙ (ap (λ (x : Setup). addressed x c.to.result core) (sym c.setup-setup.ensures) ∙ sym c.addressed.ensures) in
    subst (λ (v : World g.row.P.Denot). IfOk result (λ given. Gives v c.args.e.now given.0 given.1)) c.self.view_is
    (subst (λ (e : Event). IfOk result (λ given. Gives w e given.0 given.1)) (sym c.in-Deliver.is)
    (gives_at w (Deliver number core) c.addressed.result (lent.Packet number) result
    (λ at found. gives_packet w core number packet at sent (to ∙ found)) c.at_place-in-Deliver.ensures.ok))

pub returns-in-Inject-clause-ok : goal.returns-in-Inject-clause-ok
returns-in-Inject-clause-ok g c =
    let w : World g.row.P.Denot = record {
      cast = c.self.inside.cast;
      packets = c.self.inside.packets;
      made = c.self.inside.watch.made;
      seen = c.self.inside.seen.items;
      lines = c.self.inside.lines.items;
      left = c.self.inside.left.items;
      forged = c.self.inside.watch.forged;
      watch = record { kept = c.self.inside.watch.kept; collided = c.self.inside.watch.collided };
      ended = c.self.inside.ended;
    } in
    let core = c.in-Inject.core in
    let bytes = c.as_slice-bytes-in-Inject.result in
    let result = c.at_place-in-Inject.result in
    let place : place_of w.cast.setup core.party core.twin ≡ c.place-in-Inject.result = ap (λ (x : Setup). place_of x core.party core.twin) (sym c.setup-setup.ensures) ∙ sym c.place-in-Inject.ensures in
    subst (λ (v : World g.row.P.Denot). IfOk result (λ given. Gives v c.args.e.now given.0 given.1)) c.self.view_is
    (subst (λ (e : Event). IfOk result (λ given. Gives w e given.0 given.1)) (sym c.in-Inject.is)
    (gives_at w (Inject core c.in-Inject.bytes) c.place-in-Inject.result (lent.Bytes bytes) result
    (λ at found. gives_bytes w core c.in-Inject.bytes bytes at c.as_slice-bytes-in-Inject.ensures (place ∙ found)) c.at_place-in-Inject.ensures.ok))

pub returns-in-Timeout-clause-ok : goal.returns-in-Timeout-clause-ok
returns-in-Timeout-clause-ok g c =
    let w : World g.row.P.Denot = record {
      cast = c.self.inside.cast;
      packets = c.self.inside.packets;
      made = c.self.inside.watch.made;
      seen = c.self.inside.seen.items;
      lines = c.self.inside.lines.items;
      left = c.self.inside.left.items;
      forged = c.self.inside.watch.forged;
      watch = record { kept = c.self.inside.watch.kept; collided = c.self.inside.watch.collided };
      ended = c.self.inside.ended;
    } in
    let core = c.in-Timeout.core in
    let result = c.at_place-in-Timeout.result in
    let place : place_of w.cast.setup core.party core.twin ≡ c.place-in-Timeout.result = ap (λ (x : Setup). place_of x core.party core.twin) (sym c.setup-setup.ensures) ∙ sym c.place-in-Timeout.ensures in
    subst (λ (v : World g.row.P.Denot). IfOk result (λ given. Gives v c.args.e.now given.0 given.1)) c.self.view_is
    (subst (λ (e : Event). IfOk result (λ given. Gives w e given.0 given.1)) (sym c.in-Timeout.is)
    (gives_at w (Timeout core) c.place-in-Timeout.result lent.Timeout result (λ at found. gives_time w core at (place ∙ found)) c.at_place-in-Timeout.ensures.ok))
