use Rattle.std.proofs.Common.{◌≡◌, ℕ, false, None, Some, List, refl, sym, ap, ◌∙◌, subst}
use Rattle.std.specs.Option.{option_map}
use Rattle.arrayvec.specs.ArrayVec.{ArrayVec}
use Rattle.ab_cast.specs.Setups.{party_at}
use Rattle.ab_world.specs.Packets.{nth}
use Rattle.ab_world.specs.declared.given.Given.{Given as LentGiven}
use Rattle.ab_world.specs.declared.given.Given.TheVariants as lent
use Rattle.ab_world.specs.declared.handing.Handed.{Handed}
use Rattle.ab_world.specs.declared.handing.Handed.TheVariants.{Heard}
use Rattle.ab_world.specs.Worlds.{World}
use Rattle.ab_world.specs.Giving.{HasTaken, IsPlace, given_at, sent_to}
use Rattle.ab_world.specs.Handing.{IsHanded, watching_of, with_watching}
use Rattle.ab_world.proofs.GivingLemmas.{asks_there, bytes_taken, command_taken, time_taken}
use Rattle.ab_world.proofs.world.World.hand_over.Goals as goal

pub returns-in_ok-effects-in-Command-clause-taken : goal.returns-in_ok-effects-in-Command-clause-taken
returns-in_ok-effects-in-Command-clause-taken g c =
    let proto = g.P.Protocol.proto in
    let at = c.args.place in
    let w : World g.row.P.Denot = record {
      cast = c.self.inside.cast;
      packets = c.self.inside.packets;
      made = c.self.inside.watch.made;
      seen = c.self.inside.seen.items;
      lines = c.self.inside.lines.items;
      left = c.self.inside.left.items;
      forged = c.self.inside.watch.forged;
      watch = record { kept = c.self.inside.watch.kept; collided = c.self.inside.watch.collided };
      ended = c.self.inside.ended;
    } in
    let now : World g.row.P.Denot = record w { cast = c.invoke.new.self } in
    let place : IsPlace w at = subst (λ (v : World g.row.P.Denot). IsPlace v at) (sym c.self.view_is) c.requires.there in
    let found = c.places_have_cores.ensures.cores (party_at at) place.0 at place.1 in
    let command : ArrayVec ℕ = record { items = c.in-Command.bytes.now } in
    let effects = c.in_ok-effects-in-Command.effects in
    let handed : Handed = Heard None false effects in
    let taken : HasTaken proto w now at (given_at w at (lent.Command c.in-Command.bytes)) handed =
    command_taken proto w at (given_at w at (lent.Command c.in-Command.bytes)) c.invoke.new.self found.0 found.1 effects command
    (asks_there w at command found.0 found.1 None (c.in_ok-effects-in-Command.ensures.idle found.0 found.1)) (c.in_ok-effects-in-Command.ensures.taken found.0 found.1) in
    subst (λ (v : World g.row.P.Denot). HasTaken proto v now at (given_at v at c.args.given) handed) c.self.view_is
    (subst (λ (x : LentGiven). HasTaken proto w now at (given_at w at x) handed) (sym c.in-Command.is) taken)

pub returns-in_ok-handed-in-Packet-clause-taken : goal.returns-in_ok-handed-in-Packet-clause-taken
returns-in_ok-handed-in-Packet-clause-taken g c =
    let proto = g.P.Protocol.proto in
    let at = c.args.place in
    let w : World g.row.P.Denot = record {
      cast = c.self.inside.cast;
      packets = c.self.inside.packets;
      made = c.self.inside.watch.made;
      seen = c.self.inside.seen.items;
      lines = c.self.inside.lines.items;
      left = c.self.inside.left.items;
      forged = c.self.inside.watch.forged;
      watch = record { kept = c.self.inside.watch.kept; collided = c.self.inside.watch.collided };
      ended = c.self.inside.ended;
    } in
    let now : World g.row.P.Denot = with_watching (record w { cast = c.hand.new.cast; left = c.hand.new.left.items }) c.hand.new.watch in
    let number = c.in-Packet.number in
    let packet = c.in-Some.packet.now in
    let handed = c.in_ok-handed-in-Packet.handed in
    let sent : nth w.packets number ≡ Some packet = sym c.get.ensures ∙ ap (option_map (λ p. p.now)) c.in-Some.is in
    let is : IsHanded proto packet.bytes at (watching_of w) c.hand.new.watch w.left c.hand.new.left.items w.cast c.hand.new.cast handed =
    subst (λ (bytes : List ℕ). IsHanded proto bytes at (watching_of w) c.hand.new.watch w.left c.hand.new.left.items w.cast c.hand.new.cast handed) c.bytes.ensures c.in_ok-handed-in-Packet.ensures.handed in
    let taken : HasTaken proto w now at (given_at w at (lent.Packet number)) handed =
    bytes_taken proto w at (given_at w at (lent.Packet number)) c.hand.new.cast packet.bytes c.hand.new.watch c.hand.new.left.items handed (ap (sent_to at) sent) is c.in_ok-handed-in-Packet.ensures.drafts in
    subst (λ (v : World g.row.P.Denot). HasTaken proto v now at (given_at v at c.args.given) handed) c.self.view_is
    (subst (λ (x : LentGiven). HasTaken proto w now at (given_at w at x) handed) (sym c.in-Packet.is) taken)

pub returns-in_ok-handed-in-Bytes-clause-taken : goal.returns-in_ok-handed-in-Bytes-clause-taken
returns-in_ok-handed-in-Bytes-clause-taken g c =
    let proto = g.P.Protocol.proto in
    let at = c.args.place in
    let w : World g.row.P.Denot = record {
      cast = c.self.inside.cast;
      packets = c.self.inside.packets;
      made = c.self.inside.watch.made;
      seen = c.self.inside.seen.items;
      lines = c.self.inside.lines.items;
      left = c.self.inside.left.items;
      forged = c.self.inside.watch.forged;
      watch = record { kept = c.self.inside.watch.kept; collided = c.self.inside.watch.collided };
      ended = c.self.inside.ended;
    } in
    let new = c.hand-in-Bytes.new in
    let now : World g.row.P.Denot = with_watching (record w { cast = new.cast; left = new.left.items }) new.watch in
    let handed = c.in_ok-handed-in-Bytes.handed in
    let taken : HasTaken proto w now at (given_at w at (lent.Bytes c.in-Bytes.bytes)) handed =
    bytes_taken proto w at (given_at w at (lent.Bytes c.in-Bytes.bytes)) new.cast c.in-Bytes.bytes.now new.watch new.left.items handed refl c.in_ok-handed-in-Bytes.ensures.handed c.in_ok-handed-in-Bytes.ensures.drafts in
    subst (λ (v : World g.row.P.Denot). HasTaken proto v now at (given_at v at c.args.given) handed) c.self.view_is
    (subst (λ (x : LentGiven). HasTaken proto w now at (given_at w at x) handed) (sym c.in-Bytes.is) taken)

pub returns-in_ok-effects-in-Timeout-clause-taken : goal.returns-in_ok-effects-in-Timeout-clause-taken
returns-in_ok-effects-in-Timeout-clause-taken g c =
    let proto = g.P.Protocol.proto in
    let at = c.args.place in
    let w : World g.row.P.Denot = record {
      cast = c.self.inside.cast;
      packets = c.self.inside.packets;
      made = c.self.inside.watch.made;
      seen = c.self.inside.seen.items;
      lines = c.self.inside.lines.items;
      left = c.self.inside.left.items;
      forged = c.self.inside.watch.forged;
      watch = record { kept = c.self.inside.watch.kept; collided = c.self.inside.watch.collided };
      ended = c.self.inside.ended;
    } in
    let now : World g.row.P.Denot = record w { cast = c.ring.new.self } in
    let place : IsPlace w at = subst (λ (v : World g.row.P.Denot). IsPlace v at) (sym c.self.view_is) c.requires.there in
    let found = c.places_have_cores.ensures.cores (party_at at) place.0 at place.1 in
    let effects = c.in_ok-effects-in-Timeout.effects in
    let handed : Handed = Heard None false effects in
    let taken : HasTaken proto w now at (given_at w at lent.Timeout) handed =
    time_taken proto w at (given_at w at lent.Timeout) c.ring.new.self found.0 found.1 effects refl (c.in_ok-effects-in-Timeout.ensures.taken found.0 found.1) in
    subst (λ (v : World g.row.P.Denot). HasTaken proto v now at (given_at v at c.args.given) handed) c.self.view_is
    (subst (λ (x : LentGiven). HasTaken proto w now at (given_at w at x) handed) (sym c.in-Timeout.is) taken)
