-- An event in two halves: what it gives is what happens, and what a core took of it is the step.
use Rattle.std.proofs.Common.{◌≡◌, ℕ, ◌≤◌, Option, Some, None, false, List, Result, Ok, length, arith, refl, sym, ap, ◌∙◌, subst}
use Rattle.std.specs.Prelude.{IfOk}
use Rattle.std.specs.Borrow.{Bor}
use Rattle.std.proofs.lemmas.Result.{IfOk-weaker}
use Rattle.arrayvec.specs.ArrayVec.{ArrayVec}
use Rattle.ab_text.specs.declared.event.Core.{Core as CoreName}
use Rattle.ab_text.specs.declared.event.Event.{Event}
use Rattle.ab_text.specs.declared.event.Event.TheVariants.{Invoke, Deliver, Timeout, Inject}
use Rattle.ab_abs.specs.Ensembles.{Proto}
use Rattle.ab_run.specs.Local.{Cue, cue_command, cue_time}
use Rattle.ab_run.specs.Forms.{IsDraftOf}
use Rattle.ab_msg.specs.Packets.{Packet}
use Rattle.ab_replica.specs.declared.effects.Effects.{Effects}
use Rattle.ab_party.specs.declared.fault.CommandFault.{CommandFault}
use Rattle.ab_cast.specs.declared.place.Place.{Place}
use Rattle.ab_cast.specs.Setups.{place_of, party_at}
use Rattle.ab_cast.specs.Cores.{Core, core_after}
use Rattle.ab_cast.specs.Casts.{Cast, IsTaken, command_refusal, core_at}
use Rattle.ab_premise.specs.Watching.{Watching}
use Rattle.ab_world.specs.Packets.{nth}
use Rattle.ab_world.specs.declared.fault.WorldFault.{WorldFault}
use Rattle.ab_world.specs.declared.given.Given.{Given as LentGiven}
use Rattle.ab_world.specs.declared.given.Given.TheVariants as lent
use Rattle.ab_world.specs.declared.left.LeftLog.{LeftLog}
use Rattle.ab_world.specs.declared.handing.Handed.{Handed}
use Rattle.ab_world.specs.declared.handing.Handed.TheVariants.{Heard}
use Rattle.ab_world.specs.Worlds.{World}
use Rattle.ab_world.specs.Steps.{Happening, ask, hand, ring, addressed, asked, asked_at, delivered, handed, refuse_command, rung}
use Rattle.ab_world.specs.Handing.{EachOut, IsHanded, watching_of, with_watching}
use Rattle.ab_world.specs.Giving.{Gives, HasTaken, sent_to}
use Rattle.ab_world.proofs.StepLemmas.{place_is, addressed_is, asks_at, asked_is, rung_is, handed_is, core_setup, handed_setup, handed_forged, handed_collided}

-- ---- what an event gives

module _ {P : Type 0} (w : World P) where
  pub gives_command : (core : CoreName) (command : ArrayVec ℕ) (bytes : Bor (List ℕ)) (at : Place) → bytes.now ≡ command.items → 1 ≤ length bytes.now → length bytes.now ≤ 128
      → place_of w.cast.setup core.party core.twin ≡ Some at → Gives w (Invoke core command) at (lent.Command bytes)
  gives_command core command bytes at same some few place =
      let long : length bytes.now ≡ length command.items = ap length same in
      record {
        there = place_is w.cast.setup core.party core.twin at place;
        form = (some, few);
        happens = asks_at w core command (omega (arith, some, long)) (omega (arith, few, long))
            ∙ (ap (asked w command) place ∙ ap (λ (xs : List ℕ). asked_at at (record { items = xs }) (core_at w.cast at)) (sym same));
      }

  pub gives_packet : (core : Option CoreName) (number : ℕ) (packet : Packet) (at : Place) → nth w.packets number ≡ Some packet → addressed w.cast.setup packet.to core ≡ Some at
      → Gives w (Deliver number core) at (lent.Packet number)
  gives_packet core number packet at sent to = record {
    there = addressed_is w.cast.setup packet.to core at to;
    form = (packet, sent);
    happens = ap (λ o. delivered w.cast.setup o core) sent ∙ (ap (handed packet.bytes) to ∙ ap (sent_to at) (sym sent));
  }

  pub gives_bytes : (core : CoreName) (xs : List ℕ) (bytes : Bor (List ℕ)) (at : Place) → bytes.now ≡ xs → place_of w.cast.setup core.party core.twin ≡ Some at
      → Gives w (Inject core xs) at (lent.Bytes bytes)
  gives_bytes core xs bytes at same place = record {
    there = place_is w.cast.setup core.party core.twin at place;
    form = tt;
    happens = ap (handed xs) place ∙ ap (λ (ys : List ℕ). Ok (record { place = at; given = hand ys })) (sym same);
  }

  pub gives_time : (core : CoreName) (at : Place) → place_of w.cast.setup core.party core.twin ≡ Some at → Gives w (Timeout core) at lent.Timeout
  gives_time core at place = record { there = place_is w.cast.setup core.party core.twin at place; form = tt; happens = ap rung place }

-- as the code finds its place
pub gives_at : {P : Type 0} (w : World P) (e : Event) (place : Option Place) (given : LentGiven) (result : Result (Place × LentGiven) WorldFault) → ((at : Place) → place ≡ Some at → Gives w e at given)
    → IfOk result (λ at. (place ≡ Some at.0) × (at.1 ≡ given)) → IfOk result (λ at. Gives w e at.0 at.1)
gives_at w e place given result gives found =
    IfOk-weaker result (λ at. (place ≡ Some at.0) × (at.1 ≡ given)) (λ at. Gives w e at.0 at.1)
    (λ at is. subst (λ (x : LentGiven). Gives w e at.0 x) (sym is.1) (gives at.0 is.0)) found

-- ---- what a core took

pub taken_setup : {P : Type 0} (proto : Proto P) (x new : Cast P) (at : Place) (s : Core P) (cue : Cue) (effects : Effects) → IsTaken proto x at s cue new effects.outs effects.marks.items effects.spent → new.setup ≡ x.setup
taken_setup proto x new at s cue effects taken = ap (λ (y : Cast _). y.setup) taken.after ∙ core_setup x at (core_after x.setup proto (party_at at) s cue)

module _ {P : Type 0} (proto : Proto P) (w : World P) (at : Place) (what : Result Happening WorldFault) (new : Cast P) where
  pub bytes_taken : (bytes : List ℕ) (y : Watching) (left : List LeftLog) (handed : Handed) → what ≡ Ok (record { place = at; given = hand bytes }) → IsHanded proto bytes at (watching_of w) y w.left left w.cast new handed
      → EachOut (IsDraftOf w.cast.setup.cluster.f (party_at at)) handed → HasTaken proto w (with_watching (record w { cast = new; left = left }) y) at what handed
  bytes_taken bytes y left handed happens is drafts = record {
    event = record { place = at; given = hand bytes };
    happens = happens;
    is = handed_is proto w at bytes y left new handed is;
    rests = record {
      setup = handed_setup proto bytes at (watching_of w) y w.left left w.cast new handed is;
      packets = refl;
      seen = refl;
      lines = refl;
      forged = handed_forged proto bytes at (watching_of w) y w.left left w.cast new handed is;
      collided = handed_collided proto bytes at (watching_of w) y w.left left w.cast new handed is;
    };
    drafts = drafts;
  }

  module _ (s : Core P) (there : core_at w.cast at ≡ Some s) (effects : Effects) where
    pub command_taken : (bytes : ArrayVec ℕ) → what ≡ Ok (record { place = at; given = ask bytes }) → IsTaken proto w.cast at s (cue_command bytes) new effects.outs effects.marks.items effects.spent
        → HasTaken proto w (record w { cast = new }) at what (Heard None false effects)
    command_taken bytes happens taken = record {
      event = record { place = at; given = ask bytes };
      happens = happens;
      is = asked_is proto w at bytes s new effects there taken;
      rests = record { setup = taken_setup proto w.cast new at s (cue_command bytes) effects taken; packets = refl; seen = refl; lines = refl; forged = refl; collided = refl };
      drafts = taken.drafts;
    }

    pub time_taken : what ≡ Ok (record { place = at; given = ring }) → IsTaken proto w.cast at s cue_time new effects.outs effects.marks.items effects.spent
        → HasTaken proto w (record w { cast = new }) at what (Heard None false effects)
    time_taken happens taken = record {
      event = record { place = at; given = ring };
      happens = happens;
      is = rung_is proto w at s new effects there taken;
      rests = record { setup = taken_setup proto w.cast new at s cue_time effects taken; packets = refl; seen = refl; lines = refl; forged = refl; collided = refl };
      drafts = taken.drafts;
    }

-- a command that a core took or refused
pub asks_there : {P : Type 0} (w : World P) (at : Place) (command : ArrayVec ℕ) (s : Core P) → core_at w.cast at ≡ Some s
    → (refusal : Option CommandFault) → command_refusal s ≡ refusal → asked_at at command (core_at w.cast at) ≡ refuse_command refusal at command
asks_there w at command s there refusal is = ap (asked_at at command) there ∙ ap (λ o. refuse_command o at command) is
