-- Turns one after the other.
use Rattle.std.proofs.Common.{◌≡◌, ◌⊎◌, ℕ, ◌+◌, ◌<◌, List, [], ◌∷◌, length, Option, true, false, Ok, Err, IfSome, inl, inr, refl, ap, sym, subst, ◌∙◌, arith}
use Rattle.std.specs.Option.{option_map}
use Rattle.ab_io.specs.Readings.{Readings, next_reading, later_readings}
use Rattle.ab_loop.specs.declared.fault.ServeFault.{ServeFault}
use Rattle.ab_loop.specs.Cores.{Rules}
use Rattle.ab_disk.specs.Disks.{DiskModel}
use Rattle.ab_loop.specs.Edges.{capped, Edge, Crash, LeavesFront}
use Rattle.ab_loop.specs.Nodes.{Node, turn_step, first_step, begin_step, new_node, is_done, Follows, Takes, IsNext, left_by}
use Rattle.ab_loop.specs.Runs.{Start, Turns, end_of, HasEnded, AreLeft, to_come_after, HasRun, HasBroken}
use Rattle.ab_loop.proofs.CrashLemmas.{crash_then}
use Rattle.ab_loop.proofs.FollowsLemmas.{cause_later, crash_both, follows_both, rises_some, rises_then}
use Rattle.ab_loop.proofs.DidLemmas.{all_nothing}
use Rattle.ab_loop.proofs.TurnLemmas.{later_left}

-- where the turns so far have led
pub record Driving {C : Type 0} (rules : Rules C) (x : Start C) (node : Node C) (lost : ℕ) (o1 o2 : Edge) (crash : Crash) (clock : Option Readings) (count : ℕ) : Type 0 where
  pub turns : Turns rules x
  pub follows : Follows node o1 o2 crash (end_of rules x turns) (Ok lost)
  pub left : AreLeft x turns.turns clock o2.link.to_come
  pub count_is : length turns.turns ≡ count

module _ {C : Type 0} (rules : Rules C) (x : Start C) where
  pub no_turns : (first : ℕ) → IfSome x.clock (λ r. first ≡ next_reading r) → Turns rules x
  no_turns first is = record { first = first; turns = []; first_is = is; told = tt; wanted = tt; within = omega arith }

  pub drive_begins : (first lost : ℕ) (node : Node C) (o1 o2 : Edge) (crash : Crash) (clock : Option Readings)
      → IfSome x.clock (λ r. first ≡ next_reading r)
      → clock ≡ option_map later_readings x.clock → o2.link.to_come ≡ x.link
      → (start : Node C) → start ≡ new_node x.setting first x.core x.commands
      → Follows node o1 o2 crash (begin_step rules x.setting first x.past start) (Ok lost)
      → Driving rules x node lost o1 o2 crash clock 0
  unfolding first_step no_turns
  drive_begins first lost node o1 o2 crash clock is c l start new follows = record {
    turns = no_turns first is;
    follows = subst (λ (n : Node C). Follows node o1 o2 crash (begin_step rules x.setting first x.past n) (Ok lost)) new follows;
    left = record { clock_is = c; link_is = l };
    count_is = refl;
  }

  pub drive_breaks_first : (first : ℕ) (node : Node C) (o1 o2 : Edge) (crash : Crash) (clock : Option Readings) (why : ServeFault)
      → IfSome x.clock (λ r. first ≡ next_reading r)
      → clock ≡ option_map later_readings x.clock → o2.link.to_come ≡ x.link
      → (start : Node C) → start ≡ new_node x.setting first x.core x.commands
      → Follows node o1 o2 crash (begin_step rules x.setting first x.past start) (Err why)
      → HasBroken rules x o1 o2 crash clock why
  unfolding first_step no_turns
  drive_breaks_first first node o1 o2 crash clock why is c l start new follows =
      let g = subst (λ (n : Node C). Follows node o1 o2 crash (begin_step rules x.setting first x.past n) (Err why)) new follows in
      record {
        front = record {
          turns = no_turns first is;
          lost = 0;
          did = record { between = o1; whole = all_nothing o1; part = g.did };
          clock_is = c;
          link_is = inl l;
          any_moment = g.any_moment;
        };
        counted = g.counted;
      }

  one_more : {node : Node C} {lost : ℕ} {o1 o2 : Edge} {crash : Crash} {clock : Option Readings} {count : ℕ}
      (d : Driving rules x node lost o1 o2 crash clock count) (t : ℕ) (got : Option (List ℕ))
      → is_done x.setting node ≡ false → count < x.turns → IfSome clock (λ r. t ≡ next_reading r) → IfSome o2.link.to_come (λ datagrams. IsNext datagrams got) → Turns rules x
  one_more {node = node} {clock = clock} d t got open_ some reading next = record {
    first = d.turns.first;
    turns = record { reading = t; got = got } ∷ d.turns.turns;
    first_is = d.turns.first_is;
    told = (
      d.turns.told,
      subst (λ (k : Option Readings). IfSome k (λ r. t ≡ next_reading r)) d.left.clock_is reading,
      subst (λ (k : Option (List (List ℕ))). IfSome k (λ datagrams. IsNext datagrams got)) d.left.link_is next,
    );
    wanted = (d.turns.wanted, ap (is_done x.setting) (sym d.follows.node) ∙ open_);
    within = omega (arith, some, d.count_is);
  }

  module _ {D : Type 0} (m : DiskModel D) (list_of : List ℕ → List (List ℕ)) where
    -- what a crash leaves from an edge on, over these states of the disk
    abbrev crash_from : Edge → D → D → Crash
    crash_from o d e = LeavesFront m list_of o.keep.kept d e

    pub drive_next : (node next : Node C) (lost more total : ℕ) (o1 o2 o3 : Edge) (d1 d2 d3 : D) (clock clock' : Option Readings) (count t : ℕ)
        → Driving rules x node lost o1 o2 (crash_from o1 d1 d2) clock count
        → is_done x.setting node ≡ false → count < x.turns → IfSome clock (λ r. t ≡ next_reading r) → clock' ≡ option_map later_readings clock
        → Takes (λ got. turn_step rules x.setting (record { reading = t; got = got }) node) next o2 o3 (crash_from o2 d2 d3) (Ok more)
        → total ≡ capped (lost + more)
        → Driving rules x next total o1 o3 (crash_from o1 d1 d3) clock' (count + 1)
    unfolding one_more
    drive_next node next lost more total o1 o2 o3 d1 d2 d3 clock clock' count t d open_ some reading later takes sum = record {
      turns = one_more d t takes.got open_ some reading takes.next;
      follows = follows_both node next o1 o2 o3 (crash_from o1 d1 d2) (crash_from o2 d2 d3) (crash_from o1 d1 d3)
          (λ a b kept p q. crash_then m list_of o1.keep.kept o2.keep.kept d1 d2 d3 a b kept p q)
          (end_of rules x d.turns) (turn_step rules x.setting (record { reading = t; got = takes.got })) lost more total sum d.follows takes.follows;
      left = record { clock_is = later ∙ ap (option_map later_readings) d.left.clock_is; link_is = takes.left ∙ ap (left_by takes.got) d.left.link_is };
      count_is = omega (arith, d.count_is);
    }

    pub drive_breaks : (node next : Node C) (lost : ℕ) (o1 o2 o3 : Edge) (d1 d2 d3 : D) (clock clock' : Option Readings) (count t : ℕ) (why : ServeFault)
        → Driving rules x node lost o1 o2 (crash_from o1 d1 d2) clock count
        → is_done x.setting node ≡ false → count < x.turns → IfSome clock (λ r. t ≡ next_reading r) → clock' ≡ option_map later_readings clock
        → Takes (λ got. turn_step rules x.setting (record { reading = t; got = got }) node) next o2 o3 (crash_from o2 d2 d3) (Err why)
        → HasBroken rules x o1 o3 (crash_from o1 d1 d3) clock' why
    unfolding one_more
    drive_breaks node next lost o1 o2 o3 d1 d2 d3 clock clock' count t why d open_ some reading later takes =
        let there = subst (λ (n : Node C). Follows next o2 o3 (crash_from o2 d2 d3) (turn_step rules x.setting (record { reading = t; got = takes.got }) n) (Err why)) d.follows.node takes.follows in
        record {
          front = record {
            turns = one_more d t takes.got open_ some reading takes.next;
            lost = lost;
            did = record { between = o2; whole = d.follows.did; part = there.did };
            clock_is = later ∙ ap (option_map later_readings) d.left.clock_is;
            link_is = later_left takes.got (to_come_after x.link d.turns.turns) o2.link.to_come o3.link.to_come why d.left.link_is takes.left;
            any_moment = crash_both o1 o2 (crash_from o1 d1 d2) (crash_from o2 d2 d3) (crash_from o1 d1 d3)
                (end_of rules x d.turns).effects (turn_step rules x.setting (record { reading = t; got = takes.got }) (end_of rules x d.turns).node).effects
                (λ a b kept p q. crash_then m list_of o1.keep.kept o2.keep.kept d1 d2 d3 a b kept p q) d.follows.did.did.kept d.follows.any_moment there.any_moment;
          };
          counted = (rises_some o1 o3 (capped (lost + 0)) (rises_then o1 o2 o3 lost 0 (capped (lost + 0)) refl d.follows.counted there.counted.0), cause_later why o1 o2 o3 lost d.follows.counted there.counted.1);
        }

  ended : (node : Node C) (lost : ℕ) (o1 o2 : Edge) (crash : Crash) (clock : Option Readings) (count : ℕ)
      → (d : Driving rules x node lost o1 o2 crash clock count) → (is_done x.setting node ≡ true) ⊎ (count ≡ x.turns) → HasEnded rules x d.turns
  ended node lost o1 o2 crash clock count d (inl done) = inl (ap (is_done x.setting) (sym d.follows.node) ∙ done)
  ended node lost o1 o2 crash clock count d (inr used) = inr (d.count_is ∙ used)

  pub drive_done : (node : Node C) (lost : ℕ) (o1 o2 : Edge) (crash : Crash) (clock : Option Readings) (count : ℕ)
      → Driving rules x node lost o1 o2 crash clock count → (is_done x.setting node ≡ true) ⊎ (count ≡ x.turns) → HasRun rules x o1 o2 crash clock node lost
  drive_done node lost o1 o2 crash clock count d end = record { turns = d.turns; ends = ended node lost o1 o2 crash clock count d end; follows = d.follows; left = d.left }
