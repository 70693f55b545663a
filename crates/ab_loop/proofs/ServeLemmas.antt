-- A node from its start to its end.
use Rattle.std.proofs.Common.{◌≡◌, ◌⊎◌, ℕ, ◌+◌, ◌≤◌, ◌==◌, ◌&&◌, List, [], ◌++◌, length, Option, Bool, true, false, Err, inl, inr, refl, ap, sym, subst, ◌∙◌, eqb-true, arith}
use Rattle.arrayvec.specs.ArrayVec.{ArrayVec}
use Rattle.ab_io.specs.Causes.{Rose}
use Rattle.ab_io.specs.Readings.{Readings}
use Rattle.ab_io.specs.States.{ClockState, LinkState, SinkState}
use Rattle.ab_loop.specs.declared.fault.ServeFault.{ServeFault}
use Rattle.ab_loop.specs.declared.fault.ServeFault.TheVariants as fault
use Rattle.ab_loop.specs.declared.serving.Served.{Served}
use Rattle.ab_loop.specs.Settings.{NodeSetting}
use Rattle.ab_loop.specs.Cores.{NodeEvent, Rules}
use Rattle.ab_loop.specs.Edges.{capped, Effect, writing, KeepState, Edge, edge, Crash, grown, DidAll, DidUntil, SaysPart, SayFault, Counted}
use Rattle.ab_loop.specs.Texts.{end_text}
use Rattle.ab_loop.specs.Nodes.{Node, is_client}
use Rattle.ab_loop.specs.Runs.{Start, end_of, end_line, start_of, HasRun, HasBroken, NeverBegan, BreaksOff, EndsUnsaid, NodeRun, NodeFront, HasServed, HasFaultOf, ShowsNumbers, ShowsOpen}
use Rattle.ab_loop.proofs.DidLemmas.{all_after, all_said, all_then, part_said}
use Rattle.ab_loop.proofs.FollowsLemmas.{cause_later, counted_after, rises_after, rises_failed, say_fault}

-- ---- before the first event

pub nothing_done : {C : Type 0} (rules : Rules C) (x : Start C) (o : Edge) (crash : Crash) (clock : Option Readings) (why : ServeFault) → crash [] → clock ≡ x.clock → o.link.to_come ≡ x.link → Counted o o (Err why)
    → NodeFront rules x o o crash clock why
nothing_done rules x o crash clock why still same told c =
    record { front = inl (record { held = refl; sent = refl; kept = refl; clock_is = same; link_is = told; any_moment = still }); counted = c }

pub not_opened : {C : Type 0} (rules : Rules C) (x : Start C) (out : SinkState) (a b : LinkState) (k : KeepState) (crash : Crash) (clock : Option Readings) → crash [] → clock ≡ x.clock → b.to_come ≡ x.link
    → b.sent ≡ a.sent → b.losses ≡ a.losses → a.faults ≤ b.faults → Rose a.faults b.faults
    → NodeFront rules x (edge out a k) (edge out b k) crash clock fault.LinkFailed
not_opened rules x out a b k crash clock still same told sent losses later rose = record {
  front = inl (record { held = refl; sent = sent; kept = refl; clock_is = same; link_is = told; any_moment = still });
  counted = (rises_failed out a b k later losses, rose);
}

-- ---- a fault in a turn

broken_front : {C : Type 0} (rules : Rules C) (x : Start C) (o1 o2 : Edge) (crash : Crash) (clock : Option Readings) (why : ServeFault) → HasBroken rules x o1 o2 crash clock why → NodeFront rules x o1 o2 crash clock why
broken_front rules x o1 o2 crash clock why b = record { front = inr (inl b.front); counted = b.counted }

pub broke_fails : {C : Type 0} (rules : Rules C) (x : Start C) (o1 o2 : Edge) (crash : Crash) (clock : Option Readings) (why : ServeFault) → HasBroken rules x o1 o2 crash clock why → HasFaultOf rules x o1 o2 crash clock why
broke_fails rules x o1 o2 crash clock fault.LinkFailed b = broken_front rules x o1 o2 crash clock fault.LinkFailed b
broke_fails rules x o1 o2 crash clock fault.WriteFailed b = broken_front rules x o1 o2 crash clock fault.WriteFailed b
broke_fails rules x o1 o2 crash clock fault.OutOfMemory b = broken_front rules x o1 o2 crash clock fault.OutOfMemory b
broke_fails rules x o1 o2 crash clock fault.KeepFailed b = broken_front rules x o1 o2 crash clock fault.KeepFailed b
broke_fails rules x o1 o2 crash clock (fault.TurnsSpent n) b = absurd b.counted.1

-- ---- the link was opened before

module _ {C : Type 0} (rules : Rules C) (x : Start C) (out : SinkState) (a b : LinkState) (k : KeepState) (o : Edge) (crash : Crash) (clock : Option Readings) (sent : b.sent ≡ a.sent) (losses : b.losses ≡ a.losses) (later : a.faults ≤ b.faults) where
  run_opened : (lost : ℕ) → NodeRun rules x (edge out b k) o crash clock lost → NodeRun rules x (edge out a k) o crash clock lost
  run_opened lost r = record {
    turns = r.turns;
    ends = r.ends;
    did = all_after out a b k o ((end_of rules x r.turns).effects ++ end_line (end_of rules x r.turns).node lost) lost sent r.did;
    left = r.left;
    counted = rises_after out a b k o lost later losses r.counted;
    any_moment = r.any_moment;
  }

  -- a front that begins with a list that was done whole
  until_opened : (before last : List Effect) (lost : ℕ) → DidUntil (edge out b k) o before lost last → DidUntil (edge out a k) o before lost last
  until_opened before last lost d = record { between = d.between; whole = all_after out a b k d.between before lost sent d.whole; part = d.part }

  stop_opened : NeverBegan x (edge out b k) o crash clock ⊎ (BreaksOff rules x (edge out b k) o crash clock ⊎ EndsUnsaid rules x (edge out b k) o crash clock)
      → NeverBegan x (edge out a k) o crash clock ⊎ (BreaksOff rules x (edge out a k) o crash clock ⊎ EndsUnsaid rules x (edge out a k) o crash clock)
  stop_opened (inl none) = inl (record { held = none.held; sent = none.sent ∙ sent; kept = none.kept; clock_is = none.clock_is; link_is = none.link_is; any_moment = none.any_moment })
  stop_opened (inr (inl broke)) = inr (inl (record {
    turns = broke.turns;
    lost = broke.lost;
    did = until_opened _ _ broke.lost broke.did;
    clock_is = broke.clock_is;
    link_is = broke.link_is;
    any_moment = broke.any_moment;
  }))
  stop_opened (inr (inr unsaid)) = inr (inr (record {
    turns = unsaid.turns;
    ends = unsaid.ends;
    lost = unsaid.lost;
    did = until_opened _ _ unsaid.lost unsaid.did;
    left = unsaid.left;
    any_moment = unsaid.any_moment;
  }))

  front_opened : (why : ServeFault) → NodeFront rules x (edge out b k) o crash clock why → NodeFront rules x (edge out a k) o crash clock why
  front_opened why r = record { front = stop_opened r.front; counted = counted_after out a b k o (Err why) later losses r.counted }

  pub answers_opened : (served : Served) → HasServed rules x (edge out b k) o crash clock served → HasServed rules x (edge out a k) o crash clock served
  unfolding run_opened
  answers_opened served r = record { run = run_opened served.lost r.run; events = r.events; sent = r.sent; spent = r.spent; answered = r.answered }

  pub fails_opened : (why : ServeFault) → HasFaultOf rules x (edge out b k) o crash clock why → HasFaultOf rules x (edge out a k) o crash clock why
  unfolding run_opened
  fails_opened fault.LinkFailed r = front_opened fault.LinkFailed r
  fails_opened fault.WriteFailed r = front_opened fault.WriteFailed r
  fails_opened fault.KeepFailed r = front_opened fault.KeepFailed r
  fails_opened fault.OutOfMemory r = front_opened fault.OutOfMemory r
  fails_opened (fault.TurnsSpent n) r = record { lost = r.lost; run = run_opened r.lost r.run; used = r.used; client = r.client; some = r.some; unanswered = r.unanswered }

-- the same start, where the link tells the same
pub same_start : {C : Type 0} (P : Start C → Type 0) (setting : NodeSetting) (turns : ℕ) (core : C) (past : List NodeEvent) (commands : List (ArrayVec ℕ)) (clock : ClockState) (a b : LinkState)
    → b.to_come ≡ a.to_come → P (start_of setting turns core past commands clock b) → P (start_of setting turns core past commands clock a)
same_start P setting turns core past commands clock a b e p =
    subst (λ (y : Option (List (List ℕ))). P (record { setting = setting; turns = turns; core = core; past = past; commands = commands; clock = clock.readings; link = y })) e p

-- ---- the line of the end

did_end : (o1 : Edge) (a b : SinkState) (l : LinkState) (k : KeepState) (e : List Effect) (text : List ℕ) (lost : ℕ) → DidAll o1 (edge a l k) e lost → b.held ≡ grown a.held text
    → DidAll o1 (edge b l k) (e ++ writing text) lost
did_end o1 a b l k e text lost d wrote =
    let same : capped (lost + 0) ≡ lost = omega (arith, d.lost_are) in
    subst (λ (n : ℕ). DidAll o1 (edge b l k) (e ++ writing text) n) same (all_then o1 (edge a l k) (edge b l k) e (writing text) lost 0 d (all_said a b l k text wrote))

done_none : (a : Bool) (n : ℕ) → a && (n == 0) ≡ true → n ≡ 0
done_none true n e = eqb-true n 0 e
done_none false n e = cc

module _ {C : Type 0} (rules : Rules C) (x : Start C) (o1 : Edge) (a b : SinkState) (l : LinkState) (k : KeepState) (crash : Crash) (clock : Option Readings) (node : Node C) where
  run_ends : (lost : ℕ) → HasRun rules x o1 (edge a l k) crash clock node lost → b.held ≡ grown a.held (end_text node.events node.sent lost node.spent) → a.faults ≤ b.faults
      → NodeRun rules x o1 (edge b l k) crash clock lost
  run_ends lost d wrote later = record {
    turns = d.turns;
    ends = d.ends;
    did = did_end o1 a b l k (end_of rules x d.turns).effects (end_text (end_of rules x d.turns).node.events (end_of rules x d.turns).node.sent lost (end_of rules x d.turns).node.spent) lost d.follows.did
        (subst (λ (n : Node C). b.held ≡ grown a.held (end_text n.events n.sent lost n.spent)) d.follows.node wrote);
    left = d.left;
    counted = record {
      link = d.follows.counted.link;
      out = omega (arith, d.follows.counted.out);
      keep = d.follows.counted.keep;
      later = d.follows.counted.later;
      losses = d.follows.counted.losses;
    };
    any_moment = d.follows.any_moment;
  }

  well_at : (served : Served) → HasRun rules x o1 (edge a l k) crash clock node served.lost → b.held ≡ grown a.held (end_text node.events node.sent served.lost node.spent) → a.faults ≤ b.faults
      → (lost : ℕ) → ShowsNumbers x.setting node lost served → HasServed rules x o1 (edge b l k) crash clock served
  unfolding run_ends
  well_at served d wrote later lost w =
      let there : ShowsNumbers x.setting (end_of rules x d.turns).node lost served = subst (λ (n : Node C). ShowsNumbers x.setting n lost served) d.follows.node w in
      record {
        run = run_ends served.lost d wrote later;
        events = there.events;
        sent = there.sent;
        spent = there.spent;
        answered = there.answered;
      }

  pub ends_well : (lost : ℕ) → HasRun rules x o1 (edge a l k) crash clock node lost → b.held ≡ grown a.held (end_text node.events node.sent lost node.spent) → a.faults ≤ b.faults
      → (served : Served) → ShowsNumbers x.setting node lost served → HasServed rules x o1 (edge b l k) crash clock served
  ends_well lost d wrote later served w =
      well_at served (subst (λ (n : ℕ). HasRun rules x o1 (edge a l k) crash clock node n) (sym w.lost_is) d)
      (subst (λ (n : ℕ). b.held ≡ grown a.held (end_text node.events node.sent n node.spent)) (sym w.lost_is) wrote) later lost w

  pub ends_open : (lost : ℕ) → HasRun rules x o1 (edge a l k) crash clock node lost → b.held ≡ grown a.held (end_text node.events node.sent lost node.spent) → a.faults ≤ b.faults
      → (why : ServeFault) → ShowsOpen x.setting node why → HasFaultOf rules x o1 (edge b l k) crash clock why
  unfolding run_ends
  ends_open lost d wrote later fault.LinkFailed e = absurd e
  ends_open lost d wrote later fault.WriteFailed e = absurd e
  ends_open lost d wrote later fault.KeepFailed e = absurd e
  ends_open lost d wrote later fault.OutOfMemory e = absurd e
  ends_open lost d wrote later (fault.TurnsSpent n) e =
      let open_ : n ≡ length (end_of rules x d.turns).node.commands = e.2 ∙ ap (λ (m : Node C). length m.commands) d.follows.node in
      record {
        lost = lost;
        run = run_ends lost d wrote later;
        used = elim d.ends [
          | inl done ↦ (let none = done_none (is_client x.setting.me) (length (end_of rules x d.turns).node.commands) done in let no : ⊥ = omega (arith, open_, none, e.1) in absurd no)
          | inr used ↦ used
        ];
        client = e.0;
        some = e.1;
        unanswered = open_;
      }

  unsaid_front : (lost : ℕ) → HasRun rules x o1 (edge a l k) crash clock node lost → SaysPart a.held b.held (end_text node.events node.sent lost node.spent) → a.faults ≤ b.faults
      → (why : ServeFault) → SayFault why a.faults b.faults → NodeFront rules x o1 (edge b l k) crash clock why
  unsaid_front lost d part later why c =
      let end = (end_of rules x d.turns).node in
      record {
        front = inr (inr (record {
          turns = d.turns;
          ends = d.ends;
          lost = lost;
          did = record {
            between = edge a l k;
            whole = d.follows.did;
            part = part_said a b l k (end_text end.events end.sent lost end.spent) (subst (λ (n : Node C). SaysPart a.held b.held (end_text n.events n.sent lost n.spent)) d.follows.node part);
          };
          left = d.left;
          any_moment = d.follows.any_moment;
        }));
        counted = (
          record {
            link = d.follows.counted.link;
            out = omega (arith, d.follows.counted.out);
            keep = d.follows.counted.keep;
            later = d.follows.counted.later;
            losses = omega (arith, d.follows.counted.later);
          },
          cause_later why o1 (edge a l k) (edge b l k) lost d.follows.counted (say_fault why a b l k c),
        );
      }

  pub end_unsaid : (lost : ℕ) → HasRun rules x o1 (edge a l k) crash clock node lost → SaysPart a.held b.held (end_text node.events node.sent lost node.spent) → a.faults ≤ b.faults
      → (why : ServeFault) → SayFault why a.faults b.faults → HasFaultOf rules x o1 (edge b l k) crash clock why
  end_unsaid lost d part later fault.LinkFailed c = absurd c
  end_unsaid lost d part later fault.WriteFailed c = unsaid_front lost d part later fault.WriteFailed c
  end_unsaid lost d part later fault.OutOfMemory c = unsaid_front lost d part later fault.OutOfMemory c
  end_unsaid lost d part later fault.KeepFailed c = absurd c
  end_unsaid lost d part later (fault.TurnsSpent n) c = absurd c
