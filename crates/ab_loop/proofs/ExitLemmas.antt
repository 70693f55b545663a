-- At each exit a node has done what a stopped run does.
use Rattle.std.proofs.Common.{◌≡◌, ◌⊎◌, ℕ, List, [], ◌∷◌, ◌++◌, map, Option, Bool, Result, Ok, Err, IfOk, IfErr, inl, inr, refl, ap, sym, ◌∙◌, append_assoc, append-nil}
use Rattle.std.proofs.lemmas.Bool.{cases_Bool}
use Rattle.ab_io.specs.Readings.{Readings}
use Rattle.ab_loop.specs.declared.fault.ServeFault.{ServeFault}
use Rattle.ab_loop.specs.declared.fault.ServeFault.TheVariants as fault
use Rattle.ab_loop.specs.declared.serving.Served.{Served}
use Rattle.ab_loop.specs.Cores.{NodeEvent, Rules}
use Rattle.ab_loop.specs.Past.{body_of}
use Rattle.ab_loop.specs.Edges.{Crash, Did, DidUntil, Edge, Effect, bodies_in}
use Rattle.ab_loop.specs.Texts.{end_text}
use Rattle.ab_loop.specs.Nodes.{Out, Turn, first_step, kept_of, run_after}
use Rattle.ab_loop.specs.Runs.{BreaksOff, EndsUnsaid, HasFaultOf, HasServed, NeverBegan, NodeRun, Start, before_last, end_line, end_of, in_last}
use Rattle.ab_loop.specs.Folds.{core_after, kept_in}
use Rattle.ab_loop.specs.Lives.{IsExit, IsStopped, done_in}
use Rattle.ab_loop.proofs.OutsideLemmas.{grown_nil}
use Rattle.ab_loop.proofs.DidLemmas.{bodies_in-append, bodies_in-writing, did_then}
use Rattle.ab_loop.proofs.FoldLemmas.{follows_core}

-- ---- the events of which the bodies are kept

kept_events : {C : Type 0} (rules : Rules C) (core : C) (es : List NodeEvent) → (kept : List NodeEvent) × (kept_in rules core es ≡ map body_of kept)
kept_events rules core [] = ([], refl)
kept_events rules core (e ∷ es) =
    let done = rules.step core e in
    let rest = kept_events rules done.after es in
    elim (cases_Bool done.opened) [
      | inl opened ↦ (e ∷ rest.0, ap (λ (b : Bool). kept_of b e ++ kept_in rules done.after es) opened ∙ ap (λ (l : List (List ℕ)). body_of e ∷ l) rest.1)
      | inr none ↦ (rest.0, ap (λ (b : Bool). kept_of b e ++ kept_in rules done.after es) none ∙ rest.1)
    ]

front_events : (xs ys : List (List ℕ)) (zs : List NodeEvent) → xs ++ ys ≡ map body_of zs → (kept : List NodeEvent) × (xs ≡ map body_of kept)
front_events [] ys zs e = ([], refl)
front_events (x ∷ xs) ys [] e = let no : ⊥ = cc in absurd no
front_events (x ∷ xs) ys (z ∷ zs) e =
    let head : x ≡ body_of z = cc in
    let tail : xs ++ ys ≡ map body_of zs = cc in
    let rest = front_events xs ys zs tail in
    (z ∷ rest.0, ap (λ (y : List ℕ). y ∷ xs) head ∙ ap (λ (l : List (List ℕ)). body_of z ∷ l) rest.1)

module _ {C : Type 0} (rules : Rules C) (x : Start C) where
  -- a whole run over these turns
  abbrev run_of : ℕ → List Turn → Out C
  run_of first turns = run_after rules x.setting (first_step rules x.setting first x.core x.past x.commands) turns

  stops : (first : ℕ) (turns : List Turn) (lost : ℕ) (done left : List Effect) → done_in (run_of first turns) lost ≡ done ++ left
      → (kept : List NodeEvent) × IsStopped rules x.setting x.core x.past (record { done = done; kept = kept })
  stops first turns lost done left parts =
      let o = run_of first turns in
      let of = follows_core rules x.setting first x.core x.past x.commands turns in
      let events = kept_events rules (core_after rules x.core x.past) of.new in
      let line = end_text o.node.events o.node.sent lost o.node.spent in
      let all : bodies_in done ++ bodies_in left ≡ map body_of events.0 =
      sym (bodies_in-append done left) ∙ ap bodies_in (sym parts) ∙ bodies_in-append o.effects (end_line o.node lost) ∙ ap (λ (l : List (List ℕ)). bodies_in o.effects ++ l) (bodies_in-writing line)
      ∙ append-nil (bodies_in o.effects) ∙ of.kept ∙ events.1 in
      let front = front_events (bodies_in done) (bodies_in left) events.0 all in
      (front.0, record { reading = first; commands = x.commands; turns = turns; lost = lost; left = left; parts = parts; kept_are = front.1 })

  exits : (first : ℕ) (turns : List Turn) (lost : ℕ) (old new : Edge) (done left : List Effect) (went : List Bool) → done_in (run_of first turns) lost ≡ done ++ left → Did old new done went → IsExit rules x old new
  exits first turns lost old new done left went parts did =
      let st = stops first turns lost done left parts in
      record { run = record { done = done; kept = st.0 }; stopped = st.1; went = went; did = did }

  -- what is done until the last of these turns, and in it
  last_of : (start : Out C) (turns : List Turn) → (run_after rules x.setting start turns).effects ≡ before_last rules x.setting start turns ++ in_last rules x.setting start turns
  last_of start [] = refl
  last_of start (turn ∷ before) = refl

  -- all of one list, and a front of another
  until_exits : (first : ℕ) (turns : List Turn) (lost done_lost : ℕ) (old new : Edge) (before last rest : List Effect) → done_in (run_of first turns) lost ≡ before ++ (last ++ rest) → DidUntil old new before done_lost last
      → IsExit rules x old new
  until_exits first turns lost done_lost old new before last rest parts d =
      let p = d.part in
      let split : before ++ (last ++ rest) ≡ (before ++ p.done) ++ (p.left ++ rest) =
      ap (λ (l : List Effect). before ++ (l ++ rest)) p.parts ∙ ap (λ (l : List Effect). before ++ l) (append_assoc p.done p.left rest) ∙ sym (append_assoc before p.done (p.left ++ rest)) in
      exits first turns lost old new (before ++ p.done) (p.left ++ rest) (d.whole.went ++ p.went) (parts ∙ split) (did_then old d.between new before p.done d.whole.went p.went d.whole.did p.did)

  run_exits : (old new : Edge) (crash : Crash) (clock : Option Readings) (lost : ℕ) → NodeRun rules x old new crash clock lost → IsExit rules x old new
  run_exits old new crash clock lost r =
      let all = done_in (end_of rules x r.turns) lost in
      exits r.turns.first r.turns.turns lost old new all [] r.did.went (sym (append-nil all)) r.did.did

  -- nothing was done
  pub none_exits : (old new : Edge) → new.out.held ≡ old.out.held → new.link.sent ≡ old.link.sent → new.keep.kept ≡ old.keep.kept → IsExit rules x old new
  none_exits old new held sent kept =
      exits 0 [] 0 old new [] (done_in (run_of 0 []) 0) [] refl (record { each = refl; wrote = held ∙ grown_nil old.out.held; kept = kept ∙ grown_nil old.keep.kept; sent = sent ∙ grown_nil old.link.sent })

  front_exits : (old new : Edge) (crash : Crash) (clock : Option Readings) → NeverBegan x old new crash clock ⊎ (BreaksOff rules x old new crash clock ⊎ EndsUnsaid rules x old new crash clock) → IsExit rules x old new
  front_exits old new crash clock (inl none) = none_exits old new none.held none.sent none.kept
  front_exits old new crash clock (inr (inl broke)) =
      let start = first_step rules x.setting broke.turns.first x.core x.past x.commands in
      let before = before_last rules x.setting start broke.turns.turns in
      let last = in_last rules x.setting start broke.turns.turns in
      let line = end_line (end_of rules x broke.turns).node 0 in
      until_exits broke.turns.first broke.turns.turns 0 broke.lost old new before last line (ap (λ (l : List Effect). l ++ line) (last_of start broke.turns.turns) ∙ append_assoc before last line) broke.did
  front_exits old new crash clock (inr (inr unsaid)) =
      let o = end_of rules x unsaid.turns in
      let line = end_line o.node unsaid.lost in
      until_exits unsaid.turns.first unsaid.turns.turns unsaid.lost unsaid.lost old new o.effects line [] (ap (λ (l : List Effect). o.effects ++ l) (sym (append-nil line))) unsaid.did

  pub fault_exits : (old new : Edge) (crash : Crash) (clock : Option Readings) (why : ServeFault) → HasFaultOf rules x old new crash clock why → IsExit rules x old new
  fault_exits old new crash clock fault.LinkFailed f = front_exits old new crash clock f.front
  fault_exits old new crash clock fault.WriteFailed f = front_exits old new crash clock f.front
  fault_exits old new crash clock fault.KeepFailed f = front_exits old new crash clock f.front
  fault_exits old new crash clock fault.OutOfMemory f = front_exits old new crash clock f.front
  fault_exits old new crash clock (fault.TurnsSpent n) f = run_exits old new crash clock f.lost f.run

  pub served_exits : (old new : Edge) (crash : Crash) (clock : Option Readings) (served : Served) → HasServed rules x old new crash clock served → IsExit rules x old new
  served_exits old new crash clock served h = run_exits old new crash clock served.lost h.run

  -- whatever is answered
  pub result_exits : (old new : Edge) (crash : Crash) (clock : Option Readings) (result : Result Served ServeFault) → IfOk result (λ served. HasServed rules x old new crash clock served)
      → IfErr result (λ why. HasFaultOf rules x old new crash clock why) → IsExit rules x old new
  result_exits old new crash clock (Ok served) ok err = served_exits old new crash clock served ok
  result_exits old new crash clock (Err why) ok err = fault_exits old new crash clock why err
