-- The parts of a turn, by what is known of them.
use Rattle.std.proofs.Common.{◌≡◌, ℕ, zero, suc, ◌+◌, ◌≤◌, List, [], ◌∷◌, length, drop, Option, None, Some, true, false, if◌then◌else◌, Result, Ok, Err, refl, ap, sym, subst, ◌∙◌, arith}
use Rattle.std.proofs.Math.Seq.{drop-nil}
use Rattle.std.proofs.Math.ListN.{drop_of_length-le}
use Rattle.ab_piece.specs.Joining.{Answer, step_of}
use Rattle.ab_loop.specs.declared.party_core.Commit.{Commit}
use Rattle.ab_loop.specs.Settings.{NodeSetting}
use Rattle.ab_disk.specs.Disks.{DiskModel}
use Rattle.ab_loop.specs.Cores.{NodeEvent, Rules}
use Rattle.ab_loop.specs.declared.fault.ServeFault.{ServeFault}
use Rattle.ab_io.specs.States.{LinkState, SinkState}
use Rattle.ab_loop.specs.Edges.{capped, KeepState, Edge, edge, grown, SaysPart, SayFault, Crash, LeavesFront}
use Rattle.ab_loop.proofs.FollowsLemmas.{follows_again, follows_is, follows_still, follows_not_again, follows_then, follows_said, follows_unsaid, follows_both, follows_first_err, follows_second_err}
use Rattle.ab_loop.specs.Texts.{reply_text}
use Rattle.ab_loop.proofs.CrashLemmas.{Joins, crash_more, crash_then}
use Rattle.ab_loop.specs.Nodes.{Node, Out, no_step, told_step, and_then, begin_step, past_step, past_text, waits_in, datagram_step, joined_step, with_joiner, reply_step, command_step, after_reply, timer_step, turn_step, Follows, Leaves}

pub drop_next : {A : Type 0} (xs : List A) (d : ℕ) → drop (d + 1) xs ≡ drop 1 (drop d xs)
drop_next [] d = drop-nil (d + 1) ∙ sym (ap (drop 1) (drop-nil d))
drop_next (x ∷ xs) zero = refl
drop_next (x ∷ xs) (suc d) = let e : suc d + 1 ≡ suc (d + 1) = omega arith in ap (λ n. drop n (x ∷ xs)) e ∙ drop_next xs d

pub drop_end : {A : Type 0} (xs : List A) (d : ℕ) → length xs ≤ d → drop d xs ≡ drop 1 (drop d xs)
drop_end xs d le = let e = drop_of_length-le xs {i = d} le in e ∙ sym (ap (drop 1) e)

pub datagram_step_is : {C : Type 0} (rules : Rules C) (s : NodeSetting) (t : ℕ) (node : Node C) (bytes : List ℕ) (a : Answer) → a ≡ (step_of node.joiner bytes).answer
    → datagram_step rules s t (Some bytes) node ≡ joined_step rules s t a (with_joiner (step_of node.joiner bytes).after node)
unfolding datagram_step
datagram_step_is rules s t node bytes a e = ap (λ x. joined_step rules s t x (with_joiner (step_of node.joiner bytes).after node)) (sym e)

pub reply_step_some : {C : Type 0} (rules : Rules C) (s : NodeSetting) (t : ℕ) (node : Node C) (c : Commit) → node.commit ≡ Some c
    → reply_step rules s t node ≡ and_then (told_step (after_reply node) c) (command_step rules s t)
unfolding reply_step
reply_step_some rules s t node c e = rw e

pub reply_step_none : {C : Type 0} (rules : Rules C) (s : NodeSetting) (t : ℕ) (node : Node C) → node.commit ≡ None → reply_step rules s t node ≡ no_step node
unfolding reply_step
reply_step_none rules s t node e = rw e

-- ---- a reply

module _ {C D : Type 0} (m : DiskModel D) (list_of : List ℕ → List (List ℕ)) (rules : Rules C) (s : NodeSetting) (t : ℕ) where
  pub replies : (d e : D) (node n1 n2 : Node C) (c : Commit) (a b : SinkState) (l : LinkState) (k : KeepState) (o : Edge) (r : Result ℕ ServeFault)
      → LeavesFront m list_of k.kept d d [] → node.commit ≡ Some c → n1 ≡ after_reply node → b.held ≡ grown a.held (reply_text c) → a.faults ≤ b.faults
      → Follows n2 (edge b l k) o (LeavesFront m list_of k.kept d e) (command_step rules s t n1) r
      → Follows n2 (edge a l k) o (LeavesFront m list_of k.kept d e) (reply_step rules s t node) r
  replies d e node n1 n2 c a b l k o r still commit same wrote out second =
      let first : Out C = told_step (after_reply node) c in
      let here = LeavesFront m list_of k.kept d d in
      let later = LeavesFront m list_of k.kept d e in
      follows_is n2 (edge a l k) o later (and_then first (command_step rules s t)) (reply_step rules s t node) r (reply_step_some rules s t node c commit)
      (follows_then n1 n2 (edge a l k) (edge b l k) o here later later (λ x y kept p q. crash_then m list_of k.kept k.kept d d e x y kept p q) first (command_step rules s t) r
      (follows_said n1 (after_reply node) a b l k here c still same wrote out) second)

  pub reply_fails : (d e : D) (node n1 : Node C) (c : Commit) (a b : SinkState) (l : LinkState) (k : KeepState) (why : ServeFault)
      → LeavesFront m list_of k.kept d e [] → node.commit ≡ Some c → SaysPart a.held b.held (reply_text c) → a.faults ≤ b.faults → SayFault why a.faults b.faults
      → Follows n1 (edge a l k) (edge b l k) (LeavesFront m list_of k.kept d e) (reply_step rules s t node) (Err why)
  reply_fails d e node n1 c a b l k why still commit part out cause =
      let first : Out C = told_step (after_reply node) c in
      let here = LeavesFront m list_of k.kept d e in
      follows_is n1 (edge a l k) (edge b l k) here (and_then first (command_step rules s t)) (reply_step rules s t node) (Err why) (reply_step_some rules s t node c commit)
      (follows_first_err n1 (edge a l k) (edge b l k) here (λ x y p. crash_more m list_of k.kept d e x y p) first (command_step rules s t) why
      (follows_unsaid n1 (after_reply node) a b l k here c why still part out cause))

  -- ---- events of earlier runs

  -- no command is asked for
  pub begins_waiting : (d : D) (past : List NodeEvent) (node n1 : Node C) (a b : SinkState) (l : LinkState) (k : KeepState)
      → LeavesFront m list_of k.kept d d [] → true ≡ waits_in rules node.core false past → n1 ≡ (past_step rules s t past node).node
      → b.held ≡ grown a.held (past_text rules s node.core past) → a.faults ≤ b.faults
      → Follows n1 (edge a l k) (edge b l k) (LeavesFront m list_of k.kept d d) (begin_step rules s t past node) (Ok 0)
  unfolding begin_step
  begins_waiting d past node n1 a b l k still waits same wrote out =
      let first : Out C = past_step rules s t past node in
      let here = LeavesFront m list_of k.kept d d in
      rw (sym waits) (follows_then n1 n1 (edge a l k) (edge b l k) (edge b l k) here here here (λ x y kept p q. crash_then m list_of k.kept k.kept d d d x y kept p q) first no_step (Ok 0)
      (follows_again n1 first a b l k here (past_text rules s node.core past) still refl same wrote out) (follows_still n1 (edge b l k) here still))

  pub begins : (d e : D) (past : List NodeEvent) (node n1 n2 : Node C) (a b : SinkState) (l : LinkState) (k : KeepState) (o : Edge) (r : Result ℕ ServeFault)
      → LeavesFront m list_of k.kept d d [] → false ≡ waits_in rules node.core false past → n1 ≡ (past_step rules s t past node).node
      → b.held ≡ grown a.held (past_text rules s node.core past) → a.faults ≤ b.faults
      → Follows n2 (edge b l k) o (LeavesFront m list_of k.kept d e) (command_step rules s t n1) r
      → Follows n2 (edge a l k) o (LeavesFront m list_of k.kept d e) (begin_step rules s t past node) r
  unfolding begin_step
  begins d e past node n1 n2 a b l k o r still waits same wrote out second =
      let first : Out C = past_step rules s t past node in
      let here = LeavesFront m list_of k.kept d d in
      let later = LeavesFront m list_of k.kept d e in
      rw (sym waits) (follows_then n1 n2 (edge a l k) (edge b l k) o here later later (λ x y kept p q. crash_then m list_of k.kept k.kept d d e x y kept p q) first (command_step rules s t) r
      (follows_again n1 first a b l k here (past_text rules s node.core past) still refl same wrote out) second)

  pub begin_fails : (d e : D) (past : List NodeEvent) (node n1 : Node C) (a b : SinkState) (l : LinkState) (k : KeepState) (why : ServeFault)
      → LeavesFront m list_of k.kept d e [] → SaysPart a.held b.held (past_text rules s node.core past) → a.faults ≤ b.faults → SayFault why a.faults b.faults
      → Follows n1 (edge a l k) (edge b l k) (LeavesFront m list_of k.kept d e) (begin_step rules s t past node) (Err why)
  unfolding begin_step
  begin_fails d e past node n1 a b l k why still part out cause =
      let first : Out C = past_step rules s t past node in
      let here = LeavesFront m list_of k.kept d e in
      follows_first_err n1 (edge a l k) (edge b l k) here (λ x y p. crash_more m list_of k.kept d e x y p) first (if waits_in rules node.core false past then no_step else command_step rules s t) why
      (follows_not_again n1 first a b l k here (past_text rules s node.core past) why still refl part out cause)

-- ---- a turn

-- what is to come after a later part of a turn that was broken off
pub later_left : (got : Option (List ℕ)) (a b c : Option (List (List ℕ))) (why : ServeFault) → b ≡ a → Leaves got b c (Err why) → Leaves got a c (Err why)
later_left got a b c why same left = subst (λ (k : Option (List (List ℕ))). Leaves got k c (Err why)) same left

module _ {C D : Type 0} (m : DiskModel D) (list_of : List ℕ → List (List ℕ)) (rules : Rules C) (s : NodeSetting) (t : ℕ) (got : Option (List ℕ)) (node : Node C) where
  -- what a crash leaves between two edges, over these states of the disk
  abbrev crash : Edge → D → D → Crash
  crash o d e = LeavesFront m list_of o.keep.kept d e

  joins : (o1 o2 : Edge) (d e f : D) → Joins o1 o2 (crash o1 d e) (crash o2 e f) (crash o1 d f)
  joins o1 o2 d e f x y kept p q = crash_then m list_of o1.keep.kept o2.keep.kept d e f x y kept p q

  -- timer and link had their say
  until_taken : (n1 n2 : Node C) (o0 o1 o2 : Edge) (d0 d1 d2 : D) (l k x : ℕ) → x ≡ capped (l + k)
      → Follows n1 o0 o1 (crash o0 d0 d1) (timer_step rules s t node) (Ok l) → Follows n2 o1 o2 (crash o1 d1 d2) (datagram_step rules s t got n1) (Ok k)
      → Follows n2 o0 o2 (crash o0 d0 d2) (and_then (timer_step rules s t node) (datagram_step rules s t got)) (Ok x)
  until_taken n1 n2 o0 o1 o2 d0 d1 d2 l k x e first second =
      follows_both n1 n2 o0 o1 o2 (crash o0 d0 d1) (crash o1 d1 d2) (crash o0 d0 d2) (λ a b kept p q. joins o0 o1 d0 d1 d2 a b kept p q) (timer_step rules s t node) (datagram_step rules s t got) l k x e first second

  pub turn_done : (n1 n2 n3 : Node C) (o0 o1 o2 o3 : Edge) (d0 d1 d2 d3 : D) (l k n x y : ℕ) → x ≡ capped (l + k) → y ≡ capped (x + n)
      → Follows n1 o0 o1 (crash o0 d0 d1) (timer_step rules s t node) (Ok l) → Follows n2 o1 o2 (crash o1 d1 d2) (datagram_step rules s t got n1) (Ok k)
      → Follows n3 o2 o3 (crash o2 d2 d3) (reply_step rules s t n2) (Ok n)
      → Follows n3 o0 o3 (crash o0 d0 d3) (turn_step rules s (record { reading = t; got = got }) node) (Ok y)
  unfolding turn_step
  turn_done n1 n2 n3 o0 o1 o2 o3 d0 d1 d2 d3 l k n x y e f first second third =
      follows_both n2 n3 o0 o2 o3 (crash o0 d0 d2) (crash o2 d2 d3) (crash o0 d0 d3) (λ a b kept p q. joins o0 o2 d0 d2 d3 a b kept p q)
      (and_then (timer_step rules s t node) (datagram_step rules s t got)) (reply_step rules s t) x n y f
      (until_taken n1 n2 o0 o1 o2 d0 d1 d2 l k x e first second) third

  pub turn_answer_fails : (n1 n2 n3 : Node C) (o0 o1 o2 o3 : Edge) (d0 d1 d2 d3 : D) (l k : ℕ) (why : ServeFault)
      → Follows n1 o0 o1 (crash o0 d0 d1) (timer_step rules s t node) (Ok l) → Follows n2 o1 o2 (crash o1 d1 d2) (datagram_step rules s t got n1) (Ok k)
      → Follows n3 o2 o3 (crash o2 d2 d3) (reply_step rules s t n2) (Err why)
      → Follows n3 o0 o3 (crash o0 d0 d3) (turn_step rules s (record { reading = t; got = got }) node) (Err why)
  unfolding turn_step
  turn_answer_fails n1 n2 n3 o0 o1 o2 o3 d0 d1 d2 d3 l k why first second third =
      follows_second_err n2 n3 o0 o2 o3 (crash o0 d0 d2) (crash o2 d2 d3) (crash o0 d0 d3) (λ a b kept p q. joins o0 o2 d0 d2 d3 a b kept p q)
      (and_then (timer_step rules s t node) (datagram_step rules s t got)) (reply_step rules s t) (capped (l + k)) why
      (until_taken n1 n2 o0 o1 o2 d0 d1 d2 l k (capped (l + k)) refl first second) third

  pub turn_take_fails : (n1 n2 : Node C) (o0 o1 o2 : Edge) (d0 d1 d2 : D) (l : ℕ) (why : ServeFault)
      → Follows n1 o0 o1 (crash o0 d0 d1) (timer_step rules s t node) (Ok l) → Follows n2 o1 o2 (crash o1 d1 d2) (datagram_step rules s t got n1) (Err why)
      → Follows n2 o0 o2 (crash o0 d0 d2) (turn_step rules s (record { reading = t; got = got }) node) (Err why)
  unfolding turn_step
  turn_take_fails n1 n2 o0 o1 o2 d0 d1 d2 l why first second =
      follows_first_err n2 o0 o2 (crash o0 d0 d2) (λ a b p. crash_more m list_of o0.keep.kept d0 d2 a b p)
      (and_then (timer_step rules s t node) (datagram_step rules s t got)) (reply_step rules s t) why
      (follows_second_err n1 n2 o0 o1 o2 (crash o0 d0 d1) (crash o1 d1 d2) (crash o0 d0 d2) (λ a b kept p q. joins o0 o1 d0 d1 d2 a b kept p q)
      (timer_step rules s t node) (datagram_step rules s t got) l why first second)

  pub turn_time_fails : (n1 : Node C) (o0 o1 : Edge) (d0 d1 : D) (why : ServeFault)
      → Follows n1 o0 o1 (crash o0 d0 d1) (timer_step rules s t node) (Err why)
      → Follows n1 o0 o1 (crash o0 d0 d1) (turn_step rules s (record { reading = t; got = got }) node) (Err why)
  unfolding turn_step
  turn_time_fails n1 o0 o1 d0 d1 why first =
      follows_first_err n1 o0 o1 (crash o0 d0 d1) (λ a b p. crash_more m list_of o0.keep.kept d0 d1 a b p)
      (and_then (timer_step rules s t node) (datagram_step rules s t got)) (reply_step rules s t) why
      (follows_first_err n1 o0 o1 (crash o0 d0 d1) (λ a b p. crash_more m list_of o0.keep.kept d0 d1 a b p) (timer_step rules s t node) (datagram_step rules s t got) why first)
