-- What a replica does in an event.
use Rattle.std.specs.Prelude.{◌≡◌, ℕ, ◌+◌, nat_lt, if◌then◌else◌, Bool, List, [], ◌∷◌}
use Rattle.ab_hist.specs.declared.request.Request.{Request}
use Rattle.ab_hist.specs.Trimmed.{trim}
use Rattle.ab_msg.specs.declared.signed.Signed.{Signed}
use Rattle.ab_msg.specs.declared.message.Msg.{Msg}
use Rattle.ab_msg.specs.declared.message.Out.{Out}
use Rattle.ab_msg.specs.Pens.{Pen}
use Rattle.ab_abs.specs.declared.seen.Seen.{Seen}
use Rattle.ab_abs.specs.Ensembles.{Proto}
use Rattle.ab_abs.specs.Messages.{Call}
use Rattle.ab_run.specs.Setups.{RunSetup}
use Rattle.ab_run.specs.Replicas.{Rep, RepAction, turn_enter, turn_call, turn_halt, turn_sign, turn_bring, turn_abort, turn_mark, turn_keep, turn_trim, after_turn, after_turns, taken, wanted, is_spent, turns}
use Rattle.ab_run.specs.Local.{sent_in_turns, marks_in_turns, rep_after, rep_sends, rep_marks}
use Rattle.ab_replica.specs.Sites.{Site, setup_of}
use Rattle.ab_replica.specs.Entries.{with_entry}

abbrev pub enters : RepAction → ℕ
enters (turn_enter j cert n h) = 1
enters (turn_call call) = 0
enters turn_halt = 0
enters turn_sign = 0
enters (turn_bring c) = 0
enters (turn_abort c) = 0
enters (turn_mark n) = 0
enters (turn_keep v) = 0
enters (turn_trim n) = 0

-- how often the replica enters an instance in these turns
abbrev pub entries_in : List RepAction → ℕ
entries_in [] = 0
entries_in (t ∷ ts) = enters t + entries_in ts

-- the replica takes what comes, by the rules of a run: where it then is, what it sends, what is seen of it, and whether the event is spent
pub record Hears {P : Type 0} (proto : Proto P) (k : RunSetup) (s : Site P) (call : Call) (now : Site P) (outs : List Out) (marks : List Seen) (spent : Bool) : Type 0 where
  pub after : now ≡ record s { rep = rep_after k proto s.me s.rep call; entries = s.entries + entries_in (turns k proto s.me s.rep call) }
  pub sends : outs ≡ rep_sends k proto s.me s.rep call
  pub shows : marks ≡ rep_marks k proto s.me s.rep call
  pub spends : spent ≡ is_spent k proto s.me s.rep call

-- a replica enters the instance after j, and takes the message there
abbrev pub entering : {P : Type 0} → RunSetup → Proto P → ℕ → Rep P → Msg → ℕ → List Signed → ℕ → List Request → List RepAction
entering k proto r s m j cert n h = turn_enter j cert n h ∷ taken k proto r (after_turn k proto r s (turn_enter j cert n h)) m

module _ {P : Type 0} (proto : Proto P) (k : RunSetup) (s : Site P) (ts : List RepAction) where
  -- whether these turns want more signatures than are left
  abbrev pub are_spent : Bool
  are_spent = nat_lt k.signatures (s.rep.used + wanted k proto s.me s.rep ts)

  -- then none of them is taken
  abbrev pub unless_spent : List RepAction
  unless_spent = if are_spent then [] else ts

-- the same of a replica that takes these turns, with the signatures of a pen
pub record Does {P : Type 0} (proto : Proto P) (pen : Pen) (s : Site P) (ts : List RepAction) (now : Site P) (outs : List Out) (marks : List Seen) (spent : Bool) : Type 0 where
  pub after : now ≡ record s {
    rep = after_turns (setup_of s pen) proto s.me s.rep (unless_spent proto (setup_of s pen) s ts);
    entries = s.entries + entries_in (unless_spent proto (setup_of s pen) s ts);
  }
  pub sends : outs ≡ sent_in_turns (setup_of s pen) proto s.me s.rep (unless_spent proto (setup_of s pen) s ts)
  pub shows : marks ≡ marks_in_turns (setup_of s pen) proto s.me s.rep (unless_spent proto (setup_of s pen) s ts)
  pub spends : spent ≡ are_spent proto (setup_of s pen) s ts

-- the same of one that has just entered its instance by a list that has forgotten its first n entries: that is seen too
pub record Arrives {P : Type 0} (proto : Proto P) (pen : Pen) (s : Site P) (n : ℕ) (ts : List RepAction) (now : Site P) (outs : List Out) (shown : List Seen) (spent : Bool) : Type 0 where
  pub marks : List Seen
  pub does : Does proto pen s ts now outs marks spent
  pub shows : shown ≡ with_entry s.rep.at s.me (trim n s.rep.entry.base) marks spent
