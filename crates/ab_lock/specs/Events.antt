-- Events of a replica: what it keeps, and what the steps of an event make of that.
use Rattle.std.specs.Prelude.{ℕ, Bool, nat_lt, if◌then◌else◌, List, [], ◌∷◌, length}
use Rattle.ab_lock.specs.Steps.{Change, Step, accepts, State, after}
use Rattle.ab_lock.specs.Acts.{LockContent, LockAct}
use Rattle.ab_lock.specs.Votes.{SlotVote, keep, votes_after, commits_after, settled}
use Rattle.ab_lock.specs.ViewChanges.{enter, leave}

-- a replica with the votes that it keeps of its view
pub record Peer (V X : Type 0) : Type 0 where
  pub core : State V
  pub votes : List (SlotVote X)
  pub commits : List (SlotVote X)

-- an event of replica me, in which it took these claims
abbrev pub act_of : {V X : Type 0} → ℕ → List (LockContent X) → List (Step V X) → LockAct V X
act_of me claims steps = record { by = me; claims = claims; steps = steps }

-- from a state, and from votes, by steps, the newest first
abbrev pub state_by : {V X : Type 0} → List (Step V X) → State V → State V
state_by [] s = s
state_by (step ∷ steps) s = after (state_by steps s) step

abbrev pub votes_by : {V X : Type 0} → ℕ → List (Step V X) → List (SlotVote X) → List (SlotVote X)
votes_by me [] votes = votes
votes_by me (step ∷ steps) votes = votes_after me step (votes_by me steps votes)

module _ {V X : Type 0} (digest : V → X) where
  abbrev pub commits_by : ℕ → List (Step V X) → List (SlotVote X) → List (SlotVote X)
  commits_by me [] commits = commits
  commits_by me (step ∷ steps) commits = commits_after digest me step (commits_by me steps commits)

  abbrev pub peer_by : ℕ → List (Step V X) → Peer V X → Peer V X
  peer_by me steps p = record { core = state_by steps p.core; votes = votes_by me steps p.votes; commits = commits_by me steps p.commits }

  -- it leaves for view w, and drops its votes
  abbrev pub left_peer : ℕ → ℕ → Peer V X → Peer V X
  left_peer k w p = record { core = after p.core (leave digest k p.core w); votes = []; commits = [] }

  -- the steps that it goes on with by itself, at most n
  abbrev pub settles_by : (X → X → Bool) → (List V → V → Bool) → ℕ → ℕ → ℕ → Peer V X → List (Step V X)
  settles_by same goes f me n p = settled digest same goes f me n p.core p.votes p.commits

module _ {V X : Type 0} where
  -- a PREPARE, and a COMMIT, of its view is kept if it is the first
  abbrev pub with_vote : SlotVote X → Peer V X → Peer V X
  with_vote u p = record p { votes = keep u p.votes }

  abbrev pub with_commit : SlotVote X → Peer V X → Peer V X
  with_commit u p = record p { commits = keep u p.commits }

  -- it accepts a value in the next slot
  abbrev pub accept : State V → V → Step V X
  accept s value = accepts (length s.accepted) value

  abbrev pub accepted_peer : V → Peer V X → Peer V X
  accepted_peer value p = record p { core = after p.core (accept p.core value) }

  -- it enters w; its votes are kept where it was changing to w
  abbrev pub entered_peer : (List V → V → Bool) → ℕ → ℕ → List (Change V) → Peer V X → Peer V X
  entered_peer goes k w vcs p = record {
    core = after p.core (enter {V = V} {X = X} goes k w vcs);
    votes = if nat_lt p.core.view w then [] else p.votes;
    commits = if nat_lt p.core.view w then [] else p.commits;
  }
