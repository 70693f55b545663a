-- Whatever a replica is handed, the steps that it takes are allowed. So it executes no more than its slots, and leaves nothing undone.
use Rattle.std.proofs.Common.{◌≡◌, ℕ, suc, ◌*◌, ◌<◌, ◌≤◌, None, List, [], ◌∷◌, ◌++◌, inl, inr, length, refl, sym, ap, ◌∙◌, subst}
use Rattle.std.specs.Prelude.{nat_lt}
use Rattle.std.specs.Str.{bytes_eq}
use Rattle.std.proofs.lemmas.Bool.{cases_Bool}
use Rattle.ab_msg.specs.declared.value.Value.{Value}
use Rattle.ab_msg.specs.Slots.{slot_digest}
use Rattle.ab_abs.specs.Values.{goes}
use Rattle.ab_lock.specs.Steps.{State, after, state_of, Can, Follows}
use Rattle.ab_lock.specs.Votes.{next, settled}
use Rattle.ab_lock.specs.ViewChanges.{enter, leave}
use Rattle.ab_lock.specs.Events.{state_by, votes_by, commits_by, settles_by, accept}
use Rattle.ab_lock.proofs.EventLaws.{state_by-state_of}
use Rattle.ab_lock.proofs.Settling.{executed_within, settled_follows, settled_ends}
use Rattle.ab_lock.proofs.ViewChangeLemmas.{enter_can, leave_can}
use Rattle.ab_order.specs.Inputs.{Reading}
use Rattle.ab_order.specs.Orderers.{IsReached, from_start, by_input}
use Rattle.ab_pbft_rules.specs.Traces.{OrderStep}
use Rattle.ab_pbft_rules.specs.Rules.{Placement, Memory, Pbft, Work, idle, core_of, settle, leave_to, work, pbft}
use Rattle.ab_pbft_rules.proofs.RuleInduction.{IsKept, work_kept, work_ends}

-- it is where steps that are allowed lead to
pub record IsAllowed (seat : Placement) (w : Work) : Type 0 where
  pub trace : List OrderStep
  pub follows : Follows slot_digest goes seat.k trace
  pub core : core_of w ≡ state_of trace

-- nothing of the rules for votes is left to do
abbrev pub IsQuiet : Placement → Work → Type 0
IsQuiet seat w = next slot_digest bytes_eq goes seat.f (core_of w) w.at.peer.votes w.at.peer.commits ≡ None

module _ (seat : Placement) where
  abbrev fuel : ℕ
  fuel = suc (3 * suc seat.k)

  -- one more step
  one_more : (w : Work) (s : State Value) (step : OrderStep) (was : IsAllowed seat w) → s ≡ after (core_of w) step → Can slot_digest goes seat.k (core_of w) step
      → (trace : List OrderStep) × Follows slot_digest goes seat.k trace × (s ≡ state_of trace)
  one_more w s step was is can =
      (step ∷ was.trace, (subst (λ (t : State Value). Can slot_digest goes seat.k t step) was.core can, was.follows), is ∙ ap (λ t. after t step) was.core)

  settles_on : (w : Work) → IsAllowed seat w → IsAllowed seat (settle seat w)
  settles_on w was =
      let p = w.at.peer in
      let so = subst (λ (s : State Value). Follows slot_digest goes seat.k (settled slot_digest bytes_eq goes seat.f seat.me fuel s p.votes p.commits ++ was.trace)
      × (state_by (settled slot_digest bytes_eq goes seat.f seat.me fuel s p.votes p.commits) s ≡ state_of (settled slot_digest bytes_eq goes seat.f seat.me fuel s p.votes p.commits ++ was.trace))) (sym was.core) (
        settled_follows slot_digest bytes_eq goes seat.k seat.f seat.me fuel was.trace p.votes p.commits was.follows,
        state_by-state_of (settled slot_digest bytes_eq goes seat.f seat.me fuel (state_of was.trace) p.votes p.commits) was.trace,
      ) in
      record { trace = settles_by slot_digest bytes_eq goes seat.f seat.me fuel w.at.peer ++ was.trace; follows = so.0; core = so.1 }

  pub settle_quiet : (w : Work) → IsAllowed seat w → IsQuiet seat (settle seat w)
  settle_quiet w was =
      let p = w.at.peer in
      subst (λ (s : State Value). next slot_digest bytes_eq goes seat.f (state_by (settled slot_digest bytes_eq goes seat.f seat.me fuel s p.votes p.commits) s)
      (votes_by seat.me (settled slot_digest bytes_eq goes seat.f seat.me fuel s p.votes p.commits) p.votes) (commits_by slot_digest seat.me (settled slot_digest bytes_eq goes seat.f seat.me fuel s p.votes p.commits) p.commits) ≡ None) (sym was.core)
      (settled_ends slot_digest bytes_eq goes seat.k seat.f seat.me was.trace p.votes p.commits was.follows)

  allowed_by : (e : Reading) (start : Work) → IsKept seat e start (IsAllowed seat)
  allowed_by e start = record {
    settles = settles_on;
    takes = λ w value was still room on why. let t = one_more w _ (accept (core_of w) value) was refl (still, room, on, refl) in record { trace = t.0; follows = t.1; core = t.2 };
    speaks = λ w d was spoken. record { trace = was.trace; follows = was.follows; core = was.core };
    enters = λ w v vcs was may why. let t = one_more w _ (enter goes seat.k v vcs) was refl (enter_can slot_digest goes seat.k (core_of w) v vcs may) in record { trace = t.0; follows = t.1; core = t.2 };
    leaves = λ w v was above why.
        let can = leave_can slot_digest goes seat.k was.trace v was.follows (subst (λ (s : State Value). s.view < v) was.core above) in
        let t = one_more w _ (leave slot_digest seat.k (core_of w) v) was refl (subst (λ (s : State Value). Can slot_digest goes seat.k s (leave slot_digest seat.k s v)) (sym was.core) can) in
        record { trace = t.0; follows = t.1; core = t.2 };
    keeps_request = λ m is was. record { trace = was.trace; follows = was.follows; core = was.core };
    keeps_change = λ change is fit was. record { trace = was.trace; follows = was.follows; core = was.core };
    keeps_vote = λ by slot x is was. record { trace = was.trace; follows = was.follows; core = was.core };
    keeps_commit = λ by slot x is was. record { trace = was.trace; follows = was.follows; core = was.core };
  }

  event_allowed : (memory : Memory) (e : Reading) → IsAllowed seat (idle memory) → IsAllowed seat (work seat e (idle memory))
  event_allowed memory e was = work_kept seat e (idle memory) (IsAllowed seat) (allowed_by e (idle memory)) was

  left_quiet : (v : ℕ) (w : Work) → IsQuiet seat (leave_to seat v w)
  left_quiet v w = elim (cases_Bool (nat_lt (length (core_of w).executed) 0)) [ inl some ↦ rw some refl | inr none ↦ rw none refl ]

  event_quiet : (memory : Memory) (e : Reading) → IsAllowed seat (idle memory) → IsQuiet seat (idle memory) → IsQuiet seat (work seat e (idle memory))
  event_quiet memory e was quiet =
      work_ends seat e (idle memory) (IsAllowed seat) (allowed_by e (idle memory)) (IsQuiet seat) settle_quiet left_quiet (λ change quiet'. quiet') was quiet

-- of a replica that began with k requests to order, and was handed whatever came
pub record IsKeeping (k : ℕ) (p : Pbft) : Type 0 where
  pub limit : p.seat.k ≡ k
  pub allowed : IsAllowed p.seat (idle p.memory)
  pub quiet : IsQuiet p.seat (idle p.memory)

pub reached_keeps : (k : ℕ) (p : Pbft) → IsReached pbft k p → IsKeeping k p
reached_keeps k p (from_start f i me h) = record { limit = refl; allowed = record { trace = []; follows = tt; core = refl }; quiet = refl }
reached_keeps k p (by_input q e was) =
    let b = reached_keeps k q was in
    let now = event_allowed q.seat q.memory e b.allowed in
    record { limit = b.limit; allowed = record { trace = now.trace; follows = now.follows; core = now.core }; quiet = event_quiet q.seat q.memory e b.allowed b.quiet }

pub reached_within : (k : ℕ) (p : Pbft) → IsReached pbft k p → length p.memory.peer.core.executed ≤ suc k
reached_within k p reached =
    let b = reached_keeps k p reached in
    subst (λ (n : ℕ). length p.memory.peer.core.executed ≤ suc n) b.limit
    (subst (λ (s : State Value). length s.executed ≤ suc p.seat.k) (sym b.allowed.core) (executed_within slot_digest bytes_eq goes p.seat.k p.seat.f p.seat.me b.allowed.trace b.allowed.follows))
