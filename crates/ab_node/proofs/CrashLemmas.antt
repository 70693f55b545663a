-- What a crash leaves while a node with a journal opens it, goes on with it and is served, one after the other.
use Rattle.std.proofs.Common.{◌≡◌, ℕ, List, [], ◌∷◌, ◌++◌, Option, None, Some, Result, IfOk, IfErr, IfSome, is_some, ⊎_elim, inl, inr, refl, sym, subst, append-nil, ◌∙◌}
use Rattle.ab_num.specs.declared.party.Party.{Party}
use Rattle.ab_num.specs.declared.party.Party.TheVariants.{Replica, Client}
use Rattle.ab_num.proofs.Results.{if_ok_map, if_err_map}
use Rattle.ab_io.specs.Readings.{Readings}
use Rattle.ab_disk.specs.Disks.{DiskModel, LeavesOnly, Rests}
use Rattle.ab_journal.specs.Entries.{bodies_of}
use Rattle.ab_journal.specs.Keepers.{listed}
use Rattle.ab_journal.proofs.KeepLemmas.{OnlyNow, both_leave, goes_on, started, weaker}
use Rattle.ab_key_text.specs.Keys.{PartyKeys}
use Rattle.ab_loop.specs.declared.fault.ServeFault.{ServeFault}
use Rattle.ab_loop.specs.declared.fault.ServeFault.TheVariants as fault
use Rattle.ab_loop.specs.declared.serving.Served.{Served}
use Rattle.ab_loop.specs.Cores.{NodeEvent, Rules}
use Rattle.ab_loop.specs.Edges.{Crash, Edge, HasFront, LeavesFront}
use Rattle.ab_loop.specs.Runs.{BreaksOff, EndsUnsaid, HasFaultOf, HasServed, LeavesCommands, NeverBegan, NodeFront, NodeRun, Start}
use Rattle.ab_restart.specs.Pasts.{HasResumed, IsPast, ListsOrBegun, Resumes, first_body}
use Rattle.ab_restart.proofs.PastLemmas.{are_kept}
use Rattle.ab_node.specs.declared.stop.Stop.{Stop}
use Rattle.ab_node.specs.declared.stop.Stop.TheVariants as stop
use Rattle.ab_node.specs.Nodes.{NodeCall, PartyEnds, PartyServed, PartyStopped}
use Rattle.ab_node.specs.Journals.{MayLeave, crash_between, journal_of}

-- ---- less is known

module _ (one two : Crash) (less : (more : List (List ℕ)) → one more → two more) where
  module _ {C : Type 0} (rules : Rules C) (x : Start C) (old new : Edge) (clock : Option Readings) where
    abbrev ran : (lost : ℕ) → NodeRun rules x old new one clock lost → NodeRun rules x old new two clock lost
    ran lost r = record { turns = r.turns; ends = r.ends; did = r.did; left = r.left; counted = r.counted; any_moment = less _ r.any_moment }

    served : (s : Served) → HasServed rules x old new one clock s → HasServed rules x old new two clock s
    served s h = record { run = ran s.lost h.run; events = h.events; sent = h.sent; spent = h.spent; answered = h.answered }

    front : (why : ServeFault) → NodeFront rules x old new one clock why → NodeFront rules x old new two clock why
    front why h = record {
      front = elim h.front [
        | inl never ↦ inl (record { held = never.held; sent = never.sent; kept = never.kept; clock_is = never.clock_is; link_is = never.link_is; any_moment = less _ never.any_moment })
        | inr (inl off) ↦ inr (inl (record { turns = off.turns; lost = off.lost; did = off.did; clock_is = off.clock_is; link_is = off.link_is; any_moment = less _ off.any_moment }))
        | inr (inr unsaid) ↦ inr (inr (record { turns = unsaid.turns; ends = unsaid.ends; lost = unsaid.lost; did = unsaid.did; left = unsaid.left; any_moment = less _ unsaid.any_moment }))
      ];
      counted = h.counted;
    }

    stopped : (why : ServeFault) → HasFaultOf rules x old new one clock why → HasFaultOf rules x old new two clock why
    stopped (fault.TurnsSpent n) h = record { lost = h.lost; run = ran h.lost h.run; used = h.used; client = h.client; some = h.some; unanswered = h.unanswered }
    stopped fault.LinkFailed h = front fault.LinkFailed h
    stopped fault.WriteFailed h = front fault.WriteFailed h
    stopped fault.KeepFailed h = front fault.KeepFailed h
    stopped fault.OutOfMemory h = front fault.OutOfMemory h

  module _ (k : PartyKeys) (commands : List (List ℕ)) (x : NodeCall) where
    party_served : (me : Party) (s : Served) → PartyServed me k commands x one s → PartyServed me k commands x two s
    party_served (Replica r) s h = record { core = h.core; first = h.first; run = served _ _ _ _ _ s h.run }
    party_served (Client c) s h = record { core = h.core; first = h.first; run = served _ _ _ _ _ s h.run }

    party_stopped : (me : Party) (why : ServeFault) → PartyStopped me k commands x one why → PartyStopped me k commands x two why
    party_stopped (Replica r) why h = record { core = h.core; first = h.first; fault = stopped _ _ _ _ _ why h.fault }
    party_stopped (Client c) why h = record { core = h.core; first = h.first; fault = stopped _ _ _ _ _ why h.fault }

    party_ends : (me : Party) (s : Stop) → PartyEnds me k commands x one s → PartyEnds me k commands x two s
    party_ends me stop.Read h = h
    party_ends me stop.TooLong h = h
    party_ends me (stop.Refused r) h = h
    party_ends me (stop.Serving why) h = party_stopped me why h
    party_ends me stop.Disk h = h
    party_ends me (stop.Journal n) h = h
    party_ends me stop.OutOfMemory h = h

    pub serves_less : (result : Result Served Stop) → IfOk result (PartyServed k.me k commands x one) → IfOk result (PartyServed k.me k commands x two)
    serves_less result is = if_ok_map result (party_served k.me) is

    pub ends_less : (result : Result Served Stop) → IfErr result (PartyEnds k.me k commands x one) → IfErr result (PartyEnds k.me k commands x two)
    ends_less result is = if_err_map result (party_ends k.me) is

-- ---- one after the other

module _ {D : Type 0} (m : DiskModel D) (only : OnlyNow m) where
  -- a call that writes nothing
  pub rests_leave : (old new : D) → Rests m old new → LeavesOnly m old new (m.may_leave old)
  rests_leave old new rests = goes_on m old old new (m.may_leave old) (started m only old (m.may_leave old) (λ c may. may)) rests.time rests.crash

  -- and then a journal is gone on with
  after_open : (first : List ℕ) (had : List (List ℕ)) (old mid new : D) → Rests m old mid → HasResumed m mid new first had → HasResumed m old new first had
  after_open first had old mid new rests resumed = record {
    synced = resumed.synced;
    before =
        both_leave m old mid resumed.synced (m.may_leave old) (rests_leave old mid rests)
        (weaker m mid resumed.synced (m.may_leave mid) (m.may_leave old) rests.crash resumed.before);
    after = resumed.after;
  }

  leaves_after : (old mid new : D) → Rests m old mid → LeavesOnly m mid new (m.may_leave mid) → LeavesOnly m old new (m.may_leave old)
  leaves_after old mid new rests leaves =
      both_leave m old mid new (m.may_leave old) (rests_leave old mid rests) (weaker m mid new (m.may_leave mid) (m.may_leave old) rests.crash leaves)

  pub resumes_ok : (first : List ℕ) (seen was : Option (List ℕ)) (old mid new : D) → was ≡ seen → Rests m old mid → IfSome was (λ bytes. HasResumed m mid new first (bodies_of bytes)) → IfSome seen (λ bytes. HasResumed m old new first (bodies_of bytes))
  resumes_ok first seen was old mid new same rests is = resumed seen (subst (λ (o : Option (List ℕ)). IfSome o (λ bytes. HasResumed m mid new first (bodies_of bytes))) same is) where
    resumed : (o : Option (List ℕ)) → IfSome o (λ bytes. HasResumed m mid new first (bodies_of bytes)) → IfSome o (λ bytes. HasResumed m old new first (bodies_of bytes))
    resumed None h = tt
    resumed (Some bytes) h = after_open first (bodies_of bytes) old mid new rests h

  -- the whole: what was there at first, or the journal with a front of what is kept
  module _ (text : List ℕ) (past : List NodeEvent) (more : List (List ℕ)) (old mid new : D) where
    whole_front : (c : List ℕ) → bodies_of c ≡ journal_of text past → HasFront (journal_of text past) more (bodies_of c)
    whole_front c is = record { front = []; back = more; parts = refl; all_is = is ∙ sym (append-nil (journal_of text past)) }

    told : (a b : Option (List ℕ)) → IfSome a (λ bytes. HasResumed m old mid (first_body text) (bodies_of bytes)) → IfSome (listed a) (λ bodies. IsPast (first_body text) bodies past)
        → is_some b ≡ is_some a → IfSome (listed b) (λ bodies. bodies ≡ journal_of text past) → IfSome (listed b) (λ before. LeavesOnly m mid new (λ c. HasFront before more (bodies_of c)))
        → IfSome a (λ bytes. LeavesOnly m old new (MayLeave (m.may_leave old) (bodies_of bytes) (journal_of text past) more))
    told None b resumed was is now serves = tt
    told (Some a) None resumed was is now serves = absurd (cc (is))
    told (Some a) (Some b) resumed was is now serves =
        let all = MayLeave (m.may_leave old) (bodies_of a) (journal_of text past) more in
        let begun_is = (are_kept (first_body text) (bodies_of a) past was).0 in
        let lists : (c : List ℕ) → ListsOrBegun (first_body text) (bodies_of a) c → all c = λ c. ⊎_elim (λ had. inr (inl had)) (λ begun. inr (inr (whole_front c (begun ∙ begun_is)))) in
        both_leave m old mid new all
        (both_leave m old resumed.synced mid all (weaker m old resumed.synced (m.may_leave old) all (λ c may. inl may) resumed.before)
        (weaker m resumed.synced mid (ListsOrBegun (first_body text) (bodies_of a)) all lists resumed.after))
        (weaker m mid new (λ c. HasFront (bodies_of b) more (bodies_of c)) all (λ c f. inr (inr (subst (λ (before : List (List ℕ)). HasFront before more (bodies_of c)) now f))) serves)

    pub crash_whole : IfSome (m.seen old) (λ bytes. HasResumed m old mid (first_body text) (bodies_of bytes)) → IfSome (listed (m.seen old)) (λ bodies. IsPast (first_body text) bodies past)
        → is_some (m.seen mid) ≡ is_some (m.seen old) → IfSome (listed (m.seen mid)) (λ bodies. bodies ≡ journal_of text past)
        → LeavesFront m bodies_of (listed (m.seen mid)) mid new more → crash_between m old new text past more
    crash_whole resumed was is now serves = told (m.seen old) (m.seen mid) resumed was is now serves
