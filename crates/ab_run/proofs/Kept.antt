-- What every run keeps: its acts are those of an ensemble that the protocol's laws speak of.
use Rattle.std.proofs.Common.{◌≡◌, ℕ, ◌<◌, ◌≤◌, Bool, true, false, Option, None, Some, List, [], ◌∷◌}
use Rattle.std.specs.Prelude.{Contains}
use Rattle.ab_num.specs.declared.plan.Kind.{Kind}
use Rattle.ab_hist.specs.declared.request.Request.{Request}
use Rattle.ab_num.specs.declared.party.Party.TheVariants.{Replica, Client}
use Rattle.ab_msg.specs.declared.content.Content.{Content}
use Rattle.ab_msg.specs.declared.content.Content.TheVariants.{LocalCommit}
use Rattle.ab_msg.specs.declared.signed.Signed.{Signed}
use Rattle.ab_msg.specs.declared.zcert.Zcert.{Zcert}
use Rattle.ab_msg.specs.Claims.{maker_of, kept_claims, specs_of}
use Rattle.ab_msg.specs.Carried.{stated_history, stated_request}
use Rattle.ab_abs.specs.declared.seen.Seen.{Seen}
use Rattle.ab_abs.specs.declared.seen.Seen.TheVariants.{Invoked}
use Rattle.ab_abs.specs.declared.ballot.Ballot.{Ballot}
use Rattle.ab_abs.specs.Faults.{is_faulty}
use Rattle.ab_abs.specs.Acts.{observations, log_of, state_of}
use Rattle.ab_abs.specs.Deeds.{InstanceAct, acts_in, seen_in}
use Rattle.ab_abs.specs.Ensembles.{Proto, Ensemble, Reached}
use Rattle.ab_abs.specs.FormLaws.{KeepsPlace, Belongs}
use Rattle.ab_abs.specs.Promises.{ServesAll}
use Rattle.ab_abs.specs.Votes.{AreFirst}
use Rattle.ab_abs.specs.Kinds.{kind_in, is_zcert}
use Rattle.ab_run.specs.Setups.{RunSetup, within, replicas}
use Rattle.ab_run.specs.Replicas.{state_at}
use Rattle.ab_run.specs.Clients.{Cli}
use Rattle.ab_run.specs.Asking.{IsSent, AreTelling}
use Rattle.ab_run.specs.declared.phase.Phase.{Phase}
use Rattle.ab_run.specs.declared.phase.Phase.TheVariants.{Idle, Waiting, Panicking}
use Rattle.ab_run.specs.Runs.{Run}
use Rattle.ab_run.proofs.Counted.{vote_says}
use Rattle.ab_run.proofs.AskingLemmas.{none_telling}
use Rattle.ab_run.proofs.Did.{MadeInActs, AreHad, RequestsAreAsked, AllHonest}

-- what an ABORT states: its log, and the answers in the certificate that it holds
abbrev pub states_of : Signed → List Content
states_of v = v.content ∷ kept_claims v.content

abbrev pub is_open : Phase → Bool
is_open Idle = false
is_open Waiting = true
is_open Panicking = true

-- of client c's request with this stamp in its present instance: the certificate that it sent and what was told of it were made by whom
-- they name
pub record KeepsAnswers (k : RunSetup) (made : List Content) (c at stamp : ℕ) (sent : Option Zcert) (told : List ℕ) : Type 0 where
  pub telling : AreTelling k.cluster.f told
  pub kind : (z : Zcert) → sent ≡ Some z → is_zcert (kind_in (within k at)) ≡ true
  pub is_sent : (z : Zcert) → sent ≡ Some z → IsSent k.cluster.f c stamp z
  pub answers : (z : Zcert) → sent ≡ Some z → (t : Content) → Contains (specs_of at z) t → is_faulty k.faulty (maker_of t) ≡ false → Contains made t
  pub each_told : (z : Zcert) → sent ≡ Some z → (r : ℕ) → Contains told r → is_faulty k.faulty (Replica r) ≡ false → Contains made (LocalCommit (Replica r) at c z.stamp z.n z.d)

-- nothing was sent
pub none_sent : (k : RunSetup) (made : List Content) (c at stamp : ℕ) → KeepsAnswers k made c at stamp None []
none_sent k made c at stamp = record {
  telling = none_telling k.cluster.f;
  kind = λ z e. absurd (cc (e));
  is_sent = λ z e. absurd (cc (e));
  answers = λ z e. absurd (cc (e));
  each_told = λ z e. absurd (cc (e));
}

pub answers_more : (k : RunSetup) (made more : List Content) (c at stamp : ℕ) (sent : Option Zcert) (told : List ℕ) → ((t : Content) → Contains made t → Contains more t) → KeepsAnswers k made c at stamp sent told → KeepsAnswers k more c at stamp sent told
answers_more k made more c at stamp sent told wider was = record {
  telling = was.telling;
  kind = was.kind;
  is_sent = was.is_sent;
  answers = λ z e t has good. wider t (was.answers z e t has good);
  each_told = λ z e r has good. wider (LocalCommit (Replica r) at c z.stamp z.n z.d) (was.each_told z e r has good);
}

-- a correct client: one request a stamp, the open one invoked where it is, its votes the first of each replica, and votes and kept ABORTs
-- made by whom they name
pub record ClientKeeps (k : RunSetup) (made : List Content) (had : List (List Request)) (asked : List Request) (deeds : List InstanceAct) (c : ℕ) (s : Cli) : Type 0 where
  pub begun : 1 ≤ s.at
  pub invoked : (i : ℕ) (m : Request) → Contains (observations (acts_in i deeds)) (Invoked i c m) → (m.stamp ≤ s.stamp) × (m.stamp ≡ s.stamp → s.last ≡ Some m)
  pub own : (m : Request) → s.last ≡ Some m → (m.client ≡ c) × (m.stamp ≡ s.stamp)
  pub openly : (m : Request) → is_open s.phase ≡ true → s.last ≡ Some m → Contains (observations (acts_in s.at deeds)) (Invoked s.at c m)
  pub first : AreFirst (replicas k) s.votes
  pub votes : (b : Ballot) → Contains s.votes b → is_faulty k.faulty (Replica b.by) ≡ false → Contains made (vote_says (is_zcert (kind_in (within k s.at))) s.at c s.stamp b)
  pub answers : KeepsAnswers k made c s.at s.stamp s.sent s.told
  pub kept : (v : Signed) → Contains s.kept v → (t : Content) → Contains (states_of v) t → is_faulty k.faulty (maker_of t) ≡ false → Contains made t
  pub kept_had : (v : Signed) → Contains s.kept v → (t : Content) → Contains (states_of v) t → (h : List Request) → Contains (stated_history t) h → Contains had h
  pub kept_asked : (v : Signed) → Contains s.kept v → (t : Content) → Contains (states_of v) t → (m : Request) → Contains (stated_request t) m → Contains asked m

-- what is known of the protocol
pub record AreRules {P : Type 0} (k : RunSetup) (proto : Proto P) (serves : Kind → Bool) : Type 0 where
  pub form : KeepsPlace proto serves
  pub all : ServesAll serves k.cluster

module _ {P : Type 0} (k : RunSetup) (proto : Proto P) (serves : Kind → Bool) where
  -- the ensemble v has the acts of the run w
  pub record Keeps (w : Run P) (v : Ensemble P) : Type 0 where
    pub reached : Reached proto k.cluster k.faulty v
    pub where_at : (r : ℕ) → r < replicas k → is_faulty k.faulty (Replica r) ≡ false → v.at r ≡ (w.reps r).at
    pub with_value : (r : ℕ) → is_faulty k.faulty (Replica r) ≡ false → v.value r ≡ (w.reps r).value
    pub with_base : (r : ℕ) → r < replicas k → is_faulty k.faulty (Replica r) ≡ false → v.base r ≡ (w.reps r).entry.base
    pub belongs : (r : ℕ) → is_faulty k.faulty (Replica r) ≡ false → Belongs proto serves k.cluster (w.reps r).at r (w.reps r).value
    pub begun : (r : ℕ) → r < replicas k → is_faulty k.faulty (Replica r) ≡ false → 1 ≤ (w.reps r).at
    pub from_nothing : (r : ℕ) → is_faulty k.faulty (Replica r) ≡ false → (w.reps r).at ≡ 1 → (w.reps r).entry.base ≡ []
    pub left : (r : ℕ) → r < replicas k → is_faulty k.faulty (Replica r) ≡ false → state_of (acts_in (w.reps r).at v.run) r ≡ Some (state_at k proto (w.reps r))
    pub made : MadeInActs k w.made v.run
    pub seen : w.seen ≡ seen_in v.run
    pub had : AreHad w.had v.run
    pub asked : RequestsAreAsked w.asked v.run
    pub log : (i r : ℕ) → r < replicas k → is_faulty k.faulty (Replica r) ≡ false → w.log i r ≡ log_of (acts_in i v.run) r
    pub honest : AllHonest k v.run
    pub clients : (c : ℕ) → is_faulty k.faulty (Client c) ≡ false → ClientKeeps k w.made w.had w.asked v.run c (w.clis c)

  -- whatever the parties show
  pub shows_more : (w : Run P) (v : Ensemble P) (shown : List Seen) → Keeps w v → Keeps (record w { shown = shown }) v
  shows_more w v shown was = record {
    reached = was.reached;
    where_at = was.where_at;
    with_value = was.with_value;
    with_base = was.with_base;
    belongs = was.belongs;
    begun = was.begun;
    from_nothing = was.from_nothing;
    left = was.left;
    made = was.made;
    seen = was.seen;
    had = was.had;
    asked = was.asked;
    log = was.log;
    honest = was.honest;
    clients = was.clients;
  }
