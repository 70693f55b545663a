-- One replica of a cluster, with its keys: what it does with what comes to it.
use Rattle.std.specs.Prelude.{◌≡◌, ℕ, ◌+◌, Bool, true, false, [], Option, None, Some, is_some}
use Rattle.std.specs.Option.{option_map}
use Rattle.ab_num.specs.declared.cluster.Cluster.{Cluster}
use Rattle.ab_sign.specs.Signers.{leaves_of, pen_of}
use Rattle.ab_key_text.specs.Keys.{PartyKeys}
use Rattle.ab_abs.specs.Ensembles.{Proto}
use Rattle.ab_abs.specs.Messages.{Call, took, timed}
use Rattle.ab_run.specs.Setups.{RunSetup}
use Rattle.ab_run.specs.Replicas.{is_spent, turns}
use Rattle.ab_run.specs.Local.{rep_after, rep_sends}
use Rattle.ab_replica.specs.Sites.{Site, first_site, setup_of, timer_number}
use Rattle.ab_replica.specs.Doings.{entries_in}
use Rattle.ab_party.specs.Clusters.{IsSized}
use Rattle.ab_loop.specs.Cores.{NodeEvent, invoke, message, timeout, Reaction, Rules}
use Rattle.ab_party.specs.Credentials.{Credentials, sealed_all}
use Rattle.ab_node.specs.Keys.{credentials_in, opened}

-- where it is, and what it opens and seals by
pub record ReplicaMember (P : Type 0) : Type 0 where
  pub site : Site P
  pub credentials : Credentials

-- a run in which it takes part: nobody is faulty, and everybody signs as it does, since what it does depends on neither
abbrev pub own_setup : {P : Type 0} → ReplicaMember P → RunSetup
own_setup m = setup_of m.site (pen_of m.credentials.keys m.site.me 0)

-- what a replica takes in an event: the message that bytes are to it, or the end of its timer. It takes no command
abbrev pub call_of : Credentials → NodeEvent → Option Call
call_of c (invoke command) = None
call_of c (message bytes) = option_map took (opened c bytes)
call_of c timeout = Some timed

-- what is not taken changes nothing
abbrev pub still : {C : Type 0} → C → Reaction C
still c = record { after = c; sends = []; commit = None; spent = false; opened = true }

-- false exactly for a message that doesn't open
abbrev pub opens : Credentials → NodeEvent → Bool
opens c (invoke command) = true
opens c (message bytes) = is_some (opened c bytes)
opens c timeout = true

abbrev pub with_opened : {C : Type 0} → Bool → Reaction C → Reaction C
with_opened is r = record { after = r.after; sends = r.sends; commit = r.commit; spent = r.spent; opened = is }

module _ {P : Type 0} (proto : Proto P) where
  abbrev pub replica_after : ReplicaMember P → Call → ReplicaMember P
  replica_after m call =
      let k = own_setup m in
      let s = m.site in
      record m { site = record s { rep = rep_after k proto s.me s.rep call; entries = s.entries + entries_in (turns k proto s.me s.rep call) } }

  -- what it takes goes by the rules of the run. A replica commits nothing
  abbrev pub replica_takes : ReplicaMember P → Call → Reaction (ReplicaMember P)
  replica_takes m call = record {
    after = replica_after m call;
    sends = sealed_all m.credentials.ring (rep_sends (own_setup m) proto m.site.me m.site.rep call);
    commit = None;
    spent = is_spent (own_setup m) proto m.site.me m.site.rep call;
    opened = true;
  }

  abbrev pub replica_may_take : ReplicaMember P → Option Call → Reaction (ReplicaMember P)
  replica_may_take m None = still m
  replica_may_take m (Some call) = replica_takes m call

  abbrev pub replica_step : ReplicaMember P → NodeEvent → Reaction (ReplicaMember P)
  replica_step m e = with_opened (opens m.credentials e) (replica_may_take m (call_of m.credentials e))

-- its rules, where `counted` is what the timer of its protocol counts
abbrev pub replica_rules : {P : Type 0} → Proto P → (P → Option ℕ) → Rules (ReplicaMember P)
replica_rules proto counted = record { step = replica_step proto; timer = λ m. option_map (timer_number m.site.entries) (counted m.site.rep.value) }

-- ---- before the first event

-- it can make the signatures of its own key
abbrev pub first_replica : {P : Type 0} → Proto P → Cluster → PartyKeys → ℕ → ReplicaMember P
first_replica proto c k r = record { site = first_site proto c r (leaves_of (credentials_in k).keys r); credentials = credentials_in k }

-- replica r of these keys before its first event
pub record IsFirstReplica {P : Type 0} (proto : Proto P) (k : PartyKeys) (r : ℕ) (m : ReplicaMember P) : Type 0 where
  pub cluster : Cluster
  pub of_keys : IsSized cluster k.f k.clients k.plan k.every
  pub is : m ≡ first_replica proto cluster k r
