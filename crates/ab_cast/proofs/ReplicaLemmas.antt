-- A replica in its cluster, as it takes what comes.
use Rattle.std.proofs.Common.{◌≡◌, ℕ, ◌+◌, ◌*◌, ◌<◌, Bool, All, Result, Ok, Err, List, length, IsTrue, refl, sym, ap, ◌∙◌, subst, arith}
use Rattle.std.specs.Prelude.{IfOk, OnOk, slice_set}
use Rattle.std.proofs.lemmas.Bool.{lt-ltb}
use Rattle.ab_num.specs.declared.cluster.Cluster.{Cluster}
use Rattle.ab_num.specs.declared.memory.OutOfMemory.{OutOfMemory}
use Rattle.ab_num.specs.declared.plan.Kind.{Kind}
use Rattle.ab_num.specs.declared.party.Party.{Party}
use Rattle.ab_num.specs.declared.party.Party.TheVariants.{Replica, Client}
use Rattle.ab_keys.specs.Keys.{is_party}
use Rattle.ab_keys.specs.Secrets.{tree_name, tree_seed}
use Rattle.ab_sign.specs.Signers.{pen_of, signature_at}
use Rattle.ab_sign.proofs.KeyLemmas.{derived-at, derived-leaves, signature_fits}
use Rattle.ab_msg.specs.declared.content.Content.{Content}
use Rattle.ab_msg.specs.declared.message.Out.{Out}
use Rattle.ab_msg.specs.Contents.{spell_content}
use Rattle.ab_msg.specs.Fields.{IsSig}
use Rattle.ab_abs.specs.declared.seen.Seen.{Seen}
use Rattle.ab_abs.specs.Ensembles.{Proto}
use Rattle.ab_abs.specs.Messages.{Call}
use Rattle.ab_abs.specs.FormLaws.{KeepsForm}
use Rattle.ab_abs.specs.Promises.{ServesAll}
use Rattle.ab_run.specs.Forms.{IsDraftOf, IsWrittenSetup}
use Rattle.ab_run.specs.Replicas.{is_spent}
use Rattle.ab_run.specs.Local.{Cue, rep_marks, rep_sends}
use Rattle.ab_run.proofs.Written.{first_written}
use Rattle.ab_replica.specs.declared.effects.Effects.{Effects}
use Rattle.ab_replica.specs.Sites.{IsSetupOf, Site}
use Rattle.ab_replica.specs.Doings.{Hears}
use Rattle.ab_client.specs.Clients.{Seat}
use Rattle.ab_party.specs.declared.cue.Cue.{Cue as CueRef}
use Rattle.ab_party.specs.declared.cue.Cue.TheVariants as cue
use Rattle.ab_party.specs.Credentials.{Credentials, IsPartyRing}
use Rattle.ab_party.specs.Cues.{call_of, cue_of}
use Rattle.ab_party.specs.Parties.{ClientHears, IsClientOf, IsReplicaOf}
use Rattle.ab_cast.specs.Setups.{Setup, credentials_at, keys_of, ring_at, run_setup}
use Rattle.ab_cast.specs.Cores.{replica, site_after, core_after, core_sends, core_marks, core_spends}
use Rattle.ab_cast.specs.Casts.{IsSeatOf, IsSite, first_site}
use Rattle.ab_cast.specs.Hearing.{CliHears, RepHears}

-- ---- signatures

sig_long : (x : Setup) (r : ℕ) (s : Content) (n : ℕ) → r < 3 * x.cluster.f + 1 → IsSig ((run_setup x).sig r s n)
sig_long x r s n lt =
    let text = spell_content s in
    subst (λ k. IsSig (signature_at k n text)) (sym (derived-at x.cluster.f x.lms x.seed r lt))
    (signature_fits x.lms (tree_name x.seed r) (tree_seed x.seed r) text n)

pub written_setup : (x : Setup) (serves : Kind → Bool) → ServesAll serves x.cluster → IsWrittenSetup (run_setup x) serves
written_setup x serves served = record { serves_all = served; signs = λ r s n lt. sig_long x r s n lt }

-- ---- keys

-- the ring of a party of the cluster
pub party_ring : (x : Setup) (p : Party) → IsTrue (is_party x.cluster.f x.cluster.clients p) → IsPartyRing (ring_at x p)
party_ring x p party = record { bounds = x.cluster.in_bounds; party = party }

pub replica_party : (x : Setup) (r : ℕ) → r < 3 * x.cluster.f + 1 → IsTrue (is_party x.cluster.f x.cluster.clients (Replica r))
replica_party x r lt = lt-ltb r (3 * x.cluster.f + 1) lt

pub client_party : (x : Setup) (c : ℕ) → c < x.cluster.clients → IsTrue (is_party x.cluster.f x.cluster.clients (Client c))
client_party x c lt = lt-ltb c x.cluster.clients lt

-- ---- what comes

module _ {P : Type 0} (x : Setup) (proto : Proto P) (r : ℕ) (s : Site P) where
  pub after_cue : (g : CueRef) → core_after x proto (Replica r) (replica s) (cue_of g) ≡ replica (site_after (run_setup x) proto r s (call_of g))
  after_cue (cue.Message m) = refl
  after_cue cue.Time = refl

  pub sends_cue : (g : CueRef) → core_sends x proto (Replica r) (replica s) (cue_of g) ≡ rep_sends (run_setup x) proto r s.rep (call_of g)
  sends_cue (cue.Message m) = refl
  sends_cue cue.Time = refl

  pub marks_cue : (g : CueRef) → core_marks x proto (Replica r) (replica s) (cue_of g) ≡ rep_marks (run_setup x) proto r s.rep (call_of g)
  marks_cue (cue.Message m) = refl
  marks_cue cue.Time = refl

  pub spends_cue : (g : CueRef) → core_spends x proto (Replica r) (replica s) (cue_of g) ≡ is_spent (run_setup x) proto r s.rep (call_of g)
  spends_cue (cue.Message m) = refl
  spends_cue cue.Time = refl

-- ---- one replica

module _ {P : Type 0} (proto : Proto P) (serves : Kind → Bool) (x : Setup) (r : ℕ) where
  pub first_is_site : KeepsForm proto serves → ServesAll serves x.cluster → IsSite proto serves x r (first_site x proto r)
  first_is_site form served = record {
    placed = refl;
    own = refl;
    signatures = refl;
    holds = λ lt. record {
      ring = party_ring x (Replica r) (replica_party x r lt);
      own = refl;
      f = refl;
      signatures = sym (derived-leaves x.cluster.f x.lms x.seed r lt);
      signs = λ m n. sig_long x r m n lt;
      used = omega arith;
      serves_all = served;
      written = first_written (run_setup x) proto form (written_setup x serves served) r lt;
    };
  }

  module _ (s : Site P) (was : IsSite proto serves x r s) where
    pub setup_is : IsSetupOf (run_setup x) s (pen_of (keys_of x) s.me 0)
    setup_is = record { cluster = sym was.placed; signatures = sym was.signatures; sig = refl }

    module _ (now : Site P) (call : Call) (outs : List Out) (marks : List Seen) (spent : Bool) (hears : Hears proto (run_setup x) s call now outs marks spent) where
      pub after_is : now ≡ site_after (run_setup x) proto r s call
      after_is = hears.after ∙ ap (λ m. site_after (run_setup x) proto m s call) was.own

      pub goes_on : IsReplicaOf proto serves (credentials_at x (Replica r)) now → IsSite proto serves x r now
      goes_on holds = record {
        placed = ap (λ (q : Site P). q.cluster) after_is ∙ was.placed;
        own = ap (λ (q : Site P). q.me) after_is ∙ was.own;
        signatures = ap (λ (q : Site P). q.signatures) after_is ∙ was.signatures;
        holds = λ lt. holds;
      }

  -- at its place among others, by what the code makes of its keys
  module _ (lt : r < 3 * x.cluster.f + 1) (keys : Credentials) (made : keys ≡ credentials_at x (Replica r)) (s : Site P) (was : IsSite proto serves x r s) where
    pub own_keys : IsReplicaOf proto serves keys s
    own_keys = subst (λ k. IsReplicaOf proto serves k s) (sym made) (was.holds lt)

    pub stands : IsSetupOf (run_setup x) s (pen_of keys.keys s.me 0)
    stands = subst (λ (k : Credentials). IsSetupOf (run_setup x) s (pen_of k.keys s.me 0)) (sym made) (setup_is s was)

    pub heard : (at : ℕ) (call : Call) (now : Site P) (old : List (Site P)) (result : Result Effects OutOfMemory) → IfOk result (λ e. Hears proto (run_setup x) s call now e.outs e.marks.items e.spent)
        → OnOk result (IsReplicaOf proto serves keys now) → IfOk result (λ e. All (IsDraftOf keys.ring.f keys.ring.me) e.outs)
        → IfOk result (λ e. RepHears proto serves x r at s call old (slice_set old at now) e.outs e.marks.items e.spent)
    heard at call now old (Ok e) hears holds drafts = record {
      now = now;
      set = refl;
      hears = hears;
      site = goes_on s was now call e.outs e.marks.items e.spent hears (subst (λ k. IsReplicaOf proto serves k now) made holds);
      drafts = subst (λ (k : Credentials). All (IsDraftOf k.ring.f k.ring.me) e.outs) made drafts;
    }
    heard at call now old (Err fault) hears holds drafts = tt

-- ---- one client

module _ (x : Setup) (n : ℕ) (keys : Credentials) (made : keys ≡ credentials_at x (Client n)) where
  pub seat_keys : n < x.cluster.clients → (s : Seat) → IsSeatOf x.cluster n s → IsClientOf keys s
  seat_keys lt s is =
      subst (λ k. IsClientOf k s) (sym made) (record { ring = party_ring x (Client n) (client_party x n lt); own = ap Client (sym is.0); f = ap (λ (k : Cluster). k.f) (sym is.1) })

  pub client_heard : {E : Type 0} (at : ℕ) (s : Seat) (cue : Cue) (now : Seat) (old : List Seat) (result : Result Effects E) → IfOk result (λ e. ClientHears s cue now e.outs e.marks.items e.spent)
      → IfOk result (λ e. All (IsDraftOf keys.ring.f keys.ring.me) e.outs) → IfOk result (λ e. CliHears x n at s cue old (slice_set old at now) e.outs e.marks.items e.spent)
  client_heard at s cue now old (Ok e) hears drafts =
      record { now = now; set = refl; hears = hears; drafts = subst (λ (k : Credentials). All (IsDraftOf k.ring.f k.ring.me) e.outs) made drafts }
  client_heard at s cue now old (Err fault) hears drafts = tt
