-- What holds of a replica over its credentials.
use Rattle.std.proofs.Common.{◌≡◌, ℕ, ◌+◌, ◌-◌, ◌*◌, ◌<◌, ◌≤◌, Bool, true, false, Result, Ok, Err, List, [], IsTrue, All, refl, sym, ap, ◌∙◌, subst, arith}
use Rattle.std.specs.Prelude.{IfOk, OnOk, if◌then◌else◌}
use Rattle.std.proofs.lemmas.Bool.{ltb-true}
use Rattle.ab_num.specs.declared.memory.OutOfMemory.{OutOfMemory}
use Rattle.ab_num.specs.declared.party.Party.TheVariants.{Replica}
use Rattle.ab_num.specs.declared.plan.Kind.{Kind}
use Rattle.ab_keys.specs.Keys.{is_party}
use Rattle.ab_msg.specs.declared.message.Out.{Out}
use Rattle.ab_msg.specs.Pens.{Pen}
use Rattle.ab_sign.specs.Signers.{Signing, leaves_of, pen_of}
use Rattle.ab_abs.specs.declared.seen.Seen.{Seen}
use Rattle.ab_abs.specs.Ensembles.{Proto}
use Rattle.ab_abs.specs.Messages.{Call, IsFormed}
use Rattle.ab_abs.specs.FormLaws.{KeepsForm}
use Rattle.ab_abs.proofs.Certified.{all_of}
use Rattle.ab_run.specs.Setups.{RunSetup}
use Rattle.ab_run.specs.Forms.{IsDraftOf, IsWrittenSetup}
use Rattle.ab_run.specs.Replicas.{after_turns, closed, due, turns}
use Rattle.ab_run.specs.Local.{rep_after, rep_sends}
use Rattle.ab_run.proofs.Written.{call_goes}
use Rattle.ab_replica.specs.declared.effects.Effects.{Effects}
use Rattle.ab_replica.specs.Sites.{IsPenAfter, IsPenOf, IsSetupOf, Site, setup_of}
use Rattle.ab_replica.specs.Doings.{Hears, entries_in}
use Rattle.ab_party.specs.declared.cue.Cue.{Cue}
use Rattle.ab_party.specs.declared.cue.Cue.TheVariants as cue
use Rattle.ab_party.specs.Credentials.{Credentials}
use Rattle.ab_party.specs.Cues.{IsCue, call_of}
use Rattle.ab_party.specs.Parties.{IsReplicaOf}

pub cue_formed : (g : Cue) → IsCue g → IsFormed (call_of g)
cue_formed (cue.Message m) is = is.of_grammar
cue_formed cue.Time is = tt

module _ {P : Type 0} (proto : Proto P) (serves : Kind → Bool) (c : Credentials) (s : Site P) (is : IsReplicaOf proto serves c s) where
  -- a run in which nobody is faulty, and everybody signs as the replica does
  abbrev pub own_run : RunSetup
  own_run = setup_of s (pen_of c.keys s.me 0)

  written_setup : IsWrittenSetup own_run serves
  written_setup = record { serves_all = is.serves_all; signs = λ r m n lt. is.signs m n }

  within : s.me < 3 * s.cluster.f + 1
  within =
      let lt : s.me < 3 * c.ring.f + 1 = ltb-true s.me (3 * c.ring.f + 1) (subst (λ p. IsTrue (is_party c.ring.f c.ring.clients p)) is.own is.ring.party) in
      subst (λ f. s.me < 3 * f + 1) is.f lt

  -- its pen, as it was made
  module _ (p : Signing) (made : p ≡ record { keys = c.keys; replica = s.me; used = s.rep.used }) where
    pub pen_is : IsPenOf (pen_of p.keys p.replica p.used) (leaves_of p.keys p.replica - p.used) s
    pen_is =
        subst (λ (q : Signing). IsPenOf (pen_of q.keys q.replica q.used) (leaves_of q.keys q.replica - q.used) s) (sym made)
        (record { used = refl; rest = omega (arith, is.used, is.signatures) })

    pub setup_is : (k : RunSetup) → IsSetupOf k s (pen_of c.keys s.me 0) → IsSetupOf k s (pen_of p.keys p.replica p.used)
    setup_is k stands = subst (λ (q : Signing). IsSetupOf k s (pen_of q.keys q.replica q.used)) (sym made) (record { cluster = stands.cluster; signatures = stands.signatures; sig = stands.sig })

    pub own_setup_is : IsSetupOf own_run s (pen_of p.keys p.replica p.used)
    own_setup_is = setup_is own_run (record { cluster = refl; signatures = refl; sig = refl })

  -- it has made no more signatures than it can, since a spent event changes nothing
  used_by : (call : Call) (now : Site P) (outs : List Out) (marks : List Seen) (spent : Bool) (pen new : Pen) (left : ℕ) → Hears proto own_run s call now outs marks spent
      → (spent ≡ false → IsPenAfter pen new left now) → now.rep.used ≤ now.signatures
  used_by call now outs marks false pen new left hears after = omega (arith, (after refl).own.rest)
  used_by call now outs marks true pen new left hears after =
      let ts = closed own_run proto s.me s.rep (due own_run proto s.me s.rep call) in
      let at : Bool → Site P = λ b. record s {
        rep = after_turns own_run proto s.me s.rep (if b then [] else ts);
        entries = s.entries + entries_in (if b then [] else ts);
      } in
      let same : now ≡ at true = hears.after ∙ ap at (sym hears.spends) in
      subst (λ (q : Site P). q.rep.used ≤ q.signatures) (sym same) is.used

  module _ (form : KeepsForm proto serves) (call : Call) (formed : IsFormed call) (now : Site P) where
    -- it is then where the rules lead
    pub goes_on : (result : Result Effects OutOfMemory) (pen after : Pen) (left : ℕ)
        → IfOk result (λ e. Hears proto own_run s call now e.outs e.marks.items e.spent) → IfOk result (λ e. e.spent ≡ false → IsPenAfter pen after left now)
        → OnOk result (IsReplicaOf proto serves c now)
    goes_on (Ok e) pen after left hears next =
        let goes = call_goes own_run proto form written_setup s.me s.rep call within formed is.written in
        let used = used_by call now e.outs e.marks.items e.spent pen after left hears next in
        let all : IsReplicaOf proto serves c (record s { rep = rep_after own_run proto s.me s.rep call; entries = s.entries + entries_in (turns own_run proto s.me s.rep call) }) = record {
          ring = is.ring;
          own = is.own;
          f = is.f;
          signatures = is.signatures;
          signs = is.signs;
          used = subst (λ (q : Site P). q.rep.used ≤ q.signatures) hears.after used;
          serves_all = is.serves_all;
          written = goes.stands;
        } in
        subst (λ (q : Site P). IsReplicaOf proto serves c q) (sym hears.after) all
    goes_on (Err fault) pen after left hears next = tt

    pub own_drafts : (result : Result Effects OutOfMemory) → IfOk result (λ e. Hears proto own_run s call now e.outs e.marks.items e.spent)
        → IfOk result (λ e. All (IsDraftOf c.ring.f c.ring.me) e.outs)
    own_drafts (Ok e) hears =
        let goes = call_goes own_run proto form written_setup s.me s.rep call within formed is.written in
        let r = Replica s.me in
        let sent = rep_sends own_run proto s.me s.rep call in
        subst (All (IsDraftOf c.ring.f c.ring.me)) (sym hears.sends)
        (subst (λ p. All (IsDraftOf c.ring.f p) sent) (sym is.own)
        (subst (λ f. All (IsDraftOf f r) sent) (sym is.f)
        (all_of (IsDraftOf s.cluster.f r) sent goes.drafts)))
    own_drafts (Err fault) hears = tt
