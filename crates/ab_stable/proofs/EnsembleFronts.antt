-- With what logs begin where replicas make CHECKPOINTs, and what is then certified.
use Rattle.std.proofs.Common.{false, ◌≡◌, ℕ, ◌+◌, ◌*◌, ◌<◌, ◌≤◌, Some, List, [], ◌∷◌, true, refl, sym, ap, ◌∙◌, subst, inl, inr}
use Rattle.std.specs.Prelude.{Bool, Contains}
use Rattle.std.proofs.lemmas.List.Elements.{Contains-append_cases, All-contains}
use mathlib.Core.List.{IsPrefix}
use base.Growing.{prefix_refl, prefix_trans}
use Rattle.ab_num.specs.declared.cluster.Cluster.{Cluster}
use Rattle.ab_num.specs.declared.plan.Kind.{Kind}
use Rattle.ab_num.specs.declared.plan.Kind.TheVariants as kind
use Rattle.ab_num.specs.declared.party.Party.{Party}
use Rattle.ab_num.specs.declared.party.Party.TheVariants.{Replica}
use Rattle.ab_num.specs.Places.{kind_of}
use Rattle.ab_num.proofs.Lists.{Contains-head, Contains-one, Contains-none, Contains-tail}
use Rattle.ab_hist.specs.declared.request.Request.{Request}
use Rattle.ab_svc.specs.Machines.{Machine}
use Rattle.ab_msg.specs.declared.content.Content.{Content}
use Rattle.ab_msg.specs.declared.content.Content.TheVariants.{Abort}
use Rattle.ab_abs.specs.declared.entry.Entry.{Entry}
use Rattle.ab_abs.specs.declared.seen.Seen.TheVariants.{Cert}
use Rattle.ab_abs.specs.Acts.{Act, Setting, State, setting, state_of, log_of, observations}
use Rattle.ab_abs.specs.Backing.{IsCorrect, IsStopped}
use Rattle.ab_abs.specs.Deeds.{acts_in}
use Rattle.ab_abs.specs.Ensembles.{Proto, Ensemble, Reached, begin_of, asked_of, halt_of}
use Rattle.ab_abs.specs.FormLaws.{KeepsPlace}
use Rattle.ab_abs.specs.Kinds.{kind_in, rule_of, is_backup}
use Rattle.ab_abs.specs.Observations.{IsInitHistory}
use Rattle.ab_abs.specs.Promises.{MeetsPremises, ServesAll}
use Rattle.ab_abs.specs.Rules.{Held, IsOther, IsCert, IsCertBy, IsValidCert, by_client, takes, aborts}
use Rattle.ab_abs.proofs.Facts.{state_cases, state_own, init_later, init_first}
use Rattle.ab_abs.proofs.Statements.{claimed, first_marks}
use Rattle.ab_abs.proofs.Voters.{correct_agree}
use Rattle.ab_stable.specs.Offers.{makes_checkpoints}
use Rattle.ab_stable.proofs.EnsembleActs.{IsKept, all_keep, other_quiet}
use Rattle.ab_stable.proofs.EnsembleLogs.{abort_logs}

-- no Backup makes CHECKPOINTs
pub no_backup : (k : Kind) → makes_checkpoints k ≡ true → is_backup k ≡ false
no_backup kind.Quorum makes = refl
no_backup kind.ZLight makes = refl
no_backup kind.Chain makes = refl
no_backup kind.Backup makes = absurd (cc (makes))
no_backup kind.ZCert makes = refl

-- in these kinds certificates are those on which f + 1 of 2f + 1 lists agree
pub valid_by : (k : Kind) (f : ℕ) (x : Setting) (claims : List Content) (h : List Request) → makes_checkpoints k ≡ true → IsCertBy (rule_of k f) x claims h → IsValidCert x claims h
valid_by kind.Quorum f x claims h makes is = is
valid_by kind.ZLight f x claims h makes is = is
valid_by kind.Chain f x claims h makes is = is
valid_by kind.Backup f x claims h makes is = absurd (cc (makes))
valid_by kind.ZCert f x claims h makes is = absurd (cc (makes))

-- an init history begins the log
abbrev IsBegunBy : Setting → List Act → List Request → Type 0
IsBegunBy x acts log = (init : List Request) × IsInitHistory (observations acts) x.i init × IsPrefix init log

begun_later : (x : Setting) (a : Act) (acts : List Act) (log more : List Request) → IsPrefix log more → IsBegunBy x acts log → IsBegunBy x (a ∷ acts) more
begun_later x a acts log more grown was = (was.0, init_later x a acts was.0 was.1, prefix_trans was.0 log more was.2 grown)

-- a certificate that was taken stands in the claims of its act
abbrev AreCertified : Setting → List Act → Type 0
AreCertified x acts = (j : ℕ) (p : Party) (h : List Request) → Contains (observations acts) (Cert j p h) → (a : Act) × Contains acts a × IsCert x a.claims h

certified_later : (x : Setting) (a : Act) (acts : List Act) → ((j : ℕ) (p : Party) (h : List Request) → Contains a.observations (Cert j p h) → IsCert x a.claims h) → AreCertified x acts → AreCertified x (a ∷ acts)
certified_later x a acts now was j p h has =
    elim (Contains-append_cases a.observations (observations acts) (Cert j p h) has) [
      | inl here ↦ (a, Contains-head a acts, now j p h here)
      | inr old ↦ let r = was j p h old in (r.0, Contains-tail a r.0 acts r.1, r.2)
    ]

cert_of_other : (x : Setting) (acts : List Act) (a : Act) → IsOther x acts a → (j : ℕ) (p : Party) (h : List Request) → Contains a.observations (Cert j p h) → IsCert x a.claims h
cert_of_other x acts a (by_client c own client) j p h has = (client.takes j p h has).1
cert_of_other x acts a (takes q claims k lt is valid) j p h has =
    let e = Contains-one (Cert x.i (Replica q) k) (Cert j p h) (subst (λ (b : Act). Contains b.observations (Cert j p h)) is has) in
    let same : k ≡ h = cc (e) in
    subst (λ (l : List Request). IsCert x a.claims l) same (subst (λ (ss : List Content). IsCert x ss k) (sym (ap (λ b. b.claims) is)) valid)
cert_of_other x acts a (aborts q s lt was_at stopped is) j p h has = absurd (Contains-none (Cert j p h) (subst (λ (b : Act). Contains b.observations (Cert j p h)) is has))

module _ {S P : Type 0} (machine : Machine S) (proto : Proto P) (serves : Kind → Bool) (place : KeepsPlace proto serves) (c : Cluster) (faulty : List Party) (all : ServesAll serves c) where
  abbrev at : ℕ → Setting
  at i = setting c faulty i

  abbrev AreBegun : ℕ → List Act → Type 0
  AreBegun i acts = makes_checkpoints (kind_of c.plan i) ≡ true → (r : ℕ) (s : State) → state_of acts r ≡ Some s → IsBegunBy (at i) acts s.log

  -- replica r goes on with a log that grows
  begun_further : (i : ℕ) (a : Act) (acts : List Act) (r : ℕ) (s t : State) → a.party ≡ Replica r → a.state ≡ Some t → state_of acts r ≡ Some s → IsPrefix s.log t.log → AreBegun i acts → AreBegun i (a ∷ acts)
  begun_further i a acts r s t own left was_at grown was makes q u is =
      elim (state_cases a acts q) [
        | inr differ ↦ begun_later (at i) a acts u.log u.log (prefix_refl u.log) (was makes q u (sym differ.1 ∙ is))
        | inl mine ↦
            let e : t ≡ u = cc (state_own a acts q t mine.0 left, is) in
            subst (λ (v : State). IsBegunBy (at i) (a ∷ acts) v.log) e (begun_later (at i) a acts s.log t.log grown (was makes r s was_at))
      ]

  begun_first : (i r : ℕ) (e : Entry) (acts : List Act) → 1 ≤ i → (i ≡ 1 → e.base ≡ []) → AreBegun i acts → AreBegun i (begin_of proto (at i) r e ∷ acts)
  begun_first i r e acts one empty was makes q u is =
      let a = begin_of proto (at i) r e in
      let s = proto.state (proto.begin c i r e) in
      elim (state_cases a acts q) [
        | inr differ ↦ begun_later (at i) a acts u.log u.log (prefix_refl u.log) (was makes q u (sym differ.1 ∙ is))
        | inl mine ↦
            let same : s ≡ u = cc (state_own a acts q s mine.0 refl, is) in
            let log_is : s.log ≡ e.base = place.logs c i r e (all i one) (no_backup (kind_of c.plan i) makes) in
            (e.base, init_first (at i) acts a r e.base s one empty refl, subst (λ (l : List Request). IsPrefix e.base l) (sym log_is ∙ ap (λ v. v.log) same) (prefix_refl e.base))
      ]

  begun_kept : IsKept proto serves place.trim_rests c faulty all AreBegun
  begun_kept = record {
    nothing = λ i makes r s is. absurd (cc (is));
    begun_by = λ i r e acts one empty none was. begun_first i r e acts one empty was;
    called_by = λ i r pen p call seen acts of_it was_at no_cert was.
        begun_further i (asked_of proto (at i) r pen p call seen) acts r (proto.state p) (proto.state (proto.after pen p call)) refl refl was_at (place.grows pen p call) was;
    halted_by = λ i r p acts was_at was.
        begun_further i (halt_of proto r p) acts r (proto.state p) (proto.state (proto.halt p)) refl refl was_at
        (subst (λ (l : List Request). IsPrefix (proto.state p).log l) (sym (place.halts p).0) (prefix_refl (proto.state p).log)) was;
    other_by = λ i a acts is was makes r s now.
        begun_later (at i) a acts s.log s.log (prefix_refl s.log) (was makes r s (sym (other_quiet (at i) acts a is r) ∙ now));
  }

  pub logs_begun : (w : Ensemble P) → Reached proto c faulty w → (i r : ℕ) (s : State) → makes_checkpoints (kind_of c.plan i) ≡ true → state_of (acts_in i w.run) r ≡ Some s
      → (init : List Request) × IsInitHistory (observations (acts_in i w.run)) i init × IsPrefix init s.log
  logs_begun w reached i r s makes is = all_keep proto serves place.trim_rests c faulty all AreBegun begun_kept w reached i makes r s is

  certified_kept : IsKept proto serves place.trim_rests c faulty all (λ i acts. AreCertified (at i) acts)
  certified_kept = record {
    nothing = λ i j p h none. absurd (Contains-none (Cert j p h) none);
    begun_by = λ i r e acts one empty none was.
        let a = begin_of proto (at i) r e in
        certified_later (at i) a acts (λ j p h has. let no = first_marks (at i) a r e.base (proto.state (proto.begin c i r e)) (Cert j p h) refl has in absurd (cc (no))) was;
    called_by = λ i r pen p call seen acts of_it was_at no_cert was.
        certified_later (at i) (asked_of proto (at i) r pen p call seen) acts (λ j q h has. absurd (no_cert j q h has)) was;
    halted_by = λ i r p acts was_at was. certified_later (at i) (halt_of proto r p) acts (λ j q h none. absurd (Contains-none (Cert j q h) none)) was;
    other_by = λ i a acts is was. certified_later (at i) a acts (cert_of_other (at i) acts a is) was;
  }

  pub fronts_certified : (w : Ensemble P) → Reached proto c faulty w → MeetsPremises c faulty w.run → (i : ℕ) (front : List Request) → 1 ≤ i → makes_checkpoints (kind_of c.plan i) ≡ true
      → ((r : ℕ) → IsCorrect (at i) r → IsStopped (acts_in i w.run) r → IsPrefix front (log_of (acts_in i w.run) r))
      → (p : Party) (h : List Request) → Contains (observations (acts_in i w.run)) (Cert i p h) → IsPrefix front h
  fronts_certified w reached meets i front one makes common p h taken =
      let x = at i in
      let acts = acts_in i w.run in
      let premises = meets i one in
      let found = all_keep proto serves place.trim_rests c faulty all (λ j list. AreCertified (at j) list) certified_kept w reached i i p h taken in
      let a = found.0 in
      let valid : IsValidCert x a.claims h = valid_by (kind_in x) c.f x a.claims h makes found.2 in
      correct_agree x a.claims h valid premises.few front (λ v has correct.
      let s = Abort (Replica v.by) i v.log in
      let claim : Contains a.claims s = All-contains (λ (u : Held). Contains a.claims (Abort (Replica u.by) i u.log)) valid.votes v valid.signed has in
      let within = All-contains (λ (u : Held). u.by < 3 * c.f + 1) valid.votes v valid.within has in
      let made = claimed machine x acts premises.honest a found.1 s claim correct in
      let is = abort_logs proto serves place c faulty all w reached i v.by v.log made in
      subst (λ (l : List Request). IsPrefix front l) (sym is.0) (common v.by (record { within = within; correct = correct }) is.1))
