-- What was to be said or written of a cluster has its cause, and what follows from the causes of a cluster's statuses.
use Rattle.std.proofs.Common.{◌≡◌, ◌⊎◌, ℕ, List, Result, Some, Ok, Err, length, refl, sym, ap, ◌∙◌, subst, inl, inr, arith}
use Rattle.std.proofs.lemmas.List.{take_all}
use Rattle.std.specs.Io.KnownBytes.{Appends}
use Rattle.ab_io.specs.Causes.{Rose}
use Rattle.ab_io.specs.States.{Change, SinkState}
use Rattle.ab_text.specs.Lines.{lines_of}
use Rattle.ab_key_text.specs.declared.fault.NodeFault.{NodeFault}
use Rattle.ab_key_text.specs.Nodes.{commands_in}
use Rattle.ab_words.specs.Commands.{ClusterCommand}
use Rattle.ab_replay.specs.declared.refusal.Refusal.{Refusal}
use Rattle.ab_replay.specs.declared.fault.ReplayFault.{ReplayFault}
use Rattle.ab_replay.specs.declared.fault.ReplayFault.TheVariants as replaying
use Rattle.ab_replay.specs.Streams.{IsInput}
use Rattle.ab_cluster.specs.declared.report.Conclusion.{Conclusion}
use Rattle.ab_cluster.specs.declared.report.Conclusion.TheVariants.{Well, Ill, Unknown}
use Rattle.ab_cluster.specs.Children.{Children, SpawnerState, end_of}
use Rattle.ab_cluster.specs.Children.{Job}
use Rattle.ab_cluster.specs.Gathering.{Gathers, Outcome}
use Rattle.ab_cluster.specs.Jobs.{cluster_jobs}
use Rattle.ab_cluster.specs.Reports.{conclusion_of, report_text}
use Rattle.ab_command.specs.declared.status.Bound.TheVariants.{Bytes, Events, Packets}
use Rattle.ab_command.specs.declared.status.Status.{Status}
use Rattle.ab_command.specs.declared.status.Status.TheVariants.{Done, Broken, Usage, Refused, ReadFault, WriteFault, LinkFault, Limit, TurnsSpent, OutOfMemory, DiskFault, JournalRefused, ChildFault}
use Rattle.ab_command.specs.Clusters.{ClusterCall, ClusterCause, AreUntouched, CommandsCause, Concludes, ConcludesOn, HasClusterCauseOf, HasClusterFront, IsClearForCluster, IsGathered, IsGatheredFront, IsNoCommands, WritesConclusion}
use Rattle.ab_command.specs.Endings.{Says, Settles}
use Rattle.ab_command.specs.Outputs.{Gets, GetsFront, IsKept}
use Rattle.ab_command.specs.Texts.{code_of, fault_status}
use Rattle.ab_command.proofs.Settled.{settled_as}
use Rattle.ab_command.proofs.StatusLemmas.{not_too_long, same_input}

-- the whole is a front
whole_front : (out : Change SinkState) (text : List ℕ) → Gets out text → GetsFront out text
whole_front out text got = (length text, omega arith, subst (λ (t : List ℕ). Appends out.before.held out.after.held t) (sym (take_all (length text) text (omega arith))) got)

module _ (k : ClusterCommand) (c : ClusterCall) (r : Status) where
  abbrev Cause : Status → Type 0
  Cause s = ClusterCause s k c

  -- what fails once it is said, with this front
  abbrev by_front : (s : Status) → Settles r s c.err → (Says s c.err → Cause s) → HasClusterFront k c → Cause r
  by_front s how whole front = settled_as Cause r s c.err how whole (λ rose. (inr rose, front)) (λ says. (front, says))

  fault_said : (fault : ReplayFault) → CommandsCause fault c.input → IsKept c.out → AreUntouched c.children → Says (fault_status fault) c.err → Cause (fault_status fault)
  fault_said replaying.Read cause kept none said = (cause, none, kept, said)
  fault_said replaying.TooLong cause kept none said = (cause, none, kept, said)
  fault_said (replaying.Refused q) cause kept none said = (cause, none, kept, said)
  fault_said replaying.TooManyEvents never kept none said = absurd never
  fault_said replaying.TooManyPackets never kept none said = absurd never
  fault_said replaying.OutOfMemory cause kept none said = (inl (kept, inl none), inl said)

  -- why there are no commands
  pub commands_settled : (fault : ReplayFault) → Settles r (fault_status fault) c.err → CommandsCause fault c.input → IsKept c.out → AreUntouched c.children → Cause r
  commands_settled fault how cause kept none = by_front (fault_status fault) how (fault_said fault cause kept none) (inl (kept, inl none))

  -- an allocation failed before anything was written
  pub no_memory : Settles r OutOfMemory c.err → IsKept c.out → AreUntouched c.children ⊎ IsGatheredFront k c → Cause r
  no_memory how kept children = by_front OutOfMemory how (λ said. (inl (kept, children), inl said)) (inl (kept, children))

  module _ (all : List Outcome) (gathered : IsGathered k c all) where
    as_front : IsGatheredFront k c
    as_front =
        let g = gathered.gathers in
        record {
          commands = gathered.commands;
          input = gathered.input;
          gathers = record { count = length g.ends; front = g.front; told = g.told; later = g.later };
        }

    front_of : IsKept c.out ⊎ GetsFront c.out (report_text k.f all) → HasClusterFront k c
    front_of (inl kept) = inl (kept, inr as_front)
    front_of (inr part) = inr (all, gathered, part)

    concluded : (x : Conclusion) → conclusion_of all ≡ x → Gets c.out (report_text k.f all) → ConcludesOn r x c.err → Cause r
    concluded Well is got (e, kept) = subst Cause (sym e) (record { all = all; gathered = gathered; concludes = is; report = got }, kept)
    concluded Ill is got (e, kept) = subst Cause (sym e) (record { all = all; gathered = gathered; concludes = is; report = got }, kept)
    concluded Unknown is got how =
        by_front ChildFault how (λ said. (record { all = all; gathered = gathered; concludes = is; report = got }, said)) (front_of (inr (whole_front c.out (report_text k.f all) got)))

    -- the report that was to be written, and the conclusion
    pub report_told : WritesConclusion r (report_text k.f all) (conclusion_of all) c.out c.err → Cause r
    report_told (inl (got, how)) = concluded (conclusion_of all) refl got how
    report_told (inr (part, inl (failed, how))) =
        settled_as Cause r WriteFault c.err how (λ said. (inl (failed, said), front_of part)) (λ rose. (inr rose, front_of part)) (λ says. (front_of part, says))
    report_told (inr (part, inr how)) = by_front OutOfMemory how (λ said. (front_of part, inl said)) (front_of part)

-- ---- what follows

-- what a conclusion says of how often the spawner has failed
abbrev pub UnknownRose : Type 0
UnknownRose = (jobs : List Job) (old new : SpawnerState) (all : List Outcome) → Gathers jobs old new all → conclusion_of all ≡ Unknown → Rose old.faults new.faults

abbrev pub AllWell : Type 0
AllWell = (jobs : List Job) (old new : SpawnerState) (all : List Outcome) (children : Children) → Gathers jobs old new all → old.told ≡ Some children
    → ((n : ℕ) → (end_of children.ends n).status ≡ 0) → (Rose old.faults new.faults → ⊥) → conclusion_of all ≡ Well

concluded_rose : (unknown : UnknownRose) (k : ClusterCommand) (c : ClusterCall) → Concludes k c Unknown → Rose c.children.before.faults c.children.after.faults
concluded_rose unknown k c told = unknown (cluster_jobs k told.gathered.commands) c.children.before c.children.after told.all told.gathered.gathers told.concludes

not_twelve : (s : Status) (k : ClusterCommand) (c : ClusterCall) → ClusterCause s k c → 12 ≡ code_of s → Concludes k c Unknown
not_twelve Done k c cause e = absurd (cc)
not_twelve Broken k c cause e = absurd (cc)
not_twelve Usage k c cause e = absurd (cc)
not_twelve (Refused r) k c cause e = absurd (cc)
not_twelve ReadFault k c cause e = absurd (cc)
not_twelve WriteFault k c cause e = absurd (cc)
not_twelve LinkFault k c cause e = absurd (cc)
not_twelve (Limit b) k c cause e = absurd (cc)
not_twelve (TurnsSpent n) k c cause e = absurd (cc)
not_twelve OutOfMemory k c cause e = absurd (cc)
not_twelve DiskFault k c never e = absurd never
not_twelve (JournalRefused n) k c never e = absurd never
not_twelve ChildFault k c (told, said) e = told

well_alone : (x : Conclusion) → x ≡ Well → (x ≡ Ill → ⊥) × (x ≡ Unknown → ⊥)
well_alone x well =
    ((λ ill. let e : Well ≡ Ill = sym well ∙ ill in cc), (λ unknown. let e : Well ≡ Unknown = sym well ∙ unknown in cc))

module _ (unknown : UnknownRose) (well : AllWell) (k : ClusterCommand) (c : ClusterCall) (clear : IsClearForCluster c) where
  read_as : (text : List ℕ) (r : Result (List (List ℕ)) NodeFault) → IsInput c.input.before.left text → commands_in (lines_of text) ≡ r → Ok clear.commands ≡ r
  read_as text r input reads = sym clear.reads ∙ (ap (λ (t : List ℕ). commands_in (lines_of t)) (sym (same_input c.input.before.left clear.text text clear.input input)) ∙ reads)

  not_refused : (text : List ℕ) (r : Refusal) → IsInput c.input.before.left text → IsNoCommands text r → ⊥
  not_refused text r input bad = let e : ◌≡◌ {A = Result (List (List ℕ)) NodeFault} (Ok clear.commands) (Err bad.fault) = read_as text (Err bad.fault) input bad.reads in cc

  is_well : (x : Conclusion) (told : Concludes k c x) → x ≡ Well
  is_well x told = sym told.concludes ∙ well (cluster_jobs k told.gathered.commands) c.children.before c.children.after told.all clear.children told.gathered.gathers clear.told clear.well clear.started

  clear_status : (s : Status) → ClusterCause s k c → (code_of s ≡ 0) ⊎ (code_of s ≡ 9)
  clear_status Done cause = inl refl
  clear_status Broken (told, kept) = absurd ((well_alone Ill (is_well Ill told)).0 refl)
  clear_status Usage never = absurd never
  clear_status (Refused r) ((text, input, bad), none, kept, said) = absurd (not_refused text r input bad)
  clear_status ReadFault (rose, none, kept, said) = absurd (clear.read rose)
  clear_status WriteFault (rose, front) = elim rose [
    | inl out ↦ absurd (clear.out out.0)
    | inr err ↦ absurd (clear.err err)
  ]
  clear_status LinkFault never = absurd never
  clear_status (Limit Bytes) (long, none, kept, said) = absurd (not_too_long c.input.before.left clear.text clear.input clear.short long)
  clear_status (Limit Events) never = absurd never
  clear_status (Limit Packets) never = absurd never
  clear_status (TurnsSpent n) never = absurd never
  clear_status OutOfMemory cause = inr refl
  clear_status DiskFault never = absurd never
  clear_status (JournalRefused n) never = absurd never
  clear_status ChildFault (told, said) = absurd (clear.started (concluded_rose unknown k c told))

-- the number of a status that has its cause
pub cluster_answers : UnknownRose → AllWell → (n : ℕ) (k : ClusterCommand) (c : ClusterCall) (s : Status) → n ≡ code_of s → ClusterCause s k c → HasClusterCauseOf n k c
cluster_answers unknown well n k c s code cause = record {
  status = s;
  code = code;
  cause = cause;
  failed = λ twelve. concluded_rose unknown k c (not_twelve s k c cause (sym twelve ∙ code));
  complete = λ clear. elim (clear_status unknown well k c clear s cause) [
    | inl zero ↦ inl (code ∙ zero)
    | inr nine ↦ inr (code ∙ nine)
  ];
}
