-- What follows from the causes of statuses.
use Rattle.std.proofs.Common.{◌≡◌, ◌↔◌, ℕ, ◌<◌, ◌≤◌, ◌⊎◌, List, Bool, true, false, IsTrue, Ok, Err, Result, if◌then◌else◌, length, arith, refl, sym, ap, ◌∙◌, subst, inl, inr}
use Rattle.std.proofs.Common.{Option, None, Some}
use Rattle.ab_num.specs.declared.plan.ServiceName.{ServiceName}
use Rattle.ab_num.specs.declared.plan.ServiceName.TheVariants.{Echo, Kv}
use Rattle.ab_io.specs.States.{Change, SinkState}
use Rattle.ab_svc.specs.Machines.{Machine}
use Rattle.ab_text.specs.declared.fault.TextFault.{TextFault}
use Rattle.ab_text.specs.declared.line.Premise.{Premise}
use Rattle.ab_text.specs.declared.line.Premise.TheVariants.{Held, Broken as NotHeld}
use Rattle.ab_text.specs.Heads.{Script}
use Rattle.ab_text.specs.Schedules.{ReadsText}
use Rattle.ab_replay.specs.Protocols.{Any, any}
use Rattle.ab_command.specs.declared.status.Bound.TheVariants.{Bytes, Events, Packets}
use Rattle.ab_command.specs.declared.status.Status.{Status}
use Rattle.ab_command.specs.declared.status.Status.TheVariants.{Done, Broken, Usage, Refused, ReadFault, WriteFault, LinkFault, Limit, TurnsSpent, OutOfMemory, DiskFault, JournalRefused, ChildFault}
use Rattle.ab_command.specs.Texts.{code_of, fault_status}
use Rattle.ab_replay.specs.Streams.{IsAllOf, IsInput, IsTooLong, most_bytes}
use Rattle.ab_words.specs.declared.command.Command.{Command}
use Rattle.ab_words.specs.declared.command.Command.TheVariants.{Replay, Keys, Storm, Node, Audit}
use Rattle.ab_words.specs.Commands.{KeysCommand, NodeCommand, StormCommand}
use Rattle.ab_words.specs.Language.{command_in}
use Rattle.ab_command.specs.Calls.{Call}
use Rattle.ab_command.specs.Commands.{AsksKeys, AsksNode, AsksStorm, IsAudit, IsReplay, key_text}
use Rattle.ab_world.specs.declared.fault.WorldFault.{WorldFault}
use Rattle.ab_world.specs.declared.fault.WorldFault.TheVariants.{PacketLimit}
use Rattle.ab_world.specs.Worlds.{World, premise_of}
use Rattle.ab_replay.specs.Replays.{Performs, PerformsAs, IsRefused, ReplayCause, Replays, RunsTo, proto_of, Runs}
use Rattle.ab_replay.proofs.RunLemmas.{one_end}
use Rattle.ab_kv.specs.KvMachines.{kv_machine}
use Rattle.ab_replay.specs.declared.refusal.Refusal.{Refusal}
use Rattle.ab_replay.specs.declared.fault.ReplayFault.{ReplayFault}
use Rattle.ab_replay.specs.declared.fault.ReplayFault.TheVariants as replaying
use Rattle.ab_storm.specs.Runs.{Storms}
use Rattle.ab_command.specs.Endings.{HasInput, Says, SaysNoMemory, Settles, WritesOrSays}
use Rattle.ab_command.specs.Outputs.{Gets, GetsFront, HasFailed, IsKept}
use Rattle.ab_command.specs.Statuses.{StatusCause, AsksInput, HasFront, HasReport, HasSummary, IsBadInput, TellsInput, IsToldWhole, Passes, kv, IsClear, IsClearForKeys, IsClearForStorm, premise_code}
use Rattle.ab_command.proofs.Settled.{settled_as, written_or_said}

-- a run has one end
said_at : {S : Type 0} (machine : Machine S) (s : Script) (report : List ℕ) (held : Bool) (end : World Any) → Performs machine (any machine) s report held → RunsTo (any machine) s (Ok end)
    → IsTrue held ↔ (premise_of end ≡ Held)
said_at machine s report held end performs runs =
    let both : ◌≡◌ {A = Result (World Any) (ℕ × WorldFault)} (Ok performs.end) (Ok end) = one_end (any machine) s (Ok performs.end) (Ok end) (record { cluster = performs.cluster; sized = performs.sized; runs = performs.runs }) runs in
    let same : performs.end ≡ end = cc (both) in
    subst (λ (w : World Any). IsTrue held ↔ (premise_of w ≡ Held)) same performs.says

said_of : (service : ServiceName) (s : Script) (report : List ℕ) (held : Bool) (end : World Any) → PerformsAs service s report held
    → RunsTo (proto_of service) s (Ok end) → IsTrue held ↔ (premise_of end ≡ Held)
said_of Echo s report held end performs runs = said_at _ s report held end performs runs
said_of Kv s report held end performs runs = said_at _ s report held end performs runs

code_of_broken : (p : Premise) → (p ≡ Held → IsTrue false) → 1 ≡ premise_code p
code_of_broken Held never = let e : false ≡ true = never refl in absurd (cc)
code_of_broken (NotHeld e breach q) never = refl

held_code : (held : Bool) (p : Premise) → IsTrue held ↔ (p ≡ Held) → (if held then 0 else 1) ≡ premise_code p
held_code true p says = ap premise_code (sym (says.0 refl))
held_code false p says = code_of_broken p says.1

-- ---- words ask for one command

pub not_none : (words : List (List ℕ)) (a : Command) → command_in words ≡ Some a → command_in words ≡ None → ⊥
not_none words a asks none = let e : ◌≡◌ {A = Option Command} (Some a) None = sym asks ∙ none in cc

pub replay_or_audit : (words : List (List ℕ)) → IsReplay words → IsAudit words → ⊥
replay_or_audit words replay (why, audit) = let e : ◌≡◌ {A = Option Command} (Some Replay) (Some (Audit why)) = sym replay ∙ audit in cc

pub audit_or_keys : (words : List (List ℕ)) (k : KeysCommand) → IsAudit words → AsksKeys words k → ⊥
audit_or_keys words k (why, audit) asks = let e : ◌≡◌ {A = Option Command} (Some (Audit why)) (Some (Keys k)) = sym audit ∙ asks in cc

pub audit_or_storm : (words : List (List ℕ)) (k : StormCommand) → IsAudit words → AsksStorm words k → ⊥
audit_or_storm words k (why, audit) asks = let e : ◌≡◌ {A = Option Command} (Some (Audit why)) (Some (Storm k)) = sym audit ∙ asks in cc

pub audit_or_node : (words : List (List ℕ)) (k : NodeCommand) → IsAudit words → AsksNode words k → ⊥
audit_or_node words k (why, audit) asks = let e : ◌≡◌ {A = Option Command} (Some (Audit why)) (Some (Node k)) = sym audit ∙ asks in cc

pub replay_or_keys : (words : List (List ℕ)) (k : KeysCommand) → IsReplay words → AsksKeys words k → ⊥
replay_or_keys words k replay asks = let e : ◌≡◌ {A = Option Command} (Some Replay) (Some (Keys k)) = sym replay ∙ asks in cc

pub replay_or_storm : (words : List (List ℕ)) (k : StormCommand) → IsReplay words → AsksStorm words k → ⊥
replay_or_storm words k replay asks = let e : ◌≡◌ {A = Option Command} (Some Replay) (Some (Storm k)) = sym replay ∙ asks in cc

pub keys_or_storm : (words : List (List ℕ)) (j : KeysCommand) (k : StormCommand) → AsksKeys words j → AsksStorm words k → ⊥
keys_or_storm words j k keys asks = let e : ◌≡◌ {A = Option Command} (Some (Keys j)) (Some (Storm k)) = sym keys ∙ asks in cc

pub replay_or_node : (words : List (List ℕ)) (k : NodeCommand) → IsReplay words → AsksNode words k → ⊥
replay_or_node words k replay asks = let e : ◌≡◌ {A = Option Command} (Some Replay) (Some (Node k)) = sym replay ∙ asks in cc

pub keys_or_node : (words : List (List ℕ)) (j : KeysCommand) (k : NodeCommand) → AsksKeys words j → AsksNode words k → ⊥
keys_or_node words j k keys asks = let e : ◌≡◌ {A = Option Command} (Some (Keys j)) (Some (Node k)) = sym keys ∙ asks in cc

pub storm_or_node : (words : List (List ℕ)) (j : StormCommand) (k : NodeCommand) → AsksStorm words j → AsksNode words k → ⊥
storm_or_node words j k storm asks = let e : ◌≡◌ {A = Option Command} (Some (Storm j)) (Some (Node k)) = sym storm ∙ asks in cc

-- what tells of the input asks for no keys, no storm and no node
pub input_or_keys : (words : List (List ℕ)) (k : KeysCommand) → AsksInput words → AsksKeys words k → ⊥
input_or_keys words k (inl replay) asks = replay_or_keys words k replay asks
input_or_keys words k (inr audit) asks = audit_or_keys words k audit asks

pub input_or_storm : (words : List (List ℕ)) (k : StormCommand) → AsksInput words → AsksStorm words k → ⊥
input_or_storm words k (inl replay) asks = replay_or_storm words k replay asks
input_or_storm words k (inr audit) asks = audit_or_storm words k audit asks

pub input_or_node : (words : List (List ℕ)) (k : NodeCommand) → AsksInput words → AsksNode words k → ⊥
input_or_node words k (inl replay) asks = replay_or_node words k replay asks
input_or_node words k (inr audit) asks = audit_or_node words k audit asks

pub tells_words : (c : Call) (well : Bool) → TellsInput well c → AsksInput c.words
tells_words c well (inl (words, report)) = inl words
tells_words c well (inr (why, report, asks, input, got)) = inr (why, asks)

pub bad_words : (c : Call) (r : Refusal) → IsBadInput r c → AsksInput c.words
bad_words c r (inl (words, input)) = inl words
bad_words c r (inr (words, input)) = inr words

same_storm : (words : List (List ℕ)) (j k : StormCommand) → AsksStorm words j → AsksStorm words k → j ≡ k
same_storm words j k one other = let e : ◌≡◌ {A = Option Command} (Some (Storm j)) (Some (Storm k)) = sym one ∙ other in cc

-- the bytes that were read are those that the input tells
pub same_input : (left : Option (List ℕ)) (told text : List ℕ) → left ≡ Some told → IsInput left text → text ≡ told
same_input left told text is input = sym (subst (λ l. IsAllOf l text) is input.all)

-- it tells no more than a program reads
pub not_too_long : (left : Option (List ℕ)) (told : List ℕ) → left ≡ Some told → length told ≤ most_bytes → IsTooLong left → ⊥
not_too_long left told is short long = let above : most_bytes < length told = subst IsTooLong is long in omega (arith, above, short)

module _ (one : (text : List ℕ) (r q : Result Script TextFault) → ReadsText text r → ReadsText text q → r ≡ q) (c : Call) (clear : IsClear c) where
  same_text : (text : List ℕ) → IsInput c.met.input.before.left text → text ≡ clear.text
  same_text text input = same_input c.met.input.before.left clear.text text clear.input input

  not_ended : (text : List ℕ) (s : Script) (n : ℕ) (f : WorldFault) → text ≡ clear.text → ReadsText text (Ok s) → Runs s (Err (n, f)) → ⊥
  not_ended text s n f same reads ends =
      let e : Ok s ≡ Ok clear.schedule = one clear.text (Ok s) (Ok clear.schedule) (subst (λ t. ReadsText t (Ok s)) same reads) clear.reads in
      let is : s ≡ clear.schedule = cc in
      let o : ◌≡◌ {A = Result (World Any) (ℕ × WorldFault)} (Err (n, f)) (Ok clear.end) = one_end (proto_of clear.schedule.service) clear.schedule (Err (n, f)) (Ok clear.end) (subst (λ (q : Script). Runs q (Err (n, f))) is ends) clear.runs in cc (o)

  not_refused : (text : List ℕ) (r : Refusal) → text ≡ clear.text → IsRefused text r → ⊥
  not_refused text r same refused =
      elim refused [
        | inl bad ↦ let e : Err bad.fault ≡ Ok clear.schedule = one clear.text (Err bad.fault) (Ok clear.schedule) (subst (λ t. ReadsText t (Err bad.fault)) same bad.reads) clear.reads in cc
        | inr bad ↦ not_ended text bad.schedule bad.event bad.fault same bad.reads bad.runs
      ]

  -- the report says whether the premises hold at the end of the run that the input tells
  says_clear : (held : Bool) → HasReport held c → IsTrue held ↔ (premise_of clear.end ≡ Held)
  says_clear held (report, (text, input, replays), appended) =
      let s = replays.schedule in
      let e : Ok s ≡ Ok clear.schedule = one clear.text (Ok s) (Ok clear.schedule) (subst (λ t. ReadsText t (Ok s)) (same_text text input) replays.reads) clear.reads in
      let is : s ≡ clear.schedule = cc in
      said_of s.service s report held clear.end replays.performs (subst (λ (q : Script). Runs q (Ok clear.end)) (sym is) clear.runs)

  pub clear_status : (s : Status) → StatusCause s c → (code_of s ≡ premise_code (premise_of clear.end)) ⊎ (code_of s ≡ 9)
  clear_status Done (inl (inr (why, report, asks, input, got)), kept) = absurd (replay_or_audit c.words clear.words (why, asks))
  clear_status Done (inl (inl (words, report)), kept) = inl (ap premise_code (sym ((says_clear true report).0 refl)))
  clear_status Done (inr (inl (k, asks, written)), kept) = absurd (replay_or_keys c.words k clear.words asks)
  clear_status Done (inr (inr (inl (k, summary, asks, storms, written))), kept) = absurd (replay_or_storm c.words k clear.words asks)
  clear_status Done (inr (inr (inr (k, asks, served))), kept) = absurd (replay_or_node c.words k clear.words asks)
  clear_status Broken (inl (inr (why, report, asks, input, got)), kept) = absurd (replay_or_audit c.words clear.words (why, asks))
  clear_status Broken (inl (inl (words, report)), kept) = inl (code_of_broken (premise_of clear.end) ((says_clear false report).1))
  clear_status Broken (inr (k, summary, asks, storms, written), kept) = absurd (replay_or_storm c.words k clear.words asks)
  clear_status Usage (none, kept, said) = absurd (not_none c.words Replay clear.words none)
  clear_status (Refused r) (inl (inr (words, refused), kept), said) = absurd (replay_or_audit c.words clear.words words)
  clear_status (Refused r) (inl (inl (words, (text, input, refused)), kept), said) = absurd (not_refused text r (same_text text input) refused)
  clear_status (Refused r) (inr (k, asks, why), said) = absurd (replay_or_node c.words k clear.words asks)
  clear_status ReadFault (inl (words, rose, kept), said) = absurd (clear.read rose)
  clear_status ReadFault (inr (k, asks, why), said) = absurd (replay_or_node c.words k clear.words asks)
  clear_status WriteFault (rose, front) = elim rose [
    | inl out ↦ absurd (clear.out out.0)
    | inr err ↦ absurd (clear.err err)
  ]
  clear_status LinkFault ((k, asks, why), said) = absurd (replay_or_node c.words k clear.words asks)
  clear_status (Limit Bytes) (inl (words, long, kept), said) = absurd (not_too_long c.met.input.before.left clear.text clear.input clear.short long)
  clear_status (Limit Bytes) (inr (k, asks, why), said) = absurd (replay_or_node c.words k clear.words asks)
  clear_status (Limit Events) (words, (text, input, (s, reads, many)), kept, said) =
      absurd (let e : Ok s ≡ Ok clear.schedule = one clear.text (Ok s) (Ok clear.schedule) (subst (λ t. ReadsText t (Ok s)) (same_text text input) reads) clear.reads in
      let same : s ≡ clear.schedule = cc in
      omega (arith, many, ap (λ x. length x.events) same, clear.few))
  clear_status (Limit Packets) (inl (words, (text, input, many)), kept, said) =
      absurd (not_ended text many.schedule many.event PacketLimit (same_text text input) many.reads many.runs)
  clear_status (Limit Packets) (inr (k, asks, passes), kept, said) = absurd (replay_or_storm c.words k clear.words asks)
  clear_status (TurnsSpent n) ((k, asks, why), said) = absurd (replay_or_node c.words k clear.words asks)
  clear_status OutOfMemory cause = inr refl
  clear_status DiskFault never = absurd never
  clear_status (JournalRefused n) never = absurd never
  clear_status ChildFault never = absurd never

-- where keys are asked for
module _ (c : Call) (k : KeysCommand) (clear : IsClearForKeys c k) where
  pub keys_status : (s : Status) → StatusCause s c → ((code_of s ≡ 0) × Gets c.met.out (key_text k)) ⊎ (code_of s ≡ 9)
  keys_status Done (inl told, kept) = absurd (input_or_keys c.words k (tells_words c true told) clear.words)
  keys_status Done (inr (inr (inl (s, summary, asks, storms, written))), kept) = absurd (keys_or_storm c.words k s clear.words asks)
  keys_status Done (inr (inr (inr (n, asks, served))), kept) = absurd (keys_or_node c.words k n clear.words asks)
  keys_status Done (inr (inl (j, asks, written)), kept) =
      let e : ◌≡◌ {A = Option Command} (Some (Keys j)) (Some (Keys k)) = sym asks ∙ clear.words in
      let same : j ≡ k = cc in
      inl (refl, subst (λ (x : KeysCommand). Gets c.met.out (key_text x)) same written)
  keys_status Broken (inl told, kept) = absurd (input_or_keys c.words k (tells_words c false told) clear.words)
  keys_status Broken (inr (s, summary, asks, storms, written), kept) = absurd (keys_or_storm c.words k s clear.words asks)
  keys_status Usage (none, kept, said) = absurd (not_none c.words (Keys k) clear.words none)
  keys_status (Refused r) (inl (bad, kept), said) = absurd (input_or_keys c.words k (bad_words c r bad) clear.words)
  keys_status (Refused r) (inr (n, asks, why), said) = absurd (keys_or_node c.words k n clear.words asks)
  keys_status ReadFault (inl (words, rose, kept), said) = absurd (input_or_keys c.words k words clear.words)
  keys_status ReadFault (inr (n, asks, why), said) = absurd (keys_or_node c.words k n clear.words asks)
  keys_status WriteFault (rose, front) = elim rose [
    | inl out ↦ absurd (clear.out out.0)
    | inr err ↦ absurd (clear.err err)
  ]
  keys_status LinkFault ((n, asks, why), said) = absurd (keys_or_node c.words k n clear.words asks)
  keys_status (Limit Bytes) (inl (words, long, kept), said) = absurd (input_or_keys c.words k words clear.words)
  keys_status (Limit Bytes) (inr (n, asks, why), said) = absurd (keys_or_node c.words k n clear.words asks)
  keys_status (Limit Events) (words, input, kept, said) = absurd (replay_or_keys c.words k words clear.words)
  keys_status (Limit Packets) (inl (words, input), kept, said) = absurd (replay_or_keys c.words k words clear.words)
  keys_status (Limit Packets) (inr (s, asks, passes), kept, said) = absurd (keys_or_storm c.words k s clear.words asks)
  keys_status (TurnsSpent m) ((n, asks, why), said) = absurd (keys_or_node c.words k n clear.words asks)
  keys_status OutOfMemory cause = inr refl
  keys_status DiskFault never = absurd never
  keys_status (JournalRefused n) never = absurd never
  keys_status ChildFault never = absurd never

-- where a storm is asked for
module _ (c : Call) (k : StormCommand) (clear : IsClearForStorm c k) where
  abbrev Told : ℕ → Type 0
  Told n = IsToldWhole n k c ⊎ ((Passes k × (n ≡ 7)) ⊎ (n ≡ 9))

  told_as : (held : Bool) (n : ℕ) → n ≡ (if held then 0 else 1) → HasSummary held c → Told n
  told_as held n is (j, summary, asks, storms, written) =
      let ours : Storms kv_machine kv k summary held = subst (λ (s : StormCommand). Storms kv_machine kv s summary held) (same_storm c.words j k asks clear.words) storms in
      inl (record {
        end = ours.end;
        runs = record { cluster = ours.cluster; sized = ours.sized; runs = ours.runs };
        code = is ∙ held_code held (premise_of ours.end) ours.says;
        whole = subst (λ (text : List ℕ). Gets c.met.out text) ours.sums written;
      })

  pub storm_status : (s : Status) → StatusCause s c → Told (code_of s)
  storm_status Done (inl told, kept) = absurd (input_or_storm c.words k (tells_words c true told) clear.words)
  storm_status Done (inr (inl (j, asks, written)), kept) = absurd (keys_or_storm c.words j k asks clear.words)
  storm_status Done (inr (inr (inl summary)), kept) = told_as true 0 refl summary
  storm_status Done (inr (inr (inr (n, asks, served))), kept) = absurd (storm_or_node c.words k n clear.words asks)
  storm_status Broken (inl told, kept) = absurd (input_or_storm c.words k (tells_words c false told) clear.words)
  storm_status Broken (inr summary, kept) = told_as false 1 refl summary
  storm_status Usage (none, kept, said) = absurd (not_none c.words (Storm k) clear.words none)
  storm_status (Refused r) (inl (bad, kept), said) = absurd (input_or_storm c.words k (bad_words c r bad) clear.words)
  storm_status (Refused r) (inr (n, asks, why), said) = absurd (storm_or_node c.words k n clear.words asks)
  storm_status ReadFault (inl (words, rose, kept), said) = absurd (input_or_storm c.words k words clear.words)
  storm_status ReadFault (inr (n, asks, why), said) = absurd (storm_or_node c.words k n clear.words asks)
  storm_status WriteFault (rose, front) = elim rose [
    | inl out ↦ absurd (clear.out out.0)
    | inr err ↦ absurd (clear.err err)
  ]
  storm_status LinkFault ((n, asks, why), said) = absurd (storm_or_node c.words k n clear.words asks)
  storm_status (Limit Bytes) (inl (words, long, kept), said) = absurd (input_or_storm c.words k words clear.words)
  storm_status (Limit Bytes) (inr (n, asks, why), said) = absurd (storm_or_node c.words k n clear.words asks)
  storm_status (Limit Events) (words, input, kept, said) = absurd (replay_or_storm c.words k words clear.words)
  storm_status (Limit Packets) (inl (words, input), kept, said) = absurd (replay_or_storm c.words k words clear.words)
  storm_status (Limit Packets) (inr (j, asks, passes), kept, said) = inr (inl (subst (λ (s : StormCommand). Passes s) (same_storm c.words j k asks clear.words) passes, refl))
  storm_status (TurnsSpent m) ((n, asks, why), said) = absurd (storm_or_node c.words k n clear.words asks)
  storm_status OutOfMemory cause = inr (inr refl)
  storm_status DiskFault never = absurd never
  storm_status (JournalRefused n) never = absurd never
  storm_status ChildFault never = absurd never

written_whole : (c : Call) (held : Bool) → IsReplay c.words → HasReport held c → IsKept c.met.err → StatusCause (if held then Done else Broken) c
written_whole c true words report kept = (inl (inl (words, report)), kept)
written_whole c false words report kept = (inl (inl (words, report)), kept)

summed_whole : (c : Call) (held : Bool) → HasSummary held c → IsKept c.met.err → StatusCause (if held then Done else Broken) c
summed_whole c true summary kept = (inr (inr (inl summary)), kept)
summed_whole c false summary kept = (inr summary, kept)

-- a text that was to be written has its cause
pub text_told : (c : Call) (r s : Status) (text : List ℕ) → WritesOrSays r s text c.met.out c.met.err → (Gets c.met.out text → IsKept c.met.err → StatusCause s c) → (GetsFront c.met.out text → HasFront c) → StatusCause r c
text_told c r s text how whole front =
    written_or_said (λ x. StatusCause x c) r s text c.met.out c.met.err how whole (λ part fails. (fails, front part)) (λ part says. (front part, says))

-- a report that was to be written
pub report_told : (c : Call) (r s : Status) (report : List ℕ) (held : Bool) → WritesOrSays r s report c.met.out c.met.err → s ≡ (if held then Done else Broken) → IsReplay c.words
    → HasInput (λ text. Replays text report held) c.met.input.before.left → StatusCause r c
report_told c r s report held how is words input =
    text_told c r s report how
    (λ got kept. subst (λ (x : Status). StatusCause x c) (sym is) (written_whole c held words (report, input, got) kept))
    (λ part. inr (inl (inl (report, held, words, input, part))))

-- a key text
pub keys_told : (c : Call) (k : KeysCommand) (r : Status) (text : List ℕ) → WritesOrSays r Done text c.met.out c.met.err → text ≡ key_text k → AsksKeys c.words k → StatusCause r c
keys_told c k r text how is asks =
    text_told c r Done text how
    (λ got kept. (inr (inl (k, asks, subst (Gets c.met.out) is got)), kept))
    (λ part. inr (inr (inl (k, asks, subst (GetsFront c.met.out) is part))))

-- a summary
pub summary_told : (c : Call) (k : StormCommand) (r s : Status) (summary : List ℕ) (held : Bool) → WritesOrSays r s summary c.met.out c.met.err → s ≡ (if held then Done else Broken) → AsksStorm c.words k
    → Storms kv_machine kv k summary held → StatusCause r c
summary_told c k r s summary held how is asks storms =
    text_told c r s summary how
    (λ got kept. subst (λ (x : Status). StatusCause x c) (sym is) (summed_whole c held (k, summary, asks, storms, got) kept))
    (λ part. inr (inr (inr (inl (k, summary, held, asks, storms, part)))))

-- a status that was to be said has its cause, where it has it once it is said
pub settled : (c : Call) (r s : Status) → Settles r s c.met.err → (Says s c.met.err → StatusCause s c) → HasFront c → StatusCause r c
settled c r s how make front = settled_as (λ x. StatusCause x c) r s c.met.err how make (λ rose. (inr rose, front)) (λ says. (front, says))

fault_said : (c : Call) (fault : ReplayFault) → IsReplay c.words → ReplayCause fault c.met.input.before.left c.met.input.before.faults c.met.input.after.faults → IsKept c.met.out → Says (fault_status fault) c.met.err → StatusCause (fault_status fault) c
fault_said c replaying.Read replay rose kept said = (inl (inl replay, rose, kept), said)
fault_said c replaying.TooLong replay long kept said = (inl (inl replay, long, kept), said)
fault_said c (replaying.Refused r) replay refused kept said = (inl (inl (replay, refused), kept), said)
fault_said c replaying.TooManyEvents replay many kept said = (replay, many, kept, said)
fault_said c replaying.TooManyPackets replay many kept said = (inl (replay, many), kept, said)
fault_said c replaying.OutOfMemory replay cause kept said = (inl kept, inl said)

-- why a schedule isn't replayed
pub replay_settled : (c : Call) (r : Status) (fault : ReplayFault) → Settles r (fault_status fault) c.met.err → IsReplay c.words
    → ReplayCause fault c.met.input.before.left c.met.input.before.faults c.met.input.after.faults → IsKept c.met.out → StatusCause r c
replay_settled c r fault how replay cause kept = settled c r (fault_status fault) how (fault_said c fault replay cause kept) (inl kept)

-- an allocation failed before the command began
pub refused_memory : (r : Status) (err : Change SinkState) → Settles r OutOfMemory err → ((code_of r ≡ 9) × SaysNoMemory err) ⊎ ((code_of r ≡ 5) × HasFailed err)
refused_memory r err (inl (e, said)) = inl (ap code_of e, inl said)
refused_memory r err (inr (inl (e, rose))) = inr (ap code_of e, rose)
refused_memory r err (inr (inr (e, says))) = inl (ap code_of e, says)
