-- A party that is served with a journal.
use Rattle.std.proofs.Common.{◌≡◌, ℕ, ◌≤◌, List, Option, None, Some, Result, Ok, IfOk, IfErr, IfSome, is_some, refl, ap, ◌∙◌}
use Rattle.ab_num.proofs.Results.{if_ok_map, if_err_map}
use Rattle.ab_text.specs.Lines.{lines_of}
use Rattle.ab_key_text.specs.Keys.{PartyKeys}
use Rattle.ab_key_text.specs.Nodes.{node_in, node_of}
use Rattle.ab_journal.specs.Keepers.{listed}
use Rattle.ab_loop.specs.Cores.{NodeEvent}
use Rattle.ab_loop.specs.declared.serving.Served.{Served}
use Rattle.ab_loop.specs.Edges.{Edge, edge}
use Rattle.ab_restart.specs.Pasts.{IsPast, first_body}
use Rattle.ab_node.specs.declared.stop.Stop.{Stop}
use Rattle.ab_node.specs.declared.stop.Stop.TheVariants as stop
use Rattle.ab_node.specs.Nodes.{IsUntouched as NodeStill, NodeCall, PartyEnds, PartyServed, TextCause, node_call}
use Rattle.ab_node.specs.Journals.{DiskState, IsServedOn, IsSilent, IsUntouched, JournalCall, JournalCrash, PartyJournalCause, Resumes, RestoreCause, journal_of}

-- a text that sets up no party
pub no_journal_party : (s : Stop) (text : List ℕ) (j : JournalCall) (crash : JournalCrash) → TextCause s text → IsUntouched j → PartyJournalCause s text j crash
no_journal_party stop.Read text j crash cause still = absurd cause
no_journal_party stop.TooLong text j crash cause still = absurd cause
no_journal_party (stop.Refused r) text j crash refused still = (refused, still)
no_journal_party (stop.Serving why) text j crash cause still = absurd cause
no_journal_party stop.Disk text j crash cause still = absurd cause
no_journal_party (stop.Journal n) text j crash cause still = absurd cause
no_journal_party stop.OutOfMemory text j crash cause still = still.silent

-- a journal that isn't restored
pub not_restored : (s : Stop) (text : List ℕ) (j : JournalCall) (crash : JournalCrash) → RestoreCause s text j.disk → IsSilent j → PartyJournalCause s text j crash
not_restored stop.Read text j crash cause silent = absurd cause
not_restored stop.TooLong text j crash cause silent = absurd cause
not_restored (stop.Refused r) text j crash cause silent = absurd cause
not_restored (stop.Serving why) text j crash cause silent = absurd cause
not_restored stop.Disk text j crash rose silent = (rose, silent)
not_restored (stop.Journal n) text j crash refuses silent = (refuses, silent)
not_restored stop.OutOfMemory text j crash cause silent = silent

listed_told : (seen : Option (List ℕ)) → is_some (listed seen) ≡ is_some seen
listed_told None = refl
listed_told (Some bytes) = refl

-- a party that goes on after these events, over a disk that stood so once they were read
module _ (text : List ℕ) (j : JournalCall) (crash : JournalCrash) (past : List NodeEvent) (read : DiskState) (k : PartyKeys) (commands : List (List ℕ))
    (reads : node_in (lines_of text) ≡ Ok (node_of k commands))
    (were : IfSome (listed j.disk.before.seen) (λ bodies. IsPast (first_body text) bodies past))
    (told : is_some read.seen ≡ is_some j.disk.before.seen)
    (kept : IfSome (listed read.seen) (λ bodies. bodies ≡ journal_of text past))
    (later : j.disk.before.faults ≤ read.faults) where
  -- the node as it is served
  abbrev pub served_call : NodeCall
  served_call = node_call j.asked past j.clock
      (edge j.out.before j.link.before (record { kept = listed read.seen; faults = read.faults }))
      (edge j.out.after j.link.after (record { kept = listed j.disk.after.seen; faults = j.disk.after.faults }))

  resumes : Resumes j text served_call
  resumes = record {
    asked = refl;
    clock = refl;
    out = refl;
    link = refl;
    past = were;
    told = listed_told read.seen ∙ told;
    kept = kept;
    later = later;
    new = refl;
  }

  pub serves_on : (result : Result Served Stop) → IfOk result (PartyServed k.me k commands served_call (crash text past)) → IfOk result (IsServedOn text j crash)
  serves_on result is = if_ok_map result (λ served run. record { node = served_call; resumes = resumes; run = record { node = node_of k commands; reads = reads; run = run } }) is

  silent : NodeStill served_call → IsSilent j
  silent still = record { clock = still.1; out = ap (λ (e : Edge). e.out) still.0; link = ap (λ (e : Edge). e.link) still.0 }

  stops : (s : Stop) → PartyEnds k.me k commands served_call (crash text past) s → PartyJournalCause s text j crash
  stops stop.Read cause = absurd cause
  stops stop.TooLong cause = absurd cause
  stops (stop.Refused q) cause = absurd cause
  stops (stop.Serving why) cause = record { node = served_call; resumes = resumes; fault = record { node = node_of k commands; reads = reads; fault = cause } }
  stops stop.Disk cause = absurd cause
  stops (stop.Journal n) cause = absurd cause
  stops stop.OutOfMemory still = silent still

  pub stops_on : (result : Result Served Stop) → IfErr result (PartyEnds k.me k commands served_call (crash text past)) → IfErr result (λ s. PartyJournalCause s text j crash)
  stops_on result is = if_err_map result stops is
