-- Which observations of a stage stand with which numbers of events.
use Rattle.std.proofs.Common.{◌≡◌, ℕ, zero, suc, ◌+◌, ◌≤◌, ◌<◌, Bool, Option, Some, None, List, [], ◌∷◌, ◌++◌, refl, sym, ap, ◌∙◌, inl, inr, arith, append-nil}
use Rattle.std.specs.Prelude.{fold, if◌then◌else◌, map, slice_get, take}
use Rattle.std.specs.List.{filter}
use Rattle.std.proofs.lemmas.Bool.{cases_Bool, le-leb, lt-leb}
use Rattle.std.proofs.lemmas.List.Elements.{filter-append}
use Rattle.ab_num.specs.declared.party.Party.{Party}
use Rattle.ab_num.specs.declared.party.Party.TheVariants.{Replica, Client}
use Rattle.ab_msg.specs.declared.message.Msg.{Msg}
use Rattle.ab_abs.specs.declared.seen.Seen.{Seen}
use Rattle.ab_abs.specs.Faults.{is_faulty}
use Rattle.ab_abs.specs.Ensembles.{Proto}
use Rattle.ab_abs.specs.Messages.{Call, took, timed}
use Rattle.ab_run.specs.declared.noted.Noted.{Noted}
use Rattle.ab_run.specs.Setups.{RunSetup}
use Rattle.ab_run.specs.Replicas.{Rep}
use Rattle.ab_run.specs.Clients.{Cli}
use Rattle.ab_run.specs.Local.{Cue, cue_command, cue_message, cue_time, rep_marks, cli_marks}
use Rattle.ab_run.specs.Inputs.{Input, told, came, rang, elsewhere, Opener, Speller}
use Rattle.ab_run.specs.Stages.{Stage, noted, first_stage, stage_call, stage_cue, stage_still, stage_opened, stage_after, stage_over}
use Rattle.ab_world.specs.Lines.{note}
use Rattle.ab_world.specs.Told.{up_to}

-- what stands with a later number is left out, and with no later one it stays
later_out : (n e : ℕ) (more : List Seen) → n < e → filter (up_to n) (map (note e) more) ≡ []
later_out n e [] lt = refl
later_out n e (s ∷ more) lt =
    ap (λ (b : Bool). if b then note e s ∷ filter (up_to n) (map (note e) more) else filter (up_to n) (map (note e) more)) (lt-leb e n lt) ∙ later_out n e more lt

sooner_in : (n e : ℕ) (more : List Seen) → e ≤ n → filter (up_to n) (map (note e) more) ≡ map (note e) more
sooner_in n e [] le = refl
sooner_in n e (s ∷ more) le =
    ap (λ (b : Bool). if b then note e s ∷ filter (up_to n) (map (note e) more) else filter (up_to n) (map (note e) more)) (le-leb e n le)
    ∙ ap (λ l. note e s ∷ l) (sooner_in n e more le)

module _ {P : Type 0} (k : RunSetup) (proto : Proto P) (spell : Speller) (opens : Opener) where
  -- the stage y is one event after x, in which this was seen
  record IsNext (x y : Stage P) : Type 0 where
    more : List Seen
    events : y.events ≡ x.events + 1
    adds : y.seen ≡ x.seen ++ map (note (x.events + 1)) more

  noted_next : (p : Party) (n : ℕ) (seen : List Noted) (marks : List Seen) → (more : List Seen) × (noted k p n seen marks ≡ seen ++ map (note n) more)
  noted_next p n seen marks =
      elim (cases_Bool (is_faulty k.faulty p)) [
        | inl bad ↦ ([], ap (λ (b : Bool). if b then seen else seen ++ map (note n) marks) bad ∙ sym (append-nil seen))
        | inr good ↦ (marks, ap (λ (b : Bool). if b then seen else seen ++ map (note n) marks) good)
      ]

  still_next : (x : Stage P) → IsNext x (stage_still k proto spell x)
  still_next x = record { more = []; events = refl; adds = sym (append-nil x.seen) }

  call_next : (x : Stage P) (r : ℕ) (call : Call) (o : Option (Rep P)) → IsNext x (stage_call k proto spell x r call o)
  call_next x r call None = record { more = []; events = refl; adds = sym (append-nil x.seen) }
  call_next x r call (Some s) =
      let m = noted_next (Replica r) (x.events + 1) x.seen (rep_marks k proto r s call) in record { more = m.0; events = refl; adds = m.1 }

  cue_next : (x : Stage P) (c : ℕ) (cue : Cue) (o : Option Cli) → IsNext x (stage_cue k proto spell x c cue o)
  cue_next x c cue None = record { more = []; events = refl; adds = sym (append-nil x.seen) }
  cue_next x c cue (Some s) =
      let m = noted_next (Client c) (x.events + 1) x.seen (cli_marks k c s cue) in record { more = m.0; events = refl; adds = m.1 }

  opened_next : (x : Stage P) (p : Party) (o : Option Msg) → IsNext x (stage_opened k proto spell x p o)
  opened_next x p None = still_next x
  opened_next x (Replica r) (Some m) = call_next x r (took m) (slice_get x.replicas r)
  opened_next x (Client c) (Some m) = cue_next x c (cue_message m) (slice_get x.clients c)

  abbrev next : Stage P → Input → Stage P
  next = stage_after k proto spell opens

  input_next : (x : Stage P) (g : Input) → IsNext x (next x g)
  input_next x (told c command) = cue_next x c (cue_command command) (slice_get x.clients c)
  input_next x (came p bytes) = opened_next x p (opens p bytes)
  input_next x (rang (Replica r)) = call_next x r timed (slice_get x.replicas r)
  input_next x (rang (Client c)) = cue_next x c cue_time (slice_get x.clients c)
  input_next x elsewhere = still_next x

  -- what comes later has later numbers
  later_numbers : (n : ℕ) (inputs : List Input) (x : Stage P) → n ≤ x.events → filter (up_to n) (fold next x inputs).seen ≡ filter (up_to n) x.seen
  later_numbers n [] x le = refl
  later_numbers n (g ∷ inputs) x le =
      let is = input_next x g in
      later_numbers n inputs (next x g) (omega (arith, le, is.events))
      ∙ ap (filter (up_to n)) is.adds
      ∙ filter-append (up_to n) x.seen (map (note (x.events + 1)) is.more)
      ∙ ap (λ l. filter (up_to n) x.seen ++ l) (later_out n (x.events + 1) is.more (omega (arith, le)))
      ∙ append-nil (filter (up_to n) x.seen)

  front_numbers : (inputs : List Input) (m n : ℕ) (x : Stage P) → n ≡ x.events + m → filter (up_to n) x.seen ≡ x.seen → filter (up_to n) (fold next x inputs).seen ≡ (fold next x (take m inputs)).seen
  front_numbers inputs zero n x e all = later_numbers n inputs x (omega (arith, e)) ∙ all
  front_numbers [] (suc m) n x e all = all
  front_numbers (g ∷ inputs) (suc m) n x e all =
      let is = input_next x g in
      front_numbers inputs m n (next x g) (omega (arith, e, is.events))
      (ap (filter (up_to n)) is.adds
      ∙ filter-append (up_to n) x.seen (map (note (x.events + 1)) is.more)
      ∙ (λ j. all j ++ sooner_in n (x.events + 1) is.more (omega (arith, e)) j)
      ∙ sym is.adds)

  -- what stands with the first n numbers is what is seen once the first n have come
  pub numbered : (n : ℕ) (inputs : List Input) → filter (up_to n) (stage_over k proto spell opens inputs).seen ≡ (stage_over k proto spell opens (take n inputs)).seen
  numbered n inputs = front_numbers inputs n n (first_stage k proto) (omega arith) refl
