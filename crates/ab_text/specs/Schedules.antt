-- The lines of a schedule.
use Rattle.std.specs.Prelude.{◌≡◌, ℕ, ◌+◌, ◌*◌, ◌<◌, ◌≤◌, List, [], ◌∷◌, ◌++◌, Result, Ok, Err, All, codes, decimal, ◌⊎◌}
use Rattle.ab_num.specs.declared.party.Party.{Party}
use Rattle.ab_num.specs.declared.party.Party.TheVariants.{Replica, Client}
use Rattle.ab_text.specs.declared.event.Event.{Event}
use Rattle.ab_text.specs.declared.fault.TextFault.{TextFault}
use Rattle.ab_text.specs.declared.fault.TextFault.TheVariants.{BadLine, NoEnd, NotBuilt, OutOfMemory}
use Rattle.ab_text.specs.declared.schedule.Head.{Head}
use Rattle.ab_text.specs.Lines.{lines_of}
use Rattle.ab_text.specs.Cores.{party_text}
use Rattle.ab_text.specs.EventLines.{event_line, IsEvent}
use Rattle.ab_text.specs.Heads.{Front, Script, head_at}

abbrev pub script_of : Head → List Event → Script
script_of h events = record {
  f = h.cluster.f;
  clients = h.cluster.clients;
  plan = h.cluster.plan;
  service = h.service;
  lms = h.lms;
  every = h.cluster.every;
  seed = h.seed;
  faulty = h.faulty;
  events = events;
}

-- ---- the lines of faulty parties

-- the party and how many twins it has
abbrev pub faulty_line : Party × ℕ → List ℕ
faulty_line x = codes "faulty " ++ (party_text x.0 ++ 32 ∷ decimal x.1)

-- replicas come before clients
abbrev pub IsBefore : Party → Party → Type 0
IsBefore (Replica r) (Replica s) = r < s
IsBefore (Replica r) (Client d) = Unit {0}
IsBefore (Client c) (Replica s) = ⊥
IsBefore (Client c) (Client d) = c < d

-- 3f + 1 replicas and the clients
abbrev pub IsInside : ℕ → ℕ → Party → Type 0
IsInside f clients (Replica r) = r < 3 * f + 1
IsInside f clients (Client c) = c < clients

-- may come next after these
pub record IsNextFaulty (f clients : ℕ) (done : List (Party × ℕ)) (x : Party × ℕ) : Type 0 where
  pub inside : IsInside f clients x.0
  pub ascending : All (λ y. IsBefore y.0 x.0) done
  pub some : 1 ≤ x.1
  pub few : x.1 ≤ 4

abbrev pub with_faulty : Script → Party × ℕ → Script
with_faulty s x = record s { faulty = s.faulty ++ x ∷ [] }

-- ---- the lines of events

abbrev pub with_event : Script → Event → Script
with_event s e = record s { events = s.events ++ e ∷ [] }

-- nothing comes after the end
abbrev pub Ends : ℕ → Script → List (List ℕ) → Result Script TextFault → Type 0
Ends n s [] r = r ≡ Ok s
Ends n s (l ∷ ls) r = r ≡ Err (BadLine n)

-- neither the end nor an event
pub record IsNoEvent (l : List ℕ) : Type 0 where
  pub no_end : l ≡ codes "end" → ⊥
  pub no_event : (e : Event) → IsEvent e → l ≡ event_line e → ⊥

-- From line n on the lines give r, where s was read before. Each line is the end, an event, or bad.
abbrev pub ReadsEvents : ℕ → Script → List (List ℕ) → Result Script TextFault → Type 0
ReadsEvents n s [] r = r ≡ Err (NoEnd n)
ReadsEvents n s (l ∷ ls) r =
    ((l ≡ codes "end") × Ends (n + 1) s ls r)
    ⊎ (((e : Event) × IsEvent e × (l ≡ event_line e) × ReadsEvents (n + 1) (with_event s e) ls r)
    ⊎ (IsNoEvent l × (r ≡ Err (BadLine n))))

-- neither `run` nor a faulty party that may come next
pub record IsNoFaulty (s : Script) (l : List ℕ) : Type 0 where
  pub no_run : l ≡ codes "run" → ⊥
  pub no_faulty : (x : Party × ℕ) → IsNextFaulty s.f s.clients s.faulty x → l ≡ faulty_line x → ⊥

-- The same for the lines after the head. Each line is `run`, a faulty party, or bad.
abbrev pub ReadsFaulty : ℕ → Script → List (List ℕ) → Result Script TextFault → Type 0
ReadsFaulty n s [] r = r ≡ Err (NoEnd n)
ReadsFaulty n s (l ∷ ls) r =
    ((l ≡ codes "run") × ReadsEvents (n + 1) s ls r)
    ⊎ (((x : Party × ℕ) × IsNextFaulty s.f s.clients s.faulty x × (l ≡ faulty_line x) × ReadsFaulty (n + 1) (with_faulty s x) ls r)
    ⊎ (IsNoFaulty s l × (r ≡ Err (BadLine n))))

-- ---- the whole text

-- after the lines of the head
abbrev pub Continues : Result Front TextFault → Result Script TextFault → Type 0
Continues (Err e) r = r ≡ Err e
Continues (Ok front) r = ReadsFaulty front.next front.script front.rest r

-- what a text gives: a schedule, or the first line that is out of form, missing or not built
abbrev pub ReadsText : List ℕ → Result Script TextFault → Type 0
ReadsText text r = Continues (head_at (lines_of text)) r

-- a fault is what is read, unless memory ran out
abbrev pub FaultOf : TextFault → (Result Script TextFault → Type 0) → Type 0
FaultOf OutOfMemory Reads = Unit {0}
FaultOf (BadLine n) Reads = Reads (Err (BadLine n))
FaultOf (NoEnd n) Reads = Reads (Err (NoEnd n))
FaultOf (NotBuilt n) Reads = Reads (Err (NotBuilt n))
