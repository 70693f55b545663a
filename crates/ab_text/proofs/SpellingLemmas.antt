-- What is read is spelled so, and what is spelled so is read.
use Rattle.std.proofs.Common.{◌≡◌, ℕ, ◌+◌, ◌<◌, List, [], ◌∷◌, ◌++◌, Result, Ok, Err, refl, sym, ap, ◌∙◌, subst, append_assoc, append-nil, inl, inr}
use Rattle.std.specs.List.{AllByRecursion}
use Rattle.ab_num.specs.declared.party.Party.{Party}
use Rattle.ab_text.specs.declared.event.Event.{Event}
use Rattle.ab_text.specs.declared.fault.TextFault.{TextFault}
use Rattle.ab_text.specs.declared.fault.TextFault.TheVariants.{BadLine, NoEnd, NotBuilt}
use Rattle.ab_text.specs.declared.version.Version.{Version}
use Rattle.ab_text.specs.declared.version.Version.TheVariants.{One, Two, Three, Four}
use Rattle.ab_text.specs.Lines.{lines_of}
use Rattle.ab_text.specs.EventLines.{IsEvent}
use Rattle.ab_text.specs.Heads.{Front, Script, head_at, head_count, most_built}
use Rattle.ab_text.specs.Schedules.{ReadsEvents, ReadsFaulty, ReadsText, Continues, with_event, with_faulty}
use Rattle.ab_text.specs.Spelling.{head_lines, event_lines, faulty_lines, AreFaulty, IsBuilt, IsSpelled, Omits, Spell}
use Rattle.ab_text.proofs.HeadLemmas.{built_dense, front, head_asks, head_is, head_reads, script}

abbrev Rest : Type 0
Rest = List (List ℕ)

abbrev Outcome : Type 0
Outcome = Result Script TextFault

ok_is : (s t : Script) → ◌≡◌ {A = Outcome} (Ok t) (Ok s) → t ≡ s
ok_is s t e = cc

not_ok : (t : Script) (e : TextFault) → ◌≡◌ {A = Outcome} (Ok t) (Err e) → ⊥
not_ok t e h = cc

-- ---- events

-- s and then these events
abbrev and_events : Script → List Event → Script
and_events s events = record s { events = s.events ++ events }

-- lines that were read as these events after s
record IsTail (s t : Script) (ls : List (List ℕ)) (events : List Event) : Type 0 where
  whole : t ≡ and_events s events
  events_have_lines : AllByRecursion IsEvent events
  lines : ls ≡ event_lines events

events_spelled : (ls : Rest) (n : ℕ) (s t : Script) → ReadsEvents n s ls (Ok t) → (events : List Event) × IsTail s t ls events
events_spelled [] n s t h = absurd (not_ok t (NoEnd n) h)
events_spelled (l ∷ []) n s t (inl (said, ends)) =
    ([], record { whole = ok_is s t ends ∙ ap (λ x. record s { events = x }) (sym (append-nil s.events)); events_have_lines = tt; lines = ap (λ x. x ∷ []) said })
events_spelled (l ∷ k ∷ ls) n s t (inl (said, ends)) = absurd (not_ok t (BadLine (n + 1)) ends)
events_spelled (l ∷ ls) n s t (inr (inl (e, good, said, rest))) =
    let r = events_spelled ls (n + 1) (with_event s e) t rest in
    let tail = r.1 in (
      e ∷ r.0,
      record {
        whole = tail.whole ∙ ap (λ x. record s { events = x }) (append_assoc s.events (e ∷ []) r.0);
        events_have_lines = (good, tail.events_have_lines);
        lines = λ j. said j ∷ tail.lines j;
      },
    )
events_spelled (l ∷ ls) n s t (inr (inr (bad, h))) = absurd (not_ok t (BadLine n) h)

and_event : (s : Script) (e : Event) (events : List Event) → and_events (with_event s e) events ≡ and_events s (e ∷ events)
and_event s e events = ap (λ x. record s { events = x }) (append_assoc s.events (e ∷ []) events)

events_read : (events : List Event) (n : ℕ) (s : Script) → AllByRecursion IsEvent events → ReadsEvents n s (event_lines events) (Ok (and_events s events))
events_read [] n s good = inl (refl, ap (λ x. let r : Outcome = Ok (record s { events = x }) in r) (append-nil s.events))
events_read (e ∷ events) n s good =
    subst (λ t. ReadsEvents n s (event_lines (e ∷ events)) (Ok t)) (and_event s e events) (inr (inl (e, good.0, refl, events_read events (n + 1) (with_event s e) good.1)))

-- ---- faulty parties

abbrev and_faulty : Script → List (Party × ℕ) → List Event → Script
and_faulty s faulty events = record s { faulty = s.faulty ++ faulty; events = s.events ++ events }

record IsBody (s t : Script) (ls : List (List ℕ)) (faulty : List (Party × ℕ)) (events : List Event) : Type 0 where
  whole : t ≡ and_faulty s faulty events
  faulty_are_next : AreFaulty s.f s.clients s.faulty faulty
  events_have_lines : AllByRecursion IsEvent events
  lines : ls ≡ faulty_lines faulty events

body_spelled : (ls : Rest) (n : ℕ) (s t : Script) → ReadsFaulty n s ls (Ok t) → (faulty : List (Party × ℕ)) × (events : List Event) × IsBody s t ls faulty events
body_spelled [] n s t h = absurd (not_ok t (NoEnd n) h)
body_spelled (l ∷ ls) n s t (inl (said, rest)) =
    let r = events_spelled ls (n + 1) s t rest in
    let tail = r.1 in (
      [],
      r.0,
      record {
        whole = tail.whole ∙ ap (λ x. record s { faulty = x; events = s.events ++ r.0 }) (sym (append-nil s.faulty));
        faulty_are_next = tt;
        events_have_lines = tail.events_have_lines;
        lines = λ j. said j ∷ tail.lines j;
      },
    )
body_spelled (l ∷ ls) n s t (inr (inl (x, next, said, rest))) =
    let r = body_spelled ls (n + 1) (with_faulty s x) t rest in
    let body = r.2 in (
      x ∷ r.0,
      r.1,
      record {
        whole = body.whole ∙ ap (λ y. record s { faulty = y; events = s.events ++ r.1 }) (append_assoc s.faulty (x ∷ []) r.0);
        faulty_are_next = (next, body.faulty_are_next);
        events_have_lines = body.events_have_lines;
        lines = λ j. said j ∷ body.lines j;
      },
    )
body_spelled (l ∷ ls) n s t (inr (inr (bad, h))) = absurd (not_ok t (BadLine n) h)

and_party : (s : Script) (x : Party × ℕ) (faulty : List (Party × ℕ)) (events : List Event) → and_faulty (with_faulty s x) faulty events ≡ and_faulty s (x ∷ faulty) events
and_party s x faulty events = ap (λ y. record s { faulty = y; events = s.events ++ events }) (append_assoc s.faulty (x ∷ []) faulty)

and_none : (s : Script) (events : List Event) → and_events s events ≡ and_faulty s [] events
and_none s events = ap (λ x. record s { faulty = x; events = s.events ++ events }) (sym (append-nil s.faulty))

body_read : (faulty : List (Party × ℕ)) (events : List Event) (n : ℕ) (s : Script) → AreFaulty s.f s.clients s.faulty faulty → AllByRecursion IsEvent events
    → ReadsFaulty n s (faulty_lines faulty events) (Ok (and_faulty s faulty events))
body_read [] events n s next good = inl (refl, subst (λ t. ReadsEvents (n + 1) s (event_lines events) (Ok t)) (and_none s events) (events_read events (n + 1) s good))
body_read (x ∷ faulty) events n s next good =
    subst (λ t. ReadsFaulty n s (faulty_lines (x ∷ faulty) events) (Ok t)) (and_party s x faulty events)
    (inr (inl (x, next.0, refl, body_read faulty events (n + 1) (with_faulty s x) next.1 good)))

-- ---- the whole text

omits_so : (w : Version) (s : Script) (faulty : List (Party × ℕ)) (events : List Event) → Omits w s → Omits w (record s { faulty = faulty; events = events })
omits_so One s faulty events omits = omits
omits_so Two s faulty events omits = omits
omits_so Three s faulty events omits = omits
omits_so Four s faulty events omits = omits

text_spelled : (text : List ℕ) (s : Script) (o : Result Front TextFault) → head_at (lines_of text) ≡ o → Continues o (Ok s) → IsSpelled text s × IsBuilt s
text_spelled text s (Err e) is h = absurd (not_ok s e h)
text_spelled text s (Ok x) is h =
    let head = head_is (lines_of text) x is in
    let head' = x.script in
    let r = body_spelled x.rest x.next head' s h in
    let body = r.2 in
    let no_faulty : head'.faulty ++ r.0 ≡ r.0 = ap (λ x. x ++ r.0) head.faulty in
    let no_events : head'.events ++ r.1 ≡ r.1 = ap (λ x. x ++ r.1) head.events in
    let whole : s ≡ record head' { faulty = r.0; events = r.1 } = body.whole ∙ (λ j. record head' { faulty = no_faulty j; events = no_events j }) in
    let next : AreFaulty head'.f head'.clients [] r.0 = subst (λ x. AreFaulty head'.f head'.clients x r.0) head.faulty body.faulty_are_next in
    let built = head.built in
    subst (λ t. IsSpelled text t × IsBuilt t) (sym whole) (
      record {
        schedule = record { bounds = head.bounds; dense = built_dense head'.plan head'.every built; seed = head.seed; faulty = next; events = body.events_have_lines };
        version = head.version;
        allows = head.allows;
        omits = omits_so head.version head' r.0 r.1 head.omits;
        lines = head.lines ∙ ap (λ t. head_lines head.version head' ++ t) body.lines;
      },
      head.built,
    )

-- what is read is spelled so
pub read_spelled : (text : List ℕ) (s : Script) → ReadsText text (Ok s) → IsSpelled text s
read_spelled text s h = (text_spelled text s (head_at (lines_of text)) refl h).0

-- and its checkpoints are built
pub read_built : (text : List ℕ) (s : Script) → ReadsText text (Ok s) → IsBuilt s
read_built text s h = (text_spelled text s (head_at (lines_of text)) refl h).1

-- the lines of a schedule that is built are read
pub lines_read : (ls : Rest) (s : Script) → Spell ls s → IsBuilt s → Continues (head_at ls) (Ok s)
lines_read ls s spell built =
    let schedule = spell.schedule in
    let rest = faulty_lines s.faulty s.events in
    let bare = script s.f s.plan s.clients s.service s.lms s.every s.seed in
    let read : head_at ls ≡ Ok (front spell.version bare rest) =
    ap head_at spell.lines ∙ head_reads spell.version s rest schedule.bounds spell.allows spell.omits built schedule.seed in
    subst (λ o. Continues o (Ok s)) (sym read)
    (body_read s.faulty s.events (head_count spell.version + 1) (record s { faulty = []; events = [] }) schedule.faulty schedule.events)

-- with checkpoints that aren't built that is what is wrong
pub lines_refused : (ls : Rest) (s : Script) → Spell ls s → most_built s.plan < s.every → Continues (head_at ls) (Err (NotBuilt 7))
lines_refused ls s spell more =
    let schedule = spell.schedule in
    let rest = faulty_lines s.faulty s.events in
    let refused : head_at ls ≡ Err (NotBuilt 7) = ap head_at spell.lines ∙ head_asks spell.version s rest schedule.bounds spell.allows spell.omits more schedule.dense in
    let none : ◌≡◌ {A = Outcome} (Err (NotBuilt 7)) (Err (NotBuilt 7)) = refl in
    subst (λ o. Continues o (Err (NotBuilt 7))) (sym refused) none

-- what is spelled so is read, or refused for its checkpoints
pub spelled_read : (text : List ℕ) (s : Script) → IsSpelled text s → IsBuilt s → ReadsText text (Ok s)
spelled_read text s spelled built = lines_read (lines_of text) s spelled built

pub spelled_refused : (text : List ℕ) (s : Script) → IsSpelled text s → most_built s.plan < s.every → ReadsText text (Err (NotBuilt 7))
spelled_refused text s spelled more = lines_refused (lines_of text) s spelled more
