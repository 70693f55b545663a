-- The lines before a fault begin a schedule.
use Rattle.std.proofs.Common.{◌≡◌, ℕ, ◌+◌, ◌-◌, ◌≤◌, List, [], ◌∷◌, ◌++◌, Result, Ok, Err, length, take, codes, decimal, refl, sym, ap, ◌∙◌, subst, append_assoc, arith, inl, inr, get_or}
use Rattle.std.specs.List.{AllByRecursion}
use Rattle.std.proofs.Math.Seq.{take-append_seam}
use Rattle.ab_num.specs.declared.party.Party.{Party}
use Rattle.ab_num.specs.declared.plan.Plan.{Plan}
use Rattle.ab_num.specs.declared.plan.Plan.TheVariants.{Quorum}
use Rattle.ab_num.specs.declared.plan.ServiceName.{ServiceName}
use Rattle.ab_num.specs.declared.plan.ServiceName.TheVariants.{Echo}
use Rattle.ab_num.specs.declared.plan.Height.TheVariants.{Five}
use Rattle.ab_num.specs.declared.plan.Scheme.{Scheme}
use Rattle.ab_num.specs.declared.plan.Scheme.TheVariants.{Lms}
use Rattle.ab_num.specs.Bounds.{IsInBounds}
use Rattle.ab_text.specs.declared.event.Event.{Event}
use Rattle.ab_text.specs.declared.fault.TextFault.{TextFault}
use Rattle.ab_text.specs.declared.fault.TextFault.TheVariants.{BadLine, NoEnd, NotBuilt, OutOfMemory}
use Rattle.ab_text.specs.declared.version.Version.{Version}
use Rattle.ab_text.specs.declared.version.Version.TheVariants.{One, Two, Three, Four}
use Rattle.ab_text.specs.Lines.{lines_of}
use Rattle.ab_text.specs.EventLines.{event_line, IsEvent}
use Rattle.ab_text.specs.Heads.{◌>>=◌, Front, Script, number_at, name_at, abstract_line, versions, plan_line, plans, service_line, services, lms_line, schemes_of, no_seed, seed_line, checkpoint_line, most_built, checkpoint_at, seed_at, head_count, head_at}
use Rattle.ab_text.specs.Schedules.{ReadsEvents, ReadsFaulty, ReadsText, Continues, with_event, with_faulty}
use Rattle.ab_text.specs.Spelling.{Allows, IsBuilt, IsSeed, Omits, head_lines, later_lines, event_lines, faulty_lines, AreFaulty, Spell}
use Rattle.ab_text.specs.Faults.{BeginsSome}
use Rattle.ab_text.proofs.HeadLemmas.{Rest, IsSeed-none, allows_one, built_dense, checkpoint_is, from2, from3, from4, from5, from6, from7, from8, front, name_is, number_is, omits_none, scheme_allowed, script, seed_is}
use Rattle.ab_text.proofs.FaultLemmas.{failed, not_ok, err_is, IsWrong, IsStep, checkpoint_step, number_step, name_step, seed_step}

-- the fault is that of line n, which is there or missing
abbrev IsOfLine : TextFault → ℕ → Type 0
IsOfLine (BadLine k) n = k ≡ n
IsOfLine (NoEnd k) n = k ≡ n
IsOfLine (NotBuilt k) n = k ≡ n
IsOfLine OutOfMemory n = ⊥

of_wrong : (d : TextFault) (n : ℕ) → IsWrong d n → IsOfLine d n
of_wrong (BadLine k) n is = is
of_wrong (NotBuilt k) n is = is
of_wrong (NoEnd k) n is = absurd is
of_wrong OutOfMemory n is = absurd is

of_line : (e d : TextFault) (n m : ℕ) → failed e ≡ failed d → IsOfLine d n → IsOfLine e m → m ≡ n
of_line e d n m h is at = by d (subst (λ x. IsOfLine x m) (err_is e d h) at) is
  where
    by : (d : TextFault) → IsOfLine d m → IsOfLine d n → m ≡ n
    by (BadLine k) a b = sym a ∙ b
    by (NoEnd k) a b = sym a ∙ b
    by (NotBuilt k) a b = sym a ∙ b
    by OutOfMemory a b = absurd a

-- the lines from line n on that come before line m begin lines of which Whole holds
record IsFront (n m : ℕ) (ls : Rest) (Whole : Rest → Type 0) : Type 0 where
  front : Rest
  back : Rest
  more : Rest
  split : ls ≡ front ++ back
  place : m ≡ n + length front
  whole : Whole (front ++ more)

at_once : (n m : ℕ) (ls more : Rest) (Whole : Rest → Type 0) → m ≡ n → Whole more → IsFront n m ls Whole
at_once n m ls more Whole same whole = record { front = []; back = ls; more = more; split = refl; place = omega arith; whole = whole }

one_more : (n m : ℕ) (l : List ℕ) (ls : Rest) (Next Whole : Rest → Type 0) → IsFront (n + 1) m ls Next → ((rest : Rest) → Next rest → Whole (l ∷ rest)) → IsFront n m (l ∷ ls) Whole
one_more n m l ls Next Whole f on =
    let place = f.place in
    record { front = l ∷ f.front; back = f.back; more = f.more; split = ap (λ x. l ∷ x) f.split; place = omega (arith, place); whole = on (f.front ++ f.more) f.whole }

-- ---- events and faulty parties

record AreEvents (ls : Rest) : Type 0 where
  events : List Event
  good : AllByRecursion IsEvent events
  lines : ls ≡ event_lines events

no_events : AreEvents (codes "end" ∷ [])
no_events = record { events = []; good = tt; lines = refl }

more_events : (l : List ℕ) (v : Event) → IsEvent v → l ≡ event_line v → (rest : Rest) → AreEvents rest → AreEvents (l ∷ rest)
more_events l v good said rest are =
    let lines = are.lines in
    record { events = v ∷ are.events; good = (good, are.good); lines = λ j. said j ∷ lines j }

events_front : (ls : Rest) (n : ℕ) (s : Script) (e : TextFault) (m : ℕ) → IsOfLine e m → ReadsEvents n s ls (Err e) → IsFront n m ls AreEvents
events_front [] n s e m at h = at_once n m [] (codes "end" ∷ []) AreEvents (of_line e (NoEnd n) n m h refl at) no_events
events_front (l ∷ []) n s e m at (inl (said, ends)) = absurd (not_ok e s ends)
events_front (l ∷ k ∷ ls) n s e m at (inl (said, ends)) =
    one_more n m l (k ∷ ls) (λ rest. rest ≡ []) AreEvents
    (at_once (n + 1) m (k ∷ ls) [] (λ rest. rest ≡ []) (of_line e (BadLine (n + 1)) (n + 1) m ends refl at) refl)
    (λ rest none. subst AreEvents (λ j. sym said j ∷ sym none j) no_events)
events_front (l ∷ ls) n s e m at (inr (inl (v, good, said, rest))) =
    one_more n m l ls AreEvents AreEvents (events_front ls (n + 1) (with_event s v) e m at rest) (more_events l v good said)
events_front (l ∷ ls) n s e m at (inr (inr (bad, h))) = at_once n m (l ∷ ls) (codes "end" ∷ []) AreEvents (of_line e (BadLine n) n m h refl at) no_events

record IsBody (f clients : ℕ) (done : List (Party × ℕ)) (ls : Rest) : Type 0 where
  faulty : List (Party × ℕ)
  events : List Event
  next : AreFaulty f clients done faulty
  good : AllByRecursion IsEvent events
  lines : ls ≡ faulty_lines faulty events

run_body : (f clients : ℕ) (done : List (Party × ℕ)) (l : List ℕ) → l ≡ codes "run" → (rest : Rest) → AreEvents rest → IsBody f clients done (l ∷ rest)
run_body f clients done l said rest are =
    let lines = are.lines in
    record { faulty = []; events = are.events; next = tt; good = are.good; lines = λ j. said j ∷ lines j }

-- a body without faulty parties and events
abbrev last : Rest
last = codes "run" ∷ codes "end" ∷ []

no_body : (f clients : ℕ) (done : List (Party × ℕ)) → IsBody f clients done last
no_body f clients done = run_body f clients done (codes "run") refl (codes "end" ∷ []) no_events

body_front : (ls : Rest) (n : ℕ) (s : Script) (e : TextFault) (m : ℕ) → IsOfLine e m → ReadsFaulty n s ls (Err e) → IsFront n m ls (IsBody s.f s.clients s.faulty)
body_front [] n s e m at h = at_once n m [] last (IsBody s.f s.clients s.faulty) (of_line e (NoEnd n) n m h refl at) (no_body s.f s.clients s.faulty)
body_front (l ∷ ls) n s e m at (inl (said, rest)) = one_more n m l ls AreEvents (IsBody s.f s.clients s.faulty) (events_front ls (n + 1) s e m at rest) (run_body s.f s.clients s.faulty l said)
body_front (l ∷ ls) n s e m at (inr (inl (v, good, said, rest))) =
    one_more n m l ls (IsBody s.f s.clients (s.faulty ++ v ∷ [])) (IsBody s.f s.clients s.faulty) (body_front ls (n + 1) (with_faulty s v) e m at rest)
    (λ more body.
    let lines = body.lines in
    record { faulty = v ∷ body.faulty; events = body.events; next = (good, body.next); good = body.good; lines = λ j. said j ∷ lines j })
body_front (l ∷ ls) n s e m at (inr (inr (bad, h))) = at_once n m (l ∷ ls) last (IsBody s.f s.clients s.faulty) (of_line e (BadLine n) n m h refl at) (no_body s.f s.clients s.faulty)

-- ---- the head

-- these lines and then the rest are those of a schedule that is built
abbrev Completes : Rest → Rest → Type 0
Completes before rest = (s : Script) × IsBuilt s × Spell (before ++ rest) s

-- before line n stand these lines
abbrev Fronts : ℕ → (Rest → Result Front TextFault) → Rest → Type 0
Fronts n read before = (ls : Rest) (e : TextFault) (m : ℕ) → IsOfLine e m → Continues (read ls) (Err e) → IsFront n m ls (Completes before)

abbrev bare : ℕ → Plan → ℕ → ServiceName → Scheme → Script
bare f p c v h = script f p c v h 0 no_seed

-- a head alone, and the last lines
bare_schedule : (w : Version) (f : ℕ) (p : Plan) (c : ℕ) (v : ServiceName) (h : Scheme) (ls : Rest) → IsInBounds f c → Allows w h → ls ≡ head_lines w (bare f p c v h) ++ last → Completes [] ls
bare_schedule w f p c v h ls bounds allows is = (
  bare f p c v h,
  omega arith,
  record {
    schedule = record { bounds = bounds; dense = omega arith; seed = IsSeed-none; faulty = tt; events = tt };
    version = w;
    allows = allows;
    omits = omits_none w f p c v h;
    lines = is;
  },
)

step_front : {A : Type 0} (spell : A → List ℕ) (n : ℕ) (g : Rest → Result (A × Rest) TextFault) (k : A → Rest → Result Front TextFault) (before after : Rest)
    → IsStep n g → Completes before after
    → ((ls rest : Rest) (x : A) → g ls ≡ Ok (x, rest) → (ls ≡ spell x ∷ rest) × Fronts (n + 1) (k x) (before ++ spell x ∷ []))
    → Fronts n (λ ls. g ls >>= λ (p : A × Rest). k p.0 p.1) before
step_front {A} spell n g k before after step whole says [] e m at h =
    let stop : failed e ≡ failed (NoEnd n) = subst (λ o. Continues (o >>= λ (p : A × Rest). k p.0 p.1) (Err e)) step.none h in
    at_once n m [] after (Completes before) (of_line e (NoEnd n) n m stop refl at) whole
step_front {A} spell n g k before after step whole says (l ∷ ls) e m at h =
    let After : Result (A × Rest) TextFault → Type 0 = λ o. Continues (o >>= λ (p : A × Rest). k p.0 p.1) (Err e) in
    elim (step.each l) [
      | inl (x, good) ↦
          let said = says (l ∷ ls) ls x (good ls) in
          let line : l ≡ spell x = ap (λ t. get_or t 0 []) said.0 in
          one_more n m l ls (Completes (before ++ spell x ∷ [])) (Completes before) (said.1 ls e m at (subst After (good ls) h))
          (λ rest all. (all.0, all.1, subst (λ ks. Spell ks all.0) (append_assoc before (spell x ∷ []) rest ∙ ap (λ t. before ++ t ∷ rest) (sym line)) all.2))
      | inr (d, is, bad) ↦
          let stop : failed e ≡ failed d = subst After (bad ls) h in
          at_once n m (l ∷ ls) after (Completes before) (of_line e d n m stop (of_wrong d n is) at) whole
    ]

abbrev f_line : ℕ → List ℕ
f_line f = codes "f " ++ decimal f

abbrev clients_line : ℕ → List ℕ
clients_line c = codes "clients " ++ decimal c

abbrev AreFew : ℕ → Type 0
AreFew f = (1 ≤ f) × (f ≤ 2)

in_bounds : (f c : ℕ) → AreFew f → 1 ≤ c → c ≤ 16 → IsInBounds f c
in_bounds f c few low high = record { some_faulty = few.0; few_faulty = few.1; some_client = low; few_clients = high }

one_client : (f : ℕ) → AreFew f → IsInBounds f 1
one_client f few = in_bounds f 1 few (omega arith) (omega arith)

abbrev before3 : Version → ℕ → Rest
before3 w f = abstract_line w ∷ f_line f ∷ []

abbrev before4 : Version → ℕ → Plan → Rest
before4 w f p = abstract_line w ∷ f_line f ∷ plan_line p ∷ []

abbrev before5 : Version → ℕ → Plan → ℕ → Rest
before5 w f p c = abstract_line w ∷ f_line f ∷ plan_line p ∷ clients_line c ∷ []

abbrev before6 : Version → ℕ → Plan → ℕ → ServiceName → Rest
before6 w f p c v = abstract_line w ∷ f_line f ∷ plan_line p ∷ clients_line c ∷ service_line v ∷ []

abbrev before7 : Version → ℕ → Plan → ℕ → ServiceName → Scheme → Rest
before7 w f p c v h = abstract_line w ∷ f_line f ∷ plan_line p ∷ clients_line c ∷ service_line v ∷ lms_line h ∷ []

abbrev before8 : Version → ℕ → Plan → ℕ → ServiceName → Scheme → ℕ → Rest
before8 w f p c v h k = abstract_line w ∷ f_line f ∷ plan_line p ∷ clients_line c ∷ service_line v ∷ lms_line h ∷ checkpoint_line k ∷ []

-- a head of version 4 with checkpoints and without a seed, and the last lines
with_checkpoints : (f : ℕ) (p : Plan) (c : ℕ) (v : ServiceName) (h : Scheme) (k : ℕ) → IsInBounds f c → Allows Four h → k ≤ most_built p → Completes (before8 Four f p c v h k) (seed_line no_seed ∷ last)
with_checkpoints f p c v h k bounds allows built = (
  script f p c v h k no_seed,
  built,
  record {
    schedule = record { bounds = bounds; dense = built_dense p k built; seed = IsSeed-none; faulty = tt; events = tt };
    version = Four;
    allows = allows;
    omits = tt;
    lines = refl;
  },
)

omits_so : (w : Version) (s : Script) (faulty : List (Party × ℕ)) (events : List Event) → Omits w s → Omits w (record s { faulty = faulty; events = events })
omits_so One s faulty events omits = omits
omits_so Two s faulty events omits = omits
omits_so Three s faulty events omits = omits
omits_so Four s faulty events omits = omits

-- behind the head
body_fronts : (w : Version) (f : ℕ) (p : Plan) (c : ℕ) (v : ServiceName) (h : Scheme) (k : ℕ) (x : List ℕ) → IsInBounds f c → Allows w h → Omits w (script f p c v h k x) → k ≤ most_built p → IsSeed x
    → Fronts (head_count w + 1) (λ ls. Ok (front w (script f p c v h k x) ls)) (head_lines w (script f p c v h k x))
body_fronts w f p c v h k x bounds allows omits built good ls e m at r =
    let s = script f p c v h k x in
    let body = body_front ls (head_count w + 1) s e m at r in
    let whole = body.whole in
    record {
      front = body.front;
      back = body.back;
      more = body.more;
      split = body.split;
      place = body.place;
      whole = (
        record s { faulty = whole.faulty; events = whole.events },
        built,
        record {
          schedule = record { bounds = bounds; dense = built_dense p k built; seed = good; faulty = whole.next; events = whole.good };
          version = w;
          allows = allows;
          omits = omits_so w s whole.faulty whole.events omits;
          lines = ap (λ t. head_lines w s ++ t) whole.lines;
        },
      );
    }

fronts8 : (f : ℕ) (p : Plan) (c : ℕ) (v : ServiceName) (h : Scheme) (k : ℕ) → IsInBounds f c → Allows Four h → k ≤ most_built p → Fronts 8 (from8 Four f p c v h k) (before8 Four f p c v h k)
fronts8 f p c v h k bounds allows built = step_front seed_line 8 seed_at (λ x ls. Ok (front Four (script f p c v h k x) ls)) (before8 Four f p c v h k) (seed_line no_seed ∷ last) seed_step
    (with_checkpoints f p c v h k bounds allows built)
    (λ ls rest x is. let said = seed_is ls rest x is in (said.0, body_fronts Four f p c v h k x bounds allows tt built said.1))

fronts7 : (w : Version) (f : ℕ) (p : Plan) (c : ℕ) (v : ServiceName) (h : Scheme) → IsInBounds f c → Allows w h → Fronts 7 (from7 w f p c v h) (before7 w f p c v h)
fronts7 One f p c v h bounds allows = body_fronts One f p c v h 0 no_seed bounds allows (refl, refl) (omega arith) IsSeed-none
fronts7 Two f p c v h bounds allows = body_fronts Two f p c v h 0 no_seed bounds allows (refl, refl) (omega arith) IsSeed-none
fronts7 Three f p c v h bounds allows = step_front checkpoint_line 7 (checkpoint_at p) (from8 Three f p c v h) (before7 Three f p c v h) (checkpoint_line 0 ∷ last) (checkpoint_step p)
    (bare_schedule Three f p c v h _ bounds allows refl)
    (λ ls rest k is. let said = checkpoint_is p ls rest k is in (said.0, body_fronts Three f p c v h k no_seed bounds allows refl said.1 IsSeed-none))
fronts7 Four f p c v h bounds allows = step_front checkpoint_line 7 (checkpoint_at p) (from8 Four f p c v h) (before7 Four f p c v h) (checkpoint_line 0 ∷ seed_line no_seed ∷ last) (checkpoint_step p)
    (bare_schedule Four f p c v h _ bounds allows refl)
    (λ ls rest k is. let said = checkpoint_is p ls rest k is in (said.0, fronts8 f p c v h k bounds allows said.1))

abbrev five : Scheme
five = Lms Five

-- the last lines of a head without checkpoints and seed, and those of a schedule without faulty parties and events
abbrev last_of : Version → Rest
last_of w = later_lines w 0 no_seed ++ last

fronts6 : (w : Version) (f : ℕ) (p : Plan) (c : ℕ) (v : ServiceName) → IsInBounds f c → Fronts 6 (from6 w f p c v) (before6 w f p c v)
fronts6 w f p c v bounds = step_front lms_line 6 (name_at lms_line (schemes_of w) 6) (from7 w f p c v) (before6 w f p c v) (lms_line five ∷ last_of w) (name_step lms_line (schemes_of w) 6)
    (bare_schedule w f p c v five _ bounds (allows_one w Five) refl)
    (λ ls rest h is. (name_is lms_line (schemes_of w) 6 ls rest h is, fronts7 w f p c v h bounds (scheme_allowed w 6 ls rest h is)))

fronts5 : (w : Version) (f : ℕ) (p : Plan) (c : ℕ) → IsInBounds f c → Fronts 5 (from5 w f p c) (before5 w f p c)
fronts5 w f p c bounds = step_front service_line 5 (name_at service_line services 5) (from6 w f p c) (before5 w f p c) (service_line Echo ∷ lms_line five ∷ last_of w) (name_step service_line services 5)
    (bare_schedule w f p c Echo five _ bounds (allows_one w Five) refl) (λ ls rest v is. (name_is service_line services 5 ls rest v is, fronts6 w f p c v bounds))

fronts4 : (w : Version) (f : ℕ) (p : Plan) → AreFew f → Fronts 4 (from4 w f p) (before4 w f p)
fronts4 w f p few = step_front clients_line 4 (number_at (codes "clients ") 1 16 4) (from5 w f p) (before4 w f p) (clients_line 1 ∷ service_line Echo ∷ lms_line five ∷ last_of w) (number_step (codes "clients ") 1 16 4)
    (bare_schedule w f p 1 Echo five _ (one_client f few) (allows_one w Five) refl)
    (λ ls rest c is. let n = number_is (codes "clients ") 1 16 4 ls rest c is in (n.0, fronts5 w f p c (in_bounds f c few n.1 n.2)))

fronts3 : (w : Version) (f : ℕ) → AreFew f → Fronts 3 (from3 w f) (before3 w f)
fronts3 w f few = step_front plan_line 3 (name_at plan_line plans 3) (from4 w f) (before3 w f) (plan_line Quorum ∷ clients_line 1 ∷ service_line Echo ∷ lms_line five ∷ last_of w) (name_step plan_line plans 3)
    (bare_schedule w f Quorum 1 Echo five _ (one_client f few) (allows_one w Five) refl) (λ ls rest p is. (name_is plan_line plans 3 ls rest p is, fronts4 w f p few))

abbrev rest2 : Version → Rest
rest2 w = f_line 1 ∷ plan_line Quorum ∷ clients_line 1 ∷ service_line Echo ∷ lms_line five ∷ last_of w

some_schedule : (w : Version) → Completes [] (abstract_line w ∷ rest2 w)
some_schedule w = bare_schedule w 1 Quorum 1 Echo five _ (one_client 1 (omega arith, omega arith)) (allows_one w Five) refl

fronts2 : (w : Version) → Fronts 2 (from2 w) (abstract_line w ∷ [])
fronts2 w = step_front f_line 2 (number_at (codes "f ") 1 2 2) (from3 w) (abstract_line w ∷ []) (rest2 w) (number_step (codes "f ") 1 2 2)
    (some_schedule w) (λ ls rest f is. let n = number_is (codes "f ") 1 2 2 ls rest f is in (n.0, fronts3 w f (n.1, n.2)))

head_fronts : Fronts 1 head_at []
unfolding head_at
head_fronts = step_front abstract_line 1 (name_at abstract_line versions 1) from2 [] (abstract_line One ∷ rest2 One) (name_step abstract_line versions 1)
    (some_schedule One) (λ ls rest w is. (name_is abstract_line versions 1 ls rest w is, fronts2 w))

front_begins : (ls : Rest) (e : TextFault) (m : ℕ) → IsOfLine e m → Continues (head_at ls) (Err e) → BeginsSome (take (m - 1) ls)
front_begins ls e m at h =
    let f = head_fronts ls e m at h in
    let place : m - 1 ≡ length f.front = (let p = f.place in omega (arith, p)) in
    let front : take (m - 1) ls ≡ f.front = (λ j. take (place j) (f.split j)) ∙ take-append_seam f.front f.back in
    (f.whole.0, f.more, f.whole.1, subst (λ x. Spell (x ++ f.more) f.whole.0) (sym front) f.whole.2)

-- the lines before a fault begin a schedule
pub bad_front : (text : List ℕ) (n : ℕ) → ReadsText text (Err (BadLine n)) → BeginsSome (take (n - 1) (lines_of text))
bad_front text n h = front_begins (lines_of text) (BadLine n) n refl h

pub end_front : (text : List ℕ) (n : ℕ) → ReadsText text (Err (NoEnd n)) → BeginsSome (take (n - 1) (lines_of text))
end_front text n h = front_begins (lines_of text) (NoEnd n) n refl h

pub unbuilt_front : (text : List ℕ) (n : ℕ) → ReadsText text (Err (NotBuilt n)) → BeginsSome (take (n - 1) (lines_of text))
unbuilt_front text n h = front_begins (lines_of text) (NotBuilt n) n refl h
