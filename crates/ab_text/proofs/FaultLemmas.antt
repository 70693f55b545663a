-- A fault stays whatever comes after its line, so no schedule begins with the lines up to it.
use Rattle.std.proofs.Common.{◌≡◌, ℕ, suc, ◌+◌, ◌<◌, ◌≤◌, List, [], ◌∷◌, ◌++◌, Bool, true, false, Option, Some, None, Result, Ok, Err, length, take, codes, refl, sym, ap, ◌∙◌, subst, append_assoc, arith, inl, inr, ◌⊎◌, if◌then◌else◌, nat_le, ◌&&◌}
use Rattle.std.proofs.lemmas.Bool.{cases_Bool, leb-false, leb-true}
use Rattle.ab_num.specs.Bounds.{IsInBounds}
use Rattle.ab_num.specs.declared.plan.Plan.{Plan}
use Rattle.ab_num.specs.declared.plan.ServiceName.{ServiceName}
use Rattle.ab_num.specs.declared.plan.Scheme.{Scheme}
use Rattle.ab_text.specs.declared.fault.TextFault.{TextFault}
use Rattle.ab_text.specs.declared.fault.TextFault.TheVariants.{BadLine, NoEnd, NotBuilt, OutOfMemory}
use Rattle.ab_text.specs.declared.version.Version.{Version}
use Rattle.ab_text.specs.declared.version.Version.TheVariants.{One, Two, Three, Four}
use Rattle.ab_text.specs.Lines.{lines_of}
use Rattle.ab_text.specs.Heads.{◌>>=◌, Front, Script, number_at, number_after, within, spelled_in, taken, name_at, abstract_line, versions, plan_line, plans, service_line, services, lms_line, schemes_of, no_seed, seed_line, built, most_built, most_every, checkpoint_line, checkpoint_at, seed_in, seed_at, head_count, head_at}
use Rattle.ab_text.specs.Schedules.{ReadsEvents, ReadsFaulty, ReadsText, Continues, Ends, with_event, with_faulty}
use Rattle.ab_text.specs.Spelling.{Allows, IsBuilt, IsSpelled, Spell}
use Rattle.ab_text.specs.Faults.{BeginsNone, BeginsUnbuilt}
use Rattle.ab_text.proofs.HeadLemmas.{IsSeed-none, first_lines, front, script, from2, from3, from4, from5, from6, from7, from8, unbuilt_head}
use Rattle.ab_text.proofs.SpellingLemmas.{lines_read, lines_refused}
use Rattle.ab_text.proofs.UniqueLemmas.{lines_once}

abbrev pub Rest : Type 0
Rest = List (List ℕ)

abbrev pub Outcome : Type 0
Outcome = Result Script TextFault

abbrev pub failed : TextFault → Outcome
failed e = Err e

pub not_ok : (e : TextFault) (s : Script) → failed e ≡ Ok s → ⊥
not_ok e s h = cc

pub err_is : (e d : TextFault) → failed e ≡ failed d → e ≡ d
err_is e d h = cc

-- the fault is that of line n, which is out of form or not built
abbrev pub IsWrong : TextFault → ℕ → Type 0
IsWrong (BadLine k) n = k ≡ n
IsWrong (NotBuilt k) n = k ≡ n
IsWrong (NoEnd k) n = ⊥
IsWrong OutOfMemory n = ⊥

not_missing : (e : TextFault) (m n : ℕ) → IsWrong e m → failed e ≡ failed (NoEnd n) → ⊥
not_missing e m n at h = subst (λ x. IsWrong x m) (err_is e (NoEnd n) h) at

same_place : (e d : TextFault) (m n : ℕ) → IsWrong e m → IsWrong d n → failed e ≡ failed d → m ≡ n
same_place e d m n at is h = by d (subst (λ x. IsWrong x m) (err_is e d h) at) is
  where
    by : (d : TextFault) → IsWrong d m → IsWrong d n → m ≡ n
    by (BadLine k) a b = sym a ∙ b
    by (NotBuilt k) a b = sym a ∙ b
    by (NoEnd k) a b = absurd a
    by OutOfMemory a b = absurd a

same_end : (m n : ℕ) → failed (NoEnd m) ≡ failed (NoEnd n) → m ≡ n
same_end m n h = cc

-- a fault of line m among lines from n on, which stays whatever comes after that line
record IsStuck (n m : ℕ) (ls : Rest) (Reads : Rest → Type 0) : Type 0 where
  front : Rest
  line : List ℕ
  back : Rest
  split : ls ≡ front ++ line ∷ back
  place : m ≡ n + length front
  stays : (other : Rest) → Reads (front ++ line ∷ other)

here : (n m : ℕ) (l : List ℕ) (ls : Rest) (Reads : Rest → Type 0) → m ≡ n → ((other : Rest) → Reads (l ∷ other)) → IsStuck n m (l ∷ ls) Reads
here n m l ls Reads same stays = record { front = []; line = l; back = ls; split = refl; place = omega arith; stays = stays }

later : (n m : ℕ) (l : List ℕ) (ls : Rest) (Later Reads : Rest → Type 0) → IsStuck (n + 1) m ls Later → ((ks : Rest) → Later ks → Reads (l ∷ ks)) → IsStuck n m (l ∷ ls) Reads
later n m l ls Later Reads stuck on =
    let place = stuck.place in
    record { front = l ∷ stuck.front; line = stuck.line; back = stuck.back; split = ap (λ x. l ∷ x) stuck.split; place = omega (arith, place); stays = λ other. on (stuck.front ++ stuck.line ∷ other) (stuck.stays other) }

events_stuck : (ls : Rest) (n : ℕ) (s : Script) (e : TextFault) (m : ℕ) → IsWrong e m → ReadsEvents n s ls (Err e) → IsStuck n m ls (λ ks. ReadsEvents n s ks (Err e))
events_stuck [] n s e m at h = absurd (not_missing e m n at h)
events_stuck (l ∷ []) n s e m at (inl (said, ends)) = absurd (not_ok e s ends)
events_stuck (l ∷ k ∷ ls) n s e m at (inl (said, ends)) =
    later n m l (k ∷ ls) (λ ks. Ends (n + 1) s ks (Err e)) (λ ks. ReadsEvents n s ks (Err e))
    (here (n + 1) m k ls (λ ks. Ends (n + 1) s ks (Err e)) (same_place e (BadLine (n + 1)) m (n + 1) at refl ends) (λ other. ends)) (λ ks x. inl (said, x))
events_stuck (l ∷ ls) n s e m at (inr (inl (v, good, said, rest))) =
    later n m l ls (λ ks. ReadsEvents (n + 1) (with_event s v) ks (Err e)) (λ ks. ReadsEvents n s ks (Err e))
    (events_stuck ls (n + 1) (with_event s v) e m at rest) (λ ks x. inr (inl (v, good, said, x)))
events_stuck (l ∷ ls) n s e m at (inr (inr (bad, h))) = here n m l ls (λ ks. ReadsEvents n s ks (Err e)) (same_place e (BadLine n) m n at refl h) (λ other. inr (inr (bad, h)))

faulty_stuck : (ls : Rest) (n : ℕ) (s : Script) (e : TextFault) (m : ℕ) → IsWrong e m → ReadsFaulty n s ls (Err e) → IsStuck n m ls (λ ks. ReadsFaulty n s ks (Err e))
faulty_stuck [] n s e m at h = absurd (not_missing e m n at h)
faulty_stuck (l ∷ ls) n s e m at (inl (said, rest)) =
    later n m l ls (λ ks. ReadsEvents (n + 1) s ks (Err e)) (λ ks. ReadsFaulty n s ks (Err e)) (events_stuck ls (n + 1) s e m at rest) (λ ks x. inl (said, x))
faulty_stuck (l ∷ ls) n s e m at (inr (inl (v, good, said, rest))) =
    later n m l ls (λ ks. ReadsFaulty (n + 1) (with_faulty s v) ks (Err e)) (λ ks. ReadsFaulty n s ks (Err e))
    (faulty_stuck ls (n + 1) (with_faulty s v) e m at rest) (λ ks x. inr (inl (v, good, said, x)))
faulty_stuck (l ∷ ls) n s e m at (inr (inr (bad, h))) = here n m l ls (λ ks. ReadsFaulty n s ks (Err e)) (same_place e (BadLine n) m n at refl h) (λ other. inr (inr (bad, h)))

-- ---- the head

-- one value or a fault of line n, whatever lines come after it
abbrev pub Decided : {A : Type 0} → ℕ → (Rest → Result (A × Rest) TextFault) → Type 0
Decided {A} n g = ((x : A) × ((ls : Rest) → g ls ≡ Ok (x, ls))) ⊎ ((d : TextFault) × IsWrong d n × ((ls : Rest) → g ls ≡ Err d))

-- line n alone decides what g gives
pub record IsStep {A : Type 0} (n : ℕ) (g : Rest → Result (A × Rest) TextFault) : Type 0 where
  pub none : g [] ≡ Err (NoEnd n)
  pub each : (l : List ℕ) → Decided n (λ ls. g (l ∷ ls))

within_decided : (low high n : ℕ) (o : Option ℕ) → Decided n (λ ls. within low high n ls o)
within_decided low high n None = inr (BadLine n, refl, λ ls. refl)
within_decided low high n (Some k) = by (nat_le low k && nat_le k high)
  where
    by : (b : Bool) → Decided n (λ ls. if b then Ok (k, ls) else Err (BadLine n))
    by true = inl (k, λ ls. refl)
    by false = inr (BadLine n, refl, λ ls. refl)

pub number_step : (word : List ℕ) (low high n : ℕ) → IsStep n (number_at word low high n)
number_step word low high n = record { none = refl; each = λ l. within_decided low high n (number_after word l) }

taken_decided : {A : Type 0} (n : ℕ) (o : Option A) → Decided n (λ ls. taken n ls o)
taken_decided n None = inr (BadLine n, refl, λ ls. refl)
taken_decided n (Some a) = inl (a, λ ls. refl)

pub name_step : {A : Type 0} (spell : A → List ℕ) (all : List A) (n : ℕ) → IsStep n (name_at spell all n)
name_step spell all n = record { none = refl; each = λ l. taken_decided n (spelled_in spell all l) }

built_decided : (p : Plan) (o : Option ℕ) → Decided 7 (λ ls. within 0 (most_every p) 7 ls o >>= built p 7)
built_decided p None = inr (BadLine 7, refl, λ ls. refl)
built_decided p (Some k) = by (nat_le 0 k && nat_le k (most_every p))
  where
    asked : (b : Bool) → Decided 7 (λ ls. if b then Ok (k, ls) else Err (NotBuilt 7))
    asked true = inl (k, λ ls. refl)
    asked false = inr (NotBuilt 7, refl, λ ls. refl)

    by : (b : Bool) → Decided 7 (λ ls. (if b then Ok (k, ls) else Err (BadLine 7)) >>= built p 7)
    by true = asked (nat_le k (most_built p))
    by false = inr (BadLine 7, refl, λ ls. refl)

pub checkpoint_step : (p : Plan) → IsStep 7 (checkpoint_at p)
checkpoint_step p = record { none = refl; each = λ l. built_decided p (number_after (codes "checkpoint ") l) }

pub seed_step : IsStep 8 seed_at
seed_step = record { none = refl; each = λ l. taken_decided 8 (seed_in l) }

-- what the lines give from line n on sticks at a wrong line
abbrev Sticks : ℕ → (Rest → Result Front TextFault) → Type 0
Sticks n read = (ls : Rest) (e : TextFault) (m : ℕ) → IsWrong e m → Continues (read ls) (Err e) → IsStuck n m ls (λ ks. Continues (read ks) (Err e))

step_sticks : {A : Type 0} (n : ℕ) (g : Rest → Result (A × Rest) TextFault) (k : A → Rest → Result Front TextFault) → IsStep n g → ((x : A) → Sticks (n + 1) (k x)) → Sticks n (λ ls. g ls >>= λ (p : A × Rest). k p.0 p.1)
step_sticks {A} n g k step on [] e m at h = absurd (not_missing e m n at (subst (λ o. Continues (o >>= λ (p : A × Rest). k p.0 p.1) (Err e)) step.none h))
step_sticks {A} n g k step on (l ∷ ls) e m at h =
    let After : Result (A × Rest) TextFault → Type 0 = λ o. Continues (o >>= λ (p : A × Rest). k p.0 p.1) (Err e) in
    elim (step.each l) [
      | inl (x, good) ↦
          later n m l ls (λ ks. Continues (k x ks) (Err e)) (λ ks. After (g ks))
          (on x ls e m at (subst After (good ls) h)) (λ ks v. subst After (sym (good ks)) v)
      | inr (d, is, bad) ↦
          let stop : failed e ≡ failed d = subst After (bad ls) h in
          here n m l ls (λ ks. After (g ks)) (same_place e d m n at is stop) (λ other. subst After (sym (bad other)) stop)
    ]

body_sticks : (w : Version) (s : Script) → Sticks (head_count w + 1) (λ ls. Ok (front w s ls))
body_sticks w s ls e m at r = faulty_stuck ls (head_count w + 1) s e m at r

sticks7 : (w : Version) (f : ℕ) (p : Plan) (c : ℕ) (v : ServiceName) (h : Scheme) → Sticks 7 (from7 w f p c v h)
sticks7 One f p c v h = body_sticks One (script f p c v h 0 no_seed)
sticks7 Two f p c v h = body_sticks Two (script f p c v h 0 no_seed)
sticks7 Three f p c v h = step_sticks 7 (checkpoint_at p) (from8 Three f p c v h) (checkpoint_step p) (λ k. body_sticks Three (script f p c v h k no_seed))
sticks7 Four f p c v h = step_sticks 7 (checkpoint_at p) (from8 Four f p c v h) (checkpoint_step p)
    (λ k. step_sticks 8 seed_at (λ x ls. Ok (front Four (script f p c v h k x) ls)) seed_step (λ x. body_sticks Four (script f p c v h k x)))

sticks6 : (w : Version) (f : ℕ) (p : Plan) (c : ℕ) (v : ServiceName) → Sticks 6 (from6 w f p c v)
sticks6 w f p c v = step_sticks 6 (name_at lms_line (schemes_of w) 6) (from7 w f p c v) (name_step lms_line (schemes_of w) 6) (sticks7 w f p c v)

sticks5 : (w : Version) (f : ℕ) (p : Plan) (c : ℕ) → Sticks 5 (from5 w f p c)
sticks5 w f p c = step_sticks 5 (name_at service_line services 5) (from6 w f p c) (name_step service_line services 5) (sticks6 w f p c)

sticks4 : (w : Version) (f : ℕ) (p : Plan) → Sticks 4 (from4 w f p)
sticks4 w f p = step_sticks 4 (number_at (codes "clients ") 1 16 4) (from5 w f p) (number_step (codes "clients ") 1 16 4) (sticks5 w f p)

sticks3 : (w : Version) (f : ℕ) → Sticks 3 (from3 w f)
sticks3 w f = step_sticks 3 (name_at plan_line plans 3) (from4 w f) (name_step plan_line plans 3) (sticks4 w f)

sticks2 : (w : Version) → Sticks 2 (from2 w)
sticks2 w = step_sticks 2 (number_at (codes "f ") 1 2 2) (from3 w) (number_step (codes "f ") 1 2 2) (sticks3 w)

head_sticks : Sticks 1 head_at
unfolding head_at
head_sticks = step_sticks 1 (name_at abstract_line versions 1) from2 (name_step abstract_line versions 1) sticks2

-- ---- where the end is missing

no_bad : (m n : ℕ) → failed (NoEnd m) ≡ failed (BadLine n) → ⊥
no_bad m n h = cc

events_count : (ls : Rest) (n : ℕ) (s : Script) (m : ℕ) → ReadsEvents n s ls (Err (NoEnd m)) → m ≡ n + length ls
events_count [] n s m h = let e = same_end m n h in omega (arith, e)
events_count (l ∷ []) n s m (inl (said, ends)) = absurd (not_ok (NoEnd m) s ends)
events_count (l ∷ k ∷ ls) n s m (inl (said, ends)) = absurd (no_bad m (n + 1) ends)
events_count (l ∷ ls) n s m (inr (inl (v, good, said, rest))) = let e = events_count ls (n + 1) (with_event s v) m rest in omega (arith, e)
events_count (l ∷ ls) n s m (inr (inr (bad, h))) = absurd (no_bad m n h)

faulty_count : (ls : Rest) (n : ℕ) (s : Script) (m : ℕ) → ReadsFaulty n s ls (Err (NoEnd m)) → m ≡ n + length ls
faulty_count [] n s m h = let e = same_end m n h in omega (arith, e)
faulty_count (l ∷ ls) n s m (inl (said, rest)) = let e = events_count ls (n + 1) s m rest in omega (arith, e)
faulty_count (l ∷ ls) n s m (inr (inl (v, good, said, rest))) = let e = faulty_count ls (n + 1) (with_faulty s v) m rest in omega (arith, e)
faulty_count (l ∷ ls) n s m (inr (inr (bad, h))) = absurd (no_bad m n h)

abbrev Counts : ℕ → (Rest → Result Front TextFault) → Type 0
Counts n read = (ls : Rest) (m : ℕ) → Continues (read ls) (Err (NoEnd m)) → m ≡ n + length ls

step_counts : {A : Type 0} (n : ℕ) (g : Rest → Result (A × Rest) TextFault) (k : A → Rest → Result Front TextFault) → IsStep n g → ((x : A) → Counts (n + 1) (k x)) → Counts n (λ ls. g ls >>= λ (p : A × Rest). k p.0 p.1)
step_counts {A} n g k step on [] m h =
    let e = same_end m n (subst (λ o. Continues (o >>= λ (p : A × Rest). k p.0 p.1) (Err (NoEnd m))) step.none h) in omega (arith, e)
step_counts {A} n g k step on (l ∷ ls) m h =
    let After : Result (A × Rest) TextFault → Type 0 = λ o. Continues (o >>= λ (p : A × Rest). k p.0 p.1) (Err (NoEnd m)) in
    elim (step.each l) [
      | inl (x, good) ↦ (let e = on x ls m (subst After (good ls) h) in omega (arith, e))
      | inr (d, is, bad) ↦ absurd (not_missing d n m is (sym (subst After (bad ls) h)))
    ]

body_counts : (w : Version) (s : Script) → Counts (head_count w + 1) (λ ls. Ok (front w s ls))
body_counts w s ls m r = faulty_count ls (head_count w + 1) s m r

counts7 : (w : Version) (f : ℕ) (p : Plan) (c : ℕ) (v : ServiceName) (h : Scheme) → Counts 7 (from7 w f p c v h)
counts7 One f p c v h = body_counts One (script f p c v h 0 no_seed)
counts7 Two f p c v h = body_counts Two (script f p c v h 0 no_seed)
counts7 Three f p c v h = step_counts 7 (checkpoint_at p) (from8 Three f p c v h) (checkpoint_step p) (λ k. body_counts Three (script f p c v h k no_seed))
counts7 Four f p c v h = step_counts 7 (checkpoint_at p) (from8 Four f p c v h) (checkpoint_step p)
    (λ k. step_counts 8 seed_at (λ x ls. Ok (front Four (script f p c v h k x) ls)) seed_step (λ x. body_counts Four (script f p c v h k x)))

counts6 : (w : Version) (f : ℕ) (p : Plan) (c : ℕ) (v : ServiceName) → Counts 6 (from6 w f p c v)
counts6 w f p c v = step_counts 6 (name_at lms_line (schemes_of w) 6) (from7 w f p c v) (name_step lms_line (schemes_of w) 6) (counts7 w f p c v)

counts5 : (w : Version) (f : ℕ) (p : Plan) (c : ℕ) → Counts 5 (from5 w f p c)
counts5 w f p c = step_counts 5 (name_at service_line services 5) (from6 w f p c) (name_step service_line services 5) (counts6 w f p c)

counts4 : (w : Version) (f : ℕ) (p : Plan) → Counts 4 (from4 w f p)
counts4 w f p = step_counts 4 (number_at (codes "clients ") 1 16 4) (from5 w f p) (number_step (codes "clients ") 1 16 4) (counts5 w f p)

counts3 : (w : Version) (f : ℕ) → Counts 3 (from3 w f)
counts3 w f = step_counts 3 (name_at plan_line plans 3) (from4 w f) (name_step plan_line plans 3) (counts4 w f)

counts2 : (w : Version) → Counts 2 (from2 w)
counts2 w = step_counts 2 (number_at (codes "f ") 1 2 2) (from3 w) (number_step (codes "f ") 1 2 2) (counts3 w)

head_counts : Counts 1 head_at
unfolding head_at
head_counts = step_counts 1 (name_at abstract_line versions 1) from2 (name_step abstract_line versions 1) counts2

-- ---- what it says of schedules

take_front : (front : Rest) (l : List ℕ) (back : Rest) → take (length front + 1) (front ++ l ∷ back) ≡ front ++ l ∷ []
take_front [] l back = refl
take_front (x ∷ front) l back = (let e : length (x ∷ front) + 1 ≡ suc (length front + 1) = omega arith in ap (λ n. take n (x ∷ front ++ l ∷ back)) e) ∙ ap (λ t. x ∷ t) (take_front front l back)

longer : (front : Rest) (l : List ℕ) (back : Rest) → length front + 1 ≤ length (front ++ l ∷ back)
longer [] l back = omega arith
longer (x ∷ front) l back = let h = longer front l back in omega (arith, h)

-- line n is wrong, however the lines go on after it
record IsBad (e : TextFault) (n : ℕ) (ls : Rest) : Type 0 where
  low : 1 ≤ n
  high : n ≤ length ls
  stays : (more : Rest) → Continues (head_at (take n ls ++ more)) (Err e)

bad_at : (ls : Rest) (e : TextFault) (n : ℕ) → IsWrong e n → Continues (head_at ls) (Err e) → IsBad e n ls
bad_at ls e n at h =
    let stuck = head_sticks ls e n at h in
    let place : n ≡ length stuck.front + 1 = (let p = stuck.place in omega (arith, p)) in
    let long = longer stuck.front stuck.line stuck.back in
    let front : take n ls ≡ stuck.front ++ stuck.line ∷ [] = (λ j. take (place j) (stuck.split j)) ∙ take_front stuck.front stuck.line stuck.back in
    record {
      low = omega (arith, place);
      high = subst (λ x. n ≤ length x) (sym stuck.split) (omega (arith, place, long));
      stays = λ more. subst (λ x. Continues (head_at x) (Err e)) (sym (ap (λ x. x ++ more) front ∙ append_assoc stuck.front (stuck.line ∷ []) more)) (stuck.stays more);
    }

built_or_more : (s : Script) → IsBuilt s ⊎ (most_built s.plan < s.every)
built_or_more s = elim (cases_Bool (nat_le s.every (most_built s.plan))) [
  | inl few ↦ inl (leb-true s.every (most_built s.plan) few)
  | inr more ↦ inr (leb-false s.every (most_built s.plan) more)
]

-- another fault than that of checkpoints: the lines are no schedule's
spell_none : (ls : Rest) (e : TextFault) (s : Script) → (failed e ≡ failed (NotBuilt 7) → ⊥) → Continues (head_at ls) (Err e) → Spell ls s → ⊥
spell_none ls e s other h spell = elim (built_or_more s) [
  | inl built ↦ not_ok e s (lines_once ls (Err e) (Ok s) h (lines_read ls s spell built))
  | inr more ↦ other (lines_once ls (Err e) (Err (NotBuilt 7)) h (lines_refused ls s spell more))
]

bad_differs : (m n : ℕ) → failed (BadLine m) ≡ failed (NotBuilt n) → ⊥
bad_differs m n h = cc

end_differs : (m n : ℕ) → failed (NoEnd m) ≡ failed (NotBuilt n) → ⊥
end_differs m n h = cc

pub bad_line : (text : List ℕ) (n : ℕ) → ReadsText text (Err (BadLine n)) → (1 ≤ n) × (n ≤ length (lines_of text)) × BeginsNone (take n (lines_of text))
bad_line text n h =
    let bad = bad_at (lines_of text) (BadLine n) n refl h in (
      bad.low,
      bad.high,
      λ s more spell. spell_none (take n (lines_of text) ++ more) (BadLine n) s (bad_differs n 7) (bad.stays more) spell,
    )

pub missing_end : (text : List ℕ) (n : ℕ) → ReadsText text (Err (NoEnd n)) → (n ≡ length (lines_of text) + 1) × ((s : Script) → IsSpelled text s → ⊥)
missing_end text n h =
    let count = head_counts (lines_of text) n h in (
      omega (arith, count),
      λ s spelled. spell_none (lines_of text) (NoEnd n) s (end_differs n 7) h spelled,
    )

-- ---- what is not built

events_plain : (ls : Rest) (n : ℕ) (s : Script) (m : ℕ) → ReadsEvents n s ls (Err (NotBuilt m)) → ⊥
events_plain [] n s m h = end_differs n m (sym h)
events_plain (l ∷ []) n s m (inl (said, ends)) = not_ok (NotBuilt m) s ends
events_plain (l ∷ k ∷ ls) n s m (inl (said, ends)) = bad_differs (n + 1) m (sym ends)
events_plain (l ∷ ls) n s m (inr (inl (v, good, said, rest))) = events_plain ls (n + 1) (with_event s v) m rest
events_plain (l ∷ ls) n s m (inr (inr (bad, h))) = bad_differs n m (sym h)

faulty_plain : (ls : Rest) (n : ℕ) (s : Script) (m : ℕ) → ReadsFaulty n s ls (Err (NotBuilt m)) → ⊥
faulty_plain [] n s m h = end_differs n m (sym h)
faulty_plain (l ∷ ls) n s m (inl (said, rest)) = events_plain ls (n + 1) s m rest
faulty_plain (l ∷ ls) n s m (inr (inl (v, good, said, rest))) = faulty_plain ls (n + 1) (with_faulty s v) m rest
faulty_plain (l ∷ ls) n s m (inr (inr (bad, h))) = bad_differs n m (sym h)

-- only the head may ask for what is not built
pub head_decides : (ls : Rest) (n : ℕ) → Continues (head_at ls) (Err (NotBuilt n)) → head_at ls ≡ Err (NotBuilt n)
head_decides ls n h = by (head_at ls) refl h
  where
    by : (o : Result Front TextFault) → head_at ls ≡ o → Continues o (Err (NotBuilt n)) → head_at ls ≡ Err (NotBuilt n)
    by (Ok x) is k = absurd (faulty_plain x.rest x.next x.script n k)
    by (Err d) is k = is ∙ ap (λ f. let r : Result Front TextFault = Err f in r) (sym (err_is (NotBuilt n) d k))

-- these lines, and some more
begun : (w : Version) (f : ℕ) (p : Plan) (c : ℕ) (v : ServiceName) (h : Scheme) (k : ℕ) → (w ≡ Three) ⊎ (w ≡ Four) → IsInBounds f c → Allows w h → k ≤ most_every p
    → (more : Rest) × Spell (first_lines w f p c v h (checkpoint_line k ∷ []) ++ more) (script f p c v h k no_seed)
begun w f p c v h k (inl three) bounds allows few = (
  codes "run" ∷ codes "end" ∷ [],
  subst (λ x. Spell (first_lines x f p c v h (checkpoint_line k ∷ codes "run" ∷ codes "end" ∷ [])) (script f p c v h k no_seed)) (sym three)
      (record {
        schedule = record { bounds = bounds; dense = few; seed = IsSeed-none; faulty = tt; events = tt };
        version = Three;
        allows = subst (λ x. Allows x h) three allows;
        omits = refl;
        lines = refl;
      }),
)
begun w f p c v h k (inr four) bounds allows few = (
  seed_line no_seed ∷ codes "run" ∷ codes "end" ∷ [],
  subst (λ x. Spell (first_lines x f p c v h (checkpoint_line k ∷ seed_line no_seed ∷ codes "run" ∷ codes "end" ∷ [])) (script f p c v h k no_seed)) (sym four)
      (record {
        schedule = record { bounds = bounds; dense = few; seed = IsSeed-none; faulty = tt; events = tt };
        version = Four;
        allows = subst (λ x. Allows x h) four allows;
        omits = tt;
        lines = refl;
      }),
)

pub unbuilt_line : (text : List ℕ) (n : ℕ) → ReadsText text (Err (NotBuilt n)) → (1 ≤ n) × (n ≤ length (lines_of text)) × BeginsUnbuilt (take n (lines_of text))
unbuilt_line text n h =
    let ls = lines_of text in
    let bad = bad_at ls (NotBuilt n) n refl h in
    let found = unbuilt_head ls n (head_decides ls n h) in
    let six = found.six in
    let asks = found.asks in
    let all = begun six.version six.f six.plan six.clients six.service six.lms asks.every found.later six.bounds six.allows asks.few in
    let front : take n ls ≡ first_lines six.version six.f six.plan six.clients six.service six.lms (checkpoint_line asks.every ∷ []) =
    (λ j. take (asks.seventh j) ((six.lines ∙ ap (λ t. first_lines six.version six.f six.plan six.clients six.service six.lms t) asks.lines) j)) in (
      bad.low,
      bad.high,
      record {
        schedule = script six.f six.plan six.clients six.service six.lms asks.every no_seed;
        more = all.0;
        spell = subst (λ t. Spell (t ++ all.0) (script six.f six.plan six.clients six.service six.lms asks.every no_seed)) (sym front) all.1;
        each = λ s more spell. elim (built_or_more s) [
          | inl built ↦ absurd (not_ok (NotBuilt n) s (lines_once (take n ls ++ more) (Err (NotBuilt n)) (Ok s) (bad.stays more) (lines_read (take n ls ++ more) s spell built)))
          | inr much ↦ much
        ];
      },
    )
