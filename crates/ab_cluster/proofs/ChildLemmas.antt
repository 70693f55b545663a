-- Children that are started, and then waited for.
use Rattle.std.proofs.Common.{◌≡◌, ◌⊎◌, ℕ, zero, suc, ◌+◌, ◌-◌, ◌^◌, ◌<◌, ◌≤◌, min, List, [], ◌∷◌, ◌++◌, Bool, true, false, cond, length, map, take, drop, get_or, refl, sym, ap, subst, ◌∙◌, inl, inr, append_assoc, append-nil, length-append, arith}
use Rattle.std.specs.Prelude.{Option, None, Some, IfSome, IsSomeAnd, is_none, slice_get, slice_set, replicate, ◌==◌, if◌then◌else◌}
use Rattle.std.specs.List.{count_by, range_with_len}
use Rattle.std.specs.Option.{option_map}
use Rattle.std.proofs.lemmas.Bool.Decides.{Decides-eqb}
use Rattle.std.proofs.lemmas.List.{length-map, length-replicate, length-take-le, map-append, replicate_more, take-map, take_all, take_more}
use Rattle.std.proofs.lemmas.List.FromFn.{get_or-range_with_len}
use Rattle.std.proofs.lemmas.List.Sums.{sum_by-append}
use Rattle.ab_io.specs.Causes.{Rose}
use Rattle.ab_cluster.specs.declared.gathering.ChildJob.{ChildJob}
use Rattle.ab_cluster.specs.declared.gathering.Gathered.{Gathered}
use Rattle.ab_cluster.specs.declared.memory.Started.{Started}
use Rattle.ab_cluster.specs.declared.spawner.Ended.{Ended}
use Rattle.ab_cluster.specs.Children.{Child, Children, Ending, Job, SpawnerState, closed, end_of, ending, marked, opened, with_child, with_mark}
use Rattle.ab_cluster.specs.Gathering.{AreEnds, Gathers, GathersFront, Outcome, found, gathered, job_of, not_started, outcome_of}
use Rattle.ab_cluster.specs.Steps.{AreEndsOf, AreOpen, Closes, ClosesFront, end_in, ends_in, part_gathered, with_opened}
use Rattle.ab_cluster.specs.Told.{child_of}

-- ---- starts

one_opened : (c : Children) (jobs : List Job) (j : Job) → with_child j (with_opened jobs c) ≡ with_opened (jobs ++ j ∷ []) c
one_opened c jobs j = ap (λ s. record { started = s; ends = c.ends })
    (append_assoc c.started (map opened jobs) (opened j ∷ []) ∙ ap (λ s. c.started ++ s) (sym (map-append opened jobs (j ∷ []))))

pub opened_none : (known : Option Children) → known ≡ option_map (with_opened []) known
opened_none None = refl
opened_none (Some c) = ap (λ s. Some (record { started = s; ends = c.ends })) (sym (append-nil c.started))

pub opened_more : (known now next : Option Children) (jobs more : List Job) (j : Job) → more ≡ jobs ++ j ∷ [] → now ≡ option_map (with_opened jobs) known → next ≡ option_map (with_child j) now
    → next ≡ option_map (with_opened more) known
opened_more None now next jobs more j grows is starts = starts ∙ ap (option_map (with_child j)) is
opened_more (Some c) now next jobs more j grows is starts =
    starts ∙ ap (option_map (with_child j)) is ∙ ap Some (one_opened c jobs j) ∙ ap (λ (js : List Job). Some (with_opened js c)) (sym grows)

range_more : (a n : ℕ) → range_with_len a (n + 1) ≡ range_with_len a n ++ (a + n) ∷ []
range_more a zero = ap (λ (k : ℕ). k ∷ []) (omega arith)
range_more a (suc n) =
    let e : suc n + 1 ≡ suc (n + 1) = omega arith in
    let k : a + 1 + n ≡ a + suc n = omega arith in
    ap (range_with_len a) e ∙ ap (λ s. a ∷ s) (range_more (a + 1) n ∙ ap (λ (k : ℕ). range_with_len (a + 1) n ++ k ∷ []) k)

pub numbered_more : (known now : Option Children) (jobs : List Job) (children next : List ℕ) (i n : ℕ) → next ≡ children ++ n ∷ [] → length jobs ≡ i → now ≡ option_map (with_opened jobs) known
    → IfSome known (λ c. children ≡ range_with_len (length c.started) i) → IfSome now (λ c. n ≡ length c.started)
    → IfSome known (λ c. next ≡ range_with_len (length c.started) (i + 1))
numbered_more None now jobs children next i n more each is numbers place = tt
numbered_more (Some c) now jobs children next i n more each is numbers place =
    let at : n ≡ length (c.started ++ map opened jobs) = subst (λ k. IfSome k (λ x. n ≡ length x.started)) is place in
    let last : n ≡ length c.started + i = omega (arith, at, length-append c.started (map opened jobs), length-map jobs opened, each) in
    more ∙ ap (λ s. s ++ n ∷ []) numbers ∙ ap (λ (k : ℕ). range_with_len (length c.started) i ++ k ∷ []) last ∙ sym (range_more (length c.started) i)

-- the jobs with one more
pub jobs_more : (jobs : List ChildJob) (i : ℕ) (x : ChildJob) → i < length jobs → x ≡ get_or jobs i x → map job_of (take (i + 1) jobs) ≡ map job_of (take i jobs) ++ job_of x ∷ []
jobs_more jobs i x lt is = ap (map job_of) (take_more jobs i x lt ∙ ap (λ (y : ChildJob). take i jobs ++ y ∷ []) (sym is)) ∙ map-append job_of (take i jobs) (x ∷ [])

pub length_more : {A : Type 0} (xs ys : List A) (x : A) (n : ℕ) → ys ≡ xs ++ x ∷ [] → length xs ≡ n → length ys ≡ n + 1
length_more xs ys x n more each = omega (arith, ap length more, length-append xs (x ∷ []), each)

pub jobs_length : (jobs : List ChildJob) (i : ℕ) → i < length jobs → length (map job_of (take i jobs)) ≡ i
jobs_length jobs i lt = length-map (take i jobs) job_of ∙ length-take-le i jobs (omega (arith, lt))

-- ---- waits

abbrev part : ℕ → List Job → List Child
part i jobs = map closed (take i jobs) ++ map opened (drop i jobs)

open_in : (jobs : List Job) (i : ℕ) → i < length jobs → IsSomeAnd (slice_get (part i jobs) i) (λ c. c.waited ≡ false)
open_in [] i lt = absurd (omega (arith, lt))
open_in (j ∷ jobs) zero lt = refl
open_in (j ∷ jobs) (suc i) lt = open_in jobs i (omega (arith, lt))

open_behind : (cs : List Child) (jobs : List Job) (i n : ℕ) → n ≡ length cs + i → i < length jobs → IsSomeAnd (slice_get (cs ++ part i jobs) n) (λ c. c.waited ≡ false)
open_behind [] jobs i n at lt = let e : n ≡ i = omega (arith, at) in subst (λ (m : ℕ). IsSomeAnd (slice_get (part i jobs) m) (λ c. c.waited ≡ false)) (sym e) (open_in jobs i lt)
open_behind (c ∷ cs) jobs i zero at lt = absurd (omega (arith, at))
open_behind (c ∷ cs) jobs i (suc n) at lt = open_behind cs jobs i n (omega (arith, at)) lt

marked_in : (jobs : List Job) (i : ℕ) → i < length jobs → marked (part i jobs) i ≡ part (i + 1) jobs
marked_in [] i lt = absurd (omega (arith, lt))
marked_in (j ∷ jobs) zero lt = let e : 1 ≡ 0 + 1 = omega arith in ap (λ (n : ℕ). part n (j ∷ jobs)) e
marked_in (j ∷ jobs) (suc i) lt =
    let e : suc (i + 1) ≡ suc i + 1 = omega arith in
    ap (λ s. closed j ∷ s) (marked_in jobs i (omega (arith, lt))) ∙ ap (λ (n : ℕ). part n (j ∷ jobs)) e

marked_behind : (cs : List Child) (jobs : List Job) (i n : ℕ) → n ≡ length cs + i → i < length jobs → marked (cs ++ part i jobs) n ≡ cs ++ part (i + 1) jobs
marked_behind [] jobs i n at lt = let e : n ≡ i = omega (arith, at) in ap (marked (part i jobs)) e ∙ marked_in jobs i lt
marked_behind (c ∷ cs) jobs i zero at lt = absurd (omega (arith, at))
marked_behind (c ∷ cs) jobs i (suc n) at lt = ap (λ s. c ∷ s) (marked_behind cs jobs i n (omega (arith, at)) lt)

number_at : (children : List ℕ) (a i n : ℕ) → children ≡ range_with_len a (length children) → i < length children → n ≡ get_or children i 0 → n ≡ a + i
number_at children a i n numbers lt is = is ∙ ap (λ (c : List ℕ). get_or c i 0) numbers ∙ get_or-range_with_len a (length children) i 0 lt

-- the next of the children may be waited for
pub next_is_open : (old now : Option Children) (children : List ℕ) (i n : ℕ) → AreOpen old children → ClosesFront i old now children → i < length children → n ≡ get_or children i 0
    → IfSome now (λ c. IsSomeAnd (slice_get c.started n) (λ child. child.waited ≡ false))
next_is_open old now children i n these closes lt is = by these.known these.numbers (closes these)
  where
    by : (known : Option Children) → IfSome known (λ c. children ≡ range_with_len (length c.started) (length children)) → now ≡ option_map (part_gathered i these.jobs) known
        → IfSome now (λ c. IsSomeAnd (slice_get c.started n) (λ child. child.waited ≡ false))
    by None numbers e = subst (λ k. IfSome k (λ c. IsSomeAnd (slice_get c.started n) (λ child. child.waited ≡ false))) (sym e) tt
    by (Some c) numbers e =
        subst (λ k. IfSome k (λ x. IsSomeAnd (slice_get x.started n) (λ child. child.waited ≡ false))) (sym e)
        (open_behind c.started these.jobs i n (number_at children (length c.started) i n numbers lt is) (omega (arith, lt, these.each)))

pub closes_none : (old : Option Children) (children : List ℕ) → ClosesFront 0 old old children
closes_none old children these = these.is ∙ by these.known
  where
    by : (known : Option Children) → option_map (with_opened these.jobs) known ≡ option_map (part_gathered 0 these.jobs) known
    by None = refl
    by (Some c) = refl

pub closes_more : (old now next : Option Children) (children : List ℕ) (i n : ℕ) → ClosesFront i old now children → i < length children → n ≡ get_or children i 0 → next ≡ option_map (with_mark n) now
    → ClosesFront (i + 1) old next children
closes_more old now next children i n closes lt is marks these = marks ∙ ap (option_map (with_mark n)) (closes these) ∙ by these.known these.numbers
  where
    by : (known : Option Children) → IfSome known (λ c. children ≡ range_with_len (length c.started) (length children))
        → option_map (with_mark n) (option_map (part_gathered i these.jobs) known) ≡ option_map (part_gathered (i + 1) these.jobs) known
    by None numbers = refl
    by (Some c) numbers =
        ap (λ s. Some (record { started = s; ends = c.ends }))
        (marked_behind c.started these.jobs i n (number_at children (length c.started) i n numbers lt is) (omega (arith, lt, these.each)))

drop_none : (i : ℕ) (jobs : List Job) → length jobs ≤ i → drop i jobs ≡ []
drop_none i [] le = by i
  where
    by : (k : ℕ) → ◌≡◌ {A = List Job} (drop k []) []
    by zero = refl
    by (suc k) = refl
drop_none zero (j ∷ jobs) le = absurd (omega (arith, le))
drop_none (suc i) (j ∷ jobs) le = drop_none i jobs (omega (arith, le))

pub closes_all : (old now : Option Children) (children : List ℕ) (i : ℕ) → ClosesFront i old now children → length children ≤ i → Closes old now children
closes_all old now children i closes le these = closes these ∙ by these.known
  where
    whole : part i these.jobs ≡ map closed these.jobs
    whole = ap (λ js. map closed js ++ map opened (drop i these.jobs)) (take_all i these.jobs (omega (arith, le, these.each)))
        ∙ ap (λ js. map closed these.jobs ++ map opened js) (drop_none i these.jobs (omega (arith, le, these.each)))
        ∙ append-nil (map closed these.jobs)

    by : (known : Option Children) → option_map (part_gathered i these.jobs) known ≡ option_map (gathered these.jobs) known
    by None = refl
    by (Some c) = ap (λ s. Some (record { started = c.started ++ s; ends = c.ends })) whole

-- ---- a child in memory

pub child_marked : (xs : List Started) (n : ℕ) (x : Started) → n < length xs → x ≡ get_or xs n x → map child_of (slice_set xs n (record { job = x.job; waited = true })) ≡ marked (map child_of xs) n
child_marked [] n x lt is = absurd (omega (arith, lt))
child_marked (y ∷ ys) zero x lt is = ap (λ (z : Started). closed (job_of z.job) ∷ map child_of ys) is
child_marked (y ∷ ys) (suc n) x lt is = ap (λ s. child_of y ∷ s) (child_marked ys n x (omega (arith, lt)) is)

-- ---- ends

ends_behind : (ends : List Ending) (ns : List ℕ) (es : List (Option Ending)) (n : ℕ) (e : Option Ending) → length ns ≡ length es → AreEndsOf ends ns es → IfSome e (λ end. end ≡ end_of ends n)
    → AreEndsOf ends (ns ++ n ∷ []) (es ++ e ∷ [])
ends_behind ends [] [] n e each are is = (is, tt)
ends_behind ends [] (x ∷ es) n e each are is = absurd (omega (arith, each))
ends_behind ends (m ∷ ns) [] n e each are is = absurd (omega (arith, each))
ends_behind ends (m ∷ ns) (x ∷ es) n e each are is = (are.0, ends_behind ends ns es n e (omega (arith, each)) are.1 is)

-- the ends that are told never change
same_ends : (old now : Option Children) (children : List ℕ) (i : ℕ) (P : List Ending → Type 0) → AreOpen old children → ClosesFront i old now children → IfSome now (λ c. P c.ends) → IfSome old (λ c. P c.ends)
same_ends old now children i P these closes holds = by these.known these.is (closes these)
  where
    by : (known : Option Children) → old ≡ option_map (with_opened these.jobs) known → now ≡ option_map (part_gathered i these.jobs) known → IfSome old (λ c. P c.ends)
    by None is e = subst (λ k. IfSome k (λ c. P c.ends)) (sym is) tt
    by (Some c) is e =
        let told : P c.ends = subst (λ k. IfSome k (λ x. P x.ends)) e holds in
        subst (λ k. IfSome k (λ x. P x.ends)) (sym is) told

both_some : (o : Option Children) (P Q R : Children → Type 0) → ((c : Children) → P c → Q c → R c) → IfSome o P → IfSome o Q → IfSome o R
both_some None P Q R each p q = tt
both_some (Some c) P Q R each p q = each c p q

pub right_more : (old now : Option Children) (children : List ℕ) (i n : ℕ) (es : List (Option Ending)) (e : Option Ending) → AreOpen old children → ClosesFront i old now children → i < length children
    → n ≡ get_or children i 0 → length es ≡ i → IfSome old (λ c. AreEndsOf c.ends (take i children) es) → IfSome now (λ c. IfSome e (λ end. end ≡ end_of c.ends n))
    → IfSome old (λ c. AreEndsOf c.ends (take (i + 1) children) (es ++ e ∷ []))
right_more old now children i n es e these closes lt is each right ends =
    let front : take (i + 1) children ≡ take i children ++ n ∷ [] = take_more children i 0 lt ∙ ap (λ (k : ℕ). take i children ++ k ∷ []) (sym is) in
    both_some old (λ c. AreEndsOf c.ends (take i children) es) (λ c. IfSome e (λ end. end ≡ end_of c.ends n)) (λ c. AreEndsOf c.ends (take (i + 1) children) (es ++ e ∷ []))
    (λ c are one. subst (λ (ns : List ℕ). AreEndsOf c.ends ns (es ++ e ∷ [])) (sym front)
    (ends_behind c.ends (take i children) es n e (length-take-le i children (omega (arith, lt)) ∙ sym each) are one))
    right (same_ends old now children i (λ ends. IfSome e (λ end. end ≡ end_of ends n)) these closes ends)

ends_from : (ends : List Ending) (a : ℕ) (es : List (Option Ending)) → AreEndsOf ends (range_with_len a (length es)) es → AreEnds ends a es
ends_from ends a [] are = tt
ends_from ends a (e ∷ es) are = (are.0, ends_from ends (a + 1) es are.1)

count_more : (es : List (Option Ending)) (e : Option Ending) → count_by is_none (es ++ e ∷ []) ≡ count_by is_none es + (if is_none e then 1 else 0)
count_more es None = sum_by-append (λ x. cond (is_none x) 1 0) es (None ∷ [])
count_more es (Some e) = sum_by-append (λ x. cond (is_none x) 1 0) es (Some e ∷ [])

-- one fault more, or none
pub missing_more : (es : List (Option Ending)) (e : Option Ending) (a b c : ℕ) → min (a + count_by is_none es) (2 ^ 64 - 1) ≤ b → min (b + (if is_none e then 1 else 0)) (2 ^ 64 - 1) ≤ c
    → min (a + count_by is_none (es ++ e ∷ [])) (2 ^ 64 - 1) ≤ c
missing_more es e a b c first second = let more = count_more es e in omega (arith, more, first, second)

-- ---- what was gathered so far

ends_more : (xs ys : List Gathered) (e : Option Ended) → ys ≡ xs ++ record { started = true; ended = e } ∷ [] → ends_in ys ≡ ends_in xs ++ option_map ending e ∷ []
ends_more xs ys e more = ap ends_in more ∙ map-append end_in xs (record { started = true; ended = e } ∷ [])

pub outcomes_more : (xs ys : List Gathered) (e : Option Ended) → ys ≡ xs ++ record { started = true; ended = e } ∷ [] → map outcome_of xs ≡ map found (ends_in xs) → map outcome_of ys ≡ map found (ends_in ys)
outcomes_more xs ys e more are =
    ap (map outcome_of) more ∙ map-append outcome_of xs (record { started = true; ended = e } ∷ []) ∙ ap (λ s. s ++ found (option_map ending e) ∷ []) are
    ∙ sym (map-append found (ends_in xs) (option_map ending e ∷ [])) ∙ ap (map found) (sym (ends_more xs ys e more))

pub right_next : (old now : Option Children) (children : List ℕ) (i n : ℕ) (xs ys : List Gathered) (e : Option Ended) → ys ≡ xs ++ record { started = true; ended = e } ∷ [] → AreOpen old children
    → ClosesFront i old now children → i < length children → n ≡ get_or children i 0 → length xs ≡ i → IfSome old (λ c. AreEndsOf c.ends (take i children) (ends_in xs))
    → IfSome now (λ c. IfSome (option_map ending e) (λ end. end ≡ end_of c.ends n)) → IfSome old (λ c. AreEndsOf c.ends (take (i + 1) children) (ends_in ys))
right_next old now children i n xs ys e more these closes lt is each right ends =
    subst (λ (es : List (Option Ending)). IfSome old (λ c. AreEndsOf c.ends (take (i + 1) children) es)) (sym (ends_more xs ys e more))
    (right_more old now children i n (ends_in xs) (option_map ending e) these closes lt is (length-map xs end_in ∙ each) right ends)

pub faults_next : (xs ys : List Gathered) (e : Option Ended) (a b c : ℕ) → ys ≡ xs ++ record { started = true; ended = e } ∷ [] → min (a + count_by is_none (ends_in xs)) (2 ^ 64 - 1) ≤ b
    → min (b + (if is_none (option_map ending e) then 1 else 0)) (2 ^ 64 - 1) ≤ c → min (a + count_by is_none (ends_in ys)) (2 ^ 64 - 1) ≤ c
faults_next xs ys e a b c more first second =
    subst (λ (es : List (Option Ending)). min (a + count_by is_none es) (2 ^ 64 - 1) ≤ c) (sym (ends_more xs ys e more)) (missing_more (ends_in xs) (option_map ending e) a b c first second)

pub rest_more : (xs ys : List Gathered) (old : List Outcome) (a n : ℕ) → ys ≡ xs ++ record { started = false; ended = None } ∷ [] → a ≤ n → map outcome_of xs ≡ old ++ replicate (n - a) not_started
    → map outcome_of ys ≡ old ++ replicate (n + 1 - a) not_started
rest_more xs ys old a n more le are =
    let e : n - a + 1 ≡ n + 1 - a = omega (arith, le) in
    ap (map outcome_of) more ∙ map-append outcome_of xs (record { started = false; ended = None } ∷ []) ∙ ap (λ s. s ++ not_started ∷ []) are
    ∙ append_assoc old (replicate (n - a) not_started) (not_started ∷ []) ∙ ap (λ s. old ++ s) (replicate_more (n - a) not_started)
    ∙ ap (λ (k : ℕ). old ++ replicate k not_started) e

pub count_all : (xs ys : List Gathered) (n : ℕ) → length xs ≤ n → map outcome_of ys ≡ map outcome_of xs ++ replicate (n - length xs) not_started → length ys ≡ n
count_all xs ys n le are =
    omega (arith, le, length-map ys outcome_of, length-map xs outcome_of, ap length are, length-append (map outcome_of xs) (replicate (n - length xs) not_started), length-replicate (n - length xs) not_started)

-- ---- both

abbrev pub open_now : (jobs : List Job) (old mid : Option Children) (children : List ℕ) → length children ≤ length jobs → mid ≡ option_map (with_opened (take (length children) jobs)) old
    → IfSome old (λ c. children ≡ range_with_len (length c.started) (length children)) → AreOpen mid children
open_now jobs old mid children front is numbers =
    record { known = old; jobs = take (length children) jobs; each = length-take-le (length children) jobs front; is = is; numbers = numbers }

test_of : (n jobs : ℕ) → n ≡ jobs → (n == jobs) ≡ true
test_of n jobs e = (Decides-eqb n jobs).1 e

all_faults : (jobs n missing a b c : ℕ) → (n ≡ jobs) ⊎ Rose a b → a ≤ b → min (b + missing) (2 ^ 64 - 1) ≤ c → min (a + (missing + (if n == jobs then 0 else 1))) (2 ^ 64 - 1) ≤ c
all_faults jobs n missing a b c (inl whole) later told =
    subst (λ (t : Bool). min (a + (missing + (if t then 0 else 1))) (2 ^ 64 - 1) ≤ c) (sym (test_of n jobs whole)) (omega (arith, later, told))
all_faults jobs n missing a b c (inr rose) later told = by (n == jobs)
  where
    by : (t : Bool) → min (a + (missing + (if t then 0 else 1))) (2 ^ 64 - 1) ≤ c
    by true = omega (arith, rose, told)
    by false = omega (arith, rose, told)

right_ends : (old mid : Option Children) (children : List ℕ) (jobs : List Job) (es : List (Option Ending)) → length es ≡ length children → mid ≡ option_map (with_opened jobs) old
    → IfSome old (λ c. children ≡ range_with_len (length c.started) (length children)) → IfSome mid (λ c. AreEndsOf c.ends children es) → IfSome old (λ c. AreEnds c.ends (length c.started) es)
right_ends None mid children jobs es each is numbers right = tt
right_ends (Some c) mid children jobs es each is numbers right =
    let told : AreEndsOf c.ends children es = subst (λ k. IfSome k (λ x. AreEndsOf x.ends children es)) is right in
    let range : children ≡ range_with_len (length c.started) (length es) = numbers ∙ ap (range_with_len (length c.started)) (sym each) in
    ends_from c.ends (length c.started) es (subst (λ (ns : List ℕ). AreEndsOf c.ends ns es) range told)

-- the starts of some jobs, and the numbers of their children
pub record Begun (jobs : List ChildJob) (old mid : SpawnerState) (children : List ℕ) : Type 0 where
  pub front : length children ≤ length jobs
  pub told : mid.told ≡ option_map (with_opened (map job_of (take (length children) jobs))) old.told
  pub numbers : IfSome old.told (λ c. children ≡ range_with_len (length c.started) (length children))
  pub later : old.faults ≤ mid.faults

module _ (jobs : List ChildJob) (old mid new : SpawnerState) (children : List ℕ) (starts : Begun jobs old mid children) where
  front : length children ≤ length (map job_of jobs)
  front = omega (arith, starts.front, length-map jobs job_of)

  told : mid.told ≡ option_map (with_opened (take (length children) (map job_of jobs))) old.told
  told = starts.told ∙ ap (λ (js : List Job). option_map (with_opened js) old.told) (sym (take-map job_of (length children) jobs))

  pub these_are_open : (given : List ℕ) → given ≡ children → AreOpen mid.told given
  these_are_open given is = subst (λ (l : List ℕ). AreOpen mid.told l) (sym is) (open_now (map job_of jobs) old.told mid.told children front told starts.numbers)

  closed_all : (given : List ℕ) → given ≡ children → Closes mid.told new.told given → new.told ≡ option_map (gathered (take (length children) (map job_of jobs))) old.told
  closed_all given is closes = subst (λ (l : List ℕ). Closes mid.told new.told l) is closes (open_now (map job_of jobs) old.told mid.told children front told starts.numbers)

  -- memory was wanting
  pub gathers_front : (given : List ℕ) → given ≡ children → Closes mid.told new.told given → mid.faults ≤ new.faults → GathersFront (map job_of jobs) old new
  gathers_front given is closes more = record { count = length children; front = front; told = closed_all given is closes; later = omega (arith, starts.later, more) }

  pub gathers : (given : List ℕ) (some : List Gathered) (all : List Outcome) → given ≡ children → mid.faults ≤ new.faults → (length children ≡ length jobs) ⊎ Rose old.faults mid.faults
      → Closes mid.told new.told given → length some ≡ length given → IfSome mid.told (λ c. AreEndsOf c.ends given (ends_in some))
      → min (mid.faults + count_by is_none (ends_in some)) (2 ^ 64 - 1) ≤ new.faults → map outcome_of some ≡ map found (ends_in some)
      → all ≡ map outcome_of some ++ replicate (length jobs - length some) not_started → Gathers (map job_of jobs) old new all
  gathers given some all is more whole closes each right faults are rest =
      let es = ends_in some in
      let count : length es ≡ length children = length-map some end_in ∙ each ∙ ap length is in
      let same : length (map job_of jobs) ≡ length jobs = length-map jobs job_of in
      let left : length jobs - length some ≡ length (map job_of jobs) - length es = omega (arith, same, length-map some end_in) in
      record {
        ends = es;
        front = omega (arith, count, front);
        outcomes = rest ∙ ap (λ s. s ++ replicate (length jobs - length some) not_started) are ∙ ap (λ (n : ℕ). map found es ++ replicate n not_started) left;
        told = closed_all given is closes ∙ ap (λ (n : ℕ). option_map (gathered (take n (map job_of jobs))) old.told) (sym count);
        right = right_ends old.told mid.told children (take (length children) (map job_of jobs)) es count told starts.numbers
            (subst (λ (l : List ℕ). IfSome mid.told (λ c. AreEndsOf c.ends l es)) is right);
        later = omega (arith, starts.later, more);
        faults = subst (λ (n : ℕ). min (old.faults + (count_by is_none es + (if n == length (map job_of jobs) then 0 else 1))) (2 ^ 64 - 1) ≤ new.faults) (sym count)
            (subst (λ (m : ℕ). min (old.faults + (count_by is_none es + (if length children == m then 0 else 1))) (2 ^ 64 - 1) ≤ new.faults) (sym same)
            (all_faults (length jobs) (length children) (count_by is_none es) old.faults mid.faults new.faults whole starts.later faults));
      }
