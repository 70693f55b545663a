-- What the conclusion of a cluster says of how often its spawner has failed, and of how its children end.
use Rattle.std.proofs.Common.{◌≡◌, ◌⊎◌, ℕ, ◌+◌, ◌-◌, ◌^◌, ◌≤◌, min, List, [], ◌∷◌, ◌++◌, Bool, true, false, cond, length, map, refl, sym, ap, subst, ◌∙◌, inl, inr, append-nil, arith}
use Rattle.std.specs.Prelude.{Option, None, Some, IfSome, is_none, not, replicate, ◌==◌, ◌||◌, if◌then◌else◌}
use Rattle.std.specs.List.{count_by, list_any}
use Rattle.std.proofs.lemmas.Bool.{cases_Bool}
use Rattle.std.proofs.lemmas.Bool.Decides.{Decides-eqb}
use Rattle.std.proofs.lemmas.List.Sums.{sum_by-append}
use Rattle.ab_io.specs.Causes.{Rose}
use Rattle.ab_cluster.specs.declared.report.Conclusion.TheVariants.{Well, Ill, Unknown}
use Rattle.ab_cluster.specs.Children.{Children, Ending, Job, SpawnerState, end_of}
use Rattle.ab_cluster.specs.Gathering.{AreEnds, Gathers, Outcome, faults_in, found, not_started}
use Rattle.ab_cluster.specs.Reports.{conclusion_of, is_ill}

abbrev pub is_lost : Outcome → Bool
is_lost o = is_none o.ended

abbrev pub is_ill_one : Outcome → Bool
is_ill_one o = is_ill o.ended

-- ---- where no fault is counted, each end is known

count_cons : (e : Option Ending) (es : List (Option Ending)) → count_by is_none (e ∷ es) ≡ 0 + cond (is_none e) 1 0 + count_by is_none es
count_cons e es = sum_by-append (λ (x : Option Ending). cond (is_none x) 1 0) (e ∷ []) es

none_lost : (es : List (Option Ending)) → count_by is_none es ≡ 0 → list_any is_lost (map found es) ≡ false
none_lost [] e = refl
none_lost (None ∷ es) e = let one = count_cons None es in absurd (omega (arith, e, one))
none_lost (Some x ∷ es) e = let more = count_cons (Some x) es in none_lost es (omega (arith, e, more))

-- no fault is due where each job was started and each end is known
no_fault : (jobs : ℕ) (es : List (Option Ending)) → faults_in jobs es ≡ 0 → (count_by is_none es ≡ 0) × (length es ≡ jobs)
no_fault jobs es e = go (length es == jobs) refl e where
  go : (b : Bool) → (length es == jobs) ≡ b → count_by is_none es + (if b then 0 else 1) ≡ 0 → (count_by is_none es ≡ 0) × (length es ≡ jobs)
  go true is was = (omega (arith, was), (Decides-eqb (length es) jobs).0 is)
  go false is was = absurd (omega (arith, was))

all_found : (jobs : ℕ) (es : List (Option Ending)) (all : List Outcome) → all ≡ map found es ++ replicate (jobs - length es) not_started → length es ≡ jobs → all ≡ map found es
all_found jobs es all is each =
    let zero : jobs - length es ≡ 0 = omega (arith, each) in
    is ∙ ap (λ (n : ℕ). map found es ++ replicate n not_started) zero ∙ append-nil (map found es)

-- a fault that is due was counted
rose_by : (jobs old new : ℕ) (es : List (Option Ending)) → min (old + faults_in jobs es) (2 ^ 64 - 1) ≤ new → (faults_in jobs es ≡ 0) ⊎ Rose old new
rose_by jobs old new es le = elim (cases_Bool (faults_in jobs es == 0)) [
  | inl none ↦ inl ((Decides-eqb (faults_in jobs es) 0).0 none)
  | inr some ↦ inr (let other : faults_in jobs es ≡ 0 → ⊥ = λ e. not_both (faults_in jobs es == 0) some ((Decides-eqb (faults_in jobs es) 0).1 e) in omega (arith, other, le))
] where
  not_both : (b : Bool) → b ≡ false → b ≡ true → ⊥
  not_both b f t = let e : false ≡ true = sym f ∙ t in cc

-- ---- what a conclusion says

pub concluded : (all : List Outcome) (a b : Bool) → list_any is_lost all ≡ a → list_any is_ill_one all ≡ b → conclusion_of all ≡ (if a then Unknown else (if b then Ill else Well))
concluded all a b lost ill = λ j. if lost j then Unknown else (if ill j then Ill else Well)

not_unknown : (b : Bool) → (if b then Ill else Well) ≡ Unknown → ⊥
not_unknown true e = cc
not_unknown false e = cc

pub unknown_rose : (jobs : List Job) (old new : SpawnerState) (all : List Outcome) → Gathers jobs old new all → conclusion_of all ≡ Unknown → Rose old.faults new.faults
unknown_rose jobs old new all g unknown = elim (rose_by (length jobs) old.faults new.faults g.ends g.faults) [
  | inr rose ↦ rose
  | inl none ↦
      let both = no_fault (length jobs) g.ends none in
      let same = all_found (length jobs) g.ends all g.outcomes both.1 in
      let lost : list_any is_lost all ≡ false = ap (list_any is_lost) same ∙ none_lost g.ends both.0 in
      absurd (not_unknown (list_any is_ill_one all) (sym (concluded all false (list_any is_ill_one all) lost refl) ∙ unknown))
]

well_end : (e : Ending) → e.status ≡ 0 → is_ill (Some e) ≡ false
well_end e is = ap not ((Decides-eqb e.status 0).1 is)

none_ill : (ends : List Ending) (n : ℕ) (es : List (Option Ending)) → ((m : ℕ) → (end_of ends m).status ≡ 0) → AreEnds ends n es → list_any is_ill_one (map found es) ≡ false
none_ill ends n [] well are = refl
none_ill ends n (None ∷ es) well are = none_ill ends (n + 1) es well are.1
none_ill ends n (Some e ∷ es) well are =
    let zero : e.status ≡ 0 = ap (λ (x : Ending). x.status) are.0 ∙ well n in
    ap (λ (b : Bool). b || list_any is_ill_one (map found es)) (well_end e zero) ∙ none_ill ends (n + 1) es well are.1

pub all_well : (jobs : List Job) (old new : SpawnerState) (all : List Outcome) (children : Children) → Gathers jobs old new all → old.told ≡ Some children → ((m : ℕ) → (end_of children.ends m).status ≡ 0)
    → (Rose old.faults new.faults → ⊥) → conclusion_of all ≡ Well
all_well jobs old new all children g told well calm = elim (rose_by (length jobs) old.faults new.faults g.ends g.faults) [
  | inr rose ↦ absurd (calm rose)
  | inl none ↦
      let both = no_fault (length jobs) g.ends none in
      let same = all_found (length jobs) g.ends all g.outcomes both.1 in
      let lost : list_any is_lost all ≡ false = ap (list_any is_lost) same ∙ none_lost g.ends both.0 in
      let right : AreEnds children.ends (length children.started) g.ends = subst (λ (t : Option Children). IfSome t (λ c. AreEnds c.ends (length c.started) g.ends)) told g.right in
      let ill : list_any is_ill_one all ≡ false = ap (list_any is_ill_one) same ∙ none_ill children.ends (length children.started) g.ends well right in
      concluded all false false lost ill
]
