-- The line that a fault names is the first that isn't as stated.
use Rattle.std.proofs.Common.{◌≡◌, ℕ, zero, suc, ◌+◌, ◌-◌, ◌≤◌, List, [], ◌∷◌, ◌++◌, Bool, true, false, Option, None, Some, Result, Ok, Err, ◌⊎◌, inl, inr, codes, take, refl, sym, ap, ◌∙◌, subst, arith, if◌then◌else◌}
use Rattle.std.specs.Str.{bytes_eq}
use Rattle.ab_num.specs.declared.party.Party.{Party}
use Rattle.ab_num.specs.declared.plan.Scheme.{Scheme}
use Rattle.ab_text.specs.Heads.{spelled_in, lms_line, schemes}
use Rattle.ab_scheme.specs.Schemes.{public_length}
use Rattle.ab_key_text.specs.declared.fault.NodeFault.{NodeFault}
use Rattle.ab_key_text.specs.declared.fault.NodeFault.TheVariants.{BadLine, NoEnd}
use Rattle.ab_key_text.specs.Keys.{replicas}
use Rattle.ab_key_text.specs.Lines.{◌>>=◌, found_at, line_at, number_in, key_in}
use Rattle.ab_key_text.specs.Reading.{Read, ended, publics_at}
use Rattle.ab_audit_text.specs.Spelling.{IsAuditText, audit_lines}
use Rattle.ab_audit_text.specs.Texts.{AuditText, audit_in, audit_of, message_in, messages_at, name_in, with_message}
use Rattle.ab_audit_text.proofs.TextLemmas.{from2, from3, from4, spelled_reads}

abbrev Lines : Type 0
Lines = List (List ℕ)

abbrev Reading : Type 0 → Type 0
Reading B = Lines → Result B NodeFault

abbrev IsQuiet : {B : Type 0} → ℕ → Result B NodeFault → Type 0
IsQuiet {B} n r = (r ≡ Err (NoEnd n)) ⊎ ((b : B) × (r ≡ Ok b))

-- from line n on: a bad line is seen in the lines up to it, and in those before it nothing is bad
record IsFirst {B : Type 0} (r : Reading B) (n : ℕ) : Type 0 where
  late : (ls : Lines) (m : ℕ) → r ls ≡ Err (BadLine m) → n ≤ m
  sure : (ls more : Lines) (m : ℕ) → r ls ≡ Err (BadLine m) → r (take (m + 1 - n) ls ++ more) ≡ Err (BadLine m)
  before : (ls : Lines) (m k : ℕ) → r ls ≡ Err (BadLine m) → n + k ≤ m → IsQuiet (n + k) (r (take k ls))

same_line : {B : Type 0} (n m : ℕ) → ◌≡◌ {A = Result B NodeFault} (Err (BadLine n)) (Err (BadLine m)) → n ≡ m
same_line n m e = (let same : n ≡ m = cc in same)

ok_not_bad : {B : Type 0} (b : B) (n : ℕ) → ◌≡◌ {A = Result B NodeFault} (Ok b) (Err (BadLine n)) → ⊥
ok_not_bad b n e = cc

first_as : {B : Type 0} (r s : Reading B) (n : ℕ) → ((ls : Lines) → r ls ≡ s ls) → IsFirst s n → IsFirst r n
first_as {B} r s n same first = record {
  late = λ ls m e. first.late ls m (sym (same ls) ∙ e);
  sure = λ ls more m e. same (take (m + 1 - n) ls ++ more) ∙ first.sure ls more m (sym (same ls) ∙ e);
  before = λ ls m k e le. subst (λ (x : Result B NodeFault). IsQuiet (n + k) x) (sym (same (take k ls))) (first.before ls m k (sym (same ls) ∙ e) le);
}

more_taken : (l : List ℕ) (ls more : Lines) (j k : ℕ) → j ≡ suc k → take j (l ∷ ls) ++ more ≡ l ∷ (take k ls ++ more)
more_taken l ls more j k e = ap (λ i. take i (l ∷ ls) ++ more) e

assoc : {A B C : Type 0} (r : Result A NodeFault) (f : A → Result B NodeFault) (g : B → Result C NodeFault) → ((r >>= f) >>= g) ≡ (r >>= λ (x : A). f x >>= g)
assoc (Ok a) f g = refl
assoc (Err e) f g = refl

-- ---- a line, and what is read behind it

module _ {A B : Type 0} (read : List ℕ → Option A) (n : ℕ) (f : A → Reading B) (behind : (a : A) → IsFirst (f a) (n + 1)) where
  abbrev line_then : Reading B
  line_then ls = line_at read n ls >>= λ (x : A × Lines). f x.0 x.1

  late_line : (ls : Lines) (m : ℕ) (o : Option A) → (found_at n ls o >>= λ (x : A × Lines). f x.0 x.1) ≡ Err (BadLine m) → n ≤ m
  late_line ls m None e = let same = same_line {B = B} n m e in omega (arith, same)
  late_line ls m (Some a) e = let le = (behind a).late ls m e in omega (arith, le)

  sure_line : (ls tail : Lines) (m k : ℕ) (o : Option A) → k ≡ m + 1 - (n + 1) → (found_at n ls o >>= λ (x : A × Lines). f x.0 x.1) ≡ Err (BadLine m)
      → (found_at n (take k ls ++ tail) o >>= λ (x : A × Lines). f x.0 x.1) ≡ Err (BadLine m)
  sure_line ls tail m k None is e = e
  sure_line ls tail m k (Some a) is e = ap (λ i. f a (take i ls ++ tail)) is ∙ (behind a).sure ls tail m e

  before_line : (ls : Lines) (m k : ℕ) (o : Option A) → (found_at n ls o >>= λ (x : A × Lines). f x.0 x.1) ≡ Err (BadLine m) → n + suc k ≤ m
      → IsQuiet (n + suc k) (found_at n (take k ls) o >>= λ (x : A × Lines). f x.0 x.1)
  before_line ls m k None e le = absurd (let same = same_line {B = B} n m e in omega (arith, same, le))
  before_line ls m k (Some a) e le =
      let i : n + 1 + k ≡ n + suc k = omega arith in
      subst (λ j. IsQuiet j (f a (take k ls))) i ((behind a).before ls m k e (omega (arith, le)))

  line_first : IsFirst line_then n
  line_first = record {
    late = λ ls m e. late_at ls m e;
    sure = λ ls more m e. sure_at ls more m e;
    before = λ ls m k e le. before_at ls m k e le;
  } where
    late_at : (ls : Lines) (m : ℕ) → line_then ls ≡ Err (BadLine m) → n ≤ m
    late_at [] m e = absurd (cc)
    late_at (l ∷ ls) m e = late_line ls m (read l) e

    sure_at : (ls more : Lines) (m : ℕ) → line_then ls ≡ Err (BadLine m) → line_then (take (m + 1 - n) ls ++ more) ≡ Err (BadLine m)
    sure_at [] more m e = absurd (cc)
    sure_at (l ∷ ls) more m e =
        let le = late_line ls m (read l) e in
        let k = m + 1 - (n + 1) in
        ap line_then (more_taken l ls more (m + 1 - n) k (omega (arith, le))) ∙ sure_line ls more m k (read l) refl e

    before_at : (ls : Lines) (m k : ℕ) → line_then ls ≡ Err (BadLine m) → n + k ≤ m → IsQuiet (n + k) (line_then (take k ls))
    before_at [] m k e le = absurd (cc)
    before_at (l ∷ ls) m zero e le = inl (ap (λ j. let r : Result B NodeFault = Err (NoEnd j) in r) (let i : n ≡ n + 0 = omega arith in i))
    before_at (l ∷ ls) m (suc k) e le = before_line ls m k (read l) e le

publics_first : {B : Type 0} (long : ℕ) (K : Read Lines → Result B NodeFault) → ((keys : Lines) (n : ℕ) → IsFirst (λ ls. K (record { value = keys; next = n; rest = ls })) n)
    → (ps : List Party) (done : Lines) (n : ℕ) → IsFirst (λ ls. publics_at long ps done n ls >>= K) n
publics_first long K behind [] done n = behind done n
publics_first long K behind (p ∷ ps) done n =
    first_as _ _ n (λ ls. assoc (line_at (key_in (codes "public ") p long) n ls) (λ (y : List ℕ × Lines). publics_at long ps (done ++ y.0 ∷ []) (n + 1) y.1) K)
    (line_first (key_in (codes "public ") p long) n (λ key ls. publics_at long ps (done ++ key ∷ []) (n + 1) ls >>= K) (λ key. publics_first long K behind ps (done ++ key ∷ []) (n + 1)))

-- ---- the end, and the messages before it

ended_first : {A : Type 0} (a : A) (n : ℕ) → IsFirst (λ ls. ended a n ls) n
ended_first {A} a n = record { late = late_at; sure = sure_at; before = before_at } where
  late_at : (ls : Lines) (m : ℕ) → ended a n ls ≡ Err (BadLine m) → n ≤ m
  late_at [] m e = absurd (cc)
  late_at (l ∷ ls) m e = let same = same_line {B = A} n m e in omega (arith, same)

  sure_at : (ls more : Lines) (m : ℕ) → ended a n ls ≡ Err (BadLine m) → ended a n (take (m + 1 - n) ls ++ more) ≡ Err (BadLine m)
  sure_at [] more m e = absurd (cc)
  sure_at (l ∷ ls) more m e =
      let same = same_line {B = A} n m e in
      ap (ended a n) (more_taken l ls more (m + 1 - n) (m - n) (omega (arith, same))) ∙ e

  before_at : (ls : Lines) (m k : ℕ) → ended a n ls ≡ Err (BadLine m) → n + k ≤ m → IsQuiet (n + k) (ended a n (take k ls))
  before_at [] m k e le = absurd (cc)
  before_at (l ∷ ls) m zero e le = inr (a, refl)
  before_at (l ∷ ls) m (suc k) e le = absurd (let same = same_line {B = A} n m e in omega (arith, same, le))

-- a line that isn't the end
abbrev in_middle : AuditText → ℕ → Lines → Option (List ℕ) → Result AuditText NodeFault
in_middle t n ls o = found_at n ls o >>= λ (x : List ℕ × Lines). messages_at (with_message t x.0) (n + 1) ls

messages_late : (ls : Lines) (t : AuditText) (n m : ℕ) → messages_at t n ls ≡ Err (BadLine m) → n ≤ m
messages_late [] t n m e = absurd (cc)
messages_late (l ∷ ls) t n m e = go (λ c. messages_late ls (with_message t c) (n + 1) m) (bytes_eq l (codes "end")) (message_in l) e where
  go : ((c : List ℕ) → messages_at (with_message t c) (n + 1) ls ≡ Err (BadLine m) → n + 1 ≤ m) → (b : Bool) (o : Option (List ℕ)) → (if b then ended t (n + 1) ls else in_middle t n ls o) ≡ Err (BadLine m) → n ≤ m
  go rest true o was = let far = (ended_first t (n + 1)).late ls m was in omega (arith, far)
  go rest false None was = let same = same_line {B = AuditText} n m was in omega (arith, same)
  go rest false (Some c) was = let far = rest c was in omega (arith, far)

messages_sure : (ls more : Lines) (t : AuditText) (n m : ℕ) → messages_at t n ls ≡ Err (BadLine m) → messages_at t n (take (m + 1 - n) ls ++ more) ≡ Err (BadLine m)
messages_sure [] more t n m e = absurd (cc)
messages_sure (l ∷ ls) more t n m e =
    let far = messages_late (l ∷ ls) t n m e in
    let k = m + 1 - (n + 1) in
    ap (messages_at t n) (more_taken l ls more (m + 1 - n) k (omega (arith, far)))
    ∙ go (λ c. messages_sure ls more (with_message t c) (n + 1) m) (bytes_eq l (codes "end")) (message_in l) e
  where
    go : ((c : List ℕ) → messages_at (with_message t c) (n + 1) ls ≡ Err (BadLine m) → messages_at (with_message t c) (n + 1) (take (m + 1 - (n + 1)) ls ++ more) ≡ Err (BadLine m))
        → (b : Bool) (o : Option (List ℕ)) → (if b then ended t (n + 1) ls else in_middle t n ls o) ≡ Err (BadLine m)
        → (if b then ended t (n + 1) (take (m + 1 - (n + 1)) ls ++ more) else in_middle t n (take (m + 1 - (n + 1)) ls ++ more) o) ≡ Err (BadLine m)
    go rest true o was = (ended_first t (n + 1)).sure ls more m was
    go rest false None was = was
    go rest false (Some c) was = rest c was

messages_before : (ls : Lines) (t : AuditText) (n m k : ℕ) → messages_at t n ls ≡ Err (BadLine m) → n + k ≤ m → IsQuiet (n + k) (messages_at t n (take k ls))
messages_before [] t n m k e le = absurd (cc)
messages_before (l ∷ ls) t n m zero e le = inl (ap (λ j. let r : Result AuditText NodeFault = Err (NoEnd j) in r) (let i : n ≡ n + 0 = omega arith in i))
messages_before (l ∷ ls) t n m (suc k) e le =
    let i : n + 1 + k ≡ n + suc k = omega arith in
    subst (λ j. IsQuiet j (messages_at t n (l ∷ take k ls))) i (go (λ c was. messages_before ls (with_message t c) (n + 1) m k was (omega (arith, le))) (bytes_eq l (codes "end")) (message_in l) e)
  where
    go : ((c : List ℕ) → messages_at (with_message t c) (n + 1) ls ≡ Err (BadLine m) → IsQuiet (n + 1 + k) (messages_at (with_message t c) (n + 1) (take k ls)))
        → (b : Bool) (o : Option (List ℕ)) → (if b then ended t (n + 1) ls else in_middle t n ls o) ≡ Err (BadLine m)
        → IsQuiet (n + 1 + k) (if b then ended t (n + 1) (take k ls) else in_middle t n (take k ls) o)
    go rest true o was = (ended_first t (n + 1)).before ls m k was (omega (arith, le))
    go rest false None was = absurd (let same = same_line {B = AuditText} n m was in omega (arith, same, le))
    go rest false (Some c) was = rest c was

messages_first : (t : AuditText) (n : ℕ) → IsFirst (λ ls. messages_at t n ls) n
messages_first t n = record {
  late = λ ls m e. messages_late ls t n m e;
  sure = λ ls more m e. messages_sure ls more t n m e;
  before = λ ls m k e le. messages_before ls t n m k e le;
}

-- ---- all lines

first4 : (f : ℕ) (lms : Scheme) → IsFirst (λ ls. from4 f lms ls) 4
first4 f lms = publics_first (public_length lms) (λ (x : Read Lines). messages_at (audit_of f lms x.value []) x.next x.rest) (λ keys n. messages_first (audit_of f lms keys []) n) (replicas f) [] 4

text_first : IsFirst audit_in 1
unfolding audit_in
text_first =
    line_first name_in 1 (λ u ls. from2 ls)
    (λ u. line_first (number_in (codes "f ") 1 2) 2 (λ f ls. from3 f ls)
    (λ f. line_first (spelled_in lms_line schemes) 3 (λ lms ls. from4 f lms ls) (λ lms. first4 f lms)))

-- no text of an audit begins with the lines up to the bad one
pub none_begins : (ls more : Lines) (n : ℕ) (t : AuditText) → audit_in ls ≡ Err (BadLine n) → IsAuditText t → audit_lines t ≡ take n ls ++ more → ⊥
none_begins ls more n t bad good begins =
    let all : n + 1 - 1 ≡ n = omega arith in
    let again : audit_in (take n ls ++ more) ≡ Err (BadLine n) = ap (λ i. audit_in (take i ls ++ more)) (sym all) ∙ text_first.sure ls more n bad in
    let read : audit_in (take n ls ++ more) ≡ Ok t = ap audit_in (sym begins) ∙ spelled_reads t good in
    ok_not_bad t n (sym read ∙ again)

-- the lines before it have no fault but their end
pub quiet_before : (ls : Lines) (n : ℕ) → audit_in ls ≡ Err (BadLine n) → 1 ≤ n → (audit_in (take (n - 1) ls) ≡ Err (NoEnd n)) ⊎ ((t : AuditText) × (audit_in (take (n - 1) ls) ≡ Ok t))
quiet_before ls n bad some =
    let i : 1 + (n - 1) ≡ n = omega (arith, some) in
    subst (λ j. IsQuiet j (audit_in (take (n - 1) ls))) i (text_first.before ls n (n - 1) bad (omega (arith, some)))
