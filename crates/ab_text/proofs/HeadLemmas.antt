-- The head of a schedule, read and spelled.
use Rattle.std.proofs.Common.{◌≡◌, ℕ, ◌+◌, ◌<◌, ◌≤◌, ◌^◌, List, [], ◌∷◌, ◌++◌, Bool, true, false, Option, Some, None, Result, Ok, Err, find, codes, decimal, refl, sym, ap, ◌∙◌, inl, inr, nat_le, ◌&&◌, if◌then◌else◌, eqb, arith, subst, ◌⊎◌, zero, suc, All, replicate}
use Rattle.std.specs.List.{AllByRecursion}
use Rattle.std.specs.Option.{option_and_then}
use Rattle.std.specs.Prelude.{nat_eq}
use Rattle.std.specs.Str.{bytes_eq}
use Rattle.std.specs.Str.Parse.{digits_value}
use Rattle.std.proofs.lemmas.Bool.{cases_Bool, and_parts, leb-false, leb-true, le-leb, lt-leb}
use Rattle.std.proofs.lemmas.Bool.Decides.{Decides-eqb}
use Rattle.std.proofs.lemmas.List.Elements.{All-cons}
use Rattle.std.proofs.lemmas.Slice.Eq.{bytes_eq-Decides}
use Rattle.hex.specs.Hex.{encode_lower}
use Rattle.std.proofs.lemmas.Option.{same_Some, none-some}
use Rattle.ab_num.specs.Bounds.{IsInBounds}
use Rattle.ab_num.specs.declared.plan.Plan.{Plan}
use Rattle.ab_num.specs.declared.plan.Plan.TheVariants.{AZyzzyva, Aliph, Quorum, ZLight, Chain, Backup, ZCert}
use Rattle.ab_num.specs.declared.plan.ServiceName.{ServiceName}
use Rattle.ab_num.specs.declared.plan.ServiceName.TheVariants.{Echo, Kv}
use Rattle.ab_num.specs.declared.plan.Height.{Height}
use Rattle.ab_num.specs.declared.plan.Height.TheVariants.{Five, Ten}
use Rattle.ab_num.specs.declared.plan.Scheme.{Scheme}
use Rattle.ab_num.specs.declared.plan.Scheme.TheVariants.{Lms, Hss}
use Rattle.ab_text.specs.declared.fault.TextFault.{TextFault}
use Rattle.ab_text.specs.declared.fault.TextFault.TheVariants.{BadLine, NoEnd, NotBuilt, OutOfMemory}
use Rattle.ab_text.specs.declared.version.Version.{Version}
use Rattle.ab_text.specs.declared.version.Version.TheVariants.{One, Two, Three, Four}
use Rattle.ab_text.specs.HexBytes.{bytes_in}
use Rattle.ab_text.specs.Numbers.{number_of, is_number}
use Rattle.ab_text.specs.Heads.{◌>>=◌, Front, Script, number_at, number_after, number_in, stripped, within, spelled_in, taken, name_at, abstract_line, versions, plan_line, plans, service_line, services, lms_line, schemes_of, checkpoint_line, seed_line, no_seed, version_with, version_of, head_count, built, most_built, most_every, checkpoint_at, seed_in, seed_at, every_at, seed_with, head_at}
use Rattle.ab_text.specs.Spelling.{Allows, IsBuilt, IsSeed, Omits, head_lines, later_lines}
use Rattle.ab_text.proofs.HexLemmas.{bytes_were, read_bytes}
use Rattle.ab_text.proofs.WordLemmas.{stripped-is}
use Rattle.ab_text.proofs.NumberLemmas.{is_some_number}

pub bind_ok : {A B : Type 0} → (r : Result A TextFault) (f : A → Result B TextFault) (y : B) → (r >>= f) ≡ Ok y → (x : A) × (r ≡ Ok x) × (f x ≡ Ok y)
bind_ok (Ok x) f y h = (x, refl, h)
bind_ok (Err e) f y h = absurd (cc)

chosen : {A : Type 0} → (b : Bool) (x y : A) (e : TextFault) → (if b then Ok x else Err e) ≡ Ok y → (b ≡ true) × (x ≡ y)
chosen true x y e h = (refl, (let k : x ≡ y = cc in k))
chosen false x y e h = absurd (cc)

-- ---- what is read is spelled so

stripped_says : (ws l digits : List ℕ) → stripped ws l ≡ Some digits → l ≡ ws ++ digits
stripped_says [] l digits h = (let k : l ≡ digits = cc in k)
stripped_says (w ∷ ws) [] digits h = absurd (cc)
stripped_says (w ∷ ws) (b ∷ bs) digits h = elim (cases_Bool (eqb w b)) [
  | inl equal ↦
      let one : b ≡ w = sym ((Decides-eqb w b).0 equal) in
      let rest = stripped_says ws bs digits (sym (ap (λ t. if t then stripped ws bs else None) equal) ∙ h) in
      λ j. one j ∷ rest j
  | inr other ↦ absurd (let none : ◌≡◌ {A = Option (List ℕ)} None (Some digits) = sym (ap (λ t. if t then stripped ws bs else None) other) ∙ h in (cc))
]

number_says : (text : List ℕ) (k : ℕ) → number_of text ≡ Some k → text ≡ decimal k
unfolding number_of is_number
number_says text k h = elim (cases_Bool (is_number text)) [
  | inl yes' ↦
      let value : digits_value 10 text ≡ k = same_Some _ _ (sym (ap (λ b. if b then Some (digits_value 10 text) else None) yes') ∙ h) in
      (bytes_eq-Decides text (decimal (digits_value 10 text))).0 (and_parts _ _ yes').0 ∙ ap decimal value
  | inr no' ↦ absurd (none-some _ (sym (ap (λ b. if b then Some (digits_value 10 text) else None) no') ∙ h))
]

in_bounds : (low high n : ℕ) (ls rest : List (List ℕ)) (o : Option ℕ) (k : ℕ) → within low high n ls o ≡ Ok (k, rest) → (o ≡ Some k) × (ls ≡ rest) × (low ≤ k) × (k ≤ high)
in_bounds low high n ls rest None k h = absurd (cc)
in_bounds low high n ls rest (Some m) k h =
    let both = chosen (nat_le low m && nat_le m high) (m, ls) (k, rest) (BadLine n) h in
    let same : m ≡ k = ap (λ (p : ℕ × List (List ℕ)). p.0) both.1 in
    let tests = and_parts (nat_le low m) (nat_le m high) both.0 in
    let above : low ≤ m = leb-true low m tests.0 in
    let below : m ≤ high = leb-true m high tests.1 in
    (ap Some same, ap (λ (p : ℕ × List (List ℕ)). p.1) both.1, omega (arith, same, above), omega (arith, same, below))

after_says : (word : List ℕ) (o : Option (List ℕ)) (l : List ℕ) (k : ℕ) → stripped word l ≡ o → number_in o ≡ Some k → l ≡ word ++ decimal k
after_says word None l k is h = absurd (cc)
after_says word (Some digits) l k is h = stripped_says word l digits is ∙ ap (λ t. word ++ t) (number_says digits k h)

pub number_is : (word : List ℕ) (low high n : ℕ) (ls rest : List (List ℕ)) (k : ℕ) → number_at word low high n ls ≡ Ok (k, rest) → (ls ≡ (word ++ decimal k) ∷ rest) × (low ≤ k) × (k ≤ high)
number_is word low high n [] rest k h = absurd (cc)
number_is word low high n (l ∷ ls) rest k h =
    let all = in_bounds low high n ls rest (number_after word l) k h in
    let said = after_says word (stripped word l) l k refl all.0 in
    ((λ j. said j ∷ all.1 j), all.2, all.3)

found_says : {A : Type 0} (p : A → Bool) (xs : List A) (x : A) → find p xs ≡ Some x → p x ≡ true
found_says p [] x h = absurd (cc)
found_says p (y ∷ ys) x h = elim (cases_Bool (p y)) [
  | inl yes' ↦ (let same : y ≡ x = same_Some _ _ (sym (ap (λ b. if b then Some y else find p ys) yes') ∙ h) in ap p (sym same) ∙ yes')
  | inr no' ↦ found_says p ys x (sym (ap (λ b. if b then Some y else find p ys) no') ∙ h)
]

spelled_says : {A : Type 0} (spell : A → List ℕ) (all : List A) (l : List ℕ) (a : A) → spelled_in spell all l ≡ Some a → l ≡ spell a
unfolding spelled_in
spelled_says spell all l a h = (bytes_eq-Decides l (spell a)).0 (found_says (λ a. bytes_eq l (spell a)) all a h)

taken_says : {A : Type 0} (n : ℕ) (ls rest : List (List ℕ)) (o : Option A) (a : A) → taken n ls o ≡ Ok (a, rest) → (o ≡ Some a) × (ls ≡ rest)
taken_says n ls rest None a h = absurd (cc)
taken_says {A} n ls rest (Some b) a h =
    let both : ◌≡◌ {A = A × List (List ℕ)} (b, ls) (a, rest) = cc in
    (ap (λ (p : A × List (List ℕ)). Some p.0) both, ap (λ (p : A × List (List ℕ)). p.1) both)

pub name_is : {A : Type 0} (spell : A → List ℕ) (all : List A) (n : ℕ) (ls rest : List (List ℕ)) (a : A) → name_at spell all n ls ≡ Ok (a, rest) → ls ≡ spell a ∷ rest
name_is spell all n [] rest a h = absurd (cc)
name_is spell all n (l ∷ ls) rest a h =
    let parts = taken_says n ls rest (spelled_in spell all l) a h in
    let said = spelled_says spell all l a parts.0 in
    λ j. said j ∷ parts.1 j

-- what is found has what all have
found_has : {A : Type 0} (P : A → Type 0) (p : A → Bool) (xs : List A) (x : A) → AllByRecursion P xs → find p xs ≡ Some x → P x
found_has P p [] x all h = absurd (cc)
found_has P p (y ∷ ys) x all h = elim (cases_Bool (p y)) [
  | inl yes' ↦ subst P (same_Some _ _ (sym (ap (λ b. if b then Some y else find p ys) yes') ∙ h)) all.0
  | inr no' ↦ found_has P p ys x all.1 (sym (ap (λ b. if b then Some y else find p ys) no') ∙ h)
]

pub spelled_has : {A : Type 0} (P : A → Type 0) (spell : A → List ℕ) (all : List A) (l : List ℕ) (a : A) → AllByRecursion P all → spelled_in spell all l ≡ Some a → P a
unfolding spelled_in
spelled_has P spell all l a each h = found_has P (λ a. bytes_eq l (spell a)) all a each h

name_has : {A : Type 0} (P : A → Type 0) (spell : A → List ℕ) (all : List A) (n : ℕ) (ls rest : List (List ℕ)) (a : A) → AllByRecursion P all → name_at spell all n ls ≡ Ok (a, rest) → P a
name_has P spell all n [] rest a each h = absurd (cc)
name_has P spell all n (l ∷ ls) rest a each h = spelled_has P spell all l a each (taken_says n ls rest (spelled_in spell all l) a h).0

allowed : (w : Version) → AllByRecursion (Allows w) (schemes_of w)
allowed One = (tt, (tt, tt))
allowed Two = (tt, (tt, (tt, tt)))
allowed Three = (tt, (tt, (tt, tt)))
allowed Four = (tt, (tt, (tt, tt)))

-- the scheme that a schedule of this version names
pub scheme_allowed : (w : Version) (n : ℕ) (ls rest : List (List ℕ)) (h : Scheme) → name_at lms_line (schemes_of w) n ls ≡ Ok (h, rest) → Allows w h
scheme_allowed w n ls rest h is = name_has (Allows w) lms_line (schemes_of w) n ls rest h (allowed w) is

-- the head from each of its lines on
abbrev pub Rest : Type 0
Rest = List (List ℕ)

abbrev pub Read : Type 0
Read = Result Front TextFault

abbrev pub script : ℕ → Plan → ℕ → ServiceName → Scheme → ℕ → List ℕ → Script
script f p c v h e x = record { f = f; clients = c; plan = p; service = v; lms = h; every = e; seed = x; faulty = []; events = [] }

abbrev pub front : Version → Script → Rest → Front
front w s ls = record { script = s; next = head_count w + 1; rest = ls }

abbrev pub from8 : Version → ℕ → Plan → ℕ → ServiceName → Scheme → ℕ → Rest → Read
from8 w f p c v h e ls = seed_with w ls >>= λ (x : List ℕ × Rest). Ok (front w (script f p c v h e x.0) x.1)

abbrev pub from7 : Version → ℕ → Plan → ℕ → ServiceName → Scheme → Rest → Read
from7 w f p c v h ls = every_at w p ls >>= λ (x : ℕ × Rest). from8 w f p c v h x.0 x.1

abbrev pub from6 : Version → ℕ → Plan → ℕ → ServiceName → Rest → Read
from6 w f p c v ls = name_at lms_line (schemes_of w) 6 ls >>= λ (x : Scheme × Rest). from7 w f p c v x.0 x.1

abbrev pub from5 : Version → ℕ → Plan → ℕ → Rest → Read
from5 w f p c ls = name_at service_line services 5 ls >>= λ (x : ServiceName × Rest). from6 w f p c x.0 x.1

abbrev pub from4 : Version → ℕ → Plan → Rest → Read
from4 w f p ls = number_at (codes "clients ") 1 16 4 ls >>= λ (x : ℕ × Rest). from5 w f p x.0 x.1

abbrev pub from3 : Version → ℕ → Rest → Read
from3 w f ls = name_at plan_line plans 3 ls >>= λ (x : Plan × Rest). from4 w f x.0 x.1

abbrev pub from2 : Version → Rest → Read
from2 w ls = number_at (codes "f ") 1 2 2 ls >>= λ (x : ℕ × Rest). from3 w x.0 x.1

-- ---- the first six lines

-- six lines in their form lead to this
abbrev Passes : {A : Type 0} → Result A TextFault → Type 0
Passes (Ok x) = Unit {0}
Passes (Err (NotBuilt n)) = Unit {0}
Passes (Err (BadLine n)) = ⊥
Passes (Err (NoEnd n)) = ⊥
Passes (Err OutOfMemory) = ⊥

-- a line that was read, or is out of form or missing
abbrev IsPlain : {A : Type 0} → Result A TextFault → Type 0
IsPlain (Ok x) = Unit {0}
IsPlain (Err (NotBuilt n)) = ⊥
IsPlain (Err (BadLine n)) = Unit {0}
IsPlain (Err (NoEnd n)) = Unit {0}
IsPlain (Err OutOfMemory) = Unit {0}

plain_within : (low high n : ℕ) (ls : Rest) (o : Option ℕ) → IsPlain (within low high n ls o)
plain_within low high n ls None = tt
plain_within low high n ls (Some k) = by (nat_le low k && nat_le k high)
  where
    by : (b : Bool) → IsPlain {A = ℕ × Rest} (if b then Ok (k, ls) else Err (BadLine n))
    by true = tt
    by false = tt

plain_number : (word : List ℕ) (low high n : ℕ) (ls : Rest) → IsPlain (number_at word low high n ls)
plain_number word low high n [] = tt
plain_number word low high n (l ∷ ls) = plain_within low high n ls (number_after word l)

plain_taken : {A : Type 0} (n : ℕ) (ls : Rest) (o : Option A) → IsPlain (taken n ls o)
plain_taken n ls None = tt
plain_taken n ls (Some a) = tt

plain_name : {A : Type 0} (spell : A → List ℕ) (all : List A) (n : ℕ) (ls : Rest) → IsPlain (name_at spell all n ls)
plain_name spell all n [] = tt
plain_name spell all n (l ∷ ls) = plain_taken n ls (spelled_in spell all l)

-- behind a plain line
behind : {A : Type 0} (r : Result A TextFault) (f : A → Read) (o : Read) → IsPlain r → Passes o → (r >>= f) ≡ o → (x : A) × (r ≡ Ok x) × (f x ≡ o)
behind (Ok x) f o plain passes h = (x, refl, h)
behind (Err (NotBuilt n)) f o plain passes h = absurd plain
behind (Err (BadLine n)) f o plain passes h = absurd (subst Passes (sym h) passes)
behind (Err (NoEnd n)) f o plain passes h = absurd (subst Passes (sym h) passes)
behind (Err OutOfMemory) f o plain passes h = absurd (subst Passes (sym h) passes)

abbrev pub tail4 : ℕ → ServiceName → Scheme → Rest → Rest
tail4 c v h rest = (codes "clients " ++ decimal c) ∷ service_line v ∷ lms_line h ∷ rest

abbrev pub first_lines : Version → ℕ → Plan → ℕ → ServiceName → Scheme → Rest → Rest
first_lines w f p c v h rest = abstract_line w ∷ (codes "f " ++ decimal f) ∷ plan_line p ∷ tail4 c v h rest

-- after six lines in their form the rest gives this
pub record HasSix (o : Read) (ls : Rest) : Type 0 where
  pub version : Version
  pub f : ℕ
  pub plan : Plan
  pub clients : ℕ
  pub service : ServiceName
  pub lms : Scheme
  pub rest : Rest
  pub allows : Allows version lms
  pub bounds : IsInBounds f clients
  pub lines : ls ≡ first_lines version f plan clients service lms rest
  pub gives : from7 version f plan clients service lms rest ≡ o

pub has_six : (o : Read) (ls : Rest) → Passes o → head_at ls ≡ o → HasSix o ls
unfolding head_at
has_six o ls passes e =
    let a = behind (name_at abstract_line versions 1 ls) (λ (x : Version × Rest). from2 x.0 x.1) o (plain_name abstract_line versions 1 ls) passes e in
    let w = a.0.0 in
    let b = behind (number_at (codes "f ") 1 2 2 a.0.1) (λ (x : ℕ × Rest). from3 w x.0 x.1) o (plain_number (codes "f ") 1 2 2 a.0.1) passes a.2 in
    let f = b.0.0 in
    let c = behind (name_at plan_line plans 3 b.0.1) (λ (x : Plan × Rest). from4 w f x.0 x.1) o (plain_name plan_line plans 3 b.0.1) passes b.2 in
    let p = c.0.0 in
    let d = behind (number_at (codes "clients ") 1 16 4 c.0.1) (λ (x : ℕ × Rest). from5 w f p x.0 x.1) o (plain_number (codes "clients ") 1 16 4 c.0.1) passes c.2 in
    let n = d.0.0 in
    let g = behind (name_at service_line services 5 d.0.1) (λ (x : ServiceName × Rest). from6 w f p n x.0 x.1) o (plain_name service_line services 5 d.0.1) passes d.2 in
    let v = g.0.0 in
    let k = behind (name_at lms_line (schemes_of w) 6 g.0.1) (λ (x : Scheme × Rest). from7 w f p n v x.0 x.1) o (plain_name lms_line (schemes_of w) 6 g.0.1) passes g.2 in
    let two = number_is (codes "f ") 1 2 2 a.0.1 b.0.1 f b.1 in
    let four = number_is (codes "clients ") 1 16 4 c.0.1 d.0.1 n d.1 in
    let six = name_is lms_line (schemes_of w) 6 g.0.1 k.0.1 k.0.0 k.1 in
    let five = name_is service_line services 5 d.0.1 g.0.1 v g.1 ∙ ap (λ t. service_line v ∷ t) six in
    let three = name_is plan_line plans 3 b.0.1 c.0.1 p c.1 ∙ ap (λ t. plan_line p ∷ t) (four.0 ∙ ap (λ t. (codes "clients " ++ decimal n) ∷ t) five) in
    record {
      version = w;
      f = f;
      plan = p;
      clients = n;
      service = v;
      lms = k.0.0;
      rest = k.0.1;
      allows = scheme_allowed w 6 g.0.1 k.0.1 k.0.0 k.1;
      bounds = record { some_faulty = two.1; few_faulty = two.2; some_client = four.1; few_clients = four.2 };
      lines = name_is abstract_line versions 1 ls a.0.1 w a.1 ∙ ap (λ t. abstract_line w ∷ t) (two.0 ∙ ap (λ t. (codes "f " ++ decimal f) ∷ t) three);
      gives = k.2;
    }

-- ---- the later lines

built_says : (plan : Plan) (n : ℕ) (p q : ℕ × Rest) → built plan n p ≡ Ok q → (p ≡ q) × (q.0 ≤ most_built plan)
built_says plan n p q h =
    let both = chosen (nat_le p.0 (most_built plan)) p q (NotBuilt n) h in
    (both.1, subst (λ (x : ℕ × Rest). x.0 ≤ most_built plan) both.1 (leb-true p.0 (most_built plan) both.0))

unbuilt_says : (plan : Plan) (n m : ℕ) (p : ℕ × Rest) → built plan n p ≡ Err (NotBuilt m) → (most_built plan < p.0) × (m ≡ n)
unbuilt_says plan n m p h = elim (cases_Bool (nat_le p.0 (most_built plan))) [
  | inl few ↦ absurd (let e : ◌≡◌ {A = Result (ℕ × Rest) TextFault} (Ok p) (Err (NotBuilt m)) = sym (ap (λ b. if b then Ok p else Err (NotBuilt n)) few) ∙ h in cc)
  | inr some ↦ (
    leb-false p.0 (most_built plan) some,
    let e : ◌≡◌ {A = Result (ℕ × Rest) TextFault} (Err (NotBuilt n)) (Err (NotBuilt m)) = sym (ap (λ b. if b then Ok p else Err (NotBuilt n)) some) ∙ h in (let k : m ≡ n = cc in k),
  )
]

-- the line of checkpoints, which asks for what is built
pub checkpoint_is : (p : Plan) (ls rest : Rest) (e : ℕ) → checkpoint_at p ls ≡ Ok (e, rest) → (ls ≡ checkpoint_line e ∷ rest) × (e ≤ most_built p)
checkpoint_is p ls rest e h =
    let b = bind_ok (number_at (codes "checkpoint ") 0 (most_every p) 7 ls) (built p 7) (e, rest) h in
    let said = built_says p 7 b.0 (e, rest) b.2 in
    ((number_is (codes "checkpoint ") 0 (most_every p) 7 ls rest e (b.1 ∙ ap (λ (x : ℕ × Rest). let r : Result (ℕ × Rest) TextFault = Ok x in r) said.0)).0, said.1)

-- the line of checkpoints, which asks for more than what is built
pub record AsksCheckpoints (p : Plan) (n : ℕ) (ls : Rest) : Type 0 where
  pub every : ℕ
  pub rest : Rest
  pub lines : ls ≡ checkpoint_line every ∷ rest
  pub more : most_built p < every
  pub few : every ≤ most_every p
  pub seventh : n ≡ 7

checkpoints_asked : (p : Plan) (ls : Rest) (n : ℕ) → checkpoint_at p ls ≡ Err (NotBuilt n) → AsksCheckpoints p n ls
checkpoints_asked p ls n h = by (number_at (codes "checkpoint ") 0 (most_every p) 7 ls) refl (plain_number (codes "checkpoint ") 0 (most_every p) 7 ls) h
  where
    by : (r : Result (ℕ × Rest) TextFault) → number_at (codes "checkpoint ") 0 (most_every p) 7 ls ≡ r → IsPlain r → (r >>= built p 7) ≡ Err (NotBuilt n) → AsksCheckpoints p n ls
    by (Ok (e, rest)) is plain k =
        let said = unbuilt_says p 7 n (e, rest) k in
        let asks = number_is (codes "checkpoint ") 0 (most_every p) 7 ls rest e is in
        record { every = e; rest = rest; lines = asks.0; more = said.0; few = asks.2; seventh = said.1 }
    by (Err (NotBuilt m)) is plain k = absurd plain
    by (Err (BadLine m)) is plain k = absurd (cc)
    by (Err (NoEnd m)) is plain k = absurd (cc)
    by (Err OutOfMemory) is plain k = absurd (cc)

seed_says : (l x : List ℕ) → seed_in l ≡ Some x → (l ≡ seed_line x) × IsSeed x
seed_says l x h = by (stripped (codes "seed ") l) refl h
  where
    by : (o : Option (List ℕ)) → stripped (codes "seed ") l ≡ o → option_and_then (bytes_in 32) o ≡ Some x → (l ≡ seed_line x) × IsSeed x
    by None is k = absurd (none-some _ k)
    by (Some digits) is k =
        let were = bytes_were 32 digits x k in
        (stripped_says (codes "seed ") l digits is ∙ ap (λ t. codes "seed " ++ t) were.0, record { long = were.1; small = were.2 })

pub seed_is : (ls rest : Rest) (x : List ℕ) → seed_at ls ≡ Ok (x, rest) → (ls ≡ seed_line x ∷ rest) × IsSeed x
seed_is [] rest x h = absurd (cc)
seed_is (l ∷ ls) rest x h =
    let parts = taken_says 8 ls rest (seed_in l) x h in
    let said = seed_says l x parts.0 in
    let line = said.0 in
    let more = parts.1 in
    (λ j. line j ∷ more j, said.1)

zeros_small : (n : ℕ) → All (λ b. b < 256) (replicate n 0)
zeros_small zero = λ k d lt. absurd (omega arith)
zeros_small (suc n) = All-cons (λ b. b < 256) 0 (replicate n 0) (omega arith) (zeros_small n)

pub IsSeed-none : IsSeed no_seed
IsSeed-none = record { long = refl; small = zeros_small 32 }

same_front : (w : Version) (s : Script) (r : Rest) (x : Front) → ◌≡◌ {A = Read} (Ok (front w s r)) (Ok x) → front w s r ≡ x
same_front w s r x e = cc

-- a head that was read, and the lines after it
pub record IsHead (x : Front) (ls : List (List ℕ)) : Type 0 where
  pub version : Version
  pub allows : Allows version x.script.lms
  pub omits : Omits version x.script
  pub lines : ls ≡ head_lines version x.script ++ x.rest
  pub bounds : IsInBounds x.script.f x.script.clients
  pub built : IsBuilt x.script
  pub seed : IsSeed x.script.seed
  pub faulty : x.script.faulty ≡ []
  pub events : x.script.events ≡ []

-- six lines and the later ones
whole_head : (x : Front) (ls : Rest) (six : HasSix (Ok x) ls) → IsHead x ls
whole_head x ls six = by six.version six.allows six.lines six.gives
  where
    f : ℕ
    f = six.f

    p : Plan
    p = six.plan

    c : ℕ
    c = six.clients

    v : ServiceName
    v = six.service

    h : Scheme
    h = six.lms

    plain : (w : Version) (rest : Rest) → Allows w h → Omits w (script f p c v h 0 no_seed) → ls ≡ first_lines w f p c v h rest → later_lines w 0 no_seed ≡ [] → front w (script f p c v h 0 no_seed) rest ≡ x → IsHead x ls
    plain w rest allows omits lines none same = subst (λ y. IsHead y ls) same (record {
      version = w;
      allows = allows;
      omits = omits;
      lines = lines ∙ ap (λ t. first_lines w f p c v h (t ++ rest)) (sym none);
      bounds = six.bounds;
      built = omega arith;
      seed = IsSeed-none;
      faulty = refl;
      events = refl;
    })

    by : (w : Version) → Allows w h → ls ≡ first_lines w f p c v h six.rest → from7 w f p c v h six.rest ≡ Ok x → IsHead x ls
    by One allows lines gives = plain One six.rest allows (refl, refl) lines refl (same_front One _ six.rest x gives)
    by Two allows lines gives = plain Two six.rest allows (refl, refl) lines refl (same_front Two _ six.rest x gives)
    by Three allows lines gives =
        let b = bind_ok (checkpoint_at p six.rest) (λ (y : ℕ × Rest). from8 Three f p c v h y.0 y.1) x gives in
        let seven = checkpoint_is p six.rest b.0.1 b.0.0 b.1 in
        subst (λ y. IsHead y ls) (same_front Three _ b.0.1 x b.2) (record {
          version = Three;
          allows = allows;
          omits = refl;
          lines = lines ∙ ap (λ t. first_lines Three f p c v h t) seven.0;
          bounds = six.bounds;
          built = seven.1;
          seed = IsSeed-none;
          faulty = refl;
          events = refl;
        })
    by Four allows lines gives =
        let b = bind_ok (checkpoint_at p six.rest) (λ (y : ℕ × Rest). from8 Four f p c v h y.0 y.1) x gives in
        let seven = checkpoint_is p six.rest b.0.1 b.0.0 b.1 in
        let g = bind_ok (seed_at b.0.1) (λ (y : List ℕ × Rest). Ok (front Four (script f p c v h b.0.0 y.0) y.1)) x b.2 in
        let eight = seed_is b.0.1 g.0.1 g.0.0 g.1 in
        subst (λ y. IsHead y ls) (same_front Four _ g.0.1 x g.2) (record {
          version = Four;
          allows = allows;
          omits = tt;
          lines = lines ∙ ap (λ t. first_lines Four f p c v h t) (seven.0 ∙ ap (λ t. checkpoint_line b.0.0 ∷ t) eight.0);
          bounds = six.bounds;
          built = seven.1;
          seed = eight.1;
          faulty = refl;
          events = refl;
        })

pub head_is : (ls : List (List ℕ)) (x : Front) → head_at ls ≡ Ok x → IsHead x ls
head_is ls x e = whole_head x ls (has_six (Ok x) ls tt e)

-- six lines, and the one that asks for checkpoints, in a version that has it
pub record IsUnbuilt (n : ℕ) (ls : Rest) : Type 0 where
  pub six : HasSix (Err (NotBuilt n)) ls
  pub asks : AsksCheckpoints six.plan n six.rest
  pub later : (six.version ≡ Three) ⊎ (six.version ≡ Four)

plain_seed : (ls : Rest) → IsPlain (seed_at ls)
plain_seed [] = tt
plain_seed (l ∷ ls) = plain_taken 8 ls (seed_in l)

unbuilt_later : (w : Version) (f : ℕ) (p : Plan) (c : ℕ) (v : ServiceName) (h : Scheme) (n : ℕ) (ls : Rest) → from7 w f p c v h ls ≡ Err (NotBuilt n) → AsksCheckpoints p n ls × ((w ≡ Three) ⊎ (w ≡ Four))
unbuilt_later One f p c v h n ls e = absurd (cc)
unbuilt_later Two f p c v h n ls e = absurd (cc)
unbuilt_later Three f p c v h n ls e = by (checkpoint_at p ls) refl e
  where
    by : (r : Result (ℕ × Rest) TextFault) → checkpoint_at p ls ≡ r → (r >>= λ (x : ℕ × Rest). from8 Three f p c v h x.0 x.1) ≡ Err (NotBuilt n) → AsksCheckpoints p n ls × ((Three ≡ Three) ⊎ (Three ≡ Four))
    by (Ok x) is k = absurd (cc)
    by (Err d) is k = (checkpoints_asked p ls n (is ∙ (let same : ◌≡◌ {A = Result (ℕ × Rest) TextFault} (Err d) (Err (NotBuilt n)) = cc in same)), inl refl)
unbuilt_later Four f p c v h n ls e = by (checkpoint_at p ls) refl e
  where
    after : (k : ℕ) (rest : Rest) (r : Result (List ℕ × Rest) TextFault) → IsPlain r → (r >>= λ (x : List ℕ × Rest). Ok (front Four (script f p c v h k x.0) x.1)) ≡ Err (NotBuilt n) → ⊥
    after k rest (Ok x) plain g = cc
    after k rest (Err (NotBuilt m)) plain g = plain
    after k rest (Err (BadLine m)) plain g = cc
    after k rest (Err (NoEnd m)) plain g = cc
    after k rest (Err OutOfMemory) plain g = cc

    by : (r : Result (ℕ × Rest) TextFault) → checkpoint_at p ls ≡ r → (r >>= λ (x : ℕ × Rest). from8 Four f p c v h x.0 x.1) ≡ Err (NotBuilt n) → AsksCheckpoints p n ls × ((Four ≡ Three) ⊎ (Four ≡ Four))
    by (Ok (k, rest)) is g = absurd (after k rest (seed_at rest) (plain_seed rest) g)
    by (Err d) is k = (checkpoints_asked p ls n (is ∙ (let same : ◌≡◌ {A = Result (ℕ × Rest) TextFault} (Err d) (Err (NotBuilt n)) = cc in same)), inr refl)

pub unbuilt_head : (ls : Rest) (n : ℕ) → head_at ls ≡ Err (NotBuilt n) → IsUnbuilt n ls
unbuilt_head ls n e =
    let six = has_six (Err (NotBuilt n)) ls tt e in
    let both = unbuilt_later six.version six.f six.plan six.clients six.service six.lms n six.rest six.gives in
    record { six = six; asks = both.0; later = both.1 }

-- ---- what is spelled so is read

number_reads : (word : List ℕ) (low high n : ℕ) (ls : Rest) (k : ℕ) → low ≤ k → k ≤ high → k < 2 ^ 64 → number_at word low high n ((word ++ decimal k) ∷ ls) ≡ Ok (k, ls)
number_reads word low high n ls k above below small =
    ap (λ o. within low high n ls (number_in o)) (stripped-is word (word ++ decimal k) (decimal k) refl)
    ∙ ap (within low high n ls) (is_some_number (decimal k) k small refl)
    ∙ (λ j. if le-leb low k above j && le-leb k high below j then Ok (k, ls) else Err (BadLine n))

name_reads : {A : Type 0} (spell : A → List ℕ) (all : List A) (n : ℕ) (ls : Rest) (a : A) → spelled_in spell all (spell a) ≡ Some a → name_at spell all n (spell a ∷ ls) ≡ Ok (a, ls)
name_reads spell all n ls a e = ap (taken n ls) e

version_read : (w : Version) → spelled_in abstract_line versions (abstract_line w) ≡ Some w
unfolding spelled_in
version_read One = refl
version_read Two = refl
version_read Three = refl
version_read Four = refl

pub plan_read : (p : Plan) → spelled_in plan_line plans (plan_line p) ≡ Some p
unfolding spelled_in
plan_read AZyzzyva = refl
plan_read Aliph = refl
plan_read Quorum = refl
plan_read ZLight = refl
plan_read Chain = refl
plan_read Backup = refl
plan_read ZCert = refl

pub service_read : (v : ServiceName) → spelled_in service_line services (service_line v) ≡ Some v
unfolding spelled_in
service_read Echo = refl
service_read Kv = refl

pub scheme_read : (w : Version) (h : Scheme) → Allows w h → spelled_in lms_line (schemes_of w) (lms_line h) ≡ Some h
unfolding spelled_in
scheme_read One (Lms Five) allows = refl
scheme_read One (Lms Ten) allows = refl
scheme_read One Hss allows = absurd allows
scheme_read Two (Lms Five) allows = refl
scheme_read Two (Lms Ten) allows = refl
scheme_read Two Hss allows = refl
scheme_read Three (Lms Five) allows = refl
scheme_read Three (Lms Ten) allows = refl
scheme_read Three Hss allows = refl
scheme_read Four (Lms Five) allows = refl
scheme_read Four (Lms Ten) allows = refl
scheme_read Four Hss allows = refl

-- each version allows one level
pub allows_one : (w : Version) (h : Height) → Allows w (Lms h)
allows_one w h = tt

-- and no checkpoints, with no seed
pub omits_none : (w : Version) (f : ℕ) (p : Plan) (c : ℕ) (v : ServiceName) (h : Scheme) → Omits w (script f p c v h 0 no_seed)
omits_none One f p c v h = (refl, refl)
omits_none Two f p c v h = (refl, refl)
omits_none Three f p c v h = refl
omits_none Four f p c v h = tt

abbrev Goes : Script → Version → Type 0
Goes s w = Allows w s.lms × Omits w s

allows_with : (h : Scheme) → Allows (version_with h) h
allows_with (Lms h) = tt
allows_with Hss = tt

omits_with : (h : Scheme) (s : Script) → s.every ≡ 0 → s.seed ≡ no_seed → Omits (version_with h) s
omits_with (Lms h) s none zeros = (none, zeros)
omits_with Hss s none zeros = (none, zeros)

allows_after : (h : Scheme) → Allows Three h × Allows Four h
allows_after (Lms h) = (tt, tt)
allows_after Hss = (tt, tt)

-- the least version goes with the schedule
pub goes_least : (s : Script) → Allows (version_of s) s.lms × Omits (version_of s) s
goes_least s = elim (cases_Bool (bytes_eq s.seed no_seed)) [
  | inr seeded ↦
      let is : version_of s ≡ Four = ap (λ b. if b then if nat_eq s.every 0 then version_with s.lms else Three else Four) seeded in
      subst (Goes s) (sym is) ((allows_after s.lms).1, tt)
  | inl zeros ↦
      let none : s.seed ≡ no_seed = (bytes_eq-Decides s.seed no_seed).0 zeros in
      elim (cases_Bool (nat_eq s.every 0)) [
        | inl never ↦
            let is : version_of s ≡ version_with s.lms = (λ j. if zeros j then if never j then version_with s.lms else Three else Four) in
            subst (Goes s) (sym is) (allows_with s.lms, omits_with s.lms s ((Decides-eqb s.every 0).0 never) none)
        | inr some ↦
            let is : version_of s ≡ Three = (λ j. if zeros j then if some j then version_with s.lms else Three else Four) in
            subst (Goes s) (sym is) ((allows_after s.lms).0, none)
      ]
]

six_read : (w : Version) (f : ℕ) (p : Plan) (c : ℕ) (v : ServiceName) (h : Scheme) (rest : Rest) → IsInBounds f c → Allows w h → head_at (first_lines w f p c v h rest) ≡ from7 w f p c v h rest
unfolding head_at
six_read w f p c v h rest bounds allows =
    let f_low = bounds.some_faulty in
    let f_high = bounds.few_faulty in
    let c_low = bounds.some_client in
    let c_high = bounds.few_clients in
    let rest4 = tail4 c v h rest in
    let rest5 = service_line v ∷ lms_line h ∷ rest in
    ap (λ (r : Result (Version × Rest) TextFault). r >>= λ (x : Version × Rest). from2 x.0 x.1) (name_reads abstract_line versions 1 ((codes "f " ++ decimal f) ∷ plan_line p ∷ rest4) w (version_read w))
    ∙ ap (λ (r : Result (ℕ × Rest) TextFault). r >>= λ (x : ℕ × Rest). from3 w x.0 x.1) (number_reads (codes "f ") 1 2 2 (plan_line p ∷ rest4) f f_low f_high (omega (arith, f_high)))
    ∙ ap (λ (r : Result (Plan × Rest) TextFault). r >>= λ (x : Plan × Rest). from4 w f x.0 x.1) (name_reads plan_line plans 3 rest4 p (plan_read p))
    ∙ ap (λ (r : Result (ℕ × Rest) TextFault). r >>= λ (x : ℕ × Rest). from5 w f p x.0 x.1) (number_reads (codes "clients ") 1 16 4 rest5 c c_low c_high (omega (arith, c_high)))
    ∙ ap (λ (r : Result (ServiceName × Rest) TextFault). r >>= λ (x : ServiceName × Rest). from6 w f p c x.0 x.1) (name_reads service_line services 5 (lms_line h ∷ rest) v (service_read v))
    ∙ ap (λ (r : Result (Scheme × Rest) TextFault). r >>= λ (x : Scheme × Rest). from7 w f p c v x.0 x.1) (name_reads lms_line (schemes_of w) 6 rest h (scheme_read w h allows))

pub most_few : (p : Plan) → most_every p ≤ 128
most_few ZCert = omega arith
most_few p = omega arith

-- what is built is among what may be asked for
pub built_dense : (p : Plan) (e : ℕ) → e ≤ most_built p → e ≤ most_every p
built_dense ZCert e few = few
built_dense Quorum e few = few
built_dense ZLight e few = few
built_dense Chain e few = few
built_dense p e few = omega (arith, few)

checkpoint_read : (p : Plan) (e : ℕ) (ls : Rest) → e ≤ most_every p → checkpoint_at p (checkpoint_line e ∷ ls) ≡ built p 7 (e, ls)
checkpoint_read p e ls few =
    let most = most_few p in
    ap (λ (r : Result (ℕ × Rest) TextFault). r >>= built p 7) (number_reads (codes "checkpoint ") 0 (most_every p) 7 ls e (omega arith) few (omega (arith, few, most)))

built_read : (p : Plan) (e : ℕ) (ls : Rest) → e ≤ most_built p → checkpoint_at p (checkpoint_line e ∷ ls) ≡ Ok (e, ls)
built_read p e ls few = checkpoint_read p e ls (built_dense p e few) ∙ ap (λ b. if b then Ok (e, ls) else Err (NotBuilt 7)) (le-leb e (most_built p) few)

unbuilt_refused : (p : Plan) (e : ℕ) (ls : Rest) → most_built p < e → e ≤ most_every p → checkpoint_at p (checkpoint_line e ∷ ls) ≡ Err (NotBuilt 7)
unbuilt_refused p e ls more few = checkpoint_read p e ls few ∙ ap (λ b. if b then Ok (e, ls) else Err (NotBuilt 7)) (lt-leb e (most_built p) more)

seed_read : (x : List ℕ) (ls : Rest) → IsSeed x → seed_at (seed_line x ∷ ls) ≡ Ok (x, ls)
seed_read x ls good = ap (λ o. taken 8 ls (option_and_then (bytes_in 32) o)) (stripped-is (codes "seed ") (seed_line x) (encode_lower x) refl) ∙ ap (taken 8 ls) (read_bytes 32 x good.long good.small)

abbrev script_at : Script → Script
script_at s = script s.f s.plan s.clients s.service s.lms s.every s.seed

later_read : (w : Version) (s : Script) (rest : Rest) → Omits w s → IsBuilt s → IsSeed s.seed → from7 w s.f s.plan s.clients s.service s.lms (later_lines w s.every s.seed ++ rest) ≡ Ok (front w (script_at s) rest)
later_read One s rest omits built good =
    let none = omits.0 in
    let zeros = omits.1 in
    λ j. Ok (front One (script s.f s.plan s.clients s.service s.lms (sym none j) (sym zeros j)) rest)
later_read Two s rest omits built good =
    let none = omits.0 in
    let zeros = omits.1 in
    λ j. Ok (front Two (script s.f s.plan s.clients s.service s.lms (sym none j) (sym zeros j)) rest)
later_read Three s rest omits built good =
    ap (λ (r : Result (ℕ × Rest) TextFault). r >>= λ (x : ℕ × Rest). from8 Three s.f s.plan s.clients s.service s.lms x.0 x.1) (built_read s.plan s.every rest built)
    ∙ ap (λ x. let r : Read = Ok (front Three (script s.f s.plan s.clients s.service s.lms s.every x) rest) in r) (sym omits)
later_read Four s rest omits built good =
    ap (λ (r : Result (ℕ × Rest) TextFault). r >>= λ (x : ℕ × Rest). from8 Four s.f s.plan s.clients s.service s.lms x.0 x.1) (built_read s.plan s.every (seed_line s.seed ∷ rest) built)
    ∙ ap (λ (r : Result (List ℕ × Rest) TextFault). r >>= λ (x : List ℕ × Rest). Ok (front Four (script s.f s.plan s.clients s.service s.lms s.every x.0) x.1)) (seed_read s.seed rest good)

pub head_reads : (w : Version) (s : Script) (rest : Rest) → IsInBounds s.f s.clients → Allows w s.lms → Omits w s → IsBuilt s → IsSeed s.seed
    → head_at (head_lines w s ++ rest) ≡ Ok (front w (script s.f s.plan s.clients s.service s.lms s.every s.seed) rest)
head_reads w s rest bounds allows omits built good =
    six_read w s.f s.plan s.clients s.service s.lms (later_lines w s.every s.seed ++ rest) bounds allows ∙ later_read w s rest omits built good

later_asks : (w : Version) (s : Script) (rest : Rest) → Omits w s → most_built s.plan < s.every → s.every ≤ most_every s.plan → from7 w s.f s.plan s.clients s.service s.lms (later_lines w s.every s.seed ++ rest) ≡ Err (NotBuilt 7)
later_asks One s rest omits more few = (let none = omits.0 in absurd (omega (arith, none, more)))
later_asks Two s rest omits more few = (let none = omits.0 in absurd (omega (arith, none, more)))
later_asks Three s rest omits more few =
    ap (λ (r : Result (ℕ × Rest) TextFault). r >>= λ (x : ℕ × Rest). from8 Three s.f s.plan s.clients s.service s.lms x.0 x.1) (unbuilt_refused s.plan s.every rest more few)
later_asks Four s rest omits more few =
    ap (λ (r : Result (ℕ × Rest) TextFault). r >>= λ (x : ℕ × Rest). from8 Four s.f s.plan s.clients s.service s.lms x.0 x.1) (unbuilt_refused s.plan s.every (seed_line s.seed ∷ rest) more few)

-- with checkpoints that aren't built that is what is wrong
pub head_asks : (w : Version) (s : Script) (rest : Rest) → IsInBounds s.f s.clients → Allows w s.lms → Omits w s → most_built s.plan < s.every → s.every ≤ most_every s.plan → head_at (head_lines w s ++ rest) ≡ Err (NotBuilt 7)
head_asks w s rest bounds allows omits more few =
    six_read w s.f s.plan s.clients s.service s.lms (later_lines w s.every s.seed ++ rest) bounds allows ∙ later_asks w s rest omits more few
