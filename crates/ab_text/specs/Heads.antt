-- The head of a schedule: six lines in their order, and those that later versions have.
use Rattle.std.specs.Prelude.{◌≡◌, ℕ, List, [], ◌∷◌, Option, None, Some, Result, Ok, Err, codes, find, ◌++◌, ◌+◌, ◌&&◌, nat_le, nat_eq, decimal, replicate, if◌then◌else◌}
use Rattle.std.specs.Option.{option_and_then}
use Rattle.std.specs.Str.{bytes_eq}
use Rattle.hex.specs.Hex.{encode_lower}
use Rattle.ab_num.specs.declared.party.Party.{Party}
use Rattle.ab_num.specs.declared.plan.Plan.{Plan}
use Rattle.ab_num.specs.declared.plan.Plan.TheVariants.{AZyzzyva, Aliph, Quorum, ZLight, Chain, Backup, ZCert}
use Rattle.ab_num.specs.declared.plan.ServiceName.{ServiceName}
use Rattle.ab_num.specs.declared.plan.ServiceName.TheVariants.{Echo, Kv}
use Rattle.ab_num.specs.declared.plan.Height.TheVariants.{Five, Ten}
use Rattle.ab_num.specs.declared.plan.Scheme.{Scheme}
use Rattle.ab_num.specs.declared.plan.Scheme.TheVariants.{Lms, Hss}
use Rattle.ab_text.specs.declared.event.Event.{Event}
use Rattle.ab_text.specs.declared.fault.TextFault.{TextFault}
use Rattle.ab_text.specs.declared.fault.TextFault.TheVariants.{BadLine, NoEnd, NotBuilt, OutOfMemory}
use Rattle.ab_text.specs.declared.version.Version.{Version}
use Rattle.ab_text.specs.declared.version.Version.TheVariants.{One, Two, Three, Four}
use Rattle.ab_text.specs.HexBytes.{bytes_in}
use Rattle.ab_text.specs.Numbers.{number_of}

-- A schedule as plain values: after `every` requests a checkpoint is due (0: never), and the keys are derived from the seed
pub record Script : Type 0 where
  pub f : ℕ
  pub clients : ℕ
  pub plan : Plan
  pub service : ServiceName
  pub lms : Scheme
  pub every : ℕ
  pub seed : List ℕ
  pub faulty : List (Party × ℕ)
  pub events : List Event

abbrev pub abstract_line : Version → List ℕ
abstract_line One = codes "abstract 1"
abstract_line Two = codes "abstract 2"
abstract_line Three = codes "abstract 3"
abstract_line Four = codes "abstract 4"

abbrev pub versions : List Version
versions = One ∷ Two ∷ Three ∷ Four ∷ []

abbrev pub plan_line : Plan → List ℕ
plan_line AZyzzyva = codes "plan azyzzyva"
plan_line Aliph = codes "plan aliph"
plan_line Quorum = codes "plan quorum"
plan_line ZLight = codes "plan zlight"
plan_line Chain = codes "plan chain"
plan_line Backup = codes "plan backup"
plan_line ZCert = codes "plan zcert"

abbrev pub plans : List Plan
plans = AZyzzyva ∷ Aliph ∷ Quorum ∷ ZLight ∷ Chain ∷ Backup ∷ ZCert ∷ []

abbrev pub service_line : ServiceName → List ℕ
service_line Echo = codes "service echo"
service_line Kv = codes "service kv"

abbrev pub services : List ServiceName
services = Echo ∷ Kv ∷ []

abbrev pub lms_line : Scheme → List ℕ
lms_line (Lms Five) = codes "lms 5"
lms_line (Lms Ten) = codes "lms 10"
lms_line Hss = codes "lms 20"

abbrev pub one_level : List Scheme
one_level = Lms Five ∷ Lms Ten ∷ []

abbrev pub two_levels : List Scheme
two_levels = Hss ∷ []

abbrev pub schemes : List Scheme
schemes = Lms Five ∷ Lms Ten ∷ Hss ∷ []

-- what a schedule that begins so may name
abbrev pub schemes_of : Version → List Scheme
schemes_of One = one_level
schemes_of Two = schemes
schemes_of Three = schemes
schemes_of Four = schemes

-- the seed of a schedule that names none
abbrev pub no_seed : List ℕ
no_seed = replicate 32 0

abbrev pub checkpoint_line : ℕ → List ℕ
checkpoint_line every = codes "checkpoint " ++ decimal every

abbrev pub seed_line : List ℕ → List ℕ
seed_line seed = codes "seed " ++ encode_lower seed

-- the least first line that has the scheme
abbrev pub version_with : Scheme → Version
version_with (Lms height) = One
version_with Hss = Two

-- the least first line that has all of a head
abbrev pub version_of : Script → Version
version_of s = if bytes_eq s.seed no_seed then if nat_eq s.every 0 then version_with s.lms else Three else Four

-- how many lines the head has in a schedule that begins so
abbrev pub head_count : Version → ℕ
head_count One = 6
head_count Two = 6
head_count Three = 7
head_count Four = 8

infixl 10 ◌>>=◌
abbrev pub ◌>>=◌ : {A B : Type 0} → Result A TextFault → (A → Result B TextFault) → Result B TextFault
(Ok x) >>= f = f x
(Err e) >>= f = Err e

-- the one of these whose line this is
unfoldable pub spelled_in : {A : Type 0} → (A → List ℕ) → List A → List ℕ → Option A
spelled_in spell all l = find (λ a. bytes_eq l (spell a)) all

abbrev pub count_named : Option Version → ℕ
count_named None = 6
count_named (Some version) = head_count version

-- how many of these lines are the head, if they are those of a schedule: the first one says it
abbrev pub head_count_in : List (List ℕ) → ℕ
head_count_in [] = 6
head_count_in (l ∷ ls) = count_named (spelled_in abstract_line versions l)

abbrev pub taken : {A : Type 0} → ℕ → List (List ℕ) → Option A → Result (A × List (List ℕ)) TextFault
taken n ls None = Err (BadLine n)
taken n ls (Some a) = Ok (a, ls)

-- line n is that of one of these
abbrev pub name_at : {A : Type 0} → (A → List ℕ) → List A → ℕ → List (List ℕ) → Result (A × List (List ℕ)) TextFault
name_at spell all n [] = Err (NoEnd n)
name_at spell all n (l ∷ ls) = taken n ls (spelled_in spell all l)

-- what comes after a word
abbrev pub stripped : List ℕ → List ℕ → Option (List ℕ)
stripped [] l = Some l
stripped (w ∷ ws) [] = None
stripped (w ∷ ws) (b ∷ bs) = if nat_eq w b then stripped ws bs else None

abbrev pub number_in : Option (List ℕ) → Option ℕ
number_in None = None
number_in (Some digits) = number_of digits

-- the number after a word
abbrev pub number_after : List ℕ → List ℕ → Option ℕ
number_after word l = number_in (stripped word l)

abbrev pub within : ℕ → ℕ → ℕ → List (List ℕ) → Option ℕ → Result (ℕ × List (List ℕ)) TextFault
within low high n ls None = Err (BadLine n)
within low high n ls (Some k) = if nat_le low k && nat_le k high then Ok (k, ls) else Err (BadLine n)

-- line n is the word and a number within bounds
abbrev pub number_at : List ℕ → ℕ → ℕ → ℕ → List (List ℕ) → Result (ℕ × List (List ℕ)) TextFault
number_at word low high n [] = Err (NoEnd n)
number_at word low high n (l ∷ ls) = within low high n ls (number_after word l)

-- the seed in a line
abbrev pub seed_in : List ℕ → Option (List ℕ)
seed_in l = option_and_then (bytes_in 32) (stripped (codes "seed ") l)

-- after how many requests a checkpoint may be due at most: with certificates of answers none ever is
abbrev pub most_every : Plan → ℕ
most_every ZCert = 0
most_every plan = 128

-- what of this is built: Backup doesn't forget yet, so plans with it have no checkpoints
abbrev pub most_built : Plan → ℕ
most_built Quorum = 128
most_built ZLight = 128
most_built Chain = 128
most_built plan = 0

-- line n asks for no more than what is built
abbrev pub built : Plan → ℕ → ℕ × List (List ℕ) → Result (ℕ × List (List ℕ)) TextFault
built plan n p = if nat_le p.0 (most_built plan) then Ok p else Err (NotBuilt n)

-- line 7 is that of checkpoints
abbrev pub checkpoint_at : Plan → List (List ℕ) → Result (ℕ × List (List ℕ)) TextFault
checkpoint_at plan ls = number_at (codes "checkpoint ") 0 (most_every plan) 7 ls >>= built plan 7

-- line 8 is that of the seed
abbrev pub seed_at : List (List ℕ) → Result (List ℕ × List (List ℕ)) TextFault
seed_at [] = Err (NoEnd 8)
seed_at (l ∷ ls) = taken 8 ls (seed_in l)

-- after how many requests a checkpoint is due: versions 3 and 4 have a line for it
abbrev pub every_at : Version → Plan → List (List ℕ) → Result (ℕ × List (List ℕ)) TextFault
every_at One plan ls = Ok (0, ls)
every_at Two plan ls = Ok (0, ls)
every_at Three plan ls = checkpoint_at plan ls
every_at Four plan ls = checkpoint_at plan ls

-- the seed: version 4 has a line for it
abbrev pub seed_with : Version → List (List ℕ) → Result (List ℕ × List (List ℕ)) TextFault
seed_with One ls = Ok (no_seed, ls)
seed_with Two ls = Ok (no_seed, ls)
seed_with Three ls = Ok (no_seed, ls)
seed_with Four ls = seed_at ls

-- what a head sets up, the number of the line after it, and the lines from there on
pub record Front : Type 0 where
  pub script : Script
  pub next : ℕ
  pub rest : List (List ℕ)

-- The head of a schedule. The first line that is out of form, missing or not built decides
unfoldable pub head_at : List (List ℕ) → Result Front TextFault
head_at ls = do
  version ← name_at abstract_line versions 1 ls
  f ← number_at (codes "f ") 1 2 2 version.1
  plan ← name_at plan_line plans 3 f.1
  clients ← number_at (codes "clients ") 1 16 4 plan.1
  service ← name_at service_line services 5 clients.1
  lms ← name_at lms_line (schemes_of version.0) 6 service.1
  every ← every_at version.0 plan.0 lms.1
  seed ← seed_with version.0 every.1
  Ok (record {
    script = record { f = f.0; clients = clients.0; plan = plan.0; service = service.0; lms = lms.0; every = every.0; seed = seed.0; faulty = []; events = [] };
    next = head_count version.0 + 1;
    rest = seed.1;
  })

-- what a function returned, seen by view, is what reading gives, unless memory ran out
abbrev pub Fails : {Y : Type 0} → TextFault → Result Y TextFault → Type 0
Fails OutOfMemory read = Unit {0}
Fails (BadLine n) read = read ≡ Err (BadLine n)
Fails (NoEnd n) read = read ≡ Err (NoEnd n)
Fails (NotBuilt n) read = read ≡ Err (NotBuilt n)

abbrev pub Gives : {X Y : Type 0} → (X → Y) → Result X TextFault → Result Y TextFault → Type 0
Gives view (Ok x) read = read ≡ Ok (view x)
Gives view (Err e) read = Fails e read
