-- What one line of a text is read as, and the lines after it.
use Rattle.std.specs.Prelude.{◌≡◌, ℕ, List, [], ◌∷◌, ◌++◌, Option, None, Some, Result, Ok, Err, codes, ◌&&◌, nat_le, if◌then◌else◌}
use Rattle.std.specs.Option.{option_and_then}
use Rattle.ab_num.specs.declared.party.Party.{Party}
use Rattle.ab_num.specs.declared.party.Party.TheVariants.{Replica, Client}
use Rattle.ab_num.specs.declared.plan.Scheme.{Scheme}
use Rattle.ab_key_text.specs.declared.version.KeyVersion.{KeyVersion}
use Rattle.ab_key_text.specs.declared.version.KeyVersion.TheVariants.{One, Two, Three}
use Rattle.ab_text.specs.Cores.{party_text}
use Rattle.ab_text.specs.Heads.{stripped, number_after, one_level, two_levels, schemes}
use Rattle.ab_key_text.specs.declared.fault.NodeFault.{NodeFault}
use Rattle.ab_key_text.specs.declared.fault.NodeFault.TheVariants.{BadLine, NoEnd, OutOfMemory}
use Rattle.ab_text.specs.HexBytes.{bytes_in}

infixl 10 ◌>>=◌
abbrev pub ◌>>=◌ : {A B : Type 0} → Result A NodeFault → (A → Result B NodeFault) → Result B NodeFault
(Ok x) >>= f = f x
(Err e) >>= f = Err e

-- line n was read as this, and these lines come after it
abbrev pub found_at : {A : Type 0} → ℕ → List (List ℕ) → Option A → Result (A × List (List ℕ)) NodeFault
found_at n ls None = Err (BadLine n)
found_at n ls (Some a) = Ok (a, ls)

-- line n, read by this
abbrev pub line_at : {A : Type 0} → (List ℕ → Option A) → ℕ → List (List ℕ) → Result (A × List (List ℕ)) NodeFault
line_at read n [] = Err (NoEnd n)
line_at read n (l ∷ ls) = found_at n ls (read l)

-- the schemes that a text of this version may name
abbrev pub own_schemes : KeyVersion → List Scheme
own_schemes One = one_level
own_schemes Two = two_levels
own_schemes Three = schemes

abbrev pub bounded : ℕ → ℕ → Option ℕ → Option ℕ
bounded low high None = None
bounded low high (Some k) = if nat_le low k && nat_le k high then Some k else None

-- a word, and a number within bounds
abbrev pub number_in : List ℕ → ℕ → ℕ → List ℕ → Option ℕ
number_in word low high l = bounded low high (number_after word l)

abbrev pub numbered : (ℕ → Party) → Option ℕ → Option Party
numbered kind None = None
numbered kind (Some k) = Some (kind k)

abbrev pub or_else : {A : Type 0} → Option A → Option A → Option A
or_else None o = o
or_else (Some a) o = Some a

-- the party that a text names: a replica's number has 8 bits, a client's 16
abbrev pub party_in : List ℕ → Option Party
party_in text = or_else (numbered Replica (number_in (codes "r") 0 255 text)) (numbered Client (number_in (codes "c") 0 65535 text))

-- a word, and so many bytes
abbrev pub bytes_after : List ℕ → ℕ → List ℕ → Option (List ℕ)
bytes_after word count l = option_and_then (bytes_in count) (stripped word l)

-- a word, a party and a key of so many bytes
abbrev pub key_in : List ℕ → Party → ℕ → List ℕ → Option (List ℕ)
key_in word p count l = bytes_after (word ++ party_text p ++ codes " ") count l

-- what a function returned, seen by view, is what reading gives, unless memory ran out
abbrev pub Fails : {Y : Type 0} → NodeFault → Result Y NodeFault → Type 0
Fails OutOfMemory read = Unit {0}
Fails (BadLine n) read = read ≡ Err (BadLine n)
Fails (NoEnd n) read = read ≡ Err (NoEnd n)

abbrev pub Gives : {X Y : Type 0} → (X → Y) → Result X NodeFault → Result Y NodeFault → Type 0
Gives view (Ok x) read = read ≡ Ok (view x)
Gives view (Err e) read = Fails e read
