-- Commands, and the bytes that spell them.
use Rattle.std.specs.Prelude.{◌≡◌, ℕ, ◌≤◌, List, ◌∷◌, ◌++◌, length, All, Bool, ◌&&◌, ◌||◌, nat_eq, nat_le, IsTrue, codes}

-- what a client asks: to give a key a value, for a key's value, to take a key away, and to give a key a new value in the place of an old one
pub data Command : Type 0 where
  Put : (key value : List ℕ) → Command
  Get : (key : List ℕ) → Command
  Del : (key : List ℕ) → Command
  Cas : (key old new : List ℕ) → Command

-- from `a` to `z`, from `0` to `9`, `_`, `.` or `-`
abbrev pub is_symbol : ℕ → Bool
is_symbol b = (nat_le 97 b && nat_le b 122) || ((nat_le 48 b && nat_le b 57) || (nat_eq b 95 || (nat_eq b 46 || nat_eq b 45)))

-- symbols, 1 to `most` of them
pub record IsWord (most : ℕ) (bytes : List ℕ) : Type 0 where
  pub some : 1 ≤ length bytes
  pub few : length bytes ≤ most
  pub symbols : All (λ b. IsTrue (is_symbol b)) bytes

abbrev pub IsKey : List ℕ → Type 0
IsKey = IsWord 32

abbrev pub IsValue : List ℕ → Type 0
IsValue = IsWord 64

-- each key is one, and each value
abbrev pub IsCommand : Command → Type 0
IsCommand (Put k v) = IsKey k × IsValue v
IsCommand (Get k) = IsKey k
IsCommand (Del k) = IsKey k
IsCommand (Cas k old new) = IsKey k × IsValue old × IsValue new

-- the command's name and its words, with one space between them
abbrev pub spell : Command → List ℕ
spell (Put k v) = codes "put " ++ (k ++ 32 ∷ v)
spell (Get k) = codes "get " ++ k
spell (Del k) = codes "del " ++ k
spell (Cas k old new) = codes "cas " ++ (k ++ 32 ∷ (old ++ 32 ∷ new))

-- the bytes are this command
pub record Spells (bytes : List ℕ) (c : Command) : Type 0 where
  pub bytes_are : bytes ≡ spell c
  pub command : IsCommand c
