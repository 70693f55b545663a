-- The bytes of a public key as one list.
use Rattle.std.specs.Prelude.{◌≡◌, ℕ, ◌==◌, List, length, if◌then◌else◌, refl}
use Rattle.ab_scheme.specs.declared.public.Bytes.{Bytes}
use Rattle.ab_scheme.specs.declared.public.Bytes.TheVariants.{One, Two}

abbrev pub bytes_in : Bytes → List ℕ
bytes_in (One bytes) = bytes
bytes_in (Two bytes) = bytes

abbrev pub long_in : Bytes → ℕ
long_in (One bytes) = 56
long_in (Two bytes) = 60

-- the length tells how many levels a key has
abbrev pub bytes_as : List ℕ → Bytes
bytes_as bytes = if length bytes == 60 then Two bytes else One bytes

pub same : (b : Bytes) → length (bytes_in b) ≡ long_in b → bytes_as (bytes_in b) ≡ b
same (One bytes) long = rw long refl
same (Two bytes) long = rw long refl
