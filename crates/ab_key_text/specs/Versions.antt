-- What the first line of a key text says.
use Rattle.std.specs.Prelude.{ℕ, List, [], ◌∷◌, nat_eq, if◌then◌else◌}
use Rattle.ab_num.specs.declared.plan.Scheme.{Scheme}
use Rattle.ab_num.specs.declared.plan.Scheme.TheVariants.{Lms, Hss}
use Rattle.ab_key_text.specs.declared.version.KeyVersion.{KeyVersion}
use Rattle.ab_key_text.specs.declared.version.KeyVersion.TheVariants.{One, Two, Three}

abbrev pub key_versions : List KeyVersion
key_versions = One ∷ Two ∷ Three ∷ []

-- the version of a key text with the scheme and without checkpoints
abbrev pub key_version_with : Scheme → KeyVersion
key_version_with (Lms height) = One
key_version_with Hss = Two

-- the version of a key text in whose cluster a checkpoint is due after so many requests (0: never)
abbrev pub key_version_of : ℕ → Scheme → KeyVersion
key_version_of every lms = if nat_eq every 0 then key_version_with lms else Three

-- how many lines come before the keys in a text that begins so
abbrev pub key_head_count : KeyVersion → ℕ
key_head_count One = 7
key_head_count Two = 7
key_head_count Three = 8
