-- The reader of histories of which the first entries may be forgotten.
use Rattle.std.specs.Prelude.{ℕ, ◌-◌, ◌==◌, min, Bool, ◌&&◌, ◌||◌, nat_le, List}
use Rattle.std.specs.Int.{w16}
use Rattle.ab_hist.specs.declared.request.Request.{Request}
use Rattle.ab_hist.specs.Trimmed.{Trimmed, untrimmed}
use Rattle.ab_form.specs.declared.bad.Bad.TheVariants.{BadLength, BadField}
use Rattle.ab_form.specs.Readers.{Reader, number_at, bytes_at, ranged_at, checked, made, after, both, many, either}
use Rattle.ab_content.specs.Histories.{entry_at, later, no_stamps}

-- so many entries
abbrev pub entries_at : ℕ → Reader (List Request)
entries_at n = many entry_at later n no_stamps

-- the entries behind so many forgotten ones
unfoldable pub rest_at : ℕ → Reader (List Request)
rest_at start bytes = after (ranged_at w16 0 (min 1024 (65535 - start)) BadLength) entries_at bytes

abbrev pub trimmed_from : ℕ × List ℕ → List Request → Trimmed
trimmed_from front h = record { start = front.0; digest = front.1; rest = h }

-- what follows 65,535: how many entries are forgotten, their digest, and the rest
unfoldable pub forgot_at : Reader Trimmed
forgot_at bytes =
    after (both (ranged_at w16 1 65535 BadField) (bytes_at 32)) (λ front. made (trimmed_from front) (rest_at front.0)) bytes

-- the count of a history, or 65,535 where lists may forget
abbrev pub first_at : Bool → Reader ℕ
first_at forgets = checked (λ n. nat_le n 1024 || (forgets && n == 65535)) BadLength (number_at w16)

unfoldable pub trimmed_at : Bool → Reader Trimmed
trimmed_at forgets bytes =
    after (first_at forgets) (λ n. either (n == 65535) forgot_at (made untrimmed (entries_at n))) bytes
