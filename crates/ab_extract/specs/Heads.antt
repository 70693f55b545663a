-- What is looked at first in the ABORTs of a certificate: who signed them, of which instances they are, and which certificates of answers
-- they hold.
use Rattle.std.specs.Prelude.{ℕ, suc, ◌==◌, ◌&&◌, ◌||◌, nat_lt, Bool, if◌then◌else◌, Option, Some, None, List, [], ◌∷◌}
use Rattle.std.specs.List.{list_any}
use Rattle.std.specs.Option.{option_map}
use Rattle.ab_msg.specs.declared.signed.Signed.{Signed}
use Rattle.ab_msg.specs.Claims.{instance_of}
use Rattle.ab_extract.specs.declared.heads.Head.{Head}
use Rattle.ab_extract.specs.declared.heads.Lead.{Lead}
use Rattle.ab_extract.specs.Certs.{zcert_in}

abbrev pub head_of : Signed → Head
head_of s = record { signer = s.maker; instance = instance_of s.content; kept = option_map (λ z. z.n) (zcert_in s.content) }

abbrev pub is_among : List Head → ℕ → Bool
is_among heads r = list_any (λ t. t.signer == r) heads

-- the first signer that signs again
abbrev pub repeat_in : List Head → Option ℕ
repeat_in [] = None
repeat_in (s ∷ heads) = if is_among heads s.signer then Some s.signer else repeat_in heads

-- the first instance that is named and isn't i
abbrev pub foreign_in : ℕ → List Head → Option ℕ
foreign_in i [] = None
foreign_in i (s ∷ heads) = if s.instance == i then foreign_in i heads else Some s.instance

-- it has the higher number, or the same and the lower replica
abbrev pub is_before : Lead → Lead → Bool
is_before a b = nat_lt b.n a.n || ((a.n == b.n) && nat_lt a.by b.by)

abbrev pub before_of : Lead → Option Lead → Option Lead
before_of a None = Some a
before_of a (Some b) = if is_before a b then Some a else Some b

abbrev pub led_at : ℕ → ℕ → Option ℕ → Option Lead → Option Lead
led_at at by None best = best
led_at at by (Some n) best = before_of (record { by = by; at = at; n = n }) best

-- of the certificates of answers that these hold, from this place on, the one of the highest number, the lowest replica's at a tie
abbrev pub lead_in : ℕ → List Head → Option Lead
lead_in at [] = None
lead_in at (s ∷ heads) = led_at at s.signer s.kept (lead_in (suc at) heads)
