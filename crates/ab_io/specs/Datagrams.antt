-- Datagrams that come and go.
use Rattle.std.specs.Prelude.{◌≡◌, ℕ, ◌≤◌, List, [], ◌∷◌, ◌++◌, length, take, drop, slice_get, IsSomeAnd, ⊤}
use Rattle.std.specs.declared.option.Option.{Option}
use Rattle.std.specs.Option.{option_map}
use Rattle.ab_io.specs.declared.link.Got.{Got}
use Rattle.ab_io.specs.declared.link.Got.TheVariants.{Bytes, Quiet, Failed}

-- how many bytes of a datagram are given at most
abbrev pub longest_datagram : ℕ
longest_datagram = 8209

-- a datagram that is sent: its port, and its bytes
abbrev pub Datagram : Type 0
Datagram = ℕ × List ℕ

-- what is given of a datagram
unfoldable pub given_of : List ℕ → List ℕ
given_of datagram = take longest_datagram datagram

-- at most so many bytes are given
abbrev pub FitsIn : ℕ → Got → Type 0
FitsIn room (Bytes n) = n ≤ room
FitsIn room Quiet = ⊤
FitsIn room Failed = ⊤

-- the next datagram stands at the front of the buffer, and it is quiet only where none is to come
abbrev pub Gives : List (List ℕ) → Got → List ℕ → Type 0
Gives datagrams (Bytes n) buf =
    IsSomeAnd (slice_get datagrams 0) (λ next. (n ≡ length (given_of next)) × (take n buf ≡ given_of next))
Gives datagrams Quiet buf = datagrams ≡ []
Gives datagrams Failed buf = ⊤

-- what is to come after what came
abbrev pub left_after : Got → Option (List (List ℕ)) → Option (List (List ℕ))
left_after (Bytes n) known = option_map (drop 1) known
left_after Quiet known = known
left_after Failed known = known

-- what was sent, and then this
abbrev pub with_sent : Option (List Datagram) → ℕ → List ℕ → Option (List Datagram)
with_sent known port bytes = option_map (λ sent. sent ++ (port, bytes) ∷ []) known
