-- The tags that go along a chain: for whom each party has tags, and which of them a position passes on.
use Rattle.std.specs.Prelude.{ℕ, ◌+◌, ◌*◌, Bool, false, not, ◌==◌, ◌&&◌, nat_le, nat_lt, if◌then◌else◌, Option, None, Some, List, [], ◌∷◌, ◌++◌}
use Rattle.std.specs.List.{list_any}
use Rattle.ab_num.specs.declared.party.Party.{Party}
use Rattle.ab_num.specs.declared.party.Party.TheVariants.{Replica, Client}
use Rattle.ab_num.specs.Parties.{party_eq}
use Rattle.ab_num.specs.Places.{position_in}
use Rattle.ab_msg.specs.declared.chain_tags.TagBetween.{TagBetween}

-- where a party stands along the chain of instance i: a replica at its position, the client of the request at the given place
abbrev pub place_of : ℕ → ℕ → ℕ → ℕ → Party → Option ℕ
place_of f i client place (Replica r) = if nat_lt r (3 * f + 1) then Some (position_in f i r) else None
place_of f i client place (Client c) = if c == client then Some place else None

-- position p passes on the tags of those before it for those behind it. Each has tags for the f + 1 places behind its own
abbrev pub passes_between : ℕ → ℕ → Option ℕ → Option ℕ → Bool
passes_between f p (Some maker) (Some receiver) = nat_lt maker p && nat_lt p receiver && nat_le receiver (maker + f + 1)
passes_between f p (Some maker) None = false
passes_between f p None receiver = false

-- as a maker the client stands before position 1, as a receiver behind the last
abbrev pub is_for_later : ℕ → ℕ → ℕ → ℕ → TagBetween → Bool
is_for_later f i client p t = passes_between f p (place_of f i client 0 t.by) (place_of f i client (3 * f + 2) t.to)

abbrev pub same_pair : TagBetween → TagBetween → Bool
same_pair s t = party_eq t.by s.by && party_eq t.to s.to

-- these, and those of the list that pass the test and whose pair none has yet, in their order
abbrev pub firsts : (TagBetween → Bool) → List TagBetween → List TagBetween → List TagBetween
firsts passes kept [] = kept
firsts passes kept (t ∷ tags) = firsts passes (if passes t && not (list_any (same_pair t) kept) then kept ++ t ∷ [] else kept) tags

-- the tags that position p of the chain of instance i passes on, of those that came with a request of this client
abbrev pub passed_on : ℕ → ℕ → ℕ → ℕ → List TagBetween → List TagBetween
passed_on f i client p tags = firsts (is_for_later f i client p) [] tags

-- a client's tag for a replica, as it goes along a chain
abbrev pub by_client : ℕ → ℕ × List ℕ → TagBetween
by_client client tag = record { by = Client client; to = Replica tag.0; tag = tag.1 }
