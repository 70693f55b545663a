-- LM-OTS of RFC 8554 by its set LMOTS_SHA256_N32_W4 (section 4.1): H = SHA-256, n = 32, w = 4, p = 67, ls = 4.
use Rattle.std.specs.Prelude.{ℕ, zero, suc, ◌+◌, ◌-◌, ◌*◌, ◌/◌, ◌%◌, ◌==◌, ◌&&◌, List, [], ◌∷◌, ◌++◌, Option, Some, None, length, take, drop, slice_index, slice_range, if◌then◌else◌}
use Rattle.std.specs.Int.{w16, w32, to_be_bytes, from_be_bytes}
use Rattle.sha2.specs.Sha256.{sha256}

-- what each hashed text begins with: the name I of the key, and the number of the leaf
abbrev pub leaf : List ℕ → ℕ → List ℕ
leaf id q = id ++ to_be_bytes w32 q

-- the number in the four bytes from a place on (RFC 8554, section 3.1.2)
abbrev pub number_at : List ℕ → ℕ → ℕ
number_at bytes i = from_be_bytes w32 (take 4 (drop i bytes))

-- step j of chain i: H(I, u32str(q), u16str(i), u8str(j), tmp) (RFC 8554, sections 4.3, 4.5 and 4.6)
unfoldable pub chain_step : List ℕ → ℕ → ℕ → ℕ → List ℕ → List ℕ
chain_step id q i j value = sha256 (leaf id q ++ to_be_bytes w16 i ++ j ∷ value)

-- n steps of chain i, the first of them with number `from`
unfoldable pub chain : List ℕ → ℕ → ℕ → ℕ → ℕ → List ℕ → List ℕ
chain id q i from zero value = value
chain id q i from (suc n) value = chain_step id q i (from + n) (chain id q i from n value)

-- coef(bytes, i, 4): the i-th field of four bits, from the most significant end (RFC 8554, section 3.1.3)
abbrev pub digit : List ℕ → ℕ → ℕ
digit bytes i = if i % 2 == 0 then slice_index bytes (i / 2) / 16 else slice_index bytes (i / 2) % 16

-- the sum of 15 - coef(Q, i, 4) over the first n digits (RFC 8554, section 4.4, algorithm 2)
unfoldable pub checksum : List ℕ → ℕ → ℕ
checksum digest zero = 0
checksum digest (suc n) = checksum digest n + (15 - digit digest n)

-- Q || Cksm(Q), where the sum is shifted left by ls = 4; its first 67 digits count (RFC 8554, section 4.4)
abbrev pub checked : List ℕ → List ℕ
checked digest = digest ++ to_be_bytes w16 (16 * checksum digest 64)

-- Q = H(I, u32str(q), D_MESG, C, message) (RFC 8554, section 4.5)
unfoldable pub message_digest : List ℕ → ℕ → List ℕ → List ℕ → List ℕ
message_digest id q randomizer message = sha256 (leaf id q ++ 0x81 ∷ 0x81 ∷ randomizer ++ message)

-- x_q[i] = H(I, u32str(q), u16str(i), u8str(0xff), SEED) (RFC 8554, Appendix A)
unfoldable pub secret : List ℕ → ℕ → List ℕ → ℕ → List ℕ
secret id q seed i = sha256 (leaf id q ++ to_be_bytes w16 i ++ 0xff ∷ seed)

-- C by the rule of RFC 8554, Appendix A, at i = 0xfffd; section 4.5 there takes it at random
unfoldable pub randomizer : List ℕ → ℕ → List ℕ → List ℕ
randomizer id q seed = sha256 (leaf id q ++ 0xff ∷ 0xfd ∷ 0xff ∷ seed)

-- K = H(I, u32str(q), D_PBLC, y[0], .., y[66]), where the ends of the chains stand in a row (RFC 8554, section 4.3)
abbrev pub key_of_ends : List ℕ → ℕ → List ℕ → List ℕ
key_of_ends id q row = sha256 (leaf id q ++ 0x80 ∷ 0x80 ∷ row)

-- the ends of the first n chains, each by all 15 steps from its private value (RFC 8554, section 4.3, algorithm 1)
unfoldable pub whole_chains : List ℕ → ℕ → List ℕ → ℕ → List ℕ
whole_chains id q seed zero = []
whole_chains id q seed (suc n) = whole_chains id q seed n ++ chain id q n 0 15 (secret id q seed n)

-- the public key of a leaf (RFC 8554, section 4.3, algorithm 1)
abbrev pub key_once : List ℕ → ℕ → List ℕ → List ℕ
key_once id q seed = key_of_ends id q (whole_chains id q seed 67)

-- y[0], .., y[n - 1], each as many steps from its private value as its digit says (RFC 8554, section 4.5, algorithm 3)
unfoldable pub signed_values : List ℕ → ℕ → List ℕ → List ℕ → ℕ → List ℕ
signed_values id q seed digits zero = []
signed_values id q seed digits (suc n) = signed_values id q seed digits n
    ++ chain id q n 0 (digit digits n) (secret id q seed n)

-- u32str(type), C, y[0], .., y[66] (RFC 8554, section 4.5, algorithm 3)
abbrev pub signature : List ℕ → ℕ → List ℕ → List ℕ → List ℕ
signature id q seed message = to_be_bytes w32 3 ++ randomizer id q seed
    ++ signed_values id q seed (checked (message_digest id q (randomizer id q seed) message)) 67

-- z[0], .., z[n - 1], each by the steps that its value still lacks (RFC 8554, section 4.6, algorithm 4b)
unfoldable pub ends : List ℕ → ℕ → List ℕ → List ℕ → ℕ → List ℕ
ends id q digits values zero = []
ends id q digits values (suc n) = ends id q digits values n
    ++ chain id q n (digit digits n) (15 - digit digits n) (slice_range values (32 * n) (32 * n + 32))

-- the key that C and the 67 values of a signature lead to (RFC 8554, section 4.6, algorithm 4b)
abbrev pub key_of_values : List ℕ → ℕ → List ℕ → List ℕ → List ℕ → List ℕ
key_of_values id q message c values =
    key_of_ends id q (ends id q (checked (message_digest id q c message)) values 67)

-- Kc: there is one exactly where the signature has 4 + 32 * 68 bytes and type 3 (RFC 8554, section 4.6, algorithm 4b)
abbrev pub candidate : List ℕ → ℕ → List ℕ → List ℕ → Option (List ℕ)
candidate id q message sig = if (length sig == 2180) && (number_at sig 0 == 3)
    then Some (key_of_values id q message (slice_range sig 4 36) (slice_range sig 36 2180)) else None
