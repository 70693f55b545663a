-- Tags by HMAC (RFC 2104) over SHA-256, which takes blocks of 64 bytes.
use Rattle.std.specs.Prelude.{ℕ, ◌-◌, List, ◌++◌, length, map, replicate, bit_xor}
use Rattle.sha2.specs.Sha256.{sha256}

-- the key as a block: zeros at its end fill it up to 64 bytes
abbrev pub padded_key : List ℕ → List ℕ
padded_key key = key ++ replicate (64 - length key) 0

-- the padded key, each of its bytes xor ipad
abbrev pub inner_block : List ℕ → List ℕ
inner_block key = map (λ b. bit_xor b 0x36) (padded_key key)

-- the padded key, each of its bytes xor opad
abbrev pub outer_block : List ℕ → List ℕ
outer_block key = map (λ b. bit_xor b 0x5c) (padded_key key)

-- the tag of a text under a key of at most 64 bytes
unfoldable pub hmac : List ℕ → List ℕ → List ℕ
hmac key text = sha256 (outer_block key ++ sha256 (inner_block key ++ text))
