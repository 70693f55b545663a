-- Bytes as hexadecimal text in lower case.
use Rattle.std.specs.Prelude.{ℕ, List, Option, None, Some, Result, Ok, Err, if◌then◌else◌}
use Rattle.std.specs.Str.{bytes_eq}
use Rattle.hex.specs.declared.error.FromHexError.{FromHexError}
use Rattle.hex.specs.Hex.{decode_sized, encode_lower}

-- the bytes that were decoded, if the text is theirs in lower case
abbrev pub in_lower_case : List ℕ → Result (List ℕ) FromHexError → Option (List ℕ)
in_lower_case text (Ok bytes) = if bytes_eq text (encode_lower bytes) then Some bytes else None
in_lower_case text (Err e) = None

-- the n bytes whose text this is
unfoldable pub bytes_in : ℕ → List ℕ → Option (List ℕ)
bytes_in n text = in_lower_case text (decode_sized text n)
