-- Lines as they are written, one behind the other.
use Rattle.std.proofs.Common.{◌≡◌, ℕ, zero, suc, ◌+◌, ◌<◌, List, [], ◌∷◌, ◌++◌, append_assoc, codes, sym, ap, ◌∙◌, decimal, take, get_or, length, arith}
use Rattle.ab_num.specs.declared.party.Party.{Party}
use Rattle.ab_num.specs.declared.party.Party.TheVariants.{Replica}
use Rattle.hex.specs.Hex.{encode_lower}
use Rattle.ab_text.specs.Cores.{party_text}
use Rattle.ab_text.specs.Reports.{◌then◌}
use Rattle.ab_key_text.specs.Spelling.{key_line, public_lines}

pub key_grouped : (word : List ℕ) (p : Party) (key : List ℕ) → (word then party_text p then codes " " then encode_lower key) ≡ key_line word p key
key_grouped word p key = sym (simp append_assoc)

pub public_grouped : (word : List ℕ) (r : ℕ) (key : List ℕ) → (word then codes "r" then decimal r then codes " " then encode_lower key) ≡ key_line word (Replica r) key
public_grouped word r key = sym (simp append_assoc)

public_lines_more-from : (from : ℕ) (keys : List (List ℕ)) (r : ℕ) → r < length keys → public_lines from (take (r + 1) keys) ≡ public_lines from (take r keys) ++ key_line (codes "public ") (Replica (from + r)) (get_or keys r []) ∷ []
public_lines_more-from from [] r lt = absurd (omega arith)
public_lines_more-from from (k ∷ keys) zero lt =
    let e : from ≡ from + zero = omega arith in
    ap (λ n. key_line (codes "public ") (Replica n) k ∷ []) e
public_lines_more-from from (k ∷ keys) (suc r) lt =
    let e : suc r + 1 ≡ suc (r + 1) = omega arith in
    let n : from + 1 + r ≡ from + suc r = omega arith in
    ap (λ m. public_lines from (take m (k ∷ keys))) e
    ∙ ap (λ t. key_line (codes "public ") (Replica from) k ∷ t) (public_lines_more-from (from + 1) keys r (omega arith))
    ∙ ap (λ m. key_line (codes "public ") (Replica from) k ∷ (public_lines (from + 1) (take r keys) ++ key_line (codes "public ") (Replica m) (get_or keys r []) ∷ [])) n

pub public_lines_more : (keys : List (List ℕ)) (r : ℕ) → r < length keys → public_lines 0 (take (r + 1) keys) ≡ public_lines 0 (take r keys) ++ key_line (codes "public ") (Replica r) (get_or keys r []) ∷ []
public_lines_more keys r lt = let e : 0 + r ≡ r = omega arith in public_lines_more-from 0 keys r lt ∙ ap (λ m. public_lines 0 (take r keys) ++ key_line (codes "public ") (Replica m) (get_or keys r []) ∷ []) e
