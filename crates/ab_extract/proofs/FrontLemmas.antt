-- The digest of a log's front, entry by entry, and who signed a certificate of answers.
use Rattle.std.proofs.Common.{◌≡◌, ℕ, zero, suc, ◌+◌, ◌-◌, ◌*◌, ◌≤◌, Bool, true, List, [], ◌∷◌, length, take, map, arith, refl, sym, ap, ◌∙◌}
use Rattle.std.specs.Prelude.{◌&&◌, ◌==◌, nat_le, nat_lt, fold, replicate}
use Rattle.std.specs.List.{list_all}
use Rattle.std.specs.Str.{bytes_eq}
use Rattle.std.proofs.lemmas.Bool.Decides.{nat_tests}
use Rattle.std.proofs.lemmas.List.{length-map}
use Rattle.ab_hist.specs.declared.request.Request.{Request}
use Rattle.ab_hist.specs.Digests.{link, digest_of}
use Rattle.ab_msg.specs.declared.zcert.Zcert.{Zcert}
use Rattle.ab_abs.specs.Observations.{has_front}
use Rattle.ab_abs.specs.Certificates.{are_apart, is_quorum}
use Rattle.ab_extract.specs.Certs.{are_quorum}

-- there are n entries or more, and d is the digest of the first n behind those with the digest so_far
abbrev pub front_from : ℕ → List ℕ → List Request → List ℕ → Bool
front_from n so_far rest d = nat_le n (length rest) && bytes_eq (fold link so_far (take n rest)) d

pub front_start : (h : List Request) (n : ℕ) (d : List ℕ) → front_from n (replicate 32 0) h d ≡ has_front h n d
unfolding digest_of
front_start h n d = refl

pub front_next : (n : ℕ) (so_far : List ℕ) (m : Request) (rest : List Request) (d : List ℕ) → front_from n (link so_far m) rest d ≡ front_from (suc n) so_far (m ∷ rest) d
front_next n so_far m rest d = ap (λ b. b && bytes_eq (fold link (link so_far m) (take n rest)) d) (let e : nat_le n (length rest) ≡ nat_le (suc n) (suc (length rest)) = grind (arith, nat_tests) in e)

pub front_done : (so_far : List ℕ) (rest : List Request) (d : List ℕ) → front_from 0 so_far rest d ≡ bytes_eq so_far d
front_done so_far rest d = ap (λ b. b && bytes_eq so_far d) (let e : nat_le 0 (length rest) ≡ true = grind (arith, nat_tests) in e)

pub front_over : (n : ℕ) (so_far : List ℕ) (d : List ℕ) → front_from n so_far [] d ≡ ((n == 0) && bytes_eq so_far d)
front_over zero so_far d = front_done so_far [] d
front_over (suc n) so_far d = ap (λ b. b && bytes_eq so_far d) (let e : nat_le (suc n) 0 ≡ (suc n == 0) = grind (arith, nat_tests) in e)

-- one entry further
pub front_step : (n : ℕ) (so_far next : List ℕ) (m : Request) (all rest : List Request) (d : List ℕ) → all ≡ m ∷ rest → next ≡ link so_far m → 1 ≤ n → front_from (n - 1) next rest d ≡ front_from n so_far all d
front_step zero so_far next m all rest d all_is next_is some = absurd (omega arith)
front_step (suc n) so_far next m all rest d all_is next_is some =
    let back : suc n - 1 ≡ n = omega arith in
    (λ j. front_from (back j) (next_is j) rest d) ∙ front_next n so_far m rest d ∙ ap (λ l. front_from (suc n) so_far l d) (sym all_is)

-- ---- who answered

below_all : (n : ℕ) (sigs : List (ℕ × List ℕ)) → list_all (λ r. nat_lt r n) (map (λ s. s.0) sigs) ≡ list_all (λ s. nat_lt s.0 n) sigs
below_all n [] = refl
below_all n (s ∷ sigs) = ap (λ b. nat_lt s.0 n && b) (below_all n sigs)

-- a certificate is a quorum's where those who signed in it are one
pub quorum_is : (f : ℕ) (z : Zcert) (by : List ℕ) → by ≡ map (λ s. s.0) z.sigs → are_quorum f by ≡ is_quorum f z
quorum_is f z by is =
    let all = map (λ (s : ℕ × List ℕ). s.0) z.sigs in
    ap (are_quorum f) is
    ∙ (λ j. (length-map z.sigs (λ (s : ℕ × List ℕ). s.0) j == (2 * f + 1)) && (are_apart all && below_all (3 * f + 1) z.sigs j))
