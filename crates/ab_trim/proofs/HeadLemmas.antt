-- What is left of a chunk whose first entries are forgotten.
use Rattle.std.proofs.Common.{◌≡◌, ℕ, ◌+◌, ◌-◌, ◌≤◌, List, Contains, Some, slice_get, get_or, take, drop, arith, sym, ◌∙◌, ap, refl, subst}
use Rattle.std.proofs.lemmas.List.{length-drop, get_or-drop}
use Rattle.std.proofs.lemmas.Option.{get_or_from_slice_get}
use Rattle.ab_hist.specs.declared.request.Request.{Request}
use Rattle.ab_hist.specs.Histories.{IsHistory, Precedes}
use Rattle.ab_hist.specs.Chunks.{Chunk, digest_from}
use Rattle.ab_trim.proofs.ChunkLemmas.{take_add, digest_on}

-- the digest of the first n entries behind those that are forgotten
pub digest_behind : (d : List ℕ) (c : Chunk) (k n : ℕ) → d ≡ digest_from c.start (take k c.requests) → digest_from c.start (take (k + n) c.requests) ≡ digest_from d (take n (drop k c.requests))
digest_behind d c k n is =
    ap (digest_from c.start) (take_add k n c.requests) ∙ digest_on c.start (take k c.requests) (take n (drop k c.requests))
    ∙ ap (λ e. digest_from e (take n (drop k c.requests))) (sym is)

-- what stands among the first n stands nowhere behind them
pub not_behind : (n : ℕ) (h : List Request) (m : Request) (p : ℕ) → IsHistory h → 1 ≤ p → slice_get h (p - 1) ≡ Some m → p ≤ n → Contains (drop n h) m → ⊥
not_behind n h m p history some at le has =
    let first : get_or h (p - 1) m ≡ m = get_or_from_slice_get h (p - 1) m m at in
    let second : get_or h (n + has.0) m ≡ m = sym (get_or-drop n h has.0 m) ∙ has.2 in
    let both : Precedes (get_or h (p - 1) m) (get_or h (n + has.0) m) = history (p - 1) (n + has.0) m (omega (arith, some, le)) (omega (arith, has.1, length-drop n h)) in
    let one : Precedes m m = subst (λ x. Precedes m x) second (subst (λ x. Precedes x (get_or h (n + has.0) m)) first both) in
    omega (arith, one refl)
