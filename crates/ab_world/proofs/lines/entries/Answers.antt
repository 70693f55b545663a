use Rattle.std.proofs.Common.{◌≡◌, ◌+◌, ◌-◌, ℕ, List, ◌++◌, ◌∷◌, [], take, map, slice_get, Some, ap, ◌∙◌, arith}
use Rattle.std.proofs.lemmas.List.{map-append, take_more}
use Rattle.std.proofs.lemmas.Option.{slice_get_within, get_or_from_slice_get}
use Rattle.ab_hist.specs.Requests.{key_of}
use Rattle.ab_world.proofs.lines.entries.Goals as goal

place_more : {X : Type 0} → (xs : List X) (n : ℕ) (x : X) → slice_get xs (n + 1 - 1) ≡ Some x → take (n + 1) xs ≡ take n xs ++ x ∷ []
place_more xs n x at =
    let here : slice_get xs n ≡ Some x = ap (slice_get xs) (let e : n ≡ n + 1 - 1 = omega arith in e) ∙ at in
    take_more xs n x (slice_get_within xs n x here) ∙ ap (λ y. take n xs ++ y ∷ []) (get_or_from_slice_get xs n x x here)

pub requests-preserved : goal.requests-preserved
requests-preserved c =
    let h = c.args.history.now in
    let n = c.requests.n in
    let m = c.at-request.result.now in
    let taken = ap (map key_of) (place_more h n m c.at-request.ensures) ∙ map-append key_of (take n h) (m ∷ []) in
    let invariant = c.requests.invariant in
    let pushed = c.in_ok-push.ensures in
    cc
