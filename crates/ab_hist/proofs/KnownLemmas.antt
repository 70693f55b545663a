-- Requests that a log still knows, and those that it may be given.
use Rattle.std.proofs.Common.{◌≡◌, ℕ, ◌+◌, ◌<◌, Bool, true, false, Some, None, List, length, refl, sym, ap, ◌∙◌, arith}
use Rattle.std.specs.Prelude.{◌&&◌, nat_lt, if◌then◌else◌}
use Rattle.std.specs.Bool.{Decides}
use Rattle.std.specs.List.{list_all}
use Rattle.std.proofs.lemmas.Bool.Decides.{Decides-and, Decides-ltb, nat_tests}
use Rattle.ab_hist.specs.declared.request.Request.{Request}
use Rattle.ab_hist.specs.Histories.{CanAdd, may_follow, place_in, can_push}
use Rattle.ab_hist.specs.Known.{is_latest, known_place, can_push_after}
use Rattle.ab_hist.proofs.RequestLemmas.{next-Decides}

-- the test says what the definition says
pub can_push_after-Decides : (n : ℕ) (h : List Request) (m : Request) → Decides (can_push_after n h m) ((length h < n + 1024) × CanAdd h m)
can_push_after-Decides n h m = Decides-and _ _ (Decides-ltb (length h) (n + 1024)) (Decides-and _ _ (Decides-ltb (length h) 65535) (next-Decides h m))

-- what is known stands at its place
pub known_at : (n : ℕ) (h : List Request) (m : Request) (x : ℕ) → known_place n h m ≡ Some x → place_in h m ≡ Some x
known_at n h m x is = by_test (is_latest n h m) is
  where
    by_test : (b : Bool) → (if b then place_in h m else None) ≡ Some x → place_in h m ≡ Some x
    by_test true e = e
    by_test false e = absurd (cc (e))

-- if nothing is forgotten, a log may be given what it may be given as a whole
pub same_push : (h : List Request) (m : Request) → can_push_after 0 h m ≡ can_push h m
same_push h m = by_room (nat_lt (length h) 1024) refl
  where
    by_room : (b : Bool) → nat_lt (length h) 1024 ≡ b → can_push_after 0 h m ≡ can_push h m
    by_room true is =
        let wide : nat_lt (length h) (0 + 1024) ≡ true = grind (arith, nat_tests, is) in
        let wider : nat_lt (length h) 65535 ≡ true = grind (arith, nat_tests, is) in
        (λ i. wide i && (wider i && list_all (may_follow m) h)) ∙ sym (ap (λ b. b && list_all (may_follow m) h) is)
    by_room false is =
        let full : nat_lt (length h) (0 + 1024) ≡ false = grind (arith, nat_tests, is) in
        ap (λ b. b && (nat_lt (length h) 65535 && list_all (may_follow m) h)) full ∙ sym (ap (λ b. b && list_all (may_follow m) h) is)
