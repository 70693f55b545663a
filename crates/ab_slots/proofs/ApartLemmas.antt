-- Numbers of which none stands twice.
use Rattle.std.proofs.Common.{◌≡◌, ℕ, ◌+◌, ◌<◌, true, false, ◌||◌, List, [], ◌∷◌, length, drop, get_or, map, refl, sym, ap, ◌∙◌}
use Rattle.std.specs.Prelude.{nat_eq}
use Rattle.std.specs.List.{list_any}
use Rattle.ab_num.proofs.Lists.{drop_read}
use Rattle.ab_order.specs.Inputs.{ChangeReading}
use Rattle.ab_pbft_rules.specs.Rules.{all_apart}

pub apart_ends : (xs : List ℕ) (i r : ℕ) → i < length xs → r ≡ get_or xs i r → list_any (nat_eq r) (drop (i + 1) xs) ≡ true → all_apart (drop i xs) ≡ false
apart_ends xs i r lt is twice = ap all_apart (drop_read xs i r lt is) ∙ rw twice refl

pub apart_more : (xs : List ℕ) (i r : ℕ) → i < length xs → r ≡ get_or xs i r → list_any (nat_eq r) (drop (i + 1) xs) ≡ false → all_apart (drop i xs) ≡ all_apart (drop (i + 1) xs)
apart_more xs i r lt is once = ap all_apart (drop_read xs i r lt is) ∙ rw once refl

any_by : (r : ℕ) (changes : List ChangeReading) → list_any (nat_eq r) (map (λ c. c.by) changes) ≡ list_any (λ c. nat_eq r c.by) changes
any_by r [] = refl
any_by r (c ∷ changes) = ap (λ b. nat_eq r c.by || b) (any_by r changes)

pub makers_end : (changes : List ChangeReading) (i by : ℕ) (c : ChangeReading) → i < length changes → c ≡ get_or changes i c → by ≡ c.by → list_any (λ d. nat_eq by d.by) (drop (i + 1) changes) ≡ true
    → all_apart (map (λ d. d.by) (drop i changes)) ≡ false
makers_end changes i by c lt is mine twice =
    let any : list_any (nat_eq c.by) (map (λ d. d.by) (drop (i + 1) changes)) ≡ true = any_by c.by (drop (i + 1) changes) ∙ (ap (λ n. list_any (λ d. nat_eq n d.by) (drop (i + 1) changes)) (sym mine) ∙ twice) in
    ap (λ l. all_apart (map (λ (d : ChangeReading). d.by) l)) (drop_read changes i c lt is) ∙ rw any refl

pub makers_more : (changes : List ChangeReading) (i by : ℕ) (c : ChangeReading) → i < length changes → c ≡ get_or changes i c → by ≡ c.by → list_any (λ d. nat_eq by d.by) (drop (i + 1) changes) ≡ false
    → all_apart (map (λ d. d.by) (drop i changes)) ≡ all_apart (map (λ d. d.by) (drop (i + 1) changes))
makers_more changes i by c lt is mine once =
    let any : list_any (nat_eq c.by) (map (λ d. d.by) (drop (i + 1) changes)) ≡ false = any_by c.by (drop (i + 1) changes) ∙ (ap (λ n. list_any (λ d. nat_eq n d.by) (drop (i + 1) changes)) (sym mine) ∙ once) in
    ap (λ l. all_apart (map (λ (d : ChangeReading). d.by) l)) (drop_read changes i c lt is) ∙ rw any refl
