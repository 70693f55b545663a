-- The last requests of clients, as more entries are noted.
use Rattle.std.proofs.Common.{◌≡◌, ℕ, zero, suc, ◌+◌, ◌-◌, ◌<◌, Option, Some, None, List, [], ◌∷◌, ◌++◌, length, take, set, slice_get, get_or, replicate, arith, sym, ◌∙◌, ap, refl, subst}
use Rattle.std.proofs.lemmas.List.{length-set, length-take, get_or-set_same, get_or-set_other}
use Rattle.std.specs.Prelude.{All, Bool, true, false, nat_eq, if◌then◌else◌}
use Rattle.std.proofs.lemmas.Bool.Decides.{nat_tests}
use Rattle.std.proofs.lemmas.List.Elements.{All-head, All-tail}
use Rattle.ab_hist.specs.declared.request.Request.{Request}
use Rattle.ab_trim.proofs.RestLemmas.{place_more}
use Rattle.ab_trim.specs.Known.{last_from}
use Rattle.ab_trim.specs.Logs.{as_last, last_at, noted, padded}

pub noted-push : (n : ℕ) (h : List Request) (m : Request) (lasts : List (Option (ℕ × Request))) → noted n (h ++ m ∷ []) lasts ≡ set (noted n h lasts) m.client (Some (n + length h + 1, m))
noted-push n [] m lasts = ap (λ k. set lasts m.client (Some (k, m))) (let e : n + 1 ≡ n + 0 + 1 = omega arith in e)
noted-push n (x ∷ h) m lasts =
    noted-push (n + 1) h m (set lasts x.client (Some (n + 1, x)))
    ∙ ap (λ k. set (noted (n + 1) h (set lasts x.client (Some (n + 1, x)))) m.client (Some (k, m))) (let e : n + 1 + length h + 1 ≡ n + suc (length h) + 1 = omega arith in e)

pub noted_more : (n k i : ℕ) (h : List Request) (m copy : Request) (lasts now : List (Option (ℕ × Request))) → slice_get h (k + 1 - 1) ≡ Some m → copy ≡ m → i ≡ m.client
    → now ≡ noted n (take k h) lasts → set now i (Some (n + k + 1, copy)) ≡ noted n (take (k + 1) h) lasts
noted_more n k i h m copy lasts now at same of was =
    let more = place_more h k m at in
    let long : k ≡ length (take k h) = omega (arith, length-take k h, more.0) in
    (λ j. set (was j) (of j) (Some (n + long j + 1, same j))) ∙ sym (noted-push n (take k h) m lasts) ∙ ap (λ l. noted n l lasts) (sym more.1)

pub length-noted : (n : ℕ) (h : List Request) (lasts : List (Option (ℕ × Request))) → length (noted n h lasts) ≡ length lasts
length-noted n [] lasts = refl
length-noted n (x ∷ h) lasts = length-noted (n + 1) h (set lasts x.client (Some (n + 1, x))) ∙ length-set lasts x.client (Some (n + 1, x))

abbrev pub no_entry : List (Option (ℕ × Request)) → ℕ → Option (ℕ × Request)
no_entry xs c = get_or xs c None

pub none_at : (n c : ℕ) → no_entry (replicate n None) c ≡ None
none_at zero c = refl
none_at (suc n) zero = refl
none_at (suc n) (suc c) = none_at n c

-- what is left out has no request
pub padded-last : (lasts : List (Option (ℕ × Request))) (c : ℕ) → last_at lasts c ≡ last_at (padded lasts) c
padded-last [] c = ap as_last (sym (none_at 16 c))
padded-last (l ∷ lasts) c = refl

pub padded-whole : (lasts : List (Option (ℕ × Request))) → length lasts ≡ 16 → padded lasts ≡ lasts
padded-whole [] long = absurd (omega (arith, long))
padded-whole (l ∷ lasts) long = refl

pub padded-length : (lasts : List (Option (ℕ × Request))) → (0 < length lasts → length lasts ≡ 16) → length (padded lasts) ≡ 16
padded-length [] each = refl
padded-length (l ∷ lasts) each = each (omega arith)

pub padded-noted : (n : ℕ) (h : List Request) (lasts : List (Option (ℕ × Request))) → (0 < length h → length lasts ≡ 16) → padded (noted n h lasts) ≡ noted n h (padded lasts)
padded-noted n [] lasts long = refl
padded-noted n (m ∷ h) lasts long =
    let whole : length lasts ≡ 16 = long (omega arith) in
    padded-whole (noted n (m ∷ h) lasts) (length-noted n (m ∷ h) lasts ∙ whole) ∙ ap (noted n (m ∷ h)) (sym (padded-whole lasts whole))

-- ---- the last request of a client

set_last_by : (c p : ℕ) (m : Request) (lasts : List (Option (ℕ × Request))) (b : Bool) → nat_eq m.client c ≡ b → m.client < length lasts
    → last_at (set lasts m.client (Some (p, m))) c ≡ (if b then Some (record { place = p; request = m }) else last_at lasts c)
set_last_by c p m lasts true same within =
    let e : m.client ≡ c = grind (arith, nat_tests, same) in
    ap (last_at (set lasts m.client (Some (p, m)))) (sym e) ∙ ap as_last (get_or-set_same lasts m.client (Some (p, m)) None within)
set_last_by c p m lasts false other within =
    ap as_last (get_or-set_other lasts m.client c (Some (p, m)) None (λ (e : c ≡ m.client). let both : nat_eq m.client c ≡ true = grind (arith, nat_tests, e) in absurd (let two : true ≡ false = sym both ∙ other in cc (two))))

pub last_noted : (c n : ℕ) (h : List Request) (lasts : List (Option (ℕ × Request))) → All (λ m. m.client < length lasts) h → last_at (noted n h lasts) c ≡ last_from c n (last_at lasts c) h
last_noted c n [] lasts few = refl
last_noted c n (m ∷ h) lasts few =
    let more = set lasts m.client (Some (n + 1, m)) in
    let long : length more ≡ length lasts = length-set lasts m.client (Some (n + 1, m)) in
    last_noted c (n + 1) h more (subst (λ k. All (λ e. e.client < k) h) (sym long) (All-tail (λ e. e.client < length lasts) m h few))
    ∙ ap (λ o. last_from c (n + 1) o h) (set_last_by c (n + 1) m lasts (nat_eq m.client c) refl (All-head (λ e. e.client < length lasts) m h few))
