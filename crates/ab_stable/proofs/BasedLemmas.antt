-- A list, or a whole history, by a replica's own log of which the first entries are trimmed.
use Rattle.std.proofs.Common.{◌≡◌, ℕ, suc, ◌+◌, ◌-◌, ◌<◌, ◌≤◌, Bool, true, false, Some, None, Option, List, [], ◌∷◌, ◌++◌, length, take, drop, get_or, arith, refl, sym, ap, ◌∙◌, subst}
use Rattle.std.specs.Prelude.{◌&&◌, nat_le, bytes_eq, if◌then◌else◌, slice_get}
use Rattle.std.specs.List.{list_all}
use Rattle.std.proofs.lemmas.Bool.{le-leb, leb-true}
use Rattle.ab_hist.specs.declared.request.Request.{Request}
use Rattle.ab_hist.specs.Histories.{may_follow}
use Rattle.ab_hist.specs.Trimmed.{Trimmed, StandsFor, untrimmed, trim, holds, digest_at, end_of, forget}
use Rattle.ab_trim.proofs.Stands.{trims, whole_stands, ends, digests}
use Rattle.ab_trim.proofs.ChunkLemmas.{drop_here}
use Rattle.ab_abs.specs.Observations.{has_front}
use Rattle.ab_hist.specs.Histories.{IsHistory, IsNext, Precedes}
use Rattle.ab_trim.proofs.RestLemmas.{all_follow-Decides}
use Rattle.std.specs.Option.{option_map}
use Rattle.std.proofs.lemmas.List.{append_assoc, append-nil, length-append}
use Rattle.std.proofs.lemmas.Grind.{common_steps}
use Rattle.ab_stable.specs.Offers.{rises_behind, trimmed_at, known_by}
use Rattle.ab_stable.specs.Reading.{extended}

-- ---- fronts of a log, and points of the list that stands for it

shown_by : (t : Trimmed) (h : List Request) → StandsFor t h → (n : ℕ) (d : List ℕ) → (nat_le t.start n && has_front h n d) ≡ holds n d t
shown_by t h is n d = by_test (nat_le t.start n) refl
  where
    by_test : (b : Bool) → nat_le t.start n ≡ b → (b && has_front h n d) ≡ (b && (nat_le n (end_of t) && bytes_eq (digest_at t n) d))
    by_test true from = λ i. nat_le n (sym (ends t h is) i) && bytes_eq (sym (digests t h is n (leb-true t.start n from)) i) d
    by_test false from = refl

pub trimmed_shows : (k : ℕ) (own : List Request) → k ≤ length own → (n : ℕ) (d : List ℕ) → (nat_le k n && has_front own n d) ≡ holds n d (trim k own)
trimmed_shows k own le n d = shown_by (trim k own) own (trims k own le) n d

pub whole_shows : (h : List Request) (n : ℕ) (d : List ℕ) → has_front h n d ≡ holds n d (untrimmed h)
whole_shows h n d = ap (λ b. b && has_front h n d) (sym (le-leb 0 n (omega arith))) ∙ shown_by (untrimmed h) h (whole_stands h) n d

-- ---- entries behind a history

-- what is left of a list at a place
pub next_entry : (rest : List Request) (start place : ℕ) (m : Request) → start ≤ place → slice_get rest (place + 1 - start - 1) ≡ Some m → drop (place - start) rest ≡ m ∷ drop (place + 1 - start) rest
next_entry rest start place m le at =
    let here : place + 1 - start - 1 ≡ place - start = omega (arith, le) in
    let next : suc (place - start) ≡ place + 1 - start = omega (arith, le) in
    drop_here rest (place - start) m (ap (slice_get rest) (sym here) ∙ at) ∙ ap (λ n. m ∷ drop n rest) next

pub goes_on : (h : List Request) (m : Request) (more : List Request) → list_all (may_follow m) h ≡ true → extended h (m ∷ more) ≡ extended (h ++ m ∷ []) more
goes_on h m more is = ap (λ b. if b then extended (h ++ m ∷ []) more else None) is

pub stops : (h : List Request) (m : Request) (more : List Request) → list_all (may_follow m) h ≡ false → extended h (m ∷ more) ≡ None
stops h m more is = ap (λ b. if b then extended (h ++ m ∷ []) more else None) is

-- ---- the same of the whole history

pub extended_is : (h more : List Request) → extended h more ≡ (if rises_behind h more then Some (h ++ more) else None)
extended_is h [] = ap Some (sym (append-nil h))
extended_is h (m ∷ more) = by_test (list_all (may_follow m) h) (extended_is (h ++ m ∷ []) more)
  where
    by_test : (b : Bool) → extended (h ++ m ∷ []) more ≡ (if rises_behind (h ++ m ∷ []) more then Some ((h ++ m ∷ []) ++ more) else None)
        → (if b then extended (h ++ m ∷ []) more else None) ≡ (if b && rises_behind (h ++ m ∷ []) more then Some (h ++ m ∷ more) else None)
    by_test true is = is ∙ ap (λ (g : List Request). if rises_behind (h ++ m ∷ []) more then Some g else None) (append_assoc h (m ∷ []) more)
    by_test false is = refl

-- an entry of a history follows those before it
follows_front : (p : List Request) (m : Request) (q : List Request) → IsHistory (p ++ m ∷ q) → IsNext p m
follows_front p m q is n d lt =
    let within : length p < length (p ++ m ∷ q) = omega (arith, length-append p (m ∷ q)) in
    let low : get_or (p ++ m ∷ q) n d ≡ get_or p n d = grind (arith, common_steps) in
    let here : get_or (p ++ m ∷ q) (length p) d ≡ m = grind (arith, common_steps) in
    subst (λ (e : Request). Precedes e m) low (subst (λ (e : Request). Precedes (get_or (p ++ m ∷ q) n d) e) here (is n (length p) d lt within))

-- behind a history only what is new is looked at
pub rises_after : (p q more : List Request) → IsHistory (p ++ q) → rises_behind p (q ++ more) ≡ rises_behind (p ++ q) more
rises_after p [] more is = ap (λ (h : List Request). rises_behind h more) (sym (append-nil p))
rises_after p (m ∷ q) more is =
    let follows = (all_follow-Decides m p).1 (follows_front p m q is) in
    let longer : (p ++ m ∷ []) ++ q ≡ p ++ m ∷ q = append_assoc p (m ∷ []) q in
    ap (λ b. b && rises_behind (p ++ m ∷ []) (q ++ more)) follows ∙ rises_after (p ++ m ∷ []) q more (subst IsHistory (sym longer) is) ∙ ap (λ (h : List Request). rises_behind h more) longer

-- what is pushed behind a history is what rises there as a whole
pub extended_rises : (n : ℕ) (front more : List Request) → IsHistory front → trimmed_at n (front ++ more) ≡ option_map (λ h. record { base = h; trimmed = n }) (extended front more)
extended_rises n front more is = by_test (rises_behind front more) (rises_after [] front more is) (extended_is front more)
  where
    by_test : (b : Bool) → rises_behind [] (front ++ more) ≡ b → extended front more ≡ (if b then Some (front ++ more) else None) → trimmed_at n (front ++ more) ≡ option_map (λ h. record { base = h; trimmed = n }) (extended front more)
    by_test true rises is' = ap (λ z. if z then Some (record { base = front ++ more; trimmed = n }) else None) rises ∙ sym (ap (option_map (λ h. record { base = h; trimmed = n })) is')
    by_test false rises is' = ap (λ z. if z then Some (record { base = front ++ more; trimmed = n }) else None) rises ∙ sym (ap (option_map (λ h. record { base = h; trimmed = n })) is')

pub known_extended : (own : List Request) (t : Trimmed) (n : ℕ) (o : Option (List Request)) → IsHistory (take n own) → extended (take n own) (drop (n - t.start) t.rest) ≡ o
    → known_by own (Some (forget n t)) ≡ option_map (λ h. record { base = h; trimmed = n }) o
known_extended own t n o front is = extended_rises n (take n own) (drop (n - t.start) t.rest) front ∙ ap (option_map (λ h. record { base = h; trimmed = n })) is
