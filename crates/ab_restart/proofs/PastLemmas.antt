-- A journal's events, and the first entry that it can't have.
use Rattle.std.proofs.Common.{◌≡◌, ◌≢◌, ℕ, zero, suc, ◌+◌, ◌<◌, List, [], ◌∷◌, map, length, drop, Option, None, Some, All, Vec, inl, inr, refl, ap, sym, subst, arith, slice_index_or}
use Rattle.std.proofs.lemmas.Slice.Eq.{bytes_eq-Decides}
use Rattle.std.specs.Prelude.{true, not}
use Rattle.std.specs.Str.{bytes_eq}
use Rattle.std.specs.declared.alloc.Global.{Global}
use Rattle.ab_loop.specs.Cores.{NodeEvent}
use Rattle.ab_loop.specs.Past.{IsEvent, IsFirstForeign, Spell, body_of, event_in, texts_of}
use Rattle.ab_loop.proofs.PastLemmas.{alone}
use Rattle.ab_restart.specs.Pasts.{IsForeign, IsPast, begun}

-- ---- what stands in it

all_more : (e : NodeEvent) (es : List NodeEvent) → IsEvent e → All IsEvent es → All IsEvent (e ∷ es)
all_more e es here rest zero d lt = here
all_more e es here rest (suc k) d lt = rest k d (omega (arith, lt))

are_made : (bodies : List (List ℕ)) (events : List NodeEvent) → Spell bodies events → (bodies ≡ map body_of events) × All IsEvent events
are_made [] [] spell = (refl, λ k d lt. absurd (omega (arith, lt)))
are_made [] (e ∷ es) spell = absurd (omega (arith, ap length spell))
are_made (b ∷ bs) [] spell = absurd (omega (arith, ap length spell))
are_made (b ∷ bs) (e ∷ es) spell =
    let head : event_in b ≡ Some e = ap (λ (l : List (Option NodeEvent)). slice_index_or l 0 None) spell in
    let tail : Spell bs es = ap (λ (l : List (Option NodeEvent)). drop 1 l) spell in
    let first = alone b e head in
    let rest = are_made bs es tail in
    (λ j. first.0 j ∷ rest.0 j, all_more e es first.1 rest.1)

pub are_kept : (first : List ℕ) (bodies : List (List ℕ)) (events : List NodeEvent) → IsPast first bodies events → (begun first bodies ≡ first ∷ map body_of events) × All IsEvent events
are_kept first [] events none = (ap (λ (es : List NodeEvent). first ∷ map body_of es) (sym none), subst (All IsEvent) (sym none) (λ k d lt. absurd (omega (arith, lt))))
are_kept first (body ∷ bodies) events past =
    let made = are_made bodies events past.1 in
    (λ j. past.0 j ∷ made.0 j, made.1)

-- ---- one that isn't empty

pub differ : (a b : List ℕ) → true ≡ not (bytes_eq a b) → a ≢ b
differ a b other same = let equal = (bytes_eq-Decides a b).1 same in cc

pub not_first : (first : List ℕ) (bodies : List (Vec ℕ Global)) (d : Vec ℕ Global) → 0 < length bodies → (slice_index_or bodies 0 d).items ≢ first → IsForeign first (texts_of bodies) 1
not_first first [] d some other = absurd (omega (arith, some))
not_first first (b ∷ bs) d some other = inl (other, refl)

pub behind_first : (first : List ℕ) (bodies rest : List (Vec ℕ Global)) (d : Vec ℕ Global) (events : List NodeEvent) → 0 < length bodies → (slice_index_or bodies 0 d).items ≡ first → rest ≡ drop 1 bodies → Spell (texts_of rest) events
    → IsPast first (texts_of bodies) events
behind_first first [] rest d events some is behind spell = absurd (omega (arith, some))
behind_first first (b ∷ bs) rest d events some is behind spell = (is, subst (λ (l : List (Vec ℕ Global)). Spell (texts_of l) events) behind spell)

pub foreign_behind : (first : List ℕ) (bodies rest : List (Vec ℕ Global)) (d : Vec ℕ Global) (n : ℕ) → 0 < length bodies → (slice_index_or bodies 0 d).items ≡ first → rest ≡ drop 1 bodies → IsFirstForeign (texts_of rest) n
    → IsForeign first (texts_of bodies) (n + 1)
foreign_behind first [] rest d n some is behind foreign = absurd (omega (arith, some))
foreign_behind first (b ∷ bs) rest d n some is behind foreign = inr (is, n, subst (λ (l : List (Vec ℕ Global)). IsFirstForeign (texts_of l) n) behind foreign, refl)
