-- What is read is in form.
use Rattle.std.proofs.Common.{ℕ, ◌+◌, ◌*◌, ◌<◌, ◌≤◌, List, [], ◌∷◌, ◌++◌, Ok, length, arith}
use Rattle.std.specs.Prelude.{All, AllPairs, Contains}
use Rattle.std.proofs.lemmas.List.Elements.{All-nil, All-cons, All-contains, All-from_recursion, Contains-push, Contains-append_left}
use Rattle.std.proofs.lemmas.List.Kept.{AllPairs-cons}
use Rattle.ab_num.specs.declared.party.Party.{Party}
use Rattle.ab_num.specs.declared.party.Party.TheVariants.{Replica, Client}
use Rattle.ab_text.specs.EventLines.{IsEvent}
use Rattle.ab_text.specs.Heads.{Script}
use Rattle.ab_text.specs.Schedules.{ReadsText, IsBefore, IsInside}
use Rattle.ab_text.specs.Spelling.{AreFaulty}
use Rattle.ab_text.specs.Forms.{IsDeclared, IsInForm}
use Rattle.ab_text.proofs.SpellingLemmas.{read_built, read_spelled}

abbrev Declared : Type 0
Declared = Party × ℕ

abbrev Precedes : Declared → Declared → Type 0
Precedes x later = IsBefore x.0 later.0

declared : (f clients : ℕ) (xs done : List Declared) → AreFaulty f clients done xs → All (IsDeclared f clients) xs
declared f clients [] done next = All-nil (IsDeclared f clients)
declared f clients (x ∷ xs) done next =
    All-cons (IsDeclared f clients) x xs (record { inside = next.0.inside; some = next.0.some; few = next.0.few }) (declared f clients xs (done ++ x ∷ []) next.1)

-- what was before comes before the rest
before : (f clients : ℕ) (x : Declared) (ys done : List Declared) → Contains done x → AreFaulty f clients done ys → All (Precedes x) ys
before f clients x [] done there next = All-nil (Precedes x)
before f clients x (y ∷ ys) done there next =
    All-cons (Precedes x) y ys (All-contains (λ z. Precedes z y) done x next.0.ascending there)
    (before f clients x ys (done ++ y ∷ []) (Contains-append_left done (y ∷ []) x there) next.1)

ascending : (f clients : ℕ) (xs done : List Declared) → AreFaulty f clients done xs → AllPairs Precedes xs
ascending f clients [] done next = λ i j d low high. absurd (omega (arith, high))
ascending f clients (x ∷ xs) done next =
    AllPairs-cons Precedes x xs (before f clients x xs (done ++ x ∷ []) (Contains-push done x) next.1) (ascending f clients xs (done ++ x ∷ []) next.1)

-- the place among all parties of the cluster
abbrev place : ℕ → Party → ℕ
place f (Replica r) = r
place f (Client c) = 3 * f + 1 + c

place_inside : (f clients : ℕ) (p : Party) → IsInside f clients p → place f p < 3 * f + 1 + clients
place_inside f clients (Replica r) inside = omega arith
place_inside f clients (Client c) inside = omega arith

place_rises : (f clients : ℕ) (p q : Party) → IsInside f clients p → IsBefore p q → place f p < place f q
place_rises f clients (Replica r) (Replica s) inside low = low
place_rises f clients (Replica r) (Client d) inside low = omega arith
place_rises f clients (Client c) (Replica s) inside low = absurd low
place_rises f clients (Client c) (Client d) inside low = omega arith

few_after : (f clients : ℕ) (x : Declared) (xs done : List Declared) → IsInside f clients x.0 → AreFaulty f clients (done ++ x ∷ []) xs → place f x.0 + 1 + length xs ≤ 3 * f + 1 + clients
few_after f clients x [] done inside next = let low = place_inside f clients x.0 inside in omega (arith, low)
few_after f clients x (y ∷ ys) done inside next =
    let rises = place_rises f clients x.0 y.0 inside (All-contains (λ z. Precedes z y) (done ++ x ∷ []) x next.0.ascending (Contains-push done x)) in
    let rest = few_after f clients y ys (done ++ x ∷ []) next.0.inside next.1 in
    omega (arith, rises, rest)

few : (f clients : ℕ) (xs : List Declared) → AreFaulty f clients [] xs → length xs ≤ 3 * f + 1 + clients
few f clients [] next = omega arith
few f clients (x ∷ xs) next = let all = few_after f clients x xs [] next.0.inside next.1 in omega (arith, all)

pub read_in_form : (text : List ℕ) (s : Script) → ReadsText text (Ok s) → IsInForm s
read_in_form text s reads =
    let schedule = (read_spelled text s reads).schedule in
    record {
      built = read_built text s reads;
      seed = schedule.seed;
      parties = declared s.f s.clients s.faulty [] schedule.faulty;
      ascending = ascending s.f s.clients s.faulty [] schedule.faulty;
      few = few s.f s.clients s.faulty schedule.faulty;
      events = All-from_recursion IsEvent s.events schedule.events;
    }
