-- The PREPAREs that are kept signed are the votes that the rules keep, so enough votes have signatures.
use Rattle.std.proofs.Common.{◌≡◌, ℕ, zero, suc, ◌+◌, ◌*◌, ◌<◌, ◌≤◌, ◌==◌, Bool, true, false, List, [], ◌∷◌, ◌⊎◌, length, take, map, refl, sym, ap, ◌∙◌, subst, inl, inr, arith, length-append}
use Rattle.std.specs.Prelude.{Contains, ◌&&◌, ◌||◌, nat_lt, if◌then◌else◌}
use Rattle.std.specs.List.{list_any}
use Rattle.std.specs.Str.{bytes_eq}
use Rattle.std.proofs.lemmas.Bool.{cases_Bool, leb-true, ltb-false, and_parts, ltb-true}
use Rattle.std.proofs.lemmas.Bool.Decides.{Decides-eqb}
use Rattle.std.proofs.lemmas.List.Elements.{Contains-append_cases}
use Rattle.ab_num.proofs.Lists.{Contains-head, Contains-tail, Contains-cons_cases, Contains-one, Contains-none}
use Rattle.ab_msg.specs.Fields.{IsSig, IsSigner}
use Rattle.ab_msg.specs.Certs.{ArePrepares}
use Rattle.ab_abs.proofs.Certified.{all_of}
use Rattle.ab_lock.specs.Quorums.{quorum}
use Rattle.ab_lock.specs.Votes.{SlotVote, keep, voters, is_enough}
use Rattle.ab_lock.proofs.Lists.{Contains-take}
use Rattle.ab_pbft_shelf.specs.declared.kept.SignedVote.{SignedVote}
use Rattle.ab_pbft_shelf.specs.Shelves.{is_of, has_ballot, put_ballot, is_for, signer_in, signers_below}
use Rattle.ab_pbft_drafts.specs.Bounds.{vote_of, AreBallots}
use Rattle.ab_pbft_drafts.proofs.Lists.{some_taken, few_taken}

-- ---- one more

any_same : (by slot : ℕ) (ballots : List SignedVote) → list_any (λ w. (w.by == by) && (w.slot == slot)) (map vote_of ballots) ≡ has_ballot ballots by slot
any_same by slot [] = refl
any_same by slot (b ∷ ballots) = ap (λ r. is_of by slot b || r) (any_same by slot ballots)

kept_if : (b : SignedVote) (ballots : List SignedVote) (there : Bool) → (if there then map vote_of ballots else (vote_of b ∷ map vote_of ballots)) ≡ map vote_of (if there then ballots else (b ∷ ballots))
kept_if b ballots true = refl
kept_if b ballots false = refl

kept_same : (b : SignedVote) (ballots : List SignedVote) → keep (vote_of b) (map vote_of ballots) ≡ map vote_of (put_ballot b ballots)
kept_same b ballots = ap (λ there. if there then map vote_of ballots else (vote_of b ∷ map vote_of ballots)) (any_same b.by b.slot ballots) ∙ kept_if b ballots (has_ballot ballots b.by b.slot)

put_in : (b : SignedVote) (ballots : List SignedVote) (x : SignedVote) → Contains (put_ballot b ballots) x → (b ≡ x) ⊎ Contains ballots x
put_in b ballots x has =
    elim (cases_Bool (has_ballot ballots b.by b.slot)) [
      | inl there ↦ inr (rw there at has)
      | inr new ↦ Contains-cons_cases b ballots x (rw new at has)
    ]

pub ballots_put : (f : ℕ) (votes : List (SlotVote (List ℕ))) (ballots : List SignedVote) (b : SignedVote) → AreBallots f votes ballots → b.by < 3 * f + 1 → IsSig b.sig → AreBallots f (keep (vote_of b) votes) (put_ballot b ballots)
ballots_put f votes ballots b was within signed = record {
  same = ap (λ l. keep (vote_of b) l) was.same ∙ kept_same b ballots;
  within = λ x has. elim (put_in b ballots x has) [
    | inl e ↦ subst (λ (z : SignedVote). z.by < 3 * f + 1) e within
    | inr there ↦ was.within x there
  ];
  signed = λ x has. elim (put_in b ballots x has) [
    | inl e ↦ subst (λ (z : SignedVote). IsSig z.sig) e signed
    | inr there ↦ was.signed x there
  ];
}

pub no_ballots : (f : ℕ) → AreBallots f [] []
no_ballots f = record { same = refl; within = λ b has. absurd (Contains-none b has); signed = λ b has. absurd (Contains-none b has) }

-- ---- enough of them

voter_there : (n : ℕ) (x : List ℕ) (ballots : List SignedVote) → 1 ≤ length (voters bytes_eq (map vote_of ballots) n x) → (b : SignedVote) × Contains ballots b × (((b.slot == n) && bytes_eq b.x x) ≡ true)
voter_there n x [] some = absurd (omega (arith, some))
voter_there n x (b ∷ ballots) some =
    elim (cases_Bool ((b.slot == n) && bytes_eq b.x x)) [
      | inl fits ↦ (b, Contains-head b ballots, fits)
      | inr other ↦ let w = voter_there n x ballots (rw other at some) in (w.0, Contains-tail b w.0 ballots w.1, w.2)
    ]

self_for : (b : SignedVote) (n : ℕ) (x : List ℕ) → ((b.slot == n) && bytes_eq b.x x) ≡ true → is_for b.by n x b ≡ true
self_for b n x fits = let w = and_parts (b.slot == n) (bytes_eq b.x x) fits in rw ((Decides-eqb b.by b.by).1 refl, w.0, w.1) refl

signer_there : (n : ℕ) (x : List ℕ) (ballots : List SignedVote) (b : SignedVote) → Contains ballots b → ((b.slot == n) && bytes_eq b.x x) ≡ true → 1 ≤ length (signer_in b.by n x ballots)
signer_there n x [] b has fits = absurd (Contains-none b has)
signer_there n x (o ∷ ballots) b has fits =
    elim (cases_Bool (is_for b.by n x o)) [
      | inl here ↦ rw here (omega arith)
      | inr other ↦ rw other (elim (Contains-cons_cases o ballots b has) [
        | inl e ↦ let is : is_for b.by n x o ≡ true = subst (λ (z : SignedVote). is_for b.by n x z ≡ true) (sym e) (self_for b n x fits) in absurd (cc (other, is))
        | inr more ↦ signer_there n x ballots b more fits
      ])
    ]

below_there : (n r slot : ℕ) (x : List ℕ) (ballots : List SignedVote) → r < n → 1 ≤ length (signer_in r slot x ballots) → 1 ≤ length (signers_below n slot x ballots)
below_there zero r slot x ballots lt some = absurd (omega (arith, lt))
below_there (suc n) r slot x ballots lt some =
    let len = length-append (signers_below n slot x ballots) (signer_in n slot x ballots) in
    elim (cases_Bool (nat_lt r n)) [
      | inl less ↦ omega (arith, len, below_there n r slot x ballots (ltb-true r n less) some)
      | inr last ↦
          let e : r ≡ n = omega (arith, lt, ltb-false r n last) in
          let some' : 1 ≤ length (signer_in n slot x ballots) = subst (λ (q : ℕ). 1 ≤ length (signer_in q slot x ballots)) e some in
          omega (arith, len, some')
    ]

signer_is : (r slot : ℕ) (x : List ℕ) (ballots : List SignedVote) (s : ℕ × List ℕ) → Contains (signer_in r slot x ballots) s → (b : SignedVote) × Contains ballots b × ((r, b.sig) ≡ s)
signer_is r slot x [] s has = absurd (Contains-none s has)
signer_is r slot x (b ∷ ballots) s has =
    elim (cases_Bool (is_for r slot x b)) [
      | inl here ↦ (b, Contains-head b ballots, Contains-one (r, b.sig) s (rw here at has))
      | inr other ↦ let w = signer_is r slot x ballots s (rw other at has) in (w.0, Contains-tail b w.0 ballots w.1, w.2)
    ]

below_is : (n slot : ℕ) (x : List ℕ) (ballots : List SignedVote) (s : ℕ × List ℕ) → Contains (signers_below n slot x ballots) s → (s.0 < n) × ((b : SignedVote) × Contains ballots b × (b.sig ≡ s.1))
below_is zero slot x ballots s has = absurd (Contains-none s has)
below_is (suc n) slot x ballots s has =
    elim (Contains-append_cases (signers_below n slot x ballots) (signer_in n slot x ballots) s has) [
      | inl below ↦ let w = below_is n slot x ballots s below in (omega (arith, w.0), w.1)
      | inr last ↦
          let w = signer_is n slot x ballots s last in
          let e : n ≡ s.0 = ap (λ (z : ℕ × List ℕ). z.0) w.2 in
          (omega (arith, e), (w.0, w.1, ap (λ (z : ℕ × List ℕ). z.1) w.2))
    ]

-- the PREPAREs of the lowest 2f + 1 replicas, where the rules have enough votes
pub enough_signed : (f slot : ℕ) (x : List ℕ) (votes : List (SlotVote (List ℕ))) (ballots : List SignedVote) → f ≤ 2 → AreBallots f votes ballots → is_enough bytes_eq f votes slot x ≡ true
    → ArePrepares (take (quorum f) (signers_below (3 * f + 1) slot x ballots))
enough_signed f slot x votes ballots few are many =
    let all = signers_below (3 * f + 1) slot x ballots in
    let many' : is_enough bytes_eq f (map vote_of ballots) slot x ≡ true = subst (λ (l : List (SlotVote (List ℕ))). is_enough bytes_eq f l slot x ≡ true) are.same many in
    let b = voter_there slot x ballots (omega (arith, leb-true (quorum f) (length (voters bytes_eq (map vote_of ballots) slot x)) many')) in
    let some : 1 ≤ length all = below_there (3 * f + 1) b.0.by slot x ballots (are.within b.0 b.1) (signer_there slot x ballots b.0 b.1 b.2) in
    let size : quorum f ≡ suc (2 * f) = omega arith in (
      (subst (λ (n : ℕ). 1 ≤ length (take n all)) (sym size) (some_taken (2 * f) all some), omega (arith, few_taken (quorum f) all, few)),
      all_of IsSigner (take (quorum f) all) (λ s has.
          let w = below_is (3 * f + 1) slot x ballots s (Contains-take (quorum f) all s has) in
          ((omega arith, omega (arith, w.0, few)), subst (λ (sig : List ℕ). IsSig sig) w.1.2 (are.signed w.1.0 w.1.1))),
    )
