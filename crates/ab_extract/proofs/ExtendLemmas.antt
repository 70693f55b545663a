-- What lists that begin with a history agree on extends it.
use Rattle.std.proofs.Common.{◌≡◌, ℕ, ◌+◌, ◌<◌, ◌≤◌, Bool, true, false, List, [], ◌∷◌, length, take, map, refl, sym, ap, ◌∙◌, subst, inl, inr, arith}
use Rattle.std.specs.Prelude.{count_by, nat_le}
use Rattle.std.specs.List.{filter, starts_with}
use Rattle.std.proofs.lemmas.Bool.{cases_Bool}
use Rattle.std.proofs.Math.Seq.{take-length}
use Rattle.std.proofs.lemmas.List.{append-nil}
use mathlib.Core.List.{IsPrefix}
use base.Growing.{prefix_trans}
use Rattle.ab_hist.specs.declared.request.Request.{Request}
use Rattle.ab_hist.specs.Requests.{request_eq}
use Rattle.ab_abs.specs.Extraction.{holders, IsExtract}
use Rattle.ab_abs.specs.Rules.{IsExtension}
use Rattle.ab_num.proofs.Lists.{count_by-yes, count_by-no}
use Rattle.ab_abs.proofs.Extracts.{starts_with-Decides, holder_begins_extract}
use Rattle.ab_extract.specs.Walks.{common_of}
use Rattle.ab_extract.proofs.WalkLemmas.{common_says, count_most}

abbrev pub with_front : List Request → List (List Request) → List (List Request)
with_front k lists = filter (λ l. starts_with request_eq l k) lists

-- the lists that were kept, seen as histories
begun_are : {A : Type 0} (f : A → List Request) (k : List Request) (refs : List A) → map f (filter (λ x. starts_with request_eq (f x) k) refs) ≡ with_front k (map f refs)
begun_are f k [] = refl
begun_are f k (x ∷ refs) =
    elim (cases_Bool (starts_with request_eq (f x) k)) [
      | inl yes' ↦ rw yes' (ap (λ ls. f x ∷ ls) (begun_are f k refs))
      | inr no' ↦ rw no' (begun_are f k refs)
    ]

-- no list that begins with an extension of k is left out
holders_kept : (k g : List Request) (lists : List (List Request)) → IsPrefix k g → holders (with_front k lists) g ≡ holders lists g
holders_kept k g [] begins = refl
holders_kept k g (l ∷ lists) begins =
    let test : List Request → Bool = λ l. starts_with request_eq l g in
    let rest = holders_kept k g lists begins in
    elim (cases_Bool (starts_with request_eq l k)) [
      | inl yes' ↦ rw yes' (elim (cases_Bool (test l)) [
        | inl holds ↦ omega (arith, rest, count_by-yes test l (with_front k lists) holds, count_by-yes test l lists holds)
        | inr lacks ↦ omega (arith, rest, count_by-no test l (with_front k lists) lacks, count_by-no test l lists lacks)
      ])
      | inr no' ↦ rw no' (elim (cases_Bool (test l)) [
        | inl holds ↦ absurd (let also = (starts_with-Decides l k).1 (prefix_trans k g l begins ((starts_with-Decides l g).0 holds)) in let both : true ≡ false = sym also ∙ no' in cc (both))
        | inr lacks ↦ omega (arith, rest, count_by-no test l lists lacks)
      ])
    ]

all_hold : (k : List Request) (lists : List (List Request)) → holders (with_front k lists) k ≡ length (with_front k lists)
all_hold k [] = refl
all_hold k (l ∷ lists) =
    elim (cases_Bool (starts_with request_eq l k)) [
      | inl yes' ↦ rw yes' (omega (arith, all_hold k lists, count_by-yes (λ l. starts_with request_eq l k) l (with_front k lists) yes'))
      | inr no' ↦ rw no' (all_hold k lists)
    ]

fewer_left : (k : List Request) (lists : List (List Request)) → length (with_front k lists) ≤ length lists
fewer_left k [] = omega arith
fewer_left k (l ∷ lists) =
    elim (cases_Bool (starts_with request_eq l k)) [
      | inl yes' ↦ rw yes' (omega (arith, fewer_left k lists))
      | inr no' ↦ rw no' (omega (arith, fewer_left k lists))
    ]

held_most : (k : List Request) (lists : List (List Request)) → holders lists k ≡ length (with_front k lists)
held_most k lists = sym (holders_kept k k lists (begins_itself k)) ∙ all_hold k lists
  where
    begins_itself : (k : List Request) → IsPrefix k k
    begins_itself k = ([], append-nil k)

holders_fall : (k g : List Request) (lists : List (List Request)) → IsPrefix k g → holders lists g ≤ length (with_front k lists)
holders_fall k g lists begins = omega (arith, holders_kept k g lists begins, count_most (λ l. starts_with request_eq l g) (with_front k lists))

-- what enough of these lists agree on is the extension
pub agreed_extends : (q : ℕ) (lists : List (List Request)) (k h : List Request) → length lists < q + q → q ≤ length (with_front k lists) → IsExtract q (with_front k lists) h → IsExtension q lists k h
agreed_extends q lists k h half enough is =
    let begins = holder_begins_extract q (with_front k lists) h k (omega (arith, half, fewer_left k lists)) is (omega (arith, enough, all_hold k lists)) in
    record {
      extends = begins;
      held = inr (omega (arith, is.held, holders_kept k h lists begins));
      longest = λ g from held. is.longest g (omega (arith, held, holders_kept k g lists from));
    }

-- where too few begin with it, it is all
pub alone_extends : (q : ℕ) (lists : List (List Request)) (k : List Request) → length (with_front k lists) < q → IsExtension q lists k k
alone_extends q lists k few = record {
  extends = ([], append-nil k);
  held = inl refl;
  longest = λ g from held. absurd (omega (arith, few, held, holders_fall k g lists from));
}

-- the same where e is that front
pub begun_lists : {A : Type 0} (f : A → List Request) (k e : List Request) (refs items : List A) → e ≡ k → items ≡ filter (λ x. starts_with request_eq (f x) e) refs → map f items ≡ with_front k (map f refs)
begun_lists f k e refs items same are = ap (map f) are ∙ begun_are f e refs ∙ ap (λ (h : List Request). with_front h (map f refs)) same
