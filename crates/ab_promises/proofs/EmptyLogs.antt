-- Acts in which every history is empty: their digests tell them apart.
use Rattle.std.proofs.Common.{◌≡◌, ◌⊎◌, Option, Some, None, List, [], ◌∷◌, ◌++◌, length, sym, ap, ◌∙◌, subst, inl, inr, refl, arith}
use Rattle.std.specs.Prelude.{Contains}
use Rattle.std.proofs.lemmas.Option.{none-some, same_Some}
use Rattle.std.proofs.lemmas.List.Elements.{Contains-append_cases}
use mathlib.Core.List.{IsPrefix}
use Rattle.ab_num.proofs.Lists.{Contains-none, Contains-one, Contains-cons_cases}
use Rattle.ab_hist.specs.declared.request.Request.{Request}
use Rattle.ab_hist.specs.Digests.{NoCollision, digest_of}
use Rattle.ab_hist.specs.Histories.{IsHistory}
use Rattle.ab_abs.specs.Acts.{Act, State, SlotsApart, histories, histories_of_act, with_first}

pub rises : IsHistory []
rises i j e less in_h = absurd (omega (arith, in_h))

-- all histories of an act are empty
abbrev pub AllEmpty : List (List Request) → Type 0
AllEmpty hs = (h : List Request) → Contains hs h → h ≡ []

empty_both : (hs ks : List (List Request)) → AllEmpty hs → AllEmpty ks → AllEmpty (hs ++ ks)
empty_both hs ks one two h has = elim (Contains-append_cases hs ks h has) [ inl in_hs ↦ one h in_hs | inr in_ks ↦ two h in_ks ]

pub more_empty : (a : Act) (acts : List Act) → AllEmpty (histories_of_act a) → AllEmpty (histories acts) → AllEmpty (histories (a ∷ acts))
more_empty a acts = empty_both (histories_of_act a) (histories acts)

first_empty : (o : Option (List Request)) → (o ≡ None) ⊎ (o ≡ Some []) → AllEmpty (with_first o)
first_empty None is h has = absurd (Contains-none h has)
first_empty (Some l) (inl is) h has = absurd (none-some l (sym is))
first_empty (Some l) (inr is) h has = sym (Contains-one l h has) ∙ same_Some l [] is

-- nothing is logged, and at most the empty base is accepted
pub record IsIdle (s : State) : Type 0 where
  pub entered : s.entered ≡ []
  pub logged : s.log ≡ []
  pub first : (s.first ≡ None) ⊎ (s.first ≡ Some [])

pub state_empty : (s : State) → IsIdle s → AllEmpty (s.log ∷ s.entered ∷ (with_first s.first ++ []))
state_empty s idle h has =
    elim (Contains-cons_cases s.log (s.entered ∷ (with_first s.first ++ [])) h has) [
      | inl e ↦ sym e ∙ idle.logged
      | inr more ↦ elim (Contains-cons_cases s.entered (with_first s.first ++ []) h more) [
        | inl e ↦ sym e ∙ idle.entered
        | inr last ↦ empty_both (with_first s.first) [] (first_empty s.first idle.first) (λ l none. absurd (Contains-none l none)) h last
      ]
    ]

empty_begins : (a : List Request) → IsPrefix a [] → a ≡ []
empty_begins [] is = refl
empty_begins (m ∷ a) is = absurd (cc (is.1))

module _ (hs : List (List Request)) (empty : AllEmpty hs) where
  pub empty_apart : NoCollision hs
  empty_apart h k a b in_h in_k begins_h begins_k e =
      empty_begins a (subst (λ (l : List Request). IsPrefix a l) (empty h in_h) begins_h)
      ∙ sym (empty_begins b (subst (λ (l : List Request). IsPrefix b l) (empty k in_k) begins_k))

  pub empty_slots : SlotsApart hs []
  empty_slots = record {
    requests = λ m n in_m in_n e. absurd (Contains-none m in_m);
    lengths = λ h k in_h in_k e. ap length (empty h in_h ∙ sym (empty k in_k));
    digests = λ h k in_h in_k e. ap digest_of (empty h in_h ∙ sym (empty k in_k));
  }
