-- VIEW-CHANGEs and their slots, as loops read them.
use Rattle.std.proofs.Common.{◌≡◌, ℕ, suc, ◌+◌, ◌*◌, Bool, true, false, Option, None, Some, List, [], ◌∷◌, ◌++◌, refl, sym, ap, ◌∙◌, length, add-one, length-append}
use Rattle.std.specs.Prelude.{◌&&◌, nat_lt, if◌then◌else◌}
use Rattle.std.specs.List.{list_all}
use Rattle.ab_msg.specs.declared.change.Proof.{Proof}
use Rattle.ab_msg.specs.declared.value.Value.{Value}
use Rattle.ab_order.specs.Inputs.{ProvedSlot, ChangeReading}
use Rattle.ab_order.specs.Readings.{is_of_slot, with_slot, proved_slot, slots_of, change_of, with_change, changes_of}
use Rattle.ab_pbft_work.specs.Slots.{slot_of}
use Rattle.ab_pbft_work.proofs.Gathering.{before, with_next, before-next}

-- ---- one slot after another

as_next : (b : Bool) (s : ProvedSlot) (rest : Option (List ProvedSlot)) → with_slot b s rest ≡ with_next (if b then Some s else None) rest
as_next true s None = refl
as_next true s (Some rest) = refl
as_next false s rest = refl

module _ (f : ℕ) (made : List ProvedSlot) (e : ℕ × List ℕ) (v : Value) (by : List (ℕ × List ℕ)) (entries : List (ℕ × List ℕ)) (values : List Value) (signed : List (List (ℕ × List ℕ))) where
  here : before made (slots_of f (length made) (e ∷ entries) (v ∷ values) (by ∷ signed)) ≡ before made (with_next (slot_of f (length made) e v by) (slots_of f (suc (length made)) entries values signed))
  here = ap (before made) (as_next (list_all (λ s. nat_lt s.0 (3 * f + 1)) by && is_of_slot (length made) v) (proved_slot e v by) (slots_of f (suc (length made)) entries values signed))

  pub slot_follows : (slot : ProvedSlot) → Some slot ≡ slot_of f (length made) e v by
      → before (made ++ slot ∷ []) (slots_of f (length (made ++ slot ∷ [])) entries values signed) ≡ before made (slots_of f (length made) (e ∷ entries) (v ∷ values) (by ∷ signed))
  slot_follows slot gives =
      ap (λ n. before (made ++ slot ∷ []) (slots_of f n entries values signed)) (length-append made (slot ∷ []) ∙ add-one (length made))
      ∙ sym (before-next made slot (slots_of f (suc (length made)) entries values signed))
      ∙ ap (λ o. before made (with_next o (slots_of f (suc (length made)) entries values signed))) gives
      ∙ sym here

-- ---- VIEW-CHANGEs

change_next : (o : Option ChangeReading) (rest : Option (List ChangeReading)) → with_change o rest ≡ with_next o rest
change_next None rest = refl
change_next (Some change) None = refl
change_next (Some change) (Some rest) = refl

pub change_follows : (f i : ℕ) (made : List ChangeReading) (v : Proof) (proofs : List Proof) (change : ChangeReading) → Some change ≡ change_of f i v
    → before (made ++ change ∷ []) (changes_of f i proofs) ≡ before made (changes_of f i (v ∷ proofs))
change_follows f i made v proofs change gives =
    sym (before-next made change (changes_of f i proofs))
    ∙ ap (λ o. before made (with_next o (changes_of f i proofs))) gives
    ∙ ap (before made) (sym (change_next (change_of f i v) (changes_of f i proofs)))
