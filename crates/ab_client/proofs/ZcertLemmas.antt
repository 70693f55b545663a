-- The certificate of answers that signatures make.
use Rattle.std.proofs.Common.{◌≡◌, ℕ, ◌+◌, ◌*◌, ◌≤◌, true, Some, None, List, length, map, take, arith, sym, ap, ◌∙◌, subst, if◌then◌else◌}
use Rattle.std.specs.Prelude.{nat_le}
use Rattle.std.proofs.lemmas.Bool.Decides.{nat_tests}
use Rattle.std.proofs.lemmas.List.{length-map, take-map}
use Rattle.arrayvec.specs.ArrayVec.{ArrayVec}
use Rattle.ab_hist.specs.declared.request.Request.{Request}
use Rattle.ab_msg.specs.declared.zcert.Zcert.{Zcert}
use Rattle.ab_abs.specs.declared.ballot.Ballot.{Ballot}
use Rattle.ab_run.specs.Asking.{zcert_of_sigs}

module _ (f : ℕ) (m : Request) (b : Ballot) where
  abbrev certificate : ArrayVec ℕ → List (ℕ × List ℕ) → Zcert
  certificate reply some = record { client = m.client; stamp = m.stamp; n = b.n; d = b.d; reply = reply; sigs = some }

  zcert_made : (sigs : List (ℕ × List ℕ)) → 2 * f + 1 ≤ length sigs → zcert_of_sigs f m b sigs ≡ Some (certificate b.reply (take (2 * f + 1) sigs))
  zcert_made sigs many = ap (λ t. if t then Some (certificate b.reply (take (2 * f + 1) sigs)) else None) (is_le (2 * f + 1) (length sigs) many)
    where
      is_le : (x y : ℕ) → x ≤ y → nat_le x y ≡ true
      is_le x y le = grind (arith, nat_tests)

  -- of the first 2f + 1 signatures, as they are lent
  pub zcert_of_lent : {A : Type 0} (g : A → ℕ × List ℕ) (lent : List A) (reply : ArrayVec ℕ) (own : List (ℕ × List ℕ)) → 2 * f + 1 ≤ length lent → reply ≡ b.reply → own ≡ map g (take (2 * f + 1) lent)
      → Some (certificate reply own) ≡ zcert_of_sigs f m b (map g lent)
  zcert_of_lent g lent reply own many same first =
      (λ i. Some (certificate (same i) ((first ∙ sym (take-map g (2 * f + 1) lent)) i)))
      ∙ sym (zcert_made (map g lent) (subst (λ (n : ℕ). 2 * f + 1 ≤ n) (sym (length-map lent g)) many))
