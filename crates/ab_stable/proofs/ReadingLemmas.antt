-- Certificates that are read ABORT by ABORT, and what they agree on.
use Rattle.std.proofs.Common.{◌≡◌, ℕ, ◌+◌, ◌*◌, ◌<◌, ◌≤◌, false, Option, Some, None, Result, Ok, Err, IfOk, IfSome, IfNone, List, [], ◌∷◌, ◌++◌, length, map, eqb, arith, refl, sym, ap, ◌∙◌, append_assoc, length-append}
use Rattle.std.specs.Prelude.{◌&&◌}
use Rattle.std.specs.Option.{option_map}
use Rattle.std.proofs.lemmas.Bool.{ne_eqb}
use Rattle.std.proofs.lemmas.List.{length-map}
use Rattle.ab_num.specs.declared.cluster.Cluster.{Cluster}
use Rattle.ab_hist.specs.Trimmed.{Trimmed}
use Rattle.ab_msg.specs.declared.signed.Signed.{Signed}
use Rattle.ab_trim.specs.Logs.{TrimmedLog}
use Rattle.ab_trim.specs.Points.{IsAgreedList, point_holders}
use Rattle.ab_abs.specs.Certificates.{are_apart}
use Rattle.ab_stable.specs.AgreedLists.{agreed_list}
use Rattle.ab_stable.specs.Certs.{Stated}
use Rattle.ab_stable.specs.Offers.{list_stated, with_stated, all_stated}
use Rattle.ab_stable.specs.Reading.{are_valid}
use Rattle.ab_stable.proofs.FoundLists.{agrees_found, none_there}

-- what was gone over, and then what the rest states
abbrev pub gone_over : {A : Type 0} → (Stated → A) → List A → Option (List Stated) → Option (List A)
gone_over g xs o = option_map (λ vs. xs ++ map g vs) o

pub one_more : {A : Type 0} (g : Stated → A) (xs : List A) (v : Stated) (o : Option (List Stated)) → gone_over g (xs ++ g v ∷ []) o ≡ gone_over g xs (with_stated (Some v) o)
one_more g xs v None = refl
one_more g xs v (Some vs) = ap Some (append_assoc xs (g v ∷ []) (map g vs))

-- the next ABORT
pub at_next : {A : Type 0} (g : Stated → A) (c : Cluster) (j : ℕ) (xs : List A) (whole : Option (List A)) (all : List Signed) (s : Signed) (more : List Signed) (v : Option Stated) → all ≡ s ∷ more
    → v ≡ list_stated c j s.content → gone_over g xs (all_stated c j all) ≡ whole → gone_over g xs (with_stated v (all_stated c j more)) ≡ whole
at_next g c j xs whole all s more v next is was =
    ap (λ o. gone_over g xs (with_stated o (all_stated c j more))) is ∙ ap (λ l. gone_over g xs (all_stated c j l)) (sym next) ∙ was

-- over five ABORTs
pub too_many : {A : Type 0} (g : Stated → A) (f : ℕ) (xs : List A) (v : Stated) (o whole : Option (List Stated)) → f ≤ 2 → length xs ≡ 5
    → gone_over g xs (with_stated (Some v) o) ≡ option_map (map g) whole → are_valid f whole ≡ false
too_many g f xs v o None few five is = refl
too_many g f xs v None (Some votes) few five is = absurd (cc (is))
too_many g f xs v (Some vs) (Some votes) few five is =
    let same : xs ++ g v ∷ map g vs ≡ map g votes = cc (is) in
    let long : length xs + length (g v ∷ map g vs) ≡ length votes = sym (length-append xs (g v ∷ map g vs)) ∙ ap length same ∙ length-map votes g in
    let other : eqb (length votes) (2 * f + 1) ≡ false = ne_eqb (length votes) (2 * f + 1) (λ e. absurd (omega (arith, e, long, five, few))) in
    ap (λ b. b && are_apart (map (λ w. w.by) votes)) other

-- what is found by walking the points is what is computed
module _ (q : ℕ) (ts : List Trimmed) (some : 1 ≤ q) (half : length ts < q + q) where
  found_is : (o : Option TrimmedLog) → IfSome o (λ t. IsAgreedList q ts t.list) → IfNone o ((n : ℕ) (d : List ℕ) → point_holders ts n d < q) → option_map (λ t. t.list) o ≡ agreed_list q ts
  found_is None agreed never = sym (none_there q ts some (λ n d enough. absurd (omega (arith, enough, never n d))))
  found_is (Some t) agreed never = sym (agrees_found q ts some t.list half agreed)

  pub agreed_found : {E : Type 0} (r : Result (Option TrimmedLog) E) → IfOk r (λ o. IfSome o (λ t. IsAgreedList q ts t.list))
      → IfOk r (λ o. IfNone o ((n : ℕ) (d : List ℕ) → point_holders ts n d < q)) → IfOk r (λ o. option_map (λ t. t.list) o ≡ agreed_list q ts)
  agreed_found (Ok o) agreed never = found_is o agreed never
  agreed_found (Err e) agreed never = tt
