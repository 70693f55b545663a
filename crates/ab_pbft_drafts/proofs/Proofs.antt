-- The VIEW-CHANGEs that are kept as messages are those that the rules keep.
use Rattle.std.proofs.Common.{◌≡◌, ℕ, suc, ◌==◌, Bool, true, false, not, List, [], ◌∷◌, ◌⊎◌, length, map, refl, sym, ap, ◌∙◌, subst, inl, inr}
use Rattle.std.specs.Prelude.{Contains, nat_lt, if◌then◌else◌}
use Rattle.std.specs.List.{filter}
use Rattle.ab_num.proofs.Lists.{Contains-head, Contains-tail, Contains-cons_cases, Contains-filter_cases, Contains-none}
use Rattle.ab_msg.specs.declared.change.Proof.{Proof}
use Rattle.ab_msg.specs.declared.value.Value.{Value}
use Rattle.ab_msg.specs.Fields.{IsView}
use Rattle.ab_msg.specs.Certs.{IsProof}
use Rattle.ab_lock.specs.ViewChanges.{Kept, of_view, put}
use Rattle.ab_lock.proofs.KeptChanges.{put_in}
use Rattle.ab_pbft_rules.specs.Rules.{without}
use Rattle.ab_pbft_shelf.specs.Shelves.{maker_of, view_of, put_proof, without_maker}
use Rattle.ab_pbft_drafts.specs.Bounds.{AreCertsAt, change_key, proof_key, AreProofs}

-- ---- who made them, and for which view

abbrev Key : Type 0
Key = ℕ × ℕ

abbrev put_key : Key → List Key → List Key
put_key k [] = k ∷ []
put_key k (q ∷ keys) = if nat_lt k.0 q.0 then (k ∷ q ∷ keys) else (if k.0 == q.0 then ((if nat_lt q.1 k.1 then k else q) ∷ keys) else (q ∷ put_key k keys))

abbrev keys_without : ℕ → List Key → List Key
keys_without r [] = []
keys_without r (q ∷ keys) = if q.0 == r then keys_without r keys else (q ∷ keys_without r keys)

abbrev keys_of_view : ℕ → List Key → List Key
keys_of_view v [] = []
keys_of_view v (q ∷ keys) = if q.1 == v then (q ∷ keys_of_view v keys) else keys_of_view v keys

put_changes : (u : Kept Value) (changes : List (Kept Value)) → map change_key (put u changes) ≡ put_key (change_key u) (map change_key changes)
put_changes u [] = refl
put_changes u (w ∷ changes) = at (nat_lt u.change.by w.change.by) (u.change.by == w.change.by) (nat_lt w.view u.view) (put_changes u changes)
  where
    at : (below same new : Bool) → map change_key (put u changes) ≡ put_key (change_key u) (map change_key changes)
        → map change_key (if below then (u ∷ w ∷ changes) else (if same then ((if new then u else w) ∷ changes) else (w ∷ put u changes)))
        ≡ (if below then (change_key u ∷ change_key w ∷ map change_key changes) else (if same then ((if new then change_key u else change_key w) ∷ map change_key changes) else (change_key w ∷ put_key (change_key u) (map change_key changes))))
    at true same new rest = refl
    at false true true rest = refl
    at false true false rest = refl
    at false false new rest = ap (λ l. change_key w ∷ l) rest

put_proofs : (p : Proof) (proofs : List Proof) → map proof_key (put_proof p proofs) ≡ put_key (proof_key p) (map proof_key proofs)
put_proofs p [] = refl
put_proofs p (q ∷ proofs) = at (nat_lt (maker_of p) (maker_of q)) (maker_of p == maker_of q) (nat_lt (view_of q) (view_of p)) (put_proofs p proofs)
  where
    at : (below same new : Bool) → map proof_key (put_proof p proofs) ≡ put_key (proof_key p) (map proof_key proofs)
        → map proof_key (if below then (p ∷ q ∷ proofs) else (if same then ((if new then p else q) ∷ proofs) else (q ∷ put_proof p proofs)))
        ≡ (if below then (proof_key p ∷ proof_key q ∷ map proof_key proofs) else (if same then ((if new then proof_key p else proof_key q) ∷ map proof_key proofs) else (proof_key q ∷ put_key (proof_key p) (map proof_key proofs))))
    at true same new rest = refl
    at false true true rest = refl
    at false true false rest = refl
    at false false new rest = ap (λ l. proof_key q ∷ l) rest

changes_without : (r : ℕ) (changes : List (Kept Value)) → map change_key (without r changes) ≡ keys_without r (map change_key changes)
changes_without r [] = refl
changes_without r (u ∷ changes) = at (u.change.by == r) (changes_without r changes)
  where
    at : (same : Bool) → map change_key (without r changes) ≡ keys_without r (map change_key changes)
        → map change_key (if same then without r changes else (u ∷ without r changes)) ≡ (if same then keys_without r (map change_key changes) else (change_key u ∷ keys_without r (map change_key changes)))
    at true rest = rest
    at false rest = ap (λ l. change_key u ∷ l) rest

proofs_without : (r : ℕ) (proofs : List Proof) → map proof_key (without_maker r proofs) ≡ keys_without r (map proof_key proofs)
proofs_without r [] = refl
proofs_without r (p ∷ proofs) = at (maker_of p == r) (proofs_without r proofs)
  where
    at : (same : Bool) → map proof_key (without_maker r proofs) ≡ keys_without r (map proof_key proofs)
        → map proof_key (if not same then (p ∷ without_maker r proofs) else without_maker r proofs) ≡ (if same then keys_without r (map proof_key proofs) else (proof_key p ∷ keys_without r (map proof_key proofs)))
    at true rest = rest
    at false rest = ap (λ l. proof_key p ∷ l) rest

changes_for : (v : ℕ) (changes : List (Kept Value)) → length (of_view changes v) ≡ length (keys_of_view v (map change_key changes))
changes_for v [] = refl
changes_for v (u ∷ changes) = at (u.view == v) (changes_for v changes)
  where
    at : (same : Bool) → length (of_view changes v) ≡ length (keys_of_view v (map change_key changes))
        → length (if same then (u.change ∷ of_view changes v) else of_view changes v) ≡ length (if same then (change_key u ∷ keys_of_view v (map change_key changes)) else keys_of_view v (map change_key changes))
    at true rest = ap suc rest
    at false rest = rest

proofs_of : (v : ℕ) (proofs : List Proof) → length (filter (λ p. view_of p == v) proofs) ≡ length (keys_of_view v (map proof_key proofs))
proofs_of v [] = refl
proofs_of v (p ∷ proofs) = at (view_of p == v) (proofs_of v proofs)
  where
    at : (same : Bool) → length (filter (λ p. view_of p == v) proofs) ≡ length (keys_of_view v (map proof_key proofs))
        → length (if same then (p ∷ filter (λ p. view_of p == v) proofs) else filter (λ p. view_of p == v) proofs) ≡ length (if same then (proof_key p ∷ keys_of_view v (map proof_key proofs)) else keys_of_view v (map proof_key proofs))
    at true rest = ap suc rest
    at false rest = rest

-- ---- what is kept

proof_in : (p : Proof) (proofs : List Proof) (x : Proof) → Contains (put_proof p proofs) x → (p ≡ x) ⊎ Contains proofs x
proof_in p [] x has = Contains-cons_cases p [] x has
proof_in p (q ∷ proofs) x has = at (nat_lt (maker_of p) (maker_of q)) (maker_of p == maker_of q) (nat_lt (view_of q) (view_of p)) (λ more. proof_in p proofs x more) has
  where
    at : (below same new : Bool) → (Contains (put_proof p proofs) x → (p ≡ x) ⊎ Contains proofs x)
        → Contains (if below then (p ∷ q ∷ proofs) else (if same then ((if new then p else q) ∷ proofs) else (q ∷ put_proof p proofs))) x → (p ≡ x) ⊎ Contains (q ∷ proofs) x
    at true same new rest is = Contains-cons_cases p (q ∷ proofs) x is
    at false true true rest is = elim (Contains-cons_cases p proofs x is) [ inl e ↦ inl e | inr more ↦ inr (Contains-tail q x proofs more) ]
    at false true false rest is = inr is
    at false false new rest is =
        elim (Contains-cons_cases q (put_proof p proofs) x is) [
          | inl e ↦ inr (subst (λ (z : Proof). Contains (q ∷ proofs) z) e (Contains-head q proofs))
          | inr more ↦ elim (rest more) [ inl e ↦ inl e | inr there ↦ inr (Contains-tail q x proofs there) ]
        ]

without_in : (r : ℕ) (changes : List (Kept Value)) (u : Kept Value) → Contains (without r changes) u → Contains changes u
without_in r [] u has = has
without_in r (w ∷ changes) u has = at (w.change.by == r) (λ more. without_in r changes u more) has
  where
    at : (same : Bool) → (Contains (without r changes) u → Contains changes u) → Contains (if same then without r changes else (w ∷ without r changes)) u → Contains (w ∷ changes) u
    at true rest is = Contains-tail w u changes (rest is)
    at false rest is =
        elim (Contains-cons_cases w (without r changes) u is) [
          | inl e ↦ subst (λ (z : Kept Value). Contains (w ∷ changes) z) e (Contains-head w changes)
          | inr more ↦ Contains-tail w u changes (rest more)
        ]

-- with one more
pub proofs_put : (changes : List (Kept Value)) (proofs : List Proof) (u : Kept Value) (p : Proof) → AreProofs changes proofs → change_key u ≡ proof_key p → IsView u.view → AreCertsAt u.change.certs → IsProof p
    → AreProofs (put u changes) (put_proof p proofs)
proofs_put changes proofs u p was same view certs formed = record {
  same = put_changes u changes ∙ (ap (λ k. put_key k (map change_key changes)) same ∙ (ap (λ l. put_key (proof_key p) l) was.same ∙ sym (put_proofs p proofs)));
  views = λ x has. elim (put_in u changes x has) [ inl e ↦ subst (λ (z : Kept Value). IsView z.view) e view | inr there ↦ was.views x there ];
  certs = λ x has. elim (put_in u changes x has) [ inl e ↦ subst (λ (z : Kept Value). AreCertsAt z.change.certs) e certs | inr there ↦ was.certs x there ];
  formed = λ x has. elim (proof_in p proofs x has) [ inl e ↦ subst (λ (z : Proof). IsProof z) e formed | inr there ↦ was.formed x there ];
}

-- without those of a replica
pub proofs_left : (r : ℕ) (changes : List (Kept Value)) (proofs : List Proof) → AreProofs changes proofs → AreProofs (without r changes) (without_maker r proofs)
proofs_left r changes proofs was = record {
  same = changes_without r changes ∙ (ap (λ l. keys_without r l) was.same ∙ sym (proofs_without r proofs));
  views = λ u has. was.views u (without_in r changes u has);
  certs = λ u has. was.certs u (without_in r changes u has);
  formed = λ p has. was.formed p (Contains-filter_cases (λ q. not (maker_of q == r)) proofs p has).0;
}

pub no_proofs : AreProofs [] []
no_proofs = record { same = refl; views = λ u has. absurd (Contains-none u has); certs = λ u has. absurd (Contains-none u has); formed = λ p has. absurd (Contains-none p has) }

-- as many are for a view
pub as_many : (v : ℕ) (changes : List (Kept Value)) (proofs : List Proof) → AreProofs changes proofs → length (of_view changes v) ≡ length (filter (λ p. view_of p == v) proofs)
as_many v changes proofs are = changes_for v changes ∙ (ap (λ l. length (keys_of_view v l)) are.same ∙ sym (proofs_of v proofs))
