-- The keys of replicas, one by one.
use Rattle.std.proofs.Common.{◌≡◌, ℕ, ◌+◌, ◌*◌, ◌<◌, true, false, List, ◌++◌, length, Option, None, Some, refl, sym, ap, subst, ◌∙◌, arith, slice_get}
use Rattle.std.proofs.lemmas.List.{length-take-le}
use Rattle.std.proofs.lemmas.List.FromFn.{get_or-map-range_with_len, length-map-range_with_len}
use Rattle.std.proofs.lemmas.Option.{slice_get-get_or}
use Rattle.ab_mac.proofs.Sha256Lemmas.{length-sha256}
use Rattle.ab_mac.specs.Digests.{marked}
use Rattle.ab_num.specs.declared.party.Party.TheVariants.{Replica}
use Rattle.ab_num.specs.declared.plan.Height.TheVariants.{Five, Ten}
use Rattle.ab_num.specs.declared.plan.Scheme.{Scheme}
use Rattle.ab_num.specs.declared.plan.Scheme.TheVariants.{Lms, Hss}
use Rattle.ab_lms.specs.Verified.{verified}
use Rattle.ab_hss.specs.Verified.{hss_verified}
use Rattle.ab_msg.specs.Fields.{IsSig, is_sig_length}
use Rattle.ab_scheme.specs.Schemes.{signature_by, signature_length, signatures_in, verified_by}
use Rattle.ab_scheme.proofs.SchemeLemmas.{length-signature_by, verified_by-decides, verifies_by}
use Rattle.ab_keys.specs.Keys.{party_bytes}
use Rattle.ab_keys.specs.Secrets.{tree_name, tree_seed}
use Rattle.ab_sign.specs.declared.key.SignKey.{SignKey}
use Rattle.ab_sign.specs.Signers.{derived_key, derived_keys, leaves_at, leaves_of, public_at, public_of, signature_at, signature_of}

abbrev no_key : Option SignKey
no_key = None

-- under no key nothing verifies
pub none-verifies : (keys : List SignKey) (r : ℕ) (text sig : List ℕ) → no_key ≡ slice_get keys r → false ≡ verified_by (public_of keys r) text sig
unfolding verified hss_verified
none-verifies keys r text sig e = let P : Option SignKey → Type 0 = λ k. false ≡ verified_by (public_at k) text sig in subst P e refl

length_fits : (scheme : Scheme) → is_sig_length (signature_length scheme) ≡ true
length_fits (Lms Five) = refl
length_fits (Lms Ten) = refl
length_fits Hss = refl

-- a signature by whatever scheme has the bytes of a signature in a message
pub signature_fits : (scheme : Scheme) (id seed text : List ℕ) (n : ℕ) → IsSig (signature_by scheme id seed n text)
signature_fits scheme id seed text n = subst (λ k. is_sig_length k ≡ true) (sym (length-signature_by scheme id seed text n)) (length_fits scheme)

length-tree_name : (seed : List ℕ) (r : ℕ) → length (tree_name seed r) ≡ 16
unfolding tree_name
length-tree_name seed r =
    let digest : List ℕ = marked 3 (seed ++ party_bytes (Replica r)) in
    let long : length digest ≡ 32 = length-sha256 _ in
    length-take-le 16 digest (omega (arith, long))

pub derived-at : (f : ℕ) (scheme : Scheme) (seed : List ℕ) (r : ℕ) → r < 3 * f + 1 → slice_get (derived_keys f scheme seed) r ≡ Some (derived_key scheme seed r)
derived-at f scheme seed r lt =
    let n = 3 * f + 1 in
    let within : r < length (derived_keys f scheme seed) = omega (arith, length-map-range_with_len (derived_key scheme seed) 0 n) in
    slice_get-get_or (derived_keys f scheme seed) r (derived_key scheme seed r) within
    ∙ ap (λ (k : SignKey). Some k) (get_or-map-range_with_len (derived_key scheme seed) 0 n r r (derived_key scheme seed r) lt (omega arith))

pub derived-leaves : (f : ℕ) (scheme : Scheme) (seed : List ℕ) (r : ℕ) → r < 3 * f + 1 → leaves_of (derived_keys f scheme seed) r ≡ signatures_in scheme
derived-leaves f scheme seed r lt = ap leaves_at (derived-at f scheme seed r lt)

pub derived-right : (f : ℕ) (scheme : Scheme) (seed : List ℕ) (r n : ℕ) (text : List ℕ) → r < 3 * f + 1 → n < signatures_in scheme
    → verified_by (public_of (derived_keys f scheme seed) r) text (signature_of (derived_keys f scheme seed) r n text) ≡ true
derived-right f scheme seed r n text lt low =
    let P : Option SignKey → Type 0 = λ k. verified_by (public_at k) text (signature_at k n text) ≡ true in
    subst P (sym (derived-at f scheme seed r lt)) ((verified_by-decides _ text _).1 (verifies_by scheme (tree_name seed r) (tree_seed seed r) text n (length-tree_name seed r) low))
