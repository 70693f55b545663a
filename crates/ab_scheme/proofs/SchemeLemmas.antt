-- Signatures and keys of a scheme.
use Rattle.std.proofs.Common.{◌≡◌, ℕ, ◌<◌, List, [], length, Decides, inl, inr, arith, lit<}
use Rattle.std.proofs.lemmas.Bool.Decides.{Decides-or}
use Rattle.ab_num.specs.declared.plan.Height.TheVariants.{Five, Ten}
use Rattle.ab_num.specs.declared.plan.Scheme.{Scheme}
use Rattle.ab_num.specs.declared.plan.Scheme.TheVariants.{Lms, Hss}
use Rattle.ab_lms.specs.Signatures.{Verifies}
use Rattle.ab_lms.proofs.Signed.{length-lms_signature, verifies}
use Rattle.ab_lms.proofs.Verified.{verified-decides}
use Rattle.ab_hss.proofs.Decided.{hss-decides}
use Rattle.ab_hss.proofs.Signed.{hss-verifies, length-hss_signature}
use Rattle.ab_scheme.specs.Schemes.{VerifiesBy, public_by, public_length, signature_by, signature_length, signatures_in, verified_by}

-- the test says what the relation says
pub verified_by-decides : (public text sig : List ℕ) → Decides (verified_by public text sig) (VerifiesBy public text sig)
verified_by-decides public text sig =
    let either = Decides-or _ _ (verified-decides public text sig) (hss-decides public text sig) in
    (λ t. record { signed = either.0 t }, λ v. either.1 v.signed)

-- what is signed verifies
pub verifies_by : (scheme : Scheme) (id seed text : List ℕ) (q : ℕ) → length id ≡ 16 → q < signatures_in scheme
    → VerifiesBy (public_by scheme id seed) text (signature_by scheme id seed q text)
verifies_by (Lms height) id seed text q long lt = record { signed = inl (verifies height id seed text q long lt) }
verifies_by Hss id seed text q long lt = record { signed = inr (hss-verifies id seed text q long lt) }

pub length-signature_by : (scheme : Scheme) (id seed text : List ℕ) (q : ℕ) → length (signature_by scheme id seed q text) ≡ signature_length scheme
length-signature_by (Lms height) id seed text q = length-lms_signature height id seed q text
length-signature_by Hss id seed text q = length-hss_signature id seed q text

-- the signature number 0 verifies, so the key has its form
pub length-public_by : (scheme : Scheme) (id seed : List ℕ) → length id ≡ 16 → length (public_by scheme id seed) ≡ public_length scheme
length-public_by (Lms Five) id seed long = (verifies Five id seed [] 0 long (lit< tt)).long
length-public_by (Lms Ten) id seed long = (verifies Ten id seed [] 0 long (lit< tt)).long
length-public_by Hss id seed long = (hss-verifies id seed [] 0 long (lit< tt)).form.public_long

-- under a key of 56 bytes a signature of one level verifies, and no other
pub of_one_level : (public text sig : List ℕ) → length public ≡ 56 → VerifiesBy public text sig → Verifies public text sig
of_one_level public text sig long v = elim v.signed [
  | inl one ↦ one
  | inr two ↦ absurd (omega (arith, long, two.form.public_long))
]
