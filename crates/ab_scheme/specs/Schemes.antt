-- Keys and signatures of one level or of two.
use Rattle.std.specs.Prelude.{ℕ, ◌+◌, ◌*◌, ◌^◌, Bool, ◌||◌, ◌⊎◌, List}
use Rattle.ab_num.specs.declared.plan.Height.{Height}
use Rattle.ab_num.specs.declared.plan.Height.TheVariants.{Ten}
use Rattle.ab_num.specs.declared.plan.Scheme.{Scheme}
use Rattle.ab_num.specs.declared.plan.Scheme.TheVariants.{Lms, Hss}
use Rattle.ab_lms.specs.Nodes.{levels}
use Rattle.ab_lms.specs.Signatures.{Verifies, lms_signature, public_key}
use Rattle.ab_lms.specs.Verified.{verified}
use Rattle.ab_hss.specs.TwoLevels.{HssVerifies, hss_public, hss_signature}
use Rattle.ab_hss.specs.Verified.{hss_verified}

-- a scheme, the name I and the seed of a key
pub record SchemeKey : Type 0 where
  pub scheme : Scheme
  pub id : List ℕ
  pub seed : List ℕ

-- how many signatures a key makes
abbrev pub signatures_in : Scheme → ℕ
signatures_in (Lms height) = 2 ^ levels height
signatures_in Hss = 1048576

-- the height of the tree at the top
abbrev pub top_height : Scheme → Height
top_height (Lms height) = height
top_height Hss = Ten

-- the bytes of a public key
abbrev pub public_length : Scheme → ℕ
public_length (Lms height) = 56
public_length Hss = 60

-- the bytes of a signature
abbrev pub signature_length : Scheme → ℕ
signature_length (Lms height) = 2188 + 32 * levels height
signature_length Hss = 5076

-- the public key of a name and a seed
abbrev pub public_by : Scheme → List ℕ → List ℕ → List ℕ
public_by (Lms height) id seed = public_key height id seed
public_by Hss id seed = hss_public id seed

-- its signature number q, which is of a text
abbrev pub signature_by : Scheme → List ℕ → List ℕ → ℕ → List ℕ → List ℕ
signature_by (Lms height) id seed q text = lms_signature height id seed q text
signature_by Hss id seed q text = hss_signature id seed q text

-- the signature of the text verifies under the public key: a key of 56 bytes is of one level, and one of 60 of two
pub record VerifiesBy (public text sig : List ℕ) : Type 0 where
  pub signed : Verifies public text sig ⊎ HssVerifies public text sig

-- the same as a test
abbrev pub verified_by : List ℕ → List ℕ → List ℕ → Bool
verified_by public text sig = verified public text sig || hss_verified public text sig
