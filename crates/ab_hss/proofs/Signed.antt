-- What is signed verifies.
use Rattle.std.proofs.Common.{◌≡◌, ℕ, ◌/◌, ◌%◌, ◌<◌, List, [], ◌∷◌, ◌++◌, length, take, drop, refl, sym, ◌∙◌, ap, subst, arith, lit<, slice_range, append-nil, length-append}
use Rattle.std.specs.Int.{w32, from_be_bytes}
use Rattle.std.proofs.lemmas.List.{length-take-le}
use Rattle.ab_num.specs.declared.plan.Height.TheVariants.{Ten}
use Rattle.ab_mac.proofs.Sha256Lemmas.{length-sha256}
use Rattle.ab_lms.specs.OneTime.{number_at}
use Rattle.ab_lms.proofs.Parts.{slice-append}
use Rattle.ab_lms.specs.Signatures.{u32_bytes, lms_signature, public_key, Verifies}
use Rattle.ab_lms.proofs.Signed.{verifies, length-lms_signature, length-u32, number-u32, first, second, third, fourth}
use Rattle.ab_hss.specs.BottomKeys.{bottom_name, bottom_seed, bottom_public}
use Rattle.ab_hss.specs.TwoLevels.{hss_public, hss_signature, HssVerifies}

pub length-bottom_name : (id seed : List ℕ) (t : ℕ) → length (bottom_name id seed t) ≡ 16
unfolding bottom_name
length-bottom_name id seed t = length-take-le 16 _ (omega (arith, length-sha256 (7 ∷ id ++ seed ++ u32_bytes t)))

-- a public key of height ten
length-key : (id seed : List ℕ) → length id ≡ 16 → length (public_key Ten id seed) ≡ 56
length-key id seed long = (verifies Ten id seed [] 0 long (lit< tt)).long

-- ---- the public key
record KeyParts (top public : List ℕ) : Type 0 where
  long : length public ≡ 60
  levels : number_at public 0 ≡ 2
  behind : slice_range public 4 60 ≡ top

key-parts : (top : List ℕ) → length top ≡ 56 → KeyParts top (u32_bytes 2 ++ top)
key-parts top long =
    let a = u32_bytes 2 in
    let la : length a ≡ 4 = length-u32 2 in
    record {
      long = length-append a top ∙ omega arith;
      levels = ap (from_be_bytes w32) (slice-append [] a top 0 4 refl la) ∙ number-u32 2 (lit< tt);
      behind = ap (λ (l : List ℕ). take 56 (drop 4 (a ++ l))) (sym (append-nil top)) ∙ slice-append a top [] 4 56 la long;
    }

-- ---- the signature
record SignatureParts (key_sig key msg_sig sig : List ℕ) : Type 0 where
  long : length sig ≡ 5076
  keys : number_at sig 0 ≡ 1
  second : slice_range sig 4 2512 ≡ key_sig
  third : slice_range sig 2512 2568 ≡ key
  fourth : slice_range sig 2568 5076 ≡ msg_sig

signature-parts : (s k m : List ℕ) → length s ≡ 2508 → length k ≡ 56 → length m ≡ 2508 → SignatureParts s k m (u32_bytes 1 ++ s ++ k ++ m)
signature-parts s k m long_s long_k long_m =
    let a = u32_bytes 1 in
    let la : length a ≡ 4 = length-u32 1 in
    let ls : length (a ++ s) ≡ 2512 = length-append a s ∙ omega arith in
    let lk : length (a ++ s ++ k) ≡ 2568 = length-append (a ++ s) k ∙ omega arith in
    record {
      long = length-append (a ++ s ++ k) m ∙ omega arith;
      keys = ap (from_be_bytes w32) (first a s k m 4 la) ∙ number-u32 1 (lit< tt);
      second = second a s k m 4 2508 la long_s;
      third = third a s k m 2512 56 ls long_k;
      fourth = fourth a s k m 2568 2508 lk long_m;
    }

-- ---- together
verifies-parts : (top s k m message public sig : List ℕ) → KeyParts top public → SignatureParts s k m sig
    → Verifies top k s → Verifies k message m → HssVerifies public message sig
verifies-parts top s k m message public sig p q below above =
    let K : List ℕ → List ℕ → List ℕ → Type 0 = λ x y z. Verifies x y z in
    record {
      form = record { public_long = p.long; levels = p.levels; long = q.long; keys = q.keys };
      key_signed = subst (λ (x : List ℕ). K x (slice_range sig 2512 2568) (slice_range sig 4 2512)) (sym p.behind)
          (subst (λ (y : List ℕ). K top y (slice_range sig 4 2512)) (sym q.third) (subst (λ (z : List ℕ). K top k z) (sym q.second) below));
      message_signed = subst (λ (x : List ℕ). K x message (slice_range sig 2568 5076)) (sym q.third) (subst (λ (z : List ℕ). K k message z) (sym q.fourth) above);
    }

pub length-hss_signature : (id seed : List ℕ) (q : ℕ) (message : List ℕ) → length (hss_signature id seed q message) ≡ 5076
length-hss_signature id seed q message =
    let t = q / 1024 in
    let name = bottom_name id seed t in
    let values = bottom_seed id seed t in
    (signature-parts (lms_signature Ten id seed t (bottom_public id seed t)) (bottom_public id seed t) (lms_signature Ten name values (q % 1024) message)
    (length-lms_signature Ten id seed t (bottom_public id seed t)) (length-key name values (length-bottom_name id seed t))
    (length-lms_signature Ten name values (q % 1024) message)).long

pub hss-verifies : (id seed message : List ℕ) (q : ℕ) → length id ≡ 16 → q < 1048576 → HssVerifies (hss_public id seed) message (hss_signature id seed q message)
hss-verifies id seed message q long lt =
    let t = q / 1024 in
    let i = q % 1024 in
    let name = bottom_name id seed t in
    let values = bottom_seed id seed t in
    let key = bottom_public id seed t in
    let named = length-bottom_name id seed t in
    let low : t < 1024 = omega arith in
    let leaf : i < 1024 = omega arith in
    verifies-parts (public_key Ten id seed) (lms_signature Ten id seed t key) key (lms_signature Ten name values i message) message _ _
    (key-parts (public_key Ten id seed) (length-key id seed long))
    (signature-parts (lms_signature Ten id seed t key) key (lms_signature Ten name values i message)
    (length-lms_signature Ten id seed t key) (length-key name values named) (length-lms_signature Ten name values i message))
    (verifies Ten id seed key t long low) (verifies Ten name values message i named leaf)
