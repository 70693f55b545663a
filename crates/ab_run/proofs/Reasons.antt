-- Why a beginning of a log may be trimmed: all correct replicas vouched for it, in the instance or in an earlier one.
use Rattle.std.proofs.Common.{◌≡◌, ℕ, ◌<◌, ◌≤◌, false, List, ◌⊎◌, length, take, inl, inr, arith}
use Rattle.std.specs.Prelude.{Contains}
use mathlib.Core.List.{IsPrefix}
use Rattle.ab_num.specs.declared.party.Party.TheVariants.{Replica}
use Rattle.ab_hist.specs.declared.request.Request.{Request}
use Rattle.ab_hist.specs.Digests.{digest_of}
use Rattle.ab_msg.specs.declared.content.Content.{Content}
use Rattle.ab_msg.specs.declared.content.Content.TheVariants.{Checkpoint}
use Rattle.ab_abs.specs.Faults.{is_faulty}
use Rattle.ab_run.specs.Setups.{RunSetup, replicas}

-- a correct replica
abbrev pub IsGood : RunSetup → ℕ → Type 0
IsGood k q = (q < replicas k) × (is_faulty k.faulty (Replica q) ≡ false)

-- the front begins the first n entries of a history that was had, for which each correct replica vouched in an instance up to i
pub record IsVouchedFor (k : RunSetup) (made : List Content) (had : List (List Request)) (i : ℕ) (front : List Request) : Type 0 where
  pub at : ℕ
  pub n : ℕ
  pub d : List ℕ
  pub before : at ≤ i
  pub all : (q : ℕ) → IsGood k q → Contains made (Checkpoint (Replica q) at n d)
  pub whole : List Request
  pub there : Contains had whole
  pub reaches : n ≤ length whole
  pub digest : digest_of (take n whole) ≡ d
  pub begins : IsPrefix front (take n whole)

-- so may the first n entries of h be trimmed in instance i
abbrev pub IsReasoned : RunSetup → List Content → List (List Request) → ℕ → ℕ → List Request → Type 0
IsReasoned k made had i n h = (n ≡ 0) ⊎ IsVouchedFor k made had i (take n h)

-- the reason stays
pub vouched_later : (k : RunSetup) (made more : List Content) (had longer : List (List Request)) (i j : ℕ) (front : List Request) → ((c : Content) → Contains made c → Contains more c) → ((l : List Request) → Contains had l → Contains longer l) → i ≤ j
    → IsVouchedFor k made had i front → IsVouchedFor k more longer j front
vouched_later k made more had longer i j front wider bigger le was = record {
  at = was.at;
  n = was.n;
  d = was.d;
  before = omega (arith, le, was.before);
  all = λ q good. wider (Checkpoint (Replica q) was.at was.n was.d) (was.all q good);
  whole = was.whole;
  there = bigger was.whole was.there;
  reaches = was.reaches;
  digest = was.digest;
  begins = was.begins;
}

pub reasoned_later : (k : RunSetup) (made more : List Content) (had longer : List (List Request)) (i j n : ℕ) (h : List Request) → ((c : Content) → Contains made c → Contains more c) → ((l : List Request) → Contains had l → Contains longer l) → i ≤ j
    → IsReasoned k made had i n h → IsReasoned k more longer j n h
reasoned_later k made more had longer i j n h wider bigger le was =
    elim was [ inl none ↦ inl none | inr all ↦ inr (vouched_later k made more had longer i j (take n h) wider bigger le all) ]
