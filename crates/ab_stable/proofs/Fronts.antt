-- Beginnings with one number and one digest.
use Rattle.std.proofs.Common.{◌≡◌, ℕ, ◌<◌, Bool, false, List, ◌++◌, take, drop, arith, sym, ap, ◌∙◌}
use Rattle.std.proofs.lemmas.List.{take-append-drop}
use mathlib.Core.List.{IsPrefix}
use Rattle.ab_hist.specs.declared.request.Request.{Request}
use Rattle.ab_hist.specs.Digests.{digest_of}
use Rattle.ab_trim.specs.Links.{AreApart, IsAmong}
use Rattle.ab_trim.proofs.Stands.{same_front}
use Rattle.ab_abs.proofs.Prefixes.{prefix_length}
use Rattle.ab_abs.proofs.Statements.{take-prefix}
use Rattle.ab_stable.specs.Stable.{HasFront, AreStable}

pub common_front : (bad : ℕ → Bool) (log : ℕ → List Request) (links : List (List ℕ × Request)) (replicas n : ℕ) (d : List ℕ)
    → AreApart links → ((r : ℕ) → r < replicas → bad r ≡ false → IsAmong links (log r)) → AreStable bad log replicas n d
    → (r s : ℕ) → r < replicas → s < replicas → bad r ≡ false → bad s ≡ false → IsPrefix (take n (log r)) (log s)
common_front bad log links replicas n d apart among stable r s in_r in_s good_r good_s =
    let same = same_front links apart n (log r) (log s) (among r in_r good_r) (among s in_s good_s) ((stable r in_r good_r).digest ∙ sym (stable s in_s good_s).digest) in
    (drop n (log s), ap (λ (x : List Request). x ++ drop n (log s)) same ∙ take-append-drop n (log s))

pub grown_front : (h k : List Request) (n : ℕ) (d : List ℕ) → IsPrefix h k → HasFront h n d → HasFront k n d
grown_front h k n d grown has = record {
  reaches = omega (arith, has.reaches, prefix_length h k grown);
  digest = ap digest_of (take-prefix n h k grown has.reaches) ∙ has.digest;
}
