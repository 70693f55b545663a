use Rattle.std.proofs.Common.{◌≡◌, ℕ, List, [], ◌∷◌, ◌++◌, length, take, drop, ◌∙◌, append-nil, subst}
use Rattle.std.proofs.Math.Seq.{take-append_seam, drop-append_seam}
use borrow.Rule.Slice.PartMut.{put_mid}
use Rattle.ab_lms.proofs.one_time.checked.Goals as goal

joined : (xs ys : List ℕ) → length xs ≡ 32 → put_mid 32 2 (xs ++ 0 ∷ 0 ∷ []) ys ≡ xs ++ ys
joined xs ys e =
    let P : ℕ → Type 0 = λ n. take n (xs ++ 0 ∷ 0 ∷ []) ++ (ys ++ drop 2 (drop n (xs ++ 0 ∷ 0 ∷ []))) ≡ xs ++ ys in
    subst P e (simp (take-append_seam, drop-append_seam, append-nil))

pub returns : goal.returns
returns c = joined c.copy_from_slice.new.self c.copy_from_slice-2.new.self c.copy_from_slice.ensures.len ∙ cc
