use Rattle.std.proofs.Common.{◌≡◌, ◌-◌, ◌<◌, List, ℕ, ◌++◌, ◌∷◌, [], length, take, set, slice_get, Some, arith, ap, sym, ◌∙◌, refl}
use Rattle.std.proofs.lemmas.List.{take_all, length-set}
use Rattle.std.proofs.lemmas.Grind.{take-set_at}
use Rattle.std.proofs.lemmas.Option.{slice_get_read}
use Rattle.std.proofs.lemmas.Result.{on_ok_weaker}
use Rattle.ab_hist.specs.Chunks.{grown}
use Rattle.ab_trim.proofs.chain.grow_last.Goals as goal

set_end : {X : Type 0} → (xs : List X) (i : ℕ) (y : X) → 0 < length xs → i ≡ length xs - 1 → set xs i y ≡ take (length xs - 1) xs ++ y ∷ []
set_end xs i y some e =
    sym (take_all (length xs) (set xs i y) (omega (arith, length-set xs i y))) ∙ take-set_at xs i (length xs) y (omega (arith, e, some)) (omega (arith, e, some)) ∙ ap (λ n. take n xs ++ y ∷ []) e

pub returns-clause-ok : goal.returns-clause-ok
returns-clause-ok c =
    let items = c.args.parts.now.items in
    let last : c.len-last.result - 1 ≡ length items - 1 = omega (arith, c.len-last.ensures, c.args.parts.now.ok.0) in
    on_ok_weaker c.push.result
    (λ pushed k at.
    let here : slice_get items (c.len-last.result - 1) ≡ Some c.index_mut.result.now = slice_get_read items (length items) (c.len-last.result - 1) c.index_mut.result.now refl (omega (arith, c.requires.some, last)) c.index_mut.ensures.value in
    let both : Some c.index_mut.result.now ≡ Some k = sym here ∙ ap (slice_get items) last ∙ at in
    let one : c.index_mut.result.now ≡ k = cc in
    set_end items (c.len-last.result - 1) c.push.new.self c.requires.some last ∙ ap (λ x. take (length items - 1) items ++ x ∷ []) (pushed ∙ ap (λ x. grown x c.args.m) one))
    c.push.ensures.ok
