use Rattle.std.proofs.Common.{◌≡◌, ℕ, List, sym, ap, ◌∙◌, subst}
use Rattle.std.specs.Prelude.{IfOk, string_bytes}
use Rattle.ab_picture.specs.declared.picture.Sign.{Sign}
use Rattle.ab_picture.specs.declared.picture.Sign.TheVariants.{Entered}
use Rattle.ab_picture.specs.Elements.{badge_text, half_of, sign_text}
use Rattle.ab_picture.specs.Layout.{x_of_party, y_of}
use Rattle.ab_picture.proofs.parts.sign_string.Goals as goal

-- a badge is the sign of an entry
entered : (P : List ℕ → Type 0) (i x y there height : ℕ) (g : Sign) → g ≡ Entered i → x ≡ there → y ≡ height → P (badge_text i (half_of i) x y) → P (sign_text g there height)
entered P i x y there height g is across down h =
    subst (λ (k : Sign). P (sign_text k there height)) (sym is)
    (subst (λ (n : ℕ). P (badge_text i (half_of i) n height)) across (subst (λ (n : ℕ). P (badge_text i (half_of i) x n)) down h))

pub returns-in-Entered : goal.returns-in-Entered
returns-in-Entered c =
    let p = c.args.picture.now in
    let m = c.args.mark.now in
    entered (λ t. IfOk c.badge_string.result (λ s. string_bytes s ≡ t)) _ c.x_of_party-x.result c.y_of-y.result (x_of_party p.lanes.items m.party) (y_of m.event) m.sign c.in-Entered.is
    (c.x_of_party-x.ensures.is ∙ ap (λ ls. x_of_party ls m.party) c.as_slice.ensures.value) c.y_of-y.ensures c.badge_string.ensures
