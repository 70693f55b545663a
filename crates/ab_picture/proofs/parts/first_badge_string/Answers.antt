use Rattle.std.proofs.Common.{◌≡◌, ℕ, ◌-◌, Bool, sym, subst}
use Rattle.std.specs.Prelude.{IfOk, string_bytes}
use Rattle.ab_num.specs.declared.party.Party.{Party}
use Rattle.ab_num.specs.declared.party.Party.TheVariants.{Replica}
use Rattle.ab_picture.specs.Elements.{badge_text, first_badge, half_of}
use Rattle.ab_picture.proofs.parts.first_badge_string.Goals as goal

pub returns-in-Replica-false : goal.returns-in-Replica-false
returns-in-Replica-false c =
    let r = c.badge_string.result in
    let x = c.args.x in
    let lane = c.args.lane.now in
    subst (λ (p : Party). IfOk r (λ s. string_bytes s ≡ first_badge p lane.faulty x)) (sym c.in-Replica-false.is-0)
    (subst (λ (b : Bool). IfOk r (λ s. string_bytes s ≡ first_badge (Replica c.in-Replica-false.field-0-0) b x)) (sym c.in-Replica-false.is-1)
    (subst (λ (y : ℕ). IfOk r (λ s. string_bytes s ≡ badge_text 1 (half_of 1) x (y - 6))) c.y_of.ensures c.badge_string.ensures))
