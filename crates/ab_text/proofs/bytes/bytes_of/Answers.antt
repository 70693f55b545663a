use Rattle.std.proofs.Common.{◌≡◌, ◌∙◌, ap, sym, subst, ℕ, Some, IsTrue, false}
use Rattle.hex.specs.declared.error.FromHexError.TheVariants.{InvalidHexCharacter, OddLength, InvalidStringLength, OutOfMemory}
use Rattle.hex.specs.Hex.{encode_lower}
use Rattle.ab_text.specs.EventLines.{IsInjected}
use Rattle.ab_text.proofs.HexLemmas.{decoded_spelled, digits_of, refused, same_bytes}
use Rattle.ab_text.proofs.bytes.bytes_of.Goals as goal

not_true : IsTrue false → ⊥
not_true e = cc

pub returns-then-not-are_digits-clause-only : goal.returns-then-not-are_digits-clause-only
returns-then-not-are_digits-clause-only c bytes good is =
    absurd (not_true (subst IsTrue c.if-not-are_digits.true (c.are_digits.ensures.1 (digits_of c.args.text.now bytes good is))))

pub returns-in-Ok-clause-found : goal.returns-in-Ok-clause-found
returns-in-Ok-clause-found c =
    let digits = c.are_digits.ensures.0 c.if-not-are_digits.false in
    let both = decoded_spelled c.args.text.now c.in-Ok.bytes.items digits.0 digits.1 digits.2 c.in-Ok.ensures.ok in
    subst (λ bytes. IsInjected bytes × (c.args.text.now ≡ encode_lower bytes)) (sym c.from.ensures) both

pub returns-in-Ok-clause-only : goal.returns-in-Ok-clause-only
returns-in-Ok-clause-only c bytes good is = ap Some (c.from.ensures ∙ same_bytes c.args.text.now bytes c.in-Ok.bytes.items good is c.in-Ok.ensures.ok)

odd : OddLength ≡ OutOfMemory → ⊥
odd e = cc

length_of : InvalidStringLength ≡ OutOfMemory → ⊥
length_of e = cc

digit : (a i : ℕ) → InvalidHexCharacter a i ≡ OutOfMemory → ⊥
digit a i e = cc

pub returns-in-Err-OddLength-clause-only : goal.returns-in-Err-OddLength-clause-only
returns-in-Err-OddLength-clause-only c bytes good is =
    absurd (refused c.args.text.now bytes c.in-Err-OddLength.field-0 good is c.in-Err-OddLength.ensures.err (λ e. odd (sym c.in-Err-OddLength.field-0-is ∙ e)))

pub returns-in-Err-InvalidStringLength-clause-only : goal.returns-in-Err-InvalidStringLength-clause-only
returns-in-Err-InvalidStringLength-clause-only c bytes good is =
    absurd (refused c.args.text.now bytes c.in-Err-InvalidStringLength.field-0 good is c.in-Err-InvalidStringLength.ensures.err (λ e. length_of (sym c.in-Err-InvalidStringLength.field-0-is ∙ e)))

pub returns-in-Err-InvalidHexCharacter-clause-only : goal.returns-in-Err-InvalidHexCharacter-clause-only
returns-in-Err-InvalidHexCharacter-clause-only c bytes good is =
    absurd (refused c.args.text.now bytes c.in-Err-InvalidHexCharacter.field-0 good is c.in-Err-InvalidHexCharacter.ensures.err (λ e. digit _ _ (sym c.in-Err-InvalidHexCharacter.field-0-is ∙ e)))
