use Rattle.std.proofs.Common.{◌≡◌, ◌∙◌, ap, sym, subst, ℕ, Some, IsTrue, false}
use Rattle.hex.specs.declared.error.FromHexError.TheVariants.{InvalidHexCharacter, OddLength, InvalidStringLength, OutOfMemory}
use Rattle.ab_audit_text.proofs.HexLemmas.{digits_read, not_decoded, not_digits}
use Rattle.ab_audit_text.proofs.hex_bytes.message_bytes.Goals as goal

not_true : IsTrue false → ⊥
not_true e = cc

odd : OddLength ≡ OutOfMemory → ⊥
odd e = cc

length_of : InvalidStringLength ≡ OutOfMemory → ⊥
length_of e = cc

digit : (a i : ℕ) → InvalidHexCharacter a i ≡ OutOfMemory → ⊥
digit a i e = cc

pub returns-then-not-are_digits : goal.returns-then-not-are_digits
returns-then-not-are_digits c = not_digits c.args.text.now (λ digits. not_true (subst IsTrue c.if-not-are_digits.true (c.are_digits.ensures.1 digits)))

pub returns-in-Ok : goal.returns-in-Ok
returns-in-Ok c = ap Some c.from.ensures ∙ digits_read c.args.text.now c.in-Ok.bytes.items (c.are_digits.ensures.0 c.if-not-are_digits.false) c.in-Ok.ensures.ok

pub returns-in-Err-OddLength : goal.returns-in-Err-OddLength
returns-in-Err-OddLength c = not_decoded c.args.text.now c.in-Err-OddLength.field-0 c.in-Err-OddLength.ensures.err (λ e. odd (sym c.in-Err-OddLength.field-0-is ∙ e))

pub returns-in-Err-InvalidStringLength : goal.returns-in-Err-InvalidStringLength
returns-in-Err-InvalidStringLength c =
    not_decoded c.args.text.now c.in-Err-InvalidStringLength.field-0 c.in-Err-InvalidStringLength.ensures.err (λ e. length_of (sym c.in-Err-InvalidStringLength.field-0-is ∙ e))

pub returns-in-Err-InvalidHexCharacter : goal.returns-in-Err-InvalidHexCharacter
returns-in-Err-InvalidHexCharacter c =
    not_decoded c.args.text.now c.in-Err-InvalidHexCharacter.field-0 c.in-Err-InvalidHexCharacter.ensures.err (λ e. digit _ _ (sym c.in-Err-InvalidHexCharacter.field-0-is ∙ e))
