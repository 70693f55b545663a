-- What `parse` gives at the decimal text of a number.
use Rattle.std.proofs.Common.{◌≡◌, ℕ, ◌<◌, ◌^◌, List, Option, Some, None, Ok, Err, Result, sym, ◌∙◌, ap, decimal, true, ◌&&◌, nat_lt, IfSome, if◌then◌else◌, arith}
use Rattle.std.specs.Str.{bytes_eq}
use Rattle.std.specs.Str.Parse.{ParsesUnsigned, digits_value}
use Rattle.std.proofs.lemmas.Bool.{false_from_ne_true}
use Rattle.std.proofs.lemmas.Bool.Decides.{Decides-and, Decides-ltb}
use Rattle.std.proofs.lemmas.Slice.Eq.{bytes_eq-Decides}
use Rattle.ab_text.specs.Numbers.{number_of, is_number}
use Rattle.std.proofs.lemmas.Fmt.{parse-decimal, decimal_is_IsNumeral}

pub some_parsed : {E : Type 0} → (r : Result ℕ E) (n m : ℕ) (bs text : List ℕ) → m < 2 ^ 64 → bs ≡ text → text ≡ decimal m → ParsesUnsigned 64 10 bs r → r ≡ Ok n → Some n ≡ Some m
some_parsed {E} r n m bs text small is said read was =
    let same : ◌≡◌ {A = Result ℕ E} (Ok n) (Ok m) = sym was ∙ parse-decimal 64 m bs r small small (is ∙ said) read in
    cc

pub not_refused : {E : Type 0} → (r : Result ℕ E) (e : E) (m : ℕ) (bs text : List ℕ) → m < 2 ^ 64 → bs ≡ text → text ≡ decimal m → ParsesUnsigned 64 10 bs r → r ≡ Err e → ⊥
not_refused {E} r e m bs text small is said read was =
    let same : ◌≡◌ {A = Result ℕ E} (Err e) (Ok m) = sym was ∙ parse-decimal 64 m bs r small small (is ∙ said) read in
    cc

pub is_some_number : (text : List ℕ) (n : ℕ) → n < 2 ^ 64 → text ≡ decimal n → number_of text ≡ Some n
unfolding number_of is_number
is_some_number text n small said =
    let value : digits_value 10 text ≡ n = ap (digits_value 10) said ∙ (decimal_is_IsNumeral n small).1 in
    let same : bytes_eq text (decimal (digits_value 10 text)) ≡ true = (bytes_eq-Decides text (decimal (digits_value 10 text))).1 (said ∙ ap decimal (sym value)) in
    let fits : nat_lt (digits_value 10 text) (2 ^ 64) ≡ true = (Decides-ltb (digits_value 10 text) (2 ^ 64)).1 (omega (arith, value)) in
    (λ j. if same j && fits j then Some (digits_value 10 text) else None) ∙ ap Some value

no_number : (text : List ℕ) → ((n : ℕ) → n < 2 ^ 64 → text ≡ decimal n → ⊥) → number_of text ≡ None
unfolding number_of is_number
no_number text none =
    let test = Decides-and _ _ (bytes_eq-Decides text (decimal (digits_value 10 text))) (Decides-ltb (digits_value 10 text) (2 ^ 64)) in
    ap (λ b. if b then Some (digits_value 10 text) else None) (false_from_ne_true (is_number text) (λ t. let both = test.0 t in none (digits_value 10 text) both.1 both.0))

-- what a reader of numbers finds, and nothing else, is the number
pub number_from : (text : List ℕ) (r : Option ℕ) → IfSome r (λ n. text ≡ decimal n) → ((n : ℕ) → n < 2 ^ 64 → text ≡ decimal n → r ≡ Some n) → IfSome r (λ n. n < 2 ^ 64) → r ≡ number_of text
number_from text None found only small = sym (no_number text (λ n lt said. let e : ◌≡◌ {A = Option ℕ} None (Some n) = only n lt said in cc))
number_from text (Some n) found only small = sym (is_some_number text n small found)
