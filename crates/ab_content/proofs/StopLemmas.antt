-- What a stopped replica states is told by its first byte.
use Rattle.std.proofs.Common.{◌≡◌, ◌≢◌, ℕ, ◌^◌, ◌<◌, eqb, Bool, true, false, List, ◌++◌, Result, Ok, Err, refl, sym, ap, ◌∙◌, append_assoc, lit<}
use Rattle.std.specs.Int.{w8}
use Rattle.ab_form.specs.declared.bad.Bad.{Bad}
use Rattle.ab_form.specs.declared.bad.Bad.TheVariants.{Short}
use Rattle.ab_form.specs.Readers.{◌>>=◌, Reader, number_at, either}
use Rattle.ab_form.specs.Formats.{IsBytes, IsFormat, Stays, Takes, with_more, u8_bytes, u32_bytes}
use Rattle.ab_form.specs.Lists.{spell_optional}
use Rattle.ab_form.proofs.StepLemmas.{bind_ok, done-fault, fault, fault_is}
use Rattle.ab_form.proofs.FormatLemmas.{format}
use Rattle.ab_form.proofs.PartLemmas.{number-format, wide8}
use Rattle.ab_msg.specs.declared.content.Content.{Content}
use Rattle.ab_msg.specs.declared.content.Content.TheVariants.{Abort, AbortZ, TrimmedAbort}
use Rattle.ab_msg.specs.Contents.{IsEitherAbort, IsAbortZ, IsStopContent, spell_content, spell_zcert}
use Rattle.ab_msg.specs.Fields.{spell_party, spell_history, spell_trimmed}
use Rattle.ab_content.specs.Rows.{abort_at, abort_z_at, stop_at}
use Rattle.ab_content.proofs.ContentLemmas.{abort-format, abort_z-format}

-- a reader by a byte that it leaves there
abbrev told : {A : Type 0} → (ℕ → Reader A) → Reader A
told r bytes = number_at w8 bytes >>= λ code. r code.0 bytes

told-stays_at : {A : Type 0} (r : ℕ → Reader A) (bytes more : List ℕ) → ((code : ℕ) → Stays (r code)) → (v : Result (ℕ × List ℕ) Bad) → number_at w8 bytes ≡ v
    → (v >>= λ code. r code.0 bytes) ≢ Err Short → told r (bytes ++ more) ≡ with_more more (v >>= λ code. r code.0 bytes)
told-stays_at r bytes more each (Ok a) e h =
    let here : number_at w8 bytes ≢ Err Short = λ s. done-fault a Short (sym e ∙ s) in
    let far : number_at w8 (bytes ++ more) ≡ Ok (a.0, a.1 ++ more) = (number-format w8 (2 ^ 8) wide8).stays bytes more here ∙ ap (with_more more) e in
    rw far (each a.0 bytes more h)
told-stays_at {A} r bytes more each (Err d) e h =
    let here : number_at w8 bytes ≢ Err Short = λ s. h (ap (fault {A = A × List ℕ}) (fault_is {A = ℕ × List ℕ} d Short (sym e ∙ s))) in
    let far : number_at w8 (bytes ++ more) ≡ Err d = (number-format w8 (2 ^ 8) wide8).stays bytes more here ∙ ap (with_more more) e in
    rw far refl

told-stays : {A : Type 0} (r : ℕ → Reader A) → ((code : ℕ) → Stays (r code)) → Stays (told r)
told-stays r each bytes more h = told-stays_at r bytes more each (number_at w8 bytes) refl h

abbrev by_code : ℕ → Reader Content
by_code code = either (eqb code 15) abort_z_at abort_at

either-stays : (b : Bool) → Stays (either b abort_z_at abort_at)
either-stays true = abort_z-format.stays
either-stays false = abort-format.stays

plain : (y : Content) → IsEitherAbort y → IsStopContent y
plain (Abort maker instance history) h = h
plain (TrimmedAbort maker instance start digest rest) h = h
plain y h = absurd h

kept : (y : Content) → IsAbortZ y → IsStopContent y
kept (AbortZ maker instance history zcert) h = h
kept y h = absurd h

either-takes : (b : Bool) (bytes rest : List ℕ) (y : Content) → IsBytes bytes → either b abort_z_at abort_at bytes ≡ Ok (y, rest)
    → Takes bytes (spell_content y) rest × IsStopContent y
either-takes true bytes rest y fits e = (let t = abort_z-format.takes bytes rest y fits e in (t.0, kept y t.1))
either-takes false bytes rest y fits e = (let t = abort-format.takes bytes rest y fits e in (t.0, plain y t.1))

code_first : (code : ℕ) (text rest : List ℕ) → code < 2 ^ 8 → number_at w8 ((u8_bytes code ++ text) ++ rest) ≡ Ok (code, text ++ rest)
unfolding u8_bytes
code_first code text rest small = ap (number_at w8) (append_assoc (u8_bytes code) text rest) ∙ (number-format w8 (2 ^ 8) wide8).again code (text ++ rest) small

stop-again : (y : Content) (rest : List ℕ) → IsStopContent y → told by_code (spell_content y ++ rest) ≡ Ok (y, rest)
stop-again (Abort maker instance history) rest h =
    rw (code_first 6 (spell_party maker ++ (u32_bytes instance ++ spell_history history)) rest (lit< tt)) (abort-format.again (Abort maker instance history) rest h)
stop-again (AbortZ maker instance history zcert) rest h =
    rw (code_first 15 (spell_party maker ++ (u32_bytes instance ++ (spell_history history ++ spell_optional spell_zcert zcert))) rest (lit< tt))
    (abort_z-format.again (AbortZ maker instance history zcert) rest h)
stop-again (TrimmedAbort maker instance start digest list) rest h =
    rw (code_first 6 (spell_party maker ++ (u32_bytes instance ++ spell_trimmed (record { start = start; digest = digest; rest = list }))) rest (lit< tt))
    (abort-format.again (TrimmedAbort maker instance start digest list) rest h)
stop-again y rest h = absurd h

pub stop-format : IsFormat stop_at spell_content IsStopContent
unfolding stop_at
stop-format = format (told by_code) spell_content IsStopContent
    (λ bytes rest y fits e.
    let a = bind_ok (number_at w8 bytes) (λ code. by_code code.0 bytes) (y, rest) e in
    either-takes (eqb a.0.0 15) bytes rest y fits a.2)
    stop-again
    (told-stays by_code (λ code. either-stays (eqb code 15)))
