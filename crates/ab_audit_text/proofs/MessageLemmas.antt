-- One line of an audit's messages.
use Rattle.std.proofs.Common.{◌≡◌, ℕ, ◌+◌, List, [], ◌∷◌, Bool, None, Result, Err, codes, sym, ap, ◌∙◌, if◌then◌else◌}
use Rattle.std.specs.Str.{bytes_eq}
use Rattle.std.proofs.lemmas.Bool.{false_from_ne_true}
use Rattle.std.proofs.lemmas.Slice.Eq.{bytes_eq-Decides}
use Rattle.ab_key_text.specs.declared.fault.NodeFault.{NodeFault}
use Rattle.ab_key_text.specs.declared.fault.NodeFault.TheVariants.{BadLine, NoEnd}
use Rattle.ab_key_text.specs.Lines.{◌>>=◌, found_at}
use Rattle.ab_key_text.specs.Reading.{ended}
use Rattle.ab_audit_text.specs.Texts.{AuditText, message_in, messages_at, with_message}

abbrev Outcome : Type 0
Outcome = Result AuditText NodeFault

abbrev either : AuditText → ℕ → List ℕ → List (List ℕ) → Bool → Outcome
either t n l ls b = if b then ended t (n + 1) ls else found_at n ls (message_in l) >>= λ x. messages_at (with_message t x.0) (n + 1) ls

module _ (t : AuditText) (n : ℕ) (lines : List (List ℕ)) (whole : Outcome) (reads : messages_at t n lines ≡ whole) where
  pub no_line : lines ≡ [] → whole ≡ Err (NoEnd n)
  no_line none = sym reads ∙ ap (messages_at t n) none

  module _ (l : List ℕ) (ls : List (List ℕ)) (some : lines ≡ l ∷ ls) where
    pub last_line : l ≡ codes "end" → whole ≡ ended t (n + 1) ls
    last_line is = sym reads ∙ ap (messages_at t n) some ∙ ap (either t n l ls) ((bytes_eq-Decides l (codes "end")).1 is)

    middle : (l ≡ codes "end" → ⊥) → whole ≡ (found_at n ls (message_in l) >>= λ x. messages_at (with_message t x.0) (n + 1) ls)
    middle other = sym reads ∙ ap (messages_at t n) some ∙ ap (either t n l ls) (false_from_ne_true (bytes_eq l (codes "end")) (λ e. other ((bytes_eq-Decides l (codes "end")).0 e)))

    pub bad_line : (l ≡ codes "end" → ⊥) → message_in l ≡ None → whole ≡ Err (BadLine n)
    bad_line other none = middle other ∙ ap (λ o. found_at n ls o >>= λ x. messages_at (with_message t x.0) (n + 1) ls) none
