-- One line of a node's commands.
use Rattle.std.proofs.Common.{◌≡◌, ℕ, ◌+◌, List, [], ◌∷◌, ◌++◌, Option, None, Result, Err, codes, sym, ap, ◌∙◌, if◌then◌else◌}
use Rattle.std.specs.Str.{bytes_eq}
use Rattle.std.proofs.lemmas.Bool.{false_from_ne_true}
use Rattle.std.proofs.lemmas.Slice.Eq.{bytes_eq-Decides}
use Rattle.ab_num.specs.declared.party.Party.{Party}
use Rattle.ab_key_text.specs.declared.fault.NodeFault.{NodeFault}
use Rattle.ab_key_text.specs.declared.fault.NodeFault.TheVariants.{BadLine, NoEnd}
use Rattle.ab_key_text.specs.Lines.{◌>>=◌, found_at}
use Rattle.ab_key_text.specs.Nodes.{command_in, commands_at}
use Rattle.ab_key_text.specs.Reading.{ended}

abbrev Lines : Type 0
Lines = List (List ℕ)

abbrev Outcome : Type 0
Outcome = Result Lines NodeFault

-- a line that isn't the end
abbrev pub in_middle : Party → Lines → ℕ → Lines → Option (List ℕ) → Outcome
in_middle me done n ls o = found_at n ls o >>= λ (x : List ℕ × Lines). commands_at me (done ++ x.0 ∷ []) (n + 1) ls

module _ (me : Party) (done : Lines) (n : ℕ) (lines : Lines) (whole : Outcome) (reads : commands_at me done n lines ≡ whole) where
  pub no_line : lines ≡ [] → whole ≡ Err (NoEnd n)
  no_line none = sym reads ∙ ap (commands_at me done n) none

  pub last_line : (l : List ℕ) (ls : Lines) → lines ≡ l ∷ ls → l ≡ codes "end" → whole ≡ ended done (n + 1) ls
  last_line l ls some is =
      sym reads ∙ ap (commands_at me done n) some
      ∙ ap (λ b. if b then ended done (n + 1) ls else in_middle me done n ls (command_in me l)) ((bytes_eq-Decides l (codes "end")).1 is)

  middle : (l : List ℕ) (ls : Lines) → lines ≡ l ∷ ls → (l ≡ codes "end" → ⊥) → whole ≡ in_middle me done n ls (command_in me l)
  middle l ls some other =
      sym reads ∙ ap (commands_at me done n) some
      ∙ ap (λ b. if b then ended done (n + 1) ls else in_middle me done n ls (command_in me l)) (false_from_ne_true (bytes_eq l (codes "end")) (λ t. other ((bytes_eq-Decides l (codes "end")).0 t)))

  pub bad_line : (l : List ℕ) (ls : Lines) → lines ≡ l ∷ ls → (l ≡ codes "end" → ⊥) → command_in me l ≡ None → whole ≡ Err (BadLine n)
  bad_line l ls some other none = middle l ls some other ∙ ap (in_middle me done n ls) none
