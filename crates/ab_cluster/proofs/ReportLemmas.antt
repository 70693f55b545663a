-- The lines of a report, one behind the other.
use Rattle.std.proofs.Common.{◌≡◌, ℕ, ◌+◌, ◌*◌, List, [], ◌∷◌, ◌++◌, Option, None, Some, map, codes, decimal, refl, sym, ap, ◌∙◌, append_assoc, arith}
use Rattle.std.specs.Prelude.{is_none, ◌||◌}
use Rattle.std.specs.List.{list_any, range_with_len}
use Rattle.std.specs.Option.{option_map}
use Rattle.std.proofs.lemmas.List.FromFn.{map-range_with_len_more}
use Rattle.ab_num.specs.declared.party.Party.{Party}
use Rattle.ab_num.specs.declared.party.Party.TheVariants.{Replica, Client}
use Rattle.ab_text.specs.Cores.{party_text}
use Rattle.ab_text.specs.Reports.{◌then◌}
use Rattle.ab_text.specs.Texts.{text_of}
use Rattle.ab_text.proofs.WritingLemmas.{added}
use Rattle.ab_cluster.specs.declared.gathering.Gathered.{Gathered}
use Rattle.ab_cluster.specs.declared.spawner.Ended.{Ended}
use Rattle.ab_cluster.specs.Children.{Ending, ending}
use Rattle.ab_cluster.specs.Gathering.{Outcome, outcome_of}
use Rattle.ab_cluster.specs.Reports.{child_line, ended_at, is_ill, out_of, report_text}

pub none_grouped : (p : Party) → (codes "child " then party_text p then codes " none") ≡ child_line p None
none_grouped p = sym (simp append_assoc)

pub status_grouped : (p : Party) (e : Ending) → (codes "child " then party_text p then codes " " then decimal e.status) ≡ child_line p (Some e)
status_grouped p e = sym (simp append_assoc)

-- the lines of the first replicas
abbrev pub replica_lines : List Outcome → ℕ → List (List ℕ)
replica_lines all n = map (λ r. child_line (Replica r) (ended_at all r)) (range_with_len 0 n)

pub lines_more : (all : List Outcome) (n : ℕ) (one two : List ℕ) → one ≡ text_of (replica_lines all n) → two ≡ one ++ text_of (child_line (Replica n) (ended_at all n) ∷ []) → two ≡ text_of (replica_lines all (n + 1))
lines_more all n one two first second =
    added [] one two (replica_lines all n) (child_line (Replica n) (ended_at all n) ∷ []) first second
    ∙ ap text_of (sym (map-range_with_len_more (λ r. child_line (Replica r) (ended_at all r)) 0 n n (omega arith)))

-- and then the client's
pub report_is : (f : ℕ) (all : List Outcome) (n : ℕ) (one two three : List ℕ) (e : Option Ending) → n ≡ 3 * f + 1 → one ≡ text_of (replica_lines all n)
    → two ≡ one ++ text_of (child_line (Client 0) e ∷ []) → e ≡ ended_at all n → three ≡ two ++ out_of e → three ≡ report_text f all
report_is f all n one two three e count first second at third =
    third
    ∙ ap (λ (t : List ℕ). t ++ out_of e) (added [] one two (replica_lines all n) (child_line (Client 0) e ∷ []) first second)
    ∙ ap (λ (x : Option Ending). text_of (replica_lines all n ++ child_line (Client 0) x ∷ []) ++ out_of x) at
    ∙ ap (λ (m : ℕ). text_of (replica_lines all m ++ child_line (Client 0) (ended_at all m) ∷ []) ++ out_of (ended_at all m)) count

-- ---- what became of the children

known : (e : Option Ended) → is_none e ≡ is_none (option_map ending e)
known None = refl
known (Some e) = refl

pub unknown_among : (all : List Gathered) → list_any (λ (g : Gathered). is_none g.ended) all ≡ list_any (λ (o : Outcome). is_none o.ended) (map outcome_of all)
unknown_among [] = refl
unknown_among (g ∷ gs) = λ j. known g.ended j || unknown_among gs j

pub ill_among : (all : List Gathered) → list_any (λ (g : Gathered). is_ill (option_map ending g.ended)) all ≡ list_any (λ (o : Outcome). is_ill o.ended) (map outcome_of all)
ill_among [] = refl
ill_among (g ∷ gs) = ap (λ b. is_ill (option_map ending g.ended) || b) (ill_among gs)
