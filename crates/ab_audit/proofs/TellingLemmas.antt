-- What is told of the messages of a text.
use Rattle.std.proofs.Common.{◌≡◌, ◌↔◌, ℕ, zero, suc, ◌<◌, ◌==◌, List, [], ◌∷◌, Bool, true, false, not, IsTrue, Ok, All, arith, map, refl, ap, sym, ◌∙◌, subst, length}
use Rattle.std.specs.Prelude.{count_by}
use Rattle.std.specs.List.{AllByRecursion, Contains, IsDistinct}
use Rattle.std.proofs.lemmas.Bool.{false≢true}
use Rattle.std.proofs.lemmas.Bool.Decides.{nat_tests}
use Rattle.std.proofs.lemmas.List.Elements.{All-cons}
use Rattle.std.proofs.lemmas.List.Sorted.{Contains-permutation, IsPermutation-sym}
use Rattle.std.proofs.lemmas.Map.Keys.{IsDistinct-IsPermutation}
use Rattle.ab_num.proofs.Lists.{Contains-head, Contains-none}
use Rattle.ab_form.specs.Formats.{IsBytes}
use Rattle.ab_sign.specs.declared.key.SignKey.{SignKey}
use Rattle.ab_text.specs.EventLines.{IsInjected}
use Rattle.ab_text.specs.Lines.{lines_of}
use Rattle.ab_audit_text.specs.Texts.{AuditText, audit_in}
use Rattle.ab_audit.specs.declared.accusation.Accusation.{Accusation}
use Rattle.ab_audit.specs.Accusations.{IsAccused, accusation_eq}
use Rattle.ab_audit.specs.Audits.{IsToldOf, begun, told_all}
use Rattle.ab_audit.specs.Reports.{report_text}
use Rattle.ab_audit.specs.Exhibits.{evidence}
use Rattle.ab_audit.specs.Kept.{Finding, accused_in, finding_of, shown_if, shown_in}
use Rattle.ab_audit.specs.Tellings.{Accuses, AreAllOf, Audits, is_bad, keys_in, told_why}
use Rattle.ab_audit.proofs.OnceLemmas.{symmetric}

-- ---- messages are bytes

small_bytes : (bytes : List ℕ) → All (λ b. b < 256) bytes → IsBytes bytes
small_bytes [] good i = omega arith
small_bytes (b ∷ rest) good zero = good 0 0 (omega arith)
small_bytes (b ∷ rest) good (suc i) = small_bytes rest (λ k d lt. good (suc k) d (omega arith)) i

pub are_bytes : (ms : List (List ℕ)) → AllByRecursion IsInjected ms → All IsBytes ms
are_bytes [] good = λ k d lt. absurd (omega arith)
are_bytes (m ∷ ms) good = All-cons IsBytes m ms (small_bytes m good.0.small) (are_bytes ms good.1)

-- ---- the list that is told

abbrev LawOf : Type 0
LawOf = (keys : List SignKey) (inputs : List (List ℕ)) (a : Accusation) → All IsBytes inputs → Contains (accused_in (told_all (begun keys) inputs).kept) a ↔ IsAccused keys inputs a

module _ (exact : LawOf) (once : (keys : List SignKey) (inputs : List (List ℕ)) → IsDistinct accusation_eq (accused_in (told_all (begun keys) inputs).kept))
    (t : AuditText) (form : AllByRecursion IsInjected t.messages) (listed : List Accusation) where
  pub all_of : IsToldOf (accused_in (told_all (begun (keys_in t)) t.messages).kept) listed → AreAllOf t listed
  all_of told =
      let keys = keys_in t in
      let accused = accused_in (told_all (begun keys) t.messages).kept in
      let law = λ (a : Accusation). exact keys t.messages a (are_bytes t.messages form) in
      record {
        exact = λ a. (λ is. (law a).0 (Contains-permutation listed accused a (IsPermutation-sym accused listed told.each) is), λ is. Contains-permutation accused listed a told.each ((law a).1 is));
        once = IsDistinct-IsPermutation accusation_eq symmetric accused listed told.each (once keys t.messages);
        rising = told.rising;
      }

none_test : (0 == 0) ≡ true
none_test = grind (arith, nat_tests)

some_test : (n : ℕ) → (suc n == 0) ≡ false
some_test n = grind (arith, nat_tests)

-- whether there are any says whether someone is accused
any_accused : (t : AuditText) (listed : List Accusation) → AreAllOf t listed → IsTrue (not (length listed == 0)) ↔ Accuses t
any_accused t [] all = (λ e. absurd (false≢true (sym (ap not none_test) ∙ e)), λ a. absurd (Contains-none a.0 ((all.exact a.0).1 a.1)))
any_accused t (a ∷ listed) all = (λ e. (a, (all.exact a).0 (Contains-head a listed)), λ b. ap not (some_test (length listed)))

-- what is told of an accusation is what shows it, if that is asked for
pub shown_told : (why : Bool) (t : AuditText) → ((a : Accusation) → shown_in (told_all (begun (keys_in t)) t.messages).kept a ≡ map finding_of (evidence (keys_in t) t.messages a))
    → shown_if why (told_all (begun (keys_in t)) t.messages).kept ≡ told_why why t
shown_told false t shown = refl
shown_told true t shown = λ j a. shown a j

-- the report of a list of all accusations
pub audited : (why : Bool) (text report : List ℕ) (accuses : Bool) (t : AuditText) (shown : Accusation → List Finding) (listed : List Accusation) (m b : ℕ) → audit_in (lines_of text) ≡ Ok t → AreAllOf t listed
    → shown ≡ told_why why t → m ≡ length t.messages → b ≡ count_by is_bad t.messages → report ≡ report_text shown listed m b → accuses ≡ not (length listed == 0) → Audits why text report accuses
audited why text report accuses t shown listed m b reads all told messages bad is says = record {
  audit = t;
  reads = reads;
  listed = listed;
  accused = all;
  reports = is ∙ (λ j. report_text (told j) listed (messages j) (bad j));
  says = subst (λ (x : Bool). IsTrue x ↔ Accuses t) (sym says) (any_accused t listed all);
}
