use Rattle.std.proofs.Common.{◌≡◌, ◌+◌, ◌*◌, ◌==◌, ap, sym, ◌∙◌, subst, map, length, not}
use Rattle.std.specs.Prelude.{count_by}
use Rattle.ab_sign.specs.declared.key.SignKey.TheVariants.{Public}
use Rattle.ab_text.specs.Lines.{lines_of}
use Rattle.ab_audit.specs.Audits.{Auditing, IsToldOf, begun, told_all}
use Rattle.ab_audit.specs.Kept.{accused_in, shown_if}
use Rattle.ab_audit.specs.Reports.{report_text}
use Rattle.ab_audit.specs.Tellings.{is_bad, keys_in}
use Rattle.ab_audit.proofs.TellingLemmas.{all_of, audited, shown_told}
use Rattle.ab_audit.proofs.telling.audit_text.Goals as goal

pub new-requires : goal.new-requires
new-requires c =
    let t = c.in_ok-input.input in
    let were = c.read_is_spelled.ensures (lines_of c.args.text.now) t c.in_ok-input.ensures in
    ap length c.publics.ensures ∙ were.1.public_of_each ∙ ap (λ f. 3 * f + 1) (sym c.cluster.ensures)

pub returns-clause-ok : goal.returns-clause-ok
returns-clause-ok c =
    let t = c.in_ok-input.input in
    let were = c.read_is_spelled.ensures (lines_of c.args.text.now) t c.in_ok-input.ensures in
    let first : c.in_ok-audit.audit ≡ begun (keys_in t) = c.in_ok-audit.ensures ∙ ap (λ ps. begun (map Public ps)) c.publics.ensures in
    let last : c.add_all.new.audit ≡ told_all (begun (keys_in t)) t.messages = c.in_ok-bad.ensures.told ∙ (λ j. told_all (first j) (c.messages-messages.ensures j)) in
    let listed = c.in_ok-accused.accused.items in
    let told = subst (λ (a : Auditing). IsToldOf (accused_in a.kept) listed) last c.in_ok-accused.ensures in
    let all = all_of c.audits_accuse_contradictions.ensures.accused c.audits_accuse_contradictions.ensures.once t were.1.messages listed told in
    let shown = ap (λ (a : Auditing). shown_if c.args.why a.kept) last ∙ shown_told c.args.why t (c.audits_accuse_contradictions.ensures.shown (keys_in t) t.messages) in
    audited c.args.why c.args.text.now c.in_ok-report.report.items _ t (shown_if c.args.why c.add_all.new.audit.kept) listed _ c.in_ok-bad.bad c.in_ok-input.ensures all shown
    (ap length c.messages-messages.ensures) (c.in_ok-bad.ensures.bad ∙ ap (count_by is_bad) c.messages-messages.ensures)
    (c.in_ok-report.ensures ∙ ap (λ l. report_text (shown_if c.args.why c.add_all.new.audit.kept) l (length c.messages-messages.result.now) c.in_ok-bad.bad) c.as_slice-listed.ensures.value)
    (ap not (c.is_empty.ensures ∙ ap (λ l. length l == 0) c.as_slice-listed.ensures.value))
