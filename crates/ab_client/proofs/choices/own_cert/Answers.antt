use Rattle.std.proofs.Common.{◌≡◌, All, List, Option, Bor, map, true, false, sym, ap, ◌∙◌, subst}
use Rattle.std.specs.Prelude.{IfOk}
use Rattle.std.specs.List.{filter}
use Rattle.std.proofs.lemmas.List.Elements.{All-filter}
use Rattle.ab_num.specs.Places.{kind_of}
use Rattle.ab_hist.specs.Trimmed.{Trimmed}
use Rattle.ab_msg.specs.declared.signed.Signed.{Signed}
use Rattle.ab_msg.specs.Contents.{IsStopContent}
use Rattle.ab_msg.specs.Certs.{IsSigned}
use Rattle.ab_abs.specs.Kinds.{needs_equal}
use Rattle.ab_stable.specs.Offers.{makes_checkpoints}
use Rattle.ab_run.specs.Clients.{keep, same_list}
use Rattle.ab_client.specs.Choices.{first_choice, with_list}
use Rattle.ab_client.proofs.CertLemmas.{All-keep}
use Rattle.ab_client.proofs.ChoiceLemmas.{own_equal, own_chosen}
use Rattle.ab_client.proofs.RefLemmas.{seen}
use Rattle.ab_client.proofs.choices.own_cert.Goals as goal

pub certified-requires-clause-formed : goal.certified-requires-clause-formed
certified-requires-clause-formed c =
    let v : Signed = c.args.v.now in
    let kept : List Signed = c.args.kept.now in
    let alike = filter (λ (w : Signed). same_list v.content w.content) in
    let some : seen c.deref-then-needs_equal.result.now ≡ alike (keep v kept) =
    ap seen c.deref-then-needs_equal.ensures.value ∙ c.in_ok-some.ensures ∙ ap alike (ap seen c.deref.ensures.value ∙ c.in_ok-all.ensures)
    in
    subst (All (IsSigned IsStopContent)) (sym some)
    (All-filter (λ (w : Signed). same_list v.content w.content) (IsSigned IsStopContent) (keep v kept) (All-keep (IsSigned IsStopContent) v c.requires.abort kept c.requires.formed))

pub returns-then-needs_equal-clause-list : goal.returns-then-needs_equal-clause-list
returns-then-needs_equal-clause-list c =
    let q = c.args.c.now in
    let j = c.args.j in
    let v : Signed = c.args.v.now in
    let kept : List Signed = c.args.kept.now in
    let alike = filter (λ (w : Signed). same_list v.content w.content) in
    let some : seen c.deref-then-needs_equal.result.now ≡ alike (keep v kept) =
    ap seen c.deref-then-needs_equal.ensures.value ∙ c.in_ok-some.ensures ∙ ap alike (ap seen c.deref.ensures.value ∙ c.in_ok-all.ensures)
    in
    let equal : needs_equal (kind_of q.plan j) ≡ true = ap needs_equal (sym c.kind-kind.ensures) ∙ sym c.needs_equal.ensures ∙ c.if-needs_equal.true in
    subst (λ (cert : List Signed). IfOk c.certified.result (λ o. o ≡ with_list q j cert)) (some ∙ sym (own_equal q j v kept equal)) c.certified.ensures.list

pub certified-requires-then-not-makes_checkpoints-clause-formed : goal.certified-requires-then-not-makes_checkpoints-clause-formed
certified-requires-then-not-makes_checkpoints-clause-formed c =
    let all : seen c.deref-then-not-makes_checkpoints.result.now ≡ keep c.args.v.now c.args.kept.now =
    ap seen c.deref-then-not-makes_checkpoints.ensures.value ∙ c.in_ok-all.ensures in
    subst (All (IsSigned IsStopContent)) (sym all) (All-keep (IsSigned IsStopContent) c.args.v.now c.requires.abort c.args.kept.now c.requires.formed)

pub first_choice-requires-clause-formed : goal.first_choice-requires-clause-formed
first_choice-requires-clause-formed c =
    let all : seen c.deref-2.result.now ≡ keep c.args.v.now c.args.kept.now = ap seen c.deref-2.ensures.value ∙ c.in_ok-all.ensures in
    subst (All (IsSigned IsStopContent)) (sym all) (All-keep (IsSigned IsStopContent) c.args.v.now c.requires.abort c.args.kept.now c.requires.formed)

pub returns-clause-list : goal.returns-clause-list
returns-clause-list c =
    let q = c.args.c.now in
    let j = c.args.j in
    let v : Signed = c.args.v.now in
    let kept : List Signed = c.args.kept.now in
    let all : seen c.deref-2.result.now ≡ keep v kept = ap seen c.deref-2.ensures.value ∙ c.in_ok-all.ensures in
    let equal : needs_equal (kind_of q.plan j) ≡ false = ap needs_equal (sym c.kind-kind.ensures) ∙ sym c.needs_equal.ensures ∙ c.if-needs_equal.false in
    let many : makes_checkpoints (kind_of q.plan j) ≡ true = ap makes_checkpoints (sym c.kind-kind.ensures) ∙ sym c.makes_checkpoints.ensures ∙ c.if-not-makes_checkpoints.false in
    subst (λ (x : Option (List Signed × Trimmed)). IfOk c.first_choice.result (λ o. o ≡ x))
    ((λ i. first_choice q j (seen (c.new-chosen.ensures.items i)) (c.from.ensures i) (all i)) ∙ own_chosen q j v kept equal many)
    c.first_choice.ensures.list
