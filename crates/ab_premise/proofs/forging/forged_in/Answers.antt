use Rattle.std.proofs.Common.{List, map, ap, sym, ◌∙◌}
use Rattle.std.specs.List.{list_any}
use Rattle.std.specs.Str.{bytes_eq}
use Rattle.ab_msg.specs.declared.content.Content.{Content}
use Rattle.ab_msg.specs.Contents.{spell_content}
use Rattle.ab_abs.specs.Faults.{is_faulty}
use Rattle.ab_check.specs.Checks.{Check}
use Rattle.ab_check.specs.Listing.{claimed}
use Rattle.ab_check.proofs.ClaimLemmas.{checked-claims}
use Rattle.ab_run.specs.Stages.{forged_in}
use Rattle.ab_premise.proofs.ClaimLemmas.{faulty_skipped, made_skipped}
use Rattle.ab_premise.proofs.forging.forged_in.Goals.{else-not-is_faulty-via-then-not-is_faulty+else-not-contains, else-not-is_faulty-via-else-not-is_faulty}
use Rattle.ab_premise.proofs.forging.forged_in.Goals as goal

pub loop-check-init : goal.loop-check-init
loop-check-init c x e =
    let made = c.args.made.now in
    let f = c.args.k.now.f in
    let m = c.args.m.now in
    ap (λ (ks : List Check). forged_in x spell_content made (map (λ (k : Check). k.content) ks)) (c.into_iter-check-iterator.ensures.into_iter_gives ∙ c.checks-check-items.ensures)
    ∙ ap (λ (cs : List Content). forged_in x spell_content made cs) (checked-claims f m.me m.msg)

pub loop-check-preserved : goal.loop-check-preserved
loop-check-preserved c x e =
    let made = c.args.made.now in
    let s = claimed c.in-Some.check.claim in
    let more = map (λ (k : Check). k.content) c.next.new.self in
    let left = ap (λ (ks : List Check). forged_in x spell_content made (map (λ (k : Check). k.content) ks)) (sym c.in-Some.ensures.steps.0) ∙ c.loop-check.invariant x e in
    elim c.else-not-is_faulty.branch [
      | else-not-is_faulty-via-then-not-is_faulty+else-not-contains w ↦
          sym (made_skipped x spell_content made s more (ap (λ bytes. list_any (bytes_eq bytes) made) (sym (w.as_slice.ensures ∙ c.text-text.ensures)) ∙ sym w.contains.ensures ∙ w.if-not-contains.false)) ∙ left
      | else-not-is_faulty-via-else-not-is_faulty w ↦
          sym (faulty_skipped x spell_content made s more ((λ j. is_faulty (e j) (sym c.maker-maker.ensures j)) ∙ sym c.is_faulty.ensures ∙ w.if-not-is_faulty.false)) ∙ left
    ]

pub returns : goal.returns
returns c x e =
    sym (ap (λ (ks : List Check). forged_in x spell_content c.args.made.now (map (λ (k : Check). k.content) ks)) c.in-None.ensures.steps.0.0) ∙ c.loop-check.invariant x e
