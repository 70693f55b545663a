use Rattle.std.proofs.Common.{◌≡◌, ◌++◌, ◌∷◌, [], ◌+◌, map, take, arith, ap, sym, ◌∙◌, subst, length, ◌<◌}
use Rattle.std.specs.Prelude.{flat_map}
use Rattle.std.specs.List.{fold}
use Rattle.std.proofs.lemmas.List.{take_all, take_more}
use Rattle.ab_msg.specs.Claims.{fresh, stated}
use Rattle.ab_msg.specs.Contents.{spell_content}
use Rattle.ab_run.specs.Stages.{keep}
use Rattle.ab_run.specs.Forms.{IsDraftOf}
use Rattle.ab_premise.proofs.StatingLemmas.{states_more}
use Rattle.ab_premise.proofs.stating.state.Goals as goal

pub state_message-requires-clause-draft : goal.state_message-requires-clause-draft
state_message-requires-clause-draft c =
    let p = c.args.party in
    let i = c.loop-out.out-index in
    let outs = c.args.outs.now in
    let o = c.out-item.result in
    (subst (IsDraftOf c.args.k.now.f p) (sym c.out-item.is) (c.requires.drafts i o (omega (arith, c.loop-out-test.true)))).draft

pub loop-out-preserved : goal.loop-out-preserved
loop-out-preserved c =
    let f = c.args.k.now.f in
    let p = c.args.party in
    let i = c.loop-out.out-index in
    let outs = c.args.outs.now in
    let o = c.out-item.result in
    let lt : i < length outs = omega (arith, c.loop-out-test.true) in
    let draft : IsDraftOf f p o = subst (IsDraftOf f p) (sym c.out-item.is) (c.requires.drafts i o lt) in
    let front : take (i + 1) outs ≡ take i outs ++ o ∷ [] = take_more outs i o lt ∙ ap (λ x. take i outs ++ x ∷ []) (sym c.out-item.is) in
    c.in_ok-state_message.ensures
    ∙ (λ j. fold keep (c.loop-out.invariant j) (map spell_content (fresh f p o.msg)))
    ∙ sym (states_more f p c.args.made.now (take i outs) o draft)
    ∙ ap (λ l. fold keep c.args.made.now (map spell_content (flat_map (λ q. stated f p q.msg) l))) (sym front)

pub returns : goal.returns
returns c =
    let all = take_all c.loop-out.out-index c.args.outs.now (omega (arith, c.loop-out-test.false, c.loop-out.auto.out-index-end)) in
    c.loop-out.invariant ∙ ap (λ outs. fold keep c.args.made.now (map spell_content (flat_map (λ o. stated c.args.k.now.f c.args.party o.msg) outs))) all
