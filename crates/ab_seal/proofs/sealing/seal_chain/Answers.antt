use Rattle.std.proofs.Common.{◌≡◌, ◌+◌, ◌++◌, List, length, ap, sym, ◌∙◌}
use Rattle.ab_form.specs.Formats.{u16_bytes, u32_bytes}
use Rattle.ab_form.specs.Lists.{spell_optional}
use Rattle.ab_msg.specs.declared.chain_tags.TagBetween.{TagBetween}
use Rattle.ab_msg.specs.declared.message.Msg.TheVariants as msg
use Rattle.ab_msg.specs.Fields.{spell_reply, spell_request}
use Rattle.ab_msg.specs.Messages.{spell_message}
use Rattle.ab_seal.proofs.ChainLemmas.{chain-written}
use Rattle.ab_seal.proofs.sealing.seal_chain.Goals as goal

pub returns : goal.returns
returns c =
    let l = c.args.l.now in
    let m = l.request.now in
    let came = c.as_slice-came.result.now in
    let own = c.as_slice.result.now in
    let is_came : came ≡ c.args.tags.now = c.as_slice-came.ensures in
    let is_own = c.as_slice.ensures.value ∙ c.in_ok-own.ensures.tags in
    let counted : length came + c.len.result ≡ length came + length own = ap (λ n. length came + n) (c.len.ensures ∙ c.in_ok-own.own.ok.0 ∙ ap length (sym c.as_slice.ensures.value)) in
    let Whole : List TagBetween → List TagBetween → Type 0 = λ xs ys. c.put_each-2.new.out.items ≡ spell_message (msg.Chain l.instance m l.n l.d.now l.reply.now (xs ++ ys)) in
    chain-written _ _ _ _ _ c.put_each-2.new.out.items (u32_bytes l.instance) (spell_request m) (u16_bytes l.n) l.d.now (spell_optional spell_reply l.reply.now) came own _
    c.in_ok-out.ensures.items c.in_ok-put_u8.ensures.ok c.in_ok-put_link.ensures c.in_ok-put_u8-2.ensures.ok counted c.in_ok-put_each.ensures c.in_ok-put_each-2.ensures
    ∙ ap (λ (xs : List TagBetween). spell_message (msg.Chain l.instance m l.n l.d.now l.reply.now (xs ++ own))) is_came
    ∙ ap (λ (ys : List TagBetween). spell_message (msg.Chain l.instance m l.n l.d.now l.reply.now (c.args.tags.now ++ ys))) is_own
