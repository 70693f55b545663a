use Rattle.std.proofs.Common.{◌∷◌, ◌++◌, [], ◌∙◌}
use Rattle.ab_text.specs.Cores.{party_text}
use Rattle.ab_key_text.proofs.PartLemmas.{after_none, after_some}
use Rattle.ab_key_text.proofs.parts.after_peer.Goals as goal

pub returns-in-None : goal.returns-in-None
returns-in-None c =
    let word = c.args.word.now in
    let party = party_text c.args.p in
    after_none (word ++ party) (32 ∷ []) c.args.line.now (after_none word party c.args.line.now c.in-None.ensures.rest)

pub returns-in-None-after_party : goal.returns-in-None-after_party
returns-in-None-after_party c =
    let word = c.args.word.now in
    let party = party_text c.args.p in
    after_none (word ++ party) (32 ∷ []) c.args.line.now (c.in-None-after_party.ensures ∙ after_some word party c.args.line.now c.in-Some.named.now c.in-Some.ensures.rest)

pub returns-in-Some-after_party : goal.returns-in-Some-after_party
returns-in-Some-after_party c =
    let word = c.args.word.now in
    let party = party_text c.args.p in
    c.after-in-Some-after_party.ensures.rest
    ∙ after_some (word ++ party) (32 ∷ []) c.args.line.now c.in-Some-after_party.rest.now (c.in-Some-after_party.ensures ∙ after_some word party c.args.line.now c.in-Some.named.now c.in-Some.ensures.rest)
