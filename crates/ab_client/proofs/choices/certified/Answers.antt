use Rattle.std.proofs.Common.{All, sym, ◌∙◌, subst}
use Rattle.ab_msg.specs.Contents.{IsStopContent}
use Rattle.ab_msg.specs.Certs.{IsSigned}
use Rattle.ab_client.proofs.ChoiceLemmas.{list_aborts}
use Rattle.ab_client.proofs.choices.certified.Goals as goal

pub returns-in-Some-clause-aborts : goal.returns-in-Some-clause-aborts
returns-in-Some-clause-aborts c =
    let formed = subst (All (IsSigned IsStopContent)) (sym c.in_ok-cert.ensures) c.requires.formed in
    list_aborts c.args.c.now c.args.j c.in_ok-cert.cert c.in-Some.list formed (sym c.in_ok-list.ensures ∙ c.in-Some.is)
