use Rattle.std.proofs.Common.{arith, ◌∙◌, sym, ap}
use Rattle.ab_num.specs.declared.party.Party.TheVariants.{Replica}
use Rattle.ab_content.proofs.PartLemmas.{sig-format}
use Rattle.ab_wire.specs.Signed.{number_in}
use Rattle.ab_content.proofs.ContentLemmas.{spec-format}
use Rattle.ab_wire.proofs.SignedLemmas.{spec-replica, by_number}
use Rattle.ab_wire.proofs.signed_ref.signed_spec_at.Goals as goal

pub spelled-stated-requires : goal.spelled-stated-requires
spelled-stated-requires c = (spec-format.takes c.args.bytes.now _ _ (λ i. omega (arith, c.type_inv.bytes i)) c.in_ok-content.ensures).0.parts

pub number_in-maker-requires : goal.number_in-maker-requires
number_in-maker-requires c = rw c.maker.ensures (spec-replica _ (spec-format.takes c.args.bytes.now _ _ (λ i. omega (arith, c.type_inv.bytes i)) c.in_ok-content.ensures).1)

pub returns-clause-kept : goal.returns-clause-kept
returns-clause-kept c =
    let t = spec-format.takes c.args.bytes.now _ _ (λ i. omega (arith, c.type_inv.bytes i)) c.in_ok-content.ensures in
    let s = sig-format.takes c.in_ok-content.rest.now _ _ t.0.rest_fits c.in_ok-sig.ensures in
    (c.spelled-stated.ensures, (by_number _ (spec-replica _ t.1) ∙ ap Replica (sym (c.number_in-maker.ensures ∙ ap number_in c.maker.ensures)), (t.1, s.1)))
