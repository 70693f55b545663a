use Rattle.std.proofs.Common.{◌≡◌, false, ap, sym, ◌∙◌, slice_get, subst}
use Rattle.std.specs.Option.{option_map}
use Rattle.std.proofs.lemmas.Option.{slice_get-map, slice_get_past}
use Rattle.ab_num.specs.declared.party.Party.{Party}
use Rattle.ab_sign.specs.declared.key.SignKey.TheVariants.{Public}
use Rattle.ab_sign.specs.Judges.{is_sig_from}
use Rattle.ab_sign.proofs.KeyLemmas.{none-verifies}
use Rattle.ab_audit.proofs.audit.Audit.is_signed.Goals as goal

pub returns-in-None : goal.returns-in-None
returns-in-None c =
    let keys = c.args.self.now.keys in
    let r = c.in-Replica.r in
    let publics = c.self.inside.publics.items in
    let none = sym (slice_get_past c.deref.result.now c.from.result c.in-None.ensures.lookup.3) ∙ (λ j. slice_get (c.deref.ensures.value j) (c.from.ensures j)) in
    let at = ap (option_map Public) none ∙ sym (slice_get-map Public publics r) ∙ (λ j. slice_get (c.self.view_is j).keys r) in
    subst (λ (m : Party). false ≡ is_sig_from keys m c.args.text.now c.args.sig.now) (sym c.in-Replica.is) (none-verifies keys r c.args.text.now c.args.sig.now at)
