use Rattle.std.proofs.Common.{◌∙◌, ap}
use Rattle.std.specs.List.{list_any}
use Rattle.ab_num.specs.Parties.{party_eq}
use Rattle.ab_cast.specs.Setups.{is_bad}
use Rattle.ab_cast.proofs.SetupLemmas.{faulty_of}
use Rattle.ab_cast.proofs.setup.Setup.is_faulty.Goals as goal

pub returns : goal.returns
returns c =
    c.has.ensures ∙ ap (list_any (λ e. party_eq c.args.party e.0)) c.as_slice.ensures.value
    ∙ faulty_of c.args.party c.self.inside.faulty.items ∙ ap (λ x. is_bad x c.args.party) c.self.view_is
