use Rattle.std.proofs.Common.{◌∙◌, refl}
use Rattle.std.specs.Cmp.Lexicographic.{pointwise}
use Rattle.std.proofs.lemmas.Bool.Decides.{same_from_decides}
use Rattle.std.proofs.lemmas.Slice.Eq.{slice_eq-Decides}
use Rattle.ab_hist.specs.Requests.{request_eq}
use Rattle.ab_hist.proofs.RequestLemmas.{request_eq-Decides}
use Rattle.ab_content.specs.Views.{history}
use Rattle.ab_abs.specs.Certificates.{history_eq}
use Rattle.ab_extract.proofs.CertLemmas.{history_eq-Decides}
use Rattle.ab_extract.proofs.logs.is_same.Goals as goal

pub returns : goal.returns
returns c =
    let h = history c.args.a.now in
    let k = history c.args.b.now in
    c.are_equal.ensures
    ∙ same_from_decides (pointwise request_eq h k) (history_eq h k) (slice_eq-Decides request_eq-Decides h k (pointwise request_eq h k) refl) (history_eq-Decides h k)
