use Rattle.std.proofs.Common.{◌≡◌, ◌∙◌, length, map, take, get_or, [], Some, None, sym, ap}
use Rattle.std.proofs.lemmas.Result.{IfOk-weaker}
use Rattle.ab_wire.specs.Views.{aborts}
use Rattle.ab_abs.specs.Extraction.{IsExtract}
use Rattle.ab_abs.specs.Rules.{IsExtension}
use Rattle.ab_extract.specs.Certs.{agreed_history}
use Rattle.ab_extract.specs.Heads.{head_of, lead_in}
use Rattle.ab_extract.proofs.AgreedLemmas.{lead_within, agreed_from, agreed_all}
use Rattle.ab_extract.proofs.view.agreed.Goals as goal

pub extension-requires-clause-at : goal.extension-requires-clause-at
extension-requires-clause-at c =
    let cert = aborts c.args.cert.now in
    let lead : lead_in 0 (map head_of cert) ≡ Some c.in-Some.lead = sym (c.in-Some.ensures ∙ ap (lead_in 0) c.requires.heads) in
    (lead_within c.args.q cert c.requires.held c.requires.half c.requires.enough.0 c.requires.enough.1 c.in_ok-tree.tree c.from.result c.in-Some.lead lead c.in_ok-tree.ensures c.from.ensures).0

pub extension-requires-clause-front : goal.extension-requires-clause-front
extension-requires-clause-front c =
    let cert = aborts c.args.cert.now in
    let lead : lead_in 0 (map head_of cert) ≡ Some c.in-Some.lead = sym (c.in-Some.ensures ∙ ap (lead_in 0) c.requires.heads) in
    (lead_within c.args.q cert c.requires.held c.requires.half c.requires.enough.0 c.requires.enough.1 c.in_ok-tree.tree c.from.result c.in-Some.lead lead c.in_ok-tree.ensures c.from.ensures).1

pub returns-in-Some : goal.returns-in-Some
returns-in-Some c =
    let cert = aborts c.args.cert.now in
    let q = c.args.q in
    let lists = c.in_ok-tree.tree in
    let lead : lead_in 0 (map head_of cert) ≡ Some c.in-Some.lead = sym (c.in-Some.ensures ∙ ap (lead_in 0) c.requires.heads) in
    IfOk-weaker c.extension.result (λ h. IsExtension q lists (take c.from.result (get_or lists c.in-Some.lead.at [])) h) (λ h. h ≡ agreed_history q cert)
    (λ h is. agreed_from q cert c.requires.held c.requires.half c.requires.enough.0 c.requires.enough.1 lists c.from.result c.in-Some.lead h lead c.in_ok-tree.ensures c.from.ensures is) c.extension.ensures

pub returns : goal.returns
returns c =
    let cert = aborts c.args.cert.now in
    let q = c.args.q in
    let lists = c.in_ok-tree.tree in
    let none : lead_in 0 (map head_of cert) ≡ None = sym (c.in-None.ensures ∙ ap (lead_in 0) c.requires.heads) in
    IfOk-weaker c.deepest.result (λ h. IsExtract q lists h) (λ h. h ≡ agreed_history q cert)
    (λ h is. agreed_all q cert c.requires.held c.requires.half c.requires.enough.0 c.requires.enough.1 lists h none c.in_ok-tree.ensures is) c.deepest.ensures
