use Rattle.std.proofs.Common.{◌≡◌, ◌∙◌, length, map, take, get_or, [], Some, None, sym, ap, arith}
use Rattle.std.proofs.lemmas.List.{length-map}
use Rattle.std.proofs.lemmas.Result.{IfOk-weaker}
use Rattle.ab_abs.specs.Extraction.{IsExtract}
use Rattle.ab_abs.specs.Rules.{IsExtension}
use Rattle.ab_extract.specs.Certs.{agreed_history}
use Rattle.ab_extract.specs.Heads.{head_of, lead_in}
use Rattle.ab_extract.proofs.AgreedLemmas.{logs, lead_within, agreed_from, agreed_all}
use Rattle.ab_extract.proofs.cert.agreed.Goals as goal

pub extension-requires-clause-at : goal.extension-requires-clause-at
extension-requires-clause-at c =
    let cert = c.args.aborts.now in
    let lead : lead_in 0 (map head_of cert) ≡ Some c.in-Some.lead = sym (c.in-Some.ensures ∙ ap (lead_in 0) (c.as_slice.ensures.value ∙ c.heads_by-heads.ensures)) in
    let are : map (λ l. l.now) c.deref.result.now ≡ logs cert = ap (map (λ l. l.now)) c.deref.ensures.value ∙ c.in_ok-logs.ensures in
    let at = lead_within c.args.q cert c.requires.held c.requires.half c.requires.enough.0 c.requires.enough.1 (map (λ l. l.now) c.deref.result.now) c.from.result c.in-Some.lead lead are c.from.ensures in
    omega (arith, at.0, length-map c.deref.result.now (λ l. l.now))

pub extension-requires-clause-front : goal.extension-requires-clause-front
extension-requires-clause-front c =
    let cert = c.args.aborts.now in
    let lead : lead_in 0 (map head_of cert) ≡ Some c.in-Some.lead = sym (c.in-Some.ensures ∙ ap (lead_in 0) (c.as_slice.ensures.value ∙ c.heads_by-heads.ensures)) in
    let are : map (λ l. l.now) c.deref.result.now ≡ logs cert = ap (map (λ l. l.now)) c.deref.ensures.value ∙ c.in_ok-logs.ensures in
    let at = lead_within c.args.q cert c.requires.held c.requires.half c.requires.enough.0 c.requires.enough.1 (map (λ l. l.now) c.deref.result.now) c.from.result c.in-Some.lead lead are c.from.ensures in
    at.1

pub returns-in-Some : goal.returns-in-Some
returns-in-Some c =
    let cert = c.args.aborts.now in
    let q = c.args.q in
    let lists = map (λ l. l.now) c.deref.result.now in
    let at = c.in-Some.lead.at in
    let lead : lead_in 0 (map head_of cert) ≡ Some c.in-Some.lead = sym (c.in-Some.ensures ∙ ap (lead_in 0) (c.as_slice.ensures.value ∙ c.heads_by-heads.ensures)) in
    let are : lists ≡ logs cert = ap (map (λ l. l.now)) c.deref.ensures.value ∙ c.in_ok-logs.ensures in
    IfOk-weaker c.extension.result (λ h. IsExtension q lists (take c.from.result (get_or lists at [])) h) (λ h. h ≡ agreed_history q cert)
    (λ h is. agreed_from q cert c.requires.held c.requires.half c.requires.enough.0 c.requires.enough.1 lists c.from.result c.in-Some.lead h lead are c.from.ensures is) c.extension.ensures

pub returns : goal.returns
returns c =
    let cert = c.args.aborts.now in
    let q = c.args.q in
    let lists = map (λ l. l.now) c.deref-in-None.result.now in
    let none : lead_in 0 (map head_of cert) ≡ None = sym (c.in-None.ensures ∙ ap (lead_in 0) (c.as_slice.ensures.value ∙ c.heads_by-heads.ensures)) in
    let are : lists ≡ logs cert = ap (map (λ l. l.now)) c.deref-in-None.ensures.value ∙ c.in_ok-logs.ensures in
    IfOk-weaker c.extract_of.result (λ h. IsExtract q lists h) (λ h. h ≡ agreed_history q cert)
    (λ h is. agreed_all q cert c.requires.held c.requires.half c.requires.enough.0 c.requires.enough.1 lists h none are is) c.extract_of.ensures
