use Rattle.std.proofs.Common.{◌≡◌, ◌∙◌, ◌-◌, ap, arith}
use Rattle.std.specs.Prelude.{replicate}
use Rattle.ab_form.specs.Readers.{listed}
use Rattle.ab_content.specs.Parts.{any_request_at}
use Rattle.ab_content.specs.Views.{history, request}
use Rattle.ab_extract.proofs.FrontLemmas.{front_from, front_start, front_step}
use Rattle.ab_extract.proofs.fitting.has_front.Goals as goal

pub entries-init : goal.entries-init
entries-init c =
    let all : listed any_request_at c.into_iter-m-iterator.result.count c.into_iter-m-iterator.result.bytes.now ≡ history c.args.log.now =
    ap (λ l. listed any_request_at l.count l.bytes.now) c.into_iter-m-iterator.ensures.into_iter_gives ∙ c.entries-m-items.ensures
    in
    (tt, tt, ap (λ h. front_from c.args.n (replicate 32 0) h c.args.d.now) all ∙ front_start (history c.args.log.now) c.args.n c.args.d.now)

pub entries-preserved : goal.entries-preserved
entries-preserved c =
    let all = listed any_request_at c.entries.m-iterator.count c.entries.m-iterator.bytes.now in
    let rest = listed any_request_at c.next.new.self.count c.next.new.self.bytes.now in
    let more : front_from (c.entries.left - 1) c.link-digest.result rest c.args.d.now ≡ front_from c.entries.left c.entries.digest all c.args.d.now =
    front_step c.entries.left c.entries.digest c.link-digest.result (request c.in-Some.m) all rest c.args.d.now c.in-Some.ensures.steps.0 c.link-digest.ensures (omega (arith, c.if-left-eq0.false))
    in
    (tt, tt, more ∙ c.entries.invariant.2)
