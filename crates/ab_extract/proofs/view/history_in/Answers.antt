use Rattle.std.proofs.Common.{◌≡◌, ◌+◌, true, false, Some, Option, List, sym, ap, ◌∙◌, subst}
use Rattle.std.specs.Option.{IsSome}
use Rattle.ab_num.specs.Places.{kind_of}
use Rattle.ab_hist.specs.declared.request.Request.{Request}
use Rattle.ab_wire.specs.Views.{aborts}
use Rattle.ab_abs.specs.Kinds.{needs_equal}
use Rattle.ab_abs.specs.Certificates.{history_of}
use Rattle.ab_extract.specs.Certs.{IsFitting, agreed_history}
use Rattle.ab_extract.proofs.AgreedLemmas.{are_held}
use Rattle.ab_extract.proofs.CertLemmas.{most_history, one_history}
use Rattle.ab_extract.proofs.CauseLemmas.{has_some, memory_cause}
use Rattle.ab_extract.proofs.view.history_in.Goals as goal

pub agreed-requires-clause-held : goal.agreed-requires-clause-held
agreed-requires-clause-held c = are_held c.args.c.now c.args.i (aborts c.args.cert.now) c.requires.aborts c.in-Ok.ensures.ok

pub returns-in_err-h-clause-fault : goal.returns-in_err-h-clause-fault
returns-in_err-h-clause-fault c =
    let q = c.args.c.now in
    let i = c.args.i in
    let cert = aborts c.args.cert.now in
    let fitting : IsFitting q i cert = c.in-Ok.ensures.ok in
    let most : needs_equal (kind_of q.plan i) ≡ false = ap needs_equal (sym c.kind.ensures) ∙ sym c.needs_equal.ensures ∙ c.if-not-needs_equal.true in
    memory_cause q i cert c.requires.aborts c.from_residual.result c.from_residual.ensures.1
    (has_some (history_of q i cert) (agreed_history (q.f + 1) cert) (most_history q i cert c.requires.aborts fitting most))

pub returns-then-not-needs_equal-clause-ok : goal.returns-then-not-needs_equal-clause-ok
returns-then-not-needs_equal-clause-ok c =
    let q = c.args.c.now in
    let i = c.args.i in
    let cert = aborts c.args.cert.now in
    let fitting : IsFitting q i cert = c.in-Ok.ensures.ok in
    let most : needs_equal (kind_of q.plan i) ≡ false = ap needs_equal (sym c.kind.ensures) ∙ sym c.needs_equal.ensures ∙ c.if-not-needs_equal.true in
    most_history q i cert c.requires.aborts fitting most ∙ ap (λ n. Some (agreed_history (n + 1) cert)) (sym c.from.ensures) ∙ ap Some (sym c.in_ok-h.ensures)

pub returns-in_err-h-2-clause-fault : goal.returns-in_err-h-2-clause-fault
returns-in_err-h-2-clause-fault c =
    let q = c.args.c.now in
    let i = c.args.i in
    let cert = aborts c.args.cert.now in
    let fitting : IsFitting q i cert = c.in-Ok.ensures.ok in
    let equal : needs_equal (kind_of q.plan i) ≡ true = ap needs_equal (sym c.kind.ensures) ∙ sym c.needs_equal.ensures ∙ c.if-not-needs_equal.false in
    let has : IsSome (history_of q i cert) = subst (λ (o : Option (List Request)). IsSome o) (sym (one_history q i cert c.requires.aborts fitting equal)) c.in_err-h-2.ensures.err in
    memory_cause q i cert c.requires.aborts c.from_residual-in_err-h-2.result c.from_residual-in_err-h-2.ensures.1 has

pub returns-in-Some-clause-ok : goal.returns-in-Some-clause-ok
returns-in-Some-clause-ok c =
    let q = c.args.c.now in
    let i = c.args.i in
    let cert = aborts c.args.cert.now in
    let fitting : IsFitting q i cert = c.in-Ok.ensures.ok in
    let equal : needs_equal (kind_of q.plan i) ≡ true = ap needs_equal (sym c.kind.ensures) ∙ sym c.needs_equal.ensures ∙ c.if-not-needs_equal.false in
    one_history q i cert c.requires.aborts fitting equal ∙ sym c.in_ok-h-2.ensures.ok ∙ c.in-Some.is

pub returns-in-None-clause-fault : goal.returns-in-None-clause-fault
returns-in-None-clause-fault c =
    let q = c.args.c.now in
    let i = c.args.i in
    let cert = aborts c.args.cert.now in
    let fitting : IsFitting q i cert = c.in-Ok.ensures.ok in
    let equal : needs_equal (kind_of q.plan i) ≡ true = ap needs_equal (sym c.kind.ensures) ∙ sym c.needs_equal.ensures ∙ c.if-not-needs_equal.false in
    (fitting, one_history q i cert c.requires.aborts fitting equal ∙ sym c.in_ok-h-2.ensures.ok ∙ c.in-None.is)
