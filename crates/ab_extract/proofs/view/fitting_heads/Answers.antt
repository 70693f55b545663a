use Rattle.std.proofs.Common.{◌≡◌, ℕ, List, ap, sym, ◌∙◌, arith, length, map, None, Some}
use Rattle.std.proofs.lemmas.List.{length-map}
use Rattle.ab_num.specs.declared.cluster.Cluster.{Cluster}
use Rattle.ab_num.specs.declared.plan.Kind.{Kind}
use Rattle.ab_num.specs.Places.{kind_of}
use Rattle.ab_msg.specs.declared.signed.Signed.{Signed}
use Rattle.ab_wire.specs.Views.{aborts}
use Rattle.ab_abs.specs.Kinds.{need_of}
use Rattle.ab_extract.specs.declared.heads.Head.{Head}
use Rattle.ab_extract.specs.Certs.{IsFull, first_repeat, first_foreign, first_bad}
use Rattle.ab_extract.specs.Heads.{head_of, repeat_in, foreign_in}
use Rattle.ab_extract.proofs.HeadLemmas.{repeat_is, foreign_is}
use Rattle.ab_extract.proofs.view.fitting_heads.Goals as goal

full_of : (q : Cluster) (i : ℕ) (cert : List Signed) (heads : List Head) (count needed need : ℕ) (k : Kind) → heads ≡ map head_of cert → count ≡ length heads → count ≡ needed → needed ≡ need → need ≡ need_of k q.f
    → k ≡ kind_of q.plan i → IsFull q i cert
full_of q i cert heads count needed need k heads_are count_is same from is kind =
    sym (length-map cert head_of) ∙ ap length (sym heads_are) ∙ sym count_is ∙ same ∙ from ∙ is ∙ ap (λ g. need_of g q.f) kind

pub returns-in-Some-repeated-clause-fault : goal.returns-in-Some-repeated-clause-fault
returns-in-Some-repeated-clause-fault c =
    let cert = aborts c.args.cert.now in
    let i = c.args.i in
    let q = c.args.c.now in
    let full : IsFull q i cert = full_of q i cert c.in-Some.heads.items c.len.result c.from-needed.result c.need.result c.kind-kind.result c.in-Some.ensures.some c.len.ensures.value c.if-len-needed.false c.from-needed.ensures c.need.ensures c.kind-kind.ensures in
    (full, sym (repeat_is cert) ∙ ap repeat_in (sym c.in-Some.ensures.some) ∙ ap repeat_in (sym c.as_slice.ensures.value) ∙ sym c.in-Some-repeated.ensures)

pub returns-in-Some-foreign-clause-fault : goal.returns-in-Some-foreign-clause-fault
returns-in-Some-foreign-clause-fault c =
    let cert = aborts c.args.cert.now in
    let i = c.args.i in
    let q = c.args.c.now in
    let full : IsFull q i cert = full_of q i cert c.in-Some.heads.items c.len.result c.from-needed.result c.need.result c.kind-kind.result c.in-Some.ensures.some c.len.ensures.value c.if-len-needed.false c.from-needed.ensures c.need.ensures c.kind-kind.ensures in
    let apart : first_repeat cert ≡ None = sym (repeat_is cert) ∙ ap repeat_in (sym c.in-Some.ensures.some) ∙ ap repeat_in (sym c.as_slice.ensures.value) ∙ sym c.in_default-repeated.ensures in
    ((full, apart), sym (foreign_is i cert) ∙ ap (foreign_in i) (sym c.in-Some.ensures.some) ∙ ap (foreign_in i) (sym c.as_slice-2.ensures.value) ∙ sym c.in-Some-foreign.ensures)

pub returns-in-Some-bad_view-clause-fault : goal.returns-in-Some-bad_view-clause-fault
returns-in-Some-bad_view-clause-fault c =
    let cert = aborts c.args.cert.now in
    let i = c.args.i in
    let q = c.args.c.now in
    let full : IsFull q i cert = full_of q i cert c.in-Some.heads.items c.len.result c.from-needed.result c.need.result c.kind-kind.result c.in-Some.ensures.some c.len.ensures.value c.if-len-needed.false c.from-needed.ensures c.need.ensures c.kind-kind.ensures in
    let apart : first_repeat cert ≡ None = sym (repeat_is cert) ∙ ap repeat_in (sym c.in-Some.ensures.some) ∙ ap repeat_in (sym c.as_slice.ensures.value) ∙ sym c.in_default-repeated.ensures in
    let here : first_foreign i cert ≡ None = sym (foreign_is i cert) ∙ ap (foreign_in i) (sym c.in-Some.ensures.some) ∙ ap (foreign_in i) (sym c.as_slice-2.ensures.value) ∙ sym c.in_default-foreign.ensures in
    (((full, apart), here), ap (λ g. first_bad g q.f cert) (sym c.kind-kind.ensures) ∙ sym c.in-Some-bad_view.ensures)

pub returns-clause-ok : goal.returns-clause-ok
returns-clause-ok c =
    let cert = aborts c.args.cert.now in
    let i = c.args.i in
    let q = c.args.c.now in
    let full : IsFull q i cert = full_of q i cert c.in-Some.heads.items c.len.result c.from-needed.result c.need.result c.kind-kind.result c.in-Some.ensures.some c.len.ensures.value c.if-len-needed.false c.from-needed.ensures c.need.ensures c.kind-kind.ensures in
    let apart : first_repeat cert ≡ None = sym (repeat_is cert) ∙ ap repeat_in (sym c.in-Some.ensures.some) ∙ ap repeat_in (sym c.as_slice.ensures.value) ∙ sym c.in_default-repeated.ensures in
    let here : first_foreign i cert ≡ None = sym (foreign_is i cert) ∙ ap (foreign_in i) (sym c.in-Some.ensures.some) ∙ ap (foreign_in i) (sym c.as_slice-2.ensures.value) ∙ sym c.in_default-foreign.ensures in
    (((full, apart), here), ap (λ g. first_bad g q.f cert) (sym c.kind-kind.ensures) ∙ sym c.in_default-bad_view.ensures)
