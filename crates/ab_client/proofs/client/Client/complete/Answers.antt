use Rattle.std.proofs.Common.{◌≡◌, List, subst}
use Rattle.std.specs.Prelude.{IfOk}
use Rattle.ab_msg.specs.declared.signed.Signed.{Signed}
use Rattle.ab_run.specs.Clients.{own_cert}
use Rattle.ab_client.specs.Clients.{Seat}
use Rattle.ab_client.specs.Choices.{with_list}
use Rattle.ab_client.proofs.ChoiceLemmas.{completed, completed_list, completed_none}
use Rattle.ab_client.proofs.client.Client.complete.Goals as goal

pub returns-clause-cert : goal.returns-clause-cert
returns-clause-cert c =
    let s : Seat = c.args.self.now in
    let v : Signed = c.args.v.now in
    let r = c.own_cert.result in
    let at = c.self.inside.instance in
    let cluster = c.self.inside.cluster in
    let kept = subst (λ (l : List Signed). IfOk r (λ o. o ≡ with_list cluster at (own_cert cluster at v l))) c.deref.ensures.value c.own_cert.ensures.list in
    let made : IfOk r (λ o. o ≡ with_list s.cluster s.cli.at (own_cert s.cluster s.cli.at v s.cli.kept)) =
    subst (λ (t : Seat). IfOk r (λ o. o ≡ with_list t.cluster t.cli.at (own_cert t.cluster t.cli.at v t.cli.kept))) c.self.view_is kept in
    completed s.cluster s.cli.at (own_cert s.cluster s.cli.at v s.cli.kept) r made c.own_cert.ensures.aborts

pub returns-clause-list : goal.returns-clause-list
returns-clause-list c =
    let s : Seat = c.args.self.now in
    let v : Signed = c.args.v.now in
    let r = c.own_cert.result in
    let at = c.self.inside.instance in
    let cluster = c.self.inside.cluster in
    let kept = subst (λ (l : List Signed). IfOk r (λ o. o ≡ with_list cluster at (own_cert cluster at v l))) c.deref.ensures.value c.own_cert.ensures.list in
    let made : IfOk r (λ o. o ≡ with_list s.cluster s.cli.at (own_cert s.cluster s.cli.at v s.cli.kept)) =
    subst (λ (t : Seat). IfOk r (λ o. o ≡ with_list t.cluster t.cli.at (own_cert t.cluster t.cli.at v t.cli.kept))) c.self.view_is kept in
    completed_list s.cluster s.cli.at (own_cert s.cluster s.cli.at v s.cli.kept) r made

pub returns-clause-none : goal.returns-clause-none
returns-clause-none c =
    let s : Seat = c.args.self.now in
    let v : Signed = c.args.v.now in
    let r = c.own_cert.result in
    let at = c.self.inside.instance in
    let cluster = c.self.inside.cluster in
    let kept = subst (λ (l : List Signed). IfOk r (λ o. o ≡ with_list cluster at (own_cert cluster at v l))) c.deref.ensures.value c.own_cert.ensures.list in
    let made : IfOk r (λ o. o ≡ with_list s.cluster s.cli.at (own_cert s.cluster s.cli.at v s.cli.kept)) =
    subst (λ (t : Seat). IfOk r (λ o. o ≡ with_list t.cluster t.cli.at (own_cert t.cluster t.cli.at v t.cli.kept))) c.self.view_is kept in
    completed_none s.cluster s.cli.at (own_cert s.cluster s.cli.at v s.cli.kept) s.cli.at r made
