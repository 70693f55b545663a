use Rattle.std.proofs.Common.{◌≡◌, ◌∷◌, [], List, Option, Some, ap, subst}
use Rattle.std.specs.Prelude.{◌<◌, IfSome, is_some}
use Rattle.ab_hist.specs.declared.request.Request.{Request}
use Rattle.ab_hist.specs.Trimmed.{Trimmed}
use Rattle.ab_msg.specs.declared.signed.Signed.{Signed}
use Rattle.ab_msg.specs.Certs.{AreAborts}
use Rattle.ab_stable.specs.Offers.{list_in}
use Rattle.ab_run.specs.Clients.{CliAction, move_keep, move_take, own_cert, taking}
use Rattle.ab_client.specs.Clients.{Seat, alone}
use Rattle.ab_client.proofs.MovedLemmas.{moved_ok, abort_taken, abort_kept}
use Rattle.ab_client.proofs.client.Client.take_abort.Goals as goal

at_some : {X : Type 0} (P : X → Type 0) (o : Option X) (x : X) → o ≡ Some x → IfSome o P → P x
at_some P o x is holds = subst (λ (q : Option _). IfSome q P) is holds

pub returns-in-Some-clause-ok : goal.returns-in-Some-clause-ok
returns-in-Some-clause-ok c =
    let s : Seat = c.args.self.now in
    let v : Signed = c.args.v in
    let m : Request = c.args.request.now in
    let own : List Signed = own_cert s.cluster s.cli.at v s.cli.kept in
    let cert : List Signed = c.in-Some.cert in
    let t : Trimmed = c.in-Some.list in
    let made = at_some (λ x. (x.0 ≡ own) × AreAborts 1 7 x.0) c.in_ok-cert.field-0 (cert, t) c.in-Some.is c.in_ok-cert.ensures.cert in
    let brings : list_in s.cluster s.cli.at own ≡ Some t = at_some (λ x. list_in s.cluster s.cli.at own ≡ Some x.1) c.in_ok-cert.field-0 (cert, t) c.in-Some.is c.in_ok-cert.ensures.list in
    let below : s.cli.at < 4294967295 = c.in_ok-cert.ensures.below (ap is_some c.in-Some.is) in
    let entered : List CliAction = move_take c.enter.inside.instance cert t m ∷ [] in
    let kept : List CliAction = move_keep v ∷ taking (alone s.cluster) s.cli m s.cli.at own in
    moved_ok s entered kept c.enter-in-Some.new.self c.enter-in-Some.result
    (λ sent shown is. abort_taken s v m own c.enter.inside.instance cert t c.enter-in-Some.new.self sent shown (ap (λ (q : Seat). q.cli.at) c.enter.view_is) made.0 brings below is)
    c.enter-in-Some.ensures.ok

pub returns-in_ok-keep-in-None-clause-ok : goal.returns-in_ok-keep-in-None-clause-ok
returns-in_ok-keep-in-None-clause-ok c =
    let s : Seat = c.args.self.now in
    abort_kept s c.args.v c.args.request.now (own_cert s.cluster s.cli.at c.args.v s.cli.kept) c.keep.new.self c.nothing.result.0 c.nothing.result.1.items
    (c.in_ok-cert.ensures.none (ap is_some c.in-None.is)) c.in_ok-keep-in-None.ensures.ok c.nothing.ensures.outs c.nothing.ensures.marks
