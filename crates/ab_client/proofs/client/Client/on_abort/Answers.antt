use Rattle.std.proofs.Common.{◌≡◌, ◌∷◌, List, true, false, sym, ap, ◌∙◌, subst}
use Rattle.std.specs.Prelude.{◌==◌, IfOk}
use Rattle.std.specs.List.{list_any}
use Rattle.ab_num.specs.Places.{kind_of}
use Rattle.ab_msg.specs.declared.signed.Signed.{Signed}
use Rattle.ab_msg.specs.declared.message.Msg.TheVariants as msg
use Rattle.ab_wire.specs.Views.{signed}
use Rattle.ab_run.specs.Clients.{CliAction, move_keep, own_cert, taking}
use Rattle.ab_run.specs.Local.{cue_message}
use Rattle.ab_client.specs.Choices.{is_fit_of}
use Rattle.ab_client.specs.Clients.{Seat, alone, moves_on}
use Rattle.ab_client.specs.Moved.{IsMoved}
use Rattle.ab_client.proofs.MovedLemmas.{moved_nothing, moved_ok, moved_so, abort_again, abort_unfit, abort_first}
use Rattle.ab_client.proofs.client.Client.on_abort.Goals as goal

pub returns-then-is_kept-clause-ok : goal.returns-then-is_kept-clause-ok
returns-then-is_kept-clause-ok c =
    let s : Seat = c.args.self.now in
    let v : Signed = signed c.args.abort in
    let kept : list_any (λ w. w.maker == v.maker) s.cli.kept ≡ true =
    sym (ap (λ (t : Seat). list_any (λ w. w.maker == v.maker) t.cli.kept) c.self.view_is)
    ∙ ap (list_any (λ w. w.maker == v.maker)) (sym c.deref.ensures.value) ∙ sym c.is_kept.ensures ∙ c.if-is_kept.true in
    moved_nothing s (moves_on s (cue_message (msg.Abort v))) c.nothing-then-is_kept.result.0 c.nothing-then-is_kept.result.1.items
    c.nothing-then-is_kept.ensures.outs c.nothing-then-is_kept.ensures.marks (abort_again s v c.requires.received kept)

pub returns-then-not-is_fit-clause-ok : goal.returns-then-not-is_fit-clause-ok
returns-then-not-is_fit-clause-ok c =
    let s : Seat = c.args.self.now in
    let v : Signed = signed c.args.abort in
    let unfit : is_fit_of (kind_of s.cluster.plan s.cli.at) s.cluster.f v.content ≡ false =
    ap (λ (t : Seat). is_fit_of (kind_of t.cluster.plan t.cli.at) t.cluster.f v.content) (sym c.self.view_is) ∙ ap (λ k. is_fit_of k c.self.inside.cluster.f v.content) (sym c.kind.ensures)
    ∙ sym c.is_fit.ensures ∙ c.if-not-is_fit.true in
    moved_nothing s (moves_on s (cue_message (msg.Abort v))) c.nothing-then-not-is_fit.result.0 c.nothing-then-not-is_fit.result.1.items
    c.nothing-then-not-is_fit.ensures.outs c.nothing-then-not-is_fit.ensures.marks (abort_unfit s v c.requires.received unfit)

pub returns-clause-ok : goal.returns-clause-ok
returns-clause-ok c =
    let s : Seat = c.args.self.now in
    let v : Signed = signed c.args.abort in
    let m = c.in-Some.request in
    let kept : list_any (λ w. w.maker == v.maker) s.cli.kept ≡ false =
    sym (ap (λ (t : Seat). list_any (λ w. w.maker == v.maker) t.cli.kept) c.self.view_is)
    ∙ ap (list_any (λ w. w.maker == v.maker)) (sym c.deref.ensures.value) ∙ sym c.is_kept.ensures ∙ c.if-is_kept.false in
    let here = sym c.instance.ensures ∙ c.if-instance-self.false ∙ ap (λ (t : Seat). t.cli.at) c.self.view_is in
    let fits : is_fit_of (kind_of s.cluster.plan s.cli.at) s.cluster.f v.content ≡ true =
    ap (λ (t : Seat). is_fit_of (kind_of t.cluster.plan t.cli.at) t.cluster.f v.content) (sym c.self.view_is) ∙ ap (λ k. is_fit_of k c.self.inside.cluster.f v.content) (sym c.kind.ensures)
    ∙ sym c.is_fit.ensures ∙ c.if-not-is_fit.false in
    let taken : List CliAction = move_keep v ∷ taking (alone s.cluster) s.cli m s.cli.at (own_cert s.cluster s.cli.at v s.cli.kept) in
    let got : IfOk c.take_abort.result (λ x. IsMoved s (move_keep v ∷ taking (alone s.cluster) s.cli m s.cli.at (own_cert s.cluster s.cli.at v s.cli.kept)) c.take_abort.new.self x.0 x.1.items) =
    subst (λ (w : Signed). IfOk c.take_abort.result (λ x. IsMoved s (move_keep w ∷ taking (alone s.cluster) s.cli m s.cli.at (own_cert s.cluster s.cli.at w s.cli.kept)) c.take_abort.new.self x.0 x.1.items))
    c.in_ok-v.ensures c.take_abort.ensures.ok in
    moved_ok s taken (moves_on s (cue_message (msg.Abort v))) c.take_abort.new.self c.take_abort.result
    (λ sent shown is. moved_so s (moves_on s (cue_message (msg.Abort v))) taken c.take_abort.new.self sent shown
    (abort_first s v c.requires.received m (sym c.request.ensures ∙ c.in-Some.is) here kept fits) is)
    got
