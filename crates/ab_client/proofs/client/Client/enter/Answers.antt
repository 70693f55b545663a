use Rattle.std.proofs.Common.{◌+◌, ◌∷◌, ◌++◌, [], Some, ap, ◌∙◌, subst}
use Rattle.ab_num.specs.declared.party.Party.TheVariants.{Client}
use Rattle.ab_abs.specs.declared.seen.Seen.TheVariants.{Invoked}
use Rattle.ab_abs.specs.Observations.{cert_seen}
use Rattle.ab_run.specs.Clients.{cert_out, request_out}
use Rattle.ab_client.specs.Clients.{Seat, alone}
use Rattle.ab_client.specs.Moved.{IsPlaced}
use Rattle.ab_client.proofs.MovedLemmas.{moved_take}
use Rattle.ab_client.proofs.client.Client.enter.Goals as goal

pub returns-clause-ok : goal.returns-clause-ok
returns-clause-ok c =
    let s : Seat = c.args.self.now in
    let j = c.args.j in
    let cert = c.args.cert in
    let list = c.args.list in
    let m = c.args.request.now in
    moved_take s (subst (λ (t : Seat). IsPlaced t.me t.cli) c.self.view_is c.self.invariant.0) m c.requires.request j cert list c.requires.cert c.requires.last
    c.go_behind.new.self c.in_ok-outs.outs c.entry_marks-marks.result.items
    (c.go_behind.ensures list m)
    (c.in_ok-outs.ensures ∙ ap (λ (t : Seat). cert_out (alone t.cluster) (Some cert) ++ request_out (alone t.cluster) (j + 1) m.client m) c.self.view_is)
    (c.entry_marks-marks.ensures ∙ ap (λ (t : Seat). cert_seen j (Client t.me) list ∷ Invoked (j + 1) t.me m ∷ []) c.self.view_is)
