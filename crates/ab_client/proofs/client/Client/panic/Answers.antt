use Rattle.std.proofs.Common.{◌+◌, ◌*◌, ◌≤◌, ◌∷◌, ◌++◌, [], List, arith, sym, ap, ◌∙◌, subst}
use Rattle.ab_abs.specs.declared.seen.Seen.{Seen}
use Rattle.ab_run.specs.Clients.{move_panic, cert_out, to_all}
use Rattle.ab_client.specs.Clients.{Seat, alone, panic_msg}
use Rattle.ab_client.specs.Moved.{IsMoved, IsPlaced}
use Rattle.ab_client.proofs.MovedLemmas.{moved_panic}
use Rattle.ab_client.proofs.client.Client.panic.Goals as goal

pub returns-clause-ok : goal.returns-clause-ok
returns-clause-ok c =
    let s : Seat = c.args.self.now in
    let within : c.self.inside.instance ≤ 4294967295 = omega arith in
    let at : s.cli.at ≤ 4294967295 = subst (λ (t : Seat). t.cli.at ≤ 4294967295) c.self.view_is within in
    subst (λ (l : List Seen). IsMoved s (move_panic ∷ []) c.give_up.new.self c.in_ok-outs.outs l) (sym c.new_in.ensures)
    (moved_panic s (subst (λ (t : Seat). IsPlaced t.me t.cli) c.self.view_is c.self.invariant.0) at c.give_up.new.self c.in_ok-outs.outs c.give_up.ensures
    (c.in_ok-outs.ensures ∙ ap (λ (t : Seat). cert_out (alone t.cluster) t.cli.cert ++ to_all (3 * t.cluster.f + 1) (panic_msg t.cli.at t.me)) c.self.view_is))
