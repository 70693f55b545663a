use Rattle.std.proofs.Common.{◌≡◌, ◌≤◌, ◌∷◌, ◌++◌, [], List, true, arith, sym, ap, ◌∙◌, subst}
use Rattle.std.specs.Prelude.{if◌then◌else◌}
use Rattle.ab_abs.specs.declared.seen.Seen.{Seen}
use Rattle.ab_hist.specs.declared.request.Request.{Request}
use Rattle.ab_run.specs.Clients.{move_again, cert_out, request_out}
use Rattle.ab_client.specs.Clients.{Seat, alone, is_waiting}
use Rattle.ab_client.specs.Moved.{IsMoved, IsPlaced}
use Rattle.ab_client.proofs.MovedLemmas.{moved_again, moved_so}
use Rattle.ab_client.proofs.client.Client.ask_again.Goals as goal

pub returns-clause-ok : goal.returns-clause-ok
returns-clause-ok c =
    let s : Seat = c.args.self.now in
    let m : Request = c.args.request.now in
    let within : c.self.inside.instance ≤ 4294967295 = omega arith in
    let at : s.cli.at ≤ 4294967295 = subst (λ (t : Seat). t.cli.at ≤ 4294967295) c.self.view_is within in
    let waits : is_waiting s.cli.phase ≡ true = sym c.is_waiting.ensures ∙ c.if-not-is_waiting.false in
    moved_so s (if is_waiting s.cli.phase then move_again m ∷ [] else []) (move_again m ∷ []) s c.in_ok-outs.outs c.new_in.result.items (ap (λ b. if b then move_again m ∷ [] else []) waits)
    (subst (λ (l : List Seen). IsMoved s (move_again m ∷ []) s c.in_ok-outs.outs l) (sym c.new_in.ensures)
    (moved_again s (subst (λ (t : Seat). IsPlaced t.me t.cli) c.self.view_is c.self.invariant.0) m c.requires.request at c.in_ok-outs.outs
    (c.in_ok-outs.ensures ∙ ap (λ (t : Seat). cert_out (alone t.cluster) t.cli.cert ++ request_out (alone t.cluster) t.cli.at m.client m) c.self.view_is)))
