use Rattle.std.proofs.Common.{List, ℕ, Option, IfSome, inl, inr, ap, ◌∙◌, subst}
use Rattle.ab_loop.specs.Nodes.{IsNext, left_by}
use Rattle.ab_loop.proofs.FollowsLemmas.{next_of, next_is}
use Rattle.ab_loop.proofs.TurnLemmas.{later_left, turn_done, turn_answer_fails, turn_take_fails, turn_time_fails}
use Rattle.ab_loop.proofs.node.Node.turn.Goals as goal

pub returns-in-Ok-answer-clause-takes : goal.returns-in-Ok-answer-clause-takes
returns-in-Ok-answer-clause-takes g c =
    record {
      got = c.in-Ok-take.ensures.takes.got;
      next = subst (λ (k : Option (List (List ℕ))). IfSome k (λ datagrams. IsNext datagrams c.in-Ok-take.ensures.takes.got)) c.time.ensures.to_come c.in-Ok-take.ensures.takes.next;
      left = c.answer.ensures.to_come ∙ c.in-Ok-take.ensures.takes.left ∙ ap (left_by c.in-Ok-take.ensures.takes.got) c.time.ensures.to_come;
      follows = turn_done g.D.Disk.model g.J.Keeper.list_of _ _ _ _ c.args.self.now _ _ _ _ _ _ _ c.args.disk.now c.time.new.disk c.take.new.disk c.answer.new.disk c.in-Ok.first c.in-Ok-take.second c.in-Ok-answer.third _ _
          c.saturating_add.ensures c.saturating_add-in-Ok-answer.ensures c.in-Ok.ensures.follows c.in-Ok-take.ensures.takes.follows c.in-Ok-answer.ensures.follows;
    }

pub returns-in-Err-answer-clause-takes : goal.returns-in-Err-answer-clause-takes
returns-in-Err-answer-clause-takes g c =
    record {
      got = c.in-Ok-take.ensures.takes.got;
      next = subst (λ (k : Option (List (List ℕ))). IfSome k (λ datagrams. IsNext datagrams c.in-Ok-take.ensures.takes.got)) c.time.ensures.to_come c.in-Ok-take.ensures.takes.next;
      left = inl (c.answer.ensures.to_come ∙ c.in-Ok-take.ensures.takes.left ∙ ap (left_by c.in-Ok-take.ensures.takes.got) c.time.ensures.to_come);
      follows = turn_answer_fails g.D.Disk.model g.J.Keeper.list_of _ _ _ _ c.args.self.now _ _ _ _ _ _ _ c.args.disk.now c.time.new.disk c.take.new.disk c.answer.new.disk c.in-Ok.first c.in-Ok-take.second c.in-Err-answer.fault
          c.in-Ok.ensures.follows c.in-Ok-take.ensures.takes.follows c.in-Err-answer.ensures.follows;
    }

pub returns-in-Err-take-clause-takes : goal.returns-in-Err-take-clause-takes
returns-in-Err-take-clause-takes g c =
    record {
      got = c.in-Err-take.ensures.takes.got;
      next = subst (λ (k : Option (List (List ℕ))). IfSome k (λ datagrams. IsNext datagrams c.in-Err-take.ensures.takes.got)) c.time.ensures.to_come c.in-Err-take.ensures.takes.next;
      left = later_left _ _ _ _ c.in-Err-take.fault c.time.ensures.to_come c.in-Err-take.ensures.takes.left;
      follows = turn_take_fails g.D.Disk.model g.J.Keeper.list_of _ _ _ _ c.args.self.now _ _ _ _ _ c.args.disk.now c.time.new.disk c.take.new.disk c.in-Ok.first c.in-Err-take.fault c.in-Ok.ensures.follows c.in-Err-take.ensures.takes.follows;
    }

pub returns-in-Err-clause-takes : goal.returns-in-Err-clause-takes
returns-in-Err-clause-takes g c =
    record {
      got = next_of (g.L.Link.state c.args.link.now).to_come;
      next = next_is (g.L.Link.state c.args.link.now).to_come;
      left = inr c.time.ensures.to_come;
      follows = turn_time_fails g.D.Disk.model g.J.Keeper.list_of _ _ _ _ c.args.self.now _ _ _ c.args.disk.now c.time.new.disk c.in-Err.fault c.in-Err.ensures.follows;
    }
