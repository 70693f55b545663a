use Rattle.std.proofs.Common.{inl, inr, sym, ◌∙◌, arith}
use Rattle.ab_loop.proofs.DriveLemmas.{drive_begins, drive_breaks_first, drive_next, drive_breaks, drive_done}
use Rattle.ab_loop.proofs.serving.drive.Goals as goal

pub returns-in-Err-clause-err : goal.returns-in-Err-clause-err
returns-in-Err-clause-err g c =
    drive_breaks_first _ _ c.now-first.result _ _ _ _ _ c.in-Err.fault c.now-first.ensures.is c.now-first.ensures.later c.in-Err.ensures.to_come c.new-node.result c.new-node.ensures c.in-Err.ensures.follows

pub turns-init : goal.turns-init
turns-init g c = record {
  driving = drive_begins _ _ c.now-first.result _ _ _ _ _ _ c.now-first.ensures.is c.now-first.ensures.later c.in-Ok.ensures.to_come c.new-node.result c.new-node.ensures c.in-Ok.ensures.follows;
  ready = c.in-Ok.ensures.ready;
}

pub returns-then-is_done-clause-ok : goal.returns-then-is_done-clause-ok
returns-then-is_done-clause-ok g c = drive_done _ _ _ _ _ _ _ _ _ c.turns.invariant.driving (inl (sym c.is_done.ensures ∙ c.if-is_done.true))

pub returns-in-Err-turn-clause-err : goal.returns-in-Err-turn-clause-err
returns-in-Err-turn-clause-err g c =
    drive_breaks _ _ g.D.Disk.model g.J.Keeper.list_of _ _ _ _ _ _ c.args.disk.now c.turns.disk c.turn.new.disk _ _ c.turns._turn c.now-t.result c.in-Err-turn.fault c.turns.invariant.driving (sym c.is_done.ensures ∙ c.if-is_done.false) (omega arith)
    c.now-t.ensures.is c.now-t.ensures.later c.in-Err-turn.ensures.takes

pub turns-preserved : goal.turns-preserved
turns-preserved g c = record {
  driving = drive_next _ _ g.D.Disk.model g.J.Keeper.list_of _ _ c.turns.lost c.in-Ok-turn.more _ _ _ _ c.args.disk.now c.turns.disk c.turn.new.disk _ _ c.turns._turn c.now-t.result c.turns.invariant.driving (sym c.is_done.ensures ∙ c.if-is_done.false)
      (omega arith) c.now-t.ensures.is c.now-t.ensures.later c.in-Ok-turn.ensures.takes c.saturating_add-lost.ensures;
  ready = c.in-Ok-turn.ensures.ready;
}

pub returns-clause-ok : goal.returns-clause-ok
returns-clause-ok g c = drive_done _ _ _ _ _ _ _ _ _ c.turns.invariant.driving (inr (omega arith))
