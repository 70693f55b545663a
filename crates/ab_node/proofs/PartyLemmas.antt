-- One party that is served.
use Rattle.std.proofs.Common.{◌≡◌, ℕ, List, [], ◌∷◌, map, Result, IfOk, IfErr, refl, sym, ap, subst, ◌∙◌}
use Rattle.arrayvec.specs.ArrayVec.{ArrayVec}
use Rattle.ab_num.specs.declared.party.Party.{Party}
use Rattle.ab_loop.specs.declared.fault.ServeFault.{ServeFault}
use Rattle.ab_loop.specs.declared.serving.Served.{Served}
use Rattle.ab_loop.specs.Settings.{NodeSetting}
use Rattle.ab_loop.specs.Cores.{Rules}
use Rattle.ab_loop.specs.Edges.{Crash}
use Rattle.ab_loop.specs.Runs.{HasServed, HasFaultOf, Start, start_of}
use Rattle.ab_node.specs.Nodes.{NodeCall, CoreServed, CoreStopped, as_command, setting_of, start_with}

-- ---- what a node is started with

as_were : (commands : List (ArrayVec ℕ)) → map as_command (map (λ c. c.items) commands) ≡ commands
as_were [] = refl
as_were (c ∷ cs) = ap (λ rest. c ∷ rest) (as_were cs)

module _ {C : Type 0} (rules : Rules C) (x : NodeCall) (crash : Crash) (me : Party) (core : C) (commands : List (ArrayVec ℕ)) (s : NodeSetting) (turns : ℕ) (set : s ≡ setting_of x.asked me) (so_many : turns ≡ x.asked.turns) where
  start_is : start_of s turns core x.past commands x.clock.before x.old.link ≡ start_with x me core (map (λ c. c.items) commands)
  start_is =
      ap (λ (v : NodeSetting). start_of v turns core x.past commands x.clock.before x.old.link) set
      ∙ ap (λ (n : ℕ). start_of (setting_of x.asked me) n core x.past commands x.clock.before x.old.link) so_many
      ∙ ap (λ (cs : List (ArrayVec ℕ)). start_of (setting_of x.asked me) x.asked.turns core x.past cs x.clock.before x.old.link) (sym (as_were commands))

  pub core_serves : (result : Result Served ServeFault) → IfOk result (HasServed rules (start_of s turns core x.past commands x.clock.before x.old.link) x.old x.new crash x.clock.after.readings)
      → IfOk result (CoreServed rules me core (map (λ c. c.items) commands) x crash)
  core_serves result is = subst (λ (y : Start C). IfOk result (HasServed rules y x.old x.new crash x.clock.after.readings)) start_is is

  pub core_stops : (result : Result Served ServeFault) → IfErr result (HasFaultOf rules (start_of s turns core x.past commands x.clock.before x.old.link) x.old x.new crash x.clock.after.readings)
      → IfErr result (CoreStopped rules me core (map (λ c. c.items) commands) x crash)
  core_stops result is = subst (λ (y : Start C). IfErr result (HasFaultOf rules y x.old x.new crash x.clock.after.readings)) start_is is
