use Rattle.std.proofs.Common.{◌≡◌, map, take}
use Rattle.std.specs.Prelude.{flat_map}
use Rattle.std.specs.List.{fold}
use Rattle.ab_msg.specs.Claims.{stated}
use Rattle.ab_msg.specs.Contents.{spell_content}
use Rattle.ab_run.specs.Stages.{keep}
use Rattle.ab_premise.proofs.stating.state.Given as goal

abbrev pub invariant-loop-out : goal.invariant-loop-out
invariant-loop-out l = l.made ≡ fold keep l.initial.made (map spell_content (flat_map (λ o. stated l.k.f l.fn.party o.msg) (take l.out-index l.outs)))
