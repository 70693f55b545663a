use Rattle.std.proofs.Common.{◌≡◌, map}
use Rattle.ab_msg.specs.Claims.{claims}
use Rattle.ab_msg.specs.Contents.{spell_content}
use Rattle.ab_run.specs.Setups.{RunSetup}
use Rattle.ab_run.specs.Stages.{forged_in}
use Rattle.ab_premise.proofs.forging.forged_in.Given as goal

-- what is left decides
abbrev pub invariant-loop-check : goal.invariant-loop-check
invariant-loop-check l =
    (x : RunSetup) → x.faulty ≡ map (λ e. e.0) l.faulty
    → forged_in x spell_content l.made (map (λ k. k.content) l.check-iterator) ≡ forged_in x spell_content l.made (claims l.k.f l.m.me l.m.msg)
