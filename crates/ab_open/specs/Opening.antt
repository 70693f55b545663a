-- When a party takes the bytes of a message.
use Rattle.std.specs.Prelude.{ℕ, List, Bool, ◌&&◌, Result, Ok, Err, if◌then◌else◌}
use Rattle.std.specs.List.{list_all}
use Rattle.ab_num.specs.declared.party.Party.{Party}
use Rattle.ab_form.specs.declared.bad.Bad.{Bad}
use Rattle.ab_keys.specs.Keys.{is_party}
use Rattle.ab_msg.specs.declared.message.Msg.{Msg}
use Rattle.ab_msg.specs.Carried.{goes_to, parties_of}
use Rattle.ab_open.specs.Messages.{message_of}
use Rattle.ab_open.specs.Trimmed.{allowed}
use Rattle.ab_check.specs.Checks.{Judge, checks}
use Rattle.ab_open.specs.declared.fault.OpenFault.{OpenFault}
use Rattle.ab_open.specs.declared.fault.OpenFault.TheVariants as fault

-- whether a party of a cluster takes a message: it goes to it, and names only parties of the cluster
abbrev pub takes : ℕ → ℕ → Party → Msg → Bool
takes f clients me m = goes_to m me && list_all (is_party f clients) (parties_of f me m)

abbrev pub verdict : Msg → Result (Unit {0}) ℕ → Result Msg OpenFault
verdict m (Ok right) = Ok m
verdict m (Err place) = Err (fault.BadTag place)

abbrev pub judged : Judge → ℕ → ℕ → Party → Result Msg Bad → Result Msg OpenFault
judged judge f clients me (Ok m) = if takes f clients me m then verdict m (checks judge f me m) else Err fault.NotMine
judged judge f clients me (Err bad) = Err (fault.Bad bad)

-- the message that bytes spell, if the cluster allows it, the party takes it and each claim has what stands for it
abbrev pub opening : Judge → ℕ → ℕ → ℕ → Party → List ℕ → Result Msg OpenFault
opening judge f clients every me bytes = judged judge f clients me (allowed every (message_of bytes))

-- a message that was opened, and by whom
pub record Opened : Type 0 where
  pub msg : Msg
  pub me : Party
