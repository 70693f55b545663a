-- What the code answers to what comes to a party.
use Rattle.std.specs.Prelude.{◌≡◌, All}
use Rattle.ab_loop.specs.declared.party_core.Reaction.{Reaction as Answer}
use Rattle.ab_loop.specs.Cores.{Reaction}
use Rattle.ab_msg.specs.Packets.{IsSendable}

-- what is answered is this reaction, and each message can be sent
pub record Reacts {C : Type 0} (r : Reaction C) (now : C) (answer : Answer) : Type 0 where
  pub after : now ≡ r.after
  pub sends : answer.sends.items ≡ r.sends
  pub commit : answer.commit ≡ r.commit
  pub spent : answer.spent ≡ r.spent
  pub opened : answer.opened ≡ r.opened
  pub sendable : All IsSendable answer.sends.items
