use Rattle.std.proofs.Common.{◌≡◌, All, take}
use Rattle.std.specs.Prelude.{IfSome}
use Rattle.ab_msg.specs.Packets.{IsSendable}
use Rattle.ab_party.specs.Credentials.{IsLast, sealed_all, sealed_by}
use Rattle.ab_party.proofs.credentials.Credentials.seal_all.Given as goal

abbrev pub invariant-loop-out : goal.invariant-loop-out
invariant-loop-out l =
    (l.packets.items ≡ sealed_all l.self.ring (take l.out-index l.outs))
    × (All IsSendable l.packets.items × IfSome l.before (λ o. IsLast (sealed_by l.self.ring o.now) l.packets.items))
