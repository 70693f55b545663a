use Rattle.std.proofs.Common.{◌≡◌, take}
use Rattle.ab_key_text.proofs.keys.PartyKeys.ring.Given as goal

-- the peers so far are in the ring
abbrev pub invariant-loop-peer : goal.invariant-loop-peer
invariant-loop-peer l = l.ring ≡ record { f = l.self.f; clients = l.self.clients; plan = l.self.plan; me = l.self.me; peers = take l.peer-index l.self.peers }
