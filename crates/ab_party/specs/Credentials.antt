-- What a party of a cluster opens, signs and seals by.
use Rattle.std.specs.Prelude.{◌≡◌, ◌-◌, ℕ, nat_lt, if◌then◌else◌, List, [], ◌∷◌, length, Result, Err, Some, slice_get, IsTrue}
use Rattle.std.specs.List.{flat_map, list_all}
use Rattle.ab_num.specs.Bounds.{IsInBounds}
use Rattle.ab_keys.specs.Keys.{is_party}
use Rattle.ab_keys.specs.Rings.{Ring}
use Rattle.ab_msg.specs.declared.message.Msg.{Msg}
use Rattle.ab_msg.specs.declared.message.Out.{Out}
use Rattle.ab_msg.specs.Packets.{Packet}
use Rattle.ab_open.specs.declared.fault.OpenFault.{OpenFault}
use Rattle.ab_open.specs.declared.fault.OpenFault.TheVariants.{NotMine}
use Rattle.ab_open.specs.Opening.{opening}
use Rattle.ab_sign.specs.declared.key.SignKey.{SignKey}
use Rattle.ab_sign.specs.Judges.{judge_of}
use Rattle.ab_seal.specs.Sealing.{sealed}

-- its key ring, the signature keys of the replicas, from replica 0 on, and after how many requests a checkpoint is due, 0 if none ever is
pub record Credentials : Type 0 where
  pub ring : Ring
  pub keys : List SignKey
  pub every : ℕ

-- the ring is that of a party of its cluster
pub record IsPartyRing (ring : Ring) : Type 0 where
  pub bounds : IsInBounds ring.f ring.clients
  pub party : IsTrue (is_party ring.f ring.clients ring.me)

-- the message that bytes are to the party, or why they don't open by its keys. A list with numbers above 255 is none of
-- bytes
abbrev pub opening_by : Credentials → List ℕ → Result Msg OpenFault
opening_by c bytes = if list_all (λ b. nat_lt b 256) bytes then opening (judge_of c.ring c.keys) c.ring.f c.ring.clients c.every c.ring.me bytes else Err NotMine

-- a message with the tags of its maker, and to whom it goes
abbrev pub sealed_by : Ring → Out → Packet
sealed_by ring o = record { to = o.to; bytes = sealed ring o }

-- to a party of the cluster; to no other is anything sent
abbrev pub sealed_for : Ring → Out → List Packet
sealed_for ring o = if is_party ring.f ring.clients o.to then sealed_by ring o ∷ [] else []

abbrev pub sealed_all : Ring → List Out → List Packet
sealed_all ring outs = flat_map (sealed_for ring) outs

-- it is the last of these
abbrev pub IsLast : Packet → List Packet → Type 0
IsLast p all = slice_get all (length all - 1) ≡ Some p
