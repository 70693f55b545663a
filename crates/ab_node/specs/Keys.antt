-- What a party has to open, sign and seal by: its key ring, and the signature keys of the replicas.
use Rattle.std.specs.Prelude.{ℕ, List, map, Option, None, Some, slice_set}
use Rattle.std.specs.Option.{option_map}
use Rattle.std.specs.Result.{result_ok}
use Rattle.ab_num.specs.declared.party.Party.{Party}
use Rattle.ab_num.specs.declared.party.Party.TheVariants.{Replica, Client}
use Rattle.ab_num.specs.declared.plan.Scheme.{Scheme}
use Rattle.ab_key_text.specs.Keys.{PartyKeys, Secret, ring_in}
use Rattle.ab_msg.specs.declared.message.Msg.{Msg}
use Rattle.ab_sign.specs.declared.key.SignKey.{SignKey}
use Rattle.ab_sign.specs.declared.key.SignKey.TheVariants as key
use Rattle.ab_party.specs.Credentials.{Credentials, opening_by}

abbrev pub own_key : Scheme → Secret → SignKey
own_key lms s = key.Secret (record { scheme = lms; id = s.id; seed = s.seed })

-- a replica's own secret stands in the place of its public key
abbrev pub with_own : Party → Option SignKey → List SignKey → List SignKey
with_own (Replica r) (Some own) keys = slice_set keys r own
with_own (Replica r) None keys = keys
with_own (Client c) own keys = keys

abbrev pub credentials_in : PartyKeys → Credentials
credentials_in k = record { ring = ring_in k; keys = with_own k.me (option_map (own_key k.lms) k.secret) (map key.Public k.publics); every = k.every }

-- the message that bytes are to the party, if they open by its keys
abbrev pub opened : Credentials → List ℕ → Option Msg
opened c bytes = result_ok (opening_by c bytes)
