-- What is opened and sealed.
use Rattle.std.proofs.Common.{◌≡◌, ℕ, ◌+◌, ◌*◌, ◌<◌, ◌≤◌, true, false, IsTrue, List, [], ◌∷◌, ◌++◌, length, take, get_or, refl, ap, sym, ◌∙◌, arith, append-nil, length-append}
use Rattle.std.specs.Prelude.{◌-◌, Err, Some, if◌then◌else◌, slice_get}
use Rattle.std.proofs.lemmas.List.{take_more}
use Rattle.std.proofs.lemmas.Bool.{ltb-true}
use Rattle.std.proofs.lemmas.Grind.{flat_map-append}
use Rattle.ab_form.specs.Formats.{IsBytes, u8_bytes}
use Rattle.ab_form.proofs.PartLemmas.{length-u8_bytes}
use Rattle.ab_num.specs.declared.party.Party.{Party}
use Rattle.ab_num.specs.declared.party.Party.TheVariants.{Replica, Client}
use Rattle.ab_keys.specs.Keys.{is_party}
use Rattle.ab_keys.specs.Rings.{Ring}
use Rattle.ab_msg.specs.declared.message.Out.{Out}
use Rattle.ab_msg.specs.Fields.{IsParty}
use Rattle.ab_msg.specs.Messages.{code_of, spell_body}
use Rattle.ab_open.specs.Opening.{opening}
use Rattle.ab_open.proofs.ByteLemmas.{all_bytes}
use Rattle.ab_sign.specs.Judges.{judge_of}
use Rattle.ab_seal.specs.Sealing.{sealed, tagged}
use Rattle.ab_msg.specs.Packets.{IsSendable, Packet}
use Rattle.ab_open.specs.declared.fault.OpenFault.TheVariants.{NotMine}
use Rattle.ab_party.specs.Credentials.{Credentials, IsLast, IsPartyRing, opening_by, sealed_all, sealed_by, sealed_for}

-- ---- opening

pub opening_is : (c : Credentials) (bytes : List ℕ) → IsBytes bytes → opening_by c bytes ≡ opening (judge_of c.ring c.keys) c.ring.f c.ring.clients c.every c.ring.me bytes
opening_is c bytes fits = ap (λ b. if b then opening (judge_of c.ring c.keys) c.ring.f c.ring.clients c.every c.ring.me bytes else Err NotMine) (all_bytes bytes fits)

-- ---- sealing

party_fits : (ring : Ring) (p : Party) → IsPartyRing ring → IsTrue (is_party ring.f ring.clients p) → IsParty p
party_fits ring (Replica r) is h = (omega arith, omega (arith, ltb-true r (3 * ring.f + 1) h, is.bounds.few_faulty))
party_fits ring (Client c) is h = (omega arith, omega (arith, ltb-true c ring.clients h, is.bounds.few_clients))

-- a sealed message to a party can be sent
pub can_send : (ring : Ring) (o : Out) → IsPartyRing ring → length (sealed ring o) ≤ 4194304 → IsTrue (is_party ring.f ring.clients o.to) → IsSendable (sealed_by ring o)
can_send ring o is few to =
    let m = tagged ring o.to o.msg in
    record {
      to = party_fits ring o.to is to;
      some = omega (arith, length-append (u8_bytes (code_of m)) (spell_body m), length-u8_bytes (code_of m));
      few = few;
    }

-- one message more, to a party and to nobody
more : (ring : Ring) (outs : List Out) (i : ℕ) (o : Out) → i < length outs → o ≡ get_or outs i o
    → sealed_all ring (take (i + 1) outs) ≡ sealed_all ring (take i outs) ++ sealed_for ring o
more ring outs i o lt is =
    ap (sealed_all ring) (take_more outs i o lt ∙ ap (λ (x : Out). take i outs ++ x ∷ []) (sym is))
    ∙ flat_map-append (sealed_for ring) (take i outs) (o ∷ [])
    ∙ ap (λ l. sealed_all ring (take i outs) ++ l) (append-nil (sealed_for ring o))

pub sent_more : (ring : Ring) (outs : List Out) (i : ℕ) (o : Out) → i < length outs → o ≡ get_or outs i o → is_party ring.f ring.clients o.to ≡ true
    → sealed_all ring (take (i + 1) outs) ≡ sealed_all ring (take i outs) ++ sealed_by ring o ∷ []
sent_more ring outs i o lt is to = more ring outs i o lt is ∙ ap (λ b. sealed_all ring (take i outs) ++ (if b then sealed_by ring o ∷ [] else [])) to

pub unsent_more : (ring : Ring) (outs : List Out) (i : ℕ) (o : Out) → i < length outs → o ≡ get_or outs i o → is_party ring.f ring.clients o.to ≡ false
    → sealed_all ring (take (i + 1) outs) ≡ sealed_all ring (take i outs)
unsent_more ring outs i o lt is to =
    more ring outs i o lt is ∙ ap (λ b. sealed_all ring (take i outs) ++ (if b then sealed_by ring o ∷ [] else [])) to ∙ append-nil (sealed_all ring (take i outs))

at_end : (m : Packet) (all : List Packet) → slice_get (all ++ m ∷ []) (length all) ≡ Some m
at_end m [] = refl
at_end m (x ∷ all) = at_end m all

-- the last of a list with one more
pub is_last : (m : Packet) (all : List Packet) → IsLast m (all ++ m ∷ [])
is_last m all =
    let end : length (all ++ m ∷ []) - 1 ≡ length all = omega (arith, length-append all (m ∷ [])) in
    ap (slice_get (all ++ m ∷ [])) end ∙ at_end m all
