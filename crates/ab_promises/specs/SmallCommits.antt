-- Small instances of ZLight and of Chain, of four replicas of which the last is faulty: the others begin, the client invokes its request,
-- each of the three takes it, and the client commits on their votes and that of the faulty one.
use Rattle.std.specs.Prelude.{ℕ, None, List, [], ◌∷◌, replicate}
use Rattle.ab_num.specs.declared.plan.Plan.{Plan}
use Rattle.ab_num.specs.declared.plan.Plan.TheVariants as plan
use Rattle.ab_num.specs.declared.party.Party.TheVariants.{Replica, Client}
use Rattle.ab_hist.specs.declared.request.Request.{Request}
use Rattle.ab_hist.specs.Digests.{digest_of}
use Rattle.ab_svc.specs.Machines.{Machine, Reply}
use Rattle.ab_msg.specs.declared.content.Content.{Content}
use Rattle.ab_msg.specs.declared.content.Content.TheVariants.{Req, Order, Resp}
use Rattle.ab_msg.specs.declared.message.Msg.{Msg}
use Rattle.ab_msg.specs.declared.message.Msg.TheVariants as msg
use Rattle.ab_msg.specs.Pens.{no_pen}
use Rattle.ab_abs.specs.declared.seen.Seen.{Seen}
use Rattle.ab_abs.specs.declared.seen.Seen.TheVariants.{Invoked, Committed}
use Rattle.ab_abs.specs.Acts.{Act, Setting}
use Rattle.ab_abs.specs.Ensembles.{Proto, entry_of, begin_of, asked_of}
use Rattle.ab_abs.specs.Messages.{took}
use Rattle.ab_zlight.specs.Rules.{zlight}
use Rattle.ab_chain.specs.Rules.{chain}
use Rattle.ab_promises.specs.SmallStarts.{four}

abbrev pub last_faulty : Plan → Setting
last_faulty p = record { cluster = four p; faulty = Replica 3 ∷ []; i = 1 }

abbrev pub one : Request
one = record { client = 0; stamp = 1; command = record { items = 7 ∷ [] } }

abbrev pub only : List ℕ
only = digest_of (one ∷ [])

abbrev pub of_client : List Content → List Content → List Seen → Act
of_client claims made seen = record { party = Client 0; claims = claims; values = []; made = made; observations = seen; state = None }

abbrev pub asks : Act
asks = of_client [] (Req (Client 0) 1 one ∷ []) (Invoked 1 0 one ∷ [])

-- a request with its client's tag for replica 0; its place in the order of replica 0; and it on its way along a chain
abbrev pub req : Msg
req = msg.Req (Req (Client 0) 1 one) (record { items = (0, replicate 32 0) ∷ [] })

abbrev pub order : Msg
order = msg.Order (Order (Replica 0) 1 1 one) (replicate 32 0) (replicate 32 0)

abbrev pub link : Msg
link = msg.Chain 1 one 1 only None []

module _ {S : Type 0} (machine : Machine S) where
  abbrev pub reply : Reply
  reply = machine.answer machine.begin one

  abbrev pub vote : ℕ → Content
  vote r = Resp (Replica r) 1 0 1 1 only reply

  abbrev pub commits : List Content → Act
  commits votes = of_client votes [] (Committed 1 0 one 1 only reply ∷ [])

module _ {P : Type 0} (proto : Proto P) (p : Plan) where
  abbrev pub begun : ℕ → P
  begun r = proto.begin (four p) 1 r (entry_of [] None)

  abbrev pub begun_by : ℕ → Act
  begun_by r = begin_of proto (last_faulty p) r (entry_of [] None)

  -- replica r takes its first message
  abbrev pub taken_by : ℕ → Msg → Act
  taken_by r m = asked_of proto (last_faulty p) r no_pen (begun r) (took m) []

  abbrev pub three_begin : List Act
  three_begin = begun_by 2 ∷ begun_by 1 ∷ begun_by 0 ∷ []

  -- replica 0 takes the request, and the two others take this message
  abbrev pub three_take : Msg → List Act
  three_take m = taken_by 2 m ∷ taken_by 1 m ∷ taken_by 0 req ∷ asks ∷ three_begin

module _ {S : Type 0} (machine : Machine S) where
  abbrev pub all_votes : List Content
  all_votes = vote machine 0 ∷ vote machine 1 ∷ vote machine 2 ∷ vote machine 3 ∷ []

  abbrev pub zlight_acts : List Act
  zlight_acts = commits machine all_votes ∷ three_take (zlight machine) plan.ZLight order

  abbrev pub last_votes : List Content
  last_votes = vote machine 2 ∷ vote machine 3 ∷ []

  abbrev pub chain_acts : List Act
  chain_acts = commits machine last_votes ∷ three_take (chain machine) plan.Chain link
