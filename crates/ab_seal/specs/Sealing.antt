-- Messages with the tags of their makers.
use Rattle.std.specs.Prelude.{◌≡◌, ℕ, ◌+◌, ◌-◌, ◌*◌, min, nat_lt, Bool, true, false, List, [], ◌∷◌, ◌++◌, map, replicate, unwrap_or, Option, None, Some, if◌then◌else◌}
use Rattle.std.specs.List.{Contains, range_with_len}
use Rattle.arrayvec.specs.ArrayVec.{ArrayVec}
use Rattle.ab_num.specs.declared.party.Party.{Party}
use Rattle.ab_num.specs.declared.party.Party.TheVariants.{Replica, Client}
use Rattle.ab_num.specs.Places.{at_position_of, position_in}
use Rattle.ab_hist.specs.declared.request.Request.{Request}
use Rattle.ab_keys.specs.Rings.{Ring, tag_to}
use Rattle.ab_msg.specs.declared.chain_tags.TagBetween.{TagBetween}
use Rattle.ab_msg.specs.declared.content.Content.{Content}
use Rattle.ab_msg.specs.declared.content.Content.TheVariants.{Req, Resp, ChainTag}
use Rattle.ab_msg.specs.declared.message.Msg.{Msg}
use Rattle.ab_msg.specs.declared.message.Msg.TheVariants as msg
use Rattle.ab_msg.specs.declared.message.Out.{Out}
use Rattle.ab_msg.specs.Claims.{instance_of, maker_of, fresh}
use Rattle.ab_msg.specs.Contents.{spell_content}
use Rattle.ab_msg.specs.Messages.{spell_message}
use Rattle.ab_seal.specs.Receivers.{receivers}

-- the tag of a text for a party; zeros, as for a tag that is not made yet, where the ring has no key to it
abbrev pub tag_made : Ring → Party → List ℕ → List ℕ
tag_made ring to text = unwrap_or (tag_to ring to text) (replicate 32 0)

abbrev pub content_tag : Ring → Party → Content → List ℕ
content_tag ring to content = tag_made ring to (spell_content content)

-- the tags of a client's text in an instance: one for each receiver
abbrev pub tags_made : Ring → ℕ → List ℕ → List (ℕ × List ℕ)
tags_made ring instance text = map (λ r. (r, tag_made ring (Replica r) text)) (receivers ring.plan ring.f instance)

-- ---- along a chain

abbrev pub tag_for : Ring → List ℕ → Party → TagBetween
tag_for ring text to = record { by = ring.me; to = to; tag = tag_made ring to text }

-- for how many of the positions behind it position p has tags: the next f + 1, as far as there are so many
abbrev pub reach_of : ℕ → ℕ → ℕ
reach_of f p = min (f + 1) (3 * f + 1 - p)

-- the tags of position p for those behind it
abbrev pub forward_tags : Ring → ℕ → List ℕ → ℕ → List TagBetween
forward_tags ring i text p = map (λ q. tag_for ring text (Replica (at_position_of ring.f i q))) (range_with_len (p + 1) (reach_of ring.f p))

-- the tag for the client, which the positions above 2f have where there is a reply
abbrev pub answer_tags : Ring → ℕ → Request → ℕ → List ℕ → Option (ArrayVec ℕ) → ℕ → ℕ → List TagBetween
answer_tags ring i m n d None r p = []
answer_tags ring i m n d (Some reply) r p =
    if nat_lt (2 * ring.f) p then tag_for ring (spell_content (Resp (Replica r) i m.client m.stamp n d reply)) (Client m.client) ∷ [] else []

-- the tags of replica r as position p, those for later positions first
abbrev pub tags_at : Ring → ℕ → Request → ℕ → List ℕ → Option (ArrayVec ℕ) → ℕ → ℕ → List TagBetween
tags_at ring i m n d reply r p =
    forward_tags ring i (spell_content (ChainTag (Replica r) i m.client m.stamp n d)) p ++ answer_tags ring i m n d reply r p

-- the tags of a party in a CHAIN
abbrev pub own_tags : Ring → Party → ℕ → Request → ℕ → List ℕ → Option (ArrayVec ℕ) → List TagBetween
own_tags ring (Replica r) i m n d reply = tags_at ring i m n d reply r (position_in ring.f i r)
own_tags ring (Client c) i m n d reply = []

-- ---- messages

-- the message to a party with the tags of its maker. In a CHAIN they stand behind those that came
abbrev pub tagged : Ring → Party → Msg → Msg
tagged ring to (msg.Req content tags) = msg.Req content (record { items = tags_made ring (instance_of content) (spell_content content) })
tagged ring to (msg.Order content client_tag tag) = msg.Order content client_tag (content_tag ring to content)
tagged ring to (msg.Resp content tag) = msg.Resp content (content_tag ring to content)
tagged ring to (msg.Chain i m n d reply tags) = msg.Chain i m n d reply (tags ++ own_tags ring ring.me i m n d reply)
tagged ring to (msg.Panic content tag) = msg.Panic content (content_tag ring to content)
tagged ring to (msg.PrePrepare content tag offer) = msg.PrePrepare content (content_tag ring to content) offer
tagged ring to (msg.Commit content tag) = msg.Commit content (content_tag ring to content)
tagged ring to (msg.NewView content tag changes) = msg.NewView content (content_tag ring to content) changes
tagged ring to (msg.Checkpoint content tag) = msg.Checkpoint content (content_tag ring to content)
tagged ring to (msg.LocalCommit content tag) = msg.LocalCommit content (content_tag ring to content)
tagged ring to (msg.Abort abort) = msg.Abort abort
tagged ring to (msg.Init cert) = msg.Init cert
tagged ring to (msg.Prepare prepare) = msg.Prepare prepare
tagged ring to (msg.ViewChange change) = msg.ViewChange change
tagged ring to (msg.Spec spec) = msg.Spec spec
tagged ring to (msg.Cert i zcert) = msg.Cert i zcert

-- whether a text asks for a command
abbrev pub asks : Content → Bool
asks (Req maker i m) = true
asks _ = false

-- whether a message is a client's request
abbrev pub is_request : Msg → Bool
is_request (msg.Req content tags) = asks content
is_request _ = false

-- whatever in the message needs the tag or the signature of its sender p, p states
abbrev pub IsOwn : ℕ → Party → Msg → Type 0
IsOwn f p m = (s : Content) → Contains (fresh f p m) s → maker_of s ≡ p

-- its bytes
abbrev pub sealed : Ring → Out → List ℕ
sealed ring out = spell_message (tagged ring out.to out.msg)
