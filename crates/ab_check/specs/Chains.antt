-- What is checked of a request on its way along a chain.
use Rattle.std.specs.Prelude.{ℕ, ◌+◌, ◌*◌, ◌<◌, List, [], ◌∷◌, Option, Some, None, nat_le, if◌then◌else◌}
use Rattle.std.specs.Borrow.{Bor}
use Rattle.ab_num.specs.declared.party.Party.{Party}
use Rattle.ab_num.specs.declared.party.Party.TheVariants.{Replica, Client}
use Rattle.ab_num.specs.Places.{at_position_of}
use Rattle.ab_msg.specs.declared.content.Content.{Content}
use Rattle.ab_msg.specs.declared.content.Content.TheVariants.{Resp, ChainTag}
use Rattle.ab_msg.specs.declared.chain_tags.TagBetween.{TagBetween}
use Rattle.ab_hist.specs.declared.request.Request.{Request}
use Rattle.ab_msg.specs.Claims.{maker_of, asked, each_before}
use Rattle.ab_check.specs.declared.chain.PassingRef.{PassingRef}
use Rattle.ab_check.specs.Checks.{Check, tagged, tag_between}

-- what replica r states of it: a tag for later positions, or with a reply the response
abbrev pub said_by : PassingRef → Option (Bor (List ℕ)) → ℕ → Content
said_by l None r = ChainTag (Replica r) l.instance l.client l.stamp l.n l.d.now
said_by l (Some reply) r = Resp (Replica r) l.instance l.client l.stamp l.n l.d.now (record { items = reply.now })

abbrev pub said : PassingRef → ℕ → Content
said l r = said_by l l.reply r

-- a content, and the tag of its maker for a party
abbrev pub passed_to : Party → List TagBetween → Content → Check
passed_to me tags c = tagged c (tag_between (maker_of c) me tags)

-- what the f + 1 positions before position p state
abbrev pub said_before : ℕ → PassingRef → ℕ → List Content
said_before f l p = each_before (f + 1) (λ q. said l (at_position_of f l.instance q)) p

-- the client's request, at the first f + 1 positions
abbrev pub asked_at : ℕ → ℕ → Request → ℕ → List Content
asked_at f i m p = if nat_le p (f + 1) then asked i m ∷ [] else []

-- where f may be faulty, a replica is one of 3f + 1
abbrev pub IsPlaced : ℕ → Party → Type 0
IsPlaced f (Replica r) = r < 3 * f + 1
IsPlaced f (Client c) = Unit {0}
