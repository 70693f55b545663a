-- What an opened message claims of whom.
use Rattle.std.specs.Prelude.{ℕ, List, map}
use Rattle.ab_num.specs.declared.party.Party.{Party}
use Rattle.ab_msg.specs.declared.content.Content.{Content}
use Rattle.ab_msg.specs.declared.message.Msg.{Msg}
use Rattle.ab_msg.specs.Claims.{maker_of, claims}

-- a content, and its maker
abbrev pub by_maker : Content → Party × Content
by_maker s = (maker_of s, s)

-- the claims of a message where f replicas may be faulty, each with its maker
abbrev pub claims_by_maker : ℕ → Party → Msg → List (Party × Content)
claims_by_maker f me m = map by_maker (claims f me m)
