-- What stands in messages, for those who take them.
use Rattle.std.specs.Prelude.{ℕ, ◌==◌, List, [], ◌∷◌, Option, Some, None, if◌then◌else◌}
use Rattle.ab_msg.specs.declared.content.Content.{Content}
use Rattle.ab_msg.specs.declared.message.Msg.{Msg}
use Rattle.ab_msg.specs.declared.message.Msg.TheVariants as msg

-- the content that a message states by itself. A CHAIN, an INIT and a CERT have none
abbrev pub content_in : Msg → Option Content
content_in (msg.Req content tags) = Some content
content_in (msg.Order content client_tag tag) = Some content
content_in (msg.Resp content tag) = Some content
content_in (msg.Chain i m n d reply tags) = None
content_in (msg.Panic content tag) = Some content
content_in (msg.Abort abort) = Some abort.content
content_in (msg.Init cert) = None
content_in (msg.PrePrepare content tag offer) = Some content
content_in (msg.Prepare prepare) = Some prepare.content
content_in (msg.Commit content tag) = Some content
content_in (msg.ViewChange change) = Some change.change.content
content_in (msg.NewView content tag changes) = Some content
content_in (msg.Checkpoint content tag) = Some content
content_in (msg.LocalCommit content tag) = Some content
content_in (msg.Spec spec) = Some spec.content
content_in (msg.Cert i zcert) = None

-- the first tag for a replica
abbrev pub tag_in : ℕ → List (ℕ × List ℕ) → Option (List ℕ)
tag_in replica [] = None
tag_in replica (tag ∷ tags) = if tag.0 == replica then Some tag.1 else tag_in replica tags

-- the tag for a replica in a request
abbrev pub tag_for : ℕ → Msg → Option (List ℕ)
tag_for replica (msg.Req content tags) = tag_in replica tags.items
tag_for replica _ = None
