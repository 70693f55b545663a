-- An event of a replica of PBFT, once it is read and what came is on the shelf.
use Rattle.std.specs.Prelude.{ℕ, ◌+◌, if◌then◌else◌, Option, Some, None, List, [], length}
use Rattle.ab_msg.specs.Pens.{Pen}
use Rattle.ab_order.specs.Inputs.{Reading}
use Rattle.ab_pbft_rules.specs.Rules.{done_by, pbft}
use Rattle.ab_slots.specs.declared.notice.Notice.{Notice}
use Rattle.ab_slots.specs.Deeds.{told_in}
use Rattle.ab_slots.specs.Waits.{waits}
use Rattle.ab_pbft_shelf.specs.Shelves.{Shelf}
use Rattle.ab_pbft_shelf.specs.Posts.{Post, posts_all, signings}
use Rattle.ab_pbft_shelf.specs.Signing.{Signing, author_of, leavings}

-- what others hear of
abbrev pub heard_of : Signing → Reading → List Notice
heard_of q e = told_in (done_by q.order e).doings

abbrev pub post_of : Pen → Signing → Shelf → Reading → Post
post_of pen q shelf e = posts_all (author_of q) (heard_of q e) (record { pen = pen; shelf = shelf; sent = [] })

-- how often it signs
abbrev pub signs_of : Signing → Reading → ℕ
signs_of q e = signings (author_of q) (heard_of q e)

abbrev pub next_of : Pen → Signing → Shelf → Reading → Signing
next_of pen q shelf e = record { cluster = q.cluster; order = pbft.after q.order e; shelf = (post_of pen q shelf e).shelf; left = q.left + leavings (heard_of q e) }

-- while something waits, its timer counts the slots that it executed and how often it left a view
abbrev pub turns_of : Signing → Option ℕ
turns_of q = if waits q.order.memory then Some (length q.order.memory.peer.core.executed + q.left) else None
