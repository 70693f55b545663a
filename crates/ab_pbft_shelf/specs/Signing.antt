-- PBFT at one replica with what it signs and sends: its rules, and along what they do the shelf and the messages.
use Rattle.std.specs.Prelude.{ℕ, ◌+◌, Bool, true, false, if◌then◌else◌, List, [], count_by, unwrap_or}
use Rattle.ab_num.specs.declared.cluster.Cluster.{Cluster}
use Rattle.ab_num.specs.Places.{limit_of}
use Rattle.ab_msg.specs.declared.message.Msg.TheVariants as msg
use Rattle.ab_msg.specs.Pens.{Pen}
use Rattle.ab_abs.specs.Messages.{Call, took}
use Rattle.ab_order.specs.Inputs.{Reading, request, prepare, view_change}
use Rattle.ab_order.specs.Readings.{read}
use Rattle.ab_order.specs.Protos.{OrderProto}
use Rattle.ab_pbft_rules.specs.Rules.{Pbft, done_by, fits, pbft}
use Rattle.ab_slots.specs.declared.notice.Notice.{Notice}
use Rattle.ab_slots.specs.declared.notice.Notice.TheVariants.{Changes}
use Rattle.ab_slots.specs.Deeds.{told_in}
use Rattle.ab_pbft_shelf.specs.declared.author.Author.{Author}
use Rattle.ab_pbft_shelf.specs.Shelves.{Shelf, empty_shelf, with_ballot_of, with_proof, with_tags}
use Rattle.ab_pbft_shelf.specs.Posts.{Post, posts_all, signed_in_all}

-- left is how often it left a view
pub record Signing : Type 0 where
  pub cluster : Cluster
  pub order : Pbft
  pub shelf : Shelf
  pub left : ℕ

-- who signs
abbrev pub author_of : Signing → Author
author_of q = record { cluster = q.cluster; instance = q.order.seat.i; me = q.order.seat.me }

abbrev pub input_of : Signing → Call → Reading
input_of q call = read q.cluster q.order.seat.i call

-- what comes is put on the shelf: a request's tags, a PREPARE of the present view, and a VIEW-CHANGE that fits
abbrev pub puts : ℕ → Call → Reading → Shelf → Shelf
puts f (took (msg.Req content tags)) (request m) s = with_tags (record { client = m.client; tags = tags }) s
puts f (took (msg.Prepare signed)) (prepare by view slot x) s = with_ballot_of view (record { by = by; slot = slot; x = x; sig = signed.sig }) s
puts f (took (msg.ViewChange proof)) (view_change change) s = if fits f change then with_proof proof s else s
puts f _ _ s = s

-- what others hear of
abbrev pub deeds_by : Signing → Call → List Notice
deeds_by q call = told_in (done_by q.order (input_of q call)).doings

-- how often it leaves a view in what it does
abbrev pub is_leaving : Notice → Bool
is_leaving (Changes view entries) = true
is_leaving _ = false

abbrev pub leavings : List Notice → ℕ
leavings deeds = count_by is_leaving deeds

-- once what came is on the shelf
abbrev pub first_post : Pen → Signing → Call → Post
first_post pen q call = record { pen = pen; shelf = puts q.order.seat.f call (input_of q call) q.shelf; sent = [] }

abbrev pub posted : Pen → Signing → Call → Post
posted pen q call = posts_all (author_of q) (deeds_by q call) (first_post pen q call)

abbrev pub signing : OrderProto Signing Pbft
signing = record {
  begin = λ c i r e. record { cluster = c; order = pbft.begin (limit_of c.plan i) c.f i r e.base; shelf = empty_shelf (limit_of c.plan i) (unwrap_or e.cert []); left = 0 };
  after = λ pen q call. record { cluster = q.cluster; order = pbft.after q.order (input_of q call); shelf = (posted pen q call).shelf; left = q.left + leavings (deeds_by q call) };
  sends = λ pen q call. (posted pen q call).sent;
  signs = λ q call. signed_in_all (author_of q) (deeds_by q call);
  cluster = λ q. q.cluster;
  instance = λ q. q.order.seat.i;
  view = λ q. q.order;
}
