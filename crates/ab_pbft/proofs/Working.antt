-- What a turn that does what the rules say leaves, and what is posted for it.
use Rattle.std.proofs.Common.{◌≡◌, ℕ, Result, Err, ◌+◌, ◌≤◌, List, [], sym, ap, ◌∙◌, subst, arith}
use Rattle.ab_abs.specs.declared.protocol.StepFault.{StepFault}
use Rattle.ab_msg.specs.Pens.{Pen, moved}
use Rattle.ab_order.specs.Inputs.{Reading}
use Rattle.ab_pbft_rules.specs.Rules as rules
use Rattle.ab_pbft_rules.specs.Rules.{idle, work, done_by}
use Rattle.ab_slots.specs.declared.notice.Notice.{Notice}
use Rattle.ab_pbft_work.specs.declared.progress.Progress.{Progress}
use Rattle.ab_pbft_work.specs.Turns.{memory_of, Shows, Does}
use Rattle.ab_pbft_shelf.specs.Shelves.{Shelf}
use Rattle.ab_pbft_shelf.specs.Posts.{Post, posts_all, signings}
use Rattle.ab_pbft_shelf.specs.Signing.{Signing, author_of, leavings}
use Rattle.ab_pbft_shelf.proofs.PenLemmas.{pen_all}
use Rattle.ab_pbft.specs.Events.{heard_of, post_of, signs_of, next_of}
use Rattle.ab_pbft.proofs.ViewLemmas.{views_rise}

-- ---- a fault is the same in whatever result it stands

pub same_fault : {A B : Type 0} (f g : StepFault) → ◌≡◌ {A = Result A StepFault} (Err f) (Err g) → ◌≡◌ {A = Result B StepFault} (Err f) (Err g)
same_fault f g is = let same : f ≡ g = cc (is) in ap (λ (fault : StepFault). Err fault) same

-- ---- an event, from a turn over a copy of its memory

-- what it leaves, sends and signs
pub record Worked (q : Signing) (e : Reading) (pen : Pen) (shelf : Shelf) (left : Signing) (after : Post) (signed : ℕ) : Type 0 where
  pub next : left ≡ next_of pen q shelf e
  pub sends : after.sent ≡ (post_of pen q shelf e).sent
  pub moves : after.pen ≡ moved pen (signs_of q e)
  pub signs : signed ≡ signs_of q e

module _ (q : Signing) (e : Reading) where
  -- a turn over a copy of its memory, once it has done what the rules say
  pub shown : (old new : Progress) (seat : rules.Placement) (memory : rules.Memory) → seat ≡ q.order.seat → memory ≡ q.order.memory → Shows old (idle memory) → Does old new (work seat e) → Shows new (done_by q.order e)
  shown old new seat memory seat_is memory_is before does =
      subst (λ (s : rules.Placement). Shows new (work s e (idle q.order.memory))) seat_is (subst (λ (m : rules.Memory). Shows new (work seat e (idle m))) memory_is (does (idle memory) before))

  module _ (turn : Progress) (shows : Shows turn (done_by q.order e)) where
    -- its view rises each time that it leaves one
    pub view_risen : q.order.memory.peer.core.view + leavings turn.deeds.items ≤ (memory_of turn.memory).peer.core.view
    view_risen =
        let deeds_are : leavings turn.deeds.items ≡ leavings (heard_of q e) = ap leavings shows.told in
        let view_is : (memory_of turn.memory).peer.core.view ≡ (done_by q.order e).at.peer.core.view = ap (λ (m : rules.Memory). m.peer.core.view) shows.at in
        omega (arith, views_rise q.order e, deeds_are, view_is)

    -- so often it signs, whether or not the pen can
    pub signs_as : (deeds : List Notice) → deeds ≡ turn.deeds.items → signings (author_of q) deeds ≡ signs_of q e
    signs_as deeds deeds_is = ap (λ (ds : List Notice). signings (author_of q) ds) (deeds_is ∙ shows.told)

  pub worked : (pen : Pen) (shelf : Shelf) (turn : Progress) (left : Signing) (deeds : List Notice) (after : Post) → Shows turn (done_by q.order e)
      → left.cluster ≡ q.cluster → left.order.seat ≡ q.order.seat → left.order.memory ≡ memory_of turn.memory → left.shelf ≡ after.shelf → left.left ≡ q.left + leavings turn.deeds.items
      → deeds ≡ turn.deeds.items → posts_all (author_of q) deeds (record { pen = pen; shelf = shelf; sent = [] }) ≡ after → Worked q e pen shelf left after (signings (author_of q) deeds)
  worked pen shelf turn left deeds after shows cluster_is seat_is memory_is shelf_is count_is deeds_is all =
      let told : deeds ≡ heard_of q e = deeds_is ∙ shows.told in
      let post : post_of pen q shelf e ≡ after = ap (λ (ds : List Notice). posts_all (author_of q) ds (record { pen = pen; shelf = shelf; sent = [] })) (sym told) ∙ all in
      let memory_as = memory_is ∙ shows.at in
      let shelf_as = shelf_is ∙ ap (λ (p : Post). p.shelf) (sym post) in
      let count_as = count_is ∙ ap (λ (ds : List Notice). q.left + leavings ds) shows.told in
      record {
        next = λ j. record { cluster = cluster_is j; order = record { seat = seat_is j; memory = memory_as j }; shelf = shelf_as j; left = count_as j };
        sends = ap (λ (p : Post). p.sent) (sym post);
        moves = ap (λ (p : Post). p.pen) (sym post) ∙ pen_all (author_of q) (heard_of q e) (record { pen = pen; shelf = shelf; sent = [] });
        signs = signs_as turn shows deeds deeds_is;
      }
