-- A replica of PBFT sends its own statements alone, and what tells it nothing changes nothing.
use Rattle.std.proofs.Common.{◌≡◌, ℕ, ◌+◌, List, [], refl, ap, ◌∙◌, inl, inr, arith}
use Rattle.ab_num.proofs.Lists.{Contains-none}
use Rattle.ab_msg.specs.declared.content.Content.{Content}
use Rattle.ab_msg.specs.declared.message.Msg.TheVariants as msg
use Rattle.ab_msg.specs.declared.message.Out.{Out}
use Rattle.ab_msg.specs.Pens.{Pen}
use Rattle.ab_abs.specs.Messages.{Call, took}
use Rattle.ab_order.specs.Inputs.{Reading, other}
use Rattle.ab_order.specs.Protos.{told}
use Rattle.ab_order.specs.Owned.{KeepsOwn}
use Rattle.ab_pbft_rules.specs.Rules.{done_by, pbft}
use Rattle.ab_pbft_rules.proofs.OrderlyOrderer.{pbft_orderly}
use Rattle.ab_slots.specs.Deeds.{told_in}
use Rattle.ab_pbft_shelf.specs.Shelves.{Shelf}
use Rattle.ab_pbft_shelf.specs.Posts.{posts_all, signed_in_all}
use Rattle.ab_pbft_shelf.specs.Signing.{Signing, signing, author_of, puts, deeds_by, first_post, leavings}
use Rattle.ab_pbft_shelf.proofs.Obeying.{signing_obeys, all_speak}

-- nothing is put on the shelf
puts_nothing : (f : ℕ) (call : Call) (s : Shelf) → puts f call other s ≡ s
puts_nothing f (took (msg.Req content tags)) s = refl
puts_nothing f (took (msg.Prepare signed)) s = refl
puts_nothing f (took (msg.ViewChange proof)) s = refl
puts_nothing f _ s = refl

-- what a call leaves, by what it tells and what it puts on the shelf
abbrev left_by : Pen → Signing → Call → Reading → Signing
left_by pen q call e =
    let deeds = told_in (done_by q.order e).doings in
    record {
      cluster = q.cluster;
      order = pbft.after q.order e;
      shelf = (posts_all (author_of q) deeds (record { pen = pen; shelf = puts q.order.seat.f call e q.shelf; sent = [] })).shelf;
      left = q.left + leavings deeds;
    }

abbrev sent_by : Pen → Signing → Call → Reading → List Out
sent_by pen q call e = (posts_all (author_of q) (told_in (done_by q.order e).doings) (record { pen = pen; shelf = puts q.order.seat.f call e q.shelf; sent = [] })).sent

abbrev signed_of : Signing → Reading → List Content
signed_of q e = signed_in_all (author_of q) (told_in (done_by q.order e).doings)

nothing_left : (pen : Pen) (q : Signing) (call : Call) → left_by pen q call other ≡ q
nothing_left pen q call =
    let with_shelf : Shelf → Signing = λ s. record { cluster = q.cluster; order = q.order; shelf = s; left = q.left + 0 } in
    let with_left : ℕ → Signing = λ n. record { cluster = q.cluster; order = q.order; shelf = q.shelf; left = n } in
    let none : q.left + 0 ≡ q.left = omega arith in
    ap with_shelf (puts_nothing q.order.seat.f call q.shelf) ∙ ap with_left none

pub signing_owns : KeepsOwn signing pbft
signing_owns = record {
  states = λ pen q call o s f r sent has.
      let is = pbft_orderly.orders q.order (told signing q call) s (signing_obeys.only pen q call o s f r sent has) in
      record { maker = is.0; instance = is.1; orders = is.2 };
  carries = λ pen q call o f r sent.
      elim (all_speak (author_of q) (deeds_by q call) (first_post pen q call) o f r sent) [
        | inl none ↦ absurd (Contains-none o none)
        | inr speaks ↦ speaks
      ];
  ignores = λ pen q call nothing. (
    ap (λ (e : Reading). left_by pen q call e) nothing ∙ nothing_left pen q call,
    ap (λ (e : Reading). sent_by pen q call e) nothing,
    ap (λ (e : Reading). signed_of q e) nothing,
  );
}
