use Rattle.std.proofs.Common.{◌≡◌, ℕ, ◌-◌, List, ◌++◌, ap, ◌∙◌, append_assoc}
use Rattle.std.specs.Prelude.{string_bytes}
use Rattle.std.proofs.lemmas.Result.{on_ok_weaker}
use Rattle.ab_text.specs.Cores.{core_text}
use Rattle.ab_picture.specs.declared.picture.Lane.{Lane}
use Rattle.ab_picture.specs.declared.picture.Picture.{Picture}
use Rattle.ab_picture.specs.Elements.{IsLane, first_badge, head_class, lane_class, lane_text, lifeline_text}
use Rattle.ab_picture.specs.Layout.{bottom_of, x_at, y_of}
use Rattle.ab_picture.specs.Lists.{AddsOne}
use Rattle.ab_picture.proofs.whole.add_lane.Goals as goal

-- a lifeline and what stands at its head
one_lane : (p : Picture) (place : ℕ) (l : Lane) (x bottom : ℕ) (old mid new line badge : List ℕ) → x ≡ x_at place → bottom ≡ bottom_of p
    → line ≡ lifeline_text (head_class p.premise l.core.party) (lane_class l.core.party l.faulty) (core_text l.core) x (y_of 0 - 24) (y_of 0 - 12) bottom
    → badge ≡ first_badge l.core.party l.faulty x → mid ≡ old ++ line → new ≡ mid ++ badge → AddsOne (IsLane p) (place, l) old new
one_lane p place l x bottom old mid new line badge across down is_line is_badge first second = record {
  element = line ++ badge;
  shows = (λ j. is_line j ++ is_badge j) ∙ (λ j. lane_text p.premise l (across j) (down j));
  is = second ∙ ap (λ t. t ++ badge) first ∙ append_assoc old line badge;
}

pub returns : goal.returns
returns c =
    on_ok_weaker c.add-2.result
    (λ second. one_lane c.args.picture.now c.args.place c.args.lane.now c.x_at-x.result c.bottom_of.result c.args.out.now.items c.add.new.out.items c.add-2.new.out.items
    (string_bytes c.in_ok-line.line) (string_bytes c.in_ok-badge.badge) c.x_at-x.ensures.is c.bottom_of.ensures c.in_ok-line.ensures c.in_ok-badge.ensures c.in_ok-add.ensures second)
    c.add-2.ensures
