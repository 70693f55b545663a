-- The picture of the first events of a schedule.
use Rattle.std.proofs.Common.{◌≡◌, ◌⊎◌, ℕ, ◌≤◌, List, [], ◌∷◌, Result, Ok, Err, length, take, sym, ap, ◌∙◌, subst, inl, inr, arith}
use Rattle.std.proofs.lemmas.List.{length-take, take_all}
use Rattle.ab_text.specs.declared.event.Event.{Event}
use Rattle.ab_text.specs.declared.schedule.Head.{Head}
use Rattle.ab_text.specs.Schedules.{script_of}
use Rattle.ab_abs.specs.Ensembles.{Proto}
use Rattle.ab_world.specs.declared.fault.WorldFault.{WorldFault}
use Rattle.ab_world.specs.Runs.{outcome}
use Rattle.ab_world.specs.Steps.{stepped}
use Rattle.ab_world.specs.Worlds.{World, start}
use Rattle.ab_picture.specs.declared.picture.Picture.{Picture}
use Rattle.ab_picture.specs.Composed.{IsPicture, Tale}
use Rattle.ab_replay.specs.declared.fault.ReplayFault.{ReplayFault}
use Rattle.ab_replay.specs.Replays.{EventsCause, counts_behind, counts_in, counts_of, run_in, setup_in}
use Rattle.ab_replay.proofs.RunLemmas.{sized_so}
use Rattle.ab_draw.specs.Draws.{most_drawn, told_at, told_between, AllRun, IsFrontOf, IsPictureOf}
use Rattle.ab_draw.proofs.Walks.{cause_front}

-- few events are drawn
pub few_drawn : (events fs : List Event) → fs ≡ take most_drawn events → length fs ≤ most_drawn
few_drawn events fs first = omega (arith, ap length first, length-take most_drawn events)

few_behind : {P : Type 0} (r : Result (World P) WorldFault) (rest : World P → List ℕ) (n : ℕ) → ((v : World P) → length (rest v) ≤ n) → length (counts_behind r rest) ≤ n
few_behind (Ok v) rest n each = each v
few_behind (Err fault) rest n each = omega arith

module _ {P : Type 0} (proto : Proto P) where
  -- no more counts than events
  pub counts_few : (es : List Event) (w : World P) → length (counts_of proto w es) ≤ length es
  counts_few [] w = omega arith
  counts_few (e ∷ es) w =
      few_behind (stepped proto w e) (λ v. length v.packets ∷ counts_of proto v es) (length (e ∷ es)) (λ v. omega (arith, counts_few es v))

  -- the world in which a schedule begins
  abbrev begin : Head → List Event → World P
  begin head events = start proto (setup_in head.cluster (script_of head events))

  -- what is told of the first events makes the picture of them
  pub front_is : (head : Head) (events fs : List Event) (end : World P) (counts : List ℕ) (p : Picture) → fs ≡ take most_drawn events
      → run_in proto head.cluster (script_of head fs) ≡ Ok end
      → counts ≡ counts_in proto head.cluster (script_of head fs)
      → IsPicture head.cluster head.faulty (told_at end fs counts) p
      → IsFrontOf proto head.cluster (script_of head events) p
  front_is head events fs end counts p first leads counted pictured =
      let counted_so : counts ≡ counts_of proto (begin head events) (take most_drawn events) = counted ∙ ap (counts_of proto (begin head events)) first in
      let tells : told_at end fs counts ≡ told_between proto (begin head events) (take most_drawn events) end = λ j. told_at end (first j) (counted_so j) in
      record {
        end = end;
        leads = sym (ap (outcome proto 1 (begin head events)) first) ∙ leads;
        is = subst (λ (t : Tale). IsPicture head.cluster head.faulty t p) tells pictured;
      }

  -- what is refused among the first events is refused in the run
  pub front_cause : (fault : ReplayFault) (line : ℕ) (head : Head) (events fs : List Event) → fs ≡ take most_drawn events
      → EventsCause fault line (run_in proto head.cluster (script_of head fs)) → EventsCause fault line (run_in proto head.cluster (script_of head events))
  front_cause fault line head events fs first cause =
      cause_front proto fault line most_drawn (begin head events) events
      (subst (λ (o : Result (World P) (ℕ × WorldFault)). EventsCause fault line o) (ap (outcome proto 1 (begin head events)) first) cause)

  -- a picture of the first events is one of the run, where there are no others or all run
  pub whole_run : (head : Head) (events : List Event) (p : Picture) → IsFrontOf proto head.cluster (script_of head events) p
      → (length events ≤ most_drawn) ⊎ AllRun proto head.cluster (script_of head events)
      → IsPictureOf proto (script_of head events) p
  whole_run head events p front (inl few) = record {
    cluster = head.cluster;
    sized = sized_so head events;
    runs = (front.end, ap (outcome proto 1 (begin head events)) (sym (take_all most_drawn events few)) ∙ front.leads);
    front = front;
  }
  whole_run head events p front (inr runs) = record { cluster = head.cluster; sized = sized_so head events; runs = runs; front = front }

  -- no more counts are told than events are drawn
  pub counts_drawn : (head : Head) (events fs : List Event) (counts : List ℕ) → fs ≡ take most_drawn events → counts ≡ counts_in proto head.cluster (script_of head fs) → length counts ≤ most_drawn
  counts_drawn head events fs counts first counted =
      omega (arith, ap length counted, counts_few fs (begin head fs), few_drawn events fs first)
