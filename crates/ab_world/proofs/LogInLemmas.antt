-- The log that a world has of a correct replica in an instance is that of its run.
use Rattle.std.proofs.Common.{◌≡◌, ℕ, ◌+◌, ◌-◌, ◌*◌, ◌<◌, ◌≤◌, Bool, true, false, Option, Some, None, List, ◌++◌, arith, length, refl, sym, ap, ◌∙◌, subst}
use Rattle.std.specs.Prelude.{if◌then◌else◌, Ok, drop, reverse, slice_get, take}
use Rattle.std.specs.Option.{option_map}
use Rattle.std.proofs.Math.Seq.{drop-length}
use Rattle.std.proofs.lemmas.List.{reverse-append, length-reverse, length-drop, drop-append-le, take-append-drop}
use Rattle.std.proofs.lemmas.Option.{slice_get_within}
use Rattle.ab_num.specs.declared.party.Party.TheVariants.{Replica}
use Rattle.ab_num.specs.declared.plan.Kind.{Kind}
use Rattle.ab_num.proofs.Lists.{slice_get_there}
use Rattle.ab_hist.specs.declared.request.Request.{Request}
use Rattle.ab_text.specs.declared.event.Event.{Event}
use Rattle.ab_msg.specs.Contents.{spell_content}
use Rattle.ab_abs.specs.Ensembles.{Proto}
use Rattle.ab_abs.specs.FormLaws.{KeepsForm}
use Rattle.ab_run.specs.Setups.{RunSetup}
use Rattle.ab_run.specs.Replicas.{Rep}
use Rattle.ab_run.specs.Runs.{Run, run}
use Rattle.ab_run.specs.Inputs.{Input, events_in}
use Rattle.ab_run.specs.Stages.{Stage}
use Rattle.ab_run.proofs.Staged.{stage_back, back_shown}
use Rattle.ab_replica.specs.Sites.{Site}
use Rattle.ab_cast.specs.Setups.{Setup, run_setup, is_bad}
use Rattle.ab_world.specs.declared.left.LeftLog.{LeftLog}
use Rattle.ab_world.specs.Left.{log_where}
use Rattle.ab_world.specs.Worlds.{World, log_in, opener, start}
use Rattle.ab_world.specs.Runs.{came_to, inputs_of, outcome}
use Rattle.ab_world.specs.Told.{IsLogIn, WasIn, run_of}
use Rattle.ab_world.proofs.SeatLemmas.{reps_of-get}
use Rattle.ab_world.proofs.LeftLemmas.{left_back}
use Rattle.ab_world.proofs.HeldLemmas.{IsHeld, Stood, held, all_held}
use Rattle.ab_world.proofs.LogLemmas.{one_there}
use Rattle.ab_world.proofs.FollowLemmas.{Follows, world_follows}
use Rattle.ab_world.proofs.TellLemmas.{front_inputs}

-- ---- the first of a list are the last of its reverse

module _ {A : Type 0} where
  behind_all : (xs ys : List A) → drop (length xs) (xs ++ ys) ≡ ys
  behind_all xs ys = drop-append-le (length xs) xs ys (omega arith) ∙ ap (λ l. l ++ ys) (drop-length xs)

  front_back : (n : ℕ) (l : List A) → reverse (take n l) ≡ drop (length l - n) (reverse l)
  front_back n l =
      let parts : reverse l ≡ reverse (drop n l) ++ reverse (take n l) = ap reverse (sym (take-append-drop n l)) ∙ reverse-append (take n l) (drop n l) in
      let size : length (reverse (drop n l)) ≡ length l - n = length-reverse (drop n l) ∙ length-drop n l in
      sym (ap (λ m. drop m (reverse l)) (sym size) ∙ ap (drop (length (reverse (drop n l)))) parts ∙ behind_all (reverse (drop n l)) (reverse (take n l)))

  back_front : (n : ℕ) (l : List A) → n ≤ length l → drop n (reverse l) ≡ reverse (take (length l - n) l)
  back_front n l le = let same : n ≡ length l - (length l - n) = omega (arith, le) in ap (λ m. drop m (reverse l)) same ∙ sym (front_back (length l - n) l)

test_some : {A : Type 0} (b : Bool) (o : Option A) (h : A) → (if b then None else o) ≡ Some h → (b ≡ false) × (o ≡ Some h)
test_some true o h e = absurd (cc (e))
test_some false o h e = (refl, e)

module _ {P : Type 0} (proto : Proto P) (serves : Kind → Bool) (x : Setup) (form : KeepsForm proto serves) (es : List Event) where
  abbrev K : RunSetup
  K = run_setup x

  abbrev inputs : List Input
  inputs = inputs_of proto (start proto x) es

  abbrev came : List Input
  came = came_to proto x es

  abbrev back : List Input → Stage P
  back before = stage_back K proto spell_content (opener x) before

  abbrev at : List Input → Run P
  at before = run K proto (events_in (opener x) before)

  -- the run of the first events
  first_is : (n : ℕ) → run_of proto x (take n es) ≡ at (drop (length inputs - n) came)
  first_is n = ap at (ap reverse (front_inputs proto n (start proto x) es) ∙ front_back n inputs)

  last_is : (n : ℕ) → n ≤ length came → at (drop n came) ≡ run_of proto x (take (length inputs - n) es)
  last_is n le =
      let within : n ≤ length inputs = subst (λ m. n ≤ m) (length-reverse inputs) le in
      ap at (back_front n inputs within ∙ sym (ap reverse (front_inputs proto (length inputs - n) (start proto x) es)))

  module _ (i r : ℕ) (within : r < 3 * x.cluster.f + 1) (good : is_bad x (Replica r) ≡ false) where
    was_in : Stood K proto spell_content (opener x) came i r → WasIn proto x es i r
    was_in stood =
        let here = (back_shown K proto spell_content (opener x) (drop stood.later came)).replicas r within in
        let same : stood.rep ≡ (at (drop stood.later came)).reps r = one_there (slice_get (back (drop stood.later came)).replicas r) stood.rep _ stood.there here in
        record {
          replica = within;
          correct = good;
          first = length inputs - stood.later;
          there = sym (ap (λ (w : Run P). (w.reps r).at) (last_is stood.later stood.within)) ∙ sym (ap (λ (s : Rep P). s.at) same) ∙ stood.at;
        }

    stood_in : WasIn proto x es i r → Stood K proto spell_content (opener x) came i r
    stood_in was =
        let later = length inputs - was.first in
        record {
          later = later;
          within = omega (arith, length-reverse inputs);
          rep = (at (drop later came)).reps r;
          there = (back_shown K proto spell_content (opener x) (drop later came)).replicas r within;
          at = sym (ap (λ (w : Run P). (w.reps r).at) (first_is was.first)) ∙ was.there;
        }

  module _ (end : World P) (out : outcome proto 1 (start proto x) es ≡ Ok end) (i r : ℕ) where
    is : Follows proto x end came
    is = world_follows proto x es end out

    abbrev left : List LeftLog
    left = left_back K proto spell_content (opener x) came

    here : (s : Site P) → slice_get end.cast.replicas r ≡ Some s → slice_get (back came).replicas r ≡ Some s.rep
    here s there = sym (ap (λ (t : Stage P). slice_get t.replicas r) is.shows) ∙ reps_of-get end.cast.replicas r ∙ ap (option_map (λ t. t.rep)) there

    there_held : (s : Site P) → is_bad x (Replica r) ≡ false → slice_get end.cast.replicas r ≡ Some s → IsHeld K proto spell_content (opener x) came i r (held K proto spell_content (opener x) s.rep left i r)
    there_held s good there = all_held K proto spell_content (opener x) (λ n. (form.starts K.cluster n).logged) came r s.rep i good (here s there)

    bound : (s : Site P) → slice_get end.cast.replicas r ≡ Some s → r < 3 * x.cluster.f + 1
    bound s there = subst (λ n. r < n) (back_shown K proto spell_content (opener x) came).all_replicas (slice_get_within (back came).replicas r s.rep (here s there))

    was_there : (o : Option (Site P)) (h : List Request) → slice_get end.cast.replicas r ≡ o → is_bad x (Replica r) ≡ false → log_where proto left i r o ≡ Some h → WasIn proto x es i r
    was_there None h there good e = absurd (cc (e))
    was_there (Some s) h there good e = was_in i r (bound s there) good ((there_held s good there).was h e)

    is_where : (o : Option (Site P)) → slice_get end.cast.replicas r ≡ o → WasIn proto x es i r → log_where proto left i r o ≡ Some ((run_of proto x es).log i r)
    is_where None there was =
        let lt : r < 3 * end.cast.setup.cluster.f + 1 = subst (λ (y : Setup). r < 3 * y.cluster.f + 1) (sym is.setup) was.replica in
        let found = slice_get_there end.cast.replicas r (subst (λ n. r < n) (sym is.stands.replicas) lt) in
        absurd (cc (there, found.1))
    is_where (Some s) there was = (there_held s was.correct there).is (stood_in i r was.replica was.correct was) ∙ ap Some ((back_shown K proto spell_content (opener x) came).logs i r)

    -- with the setup and the logs of the run
    same : log_in proto end i r ≡ (if is_bad x (Replica r) then None else log_where proto left i r (slice_get end.cast.replicas r))
    same = λ j. if is_bad (is.setup j) (Replica r) then None else log_where proto (is.left j) i r (slice_get end.cast.replicas r)

    pub log_told : IsLogIn proto x es i r (log_in proto end i r)
    log_told = record {
      was = λ h e.
          let (good, some) = test_some (is_bad x (Replica r)) (log_where proto left i r (slice_get end.cast.replicas r)) h (sym same ∙ e) in
          was_there (slice_get end.cast.replicas r) h refl good some;
      is = λ was.
          same
          ∙ ap (λ (b : Bool). if b then None else log_where proto left i r (slice_get end.cast.replicas r)) was.correct
          ∙ is_where (slice_get end.cast.replicas r) refl was;
    }
