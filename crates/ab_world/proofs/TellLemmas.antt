-- What a world tells is that of its run.
use Rattle.std.proofs.Common.{◌≡◌, ℕ, zero, suc, ◌*◌, ◌+◌, ◌<◌, Option, Some, List, [], ◌∷◌, ◌++◌, refl, sym, ap, ◌∙◌, subst}
use Rattle.std.specs.Prelude.{Result, Ok, Err, map, reverse, slice_get, take}
use Rattle.std.specs.List.{filter}
use Rattle.std.specs.Option.{option_map}
use Rattle.std.proofs.lemmas.List.{map-append, reverse-append, reverse-reverse}
use Rattle.std.proofs.lemmas.Option.{slice_get_within}
use Rattle.ab_hist.specs.declared.request.Request.{Request}
use Rattle.ab_text.specs.declared.event.Event.{Event}
use Rattle.ab_text.specs.declared.line.Line.{Line}
use Rattle.ab_svc.specs.Machines.{Machine}
use Rattle.ab_msg.specs.Contents.{spell_content}
use Rattle.ab_abs.specs.declared.seen.Seen.{Seen}
use Rattle.ab_abs.specs.Ensembles.{Proto}
use Rattle.ab_abs.specs.Instances.{EachIsAbstract}
use Rattle.ab_abs.specs.Observations.{history_at, seen_whole}
use Rattle.ab_abs.specs.Order.{Ordered}
use Rattle.ab_replica.specs.Sites.{Site}
use Rattle.ab_run.specs.declared.noted.Noted.{Noted}
use Rattle.ab_run.specs.Setups.{replicas}
use Rattle.ab_run.specs.Replicas.{Rep}
use Rattle.ab_run.specs.Runs.{named_by}
use Rattle.ab_run.specs.Inputs.{Input}
use Rattle.ab_run.specs.Stages.{Stage, IsStageOf, all_seen, find_log, named_on, stage_over, whole_seen}
use Rattle.ab_cast.specs.Setups.{Setup, run_setup}
use Rattle.ab_world.specs.declared.fault.WorldFault.{WorldFault}
use Rattle.ab_world.specs.Lines.{is_observed, line_of_noted}
use Rattle.ab_world.specs.Runs.{inputs_of, input_or}
use Rattle.ab_world.specs.Steps.{Happening, after, input_of, ready}
use Rattle.ab_world.specs.Told.{run_of, up_to, EndsThere, KeepsPromises, TellsSeen}
use Rattle.ab_world.specs.Worlds.{World, opener, shown_on, start}
use Rattle.ab_world.proofs.NumberLemmas.{numbered}
use Rattle.ab_world.proofs.SeatLemmas.{reps_of-get}

map-reverse : {A B : Type 0} (f : A → B) (xs : List A) → map f (reverse xs) ≡ reverse (map f xs)
map-reverse f [] = refl
map-reverse f (x ∷ xs) =
    ap (map f) (reverse-append (x ∷ []) xs)
    ∙ map-append f (reverse xs) (x ∷ [])
    ∙ ap (λ l. l ++ f x ∷ []) (map-reverse f xs)
    ∙ sym (reverse-append (f x ∷ []) (map f xs))

module _ {P : Type 0} (proto : Proto P) where
  -- what the first n events give is the first n of what all give
  front_or : (n : ℕ) (r : Result Happening WorldFault) (some all : Happening → List Input) → ((h : Happening) → some h ≡ take n (all h)) → input_or proto r some ≡ take (suc n) (input_or proto r all)
  front_or n (Ok h) some all each = ap (λ l. input_of h ∷ l) (each h)
  front_or n (Err fault) some all each = refl

  pub front_inputs : (n : ℕ) (w : World P) (es : List Event) → inputs_of proto w (take n es) ≡ take n (inputs_of proto w es)
  front_inputs zero w es = refl
  front_inputs (suc n) w [] = refl
  front_inputs (suc n) w (e ∷ es) =
      front_or n (ready w e) (λ h. inputs_of proto (after proto w h) (take n es)) (λ h. inputs_of proto (after proto w h) es) (λ h. front_inputs n (after proto w h) es)

  module _ (x : Setup) where
    abbrev given : List Event → List Input
    given es = inputs_of proto (start proto x) es

    abbrev stage : List Input → Stage P
    stage inputs = stage_over (run_setup x) proto spell_content (opener x) inputs

    module _ (shown : (inputs : List Input) → IsStageOf (run_setup x) proto (opener x) spell_content (stage inputs) (reverse inputs)) where
      pub all_is : (es : List Event) → all_seen (stage (given es)) ≡ reverse (run_of proto x es).shown
      all_is es = sym (reverse-reverse (all_seen (stage (given es)))) ∙ ap reverse (shown (given es)).shown

      pub named_is : (es : List Event) → named_on (run_setup x) (stage (given es)) ≡ named_by (run_setup x) (run_of proto x es)
      named_is es = λ j i. history_at (run_setup x).faulty (replicas (run_setup x)) (λ r. (shown (given es)).logs i r j)

      -- made whole by the logs, it is what was seen, where what is shown stands for that
      whole_is : (es : List Event) → (run_of proto x es).seen ≡ map (seen_whole (named_by (run_setup x) (run_of proto x es))) (run_of proto x es).shown
          → whole_seen (run_setup x) (stage (given es)) ≡ reverse (run_of proto x es).seen
      whole_is es stands =
          let w = run_of proto x es in
          (λ j. map (seen_whole (named_is es j)) (all_is es j))
          ∙ map-reverse (seen_whole (named_by (run_setup x) w)) w.shown
          ∙ ap reverse (sym stands)

      numbers_are : (n : ℕ) (es : List Event) → map (λ o. o.what) (filter (up_to n) (stage (given es)).seen) ≡ reverse (run_of proto x (take n es)).shown
      numbers_are n es =
          ap (λ (l : List Noted). map (λ o. o.what) l) (numbered (run_setup x) proto spell_content (opener x) n (given es))
          ∙ ap (λ (l : List Input). all_seen (stage l)) (sym (front_inputs n (start proto x) es))
          ∙ all_is (take n es)

      pub tells_seen : (es : List Event) (lines : List Line) → filter is_observed lines ≡ map line_of_noted (stage (given es)).seen → TellsSeen proto x es lines
      tells_seen es lines told = record { noted = (stage (given es)).seen; told = told; all = all_is es; numbered = λ n. numbers_are n es }

      one_rep : (o : Option (Rep P)) (a b : Rep P) → o ≡ Some a → o ≡ Some b → a ≡ b
      one_rep o a b at_a at_b = cc (at_a, at_b)

      pub ends_there : (es : List Event) (end : World P) (r : ℕ) (s : Site P) → shown_on end (stage (given es)) ≡ stage (given es)
          → find_log (stage (given es)).logs s.rep.at r ≡ (proto.state s.rep.value).log → slice_get end.cast.replicas r ≡ Some s → EndsThere proto x es r s
      ends_there es end r s shows log there =
          let is = shown (given es) in
          let here : slice_get (stage (given es)).replicas r ≡ Some s.rep =
          sym (ap (λ (t : Stage P). slice_get t.replicas r) shows) ∙ reps_of-get end.cast.replicas r ∙ ap (option_map (λ t. t.rep)) there in
          let within : r < 3 * x.cluster.f + 1 = subst (λ n. r < n) is.all_replicas (slice_get_within (stage (given es)).replicas r s.rep here) in
          record {
            stands = one_rep (slice_get (stage (given es)).replicas r) s.rep _ here (is.replicas r within);
            log = sym log ∙ is.logs s.rep.at r;
          }

      pub keeps : {S : Type 0} (machine : Machine S) (es : List Event)
          → (run_of proto x es).seen ≡ map (seen_whole (named_by (run_setup x) (run_of proto x es))) (run_of proto x es).shown
          → Ordered machine (whole_seen (run_setup x) (stage (given es))) (named_on (run_setup x) (stage (given es))) (run_setup x).faulty
          → EachIsAbstract machine (whole_seen (run_setup x) (stage (given es))) (named_on (run_setup x) (stage (given es))) (run_setup x).faulty
          → KeepsPromises machine proto x es
      keeps machine es stands ordered instances = record {
        shown = stands;
        ordered = subst (λ (named : ℕ → ℕ → List ℕ → List Request). Ordered machine (reverse (run_of proto x es).seen) named (run_setup x).faulty) (named_is es)
            (subst (λ (seen : List Seen). Ordered machine seen (named_on (run_setup x) (stage (given es))) (run_setup x).faulty) (whole_is es stands) ordered);
        instances = subst (λ (named : ℕ → ℕ → List ℕ → List Request). EachIsAbstract machine (reverse (run_of proto x es).seen) named (run_setup x).faulty) (named_is es)
            (subst (λ (seen : List Seen). EachIsAbstract machine seen (named_on (run_setup x) (stage (given es))) (run_setup x).faulty) (whole_is es stands) instances);
      }
