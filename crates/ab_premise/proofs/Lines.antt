-- The premise line of a run is the one that a program tells.
use Rattle.std.proofs.Common.{◌≡◌, ℕ, ◌≤◌, ◌<◌, ◌↔◌, true, false, Bool, Some, None, Option, List, [], ◌∷◌, ◌++◌, length, map, refl, sym, ap, ◌∙◌, subst, inl, inr, arith, append_assoc, length-append}
use Rattle.std.specs.Prelude.{Contains, nat_le, nat_lt, count_by, slice_get, if◌then◌else◌}
use Rattle.std.specs.List.{filter}
use Rattle.std.proofs.lemmas.Bool.{cases_Bool, cases_lt, leb-true, leb-false, le-leb, lt-leb, ltb-true}
use Rattle.std.proofs.lemmas.Option.{slice_get_past}
use Rattle.std.proofs.lemmas.List.Sums.{length-filter}
use Rattle.std.proofs.lemmas.List.Elements.{Contains-append_right}
use Rattle.ab_num.specs.declared.party.Party.{Party}
use Rattle.ab_num.specs.declared.party.Party.TheVariants.{Replica, Client}
use Rattle.ab_num.proofs.Lists.{slice_get_there, Contains-head}
use Rattle.ab_hist.specs.declared.request.Request.{Request}
use Rattle.ab_hist.specs.Trimmed.{Trimmed}
use Rattle.ab_text.specs.declared.line.Breach.TheVariants.{Forged, Collision as Collided}
use Rattle.ab_text.specs.declared.line.Premise.{Premise}
use Rattle.ab_text.specs.declared.line.Premise.TheVariants.{Broken}
use Rattle.ab_msg.specs.Carried.{is_replica}
use Rattle.ab_abs.specs.Messages.{Call, took, timed}
use Rattle.ab_abs.specs.Ensembles.{Proto}
use Rattle.ab_links.proofs.DigestedLemmas.{HasNoCollision-fewer}
use Rattle.ab_run.specs.Setups.{RunSetup, replicas}
use Rattle.ab_run.specs.Runs.{Event, invoke, to_replica, to_client, replica_time, client_time, Run, run, step}
use Rattle.ab_run.specs.Local.{Cue, cue_command, cue_message, cue_time}
use Rattle.ab_run.specs.Premises.{IsHonestRun, checked}
use Rattle.ab_run.specs.Inputs.{Input, Opener, event_in, events_in}
use Rattle.ab_run.specs.Stages.{Forgery, IsForgedAt, had_in_call, call_histories, call_lists, call_requests, cue_histories, cue_lists, cue_requests}
use Rattle.ab_run.proofs.Effects.{at_call, at_cue}
use Rattle.ab_run.proofs.Shown.{grown, followed}
use Rattle.ab_premise.specs.declared.breach.Collision.{Collision}
use Rattle.ab_premise.specs.Collisions.{IsFree, IsCollidedAt}
use Rattle.ab_premise.specs.Premises.{passing, first_premise, faulty_premise, IsForgedFirst, IsCollidedFirst, IsPremise, is_held, is_faulty, is_forged, is_collided}

-- ---- how many are faulty

none_past : {A : Type 0} (xs : List A) (i : ℕ) → slice_get xs i ≡ None → length xs ≤ i
none_past xs i none =
    elim (cases_lt i (length xs)) [
      | inl lt ↦ let there = slice_get_there xs i lt in let e : None ≡ Some there.0 = sym none ∙ there.1 in absurd (cc (e))
      | inr ge ↦ ge
    ]

-- none passes f exactly where at most f replicas are declared faulty
pub few_faulty : (f : ℕ) (all : List (Party × ℕ)) → (passing f all ≡ None) ↔ (count_by is_replica (map (λ e. e.0) all) ≤ f)
few_faulty f all =
    let faulty : List Party = map (λ e. e.0) all in
    let count : length (filter is_replica faulty) ≡ count_by is_replica faulty = length-filter is_replica faulty in (
      λ none. subst (λ (n : ℕ). n ≤ f) count (none_past (filter is_replica faulty) f none),
      λ few. slice_get_past (filter is_replica faulty) f (subst (λ (n : ℕ). n ≤ f) (sym count) few),
    )

-- ---- what came up to an event

-- of two ends of a list the shorter one ends the longer one
shorter_end : {A : Type 0} (a b e1 e2 : List A) → a ++ e1 ≡ b ++ e2 → length e1 ≤ length e2 → (m : List A) × (e2 ≡ m ++ e1)
shorter_end a [] e1 e2 same less = (a, sym same)
shorter_end [] (y ∷ b) e1 e2 same less = absurd (omega (arith, ap length same, length-append b e2))
shorter_end (x ∷ a) (y ∷ b) e1 e2 same less = let tails : a ++ e1 ≡ b ++ e2 = cc (same) in shorter_end a b e1 e2 tails less

seam : {A : Type 0} (p : List A) (x : A) (rest : List A) → p ++ x ∷ rest ≡ (p ++ x ∷ []) ++ rest
seam [] x rest = refl
seam (y ∷ p) x rest = ap (λ l. y ∷ l) (seam p x rest)

module _ {P : Type 0} (k : RunSetup) (proto : Proto P) where
  -- what was had, checked and asked stays
  record Wider (w v : Run P) : Type 0 where
    had : (h : List Request) → Contains w.had h → Contains v.had h
    lists : (t : Trimmed) → Contains w.lists t → Contains v.lists t
    asked : (m : Request) → Contains w.asked m → Contains v.asked m

  call_wider : (w : Run P) (r : ℕ) (call : Call) → Wider w (at_call k proto w r call)
  call_wider w r call = elim (cases_Bool (nat_lt r (replicas k))) [
    | inl there ↦
        let g = grown k proto w r call (ltb-true r (replicas k) there) in
        record {
          had = λ h has. subst (λ l. Contains l h) (sym g.had) (Contains-append_right (had_in_call k proto r (w.reps r) call) (call_histories k (Replica r) call ++ w.had) h (Contains-append_right (call_histories k (Replica r) call) w.had h has));
          lists = λ t has. subst (λ l. Contains l t) (sym g.lists) (Contains-append_right (call_lists k (Replica r) call) w.lists t has);
          asked = λ m has. subst (λ l. Contains l m) (sym g.asked) (Contains-append_right (call_requests k (Replica r) call) w.asked m has);
        }
    | inr gone ↦ rw gone (record { had = λ h has. has; lists = λ t has. has; asked = λ m has. has })
  ]

  cue_wider : (w : Run P) (c : ℕ) (cue : Cue) → Wider w (at_cue k proto w c cue)
  cue_wider w c cue = elim (cases_Bool (nat_lt c k.cluster.clients)) [
    | inl there ↦
        let f = followed k proto w c cue (ltb-true c k.cluster.clients there) in
        record {
          had = λ h has. subst (λ l. Contains l h) (sym f.had) (Contains-append_right (cue_histories k (Client c) cue) w.had h has);
          lists = λ t has. subst (λ l. Contains l t) (sym f.lists) (Contains-append_right (cue_lists k (Client c) cue) w.lists t has);
          asked = λ m has. subst (λ l. Contains l m) (sym f.asked) (Contains-append_right (cue_requests k (Client c) cue) w.asked m has);
        }
    | inr gone ↦ rw gone (record { had = λ h has. has; lists = λ t has. has; asked = λ m has. has })
  ]

  step_wider : (w : Run P) (e : Event) → Wider w (step k proto w e)
  step_wider w (invoke c command) = cue_wider w c (cue_command command)
  step_wider w (to_replica r m) = call_wider w r (took m)
  step_wider w (to_client c m) = cue_wider w c (cue_message m)
  step_wider w (replica_time r) = call_wider w r timed
  step_wider w (client_time c) = cue_wider w c cue_time

  free_before : (es events : List Event) → IsFree k proto (es ++ events) → IsFree k proto events
  free_before [] events free = free
  free_before (e ∷ es) events free =
      let w = run k proto (es ++ events) in
      let wider = step_wider w e in
      let v = step k proto w e in
      free_before es events (HasNoCollision-fewer v.had w.had v.lists w.lists v.asked w.asked wider.had wider.lists wider.asked free)

  honest_before : (es events : List Event) → IsHonestRun k proto (es ++ events) → IsHonestRun k proto events
  honest_before [] events honest = honest
  honest_before (e ∷ es) events honest = honest_before es events honest.1

  module _ (opens : Opener) where
    events_split : (more inputs : List Input) → events_in opens (more ++ inputs) ≡ events_in opens more ++ events_in opens inputs
    events_split [] inputs = refl
    events_split (g ∷ more) inputs = ap (λ l. event_in opens g ++ l) (events_split more inputs) ∙ sym (append_assoc (event_in opens g) (events_in opens more) (events_in opens inputs))

    abbrev Free : List Input → Type 0
    Free inputs = IsFree k proto (events_in opens inputs)

    abbrev Honest : List Input → Type 0
    Honest inputs = IsHonestRun k proto (events_in opens inputs)

    free_end : (more inputs all : List Input) → all ≡ more ++ inputs → Free all → Free inputs
    free_end more inputs all is free =
        free_before (events_in opens more) (events_in opens inputs) (subst (IsFree k proto) (ap (events_in opens) is ∙ events_split more inputs) free)

    honest_end : (more inputs all : List Input) → all ≡ more ++ inputs → Honest all → Honest inputs
    honest_end more inputs all is honest =
        honest_before (events_in opens more) (events_in opens inputs) (subst (IsHonestRun k proto) (ap (events_in opens) is ∙ events_split more inputs) honest)

    -- what is forged is not honest
    not_honest : (inputs : List Input) (n : ℕ) (p : Party) (b : IsForgedAt k proto opens inputs n p) → Honest (b.input ∷ b.earlier) → ⊥
    not_honest inputs n p b honest =
        let now : IsHonestRun k proto (b.event ∷ events_in opens b.earlier) = subst (λ es. IsHonestRun k proto (es ++ events_in opens b.earlier)) b.is_event honest in
        let there : Contains (checked k b.event) b.claim = subst (λ l. Contains l b.claim) (sym b.forged.place) (Contains-append_right b.forged.before (b.claim ∷ b.forged.after) b.claim (Contains-head b.claim b.forged.after)) in
        b.forged.not_made (now.0 b.claim there b.forged.correct)

    module _ (all : List (Party × ℕ)) (inputs : List Input) (forged : Option Forgery) (collided : Option Collision)
        (honest_is : (forged ≡ None) ↔ Honest inputs) (forged_is : (b : Forgery) → (forged ≡ Some b) ↔ IsForgedAt k proto opens inputs b.event b.maker)
        (free_is : (collided ≡ None) ↔ Free inputs) (collided_is : (c : Collision) → (collided ≡ Some c) ↔ IsCollidedAt k proto opens inputs c.event c.party) where
      -- the forgery comes first, or in the same event
      forged_sooner : (b : Forgery) (c : Collision) (fb : IsForgedAt k proto opens inputs b.event b.maker) (fc : IsCollidedAt k proto opens inputs c.event c.party) → b.event ≤ c.event → Free fb.earlier
      forged_sooner b c fb fc le =
          let (m, is) = shorter_end (fb.later ++ fb.input ∷ []) (fc.later ++ fc.input ∷ []) fb.earlier fc.earlier
          (sym (seam fb.later fb.input fb.earlier) ∙ sym fb.place ∙ fc.place ∙ seam fc.later fc.input fc.earlier) (omega (arith, fb.number, fc.number)) in
          free_end m fb.earlier fc.earlier is fc.before

      collided_sooner : (b : Forgery) (c : Collision) (fb : IsForgedAt k proto opens inputs b.event b.maker) (fc : IsCollidedAt k proto opens inputs c.event c.party) → c.event < b.event → (m : List Input) × (fb.earlier ≡ m ++ (fc.input ∷ fc.earlier))
      collided_sooner b c fb fc lt =
          shorter_end fc.later (fb.later ++ fb.input ∷ []) (fc.input ∷ fc.earlier) fb.earlier
          (sym fc.place ∙ fb.place ∙ seam fb.later fb.input fb.earlier) (omega (arith, fb.number, fc.number))

      told_both : (b : Forgery) (c : Collision) (t : Bool) → passing k.cluster.f all ≡ None → nat_le b.event c.event ≡ t → forged ≡ Some b → collided ≡ Some c
          → IsPremise k proto opens all inputs (if t then Broken b.event Forged b.maker else Broken c.event Collided c.party)
      told_both b c true few test is-b is-c =
          let fb = (forged_is b).0 is-b in
          let fc = (collided_is c).0 is-c in
          is_forged b.event b.maker few (record { forged = fb; free = forged_sooner b c fb fc (leb-true b.event c.event test) })
      told_both b c false few test is-b is-c =
          let fb = (forged_is b).0 is-b in
          let fc = (collided_is c).0 is-c in
          let (m, is) = collided_sooner b c fb fc (leb-false b.event c.event test) in
          is_collided c.event c.party few (record { collided = fc; honest = honest_end m (fc.input ∷ fc.earlier) fb.earlier is fb.honest })

      told_line : (p : Option Party) (b : Option Forgery) (c : Option Collision) → passing k.cluster.f all ≡ p → forged ≡ b → collided ≡ c → IsPremise k proto opens all inputs (faulty_premise p (first_premise b c))
      told_line (Some p) b c passes is-b is-c = is_faulty p passes
      told_line None None None few is-b is-c = is_held few (honest_is.0 is-b) (free_is.0 is-c)
      told_line None (Some b) None few is-b is-c =
          let fb = (forged_is b).0 is-b in
          is_forged b.event b.maker few (record { forged = fb; free = free_end (fb.later ++ fb.input ∷ []) fb.earlier inputs (fb.place ∙ seam fb.later fb.input fb.earlier) (free_is.0 is-c) })
      told_line None None (Some c) few is-b is-c =
          let fc = (collided_is c).0 is-c in
          is_collided c.event c.party few (record { collided = fc; honest = honest_end fc.later (fc.input ∷ fc.earlier) inputs fc.place (honest_is.0 is-b) })
      told_line None (Some b) (Some c) few is-b is-c = told_both b c (nat_le b.event c.event) few refl is-b is-c

      -- and no other
      module _ (n : ℕ) (p : Party) where
        after_forged : (is : IsForgedFirst k proto opens inputs n p) (c : Option Collision) → collided ≡ c → first_premise (Some (record { event = n; maker = p })) c ≡ Broken n Forged p
        after_forged is None e = refl
        after_forged is (Some c) e =
            let fc = (collided_is c).0 e in
            let before : nat_le n c.event ≡ true = elim (cases_lt c.event n) [
              | inl lt ↦
                  let (m, ends) = collided_sooner (record { event = n; maker = p }) c is.forged fc lt in
                  absurd (fc.after (free_end m (fc.input ∷ fc.earlier) is.forged.earlier ends is.free))
              | inr ge ↦ le-leb n c.event ge
            ] in
            ap (λ (t : Bool). if t then Broken n Forged p else Broken c.event Collided c.party) before

        after_collided : (is : IsCollidedFirst k proto opens inputs n p) (b : Option Forgery) → forged ≡ b → first_premise b (Some (record { event = n; party = p })) ≡ Broken n Collided p
        after_collided is None e = refl
        after_collided is (Some b) e =
            let fb = (forged_is b).0 e in
            let before : nat_le b.event n ≡ false = elim (cases_lt n b.event) [
              | inl lt ↦ lt-leb b.event n lt
              | inr ge ↦
                  let (m, ends) = shorter_end fb.later is.collided.later (fb.input ∷ fb.earlier) (is.collided.input ∷ is.collided.earlier) (sym fb.place ∙ is.collided.place) (omega (arith, fb.number, is.collided.number)) in
                  absurd (not_honest inputs b.event b.maker fb (honest_end m (fb.input ∷ fb.earlier) (is.collided.input ∷ is.collided.earlier) ends is.honest))
            ] in
            ap (λ (t : Bool). if t then Broken b.event Forged b.maker else Broken n Collided p) before

      abbrev line : Premise
      line = faulty_premise (passing k.cluster.f all) (first_premise forged collided)

      of_premise : (other : Premise) → IsPremise k proto opens all inputs other → line ≡ other
      of_premise _ (is_held few honest free) = λ j. faulty_premise (few j) (first_premise (honest_is.1 honest j) (free_is.1 free j))
      of_premise _ (is_faulty p passes) = ap (λ o. faulty_premise o (first_premise forged collided)) passes
      of_premise _ (is_forged n p few is) =
          (λ j. faulty_premise (few j) (first_premise ((forged_is (record { event = n; maker = p })).1 is.forged j) collided))
          ∙ after_forged n p is collided refl
      of_premise _ (is_collided n p few is) =
          (λ j. faulty_premise (few j) (first_premise forged ((collided_is (record { event = n; party = p })).1 is.collided j)))
          ∙ after_collided n p is forged refl

      pub premise_told : (other : Premise) → (line ≡ other) ↔ IsPremise k proto opens all inputs other
      premise_told other = (
        λ e. subst (IsPremise k proto opens all inputs) e (told_line (passing k.cluster.f all) forged collided refl refl refl),
        of_premise other,
      )
