-- The logs that replicas left, event by event.
use Rattle.std.proofs.Common.{◌≡◌, ℕ, zero, suc, ◌-◌, ◌<◌, Bool, true, false, Option, None, Some, List, [], ◌∷◌, ◌++◌, arith, refl, sym, ap, ◌∙◌, subst}
use Rattle.std.specs.Prelude.{◌==◌, ◌&&◌, if◌then◌else◌, slice_get, take}
use Rattle.std.specs.Option.{option_map}
use Rattle.std.proofs.lemmas.Bool.{eq-eqb}
use Rattle.std.proofs.lemmas.Grind.{fold-append}
use Rattle.ab_num.specs.declared.party.Party.{Party}
use Rattle.ab_num.specs.declared.party.Party.TheVariants.{Replica, Client}
use Rattle.ab_hist.specs.declared.request.Request.{Request}
use Rattle.ab_msg.specs.declared.message.Msg.{Msg}
use Rattle.ab_abs.specs.Ensembles.{Proto}
use Rattle.ab_abs.specs.Messages.{took}
use Rattle.ab_run.specs.Setups.{RunSetup}
use Rattle.ab_run.specs.Replicas.{Rep}
use Rattle.ab_run.specs.Local.{Cue, cue_command, cue_message, cue_time, rep_after}
use Rattle.ab_run.specs.Inputs.{Input, told, came, rang, elsewhere, Opener, Speller}
use Rattle.ab_run.specs.Stages.{Stage}
use Rattle.ab_run.proofs.Listed.{set_hit}
use Rattle.ab_run.proofs.Staged.{stage_back}
use Rattle.ab_replica.specs.Sites.{Site}
use Rattle.ab_cast.specs.declared.place.Place.{Place}
use Rattle.ab_cast.specs.declared.place.Place.TheVariants as place
use Rattle.ab_cast.specs.Setups.{Setup, party_at, run_setup}
use Rattle.ab_cast.specs.Cores.{Core, replica, core_after, site_after}
use Rattle.ab_cast.specs.Casts.{Cast, core_at, next, with_core}
use Rattle.ab_world.specs.declared.left.LeftLog.{LeftLog}
use Rattle.ab_world.specs.Left.{KeepsLeft, brings, last_left, left_at, left_by, left_in, left_own, log_at, may_leave, pick_left}
use Rattle.ab_world.proofs.StayLemmas.{stays_without}

-- ---- of a list

take_one : {A : Type 0} (xs : List A) (n : ℕ) (x : A) → slice_get xs n ≡ Some x → take (suc n) xs ≡ take n xs ++ x ∷ []
take_one [] n x there = absurd (cc (there))
take_one (y ∷ xs) zero x there = let e : y ≡ x = cc (there) in ap (λ z. z ∷ []) e
take_one (y ∷ xs) (suc n) x there = ap (λ l. y ∷ l) (take_one xs n x there)

-- one log more, at its end
pub last_more : (left : List LeftLog) (l : LeftLog) (i r : ℕ) → last_left (left ++ l ∷ []) i r ≡ pick_left i r (last_left left i r) l
last_more left l i r = fold-append (pick_left i r) None left (l ∷ [])

pub last_step : (left : List LeftLog) (n : ℕ) (l : LeftLog) (i r : ℕ) → 0 < n → slice_get left (n - 1) ≡ Some l → last_left (take n left) i r ≡ pick_left i r (last_left (take (n - 1) left) i r) l
last_step left zero l i r some there = absurd (omega (arith, some))
last_step left (suc n) l i r some there =
    let back : suc n - 1 ≡ n = omega arith in
    ap (λ xs. last_left xs i r) (take_one left n l (subst (λ m. slice_get left m ≡ Some l) back there))
    ∙ last_more (take n left) l i r
    ∙ ap (λ m. pick_left i r (last_left (take m left) i r) l) (sym back)

pub pick_hit : (i r : ℕ) (before : Option (List Request)) (l : LeftLog) → r ≡ l.replica → i ≡ l.instance → pick_left i r before l ≡ Some l.log
pick_hit i r before l own at =
    ap (λ (b : Bool). if b && (i == l.instance) then Some l.log else before) (eq-eqb r l.replica own) ∙ ap (λ (b : Bool). if b then Some l.log else before) (eq-eqb i l.instance at)

-- ---- of a cast

module _ {P : Type 0} (proto : Proto P) where
  -- where the replica stays nothing is left
  pub same_by : (r : ℕ) (s now : Rep P) (left : List LeftLog) → now.at ≡ s.at → left_by proto r s now left ≡ left
  same_by r s now left same = ap (λ (b : Bool). if b then left else left ++ log_at proto r s ∷ []) (eq-eqb s.at now.at (sym same))

  hears_own : (x : Cast P) (r : ℕ) (site : Site P) (m : Msg) (b : Bool) (now : Cast P) (old new : List LeftLog) → slice_get x.replicas r ≡ Some site → brings m ≡ b
      → now ≡ next (with_core x (place.Replica r) (core_after x.setup proto (Replica r) (replica site) (cue_message m)))
      → KeepsLeft now (if b then Some (log_at proto r site.rep) else None) old new → new ≡ left_own proto x.setup r (replica site) m old
  hears_own x r site m true now old new there e after keeps =
      let t = site_after (run_setup x.setup) proto r site (took m) in
      keeps t (ap (λ (c : Cast P). slice_get c.replicas r) after ∙ set_hit x.replicas r t site there)
  hears_own x r site m false now old new there e after keeps =
      keeps ∙ sym (same_by r site.rep (rep_after (run_setup x.setup) proto r site.rep (took m)) old (stays_without (run_setup x.setup) proto r site.rep m e))

  own_kept : (x : Cast P) (r : ℕ) (o : Option (Site P)) (s : Core P) (m : Msg) (now : Cast P) (old new : List LeftLog) → slice_get x.replicas r ≡ o → option_map replica o ≡ Some s
      → now ≡ next (with_core x (place.Replica r) (core_after x.setup proto (Replica r) s (cue_message m)))
      → KeepsLeft now (if brings m then option_map (λ t. log_at proto r t.rep) o else None) old new → new ≡ left_own proto x.setup r s m old
  own_kept x r None s m now old new there is after keeps = absurd (cc (is))
  own_kept x r (Some site) s m now old new there is after keeps =
      let same : replica site ≡ s = cc (is) in
      subst (λ (t : Core P). now ≡ next (with_core x (place.Replica r) (core_after x.setup proto (Replica r) t (cue_message m))) → new ≡ left_own proto x.setup r t m old) same
      (λ later. hears_own x r site m (brings m) now old new there refl later keeps) after

  -- what the code keeps is the log that is left
  pub left_kept : (x : Cast P) (at : Place) (s : Core P) (m : Msg) (before : Option LeftLog) (now : Cast P) (old new : List LeftLog) → core_at x at ≡ Some s → before ≡ may_leave proto x at m
      → now ≡ next (with_core x at (core_after x.setup proto (party_at at) s (cue_message m))) → KeepsLeft now before old new → new ≡ left_at proto x.setup at s m old
  left_kept x (place.Replica r) s m before now old new there is after keeps =
      own_kept x r (slice_get x.replicas r) s m now old new refl there after (subst (λ (b : Option LeftLog). KeepsLeft now b old new) is keeps)
  left_kept x (place.Client c) s m before now old new there is after keeps = subst (λ (b : Option LeftLog). KeepsLeft now b old new) is keeps
  left_kept x (place.ReplicaTwin r i) s m before now old new there is after keeps = subst (λ (b : Option LeftLog). KeepsLeft now b old new) is keeps
  left_kept x (place.ClientTwin c i) s m before now old new there is after keeps = subst (λ (b : Option LeftLog). KeepsLeft now b old new) is keeps

  pub twin_rests : (x : Setup) (c i : ℕ) (s : Core P) (cue : Cue) (left : List LeftLog) → left_in proto x (place.ClientTwin c i) s cue left ≡ left
  twin_rests x c i s (cue_command bytes) left = refl
  twin_rests x c i s (cue_message m) left = refl
  twin_rests x c i s cue_time left = refl

-- ---- of a stage

module _ {P : Type 0} (k : RunSetup) (proto : Proto P) where
  -- with the log that replica r, which is where s says, leaves by a message
  abbrev pub left_taking : ℕ → Msg → Option (Rep P) → List LeftLog → List LeftLog
  left_taking r m None left = left
  left_taking r m (Some s) left = left_by proto r s (rep_after k proto r s (took m)) left

  abbrev pub left_handed : Stage P → Party → Msg → List LeftLog → List LeftLog
  left_handed x (Replica r) m left = left_taking r m (slice_get x.replicas r) left
  left_handed x (Client c) m left = left

  abbrev pub left_opened : Stage P → Party → Option Msg → List LeftLog → List LeftLog
  left_opened x p None left = left
  left_opened x p (Some m) left = left_handed x p m left

  -- with the log that a replica leaves by what came
  abbrev pub left_after : Opener → Stage P → Input → List LeftLog → List LeftLog
  left_after opens x (told c command) left = left
  left_after opens x (came p bytes) left = left_opened x p (opens p bytes) left
  left_after opens x (rang p) left = left
  left_after opens x elsewhere left = left

  -- the logs that replicas left after all that came, the newest first
  abbrev pub left_back : Speller → Opener → List Input → List LeftLog
  left_back spell opens [] = []
  left_back spell opens (g ∷ inputs) = left_after opens (stage_back k proto spell opens inputs) g (left_back spell opens inputs)
