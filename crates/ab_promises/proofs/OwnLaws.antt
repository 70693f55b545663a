-- Own calls keep acts sound.
use Rattle.std.proofs.Common.{◌≡◌, ℕ, ◌≤◌, Bool, false, Option, Some, List, [], ◌∷◌, refl, sym, ap, ◌∙◌, subst, inl, inr, length}
use Rattle.std.specs.Prelude.{Contains, IsTrue}
use Rattle.std.proofs.lemmas.Bool.{cases_eq}
use Rattle.std.proofs.lemmas.Option.{none-some, same_Some}
use Rattle.std.proofs.lemmas.List.Elements.{Contains-append_right}
use Rattle.ab_num.specs.declared.plan.Kind.{Kind}
use Rattle.ab_num.specs.declared.party.Party.TheVariants.{Replica}
use Rattle.ab_num.proofs.Lists.{Contains-one, Contains-none}
use Rattle.ab_hist.specs.declared.request.Request.{Request}
use Rattle.ab_msg.specs.Pens.{Pen}
use Rattle.ab_abs.specs.declared.seen.Seen.{Seen}
use Rattle.ab_abs.specs.declared.entry.Entry.{Entry}
use Rattle.ab_abs.specs.Faults.{is_faulty}
use Rattle.ab_abs.specs.Acts.{Act, Setting, MayStart, Premises, abort_content, histories, histories_of_act, bases, bases_of_act, requests, requests_of_act}
use Rattle.ab_abs.specs.Kinds.{kind_in, rule_in}
use Rattle.ab_abs.proofs.Following.{abort_outer}
use Rattle.ab_abs.specs.Messages.{Call}
use Rattle.ab_abs.specs.Rules.{IsOther, IsStill, is_inner, by_client, takes as takes_cert, aborts}
use Rattle.ab_abs.specs.Ensembles.{Proto, MayTake, begin_of, asked_of, halt_of, put}
use Rattle.ab_abs.proofs.Reach.{put_same, put_other}
use Rattle.ab_promises.specs.OwnCalls.{AreOwnCalls, none_yet, begins, takes, stops, trims, others}

-- the premises hold of the earlier acts
pub premises_before : (x : Setting) (a : Act) (acts : List Act) → Premises x (a ∷ acts) → Premises x acts
premises_before x a acts p =
    let more : (h : List Request) → Contains (histories acts) h → Contains (histories (a ∷ acts)) h = λ h has. Contains-append_right (histories_of_act a) (histories acts) h has in
    let base : (h : List Request) → Contains (bases acts) h → Contains (bases (a ∷ acts)) h = λ h has. Contains-append_right (bases_of_act a) (bases acts) h has in
    let asked : (m : Request) → Contains (requests acts) m → Contains (requests (a ∷ acts)) m = λ m has. Contains-append_right (requests_of_act a) (requests acts) m has in
    record {
      few = p.few;
      honest = p.honest.1;
      apart = λ h k b d in_h in_k. p.apart h k b d (more h in_h) (more k in_k);
      slots = record {
        requests = λ m n in_m in_n. p.slots.requests m n (asked m in_m) (asked n in_n);
        lengths = λ h k in_h in_k. p.slots.lengths h k (base h in_h) (base k in_k);
        digests = λ h k in_h in_k. p.slots.digests h k (base h in_h) (base k in_k);
      };
    }

-- an act that is no call leaves each value standing
other_still : (x : Setting) (acts : List Act) (a : Act) → IsOther x acts a → (r : ℕ) → IsStill r a
other_still x acts a (by_client c own is) r = inl (λ e. cc (own, e))
other_still x acts a (takes_cert q claims k lt is valid) r = inr (ap (λ b. b.state) is, λ s has. absurd (Contains-none s (subst (λ (b : Act). Contains b.made s) is has)))
other_still x acts a (aborts q s lt was stopped is) r =
    inr (ap (λ b. b.state) is, λ t has. ap is_inner (sym (Contains-one (abort_content (rule_in x) x.i q s) t (subst (λ (b : Act). Contains b.made t) is has))) ∙ abort_outer (rule_in x) x.i q s)

module _ {P : Type 0} (proto : Proto P) (sound : Setting → List Act → Type 0) (stands : Setting → P → ℕ → List Act → Type 0) (serves : Kind → Bool)
    (stay : (x : Setting) (acts : List Act) (a : Act) (me : ℕ) (p : P) → IsStill me a → stands x p me acts → stands x p me (a ∷ acts))
    (nil : (x : Setting) → IsTrue (serves (kind_in x)) → 1 ≤ x.i → Premises x [] → sound x [])
    (start : (x : Setting) (acts : List Act) (me : ℕ) (e : Entry) → IsTrue (serves (kind_in x)) → e.trimmed ≤ length e.base → MayStart x acts me e.base → sound x acts → stands x (proto.begin x.cluster x.i me e) me (begin_of proto x me e ∷ acts) × (Premises x (begin_of proto x me e ∷ acts) → sound x (begin_of proto x me e ∷ acts)))
    (answer : (x : Setting) (acts : List Act) (me : ℕ) (pen : Pen) (p : P) (m : Call) (seen : List Seen) → IsTrue (serves (kind_in x)) → MayTake proto x acts me pen p m seen → stands x p me acts → stands x (proto.after pen p m) me (asked_of proto x me pen p m seen ∷ acts) × (sound x acts → Premises x (asked_of proto x me pen p m seen ∷ acts) → sound x (asked_of proto x me pen p m seen ∷ acts)))
    (halt : (x : Setting) (acts : List Act) (me : ℕ) (p : P) → IsTrue (serves (kind_in x)) → stands x p me acts → stands x (proto.halt p) me (halt_of proto me p ∷ acts) × (sound x acts → Premises x (halt_of proto me p ∷ acts) → sound x (halt_of proto me p ∷ acts)))
    (trim : (x : Setting) (acts : List Act) (me n : ℕ) (p : P) → proto.trimmed p ≤ n → n ≤ length (proto.state p).log → stands x p me acts → stands x (proto.trim n p) me acts)
    (more : (x : Setting) (acts : List Act) (a : Act) → IsTrue (serves (kind_in x)) → is_faulty x.faulty a.party ≡ false → IsOther x acts a → sound x acts → Premises x (a ∷ acts) → sound x (a ∷ acts))
    (x : Setting) (served : IsTrue (serves (kind_in x))) (one : 1 ≤ x.i) where
  -- the acts are sound, and each value stands where they left it
  pub record AreSound (acts : List Act) (left : ℕ → Option P) : Type 0 where
    pub sounds : sound x acts
    pub stand : (r : ℕ) (p : P) → left r ≡ Some p → stands x p r acts

  -- replica me goes on to p
  goes_on : (acts : List Act) (left : ℕ → Option P) (a : Act) (me : ℕ) (p : P) → a.party ≡ Replica me → AreSound acts left → stands x p me (a ∷ acts)
      → (r : ℕ) (q : P) → put left me (Some p) r ≡ Some q → stands x q r (a ∷ acts)
  goes_on acts left a me p own was now r q is =
      elim (cases_eq r me) [
        | inl e ↦
            let same : p ≡ q = same_Some p q (sym (put_same left me (Some p)) ∙ (ap (put left me (Some p)) (sym e) ∙ is)) in
            subst (λ (k : ℕ). stands x q k (a ∷ acts)) (sym e) (subst (λ (v : P). stands x v me (a ∷ acts)) same now)
        | inr ne ↦ stay x acts a r q (inl (λ other'. ne (cc (own, other')))) (was.stand r q (sym (put_other left me r (Some p) ne) ∙ is))
      ]

  pub own_sound : (acts : List Act) (left : ℕ → Option P) → AreOwnCalls proto x acts left → Premises x acts → AreSound acts left
  own_sound _ _ none_yet premises = record { sounds = nil x served one premises; stand = λ r p is. absurd (none-some p is) }
  own_sound _ _ (begins {acts} {left} me e fits before may) premises =
      let was = own_sound acts left before (premises_before x (begin_of proto x me e) acts premises) in
      let law = start x acts me e served fits may was.sounds in
      record { sounds = law.1 premises; stand = goes_on acts left (begin_of proto x me e) me (proto.begin x.cluster x.i me e) refl was law.0 }
  own_sound _ _ (takes {acts} {left} me p pen call seen before at may) premises =
      let was = own_sound acts left before (premises_before x (asked_of proto x me pen p call seen) acts premises) in
      let law = answer x acts me pen p call seen served may (was.stand me p at) in
      record { sounds = law.1 was.sounds premises; stand = goes_on acts left (asked_of proto x me pen p call seen) me (proto.after pen p call) refl was law.0 }
  own_sound _ _ (stops {acts} {left} me p before at) premises =
      let was = own_sound acts left before (premises_before x (halt_of proto me p) acts premises) in
      let law = halt x acts me p served (was.stand me p at) in
      record { sounds = law.1 was.sounds premises; stand = goes_on acts left (halt_of proto me p) me (proto.halt p) refl was law.0 }
  own_sound _ _ (trims {acts} {left} me n p before at low high) premises =
      let was = own_sound acts left before premises in
      let now = trim x acts me n p low high (was.stand me p at) in
      record {
        sounds = was.sounds;
        stand = λ r q is.
            elim (cases_eq r me) [
              | inl e ↦
                  let same : proto.trim n p ≡ q = same_Some (proto.trim n p) q (sym (put_same left me (Some (proto.trim n p))) ∙ (ap (put left me (Some (proto.trim n p))) (sym e) ∙ is)) in
                  subst (λ (k : ℕ). stands x q k acts) (sym e) (subst (λ (v : P). stands x v me acts) same now)
              | inr ne ↦ was.stand r q (sym (put_other left me r (Some (proto.trim n p)) ne) ∙ is)
            ];
      }
  own_sound _ _ (others {acts} {left} a before correct is) premises =
      let was = own_sound acts left before (premises_before x a acts premises) in
      record { sounds = more x acts a served correct is was.sounds premises; stand = λ r p at. stay x acts a r p (other_still x acts a is r) (was.stand r p at) }
