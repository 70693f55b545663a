-- What a VIEW-CHANGE that fits tells a replica that checked it.
use Rattle.std.proofs.Common.{◌≡◌, ℕ, zero, suc, ◌+◌, ◌*◌, ◌<◌, Bool, true, false, not, Some, List, [], ◌∷◌, ◌++◌, length, slice_get, map, refl, sym, ap, ◌∙◌, subst, inl, inr, arith}
use Rattle.std.specs.Prelude.{Contains, ◌&&◌, nat_eq, nat_lt, flat_map}
use Rattle.std.specs.List.{IsDistinct, AllByRecursion, list_any, list_all}
use Rattle.std.specs.Str.{bytes_eq}
use Rattle.std.proofs.lemmas.Option.{none-some, same_Some}
use Rattle.std.proofs.lemmas.Slice.Eq.{bytes_eq-Decides}
use Rattle.std.proofs.lemmas.List.Elements.{Contains-append_left, Contains-append_right, Contains-append_cases}
use Rattle.ab_num.specs.declared.party.Party.TheVariants.{Replica}
use Rattle.ab_msg.specs.declared.content.Content.TheVariants as content
use Rattle.ab_msg.specs.declared.value.Value.{Value}
use Rattle.ab_msg.specs.Slots.{slot_digest}
use Rattle.ab_lock.specs.Quorums.{quorum, IsOlder}
use Rattle.ab_lock.specs.Steps.{SlotEntry, Change, Cert}
use Rattle.ab_lock.specs.Steps as steps
use Rattle.ab_lock.specs.Acts as lock
use Rattle.ab_lock.specs.Acts.{Prepare, Commit, ViewChange, Knows, KnowsQuorum, KnowsChanges}
use Rattle.ab_lock.proofs.Lists.{nth_map, Contains-nth}
use Rattle.std.proofs.lemmas.List.{length-map}
use Rattle.std.proofs.lemmas.Bool.{or_parts, eqb-true, and_parts, not-true, ltb-true}
use Rattle.ab_num.proofs.Lists.{Contains-head, Contains-tail, Contains-cons_cases, Contains-flat_map, flat_map_cases, Contains-none, Contains-map_cases, Contains-map}
use Rattle.ab_order.specs.Inputs.{Reading, prepare, commit, view_change, new_view, ProvedSlot, ChangeReading, slot_claims, slots_claims, change_claims, input_claims, IsChange}
use Rattle.ab_pbft_rules.specs.Traces.{OrderAct, pair_of, content_of}
use Rattle.ab_pbft_rules.specs.Rules.{cert_of, entry_of, change_of, all_apart, slot_fits, fits, may_enter}

-- the votes that stand in a VIEW-CHANGE, and in what a replica is handed
abbrev pub slot_said : ℕ → ProvedSlot → List (lock.LockContent (List ℕ))
slot_said t s = map (λ q. Prepare q s.at t s.x) s.by

abbrev pub slots_said : ℕ → List ProvedSlot → List (lock.LockContent (List ℕ))
slots_said t [] = []
slots_said t (s ∷ slots) = slot_said t s ++ slots_said (suc t) slots

abbrev pub change_said : ChangeReading → List (lock.LockContent (List ℕ))
change_said change = ViewChange change.by change.view (map entry_of change.slots) ∷ slots_said 0 change.slots

abbrev pub input_said : Reading → List (lock.LockContent (List ℕ))
input_said (prepare by view slot x) = Prepare by view slot x ∷ []
input_said (commit by view slot x) = Commit by view slot x ∷ []
input_said (view_change change) = change_said change
input_said (new_view by view changes) = flat_map change_said changes
input_said _ = []

pairs_of : (slots : List ProvedSlot) → map pair_of (map entry_of slots) ≡ map (λ s. (s.at, s.x)) slots
pairs_of [] = refl
pairs_of (s ∷ slots) = ap (λ l. (s.at, s.x) ∷ l) (pairs_of slots)

slots_in : (i t : ℕ) (slots : List ProvedSlot) (c : lock.LockContent (List ℕ)) → Contains (slots_said t slots) c → Contains (slots_claims i t slots) (content_of i c)
slots_in i t [] c has = absurd (Contains-none c has)
slots_in i t (s ∷ slots) c has =
    elim (Contains-append_cases (slot_said t s) (slots_said (suc t) slots) c has) [
      | inl here ↦
          let q = Contains-map_cases (λ q. Prepare q s.at t s.x) s.by c here in
          Contains-append_left (slot_claims i t s) (slots_claims i (suc t) slots) (content_of i c)
          (subst (λ (d : lock.LockContent (List ℕ)). Contains (slot_claims i t s) (content_of i d)) q.2 (Contains-map (λ q. content.Prepare (Replica q) i s.at t s.x) s.by q.0 q.1))
      | inr more ↦ Contains-append_right (slot_claims i t s) (slots_claims i (suc t) slots) (content_of i c) (slots_in i (suc t) slots c more)
    ]

change_in : (i : ℕ) (change : ChangeReading) (c : lock.LockContent (List ℕ)) → Contains (change_said change) c → Contains (change_claims i change) (content_of i c)
change_in i change c has =
    elim (Contains-cons_cases (ViewChange change.by change.view (map entry_of change.slots)) (slots_said 0 change.slots) c has) [
      | inl e ↦
          subst (λ (d : lock.LockContent (List ℕ)). Contains (change_claims i change) (content_of i d)) e
          (subst (λ (l : List (ℕ × List ℕ)). Contains (change_claims i change) (content.ViewChange (Replica change.by) i change.view l)) (sym (pairs_of change.slots)) (Contains-head _ (slots_claims i 0 change.slots)))
      | inr more ↦ Contains-tail _ (content_of i c) (slots_claims i 0 change.slots) (slots_in i 0 change.slots c more)
    ]

-- each such vote is claimed
pub input_in : (i : ℕ) (e : Reading) (c : lock.LockContent (List ℕ)) → Contains (input_said e) c → Contains (input_claims i e) (content_of i c)
input_in i (prepare by view slot x) c has =
    elim (Contains-cons_cases (Prepare by view slot x) [] c has) [
      | inl e ↦ subst (λ (d : lock.LockContent (List ℕ)). Contains (input_claims i (prepare by view slot x)) (content_of i d)) e (Contains-head _ [])
      | inr none ↦ absurd (Contains-none c none)
    ]
input_in i (commit by view slot x) c has =
    elim (Contains-cons_cases (Commit by view slot x) [] c has) [
      | inl e ↦ subst (λ (d : lock.LockContent (List ℕ)). Contains (input_claims i (commit by view slot x)) (content_of i d)) e (Contains-head _ [])
      | inr none ↦ absurd (Contains-none c none)
    ]
input_in i (view_change change) c has = change_in i change c has
input_in i (new_view by view changes) c has =
    let w = flat_map_cases change_said changes c has in
    Contains-tail _ (content_of i c) (flat_map (change_claims i) changes) (Contains-flat_map (change_claims i) changes w.0 (content_of i c) w.1 (change_in i w.0 c w.2))
input_in i _ c has = absurd (Contains-none c has)

none_any : (r : ℕ) (rs : List ℕ) → list_any (nat_eq r) rs ≡ false → AllByRecursion (λ y. nat_eq r y ≡ false) rs
none_any r [] is = tt
none_any r (y ∷ rs) is = let w = or_parts (nat_eq r y) (list_any (nat_eq r) rs) is in (w.0, none_any r rs w.1)

pub apart_distinct : (rs : List ℕ) → all_apart rs ≡ true → IsDistinct nat_eq rs
unfolding IsDistinct
apart_distinct [] is = tt
apart_distinct (r ∷ rs) is =
    let w = and_parts (not (list_any (nat_eq r) rs)) (all_apart rs) is in (none_any r rs (not-true (list_any (nat_eq r) rs) w.0), apart_distinct rs w.1)

pub all_at : {A : Type 0} (p : A → Bool) (xs : List A) (x : A) → list_all p xs ≡ true → Contains xs x → p x ≡ true
all_at p [] x is has = absurd (Contains-none x has)
all_at p (y ∷ xs) x is has =
    let w = and_parts (p y) (list_all p xs) is in
    elim (Contains-cons_cases y xs x has) [ inl e ↦ subst (λ z. p z ≡ true) e w.0 | inr more ↦ all_at p xs x w.1 more ]

record SlotFits (f view : ℕ) (s : ProvedSlot) : Type 0 where
  below : s.at < view
  enough : length s.by ≡ quorum f
  distinct : IsDistinct nat_eq s.by
  digest : s.x ≡ slot_digest s.value

slot_facts : (f view : ℕ) (s : ProvedSlot) → slot_fits f view s ≡ true → SlotFits f view s
slot_facts f view s is =
    let a = and_parts (nat_lt s.at view) (nat_eq (length s.by) (quorum f) && (all_apart s.by && bytes_eq s.x (slot_digest s.value))) is in
    let b = and_parts (nat_eq (length s.by) (quorum f)) (all_apart s.by && bytes_eq s.x (slot_digest s.value)) a.1 in
    let c = and_parts (all_apart s.by) (bytes_eq s.x (slot_digest s.value)) b.1 in
    record { below = ltb-true s.at view a.0; enough = eqb-true (length s.by) (quorum f) b.0; distinct = apart_distinct s.by c.0; digest = (bytes_eq-Decides s.x (slot_digest s.value)).0 c.1 }

entries_same : (f view : ℕ) (slots : List ProvedSlot) → list_all (slot_fits f view) slots ≡ true → map entry_of slots ≡ map (steps.entry_of slot_digest) (map cert_of slots)
entries_same f view [] is = refl
entries_same f view (s ∷ slots) is =
    let w = and_parts (slot_fits f view s) (list_all (slot_fits f view) slots) is in
    let d = (slot_facts f view s w.0).digest in
    ap (λ (x : List ℕ). record { at = s.at; x = x } ∷ map entry_of slots) d ∙ ap (λ l. steps.entry_of slot_digest (cert_of s) ∷ l) (entries_same f view slots w.1)

slot_there : (t j : ℕ) (slots : List ProvedSlot) (s : ProvedSlot) (q : ℕ) → slice_get slots j ≡ Some s → Contains s.by q → Contains (slots_said t slots) (Prepare q s.at (t + j) s.x)
slot_there t j [] s q is has = absurd (none-some s is)
slot_there t zero (o ∷ slots) s q is has =
    let e : o ≡ s = same_Some o s is in
    let place : t + 0 ≡ t = omega arith in
    subst (λ (z : ℕ). Contains (slots_said t (o ∷ slots)) (Prepare q s.at z s.x)) (sym place)
    (subst (λ (z : ProvedSlot). Contains (slots_said t (o ∷ slots)) (Prepare q z.at t z.x)) e
    (Contains-append_left (slot_said t o) (slots_said (suc t) slots) _ (Contains-map (λ q. Prepare q o.at t o.x) o.by q (subst (λ (z : ProvedSlot). Contains z.by q) (sym e) has))))
slot_there t (suc j) (o ∷ slots) s q is has =
    let place : suc t + j ≡ t + suc j = omega arith in
    Contains-append_right (slot_said t o) (slots_said (suc t) slots) _
    (subst (λ (z : ℕ). Contains (slots_said (suc t) slots) (Prepare q s.at z s.x)) place (slot_there (suc t) j slots s q is has))

module _ (f : ℕ) (trace : List OrderAct) (r : ℕ) (change : ChangeReading) (is_change : IsChange f change) (fit : fits f change ≡ true) (known : (c : lock.LockContent (List ℕ)) → Contains (change_said change) c → Knows slot_digest trace r c) where
  -- the VIEW-CHANGE itself
  pub change_known : Knows slot_digest trace r (ViewChange change.by change.view (map (steps.entry_of slot_digest) (change_of change).certs))
  change_known =
      subst (λ (l : List (SlotEntry (List ℕ))). Knows slot_digest trace r (ViewChange change.by change.view l)) (entries_same f change.view change.slots fit)
      (known (ViewChange change.by change.view (map entry_of change.slots)) (Contains-head _ (slots_said 0 change.slots)))

  -- and the PREPAREs of each of its slots
  pub change_fits : (t : ℕ) (cert : Cert Value) → slice_get (change_of change).certs t ≡ Some cert → IsOlder cert.at change.view × KnowsQuorum slot_digest f trace r (λ q. Prepare q cert.at t (slot_digest cert.value))
  change_fits t cert there =
      let w = nth_map cert_of change.slots t cert there in
      let s = w.0 in
      let has = Contains-nth change.slots t w.0 w.1 in
      let facts = slot_facts f change.view w.0 (all_at (slot_fits f change.view) change.slots w.0 fit has) in
      let zero_less : 0 + t ≡ t = omega arith in
      subst (λ (z : Cert Value). IsOlder z.at change.view × KnowsQuorum slot_digest f trace r (λ q. Prepare q z.at t (slot_digest z.value))) w.2 (
        facts.below,
        record {
          by = w.0.by;
          replicas = record { distinct = facts.distinct; within = λ q q_in. is_change.signers w.0 has q q_in };
          enough = facts.enough;
          each = λ q q_in.
              subst (λ (d : List ℕ). Knows slot_digest trace r (Prepare q w.0.at t d)) facts.digest
              (subst (λ (z : ℕ). Knows slot_digest trace r (Prepare q w.0.at z w.0.x)) zero_less
              (known (Prepare q w.0.at (0 + t) w.0.x) (Contains-tail _ _ (slots_said 0 change.slots) (slot_there 0 t change.slots w.0 q w.1 q_in))));
        },
      )

makers_of : (changes : List ChangeReading) → map (λ c. c.by) (map change_of changes) ≡ map (λ change. change.by) changes
makers_of [] = refl
makers_of (change ∷ changes) = ap (λ l. change.by ∷ l) (makers_of changes)

-- the VIEW-CHANGEs of a NEW-VIEW
pub new_view_known : (f : ℕ) (trace : List OrderAct) (r v : ℕ) (changes : List ChangeReading) → ((change : ChangeReading) → Contains changes change → IsChange f change) → may_enter f v changes ≡ true
    → ((c : lock.LockContent (List ℕ)) → Contains (flat_map change_said changes) c → Knows slot_digest trace r c) → KnowsChanges slot_digest f trace r v (map change_of changes)
new_view_known f trace r v changes are may known =
    let a = and_parts (nat_eq (length changes) (quorum f)) (all_apart (map (λ change. change.by) changes) && list_all (λ change. nat_eq change.view v && fits f change) changes) may in
    let b = and_parts (all_apart (map (λ change. change.by) changes)) (list_all (λ change. nat_eq change.view v && fits f change) changes) a.1 in
    let tested = λ (change : ChangeReading) (has : Contains changes change). and_parts (nat_eq change.view v) (fits f change) (all_at (λ z. nat_eq z.view v && fits f z) changes change b.1 has) in
    let knows = λ (change : ChangeReading) (has : Contains changes change) (c : lock.LockContent (List ℕ)) (in_change : Contains (change_said change) c). known c (Contains-flat_map change_said changes change c has in_change) in
    record {
      replicas = record {
        distinct = subst (λ (l : List ℕ). IsDistinct nat_eq l) (sym (makers_of changes)) (apart_distinct (map (λ change. change.by) changes) b.0);
        within = λ q has.
            let w = Contains-map_cases (λ (change : ChangeReading). change.by) changes q (subst (λ (l : List ℕ). Contains l q) (makers_of changes) has) in
            subst (λ (z : ℕ). z < 3 * f + 1) w.2 (are w.0 w.1).maker;
      };
      enough = length-map changes change_of ∙ eqb-true (length changes) (quorum f) a.0;
      signed = λ c has.
          let w = Contains-map_cases change_of changes c has in
          let t = tested w.0 w.1 in
          subst (λ (z : Change Value). Knows slot_digest trace r (ViewChange z.by v (map (steps.entry_of slot_digest) z.certs))) w.2
          (subst (λ (u : ℕ). Knows slot_digest trace r (ViewChange w.0.by u (map (steps.entry_of slot_digest) (change_of w.0).certs))) (eqb-true w.0.view v t.0)
          (change_known f trace r w.0 (are w.0 w.1) t.1 (knows w.0 w.1)));
      fits = λ c has s cert there.
          let w = Contains-map_cases change_of changes c has in
          let t = tested w.0 w.1 in
          let z = change_fits f trace r w.0 (are w.0 w.1) t.1 (knows w.0 w.1) s cert (subst (λ (y : Change Value). slice_get y.certs s ≡ Some cert) (sym w.2) there) in
          (omega (arith, z.0, eqb-true w.0.view v t.0), z.1);
    }
