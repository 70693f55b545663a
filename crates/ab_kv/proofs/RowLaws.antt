-- The rows of the store's table.
use Rattle.std.proofs.Common.{◌≡◌, ◌≢◌, ℕ, ◌+◌, ◌-◌, ◌<◌, ◌≤◌, List, [], ◌∷◌, ◌++◌, Bool, true, false, not, ◌&&◌, if◌then◌else◌, cond, is_some, nat_le, Option, Some, None, ap, sym, ◌∙◌, refl, codes, arith, ◌⊎◌, inl, inr}
use Rattle.std.specs.List.{fold}
use Rattle.std.specs.Ordering.{nat_cmp, eq_by_cmp, is_eq}
use Rattle.std.specs.Cmp.{tied_itself}
use Rattle.std.specs.Cmp.Lexicographic.{slice_cmp, nat_list_cmp_total}
use Rattle.std.specs.FinMap.{get, len, insert, remove, get-empty, get-insert, get-remove, len-empty, len-insert, len-remove, same_map, nat_cmp-IsAntisymmetric, slice_cmp-IsAntisymmetric, IsAntisymmetric}
use Rattle.std.specs.Option.{option_map_or}
use Rattle.std.specs.Str.{bytes_eq}
use Rattle.std.specs.declared.cmp.Ordering.{Ordering}
use Rattle.std.specs.declared.cmp.Ordering.TheVariants.{Less, Equal, Greater}
use Rattle.std.proofs.lemmas.Bool.{false_from_ne_true, cases_Bool}
use Rattle.std.proofs.lemmas.Bool.Decides.{nat_tests}
use Rattle.std.proofs.lemmas.Slice.Eq.{bytes_eq-Decides}
use Rattle.std.proofs.Math.Bool.{and-false}
use Rattle.ab_hist.specs.declared.request.Request.{Request}
use Rattle.ab_svc.specs.Machines.{serve}
use Rattle.ab_kv.specs.Commands.{Command, Put, Get, Del, Cas, Spells}
use Rattle.ab_kv.specs.Readings.{command_in}
use Rattle.ab_kv.specs.Stores.{Store, ChangesOnly, is_full, after_command, answer_to, after_reading, answer_to_reading}
use Rattle.ab_kv.specs.KvMachines.{kv_machine}
use Rattle.ab_kv.specs.Rows.{Reads, Writes}
use Rattle.ab_kv.proofs.ReadingLaws.{spelled_is_read, nothing_is_read}

bytes_exact : IsAntisymmetric (slice_cmp nat_cmp)
bytes_exact = slice_cmp-IsAntisymmetric nat_cmp-IsAntisymmetric

abbrev same_key : List ℕ → List ℕ → Bool
same_key = eq_by_cmp (slice_cmp nat_cmp)

tied : (o : Ordering) → is_eq o ≡ true → o ≡ Equal
tied Less e = cc
tied Equal e = refl
tied Greater e = cc

itself : (k : List ℕ) → same_key k k ≡ true
itself k = ap is_eq (tied_itself nat_list_cmp_total k)

apart : (q k : List ℕ) → q ≢ k → same_key q k ≡ false
apart q k ne = false_from_ne_true (same_key q k) (λ t. ne (bytes_exact q k (tied (slice_cmp nat_cmp q k) t)))

changes_by : (old new : Store) (k : List ℕ) (w : Option (List ℕ)) → ((q : List ℕ) → get new q ≡ cond (same_key q k) w (get old q)) → ChangesOnly old new k w
changes_by old new k w each = record {
  here = each k ∙ ap (λ b. cond b w (get old k)) (itself k);
  others = λ q ne. each q ∙ ap (λ b. cond b w (get old q)) (apart q k ne);
}

inserts : (s : Store) (k v : List ℕ) → ChangesOnly s (insert s k v) k (Some v)
inserts s k v = changes_by s (insert s k v) k (Some v) (get-insert nat_list_cmp_total s k v)

removes : (s : Store) (k : List ℕ) → ChangesOnly s (remove s k) k None
removes s k = changes_by s (remove s k) k None (get-remove nat_list_cmp_total s k)

nothing_to_remove : (s : Store) (k : List ℕ) → get s k ≡ None → remove s k ≡ s
nothing_to_remove s k none = same_map nat_list_cmp_total bytes_exact (remove s k) s (λ q. get-remove nat_list_cmp_total s k q ∙ unchanged q (cases_Bool (same_key q k)))
  where
    unchanged : (q : List ℕ) → (same_key q k ≡ true) ⊎ (same_key q k ≡ false) → cond (same_key q k) None (get s q) ≡ get s q
    unchanged q (inl t) = ap (λ b. cond b None (get s q)) t ∙ sym none ∙ ap (get s) (sym (bytes_exact q k (tied (slice_cmp nat_cmp q k) t)))
    unchanged q (inr f) = ap (λ b. cond b None (get s q)) f

module _ (s : Store) (m : Request) (c : Command) (is : Spells m.command.items c) where
  -- what the machine does with the bytes of a command is what the command does
  after_is : kv_machine.after s m ≡ after_command s c
  after_is = ap (after_reading s) (spelled_is_read m.command.items c is)

  answer_is : (kv_machine.answer s m).items ≡ answer_to s c
  answer_is = ap (answer_to_reading s) (spelled_is_read m.command.items c is)

  reads : (reply : List ℕ) → answer_to s c ≡ reply → after_command s c ≡ s → Reads s m reply
  reads reply says stays = record { answer = answer_is ∙ says; after = after_is ∙ stays }

  writes : (reply k : List ℕ) (w : Option (List ℕ)) (n : ℕ) (t : Store) → answer_to s c ≡ reply → after_command s c ≡ t → ChangesOnly s t k w → len t ≡ n → Writes s m reply k w n
  writes reply k w n t says leads changes count = record {
    answer = answer_is ∙ says;
    after = let there = after_is ∙ leads in record {
      here = ap (λ u. get u k) there ∙ changes.here;
      others = λ q ne. ap (λ u. get u q) there ∙ changes.others q ne;
    };
    count = ap len (after_is ∙ leads) ∙ count;
  }

below_limit : (n : ℕ) → (nat_le 65536 n && true) ≡ false → n < 65536
below_limit n short = grind (arith, nat_tests)

has_room : (s : Store) (k : List ℕ) → len s < 65536 → is_full s k ≡ false
has_room s k short = let small : nat_le 65536 (len s) ≡ false = grind (arith, nat_tests) in ap (λ b. b && not (is_some (get s k))) small

is_there : (s : Store) (k w : List ℕ) → get s k ≡ Some w → is_full s k ≡ false
is_there s k w at = ap (λ o. nat_le 65536 (len s) && not (is_some o)) at ∙ and-false (nat_le 65536 (len s))

no_room : (s : Store) (k : List ℕ) → get s k ≡ None → 65536 ≤ len s → is_full s k ≡ true
no_room s k none full =
    let big : nat_le 65536 (len s) ≡ true = grind (arith, nat_tests) in
    (λ j. big j && not (is_some (none j)))

count_insert : (s : Store) (k v : List ℕ) (o : Option (List ℕ)) → get s k ≡ o → len (insert s k v) ≡ cond (is_some o) (len s) (len s + 1)
count_insert s k v o at = len-insert nat_list_cmp_total s k v ∙ ap (λ p. cond (is_some p) (len s) (len s + 1)) at

count_remove : (s : Store) (k v : List ℕ) → get s k ≡ Some v → len (remove s k) ≡ len s - 1
count_remove s k v at = len-remove nat_list_cmp_total s k ∙ ap (λ p. cond (is_some p) (len s - 1) (len s)) at

module _ (s : Store) (m : Request) (k v : List ℕ) (is : Spells m.command.items (Put k v)) where
  put_ok : (n : ℕ) → is_full s k ≡ false → len (insert s k v) ≡ n → Writes s m (codes "ok") k (Some v) n
  put_ok n room count =
      writes s m (Put k v) is (codes "ok") k (Some v) n (insert s k v)
      (ap (λ b. if b then codes "full" else codes "ok") room)
      (ap (λ b. if b then s else insert s k v) room)
      (inserts s k v) count

  pub put_held : (w : List ℕ) → get s k ≡ Some w → Writes s m (codes "ok") k (Some v) (len s)
  put_held w at = put_ok (len s) (is_there s k w at) (count_insert s k v (Some w) at)

  pub put_new : get s k ≡ None → len s < 65536 → Writes s m (codes "ok") k (Some v) (len s + 1)
  put_new none short = put_ok (len s + 1) (has_room s k short) (count_insert s k v None none)

  pub put_full : get s k ≡ None → 65536 ≤ len s → Reads s m (codes "full")
  put_full none full =
      reads s m (Put k v) is (codes "full")
      (ap (λ b. if b then codes "full" else codes "ok") (no_room s k none full))
      (ap (λ b. if b then s else insert s k v) (no_room s k none full))

module _ (s : Store) (m : Request) (k : List ℕ) where
  pub get_held : Spells m.command.items (Get k) → (v : List ℕ) → get s k ≡ Some v → Reads s m (codes "val " ++ v)
  get_held is v at = reads s m (Get k) is (codes "val " ++ v) (ap (λ o. option_map_or (λ w. codes "val " ++ w) o (codes "none")) at) refl

  pub get_none : Spells m.command.items (Get k) → get s k ≡ None → Reads s m (codes "none")
  get_none is none = reads s m (Get k) is (codes "none") (ap (λ o. option_map_or (λ w. codes "val " ++ w) o (codes "none")) none) refl

  pub del_held : Spells m.command.items (Del k) → (v : List ℕ) → get s k ≡ Some v → Writes s m (codes "ok") k None (len s - 1)
  del_held is v at =
      writes s m (Del k) is (codes "ok") k None (len s - 1) (remove s k)
      (ap (λ o. if is_some o then codes "ok" else codes "none") at) refl (removes s k) (count_remove s k v at)

  pub del_none : Spells m.command.items (Del k) → get s k ≡ None → Reads s m (codes "none")
  del_none is none =
      reads s m (Del k) is (codes "none")
      (ap (λ o. if is_some o then codes "ok" else codes "none") none) (nothing_to_remove s k none)

module _ (s : Store) (m : Request) (k old new : List ℕ) (is : Spells m.command.items (Cas k old new)) where
  abbrev reply_at : Option (List ℕ) → List ℕ
  reply_at o = option_map_or (λ v. if bytes_eq v old then codes "ok" else codes "no") o (codes "none")

  abbrev store_at : Option (List ℕ) → Store
  store_at o = option_map_or (λ v. if bytes_eq v old then insert s k new else s) o s

  pub cas_same : get s k ≡ Some old → Writes s m (codes "ok") k (Some new) (len s)
  cas_same at =
      let equal = (bytes_eq-Decides old old).1 refl in
      writes s m (Cas k old new) is (codes "ok") k (Some new) (len s) (insert s k new)
      (ap reply_at at ∙ ap (λ b. if b then codes "ok" else codes "no") equal)
      (ap store_at at ∙ ap (λ b. if b then insert s k new else s) equal)
      (inserts s k new) (count_insert s k new (Some old) at)

  pub cas_other : (v : List ℕ) → get s k ≡ Some v → v ≢ old → Reads s m (codes "no")
  cas_other v at ne =
      let differ = false_from_ne_true (bytes_eq v old) (λ t. ne ((bytes_eq-Decides v old).0 t)) in
      reads s m (Cas k old new) is (codes "no")
      (ap reply_at at ∙ ap (λ b. if b then codes "ok" else codes "no") differ)
      (ap store_at at ∙ ap (λ b. if b then insert s k new else s) differ)

  pub cas_none : get s k ≡ None → Reads s m (codes "none")
  cas_none none = reads s m (Cas k old new) is (codes "none") (ap reply_at none) (ap store_at none)

pub bad_row : (s : Store) (m : Request) → ((c : Command) → Spells m.command.items c → ⊥) → Reads s m (codes "bad")
bad_row s m none =
    let read = nothing_is_read m.command.items none in
    record { answer = ap (answer_to_reading s) read; after = ap (after_reading s) read }

pub first_is_empty : (k : List ℕ) → get kv_machine.begin k ≡ None
first_is_empty k = get-empty (slice_cmp nat_cmp) k

pub first_has_none : len kv_machine.begin ≡ 0
first_has_none = len-empty (slice_cmp nat_cmp) (List ℕ)

module _ (s : Store) (k : List ℕ) (few : len s ≤ 65536) where
  put_few : (v : List ℕ) (b : Bool) → is_full s k ≡ b → len (if b then s else insert s k v) ≤ 65536
  put_few v true is = few
  put_few v false is = grown (get s k) refl
    where
      grown : (o : Option (List ℕ)) → get s k ≡ o → len (insert s k v) ≤ 65536
      grown (Some w) at = rw (count_insert s k v (Some w) at) few
      grown None at =
          let short : (nat_le 65536 (len s) && true) ≡ false = ap (λ o. nat_le 65536 (len s) && not (is_some o)) (sym at) ∙ is in
          let below : len s < 65536 = below_limit (len s) short in
          rw (count_insert s k v None at) (omega arith)

  cut_few : (b : Bool) → cond b (len s - 1) (len s) ≤ 65536
  cut_few true = omega arith
  cut_few false = few

  cas_few : (old new : List ℕ) (o : Option (List ℕ)) → get s k ≡ o → len (option_map_or (λ v. if bytes_eq v old then insert s k new else s) o s) ≤ 65536
  cas_few old new None at = few
  cas_few old new (Some v) at =
      elim (bytes_eq v old) as (λ b. len (if b then insert s k new else s) ≤ 65536) [
        | true ↦ rw (count_insert s k new (Some v) at) few
        | false ↦ few
      ]

reading_few : (s : Store) (o : Option Command) → len s ≤ 65536 → len (after_reading s o) ≤ 65536
reading_few s None few = few
reading_few s (Some (Put k v)) few = put_few s k few v (is_full s k) refl
reading_few s (Some (Get k)) few = few
reading_few s (Some (Del k)) few = rw (len-remove nat_list_cmp_total s k) (cut_few s k few (is_some (get s k)))
reading_few s (Some (Cas k old new)) few = cas_few s k few old new (get s k) refl

requests_few : (s : Store) (h : List Request) → len s ≤ 65536 → len (fold kv_machine.after s h) ≤ 65536
requests_few s [] few = few
requests_few s (m ∷ h) few = requests_few (kv_machine.after s m) h (reading_few s (command_in m.command.items) few)

-- whatever the requests, there are no more keys than may be
pub stays_few : (h : List Request) → len (serve kv_machine h) ≤ 65536
stays_few h = let none = first_has_none in requests_few kv_machine.begin h (omega arith)
