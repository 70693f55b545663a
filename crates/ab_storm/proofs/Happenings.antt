-- What a storm draws can happen.
use Rattle.std.proofs.Common.{◌≡◌, ℕ, zero, suc, ◌+◌, ◌-◌, ◌*◌, ◌/◌, ◌^◌, ◌<◌, ◌≤◌, ◌==◌, Bool, true, false, Option, Some, None, List, [], ◌∷◌, ◌++◌, length, refl, sym, ap, ◌∙◌, subst, arith}
use Rattle.std.specs.Prelude.{unwrap_or, slice_get, min, nat_lt, codes, decimal, if◌then◌else◌}
use Rattle.std.proofs.lemmas.Bool.{ltb-true}
use Rattle.std.proofs.lemmas.Nat.{mod_below}
use Rattle.std.proofs.lemmas.List.{length-append}
use Rattle.std.proofs.lemmas.Fmt.{length-decimal-le}
use Rattle.ab_text.specs.declared.event.Event.{Event}
use Rattle.ab_storm.specs.Storms.{Storm, deliver, stepped, drawn, turned, client_timeout, replica_timeout, in_turn, put_text, put, put_or, first_idle, fresh, any_packet, late_packet, chosen, next_of, CanHappen}

-- the command is short
put_short : (k v : ℕ) → k < 10 → v < 1000 → (1 ≤ length (put_text k v)) × (length (put_text k v) ≤ 128)
put_short k v few some =
    let key = length-decimal-le 1 k (omega arith) few (omega (arith, few)) in
    let value = length-decimal-le 3 v (omega arith) some (omega (arith, some)) in
    let tail = length-append (decimal k) (codes " v" ++ decimal v) in
    (omega arith, omega (arith, key, value, tail))

-- where a client is found, it is idle
first_is : (c : ℕ) (idle : List Bool) (n : ℕ) → first_idle c idle ≡ Some n → (j : ℕ) × (n ≡ c + j) × (slice_get idle j ≡ Some true)
first_is c [] n found = absurd (cc (found))
first_is c (true ∷ idle) n found = (0, ap (λ o. unwrap_or o n) (sym found) ∙ omega arith, refl)
first_is c (false ∷ idle) n found = let rest = first_is (suc c) idle n found in (suc rest.0, rest.1 ∙ omega arith, rest.2)

below : (m : ℕ) (s : Storm) → 1 ≤ m → drawn m s < m
below m s some = mod_below (s.state / 2 ^ 33) m some

positive : (n : ℕ) → (n == 0) ≡ false → 1 ≤ n
positive zero some = absurd (cc (some))
positive (suc n) some = omega arith

module _ (packets : ℕ) (idle : List Bool) where
  abbrev Can : Storm → Event × Storm → Type 0
  Can s e = CanHappen s.cluster packets idle e.0

  either : (s : Storm) (b : Bool) (x y : Event × Storm) → (b ≡ true → Can s x) → (b ≡ false → Can s y) → Can s (if b then x else y)
  either s true x y then_x else_y = then_x refl
  either s false x y then_x else_y = else_y refl

  client_can : (s : Storm) → Can s (client_timeout s)
  client_can s = (refl, below s.cluster.clients (stepped s) s.cluster.in_bounds.some_client)

  replica_can : (s : Storm) → Can s (replica_timeout s)
  replica_can s = (refl, below (3 * s.cluster.f + 1) (stepped s) (omega arith))

  packet_can : (s : Storm) → nat_lt s.turn packets ≡ true → Can s (deliver (s.turn + 1), turned packets s)
  packet_can s left = let lt = ltb-true s.turn packets left in (refl, omega arith, omega (arith, lt))

  in_turn_can : (s : Storm) → Can s (in_turn packets s)
  in_turn_can s = either s (nat_lt s.turn packets) (deliver (s.turn + 1), turned packets s) (client_timeout s) (packet_can s) (λ none. client_can s)

  put_can : (s : Storm) (c : ℕ) → slice_get idle c ≡ Some true → Can s (put c s)
  put_can s c is =
      let t = stepped s in
      let short = put_short (drawn 10 t) (drawn 1000 (stepped t)) (below 10 t (omega arith)) (below 1000 (stepped t) (omega arith)) in
      (refl, (is, short.0, short.1))

  put_or_can : (s : Storm) (found : Option ℕ) → ((c : ℕ) → found ≡ Some c → slice_get idle c ≡ Some true) → Can s (put_or found packets s)
  put_or_can s None is = in_turn_can s
  put_or_can s (Some c) is = put_can s c (is c refl)

  fresh_can : (s : Storm) → Can s (fresh packets idle s)
  fresh_can s =
      put_or_can s (first_idle 0 idle)
      (λ c found. let first = first_is 0 idle c found in subst (λ n. slice_get idle n ≡ Some true) (sym (first.1 ∙ omega arith)) first.2)

  any_can : (s : Storm) → (packets == 0) ≡ false → Can s (any_packet packets s)
  any_can s some =
      let lt = below packets (stepped (turned packets s)) (positive packets some) in
      (refl, omega arith, omega (arith, lt))

  late_can : (s : Storm) → (packets == 0) ≡ false → Can s (late_packet packets s)
  late_can s some =
      let one = positive packets some in
      let lt = below (min packets 64) (stepped s) (omega (arith, one)) in
      (refl, omega (arith, lt), omega arith)

  chosen_can : (n : ℕ) (s : Storm) → Can s (chosen n packets idle s)
  chosen_can n s =
      either s (nat_lt n 48) _ _
      (λ _. either s (nat_lt s.turn packets) _ _ (λ _. in_turn_can s) (λ _. fresh_can s))
      (λ _. either s (nat_lt n 52) _ _
      (λ _. either s (packets == 0) _ _ (λ _. fresh_can s) (any_can s))
      (λ _. either s (nat_lt n 56) _ _
      (λ _. either s (packets == 0) _ _ (λ _. fresh_can s) (late_can s))
      (λ _. either s (nat_lt n 62) _ _ (λ _. fresh_can s) (λ _. either s (n == 62) _ _ (λ _. client_can s) (λ _. replica_can s)))))

pub next_can : (s : Storm) (packets : ℕ) (idle : List Bool) → CanHappen s.cluster packets idle (next_of packets idle s).0
next_can s packets idle = chosen_can packets idle (drawn 64 (stepped s)) (stepped s)
