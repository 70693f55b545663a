-- Each event that a storm draws has a line in a schedule.
use Rattle.std.proofs.Common.{◌≡◌, ℕ, ◌+◌, ◌/◌, ◌^◌, ◌<◌, ◌≤◌, ◌==◌, Bool, true, false, All, IfSome, Option, Some, None, List, [], ◌∷◌, ◌++◌, codes, decimal, get_or, length, refl, sym, subst, arith, if◌then◌else◌}
use Rattle.std.specs.Prelude.{⊤, ◌&&◌, nat_le, nat_lt}
use Rattle.std.specs.List.{list_all}
use Rattle.std.proofs.lemmas.Bool.{and_parts, leb-true}
use Rattle.std.proofs.lemmas.List.{get_or_default}
use Rattle.std.proofs.lemmas.List.Elements.{All-append, All-cons, All-nil}
use Rattle.std.proofs.lemmas.Nat.{mod_below}
use Rattle.std.proofs.lemmas.Option.{slice_get_within}
use Rattle.std.proofs.lemmas.Fmt.{decimal_is_IsNumeral}
use Rattle.std.proofs.lemmas.Str.Parse.{digit_at}
use Rattle.ab_num.specs.declared.cluster.Cluster.{Cluster}
use Rattle.ab_num.specs.declared.party.Party.{Party}
use Rattle.ab_num.specs.declared.party.Party.TheVariants.{Replica, Client}
use Rattle.ab_text.specs.declared.event.Core.{Core}
use Rattle.ab_text.specs.declared.event.Event.{Event}
use Rattle.ab_text.specs.declared.event.Event.TheVariants.{Invoke, Deliver, Timeout, Inject}
use Rattle.ab_text.specs.Cores.{IsClient, IsCore, IsParty, IsTwin}
use Rattle.ab_text.specs.EventLines.{IsCommand, IsEvent, IsPrintable}
use Rattle.ab_storm.specs.Storms as storms
use Rattle.ab_storm.specs.Storms.{Storm, deliver, drawn, turned, client_timeout, in_turn, put_text, put, put_or, first_idle, fresh, chosen, next_of, CanHappen, IsAsked}
use Rattle.ab_storm.proofs.Happenings.{next_can}

-- ---- commands

abbrev Prints : List ℕ → Type 0
Prints text = All IsPrintable text

abbrev prints : List ℕ → Bool
prints text = list_all (λ b. nat_le 32 b && nat_le b 126) text

tested : (text : List ℕ) → prints text ≡ true → Prints text
tested [] h = All-nil IsPrintable
tested (b ∷ text) h =
    let parts = and_parts (nat_le 32 b && nat_le b 126) (prints text) h in
    let both = and_parts (nat_le 32 b) (nat_le b 126) parts.0 in
    All-cons IsPrintable b text (leb-true 32 b both.0, leb-true b 126 both.1) (tested text parts.1)

digits_print : (n : ℕ) → n < 2 ^ 64 → Prints (decimal n)
digits_print n small k d lt =
    let digit = digit_at (decimal n) k (decimal_is_IsNumeral n small).0.1 lt in
    let same : get_or (decimal n) k d ≡ get_or (decimal n) k 0 = get_or_default (decimal n) k d 0 lt in
    (omega (arith, digit.0, same), omega (arith, digit.1, same))

put_prints : (key value : ℕ) → key < 10 → value < 1000 → Prints (put_text key value)
put_prints key value few some =
    All-append IsPrintable (codes "put k") (decimal key ++ (codes " v" ++ decimal value)) (tested (codes "put k") refl)
    (All-append IsPrintable (decimal key) (codes " v" ++ decimal value) (digits_print key (omega (arith, few)))
    (All-append IsPrintable (codes " v") (decimal value) (tested (codes " v") refl) (digits_print value (omega (arith, some)))))

-- what is invoked can be printed
abbrev IsShown : Event → Type 0
IsShown (Invoke core command) = Prints command.items
IsShown (Deliver packet core) = ⊤
IsShown (Timeout core) = ⊤
IsShown (Inject core bytes) = ⊤

below : (m : ℕ) (s : Storm) → 1 ≤ m → drawn m s < m
below m s some = mod_below (s.state / 2 ^ 33) m some

module _ (packets : ℕ) (idle : List Bool) where
  abbrev Shown : Event × Storm → Type 0
  Shown d = IsShown d.0

  either : (b : Bool) (x y : Event × Storm) → Shown x → Shown y → Shown (if b then x else y)
  either true x y one other = one
  either false x y one other = other

  in_turn_shown : (s : Storm) → Shown (in_turn packets s)
  in_turn_shown s = either (nat_lt s.turn packets) (deliver (s.turn + 1), turned packets s) (client_timeout s) tt tt

  put_or_shown : (s : Storm) (found : Option ℕ) → Shown (put_or found packets s)
  put_or_shown s None = in_turn_shown s
  put_or_shown s (Some c) =
      let t = storms.stepped s in
      put_prints (drawn 10 t) (drawn 1000 (storms.stepped t)) (below 10 t (omega arith)) (below 1000 (storms.stepped t) (omega arith))

  fresh_shown : (s : Storm) → Shown (fresh packets idle s)
  fresh_shown s = put_or_shown s (first_idle 0 idle)

  chosen_shown : (n : ℕ) (s : Storm) → Shown (chosen n packets idle s)
  chosen_shown n s =
      either (nat_lt n 48) _ _
      (either (nat_lt s.turn packets) _ _ (in_turn_shown s) (fresh_shown s))
      (either (nat_lt n 52) _ _
      (either (packets == 0) _ _ (fresh_shown s) tt)
      (either (nat_lt n 56) _ _
      (either (packets == 0) _ _ (fresh_shown s) tt)
      (either (nat_lt n 62) _ _ (fresh_shown s) (either (n == 62) _ _ tt tt))))

-- ---- lines

asked_has_line : (idle : List Bool) (p : Party) (command : List ℕ) → length idle ≤ 16 → IsAsked idle p command → Prints command → IsParty p × IsClient p × IsCommand command
asked_has_line idle (Replica r) command few asked shown = absurd asked
asked_has_line idle (Client c) command few (at, some, short) shown =
    let inside : c < length idle = slice_get_within idle c true at in
    (omega (arith, few, inside), tt, record { some = some; short = short; printable = shown })

party_has_text : (cluster : Cluster) (p : Party) → storms.IsParty cluster p → IsParty p
party_has_text cluster (Replica r) inside = let few = cluster.in_bounds.few_faulty in omega (arith, few, inside)
party_has_text cluster (Client c) inside = let few = cluster.in_bounds.few_clients in omega (arith, few, inside)

sole_core : (core : Core) → core.twin ≡ None → IsParty core.party → IsCore core
sole_core core sole party = record { party = party; twin = subst (λ (t : Option ℕ). IfSome t IsTwin) (sym sole) tt }

has_line : (cluster : Cluster) (packets : ℕ) (idle : List Bool) (e : Event) → packets < 2 ^ 64 → length idle ≤ 16 → CanHappen cluster packets idle e → IsShown e → IsEvent e
has_line cluster packets idle (Invoke core command) some few can shown =
    let asked = asked_has_line idle core.party command.items few can.1 shown in
    (sole_core core can.0 asked.0, asked.1, asked.2)
has_line cluster packets idle (Deliver packet core) some few can shown =
    let last = can.2 in
    (omega (arith, some, last), subst (λ (o : Option Core). IfSome o IsCore) (sym can.0) tt)
has_line cluster packets idle (Timeout core) some few can shown = sole_core core can.0 (party_has_text cluster core.party can.1)
has_line cluster packets idle (Inject core bytes) some few can shown = absurd can

-- the next event of a storm has a line
pub next_has_line : (s : Storm) (packets : ℕ) (idle : List Bool) → packets < 2 ^ 64 → length idle ≤ 16 → IsEvent (next_of packets idle s).0
next_has_line s packets idle some few =
    has_line s.cluster packets idle (next_of packets idle s).0 some few (next_can s packets idle) (chosen_shown packets idle (drawn 64 (storms.stepped s)) (storms.stepped s))
