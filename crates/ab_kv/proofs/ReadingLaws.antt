-- A command is read exactly where the bytes spell it.
use Rattle.std.proofs.Common.{◌≡◌, ◌⊎◌, inl, inr, ℕ, ◌≤◌, List, [], ◌∷◌, ◌++◌, length, Bool, true, false, ◌&&◌, if◌then◌else◌, nat_eq, nat_le, Option, Some, None, ap, sym, ◌∙◌, refl, subst, codes, IsTrue, All}
use Rattle.std.specs.Bool.{Decides}
use Rattle.std.specs.List.{list_all}
use Rattle.std.specs.Option.{option_and_then}
use Rattle.std.specs.Str.{bytes_eq}
use Rattle.std.proofs.lemmas.Bool.{cases_Bool, leb-true, le-leb, and_parts}
use Rattle.std.proofs.lemmas.Bool.Decides.{Decides-eqb, Decides-and, Decides-like, Decides-by_and}
use Rattle.std.proofs.lemmas.Option.{none-some, some_pair_parts, cond_some, option_and_then_some, same_Some}
use Rattle.std.proofs.lemmas.Slice.Eq.{bytes_eq-Decides}
use Rattle.ab_kv.specs.Commands.{Command, Put, Get, Del, Cas, IsWord, IsCommand, Spells, spell, is_symbol}
use Rattle.ab_kv.specs.Readings.{parts, is_word, put_in, get_in, del_in, cas_in, cas_of, named, command_in}
use Rattle.ab_kv.proofs.PartLemmas.{with_first, other}

later_found : (x : ℕ) (xs a b : List ℕ) (o : Option (List ℕ × List ℕ)) → ((c d : List ℕ) → o ≡ Some (c, d) → xs ≡ c ++ 32 ∷ d) → with_first x o ≡ Some (a, b) → x ∷ xs ≡ a ++ 32 ∷ b
later_found x xs a b None rest e = absurd (none-some (a, b) e)
later_found x xs a b (Some p) rest e =
    let both = some_pair_parts (x ∷ p.0) a p.1 b e in
    ap (λ l. x ∷ l) (rest p.0 p.1 refl) ∙ (λ j. both.0 j ++ 32 ∷ both.1 j)

-- bytes are their parts with a space between
parts_found : (bs a b : List ℕ) → parts bs ≡ Some (a, b) → bs ≡ a ++ 32 ∷ b
parts_found [] a b e = absurd (none-some (a, b) e)
parts_found (x ∷ xs) a b e = elim (cases_Bool (nat_eq x 32)) [
  | inl space ↦
      let both = some_pair_parts [] a xs b (sym (ap (λ t. if t then Some ([], xs) else with_first x (parts xs)) space) ∙ e) in
      (λ j. (Decides-eqb x 32).0 space j ∷ both.1 j) ∙ ap (λ l. l ++ 32 ∷ b) both.0
  | inr letter ↦ later_found x xs a b (parts xs) (λ c d is. parts_found xs c d is) (sym (ap (λ t. if t then Some ([], xs) else with_first x (parts xs)) letter) ∙ e)
]

no_space : (x : ℕ) → is_symbol x ≡ true → nat_eq x 32 ≡ false
no_space x symbol = other x (λ e. let clash : is_symbol 32 ≡ true = ap is_symbol (sym e) ∙ symbol in cc)

-- symbols are parted from what follows behind a space
parts_again : (a b : List ℕ) → list_all is_symbol a ≡ true → parts (a ++ 32 ∷ b) ≡ Some (a, b)
parts_again [] b symbols = refl
parts_again (x ∷ xs) b symbols =
    let each = and_parts (is_symbol x) (list_all is_symbol xs) symbols in
    ap (λ t. if t then Some ([], xs ++ 32 ∷ b) else with_first x (parts (xs ++ 32 ∷ b))) (no_space x each.0)
    ∙ ap (with_first x) (parts_again xs b each.1)

are_symbols : (bytes : List ℕ) → Decides (list_all is_symbol bytes) (All (λ b. IsTrue (is_symbol b)) bytes)
are_symbols bytes = Decides-by_and is_symbol (λ b. IsTrue (is_symbol b)) (list_all is_symbol) (λ b. (λ e. e, λ e. e)) refl (λ _ _. refl) bytes

at_most : (a b : ℕ) → Decides (nat_le a b) (a ≤ b)
at_most a b = (leb-true a b, le-leb a b)

is_word-Decides : (most : ℕ) (bytes : List ℕ) → Decides (is_word most bytes) (IsWord most bytes)
is_word-Decides most bytes =
    Decides-like (is_word most bytes)
    (λ h. record { some = h.0; few = h.1.0; symbols = h.1.1 })
    (λ w. (w.some, (w.few, w.symbols)))
    (Decides-and _ _ (at_most 1 (length bytes)) (Decides-and _ _ (at_most (length bytes) most) (are_symbols bytes)))

word_again : (most : ℕ) (a b : List ℕ) → IsWord most a → parts (a ++ 32 ∷ b) ≡ Some (a, b)
word_again most a b w = parts_again a b ((are_symbols a).1 w.symbols)

put_words : (k v : List ℕ) → Decides (is_word 32 k && is_word 64 v) (IsWord 32 k × IsWord 64 v)
put_words k v = Decides-and _ _ (is_word-Decides 32 k) (is_word-Decides 64 v)

cas_words : (k old new : List ℕ) → Decides (is_word 32 k && (is_word 64 old && is_word 64 new)) (IsWord 32 k × IsWord 64 old × IsWord 64 new)
cas_words k old new =
    Decides-like (is_word 32 k && (is_word 64 old && is_word 64 new))
    (λ h. (h.0, h.1.0, h.1.1))
    (λ w. (w.0, (w.1, w.2)))
    (Decides-and _ _ (is_word-Decides 32 k) (Decides-and _ _ (is_word-Decides 64 old) (is_word-Decides 64 new)))

-- the name with its words spells the command
abbrev Takes : List ℕ → List ℕ → Command → Type 0
Takes name rest c = (name ++ 32 ∷ rest ≡ spell c) × IsCommand c

put_spells : (rest : List ℕ) (c : Command) → put_in rest ≡ Some c → Takes (codes "put") rest c
put_spells rest c e =
    option_and_then_some (λ p. if is_word 32 p.0 && is_word 64 p.1 then Some (Put p.0 p.1) else None) (parts rest) c e
    (λ p at made.
    let is = cond_some (is_word 32 p.0 && is_word 64 p.1) (Put p.0 p.1) c made in
    subst (Takes (codes "put") rest) is.1 (ap (λ r. codes "put" ++ 32 ∷ r) (parts_found rest p.0 p.1 at), (put_words p.0 p.1).0 is.0))

get_spells : (rest : List ℕ) (c : Command) → get_in rest ≡ Some c → Takes (codes "get") rest c
get_spells rest c e =
    let is = cond_some (is_word 32 rest) (Get rest) c e in
    subst (Takes (codes "get") rest) is.1 (refl, (is_word-Decides 32 rest).0 is.0)

del_spells : (rest : List ℕ) (c : Command) → del_in rest ≡ Some c → Takes (codes "del") rest c
del_spells rest c e =
    let is = cond_some (is_word 32 rest) (Del rest) c e in
    subst (Takes (codes "del") rest) is.1 (refl, (is_word-Decides 32 rest).0 is.0)

cas_spells : (rest : List ℕ) (c : Command) → cas_in rest ≡ Some c → Takes (codes "cas") rest c
cas_spells rest c e =
    option_and_then_some (λ p. option_and_then (λ q. cas_of p.0 q.0 q.1) (parts p.1)) (parts rest) c e
    (λ p at inner. option_and_then_some (λ q. cas_of p.0 q.0 q.1) (parts p.1) c inner
    (λ q then_at made.
    let is = cond_some (is_word 32 p.0 && (is_word 64 q.0 && is_word 64 q.1)) (Cas p.0 q.0 q.1) c made in
    subst (Takes (codes "cas") rest) is.1
    (ap (λ r. codes "cas" ++ 32 ∷ r) (parts_found rest p.0 p.1 at ∙ ap (λ r. p.0 ++ 32 ∷ r) (parts_found p.1 q.0 q.1 then_at)), (cas_words p.0 q.0 q.1).0 is.0)))

chosen : {A : Type 0} (b : Bool) (x y z : A) → (if b then x else y) ≡ z → ((b ≡ true) × (x ≡ z)) ⊎ ((b ≡ false) × (y ≡ z))
chosen true x y z e = inl (refl, e)
chosen false x y z e = inr (refl, e)

by_name : (name rest said : List ℕ) (c : Command) → bytes_eq name said ≡ true → Takes said rest c → Takes name rest c
by_name name rest said c same takes = (ap (λ n. n ++ 32 ∷ rest) ((bytes_eq-Decides name said).0 same) ∙ takes.0, takes.1)

named_spells : (name rest : List ℕ) (c : Command) → named name rest ≡ Some c → Takes name rest c
unfolding named
named_spells name rest c e = elim (chosen (bytes_eq name (codes "put")) _ _ _ e) [
  | inl put ↦ by_name name rest (codes "put") c put.0 (put_spells rest c put.1)
  | inr no_put ↦ elim (chosen (bytes_eq name (codes "get")) _ _ _ no_put.1) [
    | inl get ↦ by_name name rest (codes "get") c get.0 (get_spells rest c get.1)
    | inr no_get ↦ elim (chosen (bytes_eq name (codes "del")) _ _ _ no_get.1) [
      | inl del ↦ by_name name rest (codes "del") c del.0 (del_spells rest c del.1)
      | inr no_del ↦ elim (chosen (bytes_eq name (codes "cas")) _ _ _ no_del.1) [
        | inl cas ↦ by_name name rest (codes "cas") c cas.0 (cas_spells rest c cas.1)
        | inr no_cas ↦ absurd (none-some c no_cas.1)
      ]
    ]
  ]
]

-- what is read is spelled so
pub read_is_spelled : (bytes : List ℕ) (c : Command) → command_in bytes ≡ Some c → Spells bytes c
unfolding command_in
read_is_spelled bytes c e =
    option_and_then_some (λ p. named p.0 p.1) (parts bytes) c e
    (λ p at made.
    let takes = named_spells p.0 p.1 c made in
    record { bytes_are = parts_found bytes p.0 p.1 at ∙ takes.0; command = takes.1 })

again : (c : Command) → IsCommand c → command_in (spell c) ≡ Some c
unfolding command_in named
again (Put k v) w =
    ap (option_and_then (λ p. if is_word 32 p.0 && is_word 64 p.1 then Some (Put p.0 p.1) else None)) (word_again 32 k v w.0)
    ∙ ap (λ t. if t then Some (Put k v) else None) ((put_words k v).1 w)
again (Get k) w = ap (λ t. if t then Some (Get k) else None) ((is_word-Decides 32 k).1 w)
again (Del k) w = ap (λ t. if t then Some (Del k) else None) ((is_word-Decides 32 k).1 w)
again (Cas k old new) w =
    ap (option_and_then (λ p. option_and_then (λ q. cas_of p.0 q.0 q.1) (parts p.1))) (word_again 32 k (old ++ 32 ∷ new) w.0)
    ∙ ap (option_and_then (λ q. cas_of k q.0 q.1)) (word_again 64 old new w.1)
    ∙ ap (λ t. if t then Some (Cas k old new) else None) ((cas_words k old new).1 w)

-- what is spelled so is read
pub spelled_is_read : (bytes : List ℕ) (c : Command) → Spells bytes c → command_in bytes ≡ Some c
spelled_is_read bytes c is = ap command_in is.bytes_are ∙ again c is.command

none_if : (bytes : List ℕ) (o : Option Command) → command_in bytes ≡ o → ((c : Command) → Spells bytes c → ⊥) → o ≡ None
none_if bytes None is none = refl
none_if bytes (Some c) is none = absurd (none c (read_is_spelled bytes c is))

-- nothing is read where nothing is spelled
pub nothing_is_read : (bytes : List ℕ) → ((c : Command) → Spells bytes c → ⊥) → command_in bytes ≡ None
nothing_is_read bytes none = none_if bytes (command_in bytes) refl none

pub nothing_is_spelled : (bytes : List ℕ) → command_in bytes ≡ None → (c : Command) → Spells bytes c → ⊥
nothing_is_spelled bytes none c is = none-some c (sym none ∙ spelled_is_read bytes c is)

pub one_command : (bytes : List ℕ) (c d : Command) → Spells bytes c → Spells bytes d → c ≡ d
one_command bytes c d is also = same_Some c d (sym (spelled_is_read bytes c is) ∙ spelled_is_read bytes d also)
