-- What kv replies is short: each value in a store that was reached has at most 64 bytes.
use Rattle.std.proofs.Common.{◌≡◌, ℕ, ◌+◌, ◌≤◌, List, [], ◌∷◌, ◌++◌, length, Bool, true, false, ◌&&◌, if◌then◌else◌, cond, fold, Option, Some, None, codes, arith, refl, sym, ap, ◌∙◌, subst}
use Rattle.std.specs.Ordering.{nat_cmp, eq_by_cmp}
use Rattle.std.specs.Cmp.Lexicographic.{slice_cmp, nat_list_cmp_total}
use Rattle.std.specs.FinMap.{get, insert, remove, contains_key, get-empty, get-insert, get-remove}
use Rattle.std.specs.Option.{option_map, option_map_or, option_and_then}
use Rattle.std.specs.Str.{bytes_eq}
use Rattle.std.proofs.lemmas.Bool.{leb-true, and_parts}
use Rattle.std.proofs.lemmas.List.{length-append}
use Rattle.ab_hist.specs.declared.request.Request.{Request}
use Rattle.ab_svc.specs.Machines.{serve}
use Rattle.ab_kv.specs.Commands.{Command, Put, Get, Del, Cas}
use Rattle.ab_kv.specs.Readings.{is_word, parts, put_in, get_in, del_in, cas_of, cas_in, named, command_in}
use Rattle.ab_kv.specs.Stores.{Store, is_full, after_reading, answer_to_reading}
use Rattle.ab_kv.specs.KvMachines.{kv_machine}

-- ---- a value that is read has at most 64 bytes

abbrev WritesShort : Option Command → Type 0
WritesShort None = Unit {0}
WritesShort (Some (Put k v)) = length v ≤ 64
WritesShort (Some (Get k)) = Unit {0}
WritesShort (Some (Del k)) = Unit {0}
WritesShort (Some (Cas k old new)) = length new ≤ 64

if_either : (b : Bool) (x y : Option Command) → (b ≡ true → WritesShort x) → WritesShort y → WritesShort (if b then x else y)
if_either true x y first second = first refl
if_either false x y first second = second

word_short : (most : ℕ) (bytes : List ℕ) → is_word most bytes ≡ true → length bytes ≤ most
word_short most bytes e = leb-true (length bytes) most (and_parts _ _ (and_parts _ _ e).1).0

put_short : (o : Option (List ℕ × List ℕ)) → WritesShort (option_and_then (λ p. if is_word 32 p.0 && is_word 64 p.1 then Some (Put p.0 p.1) else None) o)
put_short None = tt
put_short (Some p) = if_either (is_word 32 p.0 && is_word 64 p.1) (Some (Put p.0 p.1)) None (λ e. word_short 64 p.1 (and_parts _ _ e).1) tt

get_short : (rest : List ℕ) → WritesShort (get_in rest)
get_short rest = if_either (is_word 32 rest) (Some (Get rest)) None (λ e. tt) tt

del_short : (rest : List ℕ) → WritesShort (del_in rest)
del_short rest = if_either (is_word 32 rest) (Some (Del rest)) None (λ e. tt) tt

cas_short : (k old new : List ℕ) → WritesShort (cas_of k old new)
cas_short k old new = if_either (is_word 32 k && (is_word 64 old && is_word 64 new)) (Some (Cas k old new)) None (λ e. word_short 64 new (and_parts _ _ (and_parts _ _ e).1).1) tt

second_short : (k : List ℕ) (o : Option (List ℕ × List ℕ)) → WritesShort (option_and_then (λ q. cas_of k q.0 q.1) o)
second_short k None = tt
second_short k (Some q) = cas_short k q.0 q.1

first_short : (o : Option (List ℕ × List ℕ)) → WritesShort (option_and_then (λ p. option_and_then (λ q. cas_of p.0 q.0 q.1) (parts p.1)) o)
first_short None = tt
first_short (Some p) = second_short p.0 (parts p.1)

named_short : (name rest : List ℕ) → WritesShort (named name rest)
unfolding named
named_short name rest =
    if_either (bytes_eq name (codes "put")) (put_in rest) _ (λ e. put_short (parts rest))
    (if_either (bytes_eq name (codes "get")) (get_in rest) _ (λ e. get_short rest)
    (if_either (bytes_eq name (codes "del")) (del_in rest) _ (λ e. del_short rest)
    (if_either (bytes_eq name (codes "cas")) (cas_in rest) None (λ e. first_short (parts rest)) tt)))

read_short : (o : Option (List ℕ × List ℕ)) → WritesShort (option_and_then (λ p. named p.0 p.1) o)
read_short None = tt
read_short (Some p) = named_short p.0 p.1

command_short : (bytes : List ℕ) → WritesShort (command_in bytes)
unfolding command_in
command_short bytes = read_short (parts bytes)

-- ---- so has each value that is kept

abbrev IsShort : Store → Type 0
IsShort s = (k v : List ℕ) → get s k ≡ Some v → length v ≤ 64

pick : (b : Bool) (o p : Option (List ℕ)) (v : List ℕ) → cond b o p ≡ Some v → (o ≡ Some v → length v ≤ 64) → (p ≡ Some v → length v ≤ 64) → length v ≤ 64
pick true o p v e first second = first e
pick false o p v e first second = second e

insert_short : (s : Store) (k w : List ℕ) → length w ≤ 64 → IsShort s → IsShort (insert s k w)
insert_short s k w few was q v e =
    pick (eq_by_cmp (slice_cmp nat_cmp) q k) (Some w) (get s q) v (sym (get-insert nat_list_cmp_total s k w q) ∙ e)
    (λ h. let same : w ≡ v = cc (h) in subst (λ (z : List ℕ). length z ≤ 64) same few) (was q v)

remove_short : (s : Store) (k : List ℕ) → IsShort s → IsShort (remove s k)
remove_short s k was q v e =
    pick (eq_by_cmp (slice_cmp nat_cmp) q k) None (get s q) v (sym (get-remove nat_list_cmp_total s k q) ∙ e) (λ h. absurd (cc (h))) (was q v)

either_store : (b : Bool) (s t : Store) → IsShort s → IsShort t → IsShort (if b then s else t)
either_store true s t first second = first
either_store false s t first second = second

replace_short : (s : Store) (k old new : List ℕ) (o : Option (List ℕ)) → length new ≤ 64 → IsShort s → IsShort (option_map_or (λ v. if bytes_eq v old then insert s k new else s) o s)
replace_short s k old new None few was = was
replace_short s k old new (Some v) few was = either_store (bytes_eq v old) (insert s k new) s (insert_short s k new few was) was

after_short : (s : Store) (o : Option Command) → WritesShort o → IsShort s → IsShort (after_reading s o)
after_short s None few was = was
after_short s (Some (Put k v)) few was = either_store (is_full s k) s (insert s k v) was (insert_short s k v few was)
after_short s (Some (Get k)) few was = was
after_short s (Some (Del k)) few was = remove_short s k was
after_short s (Some (Cas k old new)) few was = replace_short s k old new (get s k) few was

served_short : (h : List Request) (s : Store) → IsShort s → IsShort (fold kv_machine.after s h)
served_short [] s was = was
served_short (m ∷ h) s was = served_short h (after_reading s (command_in m.command.items)) (after_short s (command_in m.command.items) (command_short m.command.items) was)

begin_short : IsShort kv_machine.begin
begin_short k v e = let none : None ≡ Some v = sym (get-empty (slice_cmp nat_cmp) k) ∙ e in absurd (cc (none))

-- ---- and so is each reply

either_reply : (b : Bool) (x y : List ℕ) → length x ≤ 72 → length y ≤ 72 → length (if b then x else y) ≤ 72
either_reply true x y first second = first
either_reply false x y first second = second

value_reply : (o : Option (List ℕ)) → ((v : List ℕ) → o ≡ Some v → length v ≤ 64) → length (option_map_or (λ v. codes "val " ++ v) o (codes "none")) ≤ 72
value_reply None few = omega arith
value_reply (Some v) few = omega (arith, length-append (codes "val ") v, few v refl)

cas_reply : (old : List ℕ) (o : Option (List ℕ)) → length (option_map_or (λ v. if bytes_eq v old then codes "ok" else codes "no") o (codes "none")) ≤ 72
cas_reply old None = omega arith
cas_reply old (Some v) = either_reply (bytes_eq v old) (codes "ok") (codes "no") (omega arith) (omega arith)

reply_short : (s : Store) (o : Option Command) → IsShort s → length (answer_to_reading s o) ≤ 72
reply_short s None was = omega arith
reply_short s (Some (Put k v)) was = either_reply (is_full s k) (codes "full") (codes "ok") (omega arith) (omega arith)
reply_short s (Some (Get k)) was = value_reply (get s k) (was k)
reply_short s (Some (Del k)) was = either_reply (contains_key s k) (codes "ok") (codes "none") (omega arith) (omega arith)
reply_short s (Some (Cas k old new)) was = cas_reply old (get s k)

pub short_law : (h : List Request) (m : Request) → length (kv_machine.answer (serve kv_machine h) m).items ≤ 72
short_law h m = reply_short (serve kv_machine h) (command_in m.command.items) (served_short h kv_machine.begin begin_short)
