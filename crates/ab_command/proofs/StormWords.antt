-- A storm that words ask for has few events.
use Rattle.std.proofs.Common.{◌≡◌, ℕ, ◌^◌, ◌-◌, ◌≤◌, Bool, true, false, Option, None, Some, List, [], ◌∷◌, length, refl, sym, subst}
use Rattle.std.specs.Prelude.{◌&&◌, ◌==◌, nat_le, if◌then◌else◌, codes}
use Rattle.std.specs.Str.{bytes_eq}
use Rattle.std.proofs.lemmas.Bool.{leb-true}
use Rattle.ab_num.specs.declared.plan.Plan.{Plan}
use Rattle.ab_text.specs.Heads.{spelled_in, plans}
use Rattle.ab_text.specs.Numbers.{number_of as number_text}
use Rattle.ab_key_text.specs.Lines.{bounded}
use Rattle.ab_words.specs.declared.command.Command.{Command}
use Rattle.ab_words.specs.declared.command.Command.TheVariants.{Replay, Keys, Storm, Node, Audit, Cluster}
use Rattle.ab_words.specs.Commands.{StormCommand}
use Rattle.ab_words.specs.Uses.{Use, ◌>>=◌, uses_in}
use Rattle.ab_words.specs.Values.{value_of, number_in, number_of, plan_name}
use Rattle.ab_words.specs.Language.{only, empty, audit_of, cluster_in, keys_in, node_in, storm_in, command_of, command_in}

record Bound {A B : Type 0} (o : Option A) (f : A → Option B) (y : B) : Type 0 where
  value : A
  is : o ≡ Some value
  rest : f value ≡ Some y

bound : {A B : Type 0} (o : Option A) (f : A → Option B) (y : B) → (o >>= f) ≡ Some y → Bound o f y
bound None f y e = absurd (cc (e))
bound (Some a) f y e = record { value = a; is = refl; rest = e }

-- what holds of both is a case of either
if_some : {A : Type 0} (b : Bool) (x y : Option A) (z : A) (P : Type 0) → (x ≡ Some z → P) → (y ≡ Some z → P) → (if b then x else y) ≡ Some z → P
if_some true x y z P one other e = one e
if_some false x y z P one other e = other e

only_is : (n : ℕ) (uses : List Use) (a k : StormCommand) → only n uses a ≡ Some k → a ≡ k
only_is n uses a k e = by (length uses == n) e
  where
    by : (b : Bool) → (if b then Some a else None) ≡ Some k → a ≡ k
    by true e = cc (e)
    by false e = absurd (cc (e))

within_bound : (low high k n : ℕ) (b : Bool) → b ≡ (nat_le low k && nat_le k high) → (if b then Some k else None) ≡ Some n → n ≤ high
within_bound low high k n true is e =
    let same : k ≡ n = cc (e) in
    subst (λ m. m ≤ high) same (leb-true k high (second (nat_le low k) (nat_le k high) (sym is)))
  where
    second : (a b : Bool) → (a && b) ≡ true → b ≡ true
    second true b e = e
    second false b e = absurd (cc (e))
within_bound low high k n false is e = absurd (cc (e))

bounded_by : (low high n : ℕ) (o : Option ℕ) → bounded low high o ≡ Some n → n ≤ high
bounded_by low high n None e = absurd (cc (e))
bounded_by low high n (Some k) e = within_bound low high k n (nat_le low k && nat_le k high) refl e

number_below : (name : List ℕ) (low high n : ℕ) (uses : List Use) → number_of name low high uses ≡ Some n → n ≤ high
number_below name low high n uses e = let of = bound (value_of name uses) (number_in low high) n e in bounded_by low high n (number_text of.value) of.rest

-- how a storm is read, option by option
abbrev with_seed : List Use → Plan → ℕ → ℕ → ℕ → Option StormCommand
with_seed uses plan f clients seed = number_of (codes "events") 0 100000 uses >>= λ events. only 5 uses (record { f = f; clients = clients; plan = plan; seed = seed; events = events })

abbrev with_clients : List Use → Plan → ℕ → ℕ → Option StormCommand
with_clients uses plan f clients = number_of (codes "seed") 0 (2 ^ 64 - 1) uses >>= λ seed. with_seed uses plan f clients seed

abbrev with_faulty : List Use → Plan → ℕ → Option StormCommand
with_faulty uses plan f = number_of (codes "clients") 1 16 uses >>= λ clients. with_clients uses plan f clients

abbrev with_plan : List Use → Plan → Option StormCommand
with_plan uses plan = number_of (codes "f") 1 2 uses >>= λ f. with_faulty uses plan f

storm_few : (uses : List Use) (k : StormCommand) → storm_in uses ≡ Some k → k.events ≤ 100000
unfolding storm_in
storm_few uses k e =
    let plan = bound (value_of (codes "plan") uses >>= spelled_in plan_name plans) (with_plan uses) k e in
    let f = bound (number_of (codes "f") 1 2 uses) (with_faulty uses plan.value) k plan.rest in
    let clients = bound (number_of (codes "clients") 1 16 uses) (with_clients uses plan.value f.value) k f.rest in
    let seed = bound (number_of (codes "seed") 0 (2 ^ 64 - 1) uses) (with_seed uses plan.value f.value clients.value) k clients.rest in
    let asked : ℕ → StormCommand = λ n. record { f = f.value; clients = clients.value; plan = plan.value; seed = seed.value; events = n } in
    let events = bound (number_of (codes "events") 0 100000 uses) (λ n. only 5 uses (asked n)) k seed.rest in
    let same = only_is 5 uses (asked events.value) k events.rest in
    subst (λ (c : StormCommand). c.events ≤ 100000) same (number_below (codes "events") 0 100000 events.value uses events.is)

not_storm : {A : Type 0} (o : Option A) (make : A → Command) (k : StormCommand) → ((a : A) → make a ≡ Storm k → ⊥) → (o >>= λ a. Some (make a)) ≡ Some (Storm k) → ⊥
not_storm None make k other e = cc (e)
not_storm (Some a) make k other e = let same : make a ≡ Storm k = cc (e) in other a same

empty_other : (c : Command) (ws : List (List ℕ)) (k : StormCommand) → (c ≡ Storm k → ⊥) → empty c ws ≡ Some (Storm k) → ⊥
empty_other c [] k other e = let same : c ≡ Storm k = cc (e) in other same
empty_other c (w ∷ ws) k other e = cc (e)

audit_other : (ws : List (List ℕ)) (k : StormCommand) → audit_of ws ≡ Some (Storm k) → ⊥
audit_other [] k e = cc (e)
audit_other (w ∷ []) k e = if_some (bytes_eq w (codes "--why")) (Some (Audit true)) None (Storm k) ⊥ (λ x. cc (x)) (λ x. cc (x)) e
audit_other (v ∷ w ∷ ws) k e = cc (e)

named_few : (name : List ℕ) (ws : List (List ℕ)) (k : StormCommand) → command_of name ws ≡ Some (Storm k) → k.events ≤ 100000
unfolding command_of
named_few name ws k e =
    if_some (bytes_eq name (codes "replay")) (empty Replay ws) _ (Storm k) (k.events ≤ 100000) (λ x. absurd (empty_other Replay ws k (λ e. cc (e)) x))
    (if_some (bytes_eq name (codes "storm")) _ _ (Storm k) (k.events ≤ 100000)
    (λ x. let uses = bound (uses_in ws) (λ uses. storm_in uses >>= λ c. Some (Storm c)) (Storm k) x in
    let asked = bound (storm_in uses.value) (λ c. Some (Storm c)) (Storm k) uses.rest in
    let same : asked.value ≡ k = cc (asked.rest) in
    subst (λ (c : StormCommand). c.events ≤ 100000) same (storm_few uses.value asked.value asked.is))
    (if_some (bytes_eq name (codes "keys")) _ _ (Storm k) (k.events ≤ 100000)
    (λ x. let uses = bound (uses_in ws) (λ uses. keys_in uses >>= λ c. Some (Keys c)) (Storm k) x in absurd (not_storm (keys_in uses.value) Keys k (λ a e. cc (e)) uses.rest))
    (if_some (bytes_eq name (codes "node")) _ _ (Storm k) (k.events ≤ 100000)
    (λ x. let uses = bound (uses_in ws) (λ uses. node_in uses >>= λ c. Some (Node c)) (Storm k) x in absurd (not_storm (node_in uses.value) Node k (λ a e. cc (e)) uses.rest))
    (if_some (bytes_eq name (codes "audit")) (audit_of ws) _ (Storm k) (k.events ≤ 100000) (λ x. absurd (audit_other ws k x))
    (if_some (bytes_eq name (codes "cluster")) _ None (Storm k) (k.events ≤ 100000)
    (λ x. let uses = bound (uses_in ws) (λ uses. cluster_in uses >>= λ c. Some (Cluster c)) (Storm k) x in absurd (not_storm (cluster_in uses.value) Cluster k (λ a e. cc (e)) uses.rest))
    (λ x. absurd (cc (x)))))))) e

-- words of a storm bound its events
pub few_events : (words : List (List ℕ)) (k : StormCommand) → command_in words ≡ Some (Storm k) → k.events ≤ 100000
few_events [] k e = absurd (cc (e))
few_events (name ∷ ws) k e = named_few name ws k e
