-- The line that a fault names is the first that isn't as stated.
use Rattle.std.proofs.Common.{◌≡◌, ℕ, zero, suc, ◌+◌, ◌-◌, ◌≤◌, ◌==◌, List, [], ◌∷◌, ◌++◌, Bool, true, false, Option, None, Some, Result, Ok, Err, ◌⊎◌, inl, inr, codes, take, refl, sym, ap, ◌∙◌, subst, arith, if◌then◌else◌}
use Rattle.std.specs.Option.{option_and_then}
use Rattle.std.specs.Str.{bytes_eq}
use Rattle.std.proofs.lemmas.Bool.{cases_Bool}
use Rattle.std.proofs.lemmas.Bool.Decides.{Decides-eqb}
use Rattle.ab_num.specs.declared.party.Party.{Party}
use Rattle.ab_num.specs.declared.party.Party.TheVariants.{Replica, Client}
use Rattle.ab_num.specs.declared.plan.Plan.{Plan}
use Rattle.ab_num.specs.declared.plan.ServiceName.{ServiceName}
use Rattle.ab_num.specs.declared.plan.Scheme.{Scheme}
use Rattle.ab_keys.specs.Keys.{is_party}
use Rattle.ab_keys.specs.Rings.{Peer}
use Rattle.ab_scheme.specs.Schemes.{public_length}
use Rattle.ab_key_text.specs.declared.version.KeyVersion.{KeyVersion}
use Rattle.ab_key_text.specs.declared.version.KeyVersion.TheVariants.{One, Two, Three}
use Rattle.ab_text.specs.Heads.{spelled_in, stripped, plan_line, plans, service_line, services, lms_line, most_built}
use Rattle.ab_key_text.specs.declared.fault.NodeFault.{NodeFault}
use Rattle.ab_key_text.specs.declared.fault.NodeFault.TheVariants.{BadLine, NoEnd}
use Rattle.ab_key_text.specs.Faults.{seen}
use Rattle.ab_key_text.specs.Keys.{Secret, PartyKeys, IsPartyKeys, peers_in, replicas}
use Rattle.ab_key_text.specs.Lines.{◌>>=◌, found_at, line_at, own_schemes, number_in, party_in, key_in}
use Rattle.ab_key_text.specs.Nodes.{AreCommandsOf, IsNodeText, NodeText, command_in, command_lines, commands_at, commands_in, node_in, node_lines, node_of}
use Rattle.ab_key_text.specs.Reading.{Read, KeyLines, ended, every_at, keys_after, keys_at, keys_in, member, peers_at, publics_at, put_together, secret_at, secret_in, setting_at}
use Rattle.ab_key_text.specs.Spelling.{key_lines, keys_line}
use Rattle.ab_key_text.specs.Versions.{key_versions}
use Rattle.ab_key_text.proofs.CommandLemmas.{in_middle}
use Rattle.ab_key_text.proofs.ReadLemmas.{commands_are_read, nodes_are_read}
use Rattle.ab_key_text.proofs.RoundLemmas.{setting, head_end, from2, from3, from4, from5, from6, from7, from8, inside, spelled_reads}

abbrev Lines : Type 0
Lines = List (List ℕ)

abbrev Reading : Type 0 → Type 0
Reading B = Lines → Result B NodeFault

-- from line n on: a bad line is seen in the lines up to it, and in those before it nothing is bad
record IsFirst {B : Type 0} (r : Reading B) (n : ℕ) : Type 0 where
  late : (ls : Lines) (m : ℕ) → r ls ≡ Err (BadLine m) → n ≤ seen m + 1
  sure : (ls more : Lines) (m : ℕ) → r ls ≡ Err (BadLine m) → r (take (seen m + 1 - n) ls ++ more) ≡ Err (BadLine m)
  before : (ls : Lines) (m k : ℕ) → r ls ≡ Err (BadLine m) → n + k ≤ m → (r (take k ls) ≡ Err (NoEnd (n + k))) ⊎ ((b : B) × (r (take k ls) ≡ Ok b))

seen_late : (n : ℕ) → n ≤ seen n
seen_late n = elim (cases_Bool (n == 2)) [
  | inl two ↦ (let e : n ≡ 2 = (Decides-eqb n 2).0 two in let s : seen n ≡ 4 = ap (λ b. if b then 4 else n) two in omega (arith, e, s))
  | inr other ↦ (let s : seen n ≡ n = ap (λ b. if b then 4 else n) other in omega (arith, s))
]

same_line : {B : Type 0} (n m : ℕ) → ◌≡◌ {A = Result B NodeFault} (Err (BadLine n)) (Err (BadLine m)) → n ≡ m
same_line n m e = (let same : n ≡ m = cc in same)

first_as : {B : Type 0} (r s : Reading B) (n : ℕ) → ((ls : Lines) → r ls ≡ s ls) → IsFirst s n → IsFirst r n
first_as {B} r s n same first = record {
  late = λ ls m e. first.late ls m (sym (same ls) ∙ e);
  sure = λ ls more m e. same (take (seen m + 1 - n) ls ++ more) ∙ first.sure ls more m (sym (same ls) ∙ e);
  before = λ ls m k e le. subst (λ (x : Result B NodeFault). (x ≡ Err (NoEnd (n + k))) ⊎ ((b : B) × (x ≡ Ok b))) (sym (same (take k ls))) (first.before ls m k (sym (same ls) ∙ e) le);
}

first_at : {B : Type 0} (r : Reading B) (n m : ℕ) → n ≡ m → IsFirst r n → IsFirst r m
first_at r n m e first = subst (λ k. IsFirst r k) e first

-- ---- a line, and what is read behind it

more_taken : (l : List ℕ) (ls more : Lines) (j k : ℕ) → j ≡ suc k → take j (l ∷ ls) ++ more ≡ l ∷ (take k ls ++ more)
more_taken l ls more j k e = ap (λ i. take i (l ∷ ls) ++ more) e

module _ {A B : Type 0} (read : List ℕ → Option A) (n : ℕ) (f : A → Reading B) (behind : (a : A) → IsFirst (f a) (n + 1)) where
  abbrev line_then : Reading B
  line_then ls = line_at read n ls >>= λ (x : A × Lines). f x.0 x.1

  late_line : (l : List ℕ) (ls : Lines) (m : ℕ) (o : Option A) → (found_at n ls o >>= λ (x : A × Lines). f x.0 x.1) ≡ Err (BadLine m) → n ≤ seen m
  late_line l ls m None e = subst (λ i. n ≤ seen i) (same_line n m e) (seen_late n)
  late_line l ls m (Some a) e = let le = (behind a).late ls m e in omega (arith, le)

  sure_line : (ls tail : Lines) (m k : ℕ) (o : Option A) → k ≡ seen m + 1 - (n + 1) → (found_at n ls o >>= λ (x : A × Lines). f x.0 x.1) ≡ Err (BadLine m)
      → (found_at n (take k ls ++ tail) o >>= λ (x : A × Lines). f x.0 x.1) ≡ Err (BadLine m)
  sure_line ls tail m k None is e = e
  sure_line ls tail m k (Some a) is e = ap (λ i. f a (take i ls ++ tail)) is ∙ (behind a).sure ls tail m e

  before_line : (ls : Lines) (m k : ℕ) (o : Option A) → (found_at n ls o >>= λ (x : A × Lines). f x.0 x.1) ≡ Err (BadLine m) → n + suc k ≤ m
      → (let r : Result B NodeFault = found_at n (take k ls) o >>= λ (x : A × Lines). f x.0 x.1 in (r ≡ Err (NoEnd (n + suc k))) ⊎ ((b : B) × (r ≡ Ok b)))
  before_line ls m k None e le = absurd (let same = same_line n m e in omega (arith, same, le))
  before_line ls m k (Some a) e le =
      let i : n + 1 + k ≡ n + suc k = omega arith in
      subst (λ j. (f a (take k ls) ≡ Err (NoEnd j)) ⊎ ((b : B) × (f a (take k ls) ≡ Ok b))) i ((behind a).before ls m k e (omega (arith, le)))

  line_first : IsFirst line_then n
  line_first = record {
    late = λ ls m e. late_at ls m e;
    sure = λ ls more m e. sure_at ls more m e;
    before = λ ls m k e le. before_at ls m k e le;
  } where
    late_at : (ls : Lines) (m : ℕ) → line_then ls ≡ Err (BadLine m) → n ≤ seen m + 1
    late_at [] m e = absurd (cc)
    late_at (l ∷ ls) m e = let le = late_line l ls m (read l) e in omega (arith, le)

    sure_at : (ls more : Lines) (m : ℕ) → line_then ls ≡ Err (BadLine m) → line_then (take (seen m + 1 - n) ls ++ more) ≡ Err (BadLine m)
    sure_at [] more m e = absurd (cc)
    sure_at (l ∷ ls) more m e =
        let le = late_line l ls m (read l) e in
        let k = seen m + 1 - (n + 1) in
        ap line_then (more_taken l ls more (seen m + 1 - n) k (omega (arith, le))) ∙ sure_line ls more m k (read l) refl e

    before_at : (ls : Lines) (m k : ℕ) → line_then ls ≡ Err (BadLine m) → n + k ≤ m → (line_then (take k ls) ≡ Err (NoEnd (n + k))) ⊎ ((b : B) × (line_then (take k ls) ≡ Ok b))
    before_at [] m k e le = absurd (cc)
    before_at (l ∷ ls) m zero e le = inl (ap (λ j. let r : Result B NodeFault = Err (NoEnd j) in r) (let i : n ≡ n + 0 = omega arith in i))
    before_at (l ∷ ls) m (suc k) e le = before_line ls m k (read l) e le

-- ---- one reading behind another

ok_not_bad : {B : Type 0} (b : B) (n : ℕ) → ◌≡◌ {A = Result B NodeFault} (Ok b) (Err (BadLine n)) → ⊥
ok_not_bad b n e = cc

assoc : {A B C : Type 0} (r : Result A NodeFault) (f : A → Result B NodeFault) (g : B → Result C NodeFault) → ((r >>= f) >>= g) ≡ (r >>= λ (x : A). f x >>= g)
assoc (Ok a) f g = refl
assoc (Err e) f g = refl

-- the party of line 2 is looked at behind line 4
member_first : {B : Type 0} (b : Bool) (r : Reading B) → IsFirst r 5 → IsFirst (λ ls. (let in_cluster : Result (Unit {0}) NodeFault = if b then Ok tt else Err (BadLine 2) in in_cluster) >>= λ (x : Unit {0}). r ls) 5
member_first true r first = first
member_first false r first = record {
  late = λ ls m e. let same = same_line 2 m e in subst (λ i. 5 ≤ seen i + 1) same (omega arith);
  sure = λ ls more m e. e;
  before = λ ls m k e le. absurd (let same = same_line 2 m e in omega (arith, same, le));
}

-- whatever was read before a line with this number, what is read from it on
abbrev Behind : {A B : Type 0} → (Read A → Result B NodeFault) → Type 0
Behind {A} K = (a : A) (n : ℕ) → IsFirst (λ ls. K (record { value = a; next = n; rest = ls })) n

module _ {B : Type 0} (C : Read KeyLines → Result B NodeFault) (behind : Behind C) where
  first8 : (w : KeyVersion) (me : Party) (f c : ℕ) (p : Plan) (v : ServiceName) (h : Scheme) → IsFirst (λ ls. from8 w me f c p v h ls >>= C) 8
  first8 One me f c p v h = behind (setting me f c p v h 0) 8
  first8 Two me f c p v h = behind (setting me f c p v h 0) 8
  first8 Three me f c p v h = first_as _ _ 8 (λ ls. assoc (every_at Three p ls) (λ (x : ℕ × Lines). let r : Result (Read KeyLines) NodeFault = Ok (head_end Three (setting me f c p v h x.0) x.1) in r) C)
      (line_first (number_in (codes "checkpoint ") 1 (most_built p)) 8 (λ k ls. C (head_end Three (setting me f c p v h k) ls)) (λ k. behind (setting me f c p v h k) 9))

  first7 : (w : KeyVersion) (me : Party) (f c : ℕ) (p : Plan) (v : ServiceName) → IsFirst (λ ls. from7 w me f c p v ls >>= C) 7
  first7 w me f c p v = first_as _ _ 7 (λ ls. assoc (line_at (spelled_in lms_line (own_schemes w)) 7 ls) (λ (x : Scheme × Lines). from8 w me f c p v x.0 x.1) C)
      (line_first (spelled_in lms_line (own_schemes w)) 7 (λ h ls. from8 w me f c p v h ls >>= C) (λ h. first8 w me f c p v h))

  first6 : (w : KeyVersion) (me : Party) (f c : ℕ) (p : Plan) → IsFirst (λ ls. from6 w me f c p ls >>= C) 6
  first6 w me f c p = first_as _ _ 6 (λ ls. assoc (line_at (spelled_in service_line services) 6 ls) (λ (x : ServiceName × Lines). from7 w me f c p x.0 x.1) C)
      (line_first (spelled_in service_line services) 6 (λ v ls. from7 w me f c p v ls >>= C) (λ v. first7 w me f c p v))

  first5 : (w : KeyVersion) (me : Party) (f c : ℕ) → IsFirst (λ ls. from5 w me f c ls >>= C) 5
  first5 w me f c = first_as _ _ 5 (λ ls. assoc (line_at (spelled_in plan_line plans) 5 ls) (λ (x : Plan × Lines). from6 w me f c x.0 x.1) C)
      (line_first (spelled_in plan_line plans) 5 (λ p ls. from6 w me f c p ls >>= C) (λ p. first6 w me f c p))

  first_inside : (w : KeyVersion) (me : Party) (f c : ℕ) → IsFirst (λ ls. inside w me f c ls >>= C) 5
  first_inside w me f c = first_as _ _ 5 (λ ls. assoc (member f c me) (λ (x : Unit {0}). from5 w me f c ls) C) (member_first (is_party f c me) (λ ls. from5 w me f c ls >>= C) (first5 w me f c))

  first4 : (w : KeyVersion) (me : Party) (f : ℕ) → IsFirst (λ ls. from4 w me f ls >>= C) 4
  first4 w me f = first_as _ _ 4 (λ ls. assoc (line_at (number_in (codes "clients ") 1 16) 4 ls) (λ (x : ℕ × Lines). inside w me f x.0 x.1) C)
      (line_first (number_in (codes "clients ") 1 16) 4 (λ c ls. inside w me f c ls >>= C) (λ c. first_inside w me f c))

  first3 : (w : KeyVersion) (me : Party) → IsFirst (λ ls. from3 w me ls >>= C) 3
  first3 w me = first_as _ _ 3 (λ ls. assoc (line_at (number_in (codes "f ") 1 2) 3 ls) (λ (x : ℕ × Lines). from4 w me x.0 x.1) C)
      (line_first (number_in (codes "f ") 1 2) 3 (λ f ls. from4 w me f ls >>= C) (λ f. first4 w me f))

  first2 : (w : KeyVersion) → IsFirst (λ ls. from2 w ls >>= C) 2
  first2 w = first_as _ _ 2 (λ ls. assoc (line_at (λ l. option_and_then party_in (stripped (codes "party ") l)) 2 ls) (λ (x : Party × Lines). from3 w x.0 x.1) C)
      (line_first (λ l. option_and_then party_in (stripped (codes "party ") l)) 2 (λ me ls. from3 w me ls >>= C) (λ me. first3 w me))

  setting_first : IsFirst (λ ls. setting_at ls >>= C) 1
  unfolding setting_at
  setting_first = first_as _ _ 1 (λ ls. assoc (line_at (spelled_in keys_line key_versions) 1 ls) (λ (x : KeyVersion × Lines). from2 x.0 x.1) C)
      (line_first (spelled_in keys_line key_versions) 1 (λ w ls. from2 w ls >>= C) (λ w. first2 w))

secret_first : {B : Type 0} (K : Read (Option Secret) → Result B NodeFault) → Behind K → (me : Party) (n : ℕ) → IsFirst (λ ls. secret_at me n ls >>= K) n
secret_first K behind (Client c) n = behind None n
secret_first K behind (Replica r) n =
    first_as _ _ n (λ ls. assoc (line_at secret_in n ls) (λ (y : Secret × Lines). let r : Result (Read (Option Secret)) NodeFault = Ok (record { value = Some y.0; next = n + 1; rest = y.1 }) in r) K)
    (line_first secret_in n (λ s ls. K (record { value = Some s; next = n + 1; rest = ls })) (λ s. behind (Some s) (n + 1)))

peers_first : {B : Type 0} (K : Read (List Peer) → Result B NodeFault) → Behind K → (ps : List Party) (done : List Peer) (n : ℕ) → IsFirst (λ ls. peers_at ps done n ls >>= K) n
peers_first K behind [] done n = behind done n
peers_first K behind (p ∷ ps) done n =
    let rest : List ℕ → List ℕ → List Peer = λ to from. done ++ record { party = p; to = to; from = from } ∷ [] in
    first_as _ _ n (λ ls. assoc (line_at (key_in (codes "out ") p 32) n ls) (λ (y : List ℕ × Lines). line_at (key_in (codes "in ") p 32) (n + 1) y.1 >>= λ (z : List ℕ × Lines). peers_at ps (rest y.0 z.0) (n + 2) z.1) K)
    (line_first (key_in (codes "out ") p 32) n (λ to ls. (line_at (key_in (codes "in ") p 32) (n + 1) ls >>= λ (z : List ℕ × Lines). peers_at ps (rest to z.0) (n + 2) z.1) >>= K)
    (λ to. first_as _ _ (n + 1) (λ ls. assoc (line_at (key_in (codes "in ") p 32) (n + 1) ls) (λ (z : List ℕ × Lines). peers_at ps (rest to z.0) (n + 2) z.1) K)
    (line_first (key_in (codes "in ") p 32) (n + 1) (λ from ls. peers_at ps (rest to from) (n + 2) ls >>= K)
    (λ from. first_at _ (n + 2) (n + 1 + 1) (omega arith) (peers_first K behind ps (rest to from) (n + 2))))))

publics_first : {B : Type 0} (long : ℕ) (K : Read Lines → Result B NodeFault) → Behind K → (ps : List Party) (done : Lines) (n : ℕ) → IsFirst (λ ls. publics_at long ps done n ls >>= K) n
publics_first long K behind [] done n = behind done n
publics_first long K behind (p ∷ ps) done n =
    first_as _ _ n (λ ls. assoc (line_at (key_in (codes "public ") p long) n ls) (λ (y : List ℕ × Lines). publics_at long ps (done ++ y.0 ∷ []) (n + 1) y.1) K)
    (line_first (key_in (codes "public ") p long) n (λ key ls. publics_at long ps (done ++ key ∷ []) (n + 1) ls >>= K) (λ key. publics_first long K behind ps (done ++ key ∷ []) (n + 1)))

module _ {B : Type 0} (K : Read PartyKeys → Result B NodeFault) (behind : Behind K) where
  abbrev with_publics : KeyLines → Option Secret → Read (List Peer) → Result (Read PartyKeys) NodeFault
  with_publics s secret b = publics_at (public_length s.lms) (replicas s.f) [] b.next b.rest >>= λ (c : Read Lines). Ok (record { value = put_together s secret b.value c.value; next = c.next; rest = c.rest })

  abbrev with_peers : KeyLines → Read (Option Secret) → Result (Read PartyKeys) NodeFault
  with_peers s a = peers_at (peers_in s.f s.clients s.me) [] a.next a.rest >>= λ (b : Read (List Peer)). with_publics s a.value b

  after_first : (s : KeyLines) (i : ℕ) → IsFirst (λ ls. keys_after s i ls >>= K) i
  unfolding keys_after
  after_first s i =
      first_as _ _ i (λ ls. assoc (secret_at s.me i ls) (with_peers s) K)
      (secret_first (λ a. with_peers s a >>= K) (λ secret n. first_as _ _ n (λ ls. assoc (peers_at (peers_in s.f s.clients s.me) [] n ls) (with_publics s secret) K)
      (peers_first (λ b. with_publics s secret b >>= K) (λ peers e. first_as _ _ e (λ ls. assoc (publics_at (public_length s.lms) (replicas s.f) [] e ls) (λ (c : Read Lines). let r : Result (Read PartyKeys) NodeFault = Ok (record { value = put_together s secret peers c.value; next = c.next; rest = c.rest }) in r) K)
      (publics_first (public_length s.lms) (λ c. K (record { value = put_together s secret peers c.value; next = c.next; rest = c.rest })) (λ publics m. behind (put_together s secret peers publics) m) (replicas s.f) [] e))
      (peers_in s.f s.clients s.me) [] n)) s.me i)

  keys_first : IsFirst (λ ls. keys_at ls >>= K) 1
  unfolding keys_at
  keys_first = first_as _ _ 1 (λ ls. assoc (setting_at ls) (λ (s : Read KeyLines). keys_after s.value s.next s.rest) K) (setting_first (λ s. keys_after s.value s.next s.rest >>= K) (λ s n. after_first s n))

ended_first : {A : Type 0} (a : A) (n : ℕ) → IsFirst (λ ls. ended a n ls) n
ended_first {A} a n = record { late = late_at; sure = sure_at; before = before_at } where
  late_at : (ls : Lines) (m : ℕ) → ended a n ls ≡ Err (BadLine m) → n ≤ seen m + 1
  late_at [] m e = absurd (cc)
  late_at (l ∷ ls) m e = let le = seen_late n in let same = same_line {B = A} n m e in subst (λ i. n ≤ seen i + 1) same (omega (arith, le))

  sure_at : (ls more : Lines) (m : ℕ) → ended a n ls ≡ Err (BadLine m) → ended a n (take (seen m + 1 - n) ls ++ more) ≡ Err (BadLine m)
  sure_at [] more m e = absurd (cc)
  sure_at (l ∷ ls) more m e =
      let same = same_line {B = A} n m e in
      let le : n ≤ seen m = subst (λ i. n ≤ seen i) same (seen_late n) in
      ap (ended a n) (more_taken l ls more (seen m + 1 - n) (seen m - n) (omega (arith, le))) ∙ e

  before_at : (ls : Lines) (m k : ℕ) → ended a n ls ≡ Err (BadLine m) → n + k ≤ m → (ended a n (take k ls) ≡ Err (NoEnd (n + k))) ⊎ ((b : A) × (ended a n (take k ls) ≡ Ok b))
  before_at [] m k e le = absurd (cc)
  before_at (l ∷ ls) m zero e le = inr (a, refl)
  before_at (l ∷ ls) m (suc k) e le = absurd (let same = same_line {B = A} n m e in omega (arith, same, le))

text_first : IsFirst keys_in 1
unfolding keys_in
text_first = keys_first (λ x. ended x.value x.next x.rest) (λ k n. ended_first k n)

-- ---- what a fault says

-- no text in form begins with the lines up to the bad one
pub no_keys_begin : (ls more : Lines) (n : ℕ) (k : PartyKeys) → keys_in ls ≡ Err (BadLine n) → IsPartyKeys k → key_lines k ≡ take (seen n) ls ++ more → ⊥
no_keys_begin ls more n k bad good begins =
    let all : seen n + 1 - 1 ≡ seen n = omega arith in
    let again : keys_in (take (seen n) ls ++ more) ≡ Err (BadLine n) = ap (λ i. keys_in (take i ls ++ more)) (sym all) ∙ text_first.sure ls more n bad in
    let read : keys_in (take (seen n) ls ++ more) ≡ Ok k = ap keys_in (sym begins) ∙ spelled_reads k good in
    ok_not_bad k n (sym read ∙ again)

-- the lines before it have no fault but their end
pub keys_before : (ls : Lines) (n : ℕ) → keys_in ls ≡ Err (BadLine n) → 1 ≤ n → (keys_in (take (n - 1) ls) ≡ Err (NoEnd n)) ⊎ ((k : PartyKeys) × (keys_in (take (n - 1) ls) ≡ Ok k))
keys_before ls n bad some =
    let i : 1 + (n - 1) ≡ n = omega (arith, some) in
    subst (λ j. (keys_in (take (n - 1) ls) ≡ Err (NoEnd j)) ⊎ ((k : PartyKeys) × (keys_in (take (n - 1) ls) ≡ Ok k))) i (text_first.before ls n (n - 1) bad (omega (arith, some)))

-- ---- the commands of a node

ended_far : {A : Type 0} (a : A) (n m : ℕ) (ls : Lines) → ended a n ls ≡ Err (BadLine m) → n ≤ m
ended_far a n m [] e = absurd (cc)
ended_far {A} a n m (l ∷ ls) e = let same = same_line {B = A} n m e in omega (arith, same)

commands_far : (ls : Lines) (me : Party) (done : Lines) (n m : ℕ) → commands_at me done n ls ≡ Err (BadLine m) → n ≤ m
commands_far [] me done n m e = absurd (cc)
commands_far (l ∷ ls) me done n m e = go (λ c. commands_far ls me (done ++ c ∷ []) (n + 1) m) (bytes_eq l (codes "end")) (command_in me l) e where
  go : ((c : List ℕ) → commands_at me (done ++ c ∷ []) (n + 1) ls ≡ Err (BadLine m) → n + 1 ≤ m) → (b : Bool) (o : Option (List ℕ)) → (if b then ended done (n + 1) ls else in_middle me done n ls o) ≡ Err (BadLine m) → n ≤ m
  go rest true o was = let far = ended_far done (n + 1) m ls was in omega (arith, far)
  go rest false None was = let same = same_line {B = Lines} n m was in omega (arith, same)
  go rest false (Some c) was = let far = rest c was in omega (arith, far)

commands_sure : (ls more : Lines) (me : Party) (done : Lines) (n m : ℕ) → commands_at me done n ls ≡ Err (BadLine m) → commands_at me done n (take (seen m + 1 - n) ls ++ more) ≡ Err (BadLine m)
commands_sure [] more me done n m e = absurd (cc)
commands_sure (l ∷ ls) more me done n m e =
    let far = commands_far (l ∷ ls) me done n m e in
    let late = seen_late m in
    let k = seen m + 1 - (n + 1) in
    ap (commands_at me done n) (more_taken l ls more (seen m + 1 - n) k (omega (arith, far, late)))
    ∙ go (λ c. commands_sure ls more me (done ++ c ∷ []) (n + 1) m) (bytes_eq l (codes "end")) (command_in me l) e
  where
    go : ((c : List ℕ) → commands_at me (done ++ c ∷ []) (n + 1) ls ≡ Err (BadLine m) → commands_at me (done ++ c ∷ []) (n + 1) (take (seen m + 1 - (n + 1)) ls ++ more) ≡ Err (BadLine m))
        → (b : Bool) (o : Option (List ℕ)) → (if b then ended done (n + 1) ls else in_middle me done n ls o) ≡ Err (BadLine m)
        → (if b then ended done (n + 1) (take (seen m + 1 - (n + 1)) ls ++ more) else in_middle me done n (take (seen m + 1 - (n + 1)) ls ++ more) o) ≡ Err (BadLine m)
    go rest true o was = (ended_first done (n + 1)).sure ls more m was
    go rest false None was = was
    go rest false (Some c) was = rest c was

abbrev IsQuiet : ℕ → Result Lines NodeFault → Type 0
IsQuiet n r = (r ≡ Err (NoEnd n)) ⊎ ((b : Lines) × (r ≡ Ok b))

commands_before : (ls : Lines) (me : Party) (done : Lines) (n m k : ℕ) → commands_at me done n ls ≡ Err (BadLine m) → n + k ≤ m → IsQuiet (n + k) (commands_at me done n (take k ls))
commands_before [] me done n m k e le = absurd (cc)
commands_before (l ∷ ls) me done n m zero e le = inl (ap (λ j. let r : Result Lines NodeFault = Err (NoEnd j) in r) (let i : n ≡ n + 0 = omega arith in i))
commands_before (l ∷ ls) me done n m (suc k) e le =
    let i : n + 1 + k ≡ n + suc k = omega arith in
    subst (λ j. IsQuiet j (commands_at me done n (l ∷ take k ls))) i (go (λ c was. commands_before ls me (done ++ c ∷ []) (n + 1) m k was (omega (arith, le))) (bytes_eq l (codes "end")) (command_in me l) e)
  where
    go : ((c : List ℕ) → commands_at me (done ++ c ∷ []) (n + 1) ls ≡ Err (BadLine m) → IsQuiet (n + 1 + k) (commands_at me (done ++ c ∷ []) (n + 1) (take k ls)))
        → (b : Bool) (o : Option (List ℕ)) → (if b then ended done (n + 1) ls else in_middle me done n ls o) ≡ Err (BadLine m)
        → IsQuiet (n + 1 + k) (if b then ended done (n + 1) (take k ls) else in_middle me done n (take k ls) o)
    go rest true o was = (ended_first done (n + 1)).before ls m k was (omega (arith, le))
    go rest false None was = absurd (let same = same_line {B = Lines} n m was in omega (arith, same, le))
    go rest false (Some c) was = rest c was

commands_first : (me : Party) (done : Lines) (n : ℕ) → IsFirst (λ ls. commands_at me done n ls) n
commands_first me done n = record {
  late = λ ls m e. let far = commands_far ls me done n m e in let late = seen_late m in omega (arith, far, late);
  sure = λ ls more m e. commands_sure ls more me done n m e;
  before = λ ls m k e le. commands_before ls me done n m k e le;
}

-- what is made of what was read
then_first : {A B : Type 0} (r : Reading A) (make : A → B) (n : ℕ) → IsFirst r n → IsFirst (λ ls. r ls >>= λ (a : A). Ok (make a)) n
then_first {A} {B} r make n first = record {
  late = λ ls m e. first.late ls m (bad_was (r ls) m e);
  sure = λ ls more m e. ap with_made (first.sure ls more m (bad_was (r ls) m e));
  before = λ ls m k e le. elim (first.before ls m k (bad_was (r ls) m e) le) [
    | inl none ↦ inl (ap with_made none)
    | inr some ↦ inr (make some.0, ap with_made some.1)
  ];
} where
  with_made : Result A NodeFault → Result B NodeFault
  with_made x = x >>= λ (a : A). Ok (make a)

  bad_was : (x : Result A NodeFault) (m : ℕ) → with_made x ≡ Err (BadLine m) → x ≡ Err (BadLine m)
  bad_was (Ok a) m e = absurd (ok_not_bad (make a) m e)
  bad_was (Err fault) m e = let same : fault ≡ BadLine m = cc in ap (λ (f : NodeFault). let y : Result A NodeFault = Err f in y) same

node_first : IsFirst node_in 1
unfolding node_in
node_first = keys_first (λ x. commands_at x.value.me [] x.next x.rest >>= λ (cs : Lines). Ok (node_of x.value cs)) (λ k n. then_first (λ ls. commands_at k.me [] n ls) (node_of k) n (commands_first k.me [] n))

commands_in_first : IsFirst commands_in 1
unfolding commands_in
commands_in_first = commands_first (Client 0) [] 1

abbrev IsQuietNode : ℕ → Result NodeText NodeFault → Type 0
IsQuietNode n r = (r ≡ Err (NoEnd n)) ⊎ ((b : NodeText) × (r ≡ Ok b))

-- no node's text in form begins with the lines up to the bad one
pub no_node_begins : (ls more : Lines) (n : ℕ) (t : NodeText) → node_in ls ≡ Err (BadLine n) → IsNodeText t → node_lines t ≡ take (seen n) ls ++ more → ⊥
no_node_begins ls more n t bad good begins =
    let all : seen n + 1 - 1 ≡ seen n = omega arith in
    let again : node_in (take (seen n) ls ++ more) ≡ Err (BadLine n) = ap (λ i. node_in (take i ls ++ more)) (sym all) ∙ node_first.sure ls more n bad in
    let read : node_in (take (seen n) ls ++ more) ≡ Ok t = ap node_in (sym begins) ∙ nodes_are_read t good in
    ok_not_bad t n (sym read ∙ again)

pub node_before : (ls : Lines) (n : ℕ) → node_in ls ≡ Err (BadLine n) → 1 ≤ n → (node_in (take (n - 1) ls) ≡ Err (NoEnd n)) ⊎ ((t : NodeText) × (node_in (take (n - 1) ls) ≡ Ok t))
node_before ls n bad some =
    let i : 1 + (n - 1) ≡ n = omega (arith, some) in
    subst (λ j. IsQuietNode j (node_in (take (n - 1) ls))) i (node_first.before ls n (n - 1) bad (omega (arith, some)))

-- the same of commands alone
pub no_commands_begin : (ls more : Lines) (n : ℕ) (commands : Lines) → commands_in ls ≡ Err (BadLine n) → AreCommandsOf (Client 0) commands → command_lines commands ≡ take (seen n) ls ++ more → ⊥
no_commands_begin ls more n commands bad good begins =
    let all : seen n + 1 - 1 ≡ seen n = omega arith in
    let again : commands_in (take (seen n) ls ++ more) ≡ Err (BadLine n) = ap (λ i. commands_in (take i ls ++ more)) (sym all) ∙ commands_in_first.sure ls more n bad in
    let read : commands_in (take (seen n) ls ++ more) ≡ Ok commands = ap commands_in (sym begins) ∙ commands_are_read commands good in
    ok_not_bad commands n (sym read ∙ again)

pub lone_commands_before : (ls : Lines) (n : ℕ) → commands_in ls ≡ Err (BadLine n) → 1 ≤ n → (commands_in (take (n - 1) ls) ≡ Err (NoEnd n)) ⊎ ((commands : Lines) × (commands_in (take (n - 1) ls) ≡ Ok commands))
lone_commands_before ls n bad some =
    let i : 1 + (n - 1) ≡ n = omega (arith, some) in
    subst (λ j. IsQuiet j (commands_in (take (n - 1) ls))) i (commands_in_first.before ls n (n - 1) bad (omega (arith, some)))
