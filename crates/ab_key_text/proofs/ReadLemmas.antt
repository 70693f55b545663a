-- What is read of a key text, and of a node's text, is spelled there, and is in form; and what is spelled as a node's text is read.
use Rattle.std.proofs.Common.{◌≡◌, ℕ, zero, suc, ◌+◌, ◌*◌, ◌≤◌, List, [], ◌∷◌, ◌++◌, map, Bool, true, false, Option, None, Some, Result, Ok, Err, IsTrue, codes, decimal, get_or, take, drop, length, refl, sym, ap, ◌∙◌, subst, arith, nat_le, ◌&&◌, eqb, inl, inr, if◌then◌else◌, append-nil, append_assoc}
use Rattle.std.specs.Prelude.{flat_map}
use Rattle.std.specs.List.{AllByRecursion, range_with_len}
use Rattle.std.specs.Option.{option_and_then}
use Rattle.std.specs.Str.{bytes_eq}
use Rattle.std.proofs.lemmas.Bool.{cases_Bool}
use Rattle.std.proofs.lemmas.Bool.Decides.{Decides-eqb}
use Rattle.std.proofs.lemmas.List.{take-append-drop}
use Rattle.std.proofs.lemmas.Option.{cond_some, same_Some, none-some}
use Rattle.std.proofs.lemmas.Slice.Eq.{bytes_eq-Decides}
use Rattle.hex.specs.Hex.{encode_lower}
use Rattle.ab_num.specs.declared.party.Party.{Party}
use Rattle.ab_num.specs.declared.party.Party.TheVariants.{Replica, Client}
use Rattle.ab_num.specs.declared.plan.Plan.{Plan}
use Rattle.ab_num.specs.declared.plan.ServiceName.{ServiceName}
use Rattle.ab_num.specs.declared.plan.Scheme.{Scheme}
use Rattle.ab_num.specs.Bounds.{IsInBounds}
use Rattle.ab_keys.specs.Keys.{is_party}
use Rattle.ab_keys.specs.Rings.{Peer}
use Rattle.ab_scheme.specs.Schemes.{public_length}
use Rattle.ab_text.specs.declared.fault.TextFault.{TextFault}
use Rattle.ab_text.specs.declared.fault.TextFault.TheVariants.{BadLine as BadText}
use Rattle.ab_key_text.specs.declared.version.KeyVersion.{KeyVersion}
use Rattle.ab_key_text.specs.declared.version.KeyVersion.TheVariants.{One, Two, Three}
use Rattle.ab_text.specs.Cores.{party_text}
use Rattle.ab_text.specs.Heads.{number_after, spelled_in, stripped, taken, within, plan_line, plans, service_line, services, lms_line, checkpoint_line, most_built}
use Rattle.ab_text.proofs.HeadLemmas.{name_is, number_is, spelled_has}
use Rattle.ab_text.proofs.HexLemmas.{bytes_were as spelled_bytes}
use Rattle.ab_text.proofs.WordLemmas.{stripped-is}
use Rattle.ab_key_text.specs.declared.fault.NodeFault.{NodeFault}
use Rattle.ab_key_text.specs.declared.fault.NodeFault.TheVariants.{BadLine}
use Rattle.ab_text.specs.HexBytes.{bytes_in}
use Rattle.ab_key_text.specs.Keys.{Secret, PartyKeys, IsBytes, IsSecretOf, IsPartyKeys, peers_in, replicas}
use Rattle.ab_key_text.specs.Lines.{◌>>=◌, found_at, line_at, own_schemes, bounded, number_in, numbered, or_else, party_in, bytes_after, key_in}
use Rattle.ab_key_text.specs.Nodes.{NodeText, AreCommandsOf, IsNodeText, command_in, command_line, command_lines, commands_at, commands_in, checked_command, is_command, node_in, node_lines, node_of}
use Rattle.ab_key_text.specs.Reading.{Read, KeyLines, every_at, member, ended, keys_after, keys_at, keys_in, peers_at, publics_at, put_together, secret_at, secret_in, secret_of_parts, secret_text_in, setting_at}
use Rattle.ab_key_text.specs.Spelling.{checkpoint_lines, cluster_lines, key_line, keys_line, key_lines, name_lines, peer_lines, public_lines, secret_line, secret_lines}
use Rattle.ab_key_text.specs.Versions.{key_versions, key_version_of, key_version_with}
use Rattle.ab_key_text.proofs.CommandLemmas.{in_middle}
use Rattle.ab_key_text.proofs.RoundLemmas.{setting, head_end, behind_head, from2, from3, from4, from5, from6, from7, from8, inside, lines_due, version_due, whole_read}
use Rattle.ab_key_text.proofs.SpelledLemmas.{after_secret}
use Rattle.ab_key_text.proofs.WholeLemmas.{bound}

abbrev Lines : Type 0
Lines = List (List ℕ)

front : (a b : List ℕ) → a ∷ [] ≡ b ∷ [] → a ≡ b
front a b e = ap (λ (t : Lines). get_or t 0 []) e

pub same_ok : {A : Type 0} (x y : A) → ◌≡◌ {A = Result A NodeFault} (Ok x) (Ok y) → x ≡ y
same_ok x y e = (let same : x ≡ y = cc in same)

-- ---- the parts of a line

pub word_was : (ws l rest : List ℕ) → stripped ws l ≡ Some rest → l ≡ ws ++ rest
word_was [] l rest h = same_Some l rest h
word_was (w ∷ ws) [] rest h = absurd (none-some rest h)
word_was (w ∷ ws) (b ∷ bs) rest h =
    elim (cases_Bool (eqb w b)) [
      | inl equal ↦
          let one : b ≡ w = sym ((Decides-eqb w b).0 equal) in
          let behind = word_was ws bs rest (sym (ap (λ t. if t then stripped ws bs else None) equal) ∙ h) in
          λ j. one j ∷ behind j
      | inr other ↦ absurd (none-some rest (sym (ap (λ t. if t then stripped ws bs else None) other) ∙ h))
    ]

-- what a second reading gave was read of what the first gave
pub then_was : {A B : Type 0} (f : A → Option B) (o : Option A) (b : B) → option_and_then f o ≡ Some b → (a : A) × (o ≡ Some a) × (f a ≡ Some b)
then_was f None b h = absurd (none-some b h)
then_was f (Some a) b h = (a, refl, h)

pub name_was : {A : Type 0} (spell : A → List ℕ) (all : List A) (l : List ℕ) (a : A) → spelled_in spell all l ≡ Some a → l ≡ spell a
name_was spell all l a h = front l (spell a) (name_is spell all 1 (l ∷ []) [] a (ap (taken 1 []) h))

in_text : (low high : ℕ) (o : Option ℕ) (k : ℕ) → bounded low high o ≡ Some k → within low high 1 [] o ≡ Ok (k, [])
in_text low high None k h = absurd (none-some k h)
in_text low high (Some m) k h =
    let both = cond_some (nat_le low m && nat_le m high) m k h in
    let kept : Result (ℕ × Lines) TextFault = Ok (m, []) in
    ap (λ b. if b then kept else Err (BadText 1)) both.0 ∙ ap (λ (x : ℕ). let r : Result (ℕ × Lines) TextFault = Ok (x, []) in r) both.1

pub number_was : (word : List ℕ) (low high : ℕ) (l : List ℕ) (k : ℕ) → number_in word low high l ≡ Some k → (l ≡ word ++ decimal k) × (low ≤ k) × (k ≤ high)
number_was word low high l k h =
    let all = number_is word low high 1 (l ∷ []) [] k (in_text low high (number_after word l) k h) in
    (front l (word ++ decimal k) all.0, all.1, all.2)

party_was : (text : List ℕ) (p : Party) → party_in text ≡ Some p → text ≡ party_text p
party_was text p h = go (number_in (codes "r") 0 255 text) (number_in (codes "c") 0 65535 text) refl refl h where
  go : (a b : Option ℕ) → number_in (codes "r") 0 255 text ≡ a → number_in (codes "c") 0 65535 text ≡ b → or_else (numbered Replica a) (numbered Client b) ≡ Some p → text ≡ party_text p
  go (Some r) b is other e = (number_was (codes "r") 0 255 text r is).0 ∙ ap party_text (same_Some (Replica r) p e)
  go None (Some c) other is e = (number_was (codes "c") 0 65535 text c is).0 ∙ ap party_text (same_Some (Client c) p e)
  go None None one two e = absurd (none-some p e)

bytes_were : (n : ℕ) (text b : List ℕ) → bytes_in n text ≡ Some b → (text ≡ encode_lower b) × IsBytes n b
bytes_were n text b h = let were = spelled_bytes n text b h in (were.0, record { long = were.1; small = were.2 })

bytes_after_were : (word : List ℕ) (n : ℕ) (l b : List ℕ) → bytes_after word n l ≡ Some b → (l ≡ word ++ encode_lower b) × IsBytes n b
bytes_after_were word n l b h =
    let behind = then_was (bytes_in n) (stripped word l) b h in
    let are = bytes_were n behind.0 b behind.2 in
    (word_was word l behind.0 behind.1 ∙ ap (λ t. word ++ t) are.0, are.1)

key_was : (word : List ℕ) (p : Party) (n : ℕ) (l key : List ℕ) → key_in word p n l ≡ Some key → (l ≡ key_line word p key) × IsBytes n key
key_was word p n l key h = bytes_after_were (word ++ party_text p ++ codes " ") n l key h

record IsSecretText (text : List ℕ) (s : Secret) : Type 0 where
  spelled : text ≡ encode_lower s.id ++ 32 ∷ encode_lower s.seed
  id : IsBytes 16 s.id
  seed : IsBytes 32 s.seed

parts_were : (text : List ℕ) (a b : Option (List ℕ)) (s : Secret) → bytes_in 16 (take 32 text) ≡ a → bytes_after (codes " ") 32 (drop 32 text) ≡ b → secret_of_parts a b ≡ Some s → IsSecretText text s
parts_were text None b s one two h = absurd (none-some s h)
parts_were text (Some id) None s one two h = absurd (none-some s h)
parts_were text (Some id) (Some seed) s one two h =
    let named = bytes_were 16 (take 32 text) id one in
    let valued = bytes_after_were (codes " ") 32 (drop 32 text) seed two in
    let made : Secret = record { id = id; seed = seed } in
    subst (IsSecretText text) (same_Some made s h)
    (record { spelled = sym (take-append-drop 32 text) ∙ (λ j. named.0 j ++ valued.0 j); id = named.1; seed = valued.1 })

secret_was : (l : List ℕ) (s : Secret) → secret_in l ≡ Some s → (l ≡ secret_line s) × IsBytes 16 s.id × IsBytes 32 s.seed
secret_was l s h =
    let behind = then_was secret_text_in (stripped (codes "secret ") l) s h in
    let is = parts_were behind.0 (bytes_in 16 (take 32 behind.0)) (bytes_after (codes " ") 32 (drop 32 behind.0)) s refl refl behind.2 in
    (word_was (codes "secret ") l behind.0 behind.1 ∙ ap (λ t. codes "secret " ++ t) is.spelled, is.id, is.seed)

-- ---- lines

pub found_was : {A : Type 0} (n : ℕ) (ls rest : Lines) (o : Option A) (a : A) → found_at n ls o ≡ Ok (a, rest) → (o ≡ Some a) × (ls ≡ rest)
found_was n ls rest None a h = absurd (cc)
found_was {A} n ls rest (Some b) a h =
    let both : ◌≡◌ {A = A × Lines} (b, ls) (a, rest) = cc in
    (ap (λ (p : A × Lines). Some p.0) both, ap (λ (p : A × Lines). p.1) both)

pub line_was : {A : Type 0} (read : List ℕ → Option A) (n : ℕ) (ls rest : Lines) (a : A) → line_at read n ls ≡ Ok (a, rest) → (l : List ℕ) × (ls ≡ l ∷ rest) × (read l ≡ Some a)
line_was read n [] rest a h = absurd (cc)
line_was read n (l ∷ ls) rest a h = let both = found_was n ls rest (read l) a h in (l, ap (λ t. l ∷ t) both.1, both.0)

-- a line that is known once it is read
pub line_said : {A : Type 0} (read : List ℕ → Option A) (said : A → List ℕ) → ((l : List ℕ) (a : A) → read l ≡ Some a → l ≡ said a)
    → (n : ℕ) (ls rest : Lines) (a : A) → line_at read n ls ≡ Ok (a, rest) → ls ≡ said a ∷ rest
line_said read said says n ls rest a h = let line = line_was read n ls rest a h in line.1 ∙ ap (λ t. t ∷ rest) (says line.0 a line.2)

-- ---- the head

-- a version without checkpoints goes with its schemes
abbrev Goes : KeyVersion → Scheme → Type 0
Goes One h = key_version_with h ≡ One
Goes Two h = key_version_with h ≡ Two
Goes Three h = Unit {0}

own_versions : (w : KeyVersion) → AllByRecursion (Goes w) (own_schemes w)
own_versions One = (refl, (refl, tt))
own_versions Two = (refl, tt)
own_versions Three = (tt, (tt, (tt, tt)))

scheme_goes : (w : KeyVersion) (n : ℕ) (ls rest : Lines) (h : Scheme) → line_at (spelled_in lms_line (own_schemes w)) n ls ≡ Ok (h, rest) → Goes w h
scheme_goes w n ls rest h is =
    let line = line_was (spelled_in lms_line (own_schemes w)) n ls rest h is in
    spelled_has (Goes w) lms_line (own_schemes w) line.0 h (own_versions w) line.2

-- what was read of checkpoints: this is the least version, and the lines are those that are written
record IsEvery (w : KeyVersion) (p : Plan) (h : Scheme) (ls rest : Lines) (k : ℕ) : Type 0 where
  least : key_version_of k h ≡ w
  dense : k ≤ most_built p
  lines : ls ≡ checkpoint_lines k ++ rest

none_due : (w : KeyVersion) (p : Plan) (h : Scheme) (ls rest : Lines) (k : ℕ) → key_version_with h ≡ w → ◌≡◌ {A = Result (ℕ × Lines) NodeFault} (Ok (0, ls)) (Ok (k, rest)) → IsEvery w p h ls rest k
none_due w p h ls rest k least e =
    let made : ℕ × Lines = (0, ls) in
    let out : ℕ × Lines = (k, rest) in
    subst (λ (x : ℕ × Lines). IsEvery w p h ls x.1 x.0) (same_ok made out e) (record { least = least; dense = omega arith; lines = refl })

some_due : (p : Plan) (h : Scheme) (rest : Lines) (k : ℕ) → 1 ≤ k → k ≤ most_built p → IsEvery Three p h (checkpoint_line k ∷ rest) rest k
some_due p h rest k some dense = record { least = version_due k h some; dense = dense; lines = ap (λ (t : Lines). t ++ rest) (sym (lines_due k some)) }

every_was : (w : KeyVersion) (p : Plan) (h : Scheme) (ls rest : Lines) (k : ℕ) → Goes w h → every_at w p ls ≡ Ok (k, rest) → IsEvery w p h ls rest k
every_was One p h ls rest k goes e = none_due One p h ls rest k goes e
every_was Two p h ls rest k goes e = none_due Two p h ls rest k goes e
every_was Three p h ls rest k goes e =
    let line = line_was (number_in (codes "checkpoint ") 1 (most_built p)) 8 ls rest k e in
    let is = number_was (codes "checkpoint ") 1 (most_built p) line.0 k line.2 in
    subst (λ (t : Lines). IsEvery Three p h t rest k) (sym (line.1 ∙ ap (λ l. l ∷ rest) is.0)) (some_due p h rest k is.1 is.2)

member_was : (b : Bool) (u : Unit {0}) → (let r : Result (Unit {0}) NodeFault = if b then Ok tt else Err (BadLine 2) in r) ≡ Ok u → b ≡ true
member_was true u h = refl
member_was false u h = absurd (cc)

-- three lines, and those behind them
lines_joined : (x y z : List ℕ) (ls a b c d : Lines) → ls ≡ x ∷ a → a ≡ y ∷ b → b ≡ z ∷ c → c ≡ d → ls ≡ x ∷ y ∷ z ∷ d
lines_joined x y z ls a b c d one two three rest = one ∙ ap (λ t. x ∷ t) (two ∙ ap (λ t. y ∷ t) (three ∙ ap (λ t. z ∷ t) rest))

record IsFront (s : KeyLines) (ls rest : Lines) : Type 0 where
  lines : ls ≡ keys_line (key_version_of s.every s.lms) ∷ (codes "party " ++ party_text s.me) ∷ (codes "f " ++ decimal s.f) ∷ (codes "clients " ++ decimal s.clients)
      ∷ plan_line s.plan ∷ service_line s.service ∷ lms_line s.lms ∷ (checkpoint_lines s.every ++ rest)
  bounds : IsInBounds s.f s.clients
  dense : s.every ≤ most_built s.plan
  party : is_party s.f s.clients s.me ≡ true

-- what was read from line 5 on
record AreNames (w : KeyVersion) (me : Party) (f n : ℕ) (ls : Lines) (out : Read KeyLines) : Type 0 where
  plan : Plan
  service : ServiceName
  lms : Scheme
  every : ℕ
  rest : Lines
  made : head_end w (setting me f n plan service lms every) rest ≡ out
  least : key_version_of every lms ≡ w
  dense : every ≤ most_built plan
  lines : ls ≡ plan_line plan ∷ service_line service ∷ lms_line lms ∷ (checkpoint_lines every ++ rest)

names_were : (w : KeyVersion) (me : Party) (f n : ℕ) (ls : Lines) (out : Read KeyLines) → from5 w me f n ls ≡ Ok out → AreNames w me f n ls out
names_were w me f n ls out e =
    let p = bound (line_at (spelled_in plan_line plans) 5 ls) (λ (x : Plan × Lines). from6 w me f n x.0 x.1) out e in
    let v = bound (line_at (spelled_in service_line services) 6 p.0.1) (λ (x : ServiceName × Lines). from7 w me f n p.0.0 x.0 x.1) out p.2 in
    let h = bound (line_at (spelled_in lms_line (own_schemes w)) 7 v.0.1) (λ (x : Scheme × Lines). from8 w me f n p.0.0 v.0.0 x.0 x.1) out v.2 in
    let k = bound (every_at w p.0.0 h.0.1) (λ (x : ℕ × Lines). let r : Result (Read KeyLines) NodeFault = Ok (head_end w (setting me f n p.0.0 v.0.0 h.0.0 x.0) x.1) in r) out h.2 in
    let five = line_said (spelled_in plan_line plans) plan_line (name_was plan_line plans) 5 ls p.0.1 p.0.0 p.1 in
    let six = line_said (spelled_in service_line services) service_line (name_was service_line services) 6 p.0.1 v.0.1 v.0.0 v.1 in
    let seven = line_said (spelled_in lms_line (own_schemes w)) lms_line (name_was lms_line (own_schemes w)) 7 v.0.1 h.0.1 h.0.0 h.1 in
    let eight = every_was w p.0.0 h.0.0 h.0.1 k.0.1 k.0.0 (scheme_goes w 7 v.0.1 h.0.1 h.0.0 h.1) k.1 in
    record {
      plan = p.0.0;
      service = v.0.0;
      lms = h.0.0;
      every = k.0.0;
      rest = k.0.1;
      made = same_ok (head_end w (setting me f n p.0.0 v.0.0 h.0.0 k.0.0) k.0.1) out k.2;
      least = eight.least;
      dense = eight.dense;
      lines = lines_joined (plan_line p.0.0) (service_line v.0.0) (lms_line h.0.0) ls p.0.1 v.0.1 h.0.1 (checkpoint_lines k.0.0 ++ k.0.1) five six seven eight.lines;
    }

front_is : (w : KeyVersion) (me : Party) (f n : ℕ) (ls behind : Lines) (out : Read KeyLines)
    → ls ≡ keys_line w ∷ (codes "party " ++ party_text me) ∷ (codes "f " ++ decimal f) ∷ (codes "clients " ++ decimal n) ∷ behind
    → IsInBounds f n → is_party f n me ≡ true → AreNames w me f n behind out → IsFront out.value ls out.rest
front_is w me f n ls behind out begun bounds inside_it names =
    let least = names.least in
    let lines = names.lines in
    subst (λ (x : Read KeyLines). IsFront x.value ls x.rest) names.made (record {
      lines = begun ∙ (λ j. keys_line (sym least j) ∷ (codes "party " ++ party_text me) ∷ (codes "f " ++ decimal f) ∷ (codes "clients " ++ decimal n) ∷ lines j);
      bounds = bounds;
      dense = names.dense;
      party = inside_it;
    })

setting_was : (ls : Lines) (out : Read KeyLines) → setting_at ls ≡ Ok out → IsFront out.value ls out.rest
unfolding setting_at
setting_was ls out e =
    let read_party : List ℕ → Option Party = λ l. option_and_then party_in (stripped (codes "party ") l) in
    let a = bound (line_at (spelled_in keys_line key_versions) 1 ls) (λ (x : KeyVersion × Lines). from2 x.0 x.1) out e in
    let w = a.0.0 in
    let b = bound (line_at read_party 2 a.0.1) (λ (x : Party × Lines). from3 w x.0 x.1) out a.2 in
    let me = b.0.0 in
    let c = bound (line_at (number_in (codes "f ") 1 2) 3 b.0.1) (λ (x : ℕ × Lines). from4 w me x.0 x.1) out b.2 in
    let f = c.0.0 in
    let d = bound (line_at (number_in (codes "clients ") 1 16) 4 c.0.1) (λ (x : ℕ × Lines). inside w me f x.0 x.1) out c.2 in
    let n = d.0.0 in
    let m = bound (member f n me) (λ (x : Unit {0}). from5 w me f n d.0.1) out d.2 in
    let one = line_said (spelled_in keys_line key_versions) keys_line (name_was keys_line key_versions) 1 ls a.0.1 w a.1 in
    let two = line_said read_party (λ q. codes "party " ++ party_text q)
    (λ l q is_read. let behind = then_was party_in (stripped (codes "party ") l) q is_read in word_was (codes "party ") l behind.0 behind.1 ∙ ap (λ t. codes "party " ++ t) (party_was behind.0 q behind.2)) 2 a.0.1 b.0.1 me b.1 in
    let three = line_was (number_in (codes "f ") 1 2) 3 b.0.1 c.0.1 f c.1 in
    let f_is = number_was (codes "f ") 1 2 three.0 f three.2 in
    let four = line_was (number_in (codes "clients ") 1 16) 4 c.0.1 d.0.1 n d.1 in
    let n_is = number_was (codes "clients ") 1 16 four.0 n four.2 in
    front_is w me f n ls d.0.1 out
    (lines_joined (keys_line w) (codes "party " ++ party_text me) (codes "f " ++ decimal f) ls a.0.1 b.0.1 c.0.1 ((codes "clients " ++ decimal n) ∷ d.0.1) one two
    (three.1 ∙ ap (λ (l : List ℕ). l ∷ c.0.1) f_is.0) (four.1 ∙ ap (λ (l : List ℕ). l ∷ d.0.1) n_is.0))
    (record { some_faulty = f_is.1; few_faulty = f_is.2; some_client = n_is.1; few_clients = n_is.2 })
    (member_was (is_party f n me) m.0 m.1)
    (names_were w me f n d.0.1 out m.2)

-- ---- what comes after it

record IsSecretRead (me : Party) (ls : Lines) (x : Read (Option Secret)) : Type 0 where
  lines : ls ≡ secret_lines x.value ++ x.rest
  secret : IsSecretOf me x.value

secret_read_was : (me : Party) (n : ℕ) (ls : Lines) (x : Read (Option Secret)) → secret_at me n ls ≡ Ok x → IsSecretRead me ls x
secret_read_was (Client c) n ls x e =
    let made : Read (Option Secret) = record { value = None; next = n; rest = ls } in
    let same : made ≡ x = same_ok made x e in
    subst (IsSecretRead (Client c) ls) same (record { lines = refl; secret = tt })
secret_read_was (Replica r) n ls x e =
    let a = bound (line_at secret_in n ls) (λ (y : Secret × Lines). let r : Result (Read (Option Secret)) NodeFault = Ok (record { value = Some y.0; next = n + 1; rest = y.1 }) in r) x e in
    let made : Read (Option Secret) = record { value = Some a.0.0; next = n + 1; rest = a.0.1 } in
    let same : made ≡ x = same_ok made x a.2 in
    let line = line_was secret_in n ls a.0.1 a.0.0 a.1 in
    let said = secret_was line.0 a.0.0 line.2 in
    subst (IsSecretRead (Replica r) ls) same (record { lines = line.1 ∙ ap (λ t. t ∷ a.0.1) said.0; secret = (said.1, said.2) })

record ArePeersRead (ps : List Party) (done : List Peer) (ls : Lines) (x : Read (List Peer)) (xs : List Peer) : Type 0 where
  value : x.value ≡ done ++ xs
  parties : map (λ y. y.party) xs ≡ ps
  keys : AllByRecursion (λ y. IsBytes 32 y.to × IsBytes 32 y.from) xs
  lines : ls ≡ flat_map peer_lines xs ++ x.rest

peers_were : (ps : List Party) (done : List Peer) (n : ℕ) (ls : Lines) (x : Read (List Peer)) → peers_at ps done n ls ≡ Ok x → (xs : List Peer) × ArePeersRead ps done ls x xs
peers_were [] done n ls x e =
    let made : Read (List Peer) = record { value = done; next = n; rest = ls } in
    let same : made ≡ x = same_ok made x e in
    ([], subst (λ y. ArePeersRead [] done ls y []) same (record { value = sym (append-nil done); parties = refl; keys = tt; lines = refl }))
peers_were (p ∷ ps) done n ls x e =
    let a = bound (line_at (key_in (codes "out ") p 32) n ls) (λ (y : List ℕ × Lines). line_at (key_in (codes "in ") p 32) (n + 1) y.1 >>= λ (z : List ℕ × Lines). peers_at ps (done ++ record { party = p; to = y.0; from = z.0 } ∷ []) (n + 2) z.1) x e in
    let b = bound (line_at (key_in (codes "in ") p 32) (n + 1) a.0.1) (λ (z : List ℕ × Lines). peers_at ps (done ++ record { party = p; to = a.0.0; from = z.0 } ∷ []) (n + 2) z.1) x a.2 in
    let peer : Peer = record { party = p; to = a.0.0; from = b.0.0 } in
    let r = peers_were ps (done ++ peer ∷ []) (n + 2) b.0.1 x b.2 in
    let one = line_was (key_in (codes "out ") p 32) n ls a.0.1 a.0.0 a.1 in
    let out = key_was (codes "out ") p 32 one.0 a.0.0 one.2 in
    let two = line_was (key_in (codes "in ") p 32) (n + 1) a.0.1 b.0.1 b.0.0 b.1 in
    let into = key_was (codes "in ") p 32 two.0 b.0.0 two.2 in (
      peer ∷ r.0,
      record {
        value = r.1.value ∙ append_assoc done (peer ∷ []) r.0;
        parties = ap (λ l. p ∷ l) r.1.parties;
        keys = ((out.1, into.1), r.1.keys);
        lines = (one.1 ∙ ap (λ t. t ∷ a.0.1) out.0) ∙ ap (λ t. key_line (codes "out ") p a.0.0 ∷ t) ((two.1 ∙ ap (λ t. t ∷ b.0.1) into.0) ∙ ap (λ t. key_line (codes "in ") p b.0.0 ∷ t) r.1.lines);
      },
    )

pub record ArePublicsRead (long r m : ℕ) (done : Lines) (ls : Lines) (x : Read Lines) (keys : Lines) : Type 0 where
  pub value : x.value ≡ done ++ keys
  pub many : length keys ≡ m
  pub each : AllByRecursion (IsBytes long) keys
  pub lines : ls ≡ public_lines r keys ++ x.rest

pub publics_were : (long m r : ℕ) (done : Lines) (n : ℕ) (ls : Lines) (x : Read Lines) → publics_at long (map Replica (range_with_len r m)) done n ls ≡ Ok x → (keys : Lines) × ArePublicsRead long r m done ls x keys
publics_were long zero r done n ls x e =
    let made : Read Lines = record { value = done; next = n; rest = ls } in
    let same : made ≡ x = same_ok made x e in
    ([], subst (λ y. ArePublicsRead long r 0 done ls y []) same (record { value = sym (append-nil done); many = refl; each = tt; lines = refl }))
publics_were long (suc m) r done n ls x e =
    let a = bound (line_at (key_in (codes "public ") (Replica r) long) n ls) (λ (y : List ℕ × Lines). publics_at long (map Replica (range_with_len (r + 1) m)) (done ++ y.0 ∷ []) (n + 1) y.1) x e in
    let rest = publics_were long m (r + 1) (done ++ a.0.0 ∷ []) (n + 1) a.0.1 x a.2 in
    let one = line_was (key_in (codes "public ") (Replica r) long) n ls a.0.1 a.0.0 a.1 in
    let said = key_was (codes "public ") (Replica r) long one.0 a.0.0 one.2 in (
      a.0.0 ∷ rest.0,
      record {
        value = rest.1.value ∙ append_assoc done (a.0.0 ∷ []) rest.0;
        many = ap suc rest.1.many;
        each = (said.1, rest.1.each);
        lines = (one.1 ∙ ap (λ t. t ∷ a.0.1) said.0) ∙ ap (λ t. key_line (codes "public ") (Replica r) a.0.0 ∷ t) rest.1.lines;
      },
    )

-- ---- together

-- the keys stand at the front of the lines
record AreAtFront (ls : Lines) (x : Read PartyKeys) : Type 0 where
  form : IsPartyKeys x.value
  lines : ls ≡ key_lines x.value ++ x.rest

joined : (a b c d e rest : Lines) → a ++ (b ++ (c ++ (d ++ (e ++ rest)))) ≡ (a ++ (b ++ (c ++ (d ++ e)))) ++ rest
joined a b c d e rest =
    ap (λ t. a ++ (b ++ (c ++ t))) (sym (append_assoc d e rest)) ∙ ap (λ t. a ++ (b ++ t)) (sym (append_assoc c (d ++ e) rest))
    ∙ ap (λ t. a ++ t) (sym (append_assoc b (c ++ (d ++ e)) rest)) ∙ sym (append_assoc a (b ++ (c ++ (d ++ e))) rest)

behind_were : (s : KeyLines) (n : ℕ) (all ls : Lines) (x : Read PartyKeys) → IsFront s all ls → keys_after s n ls ≡ Ok x → AreAtFront all x
unfolding keys_after
behind_were s n all ls x begins e =
    let T : Type 0 = Result (Read PartyKeys) NodeFault in
    let secret = bound (secret_at s.me n ls) (λ (a : Read (Option Secret)). peers_at (peers_in s.f s.clients s.me) [] a.next a.rest >>= λ (b : Read (List Peer)). publics_at (public_length s.lms) (replicas s.f) [] b.next b.rest >>= λ (c : Read Lines). let r : T = Ok (record { value = put_together s a.value b.value c.value; next = c.next; rest = c.rest }) in r) x e in
    let peers = bound (peers_at (peers_in s.f s.clients s.me) [] secret.0.next secret.0.rest) (λ (b : Read (List Peer)). publics_at (public_length s.lms) (replicas s.f) [] b.next b.rest >>= λ (c : Read Lines). let r : T = Ok (record { value = put_together s secret.0.value b.value c.value; next = c.next; rest = c.rest }) in r) x secret.2 in
    let publics = bound (publics_at (public_length s.lms) (replicas s.f) [] peers.0.next peers.0.rest) (λ (c : Read Lines). let r : T = Ok (record { value = put_together s secret.0.value peers.0.value c.value; next = c.next; rest = c.rest }) in r) x peers.2 in
    let made : Read PartyKeys = record { value = put_together s secret.0.value peers.0.value publics.0.value; next = publics.0.next; rest = publics.0.rest } in
    let same : made ≡ x = same_ok made x publics.2 in
    let own = secret_read_was s.me n ls secret.0 secret.1 in
    let others = peers_were (peers_in s.f s.clients s.me) [] secret.0.next secret.0.rest peers.0 peers.1 in
    let each = publics_were (public_length s.lms) (3 * s.f + 1) 0 [] peers.0.next peers.0.rest publics.0 publics.1 in
    let peers_are : others.0 ≡ peers.0.value = sym others.1.value in
    let publics_are : each.0 ≡ publics.0.value = sym each.1.value in
    subst (AreAtFront all) same (record {
      form = record {
        bounds = begins.bounds;
        dense = begins.dense;
        party = begins.party;
        secret = own.secret;
        peers = subst (λ xs. map (λ y. y.party) xs ≡ peers_in s.f s.clients s.me) peers_are others.1.parties;
        keys = subst (λ xs. AllByRecursion (λ y. IsBytes 32 y.to × IsBytes 32 y.from) xs) peers_are others.1.keys;
        public_of_each = subst (λ (keys : Lines). length keys ≡ 3 * s.f + 1) publics_are each.1.many;
        publics = subst (λ (keys : Lines). AllByRecursion (IsBytes (public_length s.lms)) keys) publics_are each.1.each;
      };
      lines = begins.lines
          ∙ ap (λ t. cluster_lines made.value ++ (name_lines made.value ++ t)) (own.lines
          ∙ ap (λ t. secret_lines secret.0.value ++ t) ((others.1.lines ∙ ap (λ xs. flat_map peer_lines xs ++ peers.0.rest) peers_are)
          ∙ ap (λ t. flat_map peer_lines peers.0.value ++ t) (each.1.lines ∙ ap (λ keys. public_lines 0 keys ++ publics.0.rest) publics_are)))
          ∙ joined (cluster_lines made.value) (name_lines made.value) (secret_lines secret.0.value) (flat_map peer_lines peers.0.value) (public_lines 0 publics.0.value) publics.0.rest;
    })

front_were : (ls : Lines) (x : Read PartyKeys) → keys_at ls ≡ Ok x → AreAtFront ls x
unfolding keys_at
front_were ls x e =
    let s = bound (setting_at ls) (λ (s : Read KeyLines). keys_after s.value s.next s.rest) x e in
    behind_were s.0.value s.0.next ls s.0.rest x (setting_was ls s.0 s.1) s.2

pub ended_was : {A : Type 0} (a : A) (n : ℕ) (ls : Lines) (b : A) → ended a n ls ≡ Ok b → (ls ≡ []) × (a ≡ b)
ended_was a n [] b e = (refl, same_ok a b e)
ended_was a n (l ∷ ls) b e = absurd (cc)

pub keys_are_spelled : (ls : Lines) (k : PartyKeys) → keys_in ls ≡ Ok k → (ls ≡ key_lines k) × IsPartyKeys k
unfolding keys_in
keys_are_spelled ls k e =
    let x = bound (keys_at ls) (λ (x : Read PartyKeys). ended x.value x.next x.rest) k e in
    let last = ended_was x.0.value x.0.next x.0.rest k x.2 in
    let at = front_were ls x.0 x.1 in
    subst (λ (q : PartyKeys). (ls ≡ key_lines q) × IsPartyKeys q) last.1
    ((at.lines ∙ ap (λ t. key_lines x.0.value ++ t) last.0 ∙ append-nil (key_lines x.0.value)), at.form)

-- ---- commands

record AreCommandsRead (me : Party) (done ls out commands : Lines) : Type 0 where
  value : out ≡ done ++ commands
  form : AreCommandsOf me commands
  lines : ls ≡ command_lines commands

command_was : (me : Party) (l c : List ℕ) (commands : Lines) → command_in me l ≡ Some c → AreCommandsOf me commands → (l ≡ command_line c) × AreCommandsOf me (c ∷ commands)
command_was (Replica r) l c commands h are = absurd (none-some c h)
command_was (Client n) l c commands h are =
    let behind = then_was checked_command (stripped (codes "do ") l) c h in
    let both = cond_some (is_command behind.0) behind.0 c behind.2 in
    (word_was (codes "do ") l behind.0 behind.1 ∙ ap (λ t. codes "do " ++ t) both.1, (subst (λ t. IsTrue (is_command t)) both.1 both.0, are))

no_commands : (me : Party) → AreCommandsOf me []
no_commands (Replica r) = refl
no_commands (Client c) = tt

commands_were : (ls : Lines) (me : Party) (done : Lines) (n : ℕ) (out : Lines) → commands_at me done n ls ≡ Ok out → (commands : Lines) × AreCommandsRead me done ls out commands
commands_were [] me done n out e = absurd (cc)
commands_were (l ∷ ls) me done n out e = go (λ x. commands_were ls me (done ++ x.0 ∷ []) (n + 1) out) (bytes_eq l (codes "end")) refl e where
  go : ((x : List ℕ × Lines) → commands_at me (done ++ x.0 ∷ []) (n + 1) ls ≡ Ok out → (commands : Lines) × AreCommandsRead me (done ++ x.0 ∷ []) ls out commands)
      → (b : Bool) → bytes_eq l (codes "end") ≡ b
      → (if b then ended done (n + 1) ls else in_middle me done n ls (command_in me l)) ≡ Ok out → (commands : Lines) × AreCommandsRead me done (l ∷ ls) out commands
  go rest true said was =
      let last = ended_was done (n + 1) ls out was in (
        [],
        record {
          value = sym last.1 ∙ sym (append-nil done);
          form = no_commands me;
          lines = λ j. (bytes_eq-Decides l (codes "end")).0 said j ∷ last.0 j;
        },
      )
  go rest false said was =
      let x = bound (found_at n ls (command_in me l)) (λ (x : List ℕ × Lines). commands_at me (done ++ x.0 ∷ []) (n + 1) ls) out was in
      let both = found_was n ls x.0.1 (command_in me l) x.0.0 x.1 in
      let more = rest x.0 x.2 in
      let is = command_was me l x.0.0 more.0 both.0 more.1.form in (
        x.0.0 ∷ more.0,
        record {
          value = more.1.value ∙ append_assoc done (x.0.0 ∷ []) more.0;
          form = is.1;
          lines = λ j. is.0 j ∷ more.1.lines j;
        },
      )

pub nodes_are_spelled : (ls : Lines) (n : NodeText) → node_in ls ≡ Ok n → (ls ≡ node_lines n) × IsNodeText n
unfolding node_in
nodes_are_spelled ls n e =
    let x = bound (keys_at ls) (λ (k : Read PartyKeys). commands_at k.value.me [] k.next k.rest >>= λ (cs : Lines). Ok (node_of k.value cs)) n e in
    let at = front_were ls x.0 x.1 in
    let y = bound (commands_at x.0.value.me [] x.0.next x.0.rest) (λ (cs : Lines). let r : Result NodeText NodeFault = Ok (node_of x.0.value cs) in r) n x.2 in
    let tail = commands_were x.0.rest x.0.value.me [] x.0.next y.0 y.1 in
    let same : node_of x.0.value tail.0 ≡ n = ap (node_of x.0.value) (sym tail.1.value) ∙ same_ok (node_of x.0.value y.0) n y.2 in
    subst (λ (q : NodeText). (ls ≡ node_lines q) × IsNodeText q) same
    ((at.lines ∙ ap (λ t. key_lines x.0.value ++ t) tail.1.lines), record { keys = at.form; commands = tail.1.form })

pub commands_are_spelled : (ls commands : Lines) → commands_in ls ≡ Ok commands → (ls ≡ command_lines commands) × AreCommandsOf (Client 0) commands
unfolding commands_in
commands_are_spelled ls commands e =
    let read = commands_were ls (Client 0) [] 1 commands e in
    subst (λ (cs : Lines). (ls ≡ command_lines cs) × AreCommandsOf (Client 0) cs) (sym read.1.value) (read.1.lines, read.1.form)

-- ---- what is spelled is read

is_end : (me : Party) (done : Lines) (n : ℕ) (ls : Lines) → commands_at me done n (codes "end" ∷ ls) ≡ ended done (n + 1) ls
is_end me done n ls =
    ap (λ b. if b then ended done (n + 1) ls else in_middle me done n ls (command_in me (codes "end"))) ((bytes_eq-Decides (codes "end") (codes "end")).1 refl)

command_read : (me : Party) (c : List ℕ) (commands : Lines) → AreCommandsOf me (c ∷ commands) → (command_in me (command_line c) ≡ Some c) × AreCommandsOf me commands
command_read (Replica r) c commands are = absurd (cc)
command_read (Client n) c commands are =
    (ap (option_and_then checked_command) (stripped-is (codes "do ") (command_line c) c refl) ∙ ap (λ b. if b then Some c else None) are.0, are.1)

commands_read : (commands : Lines) (me : Party) (done : Lines) (n : ℕ) → AreCommandsOf me commands → commands_at me done n (command_lines commands) ≡ Ok (done ++ commands)
commands_read [] me done n are = is_end me done n [] ∙ ap (λ t. let r : Result Lines NodeFault = Ok t in r) (sym (append-nil done))
commands_read (c ∷ commands) me done n are =
    let behind : Lines = command_lines commands in
    let line = command_read me c commands are in
    let other : bytes_eq (command_line c) (codes "end") ≡ false = refl in
    ap (λ b. if b then ended done (n + 1) behind else in_middle me done n behind (command_in me (command_line c))) other
    ∙ ap (in_middle me done n behind) line.0
    ∙ commands_read commands me (done ++ c ∷ []) (n + 1) line.1
    ∙ ap (λ t. let r : Result Lines NodeFault = Ok t in r) (append_assoc done (c ∷ []) commands)

pub commands_are_read : (commands : Lines) → AreCommandsOf (Client 0) commands → commands_in (command_lines commands) ≡ Ok commands
unfolding commands_in
commands_are_read commands are = commands_read commands (Client 0) [] 1 are

pub nodes_are_read : (n : NodeText) → IsNodeText n → node_in (node_lines n) ≡ Ok n
unfolding node_in
nodes_are_read n good =
    let k = n.keys in
    let tail : Lines = command_lines n.commands in
    let last = after_secret (behind_head k) k.secret + 2 * length k.peers + length k.publics in
    let all : node_lines n ≡ cluster_lines k ++ (name_lines k ++ (secret_lines k.secret ++ (flat_map peer_lines k.peers ++ (public_lines 0 k.publics ++ tail)))) =
    sym (joined (cluster_lines k) (name_lines k) (secret_lines k.secret) (flat_map peer_lines k.peers) (public_lines 0 k.publics) tail) in
    let behind : Read PartyKeys → Result NodeText NodeFault = λ x. commands_at x.value.me [] x.next x.rest >>= λ (cs : Lines). Ok (node_of x.value cs) in
    ap (λ ls. keys_at ls >>= behind) all
    ∙ ap (λ (r : Result (Read PartyKeys) NodeFault). r >>= behind) (whole_read k tail good.keys)
    ∙ ap (λ (r : Result Lines NodeFault). r >>= λ (cs : Lines). let t : Result NodeText NodeFault = Ok (node_of k cs) in t) (commands_read n.commands k.me [] last good.commands)
