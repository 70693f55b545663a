-- Whom an audit accuses, and what shows it.
use Rattle.std.proofs.Common.{◌≡◌, ◌≢◌, ◌↔◌, ℕ, suc, ◌+◌, List, [], ◌∷◌, ◌++◌, Bool, true, false, not, Option, Some, None, is_some, Result, Ok, Err, map, take, ap, sym, ◌∙◌, refl, subst, arith, if◌then◌else◌, inl, inr, true≢false}
use Rattle.std.specs.Prelude.{flat_map, All, slice_get}
use Rattle.std.specs.List.{Contains, IsDistinct, filter}
use Rattle.std.specs.Option.{option_to_list}
use Rattle.std.specs.Str.{bytes_eq}
use Rattle.std.proofs.lemmas.Bool.{cases_Bool, false≢true}
use Rattle.std.proofs.lemmas.Grind.{flat_map-append}
use Rattle.std.proofs.lemmas.List.{map-append}
use Rattle.std.proofs.lemmas.List.Sums.{fold-append}
use Rattle.std.proofs.lemmas.List.Elements.{All-contains, Contains-append_cases}
use Rattle.std.proofs.lemmas.Slice.Eq.{bytes_eq-Decides}
use Rattle.ab_num.specs.Bounds.{IsInBounds}
use Rattle.ab_num.specs.declared.party.Party.{Party}
use Rattle.ab_num.specs.declared.party.Party.TheVariants.{Client}
use Rattle.ab_num.proofs.Lists.{Contains-cons_cases, Contains-filter, Contains-filter_cases, Contains-head, Contains-map, Contains-map_cases, Contains-none, Contains-one, Contains-tail, flat_map_cases}
use Rattle.ab_form.specs.declared.bad.Bad.{Bad}
use Rattle.ab_form.specs.Formats.{IsBytes, IsWhole}
use Rattle.ab_msg.specs.declared.content.Content.{Content}
use Rattle.ab_msg.specs.declared.message.Msg.{Msg}
use Rattle.ab_msg.specs.Claims.{claims, maker_of}
use Rattle.ab_msg.specs.Contents.{IsContent, spell_content}
use Rattle.ab_msg.specs.Messages.{IsMessage, spell_message}
use Rattle.ab_check.specs.Checks.{Check, Token, by_tag, by_sig, checks_of}
use Rattle.ab_open.specs.Messages.{message_of}
use Rattle.ab_sign.specs.declared.key.SignKey.{SignKey}
use Rattle.ab_sign.specs.Judges.{is_sig_from}
use Rattle.ab_audit.specs.declared.accusation.Accusation.{Accusation}
use Rattle.ab_audit.specs.Statements.{Statement, signed_at, signed_by, statements_in}
use Rattle.ab_audit.specs.Accusations.{IsAccused, IsContradicted, accusation_eq, found_among, found_as, found_by, found_in, subject_of}
use Rattle.ab_audit.specs.Exhibits.{Contradict, Exhibit, IsExhibit, evidence, exhibit, exhibits_from, first_two, is_about, is_other, is_subject}
use Rattle.ab_audit.specs.Kept.{Finding, Kept, Note, accused_in, finding_of, keep, keep_all, note_at, note_of, nothing, other_of, shown_in}
use Rattle.ab_audit.specs.Audits.{Auditing, begun, told, told_all, told_from}
use Rattle.ab_audit.proofs.EqLemmas.{is_listed, listed, one_accusation, same_accusation}
use Rattle.ab_audit.proofs.ListLemmas.{flat_map-map}
use Rattle.ab_audit.proofs.StatementLemmas.{checked-signed}
use Rattle.ab_audit.proofs.EvidenceLemmas.{IsKept, all_kept, second}
use Rattle.ab_audit.proofs.OnceLemmas.{any_subject, once_all}

-- ---- all messages

told_kept : (a : Auditing) (n : ℕ) (inputs : List (List ℕ)) → (told_from a n inputs).kept ≡ keep_all a.kept (flat_map note_of (exhibits_from a.keys n inputs))
told_kept a n [] = refl
told_kept a n (b ∷ bs) =
    let found = found_as a.keys (message_of b) in
    let rest = exhibits_from a.keys (n + 1) bs in
    told_kept (told a n (message_of b)) (n + 1) bs
    ∙ sym (fold-append keep a.kept (flat_map (note_at n) found) (flat_map note_of rest))
    ∙ ap (λ (l : List Note). keep_all a.kept (l ++ flat_map note_of rest)) (sym (flat_map-map note_of (exhibit n) found))
    ∙ ap (keep_all a.kept) (sym (flat_map-append note_of (map (exhibit n) found) rest))

all_told : (keys : List SignKey) (inputs : List (List ℕ)) → (told_all (begun keys) inputs).kept ≡ keep_all nothing (flat_map note_of (exhibits_from keys 1 inputs))
all_told keys inputs = told_kept (begun keys) 1 inputs

none_twice : IsDistinct accusation_eq []
unfolding IsDistinct
none_twice = tt

pub accused_once : (keys : List SignKey) (inputs : List (List ℕ)) → IsDistinct accusation_eq (accused_in (told_all (begun keys) inputs).kept)
accused_once keys inputs =
    subst (λ (k : Kept). IsDistinct accusation_eq (accused_in k)) (sym (all_told keys inputs)) (once_all nothing (flat_map note_of (exhibits_from keys 1 inputs)) none_twice)

module _ (keys : List SignKey) (inputs : List (List ℕ)) (a : Accusation) where
  abbrev about : List Exhibit
  about = filter (is_about a) (exhibits_from keys 1 inputs)

  all_is : IsKept a (told_all (begun keys) inputs).kept about
  all_is = subst (λ (k : Kept). IsKept a k about) (sym (all_told keys inputs)) (all_kept a (exhibits_from keys 1 inputs) nothing (record { first = refl; other = refl }))

  pub evidence_kept : shown_in (told_all (begun keys) inputs).kept a ≡ map finding_of (evidence keys inputs a)
  evidence_kept = all_is.shown

-- ---- exhibits and what is found

same_contents : (n : ℕ) (cs : List Content) → map (λ (e : Exhibit). e.content) (map (exhibit n) cs) ≡ cs
same_contents n [] = refl
same_contents n (c ∷ cs) = ap (λ l. c ∷ l) (same_contents n cs)

all_contents : (keys : List SignKey) (n : ℕ) (inputs : List (List ℕ)) → map (λ (e : Exhibit). e.content) (exhibits_from keys n inputs) ≡ found_among keys inputs
all_contents keys n [] = refl
all_contents keys n (b ∷ bs) =
    let found = found_as keys (message_of b) in
    map-append (λ (e : Exhibit). e.content) (map (exhibit n) found) (exhibits_from keys (n + 1) bs)
    ∙ (λ j. same_contents n found j ++ all_contents keys (n + 1) bs j)

-- the message of an exhibit
record Place (keys : List SignKey) (n : ℕ) (inputs : List (List ℕ)) (e : Exhibit) : Type 0 where
  index : ℕ
  number : e.number ≡ index + n
  bytes : List ℕ
  message : slice_get inputs index ≡ Some bytes
  found : Contains (found_as keys (message_of bytes)) e.content

place_of : (keys : List SignKey) (n : ℕ) (inputs : List (List ℕ)) (e : Exhibit) → Contains (exhibits_from keys n inputs) e → Place keys n inputs e
place_of keys n [] e is = absurd (Contains-none e is)
place_of keys n (b ∷ bs) e is = elim (Contains-append_cases (map (exhibit n) (found_as keys (message_of b))) (exhibits_from keys (n + 1) bs) e is) [
  | inl here ↦
      let c = Contains-map_cases (exhibit n) (found_as keys (message_of b)) e here in
      subst (Place keys n (b ∷ bs)) c.2 (record { index = 0; number = omega arith; bytes = b; message = refl; found = c.1 })
  | inr more ↦
      let p = place_of keys (n + 1) bs e more in
      let far = p.number in
      record { index = suc p.index; number = omega (arith, far); bytes = p.bytes; message = p.message; found = p.found }
]

is_its_subject : (a : Accusation) (s : Option Accusation) → is_subject a s ≡ true → s ≡ Some a
is_its_subject a None h = absurd (false≢true h)
is_its_subject a (Some b) h = ap Some (sym (one_accusation a b h))

subject_is : (a : Accusation) (s : Option Accusation) → s ≡ Some a → is_subject a s ≡ true
subject_is a s e = ap (is_subject a) e ∙ same_accusation a

module _ (keys : List SignKey) (inputs : List (List ℕ)) (a : Accusation) where
  is_exhibit : (e : Exhibit) → Contains (about keys inputs a) e → IsExhibit keys inputs a e
  is_exhibit e is =
      let both = Contains-filter_cases (is_about a) (exhibits_from keys 1 inputs) e is in
      let p = place_of keys 1 inputs e both.0 in
      record { index = p.index; number = p.number; bytes = p.bytes; message = p.message; found = p.found; about = is_its_subject a (subject_of e.content) both.1 }

  exhibited : (c : Content) → Contains (found_among keys inputs) c → subject_of c ≡ Some a → (e : Exhibit) × Contains (about keys inputs a) e × (e.content ≡ c)
  exhibited c found is =
      let e = Contains-map_cases (λ (x : Exhibit). x.content) (exhibits_from keys 1 inputs) c (subst (λ l. Contains l c) (sym (all_contents keys 1 inputs)) found) in
      (e.0, Contains-filter (is_about a) (exhibits_from keys 1 inputs) e.0 e.1 (subject_is a (subject_of e.0.content) (ap subject_of e.2 ∙ is)), e.2)

  was_found : (e : Exhibit) → Contains (about keys inputs a) e → Contains (found_among keys inputs) e.content
  was_found e is =
      let both = Contains-filter_cases (is_about a) (exhibits_from keys 1 inputs) e is in
      subst (λ l. Contains l e.content) (all_contents keys 1 inputs) (Contains-map (λ (x : Exhibit). x.content) (exhibits_from keys 1 inputs) e both.0)

-- ---- two different ones

record Two (es : List Exhibit) : Type 0 where
  one : Exhibit
  other : Exhibit
  are : first_two es ≡ one ∷ other ∷ []
  has_one : Contains es one
  has_other : Contains es other
  differ : is_other one other ≡ true

two_of : (es : List Exhibit) → (second es ≡ [] → ⊥) → Two es
two_of [] not_none = absurd (not_none refl)
two_of (e ∷ es) not_none = by (filter (is_other e) es) refl
  where
    by : (others : List Exhibit) → others ≡ filter (is_other e) es → Two (e ∷ es)
    by [] is = absurd (not_none (ap (take 1) (sym is)))
    by (f ∷ more) is =
        let has = Contains-filter_cases (is_other e) es f (subst (λ l. Contains l f) is (Contains-head f more)) in
        record {
          one = e;
          other = f;
          are = ap (λ l. e ∷ take 1 l) (sym is);
          has_one = Contains-head e es;
          has_other = Contains-tail e f es has.0;
          differ = has.1;
        }

some_two : (es : List Exhibit) (o : Option Finding) → option_to_list o ≡ map finding_of (second es) → is_some o ≡ true → Two es
some_two es None kept has = absurd (false≢true has)
some_two es (Some g) kept has = two_of es (λ none. let never : g ∷ [] ≡ [] = kept ∙ ap (map finding_of) none in absurd (cc))

-- if none differs from the first, all are the same
module _ (e : Exhibit) (es : List Exhibit) (none : filter (is_other e) es ≡ []) where
  not_false : (b : Bool) → not b ≡ false → b ≡ true
  not_false true h = refl
  not_false false h = absurd (true≢false h)

  same_text : (x : Exhibit) → Contains (e ∷ es) x → spell_content e.content ≡ spell_content x.content
  same_text x is = elim (Contains-cons_cases e es x is) [
    | inl first ↦ ap (λ (y : Exhibit). spell_content y.content) first
    | inr more ↦ elim (cases_Bool (is_other e x)) [
      | inl differs ↦ absurd (Contains-none x (subst (λ l. Contains l x) none (Contains-filter (is_other e) es x more differs)))
      | inr same ↦ (bytes_eq-Decides (spell_content e.content) (spell_content x.content)).0 (not_false (bytes_eq (spell_content e.content) (spell_content x.content)) same)
    ]
  ]

none_of : (fs : List Exhibit) → take 1 fs ≡ [] → fs ≡ []
none_of [] h = refl
none_of (f ∷ fs) h = let never : f ∷ [] ≡ [] = h in absurd (cc)

none_mapped : (fs : List Exhibit) → [] ≡ map finding_of fs → fs ≡ []
none_mapped [] h = refl
none_mapped (f ∷ fs) h = let never : [] ≡ finding_of f ∷ map finding_of fs = h in absurd (cc)

all_same : (es : List Exhibit) → second es ≡ [] → (x y : Exhibit) → Contains es x → Contains es y → spell_content x.content ≡ spell_content y.content
all_same [] none x y has_x has_y = absurd (Contains-none x has_x)
all_same (e ∷ es) none x y has_x has_y =
    let alone = none_of (filter (is_other e) es) none in
    sym (same_text e es alone x has_x) ∙ same_text e es alone y has_y

two_some : (es : List Exhibit) (o : Option Finding) → option_to_list o ≡ map finding_of (second es)
    → (x y : Exhibit) → Contains es x → Contains es y → spell_content x.content ≢ spell_content y.content → is_some o ≡ true
two_some es None kept x y has_x has_y differ = absurd (differ (all_same es (none_mapped (second es) kept) x y has_x has_y))
two_some es (Some g) kept x y has_x has_y differ = refl

-- ---- what is found is of the grammar

signed_content : (c : Content) (t : Token) (s : Statement) → Contains (signed_by c t) s → s.content ≡ c
signed_content c (by_tag tag) s is = absurd (Contains-none s is)
signed_content c (by_sig sig) s is = sym (ap (λ (q : Statement). q.content) (Contains-one (record { content = c; sig = sig }) s is))

found_content : (b : Bool) (c d : Content) → Contains (if b then c ∷ [] else []) d → c ≡ d
found_content true c d is = Contains-one c d is
found_content false c d is = absurd (Contains-none d is)

module _ (claimed : (f : ℕ) (me : Party) (m : Msg) → map (λ (k : Check). k.content) (checks_of f me m) ≡ claims f me m)
    (formats : IsWhole message_of spell_message IsMessage)
    (grammar : (f clients : ℕ) (me : Party) (m : Msg) → IsInBounds f clients → IsMessage m → All IsContent (claims f me m)) where
  smallest : IsInBounds 1 1
  smallest = record { some_faulty = omega arith; few_faulty = omega arith; some_client = omega arith; few_clients = omega arith }

  in_message : (keys : List SignKey) (m : Msg) (c : Content) → IsMessage m → Contains (found_in keys m) c → IsContent c
  in_message keys m c form is =
      let s = flat_map_cases (found_by keys) (statements_in m) c is in
      let e : s.0.content ≡ c = found_content (is_sig_from keys (maker_of s.0.content) (spell_content s.0.content) s.0.sig) s.0.content c s.2 in
      let k = flat_map_cases signed_at (checks_of 1 (Client 0) m) s.0 (subst (λ l. Contains l s.0) (sym (checked-signed 1 (Client 0) m)) s.1) in
      let g : s.0.content ≡ k.0.content = signed_content k.0.content k.0.token s.0 k.2 in
      let there : Contains (claims 1 (Client 0) m) k.0.content = subst (λ l. Contains l k.0.content) (claimed 1 (Client 0) m) (Contains-map (λ (q : Check). q.content) (checks_of 1 (Client 0) m) k.0 k.1) in
      subst IsContent (sym g ∙ e) (All-contains IsContent (claims 1 (Client 0) m) k.0.content (grammar 1 1 (Client 0) m smallest form) there)

  in_bytes : (keys : List SignKey) (bytes : List ℕ) (c : Content) → IsBytes bytes → (r : Result Msg Bad) → message_of bytes ≡ r → Contains (found_as keys r) c → IsContent c
  in_bytes keys bytes c small (Ok m) read is = in_message keys m c (formats.takes bytes m small read).1 is
  in_bytes keys bytes c small (Err bad) read is = absurd (Contains-none c is)

  in_inputs : (keys : List SignKey) (inputs : List (List ℕ)) → All IsBytes inputs → (c : Content) → Contains (found_among keys inputs) c → IsContent c
  in_inputs keys inputs small c is =
      let b = flat_map_cases (λ bytes. found_as keys (message_of bytes)) inputs c is in
      in_bytes keys b.0 c (All-contains IsBytes inputs b.0 small b.1) (message_of b.0) refl b.2

  module _ (own : (x y : Content) → IsContent x → IsContent y → spell_content x ≡ spell_content y → x ≡ y) (keys : List SignKey) (inputs : List (List ℕ)) (small : All IsBytes inputs) (a : Accusation) where
    abbrev kept : Kept
    kept = (told_all (begun keys) inputs).kept

    two_kept : is_some (other_of kept a) ≡ true → Two (about keys inputs a)
    two_kept has = some_two (about keys inputs a) (other_of kept a) (all_is keys inputs a).other has

    two_differ : (t : Two (about keys inputs a)) → t.one.content ≢ t.other.content
    two_differ t e =
        let same = (bytes_eq-Decides (spell_content t.one.content) (spell_content t.other.content)).1 (ap spell_content e) in
        true≢false (sym t.differ ∙ ap not same)

    contradicted : Two (about keys inputs a) → IsContradicted (found_among keys inputs) a
    contradicted t = record {
      one = t.one.content;
      other = t.other.content;
      one_found = was_found keys inputs a t.one t.has_one;
      other_found = was_found keys inputs a t.other t.has_other;
      one_subject = (is_exhibit keys inputs a t.one t.has_one).about;
      other_subject = (is_exhibit keys inputs a t.other t.has_other).about;
      differ = two_differ t;
    }

    other_kept : IsAccused keys inputs a → is_some (other_of kept a) ≡ true
    other_kept d =
        let right = in_inputs keys inputs small in
        let x = exhibited keys inputs a d.one d.one_found d.one_subject in
        let y = exhibited keys inputs a d.other d.other_found d.other_subject in
        two_some (about keys inputs a) (other_of kept a) (all_is keys inputs a).other x.0 y.0 x.1 y.1
        (λ same. d.differ (own d.one d.other (right d.one d.one_found) (right d.other d.other_found) (ap spell_content (sym x.2) ∙ same ∙ ap spell_content y.2)))

    pub accused_exactly : Contains (accused_in kept) a ↔ IsAccused keys inputs a
    accused_exactly = (
      λ is. contradicted (two_kept (sym (any_subject a kept.others) ∙ is_listed (accused_in kept) a is)),
      λ d. listed (accused_in kept) a (any_subject a kept.others ∙ other_kept d),
    )

    pub evidence_shows : IsAccused keys inputs a → Contradict keys inputs a (evidence keys inputs a)
    evidence_shows d =
        let t = two_kept (other_kept d) in
        record {
          one = t.one;
          other = t.other;
          are = t.are;
          one_is = is_exhibit keys inputs a t.one t.has_one;
          other_is = is_exhibit keys inputs a t.other t.has_other;
          differ = two_differ t;
        }
