-- What is kept about a subject are the first content that is found about it and the first other one.
use Rattle.std.proofs.Common.{◌≡◌, ℕ, List, [], ◌∷◌, ◌++◌, ◌||◌, map, take, Bool, true, false, cond, not, Option, Some, None, is_some, ap, sym, ◌∙◌, refl, subst, inl, inr}
use Rattle.std.specs.Prelude.{flat_map}
use Rattle.std.specs.List.{filter}
use Rattle.std.specs.Option.{option_to_list}
use Rattle.std.specs.Str.{bytes_eq}
use Rattle.std.proofs.lemmas.Bool.{cases_Bool, false≢true}
use Rattle.std.proofs.lemmas.List.Sums.{fold-append}
use Rattle.ab_audit.specs.declared.accusation.Accusation.{Accusation}
use Rattle.ab_audit.specs.Accusations.{accusation_eq, subject_of}
use Rattle.ab_audit.specs.Exhibits.{Exhibit, first_two, is_about, is_other, is_subject}
use Rattle.ab_audit.specs.Kept.{Finding, Kept, Note, finding_of, first_of, is_known, is_text, keep, keep_all, keep_beside, note_of, noted, other_of, shown_in}
use Rattle.ab_audit.proofs.EqLemmas.{one_accusation, same_accusation}
use Rattle.ab_audit.proofs.KeptLemmas.{known_keep, lookup_end, lookup_other, new_keep}

-- the first one with another content than the first
abbrev pub second : List Exhibit → List Exhibit
second [] = []
second (e ∷ es) = take 1 (filter (is_other e) es)

-- what is kept about a subject
pub record Holds (a : Accusation) (k : Kept) (f o : Option Finding) : Type 0 where
  pub first : first_of k a ≡ f
  pub other : other_of k a ≡ o

module _ (a : Accusation) where
  own : (o : Option Finding) (g : Finding) → cond (accusation_eq a a) (Some g) o ≡ Some g
  own o g = ap (λ (b : Bool). cond b (Some g) o) (same_accusation a)

  -- ---- one more note

  beside : (k : Kept) (n : Note) (f o p : Option Finding) → accusation_eq a n.0 ≡ false → Holds a k f o → Holds a (keep_beside k n p) f o
  beside k n f o None miss h = record { first = lookup_other a n k.first miss ∙ h.first; other = h.other }
  beside k n f o (Some q) miss h = record { first = h.first; other = lookup_other a n k.others miss ∙ h.other }

  keep_miss : (k : Kept) (n : Note) (f o : Option Finding) → accusation_eq a n.0 ≡ false → Holds a k f o → Holds a (keep k n) f o
  keep_miss k n f o miss h = elim (cases_Bool (is_known k n.0 n.1.text)) [
    | inl known ↦ subst (λ (q : Kept). Holds a q f o) (sym (known_keep k n known)) h
    | inr new ↦ subst (λ (q : Kept). Holds a q f o) (sym (new_keep k n (first_of k n.0) new refl)) (beside k n f o (first_of k n.0) miss h)
  ]

  known_by : (k : Kept) (f o : Option Finding) (t : List ℕ) → Holds a k f o → is_known k a t ≡ (is_some o || is_text t f)
  known_by k f o t h = λ j. is_some (h.other j) || is_text t (h.first j)

  keep_fresh : (k : Kept) (g : Finding) → Holds a k None None → Holds a (keep k (a, g)) (Some g) None
  keep_fresh k g h =
      subst (λ (q : Kept). Holds a q (Some g) None) (sym (new_keep k (a, g) None (known_by k None None g.text h) h.first))
      (record { first = lookup_end a (a, g) k.first h.first ∙ own None g; other = h.other })

  keep_same : (k : Kept) (f g : Finding) → bytes_eq f.text g.text ≡ true → Holds a k (Some f) None → Holds a (keep k (a, g)) (Some f) None
  keep_same k f g same h = subst (λ (q : Kept). Holds a q (Some f) None) (sym (known_keep k (a, g) (known_by k (Some f) None g.text h ∙ same))) h

  keep_differing : (k : Kept) (f g : Finding) → bytes_eq f.text g.text ≡ false → Holds a k (Some f) None → Holds a (keep k (a, g)) (Some f) (Some g)
  keep_differing k f g differs h =
      subst (λ (q : Kept). Holds a q (Some f) (Some g)) (sym (new_keep k (a, g) (Some f) (known_by k (Some f) None g.text h ∙ differs) h.first))
      (record { first = h.first; other = lookup_end a (a, g) k.others h.other ∙ own None g })

  keep_done : (k : Kept) (f : Option Finding) (o g : Finding) → Holds a k f (Some o) → Holds a (keep k (a, g)) f (Some o)
  keep_done k f o g h = subst (λ (q : Kept). Holds a q f (Some o)) (sym (known_keep k (a, g) (known_by k f (Some o) g.text h))) h

  -- ---- one more exhibit

  skip : (k : Kept) (s : Option Accusation) (g : Finding) (f o : Option Finding) → is_subject a s ≡ false → Holds a k f o → Holds a (keep_all k (noted g s)) f o
  skip k None g f o miss h = h
  skip k (Some b) g f o miss h = keep_miss k (b, g) f o miss h

  hit_note : (s : Option Accusation) (g : Finding) → is_subject a s ≡ true → noted g s ≡ (a, g) ∷ []
  hit_note None g hit = absurd (false≢true hit)
  hit_note (Some b) g hit = ap (λ c. (c, g) ∷ []) (sym (one_accusation a b hit))

  skips : (k : Kept) (e : Exhibit) (f o : Option Finding) → is_about a e ≡ false → Holds a k f o → Holds a (keep_all k (note_of e)) f o
  skips k e f o miss h = skip k (subject_of e.content) (finding_of e) f o miss h

  takes : (k : Kept) (e : Exhibit) (f o : Option Finding) → is_about a e ≡ true → Holds a (keep k (a, finding_of e)) f o → Holds a (keep_all k (note_of e)) f o
  takes k e f o hit h = subst (λ (ns : List Note). Holds a (keep_all k ns) f o) (sym (hit_note (subject_of e.content) (finding_of e) hit)) h

  -- ---- all exhibits

  abbrev after : Kept → List Exhibit → Kept
  after k es = keep_all k (flat_map note_of es)

  after-cons : (k : Kept) (e : Exhibit) (es : List Exhibit) → after k (e ∷ es) ≡ after (keep_all k (note_of e)) es
  after-cons k e es = fold-append keep k (note_of e) (flat_map note_of es)

  done_all : (es : List Exhibit) (k : Kept) (f : Option Finding) (o : Finding) → Holds a k f (Some o) → Holds a (after k es) f (Some o)
  done_all [] k f o h = h
  done_all (e ∷ es) k f o h =
      subst (λ (q : Kept). Holds a q f (Some o)) (sym (after-cons k e es))
      (done_all es (keep_all k (note_of e)) f o (elim (cases_Bool (is_about a e)) [
        | inl hit ↦ takes k e f (Some o) hit (keep_done k f o (finding_of e) h)
        | inr miss ↦ skips k e f (Some o) miss h
      ]))

  -- the first is kept, and the first one that differs from it
  record Keeps (k : Kept) (one others : List Finding) : Type 0 where
    first : option_to_list (first_of k a) ≡ one
    other : option_to_list (other_of k a) ≡ others

  keeps_both : (k : Kept) (f o : Option Finding) → Holds a k f o → Keeps k (option_to_list f) (option_to_list o)
  keeps_both k f o h = record { first = ap option_to_list h.first; other = ap option_to_list h.other }

  one_all : (es : List Exhibit) (k : Kept) (e : Exhibit) → Holds a k (Some (finding_of e)) None
      → Keeps (after k es) (finding_of e ∷ []) (map finding_of (take 1 (filter (is_other e) (filter (is_about a) es))))
  one_all [] k e h = keeps_both k (Some (finding_of e)) None h
  one_all (x ∷ es) k e h =
      subst (λ (q : Kept). Keeps q (finding_of e ∷ []) (map finding_of (take 1 (filter (is_other e) (filter (is_about a) (x ∷ es)))))) (sym (after-cons k x es))
      (elim (cases_Bool (is_about a x)) [
        | inr miss ↦
            subst (λ (b : Bool). Keeps now (finding_of e ∷ []) (others b)) (sym miss)
            (one_all es (keep_all k (note_of x)) e (skips k x (Some (finding_of e)) None miss h))
        | inl hit ↦
            subst (λ (b : Bool). Keeps now (finding_of e ∷ []) (others b)) (sym hit)
            (elim (cases_Bool (bytes_eq (finding_of e).text (finding_of x).text)) [
              | inl same ↦
                  subst (λ (b : Bool). Keeps now (finding_of e ∷ []) (hits b)) (sym same)
                  (one_all es (keep_all k (note_of x)) e (takes k x (Some (finding_of e)) None hit (keep_same k (finding_of e) (finding_of x) same h)))
              | inr differs ↦
                  subst (λ (b : Bool). Keeps now (finding_of e ∷ []) (hits b)) (sym differs)
                  (keeps_both now (Some (finding_of e)) (Some (finding_of x))
                  (done_all es (keep_all k (note_of x)) (Some (finding_of e)) (finding_of x) (takes k x (Some (finding_of e)) (Some (finding_of x)) hit (keep_differing k (finding_of e) (finding_of x) differs h))))
            ])
      ])
    where
      now : Kept
      now = after (keep_all k (note_of x)) es

      others : Bool → List Finding
      others b = map finding_of (take 1 (filter (is_other e) (cond b (x ∷ filter (is_about a) es) (filter (is_about a) es))))

      hits : Bool → List Finding
      hits b = map finding_of (take 1 (cond (not b) (x ∷ filter (is_other e) (filter (is_about a) es)) (filter (is_other e) (filter (is_about a) es))))

  -- what is kept about a subject when nothing was
  pub record IsKept (k : Kept) (es : List Exhibit) : Type 0 where
    pub shown : shown_in k a ≡ map finding_of (first_two es)
    pub other : option_to_list (other_of k a) ≡ map finding_of (second es)

  kept_one : (k : Kept) (e : Exhibit) (es : List Exhibit) → Keeps k (finding_of e ∷ []) (map finding_of (take 1 (filter (is_other e) es))) → IsKept k (e ∷ es)
  kept_one k e es h = record { shown = λ j. h.first j ++ h.other j; other = h.other }

  pub all_kept : (es : List Exhibit) (k : Kept) → Holds a k None None → IsKept (after k es) (filter (is_about a) es)
  all_kept [] k h = record { shown = λ j. option_to_list (h.first j) ++ option_to_list (h.other j); other = ap option_to_list h.other }
  all_kept (e ∷ es) k h =
      subst (λ (q : Kept). IsKept q (filter (is_about a) (e ∷ es))) (sym (after-cons k e es))
      (elim (cases_Bool (is_about a e)) [
        | inl hit ↦
            subst (λ (b : Bool). IsKept (after (keep_all k (note_of e)) es) (cond b (e ∷ filter (is_about a) es) (filter (is_about a) es))) (sym hit)
            (kept_one (after (keep_all k (note_of e)) es) e (filter (is_about a) es)
            (one_all es (keep_all k (note_of e)) e (takes k e (Some (finding_of e)) None hit (keep_fresh k (finding_of e) h))))
        | inr miss ↦
            subst (λ (b : Bool). IsKept (after (keep_all k (note_of e)) es) (cond b (e ∷ filter (is_about a) es) (filter (is_about a) es))) (sym miss)
            (all_kept es (keep_all k (note_of e)) (skips k e None None miss h))
      ])
