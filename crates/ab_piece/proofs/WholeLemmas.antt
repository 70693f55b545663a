-- What is kept came, and what is whole is one message.
use Rattle.std.proofs.Common.{◌≡◌, ◌≢◌, inl, inr, ℕ, zero, suc, ◌+◌, ◌<◌, List, [], ◌∷◌, length, take, drop, map, set, get_or, replicate, Option, None, Some, Ok, Bool, true, false, is_some, is_none, unwrap_or, cond, refl, ap, sym, subst, ◌∙◌, eqb-true, arith, length-set, append-nil, get_or-set_other, get_or-set_same}
use Rattle.std.specs.Prelude.{nat_eq}
use Rattle.std.specs.List.{All, remove}
use Rattle.std.proofs.lemmas.Bool.{eq-eqb}
use Rattle.std.proofs.lemmas.List.Elements.{All-append, All-drop, All-nil, All-push, All-set, All-take}
use Rattle.std.proofs.lemmas.List.Sums.{sum_by-cons, sum_by-set}
use Rattle.std.proofs.lemmas.List.Folds.{flat_map-map}
use Rattle.std.proofs.lemmas.List.{get_or-map, length-map, length-replicate}
use Rattle.ab_piece.specs.declared.taken.DropCause.{DropCause}
use Rattle.ab_piece.specs.Pieces.{Piece, piece_of}
use Rattle.ab_piece.specs.Joining.{OpenMessage, Joined, crowded_out, dropped, message_of, missing, more, open_after, opened, step_of, whole, with_body, with_room, without}
use Rattle.ab_piece.specs.Wholes.{Came, IsWholeOf}
use Rattle.ab_piece.proofs.ReadLemmas.{index_below, piece_within}
use Rattle.ab_piece.proofs.ChangeLemmas.{Change, alone, changes, completes, drops, extends, opens}

false_true : false ≡ true → ⊥
false_true e = cc

-- ---- bodies that came

abbrev piece_in : OpenMessage → ℕ → List ℕ → Piece
piece_in o i body = record { sender = o.sender; number = o.number; index = i; count = length o.bodies; body = body }

abbrev Holds : List (List ℕ) → OpenMessage → Type 0
Holds ds o = (i : ℕ) (body : List ℕ) → i < length o.bodies → get_or o.bodies i None ≡ Some body → Came ds (piece_in o i body)

some_same : (a b : List ℕ) → Some a ≡ Some b → a ≡ b
some_same a b e = cc

-- the body that came now, and one that came before
pub put_by : (ds : List (List ℕ)) (bytes : List ℕ) (o : OpenMessage) (p : Piece) → piece_of bytes ≡ Ok p → p.sender ≡ o.sender → p.number ≡ o.number → p.count ≡ length o.bodies
    → Holds ds o → (i : ℕ) (body : List ℕ) → i < length o.bodies → (b : Bool) → nat_eq i p.index ≡ b → get_or (set o.bodies p.index (Some p.body)) i None ≡ Some body
    → Came (bytes ∷ ds) (piece_in o i body)
put_by ds bytes o p is s n c holds i body lt true same e =
    let at : i ≡ p.index = eqb-true i p.index same in
    let there : get_or (set o.bodies p.index (Some p.body)) i None ≡ Some p.body =
    ap (λ k. get_or (set o.bodies p.index (Some p.body)) k None) at ∙ get_or-set_same o.bodies p.index (Some p.body) None (omega arith) in
    let b : p.body ≡ body = some_same p.body body (sym there ∙ e) in
    inl (is ∙ ap Ok (λ j. record { sender = s j; number = n j; index = sym at j; count = c j; body = b j }))
put_by ds bytes o p is s n c holds i body lt false other e =
    let ne : i ≢ p.index = λ same. let t = eq-eqb i p.index same in absurd (false_true (sym other ∙ t)) in
    inr (holds i body lt (sym (get_or-set_other o.bodies p.index i (Some p.body) None ne) ∙ e))

none_some : (a : List ℕ) → None ≡ Some a → ⊥
none_some a e = cc

put_holds : (ds : List (List ℕ)) (bytes : List ℕ) (o : OpenMessage) (p : Piece) → piece_of bytes ≡ Ok p → p.sender ≡ o.sender → p.number ≡ o.number → p.count ≡ length o.bodies
    → Holds ds o → Holds (bytes ∷ ds) (with_body o p.index p.body)
put_holds ds bytes o p is s n c holds i body lt e =
    let same : length (set o.bodies p.index (Some p.body)) ≡ length o.bodies = length-set o.bodies p.index (Some p.body) in
    let came = put_by ds bytes o p is s n c holds i body (subst (λ (k : ℕ). i < k) same lt) (nat_eq i p.index) refl e in
    subst (λ (k : ℕ). Came (bytes ∷ ds) (record { sender = o.sender; number = o.number; index = i; count = k; body = body })) (sym same) came

later_holds : (ds : List (List ℕ)) (bytes : List ℕ) (os : List OpenMessage) → All (Holds ds) os → All (Holds (bytes ∷ ds)) os
later_holds ds bytes os all k d lt i body within e = inr (all k d lt i body within e)

abbrev nobody : Option (List ℕ)
nobody = None

none_there : (n i : ℕ) → get_or (replicate n nobody) i nobody ≡ nobody
none_there zero i = refl
none_there (suc n) zero = refl
none_there (suc n) (suc i) = none_there n i

pub opened_holds : (ds : List (List ℕ)) (bytes : List ℕ) (p : Piece) → piece_of bytes ≡ Ok p → Holds (bytes ∷ ds) (opened p)
opened_holds ds bytes p is =
    put_holds ds bytes (record { sender = p.sender; number = p.number; bodies = replicate p.count None }) p is refl refl (sym (length-replicate p.count None))
    (λ i body lt e. absurd (none_some body (sym (none_there p.count i) ∙ e)))

-- ---- whole messages

abbrev text_of : Option (List ℕ) → List ℕ
text_of body = unwrap_or body []

pub all_there : (bodies : List (Option (List ℕ))) → missing bodies ≡ 0 → (i : ℕ) → i < length bodies → get_or bodies i None ≡ Some (text_of (get_or bodies i None))
all_there [] none i lt = absurd (omega arith)
all_there (None ∷ bodies) none i lt = let e : missing (None ∷ bodies) ≡ 1 + missing bodies = sum_by-cons (λ (o : Option (List ℕ)). cond (is_none o) 1 0) None bodies in absurd (omega (arith, none, e))
all_there (Some b ∷ bodies) none zero lt = refl
all_there (Some b ∷ bodies) none (suc i) lt =
    let e : missing (Some b ∷ bodies) ≡ 0 + missing bodies = sum_by-cons (λ (o : Option (List ℕ)). cond (is_none o) 1 0) (Some b) bodies in all_there bodies (omega (arith, none, e)) i (omega arith)

absent : (o : Option (List ℕ)) → is_some o ≡ false → o ≡ None
absent None e = refl
absent (Some b) e = cc

pub last_one : (bodies : List (Option (List ℕ))) (i : ℕ) (body : List ℕ) → i < length bodies → is_some (get_or bodies i None) ≡ false → missing bodies ≡ 1 → missing (set bodies i (Some body)) ≡ 0
last_one bodies i body lt gone one =
    let f = λ (o : Option (List ℕ)). cond (is_none o) 1 0 in
    let counts = sum_by-set f bodies i (Some body) None lt in
    let here : f (get_or bodies i None) ≡ 1 = ap f (absent (get_or bodies i None) gone) in
    omega (arith, counts, here, one)

whole_of : (ds : List (List ℕ)) (bytes : List ℕ) (o : OpenMessage) (p : Piece) → piece_of bytes ≡ Ok p → p.sender ≡ o.sender → p.number ≡ o.number → p.count ≡ length o.bodies
    → Holds ds o → missing (set o.bodies p.index (Some p.body)) ≡ 0 → IsWholeOf (bytes ∷ ds) (message_of (set o.bodies p.index (Some p.body)))
whole_of ds bytes o p is s n c holds none =
    let bodies = set o.bodies p.index (Some p.body) in
    let holds' = put_holds ds bytes o p is s n c holds in
    let len : length (map text_of bodies) ≡ length bodies = length-map bodies text_of in
    record {
      sender = o.sender;
      number = o.number;
      bodies = map text_of bodies;
      each = λ i lt.
          let lt' : i < length bodies = omega (arith, len) in
          let came = holds' i (text_of (get_or bodies i None)) lt' (all_there bodies none i lt') in
          subst (λ (k : ℕ). Came (bytes ∷ ds) (record { sender = o.sender; number = o.number; index = i; count = k; body = get_or (map text_of bodies) i [] })) (sym len)
          (subst (λ (b : List ℕ). Came (bytes ∷ ds) (record { sender = o.sender; number = o.number; index = i; count = length bodies; body = b })) (sym (get_or-map text_of bodies i None [] lt')) came);
      bytes = sym (flat_map-map (λ x. x) text_of bodies);
    }

single : (ds : List (List ℕ)) (bytes : List ℕ) (p : Piece) → piece_of bytes ≡ Ok p → p.index < p.count → p.count ≡ 1 → IsWholeOf (bytes ∷ ds) p.body
single ds bytes p is lt one = record {
  sender = p.sender;
  number = p.number;
  bodies = p.body ∷ [];
  each = λ i within.
      let at : p.index ≡ i = omega (arith, one) in
      let here : get_or (p.body ∷ []) i [] ≡ p.body = ap (λ k. get_or (p.body ∷ []) k []) (let z : i ≡ 0 = omega arith in z) in
      inl (is ∙ ap Ok (λ j. record { sender = p.sender; number = p.number; index = at j; count = one j; body = sym here j }));
  bytes = sym (append-nil p.body);
}

-- ---- steps

record Good (ds : List (List ℕ)) (s : Joined) : Type 0 where
  held : All (Holds ds) s.after
  all_came : (m : List ℕ) → s.answer ≡ whole m → IsWholeOf ds m

same_whole : (a b : List ℕ) → whole a ≡ whole b → a ≡ b
same_whole a b e = cc

not_more : (m : List ℕ) → more ≡ whole m → ⊥
not_more m e = cc

not_dropped : (m : List ℕ) (c : DropCause) → dropped c ≡ whole m → ⊥
not_dropped m c e = cc

removed : (ds : List (List ℕ)) (os : List OpenMessage) (at : ℕ) → All (Holds ds) os → All (Holds ds) (remove os at)
removed ds os at all = All-append (Holds ds) (take at os) (drop (suc at) os) (All-take (Holds ds) at os all) (All-drop (Holds ds) (suc at) os all)

left_held : (ds : List (List ℕ)) (os : List OpenMessage) (at : Option ℕ) → All (Holds ds) os → All (Holds ds) (without at os)
left_held ds os None all = all
left_held ds os (Some at) all = removed ds os at all

good : (ds : List (List ℕ)) (bytes : List ℕ) (os : List OpenMessage) (s : Joined) → All (Holds ds) os → Change bytes os s → Good (bytes ∷ ds) s
good ds bytes os s all (drops c e) = subst (Good (bytes ∷ ds)) (sym e) (record { held = later_holds ds bytes os all; all_came = λ m w. absurd (not_dropped m c w) })
good ds bytes os s all (alone p is one e) =
    subst (Good (bytes ∷ ds)) (sym e)
    (record {
      held = later_holds ds bytes os all;
      all_came = λ m w. subst (IsWholeOf (bytes ∷ ds)) (same_whole p.body m w) (single ds bytes p is (index_below p (piece_within bytes p is)) one);
    })
good ds bytes os s all (opens p is closed e) =
    subst (Good (bytes ∷ ds)) (sym e)
    (record {
      held = All-push (Holds (bytes ∷ ds)) (with_room p.sender os) (opened p) (left_held (bytes ∷ ds) os (crowded_out p.sender os) (later_holds ds bytes os all)) (opened_holds ds bytes p is);
      all_came = λ m w. absurd (not_more m w);
    })
good ds bytes os s all (extends p is at fills e) =
    let o = get_or os at (opened p) in
    subst (Good (bytes ∷ ds)) (sym e)
    (record {
      held = All-set (Holds (bytes ∷ ds)) os at (with_body o p.index p.body) (put_holds ds bytes o p is (sym fills.sender) (sym fills.number) (sym fills.count) (all at (opened p) fills.within)) (later_holds ds bytes os all);
      all_came = λ m w. absurd (not_more m w);
    })
good ds bytes os s all (completes p is at fills last e) =
    let o = get_or os at (opened p) in
    let below = index_below p (piece_within bytes p is) in
    subst (Good (bytes ∷ ds)) (sym e)
    (record {
      held = removed (bytes ∷ ds) os at (later_holds ds bytes os all);
      all_came = λ m w. subst (IsWholeOf (bytes ∷ ds)) (same_whole _ m w)
          (whole_of ds bytes o p is (sym fills.sender) (sym fills.number) (sym fills.count) (all at (opened p) fills.within)
          (last_one o.bodies p.index p.body (omega (arith, below, fills.count)) fills.empty last));
    })

all_held : (ds : List (List ℕ)) → All (Holds ds) (open_after ds)
all_held [] = All-nil (Holds [])
all_held (bytes ∷ ds) = (good ds bytes (open_after ds) (step_of (open_after ds) bytes) (all_held ds) (changes (open_after ds) bytes)).held

pub whole_came : (ds : List (List ℕ)) (bytes m : List ℕ) → (step_of (open_after ds) bytes).answer ≡ whole m → IsWholeOf (bytes ∷ ds) m
whole_came ds bytes m e = (good ds bytes (open_after ds) (step_of (open_after ds) bytes) (all_held ds) (changes (open_after ds) bytes)).all_came m e
