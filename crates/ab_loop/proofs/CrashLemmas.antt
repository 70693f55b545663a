-- What a crash leaves of a disk, at any moment.
use Rattle.std.proofs.Common.{◌≡◌, ◌⊎◌, ℕ, ◌≤◌, List, [], ◌∷◌, ◌++◌, Option, None, Some, IfSome, is_some, inl, inr, refl, ap, sym, ◌∙◌, append_assoc, append-nil, arith}
use Rattle.std.proofs.lemmas.Option.{same_Some}
use Rattle.ab_disk.specs.Disks.{DiskModel, LeavesOnly}
use Rattle.ab_disk.specs.declared.keeper.KeepFault.{KeepFault}
use Rattle.ab_disk.specs.declared.keeper.KeepFault.TheVariants as keep_fault
use Rattle.ab_disk.specs.Keeping.{IsOrMore, KeepCauseOf, KeptOrMore, ListedOrMore}
use Rattle.ab_io.specs.Causes.{Rose}
use Rattle.ab_loop.specs.Edges.{Edge, Crash, HasFront, LeavesFront, grown}

-- the same, of what has more
pub leaves_weaker : {D : Type 0} (m : DiskModel D) (d e : D) (P Q : List ℕ → Type 0) → ((c : List ℕ) → P c → Q c) → LeavesOnly m d e P → LeavesOnly m d e Q
leaves_weaker m d e P Q so l = record {
  later = l.later;
  each = λ c left. so c (l.each c left);
  before = λ t c le left. elim (l.before t c le left) [ inl was ↦ inl was | inr now ↦ inr (so c now) ];
}

-- one after the other
pub leaves_then : {D : Type 0} (m : DiskModel D) (d e f : D) (P Q R : List ℕ → Type 0) → ((c : List ℕ) → P c → R c) → ((c : List ℕ) → Q c → R c)
    → LeavesOnly m d e P → LeavesOnly m e f Q → LeavesOnly m d f R
leaves_then {D = D} m d e f P Q R first second a b =
    record { later = omega (arith, a.later, b.later); each = each; before = before }
  where
    each : (c : List ℕ) → m.left_since f (m.moment d) c → R c
    each c left = elim (b.before (m.moment d) c a.later left) [ inl was ↦ first c (a.each c was) | inr now ↦ second c now ]

    before : (t : ℕ) (c : List ℕ) → t ≤ m.moment d → m.left_since f t c → m.left_since d t c ⊎ R c
    before t c le left = elim (b.before t c (let both : t ≤ m.moment e = omega (arith, le, a.later) in both) left) [
      | inl was ↦ elim (a.before t c le was) [ inl long ↦ inl long | inr p ↦ inr (first c p) ]
      | inr now ↦ inr (second c now)
    ]

-- ---- fronts

front_more : (before more rest all : List (List ℕ)) → HasFront before more all → HasFront before (more ++ rest) all
front_more before more rest all h = record { front = h.front; back = h.back ++ rest; parts = ap (λ (l : List (List ℕ)). l ++ rest) h.parts ∙ append_assoc h.front h.back rest; all_is = h.all_is }

front_after : (before between first more all : List (List ℕ)) → between ≡ before ++ first → HasFront between more all → HasFront before (first ++ more) all
front_after before between first more all e h = record {
  front = first ++ h.front;
  back = h.back;
  parts = ap (λ (l : List (List ℕ)). first ++ l) h.parts ∙ sym (append_assoc first h.front h.back);
  all_is = h.all_is ∙ ap (λ (l : List (List ℕ)). l ++ h.front) e ∙ append_assoc before first h.front;
}

module _ {D : Type 0} (m : DiskModel D) (list_of : List ℕ → List (List ℕ)) where
  -- more was to be kept
  pub crash_more : (known : Option (List (List ℕ))) (d e : D) (x y : List (List ℕ)) → LeavesFront m list_of known d e x → LeavesFront m list_of known d e (x ++ y)
  crash_more None d e x y h = tt
  crash_more (Some before) d e x y h =
      leaves_weaker m d e (λ c. HasFront before x (list_of c)) (λ c. HasFront before (x ++ y) (list_of c)) (λ c f. front_more before x y (list_of c) f) h

  -- one after the other
  pub crash_then : (known next : Option (List (List ℕ))) (d e f : D) (x y : List (List ℕ)) → next ≡ grown known x
      → LeavesFront m list_of known d e x → LeavesFront m list_of next e f y → LeavesFront m list_of known d f (x ++ y)
  crash_then None next d e f x y is a b = tt
  crash_then (Some before) None d e f x y is a b = cc
  crash_then (Some before) (Some between) d e f x y is a b =
      leaves_then m d e f (λ c. HasFront before x (list_of c)) (λ c. HasFront between y (list_of c)) (λ c. HasFront before (x ++ y) (list_of c))
      (λ c h. front_more before x y (list_of c) h) (λ c h. front_after before between x y (list_of c) (same_Some between (before ++ x) is) h) a b

  -- the disk was left alone
  pub crash_rests : (known : Option (List (List ℕ))) (d : D) (x : List (List ℕ)) → ((c : List ℕ) → m.left_since d (m.moment d) c → m.may_leave d c)
      → ((c : List ℕ) → m.may_leave d c → IfSome known (λ bodies. list_of c ≡ bodies)) → LeavesFront m list_of known d d x
  crash_rests None d x only has = tt
  crash_rests (Some before) d x only has = record {
    later = omega arith;
    each = λ c left. record { front = []; back = x; parts = refl; all_is = has c (only c left) ∙ sym (append-nil before) };
    before = λ t c le left. inl left;
  }

  -- one body was kept, or it may be
  front_one : (before : List (List ℕ)) (body : List ℕ) (all : List (List ℕ)) → IsOrMore before body all → HasFront before (body ∷ []) all
  front_one before body all (inl is) = record { front = []; back = body ∷ []; parts = refl; all_is = is ∙ sym (append-nil before) }
  front_one before body all (inr is) = record { front = body ∷ []; back = []; parts = refl; all_is = is }

  pub crash_one : (known : Option (List (List ℕ))) (d e : D) (body : List ℕ) → IfSome known (λ bodies. LeavesOnly m d e (ListedOrMore list_of bodies body))
      → LeavesFront m list_of known d e (body ∷ [])
  crash_one None d e body h = tt
  crash_one (Some before) d e body h = leaves_weaker m d e (ListedOrMore list_of before body) (λ c. HasFront before (body ∷ []) (list_of c)) (λ c is. front_one before body (list_of c) is) h

-- ---- a refused body

pub kept_or_more : (a b : Option (List (List ℕ))) (body : List ℕ) → is_some b ≡ is_some a → KeptOrMore a body b
    → (front : List (List ℕ)) × (back : List (List ℕ)) × (body ∷ [] ≡ front ++ back) × (b ≡ grown a front)
kept_or_more None None body told h = ([], body ∷ [], refl, refl)
kept_or_more None (Some y) body told h = let no : ⊥ = cc in absurd no
kept_or_more (Some x) None body told h = let no : ⊥ = cc in absurd no
kept_or_more (Some x) (Some y) body told (inl is) = ([], body ∷ [], refl, ap Some (is ∙ sym (append-nil x)))
kept_or_more (Some x) (Some y) body told (inr is) = (body ∷ [], [], refl, ap Some is)

pub keep_rose : (why : KeepFault) (a b : ℕ) → why ≡ keep_fault.Failed → KeepCauseOf why a b → Rose a b
keep_rose keep_fault.Failed a b e cause = cause
keep_rose keep_fault.OutOfMemory a b e cause = cc

-- ---- of any such knowledge

-- that of two parts of a run is one of both
abbrev pub Joins : Edge → Edge → Crash → Crash → Crash → Type 0
Joins o1 o2 a b ab = (x y : List (List ℕ)) → o2.keep.kept ≡ grown o1.keep.kept x → a x → b y → ab (x ++ y)

-- and that of one part is one of both as well
abbrev pub Grows : Crash → Type 0
Grows a = (x y : List (List ℕ)) → a x → a (x ++ y)
