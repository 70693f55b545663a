-- Lists of which an entry may be missing, as a loop gathers them.
use Rattle.std.proofs.Common.{◌≡◌, Option, None, Some, List, [], ◌∷◌, ◌++◌, refl, sym, ap, append_assoc}

-- what is gathered, and the rest behind it
abbrev pub before : {B : Type 0} → List B → Option (List B) → Option (List B)
before made None = None
before made (Some rest) = Some (made ++ rest)

abbrev pub with_next : {B : Type 0} → Option B → Option (List B) → Option (List B)
with_next None rest = None
with_next (Some x) None = None
with_next (Some x) (Some rest) = Some (x ∷ rest)

pub before-next : {B : Type 0} (made : List B) (x : B) (o : Option (List B)) → before made (with_next (Some x) o) ≡ before (made ++ x ∷ []) o
before-next made x None = refl
before-next made x (Some rest) = ap Some (sym (append_assoc made (x ∷ []) rest))
