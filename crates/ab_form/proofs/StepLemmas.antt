-- Steps that did not fail, and fronts of lists.
use Rattle.std.proofs.Common.{◌≡◌, Bool, true, false, cond, List, [], ◌∷◌, ◌++◌, Result, Ok, Err, refl}
use Rattle.ab_form.specs.declared.bad.Bad.{Bad}
use Rattle.ab_form.specs.Readers.{◌>>=◌}

abbrev pub done : {A : Type 0} → A → Result A Bad
done x = Ok x

abbrev pub fault : {A : Type 0} → Bad → Result A Bad
fault {A} e = Err e

pub done_is : {A : Type 0} (x y : A) → done x ≡ done y → x ≡ y
done_is x y e = cc

pub fault_is : {A : Type 0} (d e : Bad) → fault {A = A} d ≡ fault e → d ≡ e
fault_is d e h = cc

pub done-fault : {A : Type 0} (x : A) (e : Bad) → done x ≡ fault e → ⊥
done-fault x e h = cc

-- the value of a step that did not fail
pub bind_ok : {A B : Type 0} (r : Result A Bad) (f : A → Result B Bad) (y : B) → (r >>= f) ≡ Ok y → (x : A) × (r ≡ Ok x) × (f x ≡ Ok y)
bind_ok (Ok x) f y e = (x, refl, e)
bind_ok (Err d) f y e = absurd cc

-- a test that did not fail
pub passed : {A : Type 0} (b : Bool) (d : Bad) (x y : A) → cond b (Ok x) (Err d) ≡ Ok y → (b ≡ true) × (x ≡ y)
passed true d x y e = (refl, cc)
passed false d x y e = absurd cc

pub refused : {A : Type 0} (b : Bool) (d : Bad) (x y : A) → cond b (Err d) (Ok x) ≡ Ok y → (b ≡ false) × (x ≡ y)
refused true d x y e = absurd cc
refused false d x y e = (refl, cc)

-- nothing stands behind nothing
pub behind : {A : Type 0} (rest more : List A) → rest ++ more ≡ [] → more ≡ []
behind [] more e = e
behind (x ∷ rest) more e = absurd cc
