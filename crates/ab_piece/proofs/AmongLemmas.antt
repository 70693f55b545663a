-- A message among others.
use Rattle.std.proofs.Common.{◌≡◌, ℕ, zero, suc, ◌<◌, List, [], ◌∷◌, ◌++◌, length, take, drop, set, get_or, Bool, true, false, refl, ap, ◌∙◌, arith, append_assoc}
use Rattle.std.specs.List.{All, remove}
use Rattle.std.proofs.lemmas.List.Elements.{All-append, All-drop, All-push, All-set, All-take}
use Rattle.ab_piece.specs.Joining.{OpenMessage}

-- x stands in the list, and what stands behind it is known
pub record Among (Q : OpenMessage → Type 0) (x : OpenMessage) (os : List OpenMessage) : Type 0 where
  pub front : List OpenMessage
  pub behind : List OpenMessage
  pub split : os ≡ front ++ x ∷ behind
  pub known : All Q behind

module _ (Q : OpenMessage → Type 0) (test : OpenMessage → Bool) (x : OpenMessage) (is : test x ≡ true) where
  further_front : (y : OpenMessage) (os : List OpenMessage) → Among Q x os → Among Q x (y ∷ os)
  further_front y os a = record { front = y ∷ a.front; behind = a.behind; split = ap (λ rest. y ∷ rest) a.split; known = a.known }

  -- another one is removed
  pub among_removed : (front behind : List OpenMessage) (at : ℕ) (d : OpenMessage) → test (get_or (front ++ x ∷ behind) at d) ≡ false → All Q behind → Among Q x (remove (front ++ x ∷ behind) at)
  among_removed [] behind zero d differs known = absurd (cc (is, differs))
  among_removed [] behind (suc at) d differs known = record {
    front = [];
    behind = remove behind at;
    split = refl;
    known = All-append Q (take at behind) (drop (suc at) behind) (All-take Q at behind known) (All-drop Q (suc at) behind known);
  }
  among_removed (y ∷ front) behind zero d differs known = record { front = front; behind = behind; split = refl; known = known }
  among_removed (y ∷ front) behind (suc at) d differs known = further_front y (remove (front ++ x ∷ behind) at) (among_removed front behind at d differs known)

  -- another one is replaced by one that is known where it is
  pub among_set : (front behind : List OpenMessage) (at : ℕ) (d : OpenMessage) (y : OpenMessage) → test (get_or (front ++ x ∷ behind) at d) ≡ false → at < length (front ++ x ∷ behind)
      → (Q (get_or (front ++ x ∷ behind) at d) → Q y) → All Q behind → Among Q x (set (front ++ x ∷ behind) at y)
  among_set [] behind zero d y differs lt keep known = absurd (cc (is, differs))
  among_set [] behind (suc at) d y differs lt keep known = record {
    front = [];
    behind = set behind at y;
    split = refl;
    known = All-set Q behind at y (keep (known at d (omega arith))) known;
  }
  among_set (z ∷ front) behind zero d y differs lt keep known = record { front = y ∷ front; behind = behind; split = refl; known = known }
  among_set (z ∷ front) behind (suc at) d y differs lt keep known =
      further_front z (set (front ++ x ∷ behind) at y) (among_set front behind at d y differs (omega arith) keep known)

  pub among_pushed : (os : List OpenMessage) (y : OpenMessage) → Q y → Among Q x os → Among Q x (os ++ y ∷ [])
  among_pushed os y known a = record {
    front = a.front;
    behind = a.behind ++ y ∷ [];
    split = ap (λ rest. rest ++ y ∷ []) a.split ∙ append_assoc a.front (x ∷ a.behind) (y ∷ []);
    known = All-push Q a.behind y a.known known;
  }
