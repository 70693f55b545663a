-- The bodies of a journal, one after the other.
use Rattle.std.proofs.Common.{◌≡◌, ℕ, ◌+◌, List, [], ◌∷◌, ◌++◌, length, take, drop, Option, None, Some, IfSome, Vec, refl, ap, sym, subst, ◌∙◌, append_assoc, length-append, arith}
use Rattle.std.proofs.lemmas.List.{append-nil, get_or_at, take_at, drop_at, map-append}
use Rattle.std.specs.Prelude.{All, Result, Ok, Err, false, is_err, is_ok, if◌then◌else◌}
use Rattle.std.specs.declared.alloc.Global.{Global}
use Rattle.ab_journal.specs.Entries.{IsShort, bodies_of, entry, first_entry, spelled}
use Rattle.ab_journal.specs.Journals.{IsPlace, IsReady, texts_of}
use Rattle.ab_journal.proofs.EntryLemmas.{of_entry, shut_gate, length-entry, length-spelled_more}
use Rattle.ab_journal.proofs.ReadLemmas.{spelled-append}

-- these bodies end at this place
pub record AreListed (bytes : List ℕ) (at : ℕ) (done : List (List ℕ)) : Type 0 where
  pub left : List (List ℕ)
  pub split : bodies_of bytes ≡ done ++ left
  pub at_is : at ≡ length (spelled done)

pub none_listed : (bytes : List ℕ) → AreListed bytes 0 []
none_listed bytes = record { left = bodies_of bytes; split = refl; at_is = refl }

module _ (bytes : List ℕ) (end at : ℕ) (done : List (List ℕ)) (r : IsReady bytes end) (l : AreListed bytes at done) where
  abbrev tail : List ℕ
  tail = r.gate ∷ r.rest

  -- what stands there
  here : drop at bytes ≡ spelled l.left ++ tail
  here =
      ap (λ (b : List ℕ). drop at b) (r.split ∙ ap (λ (bs : List (List ℕ)). spelled bs ++ tail) l.split ∙ ap (λ (b : List ℕ). b ++ tail) (spelled-append done l.left) ∙ append_assoc (spelled done) (spelled l.left) tail)
      ∙ drop_at (spelled done) (spelled l.left ++ tail) at (sym l.at_is)

  at_place : IsPlace bytes at
  at_place = (length done, l.at_is ∙ ap (λ (bs : List (List ℕ)). length (spelled bs)) (sym (take_at done l.left (length done) refl) ∙ ap (λ (bs : List (List ℕ)). take (length done) bs) (sym l.split)))

  next_body : (left : List (List ℕ)) (body more : List ℕ) (next : ℕ) → l.left ≡ left → first_entry (drop at bytes) ≡ Some (body, more) → next ≡ at + 5 + length body → AreListed bytes next (done ++ body ∷ [])
  next_body [] body more next is first behind = absurd (cc (sym first ∙ ap first_entry here ∙ ap (λ (bs : List (List ℕ)). first_entry (spelled bs ++ tail)) is ∙ shut_gate r.gate r.rest r.shut))
  next_body (b ∷ left) body more next is first behind =
      let all : bodies_of bytes ≡ done ++ b ∷ left = l.split ∙ ap (λ (bs : List (List ℕ)). done ++ bs) is in
      let short : IsShort b = subst IsShort (get_or_at done b left b (length done) refl) (subst (λ (bs : List (List ℕ)). All IsShort bs) all r.short (length done) b (omega (arith, length-append done (b ∷ left)))) in
      let there : first_entry (drop at bytes) ≡ Some (b, spelled left ++ tail) =
      ap first_entry (here ∙ ap (λ (bs : List (List ℕ)). spelled bs ++ tail) is ∙ append_assoc (entry b) (spelled left) tail) ∙ of_entry b (spelled left ++ tail) short in
      let same : b ≡ body = ap (λ (o : Option (List ℕ × List ℕ)). elim o [ None ↦ [] | Some e ↦ e.0 ]) (sym there ∙ first) in
      record {
        left = left;
        split = all ∙ ap (λ (x : List ℕ). done ++ x ∷ left) same ∙ sym (append_assoc done (body ∷ []) left);
        at_is = omega (arith, behind, l.at_is, length-spelled_more done body);
      }

  -- at the end all are listed
  all_listed : (left : List (List ℕ)) → l.left ≡ left → at ≡ end → done ≡ bodies_of bytes
  all_listed [] is all = sym (l.split ∙ ap (λ (bs : List (List ℕ)). done ++ bs) is ∙ append-nil done)
  all_listed (b ∷ left) is all = absurd (omega (arith, all, r.end_is, l.at_is, ap (λ (bs : List (List ℕ)). length (spelled bs)) (l.split ∙ ap (λ (bs : List (List ℕ)). done ++ bs) is), ap length (spelled-append done (b ∷ left)), length-append (spelled done) (entry b ++ spelled left), length-append (entry b) (spelled left), length-entry b))

-- one more, where the push wasn't refused
pub pushed : {T E X : Type 0} (r : Result T E) (more same new : X) → is_err r ≡ false → new ≡ (if is_ok r then more else same) → new ≡ more
pushed (Ok t) more same new ok is = is
pushed (Err e) more same new ok is = absurd (cc (ok))

-- ---- where the disk tells

abbrev pub ListedSoFar : Option (List ℕ) → ℕ → ℕ → List (Vec ℕ Global) → Type 0
ListedSoFar seen end at bodies = IfSome seen (λ bytes. IsReady bytes end → AreListed bytes at (texts_of bodies))

pub list_starts : (seen : Option (List ℕ)) (end : ℕ) → ListedSoFar seen end 0 []
list_starts None end = tt
list_starts (Some bytes) end = λ r. none_listed bytes

pub list_step : (seen mid : Option (List ℕ)) (end at next : ℕ) (bodies : List (Vec ℕ Global)) (body : Vec ℕ Global) → mid ≡ seen → ListedSoFar seen end at bodies
    → IfSome mid (λ bytes. first_entry (drop at bytes) ≡ Some (body.items, drop next bytes)) → next ≡ at + 5 + length body.items → ListedSoFar seen end next (bodies ++ body ∷ [])
list_step None mid end at next bodies body same so_far first behind = tt
list_step (Some bytes) mid end at next bodies body same so_far first behind = λ r.
    let there = subst (λ (o : Option (List ℕ)). IfSome o (λ l. first_entry (drop at l) ≡ Some (body.items, drop next l))) same first in
    subst (AreListed bytes next) (sym (map-append (λ (b : Vec ℕ Global). b.items) bodies (body ∷ []))) (next_body bytes end at (texts_of bodies) r (so_far r) (so_far r).left body.items (drop next bytes) next refl there behind)

pub list_ends : (seen : Option (List ℕ)) (end at : ℕ) (bodies : List (Vec ℕ Global)) → ListedSoFar seen end at bodies → at ≡ end → IfSome seen (λ bytes. IsReady bytes end → texts_of bodies ≡ bodies_of bytes)
list_ends None end at bodies so_far all = tt
list_ends (Some bytes) end at bodies so_far all = λ r. all_listed bytes end at (texts_of bodies) r (so_far r) (so_far r).left refl all

-- where no entry was read, it is the end
pub list_stops : (seen mid : Option (List ℕ)) (end at : ℕ) (bodies : List (Vec ℕ Global)) → mid ≡ seen → ListedSoFar seen end at bodies → IfSome mid (λ bytes. IsReady bytes end → IsPlace bytes at → at ≡ end)
    → IfSome seen (λ bytes. IsReady bytes end → texts_of bodies ≡ bodies_of bytes)
list_stops None mid end at bodies same so_far last = tt
list_stops (Some bytes) mid end at bodies same so_far last = λ r.
    let there = subst (λ (o : Option (List ℕ)). IfSome o (λ l. IsReady l end → IsPlace l at → at ≡ end)) same last in
    list_ends (Some bytes) end at bodies so_far (there r (at_place bytes end at (texts_of bodies) r (so_far r))) r
