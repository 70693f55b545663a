-- A journal is opened, read and begun, where the disk tells.
use Rattle.std.proofs.Common.{◌≡◌, ◌⊎◌, ℕ, ◌<◌, List, [], ◌∷◌, ◌++◌, map, length, Option, None, Some, IfSome, Vec, is_some, true, inl, inr, ⊎_elim, refl, ap, sym, subst, ◌∙◌, arith}
use Rattle.std.specs.declared.alloc.Global.{Global}
use Rattle.ab_disk.specs.Disks.{DiskModel, LeavesOnly, Only}
use Rattle.ab_journal.specs.Entries.{bodies_of}
use Rattle.ab_journal.specs.Journals.{HasOpened, IsReady, IsStanding, Keeps, Lists, ListsOr, OneMore, SameList, texts_of}
use Rattle.ab_journal.specs.Keepers.{listed}
use Rattle.ab_journal.proofs.KeepLemmas.{both_leave, weaker}
use Rattle.ab_loop.specs.Cores.{NodeEvent}
use Rattle.ab_loop.specs.Past.{body_of}
use Rattle.ab_restart.specs.Pasts.{HasResumed, IsForeign, IsPast, ListsOrBegun, begun}
use Rattle.ab_restart.proofs.PastLemmas.{are_kept}

if_some : {X : Type 0} {P Q : X → Type 0} (o : Option X) → ((x : X) → P x → Q x) → IfSome o P → IfSome o Q
if_some None f p = tt
if_some (Some x) f p = f x p

-- ---- it is opened and read

-- these are its bodies
abbrev pub Are : Option (List ℕ) → List (List ℕ) → Type 0
Are seen texts = IfSome seen (λ bytes. texts ≡ bodies_of bytes)

module _ {D : Type 0} (m : DiskModel D) where
  abbrev pub Stands : Option (List ℕ) → ℕ → D → Type 0
  Stands seen end d = IfSome seen (λ bytes. IsReady bytes end × Only bytes (m.may_leave d))

  pub stands_after : (mid new : D) (end : ℕ) → IsStanding m end mid → Keeps m mid new → IsStanding m end new
  stands_after mid new end stands keeps =
      let still : Stands (m.seen mid) end new = if_some (m.seen mid) (λ bytes p. (p.0, λ c may. p.1 c (keeps.crash c may))) stands in
      subst (λ (seen : Option (List ℕ)). Stands seen end new) (sym keeps.seen) still

  pub are_read : (seen mid : Option (List ℕ)) (end : ℕ) (d : D) (texts : List (List ℕ)) → is_some mid ≡ is_some seen → SameList seen mid → Stands mid end d → IfSome mid (λ bytes. IsReady bytes end → texts ≡ bodies_of bytes) → Are seen texts
  are_read None mid end d texts told same stands read = tt
  are_read (Some a) None end d texts told same stands read = absurd (cc (told))
  are_read (Some a) (Some b) end d texts told same stands read = read stands.0 ∙ same

  opened : (old mid new : D) (bytes : List ℕ) (seen : Option (List ℕ)) (end : ℕ) → is_some seen ≡ true → SameList (Some bytes) seen → Stands seen end mid → Keeps m mid new → HasOpened m old mid (bodies_of bytes)
      → HasOpened m old new (bodies_of bytes)
  opened old mid new bytes None end told same stands keeps was = absurd (cc (told))
  opened old mid new bytes (Some b) end told same stands keeps was = record {
    synced = was.synced;
    before = was.before;
    after = both_leave m was.synced mid new (Lists (bodies_of bytes)) was.after (weaker m mid new (m.may_leave mid) (Lists (bodies_of bytes)) (λ c may. ap bodies_of (stands.1 c may) ∙ same) keeps.leaves);
  }

  pub opened_told : (old mid new : D) (seen : Option (List ℕ)) (end : ℕ) → is_some (m.seen mid) ≡ is_some seen → SameList seen (m.seen mid) → IsStanding m end mid → Keeps m mid new → IfSome seen (λ bytes. HasOpened m old mid (bodies_of bytes))
      → IfSome seen (λ bytes. HasOpened m old new (bodies_of bytes))
  opened_told old mid new None end told same stands keeps was = tt
  opened_told old mid new (Some bytes) end told same stands keeps was = opened old mid new bytes (m.seen mid) end told same stands keeps was

  -- ---- as it is gone on with

  resumed : (old new : D) (first : List ℕ) (bodies : List (List ℕ)) → HasOpened m old new bodies → HasResumed m old new first bodies
  resumed old new first bodies was = record {
    synced = was.synced;
    before = was.before;
    after = weaker m was.synced new (Lists bodies) (ListsOrBegun first bodies) (λ c lists. inl lists) was.after;
  }

  pub resumed_told : (old new : D) (first : List ℕ) (seen : Option (List ℕ)) → IfSome seen (λ bytes. HasOpened m old new (bodies_of bytes)) → IfSome seen (λ bytes. HasResumed m old new first (bodies_of bytes))
  resumed_told old new first seen was = if_some seen (λ bytes h. resumed old new first (bodies_of bytes) h) was

  begins : (old mid new : D) (first : List ℕ) (bodies was : List (List ℕ)) → bodies ≡ [] → was ≡ bodies → HasOpened m old mid bodies → LeavesOnly m mid new (ListsOr was first) → HasResumed m old new first bodies
  begins old mid new first bodies was none same opened appends =
      let one : (c : List ℕ) → ListsOr was first c → ListsOrBegun first bodies c = λ c. ⊎_elim (λ l. inl (l ∙ same)) (λ l. inr (l ∙ ap (λ (l : List (List ℕ)). l ++ first ∷ []) (same ∙ none) ∙ ap (λ (l : List (List ℕ)). begun first l) (sym none))) in
      record {
        synced = opened.synced;
        before = opened.before;
        after =
            both_leave m opened.synced mid new (ListsOrBegun first bodies) (weaker m opened.synced mid (Lists bodies) (ListsOrBegun first bodies) (λ c lists. inl lists) opened.after)
            (weaker m mid new (ListsOr was first) (ListsOrBegun first bodies) one appends);
      }

  pub begins_told : (old mid new : D) (first : List ℕ) (seen was : Option (List ℕ)) (texts : List (List ℕ)) → texts ≡ [] → Are seen texts → is_some was ≡ is_some seen → SameList seen was → IfSome seen (λ bytes. HasOpened m old mid (bodies_of bytes))
      → IfSome was (λ bytes. LeavesOnly m mid new (ListsOr (bodies_of bytes) first)) → IfSome seen (λ bytes. HasResumed m old new first (bodies_of bytes))
  begins_told old mid new first None was texts none are told same opened appends = tt
  begins_told old mid new first (Some a) None texts none are told same opened appends = absurd (cc (told))
  begins_told old mid new first (Some a) (Some b) texts none are told same opened appends = begins old mid new first (bodies_of a) (bodies_of b) (sym are ∙ none) same opened appends

  -- the same where it was refused
  pub refused_told : (old new : D) (first : List ℕ) (seen : Option (List ℕ)) → IfSome seen (λ bytes. HasResumed m old new first (bodies_of bytes))
      → IfSome seen (λ bytes. HasResumed m old new first (bodies_of bytes) ⊎ LeavesOnly m old new (m.may_leave old))
  refused_told old new first None was = tt
  refused_told old new first (Some bytes) was = inl was

-- ---- its list

abbrev pub IsBegun : List ℕ → Option (List ℕ) → Option (List ℕ) → Type 0
IsBegun first old new = IfSome old (λ a. IfSome new (λ b. bodies_of b ≡ begun first (bodies_of a)))

pub begun_told : (first : List ℕ) (old mid new : Option (List ℕ)) (texts : List (List ℕ)) → texts ≡ [] → Are old texts → is_some mid ≡ is_some old → SameList old mid → OneMore first mid new → IsBegun first old new
begun_told first None mid new texts none are told same more = tt
begun_told first (Some a) None new texts none are told same more = absurd (cc (told))
begun_told first (Some a) (Some b) None texts none are told same more = tt
begun_told first (Some a) (Some b) (Some c) texts none are told same more =
    more ∙ ap (λ (l : List (List ℕ)). l ++ first ∷ []) (same ∙ sym are ∙ none) ∙ ap (λ (l : List (List ℕ)). begun first l) (sym none ∙ are)

begun_stays : (first : List ℕ) (bodies : List (List ℕ)) → 0 < length bodies → bodies ≡ begun first bodies
begun_stays first [] some = absurd (omega (arith, some))
begun_stays first (b ∷ bs) some = refl

pub stays_told : (first : List ℕ) (old new : Option (List ℕ)) (texts : List (List ℕ)) → 0 < length texts → Are old texts → SameList old new → IsBegun first old new
stays_told first None new texts some are same = tt
stays_told first (Some a) None texts some are same = tt
stays_told first (Some a) (Some b) texts some are same = same ∙ begun_stays first (bodies_of a) (omega (arith, some, ap length are))

pub past_none : (first : List ℕ) (seen : Option (List ℕ)) (texts : List (List ℕ)) → texts ≡ [] → Are seen texts → IfSome seen (λ bytes. IsPast first (bodies_of bytes) [])
past_none first seen texts none are = if_some seen (λ bytes is. subst (λ (l : List (List ℕ)). IsPast first l []) (sym none ∙ is) refl) are

pub past_told : (first : List ℕ) (seen : Option (List ℕ)) (texts : List (List ℕ)) (past : List NodeEvent) → Are seen texts → IsPast first texts past → IfSome seen (λ bytes. IsPast first (bodies_of bytes) past)
past_told first seen texts past are is = if_some seen (λ bytes same. subst (λ (l : List (List ℕ)). IsPast first l past) same is) are

pub foreign_told : (first : List ℕ) (seen : Option (List ℕ)) (texts : List (List ℕ)) (n : ℕ) → Are seen texts → IsForeign first texts n → IfSome seen (λ bytes. IsForeign first (bodies_of bytes) n)
foreign_told first seen texts n are is = if_some seen (λ bytes same. subst (λ (l : List (List ℕ)). IsForeign first l n) same is) are

pub kept_told : (first : List ℕ) (old new : Option (List ℕ)) (past : List NodeEvent) → is_some new ≡ is_some old → IfSome old (λ bytes. IsPast first (bodies_of bytes) past) → IsBegun first old new
    → IfSome (listed new) (λ bodies. bodies ≡ first ∷ map body_of past)
kept_told first old None past told is begins = tt
kept_told first None (Some b) past told is begins = absurd (cc (told))
kept_told first (Some a) (Some b) past told is begins = begins ∙ (are_kept first (bodies_of a) past is).0

pub no_texts : (bodies : List (Vec ℕ Global)) → length bodies ≡ 0 → texts_of bodies ≡ []
no_texts [] none = refl
no_texts (b ∷ bs) none = absurd (omega (arith, none))
