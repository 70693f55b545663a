-- What is left of the checks of a message.
use Rattle.std.proofs.Common.{◌≡◌, ℕ, zero, suc, ◌+◌, ◌-◌, ◌<◌, ◌≤◌, min, leb, Bool, true, false, List, [], ◌∷◌, ◌++◌, map, Option, Some, None, refl, sym, ap, arith}
use Rattle.std.proofs.lemmas.Bool.{lt-leb, leb-true, leb-false}
use Rattle.std.specs.Prelude.{if◌then◌else◌, nat_le}
use Rattle.std.proofs.lemmas.List.{append-nil}
use Rattle.std.specs.Borrow.{Bor}
use Rattle.ab_num.specs.declared.party.Party.TheVariants.{Replica}
use Rattle.ab_msg.specs.declared.content.Content.{Content}
use Rattle.ab_hist.specs.declared.request.Request.{Request}
use Rattle.ab_msg.specs.Claims.{maker_of, asked, each_before, claims_at, tag_of_position}
use Rattle.ab_check.specs.declared.chain.PassingRef.{PassingRef}
use Rattle.ab_check.specs.Chains.{said, said_by, asked_at}
use Rattle.ab_check.specs.Checks.{Check, slot_checks, slots_checks}

-- ---- along a chain

-- positions that are not there are left out
trim : (says : ℕ → Content) (j n m p : ℕ) → n ≡ j + m → p ≤ m + 1 → each_before n says p ≡ each_before m says p
trim says zero n m p e small = (let same : n ≡ m = omega arith in ap (λ (x : ℕ). each_before x says p) same)
trim says (suc j) zero m p e small = absurd (omega arith)
trim says (suc j) (suc k) m p e small =
    let none : p < k + 2 = omega arith in
    let less : k ≡ j + m = omega arith in
    rw (lt-leb (k + 2) p none) (trim says j k m p less small)

passed-some : (says : ℕ → Content) (n p left : ℕ) (b : Bool) → leb (p - 1) n ≡ b → left ≡ min (p - 1) n → each_before n says p ≡ each_before left says p
passed-some says n p left true e m =
    let le : p - 1 ≤ n = leb-true (p - 1) n e in
    trim says (n - left) n left p (omega arith) (omega arith)
passed-some says n p left false e m =
    let lt : n < p - 1 = leb-false (p - 1) n e in
    let same : n ≡ left = omega arith in
    ap (λ (x : ℕ). each_before x says p) same

-- positions are counted from 1, so there are p - 1 before position p
pub passed-first : (says : ℕ → Content) (n p left : ℕ) → left ≡ min (p - 1) n → each_before left says p ≡ each_before n says p
passed-first says n p left m = sym (passed-some says n p left (leb (p - 1) n) refl m)

maker_said : (l : PassingRef) (o : Option (Bor (List ℕ))) (r : ℕ) → maker_of (said_by l o r) ≡ Replica r
maker_said l None r = refl
maker_said l (Some reply) r = refl

pub said_maker : (l : PassingRef) (r : ℕ) → maker_of (said l r) ≡ Replica r
said_maker l r = maker_said l l.reply r

-- the client's request and the positions before, in two parts
two-parts : (g : Content → Check) (one : Content) (before : List Content) (b : Bool)
    → map g (if b then one ∷ [] else []) ++ map g before ≡ map g (if b then one ∷ before else before)
two-parts g one before true = refl
two-parts g one before false = refl

-- all that position p checks, where nothing else is left
pub position-claims : (g : Content → Check) (f i : ℕ) (m : Request) (n : ℕ) (d : List ℕ) (p place : ℕ) (front passed aborts prepared changes : List Check)
    → front ≡ map g (asked_at f i m p) → passed ≡ map g (each_before (f + 1) (tag_of_position f i m n d) p) → aborts ≡ [] → prepared ≡ [] → changes ≡ [] → p ≡ place
    → front ++ ([] ++ (passed ++ (aborts ++ (prepared ++ changes)))) ≡ map g (claims_at f i m n d place)
position-claims g f i m n d p place front passed aborts prepared changes one before none none' none'' here =
    rw (one, before, none, none', none'', sym here, append-nil (map g (each_before (f + 1) (tag_of_position f i m n d) p)))
    (two-parts g (asked i m) (each_before (f + 1) (tag_of_position f i m n d) p) (nat_le p (f + 1)))

-- ---- behind a view change

pub prepared-none : (i slot v s : ℕ) (x : List ℕ) (none : List (ℕ × List ℕ)) (es : List (ℕ × List ℕ)) (ps : List (List (ℕ × List ℕ)))
    → none ≡ [] → ps ≡ [] → slot_checks i v s x none ++ slots_checks i slot es ps ≡ []
prepared-none i slot v s x none [] ps n p = rw n refl
prepared-none i slot v s x none (e ∷ es) ps n p = rw (n, p) refl
