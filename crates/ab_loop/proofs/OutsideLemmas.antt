-- What is done outside, one after the other.
use Rattle.std.proofs.Common.{◌≡◌, ℕ, suc, ◌+◌, ◌<◌, ◌≤◌, min, List, [], ◌∷◌, ◌++◌, length, take, drop, get_or, Option, None, Some, Bool, true, false, not, is_some, if◌then◌else◌, refl, ap, sym, subst, ◌∙◌, append_assoc, append-nil, length-append, drop-cons, arith}
use Rattle.std.specs.List.{count_by}
use Rattle.std.specs.Io.KnownBytes.{Appends, Keeps}
use Rattle.std.proofs.Math.Seq.{take-add}
use Rattle.std.proofs.lemmas.List.{take-append-drop, take_more}
use Rattle.std.proofs.lemmas.List.Sums.{sum_by-append}
use Rattle.std.proofs.lemmas.Grind.{flat_map-append}
use Rattle.ab_io.specs.Causes.{RefusalCause, Rose}
use Rattle.ab_io.specs.Datagrams.{Datagram, with_sent}
use Rattle.ab_io.specs.declared.fault.Refused.{Refused}
use Rattle.ab_io.specs.declared.fault.Refused.TheVariants as refused
use Rattle.ab_loop.specs.declared.fault.ServeFault.{ServeFault}
use Rattle.ab_loop.specs.declared.fault.ServeFault.TheVariants as fault
use Rattle.ab_loop.specs.Edges.{capped, grown, those_gone, SayFault, SaysPart, SentAll, SentPart}
use Rattle.ab_loop.specs.Nodes.{datagrams_in}

-- ---- what is known and grows

pub grown_nil : {X : Type 0} (known : Option (List X)) → known ≡ grown known []
grown_nil None = refl
grown_nil (Some xs) = ap Some (sym (append-nil xs))

pub grown_then : {X : Type 0} (known : Option (List X)) (a b : List X) → grown (grown known a) b ≡ grown known (a ++ b)
grown_then None a b = refl
grown_then (Some xs) a b = ap Some (append_assoc xs a b)

put_grown : (b c : Option (List ℕ)) (bs : List ℕ) → is_some c ≡ is_some b → Appends b c bs → c ≡ grown b bs
put_grown None None bs same appends = refl
put_grown None (Some ys) bs same appends = cc
put_grown (Some xs) None bs same appends = absurd appends
put_grown (Some xs) (Some ys) bs same appends = ap Some appends

-- more of a text was written
pub says_next : (a b c : Option (List ℕ)) (bs part : List ℕ) (i n : ℕ) → part ≡ drop i bs → b ≡ grown a (take i bs) → is_some c ≡ is_some b → Appends b c (take n part)
    → c ≡ grown a (take (i + n) bs)
says_next a b c bs part i n is first same second =
    put_grown b c (take n part) same second
    ∙ ap (λ k. grown k (take n part)) first
    ∙ grown_then a (take i bs) (take n part)
    ∙ ap (λ p. grown a (take i bs ++ take n p)) is
    ∙ ap (grown a) (sym (take-add i n bs))

keeps_same : (b c : Option (List ℕ)) → is_some c ≡ is_some b → Keeps b c → c ≡ b
keeps_same None None same keeps = refl
keeps_same None (Some ys) same keeps = cc
keeps_same (Some xs) None same keeps = absurd keeps
keeps_same (Some xs) (Some ys) same keeps = ap Some keeps

-- a part was written
pub says_part : (a b c : Option (List ℕ)) (bs : List ℕ) (i : ℕ) → b ≡ grown a (take i bs) → is_some c ≡ is_some b → Keeps b c → SaysPart a c bs
says_part a b c bs i first same keeps = (take i bs, drop i bs, sym (take-append-drop i bs), keeps_same b c same keeps ∙ first)

-- a fault after earlier ones
pub say_rose : (why : Refused) (a b c : ℕ) → why ≡ refused.Failed → a ≤ b → RefusalCause why b c → Rose a c
say_rose refused.Failed a b c e earlier cause = omega (arith, earlier, cause)
say_rose refused.OutOfMemory a b c e earlier cause = cc

-- a text was written, and then a part of another
pub says_second : (a b c : Option (List ℕ)) (first second whole : List ℕ) → b ≡ grown a first → second ≡ whole → SaysPart b c second → SaysPart a c (first ++ whole)
says_second a b c first second whole wrote same p =
    (first ++ p.0, p.1, ap (λ (l : List ℕ). first ++ l) (sym same ∙ p.2) ∙ sym (append_assoc first p.0 p.1), p.3 ∙ ap (λ k. grown k p.0) wrote ∙ grown_then a first p.0)

-- a fault after an earlier text
pub say_later : (why : ServeFault) (a b c : ℕ) → a ≤ b → SayFault why b c → SayFault why a c
say_later fault.LinkFailed a b c le cause = absurd cause
say_later fault.WriteFailed a b c le cause = omega (arith, le, cause)
say_later fault.KeepFailed a b c le cause = absurd cause
say_later fault.OutOfMemory a b c le cause = tt
say_later (fault.TurnsSpent n) a b c le cause = absurd cause

-- ---- datagrams

pub those_append : (w v : List Bool) (x y : List Datagram) → length w ≡ length x → those_gone (w ++ v) (x ++ y) ≡ those_gone w x ++ those_gone v y
those_append [] v [] y e = refl
those_append [] v (d ∷ x) y e = let no : ⊥ = omega arith in absurd no
those_append (b ∷ w) v [] y e = let no : ⊥ = omega arith in absurd no
those_append (true ∷ w) v (d ∷ x) y e = ap (λ rest. d ∷ rest) (those_append w v x y (omega arith))
those_append (false ∷ w) v (d ∷ x) y e = those_append w v x y (omega arith)

pub capped_sum : (a b x y : ℕ) → a ≡ capped x → b ≡ capped y → capped (a + b) ≡ capped (x + y)
capped_sum a b x y e f = omega arith

pub sent_then : (a b c : Option (List Datagram)) (ds es : List Datagram) (l m : ℕ) → SentAll a b ds l → SentAll b c es m → SentAll a c (ds ++ es) (capped (l + m))
sent_then a b c ds es l m first second = record {
  went = first.went ++ second.went;
  each = omega (arith, length-append first.went second.went, length-append ds es, first.each, second.each);
  sent = second.sent ∙ ap (λ k. grown k (those_gone second.went es)) first.sent ∙ grown_then a (those_gone first.went ds) (those_gone second.went es)
      ∙ ap (grown a) (sym (those_append first.went second.went ds es first.each));
  lost_are = capped_sum l m (count_by not first.went) (count_by not second.went) first.lost_are second.lost_are
      ∙ ap capped (sym (sum_by-append (λ w. if not w then 1 else 0) first.went second.went));
}

pub sent_one : (b c : Option (List Datagram)) (port : ℕ) (bytes : List ℕ) → c ≡ with_sent b port bytes → SentAll b c ((port, bytes) ∷ []) 0
sent_one b c port bytes e = record { went = true ∷ []; each = refl; sent = e; lost_are = refl }

pub lost_one : (b c : Option (List Datagram)) (d : Datagram) → c ≡ b → SentAll b c (d ∷ []) 1
lost_one b c d e = record { went = false ∷ []; each = refl; sent = e ∙ grown_nil b; lost_are = refl }

-- one more of a list
pub sent_next : (a b c : Option (List Datagram)) (ds : List Datagram) (i l m : ℕ) (d : Datagram) → i < length ds → d ≡ get_or ds i d
    → SentAll a b (take i ds) l → SentAll b c (d ∷ []) m → SentAll a c (take (i + 1) ds) (capped (l + m))
sent_next a b c ds i l m d lt is first second =
    let e : take (i + 1) ds ≡ take i ds ++ d ∷ [] = take_more ds i d lt ∙ ap (λ x. take i ds ++ x ∷ []) (sym is) in
    subst (λ (list : List Datagram). SentAll a c list (capped (l + m))) (sym e) (sent_then a b c (take i ds) (d ∷ []) l m first second)

pub sent_front : (a b : Option (List Datagram)) (ds : List Datagram) (i l : ℕ) → SentAll a b (take i ds) l → SentPart a b ds
sent_front a b ds i l s = record { front = take i ds; back = drop i ds; went = s.went; parts = sym (take-append-drop i ds); each = s.each; sent = s.sent }

-- the datagrams of one more message
pub sent_more : (a b c : Option (List Datagram)) (ps : List (List Datagram)) (i l m : ℕ) (p : List Datagram) → i < length ps → p ≡ get_or ps i p
    → SentAll a b (datagrams_in (take i ps)) l → SentAll b c p m → SentAll a c (datagrams_in (take (i + 1) ps)) (capped (l + m))
sent_more a b c ps i l m p lt is first second =
    let e : datagrams_in (take (i + 1) ps) ≡ datagrams_in (take i ps) ++ p =
    ap datagrams_in (take_more ps i p lt ∙ ap (λ x. take i ps ++ x ∷ []) (sym is)) ∙ flat_map-append (λ x. x) (take i ps) (p ∷ [])
    ∙ ap (λ x. datagrams_in (take i ps) ++ x) (append-nil p) in
    subst (λ (list : List Datagram). SentAll a c list (capped (l + m))) (sym e) (sent_then a b c (datagrams_in (take i ps)) p l m first second)

-- some of the datagrams of one more message
pub part_more : (a b c : Option (List Datagram)) (ps : List (List Datagram)) (i l : ℕ) (p : List Datagram) → i < length ps → p ≡ get_or ps i p
    → SentAll a b (datagrams_in (take i ps)) l → SentPart b c p → SentPart a c (datagrams_in ps)
part_more a b c ps i l p lt is first second =
    let e : ps ≡ take i ps ++ p ∷ drop (suc i) ps =
    sym (take-append-drop i ps) ∙ ap (λ r. take i ps ++ r) (drop-cons ps i p lt ∙ ap (λ x. x ∷ drop (suc i) ps) (sym is)) in
    let D = datagrams_in (take i ps) in
    let R = datagrams_in (drop (suc i) ps) in
    record {
      front = datagrams_in (take i ps) ++ second.front;
      back = second.back ++ datagrams_in (drop (suc i) ps);
      went = first.went ++ second.went;
      parts = ap datagrams_in e ∙ flat_map-append (λ x. x) (take i ps) (p ∷ drop (suc i) ps) ∙ ap (λ x. D ++ (x ++ R)) second.parts
          ∙ ap (λ x. D ++ x) (append_assoc second.front second.back R) ∙ sym (append_assoc D second.front (second.back ++ R));
      each = omega (arith, length-append first.went second.went, length-append (datagrams_in (take i ps)) second.front, first.each, second.each);
      sent = second.sent ∙ ap (λ k. grown k (those_gone second.went second.front)) first.sent ∙ grown_then a (those_gone first.went (datagrams_in (take i ps))) (those_gone second.went second.front)
          ∙ ap (grown a) (sym (those_append first.went second.went (datagrams_in (take i ps)) second.front first.each));
    }

pub same_part : (a b c : Option (List Datagram)) (ds : List Datagram) → c ≡ b → SentPart a b ds → SentPart a c ds
same_part a b c ds e p = record { front = p.front; back = p.back; went = p.went; parts = p.parts; each = p.each; sent = e ∙ p.sent }

-- the count of losses after more were lost
pub more_lost : (a b c l m n : ℕ) → n ≡ min (l + m) 18446744073709551615 → a ≤ b → b ≤ c → min (a + l) 18446744073709551615 ≤ b → min (b + m) 18446744073709551615 ≤ c
    → min (a + n) 18446744073709551615 ≤ c
more_lost a b c l m n e ab bc first second = omega arith
