-- The certificates that are kept signed are those that the rules keep, so a VIEW-CHANGE states as many slots as it has values and PREPAREs for.
use Rattle.std.proofs.Common.{◌≡◌, ℕ, zero, suc, ◌+◌, ◌≤◌, Some, None, Option, List, [], ◌∷◌, length, set, slice_get, map, replicate, refl, sym, ap, ◌∙◌, subst, inl, inr, arith}
use Rattle.std.specs.Prelude.{Contains}
use Rattle.std.proofs.lemmas.Option.{none-some, same_Some}
use Rattle.std.proofs.lemmas.List.{length-set, length-map, length-replicate}
use Rattle.ab_num.specs.declared.party.Party.TheVariants.{Replica}
use Rattle.ab_num.proofs.Lists.{Contains-map_cases}
use Rattle.ab_hist.specs.declared.request.Request.{Request}
use Rattle.ab_hist.specs.Trimmed.{untrimmed}
use Rattle.ab_mac.proofs.Sha256Lemmas.{length-sha256}
use Rattle.ab_hist.specs.Digests.{digest_of_base, request_digest}
use Rattle.ab_msg.specs.declared.content.Content.TheVariants.{ViewChange}
use Rattle.ab_msg.specs.declared.value.Value.{Value}
use Rattle.ab_msg.specs.declared.value.Value.TheVariants.{Base, Request as Order}
use Rattle.ab_msg.specs.Slots.{base_digest, slot_digest}
use Rattle.ab_msg.specs.Fields.{IsInstance, IsView, IsSig, IsWritten, IsSpellable}
use Rattle.ab_msg.specs.Contents.{IsEntry}
use Rattle.ab_msg.specs.Certs.{IsRequestValue, AreSlotValues, ArePrepares, IsProof}
use Rattle.ab_abs.proofs.Certified.{all_of}
use Rattle.ab_lock.specs.Steps.{Cert, SlotEntry, cert_at, with_cert, entry_of}
use Rattle.ab_lock.specs.ViewChanges.{cert_then, certs_from}
use Rattle.ab_lock.proofs.CertLemmas.{with_cert-last, with_cert-other}
use Rattle.ab_lock.proofs.Lists.{nth_map}
use Rattle.ab_lock.proofs.ViewChangeLemmas.{listed}
use Rattle.ab_order.proofs.Answering.{place_of}
use Rattle.ab_pbft_rules.specs.Traces.{pair_of}
use Rattle.ab_pbft_shelf.specs.declared.kept.Certified.{Certified}
use Rattle.ab_pbft_shelf.specs.Shelves.{certified_front, own_proof}
use Rattle.ab_pbft_drafts.specs.Bounds.{IsValueAt, AreValuesAt, IsCertAt, AreCertsAt, AreBoth, AreCertified}
use Rattle.ab_pbft_drafts.proofs.Lists.{nth_set}

-- ---- digests of slots

length-base_digest : (h : List Request) → length (base_digest h) ≡ 32
unfolding base_digest digest_of_base
length-base_digest h = length-sha256 _

length-request_digest : (m : Request) → length (request_digest m) ≡ 32
unfolding request_digest
length-request_digest m = length-sha256 _

pub length-slot_digest : (value : Value) → length (slot_digest value) ≡ 32
length-slot_digest (Base h) = length-base_digest h
length-slot_digest (Order m) = length-request_digest m

-- ---- a slot gets a certificate

pub certified_set : (k v n : ℕ) (h : List Value) (value : Value) (certs : List (Option (Cert Value))) (certified : List (Option Certified)) (z : Certified) → AreCertified k certs certified → suc n ≡ length h → slice_get h n ≡ Some value
    → IsValueAt n z.value → ArePrepares z.prepares → AreCertified k (with_cert v h certs) (set certified n (Some z))
certified_set k v n h value certs certified z was len there at_slot by = record {
  many = length-set certified n (Some z) ∙ was.many;
  each = λ t o is. elim (nth_set certified n (Some z) t o is) [
    | inl here ↦
        subst (λ (p : Option Certified). AreBoth t (cert_at (with_cert v h certs) t) p) here.1
        (subst (λ (s : ℕ). AreBoth s (cert_at (with_cert v h certs) s) (Some z)) (sym here.0)
        (subst (λ (c : Option (Cert Value)). AreBoth n c (Some z)) (sym (with_cert-last v h certs n value len there)) (at_slot, by)))
    | inr other ↦ subst (λ (c : Option (Cert Value)). AreBoth t c o) (sym (with_cert-other v h certs t (λ e. other.0 (omega (arith, e, len))))) (was.each t o other.1)
  ];
}

none_at : (n t : ℕ) (o : Option Certified) → slice_get (replicate n None) t ≡ Some o → None ≡ o
none_at zero t o is = absurd (none-some o is)
none_at (suc n) zero o is = same_Some None o is
none_at (suc n) (suc t) o is = none_at n t o is

pub none_certified : (k : ℕ) → AreCertified k [] (replicate (k + 1) None)
none_certified k = record {
  many = length-replicate (k + 1) None ∙ omega arith;
  each = λ t o is. subst (λ (p : Option Certified). AreBoth t None p) (none_at (k + 1) t o is) tt;
}

-- ---- those of the slots from 0 on

record AreFronts (t : ℕ) (certs : List (Cert Value)) (certificates : List Certified) : Type 0 where
  same : length certs ≡ length certificates
  each : (j : ℕ) (z : Certified) → slice_get certificates j ≡ Some z → IsValueAt (t + j) z.value × ArePrepares z.prepares

fronts : (certs : ℕ → Option (Cert Value)) (n t : ℕ) (certified : List (Option Certified)) → length certified ≡ n → ((j : ℕ) (o : Option Certified) → slice_get certified j ≡ Some o → AreBoth (t + j) (certs (t + j)) o)
    → AreFronts t (certs_from certs n t) (certified_front certified)
fronts certs zero t [] len each = record { same = refl; each = λ j z is. absurd (none-some z is) }
fronts certs zero t (o ∷ certified) len each = absurd (omega (arith, len))
fronts certs (suc n) t [] len each = absurd (omega (arith, len))
fronts certs (suc n) t (o ∷ certified) len each =
    let here : t + 0 ≡ t = omega arith in
    of_both (certs t) o (subst (λ (m : ℕ). AreBoth m (certs m) o) here (each 0 o refl)) (fronts certs n (suc t) certified (omega (arith, len)) (λ j p is.
    let next : t + suc j ≡ suc t + j = omega arith in
    subst (λ (m : ℕ). AreBoth m (certs m) p) next (each (suc j) p is)))
  where
    more : (z : Certified) (rest : List Certified) → IsValueAt t z.value × ArePrepares z.prepares → ((j : ℕ) (y : Certified) → slice_get rest j ≡ Some y → IsValueAt (suc t + j) y.value × ArePrepares y.prepares)
        → (j : ℕ) (y : Certified) → slice_get (z ∷ rest) j ≡ Some y → IsValueAt (t + j) y.value × ArePrepares y.prepares
    more z rest first later zero y is =
        let here : t ≡ t + 0 = omega arith in
        subst (λ (m : ℕ). IsValueAt m y.value × ArePrepares y.prepares) here (subst (λ (x : Certified). IsValueAt t x.value × ArePrepares x.prepares) (same_Some z y is) first)
    more z rest first later (suc j) y is =
        let next : suc t + j ≡ t + suc j = omega arith in
        subst (λ (m : ℕ). IsValueAt m y.value × ArePrepares y.prepares) next (later j y is)

    of_both : (c : Option (Cert Value)) (p : Option Certified) → AreBoth t c p → AreFronts (suc t) (certs_from certs n (suc t)) (certified_front certified) → AreFronts t (cert_then (certs_from certs n (suc t)) c) (certified_front (p ∷ certified))
    of_both None None both rest = record { same = refl; each = λ j z is. absurd (none-some z is) }
    of_both None (Some z) both rest = absurd both
    of_both (Some d) None both rest = absurd both
    of_both (Some d) (Some z) both rest = record { same = ap suc rest.same; each = more z (certified_front certified) both rest.each }

few_certs : (certs : ℕ → Option (Cert Value)) (n t : ℕ) → length (certs_from certs n t) ≤ n
few_certs certs zero t = omega arith
few_certs certs (suc n) t = of_cert (certs t) (few_certs certs n (suc t))
  where
    of_cert : (c : Option (Cert Value)) → length (certs_from certs n (suc t)) ≤ n → length (cert_then (certs_from certs n (suc t)) c) ≤ suc n
    of_cert None few = omega arith
    of_cert (Some d) few = omega (arith, few)

value_behind : (t : ℕ) (value : Value) → IsValueAt (suc t) value → IsRequestValue value
value_behind t (Base h) is = absurd is
value_behind t (Order m) is = is

-- a base, and requests behind it
whole_base : (h : List Request) → IsWritten h → IsSpellable (untrimmed h)
whole_base h is = record { rest = is; few = omega (arith, is.0.1); digest = refl; nothing = λ _. refl }

pub slot_values : (values : List Value) → AreValuesAt values → AreSlotValues 0 (replicate 32 0) values
slot_values [] are = (refl, refl)
slot_values (Base h ∷ values) are = (whole_base h (are 0 (Base h) refl), all_of IsRequestValue values (λ v has. let w = place_of values v has in value_behind w.0 v (are (suc w.0) v w.1)))
slot_values (Order m ∷ values) are = absurd (are 0 (Order m) refl)

-- ---- the own VIEW-CHANGE

pub own_certs : (k : ℕ) (certs : List (Option (Cert Value))) → ((t : ℕ) (c : Cert Value) → cert_at certs t ≡ Some c → IsCertAt t c) → AreCertsAt (certs_from (cert_at certs) (suc k) 0)
own_certs k certs each t c is = let here : 0 + t ≡ t = omega arith in each t c (ap (λ n. cert_at certs n) (sym here) ∙ listed (cert_at certs) (suc k) 0 t c is)

entry_formed : (c : Cert Value) (t : ℕ) → IsCertAt t c → IsEntry (pair_of (entry_of slot_digest c))
entry_formed c t is = (is.0, length-slot_digest c.value)

pub own_formed : (k me i view : ℕ) (certs : List (Option (Cert Value))) (certified : List (Option Certified)) (sig : List ℕ) → k ≤ 16 → me ≤ 6 → IsInstance i → IsView view → IsSig sig
    → ((t : ℕ) (c : Cert Value) → cert_at certs t ≡ Some c → IsCertAt t c) → AreCertified k certs certified
    → IsProof (own_proof me (ViewChange (Replica me) i view (map pair_of (map (entry_of slot_digest) (certs_from (cert_at certs) (suc k) 0)))) (certified_front certified) sig)
own_formed k me i view certs certified sig small few placed seen signs each are =
    let stated = certs_from (cert_at certs) (suc k) 0 in
    let entries = map (entry_of slot_digest) stated in
    let certificates = certified_front certified in
    let front = fronts (cert_at certs) (suc k) 0 certified are.many (λ j o is. let here : j ≡ 0 + j = omega arith in subst (λ (m : ℕ). AreBoth m (cert_at certs m) o) here (are.each j o is)) in
    let long : length (map pair_of entries) ≡ length stated = length-map entries pair_of ∙ length-map stated (entry_of slot_digest) in
    let formed = λ (e : ℕ × List ℕ) (has : Contains (map pair_of entries) e).
    let p = Contains-map_cases pair_of entries e has in
    let c = Contains-map_cases (entry_of slot_digest) stated p.0 p.1 in
    let t = place_of stated c.0 c.1 in
    subst (λ (x : ℕ × List ℕ). IsEntry x) p.2 (subst (λ (x : SlotEntry (List ℕ)). IsEntry (pair_of x)) c.2 (entry_formed c.0 t.0 (own_certs k certs each t.0 c.0 t.1))) in
    let values : AreValuesAt (map (λ (z : Certified). z.value) certificates) = λ t v is.
    let z = nth_map (λ (z : Certified). z.value) certificates t v is in
    let here : 0 + t ≡ t = omega arith in
    subst (λ (x : Value). IsValueAt t x) z.2 (subst (λ (m : ℕ). IsValueAt m z.0.value) here (front.each t z.0 z.1).0) in
    let prepares = λ (by : List (ℕ × List ℕ)) (has : Contains (map (λ (z : Certified). z.prepares) certificates) by).
    let z = Contains-map_cases (λ (z : Certified). z.prepares) certificates by has in
    let t = place_of certificates z.0 z.1 in
    subst (λ (x : List (ℕ × List ℕ)). ArePrepares x) z.2 (front.each t.0 z.0 t.1).1 in (
      (refl, (((omega arith, few), (placed, (seen, ((omega arith, omega (arith, long, few_certs (cert_at certs) (suc k) 0, small)), all_of IsEntry (map pair_of entries) formed)))), signs)),
      (
        (length-map certificates (λ (z : Certified). z.value) ∙ (sym front.same ∙ sym long), slot_values (map (λ (z : Certified). z.value) certificates) values),
        (length-map certificates (λ (z : Certified). z.prepares) ∙ (sym front.same ∙ sym long), all_of ArePrepares (map (λ (z : Certified). z.prepares) certificates) prepares),
      ),
    )
