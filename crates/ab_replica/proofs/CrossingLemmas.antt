-- Certificates and the entries that they lead to.
use Rattle.std.proofs.Common.{◌≡◌, ℕ, ◌+◌, ◌<◌, ◌≤◌, Bool, true, false, ◌&&◌, nat_le, nat_lt, if◌then◌else◌, Option, None, Some, List, length, refl, sym, ap, subst, ◌∙◌, arith}
use Rattle.std.specs.Prelude.{◌==◌}
use Rattle.std.specs.Bool.{⊤}
use Rattle.std.proofs.lemmas.Bool.{and_left, and_right, eqb-false, ne_eqb, leb-true, le-leb, le-ltb, lt-leb, lt-ltb, or_parts, or_from}
use Rattle.ab_num.specs.declared.cluster.Cluster.{Cluster}
use Rattle.ab_num.specs.Places.{kind_of}
use Rattle.ab_hist.specs.declared.request.Request.{Request}
use Rattle.ab_hist.specs.Trimmed.{Trimmed}
use Rattle.ab_msg.specs.declared.signed.Signed.{Signed}
use Rattle.ab_msg.specs.declared.message.Msg.{Msg}
use Rattle.ab_abs.specs.Certificates.{history_of}
use Rattle.ab_abs.specs.Ensembles.{Proto, trimmed_entry}
use Rattle.ab_abs.specs.Messages.{took}
use Rattle.ab_stable.specs.Offers.{Based, are_whole, based_on_list, based_on_whole, list_of, makes_checkpoints, offered_by, offered_start, start_of}
use Rattle.ab_stable.proofs.Offered.{base_from_list, base_from_whole}
use Rattle.ab_run.specs.Setups.{RunSetup, last_instance}
use Rattle.ab_run.specs.Replicas.{Rep, RepAction, brought, cert_instance, due, due_by, due_with, logged_or, offer_to, own_list, taken}
use Rattle.ab_replica.specs.declared.crossing.Crossing.{Crossing}
use Rattle.ab_replica.specs.Crossings.{crossing_with, crossing_by, crossing_in, led_by, may_begin}
use Rattle.ab_replica.specs.Sites.{Site}
use Rattle.ab_replica.specs.Doings.{entering}

-- to the instance after j, with this
abbrev leads_to : Cluster → ℕ → List Signed → Based → Crossing
leads_to c j cert b = record { instance = j + 1; entry = trimmed_entry b.base b.trimmed cert; start = offered_start c j cert }

module _ {P : Type 0} (k : RunSetup) (proto : Proto P) (r : ℕ) (s : Rep P) (m : Msg) where
  -- what is due where the message leads over or doesn't
  abbrev pub IsDue : Option Crossing → List RepAction → Type 0
  IsDue None ts = ts ≡ taken k proto r s m
  IsDue (Some x) ts =
      (j : ℕ) × (cert : List Signed) × (n : ℕ) × (h : List Request) × (x ≡ record { instance = j + 1; entry = trimmed_entry h n cert; start = offered_start k.cluster j cert }) × (ts ≡ entering k proto r s m j cert n h)

  due_if : (j : ℕ) (cert : List Signed) (b : Based) (low high begins : Bool)
      → IsDue (if low && high then (if begins then Some (leads_to k.cluster j cert b) else None) else None)
      (if low && (high && begins) then entering k proto r s m j cert b.trimmed b.base else taken k proto r s m)
  due_if j cert b true true true = (j, cert, b.trimmed, b.base, refl, refl)
  due_if j cert b true true false = refl
  due_if j cert b true false begins = refl
  due_if j cert b false high begins = refl

  none_due : (goes : Bool) → IsDue (if goes then None else None) (taken k proto r s m)
  none_due true = refl
  none_due false = refl

  due_of : (j : ℕ) (cert : List Signed) (o : Option Based) → IsDue (crossing_with k.cluster s.at j cert o) (due_with k proto r s m j cert o)
  due_of j cert None = none_due (nat_le s.at j && nat_lt j last_instance)
  due_of j cert (Some b) = due_if j cert b (nat_le s.at j) (nat_lt j last_instance) (may_begin k.cluster (j + 1) b.trimmed)

  due_in : (o : Option (List Signed)) → IsDue (crossing_in k.cluster s.at (proto.trimmed s.value) (own_list k proto s) o) (due_by k proto r s m o)
  due_in None = refl
  due_in (Some cert) = due_of (cert_instance cert) cert (offer_to k proto s (cert_instance cert) cert)

  pub due_is : IsDue (crossing_in k.cluster s.at (proto.trimmed s.value) (own_list k proto s) (brought m)) (due k proto r s (took m))
  due_is = due_in (brought m)

-- ---- what a certificate brings

-- it has what is trimmed of it, no less than that of the own log, and the n entries that the list has forgotten
abbrev HasTrimmed : ℕ → ℕ → Option Based → Type 0
HasTrimmed k n None = ⊤
HasTrimmed k n (Some b) = (k ≤ b.trimmed) × (b.trimmed ≤ length b.base) × (n ≤ length b.base)

module _ (k : ℕ) (own : List Request) (le : k ≤ length own) where
  of_list : (t : Option Trimmed) → HasTrimmed k (start_of t) (based_on_list k own t)
  of_list None = tt
  of_list (Some t) = by_base (based_on_list k own (Some t)) refl
    where
      by_base : (o : Option Based) → based_on_list k own (Some t) ≡ o → HasTrimmed k t.start o
      by_base None is = tt
      by_base (Some b) is = let base = base_from_list k own t le b is in (base.2, base.3, omega (arith, base.0))

  of_whole : (h : Option (List Request)) → HasTrimmed k 0 (based_on_whole k own h)
  of_whole None = tt
  of_whole (Some h) = by_base (based_on_whole k own (Some h)) refl
    where
      by_base : (o : Option Based) → based_on_whole k own (Some h) ≡ o → HasTrimmed k 0 o
      by_base None is = tt
      by_base (Some b) is =
          let base = base_from_whole k own h b is in
          (omega (arith, base.1), omega (arith, base.1, base.2, ap length base.0), omega arith)

  of_cert : (c : Cluster) (j : ℕ) (cert : List Signed) → HasTrimmed k (offered_start c j cert) (offered_by c k own j cert)
  of_cert c j cert = by_test (are_whole cert)
    where
      by_test : (b : Bool) → HasTrimmed k (if b then 0 else start_of (list_of c j cert)) (if b then based_on_whole k own (history_of c j cert) else based_on_list k own (list_of c j cert))
      by_test true = of_whole (history_of c j cert)
      by_test false = of_list (list_of c j cert)

-- ---- which histories may begin an instance

-- where one doesn't, one of which more is trimmed doesn't either
no_more : (c : Cluster) (i k n : ℕ) → k ≤ n → may_begin c i k ≡ false → may_begin c i n ≡ false
no_more c i k n le lacks =
    let both = or_parts (k == 0) (makes_checkpoints (kind_of c.plan i)) lacks in
    or_from (n == 0) (makes_checkpoints (kind_of c.plan i)) (ne_eqb n 0 (λ none. eqb-false k 0 both.0 (omega (arith, le, none)))) both.1

-- so a certificate leads nowhere if what the own log has trimmed may not begin there
led_nowhere : (c : Cluster) (j k n : ℕ) (cert : List Signed) (o : Option Based) → HasTrimmed k n o → may_begin c (j + 1) k ≡ false → led_by c j cert o ≡ None
led_nowhere c j k n cert None has lacks = refl
led_nowhere c j k n cert (Some b) has lacks = ap (λ (goes : Bool). if goes then Some (leads_to c j cert b) else None) (no_more c (j + 1) k b.trimmed has.0 lacks)

pub offers_nowhere : (c : Cluster) (j k : ℕ) (own : List Request) (cert : List Signed) → k ≤ length own → may_begin c (j + 1) k ≡ false → led_by c j cert (offered_by c k own j cert) ≡ None
offers_nowhere c j k own cert le = led_nowhere c j k (offered_start c j cert) cert (offered_by c k own j cert) (of_cert k own le c j cert)

-- where it leads from instance at
from_here : (c : Cluster) (at j : ℕ) (cert : List Signed) (o : Option Based) → at ≤ j → j < last_instance → crossing_with c at j cert o ≡ led_by c j cert o
from_here c at j cert o low high =
    ap (λ (goes : Bool). if goes && nat_lt j last_instance then led_by c j cert o else None) (le-leb at j low)
    ∙ ap (λ (goes : Bool). if goes then led_by c j cert o else None) (lt-ltb j last_instance high)

-- or doesn't
not_from : (c : Cluster) (at j : ℕ) (cert : List Signed) (o : Option Based) → (nat_le at j && nat_lt j last_instance) ≡ false → crossing_with c at j cert o ≡ None
not_from c at j cert o lacks = ap (λ (goes : Bool). if goes then led_by c j cert o else None) lacks

module _ (c : Cluster) (at k : ℕ) (own : List Request) (cert : List Signed) (j : ℕ) (names : j ≡ cert_instance cert) where
  abbrev same : ℕ → Type 0
  same i = crossing_by c at k own cert ≡ led_by c i cert (offered_by c k own i cert)

  pub goes_by : at ≤ j → j < last_instance → same j
  goes_by low high =
      subst same (sym names) (from_here c at (cert_instance cert) cert (offered_by c k own (cert_instance cert) cert) (omega (arith, low, names)) (omega (arith, high, names)))

  pub too_early : j < at → crossing_by c at k own cert ≡ None
  too_early before =
      let i = cert_instance cert in
      not_from c at i cert (offered_by c k own i cert) (and_left (nat_le at i) (nat_lt i last_instance) (lt-leb at i (omega (arith, before, names))))

  pub too_late : last_instance ≤ j → crossing_by c at k own cert ≡ None
  too_late behind =
      let i = cert_instance cert in
      not_from c at i cert (offered_by c k own i cert) (and_right (nat_le at i) (nat_lt i last_instance) (le-ltb i last_instance (omega (arith, behind, names))))

-- ---- where a certificate leads

-- ahead, with a history that may begin there
pub record MayEnter (c : Cluster) (at : ℕ) (x : Crossing) : Type 0 where
  pub higher : at < x.instance
  pub within : x.entry.trimmed ≤ length x.entry.base
  pub begins : may_begin c x.instance x.entry.trimmed ≡ true
  pub shown : x.start ≤ length x.entry.base

abbrev pub MayLead : Cluster → ℕ → Option Crossing → Type 0
MayLead c at None = ⊤
MayLead c at (Some x) = MayEnter c at x

leads_begun : (c : Cluster) (at j : ℕ) (cert : List Signed) (b : Based) (begins : Bool) → at ≤ j → b.trimmed ≤ length b.base → offered_start c j cert ≤ length b.base → may_begin c (j + 1) b.trimmed ≡ begins
    → MayLead c at (if begins then Some (leads_to c j cert b) else None)
leads_begun c at j cert b true low within shown begins = record { higher = omega (arith, low); within = within; begins = begins; shown = shown }
leads_begun c at j cert b false low within shown begins = tt

leads_by : (c : Cluster) (at k j : ℕ) (cert : List Signed) (o : Option Based) → HasTrimmed k (offered_start c j cert) o → at ≤ j → MayLead c at (led_by c j cert o)
leads_by c at k j cert None has low = tt
leads_by c at k j cert (Some b) has low = leads_begun c at j cert b (may_begin c (j + 1) b.trimmed) low has.1 has.2 refl

leads_if : (c : Cluster) (at k j : ℕ) (cert : List Signed) (o : Option Based) (low high : Bool) → (low ≡ true → at ≤ j) → HasTrimmed k (offered_start c j cert) o
    → MayLead c at (if low && high then led_by c j cert o else None)
leads_if c at k j cert o true true is has = leads_by c at k j cert o has (is refl)
leads_if c at k j cert o true false is has = tt
leads_if c at k j cert o false high is has = tt

leads_with : (c : Cluster) (at k j : ℕ) (cert : List Signed) (o : Option Based) → HasTrimmed k (offered_start c j cert) o → MayLead c at (crossing_with c at j cert o)
leads_with c at k j cert o has = leads_if c at k j cert o (nat_le at j) (nat_lt j last_instance) (leb-true at j) has

pub leads : (c : Cluster) (at k : ℕ) (own : List Request) → k ≤ length own → (o : Option (List Signed)) → MayLead c at (crossing_in c at k own o)
leads c at k own le None = tt
leads c at k own le (Some cert) = leads_with c at k (cert_instance cert) cert (offered_by c k own (cert_instance cert) cert) (of_cert k own le c (cert_instance cert) cert)

-- ---- of a replica

module _ {P : Type 0} (proto : Proto P) (m : Msg) where
  -- where the message leads it
  abbrev pub own_crossing : Site P → Option Crossing
  own_crossing s = crossing_in s.cluster s.rep.at (proto.trimmed s.rep.value) (logged_or (proto.state s.rep.value).log s.rep.entry.base) (brought m)

  pub own_is : {q : Site P} (s : Site P) (k : ℕ) (own : List Request) (o : Option Crossing) → q ≡ s → k ≡ proto.trimmed q.rep.value
      → own ≡ logged_or (proto.state s.rep.value).log s.rep.entry.base → o ≡ crossing_in q.cluster q.rep.at k own (brought m) → o ≡ own_crossing s
  own_is {q} s k own o same trimmed list is =
      is ∙ ap (λ (n : ℕ). crossing_in q.cluster q.rep.at n own (brought m)) trimmed
      ∙ ap (λ (t : Site P). crossing_in t.cluster t.rep.at (proto.trimmed t.rep.value) own (brought m)) same
      ∙ ap (λ (log : List Request). crossing_in s.cluster s.rep.at (proto.trimmed s.rep.value) log (brought m)) list

  pub own_enters : (s : Site P) (own : List Request) (x : Crossing) → own ≡ logged_or (proto.state s.rep.value).log s.rep.entry.base → proto.trimmed s.rep.value ≤ length own
      → Some x ≡ own_crossing s → MayEnter s.cluster s.rep.at x
  own_enters s own x list within is =
      let log = logged_or (proto.state s.rep.value).log s.rep.entry.base in
      subst (MayLead s.cluster s.rep.at) (sym is) (leads s.cluster s.rep.at (proto.trimmed s.rep.value) log (omega (arith, within, ap length list)) (brought m))
