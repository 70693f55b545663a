-- What a certificate brings to a replica has bytes.
use Rattle.std.proofs.Common.{◌≡◌, ◌⊎◌, ℕ, zero, suc, ◌+◌, ◌-◌, ◌*◌, ◌≤◌, true, false, Bool, Some, None, Option, List, [], ◌∷◌, ◌++◌, length, take, drop, length-append, refl, sym, ap, ◌∙◌, subst, inl, inr, arith}
use Rattle.std.proofs.Math.Dec.{eqb-zero-suc}
use Rattle.std.specs.Prelude.{All, Contains, ◌==◌, ◌&&◌, nat_lt, if◌then◌else◌}
use Rattle.std.specs.Option.{option_map}
use Rattle.std.proofs.lemmas.Bool.{and_parts}
use Rattle.std.proofs.lemmas.List.Elements.{All-head, All-tail, All-take, All-drop, All-append}
use Rattle.std.proofs.lemmas.List.{length-take, length-drop, get_or-drop}
use Rattle.ab_num.specs.declared.cluster.Cluster.{Cluster}
use Rattle.ab_num.specs.declared.party.Party.TheVariants.{Replica}
use Rattle.ab_num.specs.declared.plan.Kind.{Kind}
use Rattle.ab_num.specs.declared.plan.Kind.TheVariants as kind
use Rattle.ab_num.specs.Places.{kind_of}
use Rattle.ab_num.proofs.Lists.{Contains-none, Contains-cons_cases, Contains-map_cases}
use Rattle.ab_hist.specs.declared.request.Request.{Request}
use Rattle.ab_hist.specs.Digests.{digest_of}
use Rattle.ab_hist.specs.Histories.{IsHistory}
use Rattle.ab_hist.specs.Trimmed.{Trimmed, untrimmed, trim, end_of, holds, forget, cut, grounded}
use Rattle.ab_msg.specs.declared.content.Content.{Content}
use Rattle.ab_msg.specs.declared.content.Content.TheVariants.{Abort, TrimmedAbort}
use Rattle.ab_msg.specs.declared.signed.Signed.{Signed}
use Rattle.ab_msg.specs.Fields.{IsRequest, IsWritten, IsWrittenLog}
use Rattle.ab_msg.specs.Contents.{IsStopContent}
use Rattle.ab_msg.specs.Certs.{AreAborts, IsSigned}
use Rattle.ab_trim.specs.Points.{least_holder}
use Rattle.ab_trim.proofs.Agreed.{least_is}
use Rattle.ab_trim.proofs.Stands.{holds-Decides}
use Rattle.ab_abs.specs.Kinds.{need_of, needs_equal}
use Rattle.ab_abs.specs.Certificates.{history_of, history_in, history_held, history_by, is_whole, kept_history, led_history, is_whole_kept}
use Rattle.ab_abs.proofs.Certified.{certificate_written}
use Rattle.ab_abs.proofs.Prefixes.{take_begins}
use Rattle.ab_abs.proofs.TailCommits.{history_prefix}
use Rattle.ab_stable.specs.AgreedLists.{Point, best_along, agreed_at, agreed_list}
use Rattle.ab_stable.specs.Certs.{Stated, lists_of}
use Rattle.ab_stable.proofs.Offered.{rising_history}
use Rattle.ab_stable.specs.Offers.{Based, makes_checkpoints, are_whole, list_stated, with_stated, all_stated, are_enough, agreed_on, list_of, rises_behind, known_by, based_on_list, based_on_whole, offered_by}
use Rattle.ab_run.specs.Replicas.{logged_or}

-- ---- tests before a result

when : {A : Type 0} (b : Bool) (o : Option A) (x : A) → (if b then o else None) ≡ Some x → (b ≡ true) × (o ≡ Some x)
when true o x is = (refl, is)
when false o x is = absurd (cc (is))

cases_if : {A : Type 0} (b : Bool) (o p : Option A) (x : A) → (if b then o else p) ≡ Some x → ((b ≡ true) × (o ≡ Some x)) ⊎ ((b ≡ false) × (p ≡ Some x))
cases_if true o p x is = inl (refl, is)
cases_if false o p x is = inr (refl, is)

-- ---- a certificate with a history isn't empty

some_need : (kd : Kind) (f : ℕ) → 1 ≤ need_of kd f
some_need kind.Quorum f = omega arith
some_need kind.ZLight f = omega arith
some_need kind.Chain f = omega arith
some_need kind.Backup f = omega arith
some_need kind.ZCert f = omega arith

none_held : (kd : Kind) (f n : ℕ) (h : List Request) → need_of kd f ≡ n → 1 ≤ n → history_held kd f (Some []) ≡ Some h → ⊥
none_held kd f zero h need some is = omega (arith, some)
none_held kd f (suc n) h need some is =
    let empty : history_held kd f (Some []) ≡ None =
    ap (λ z. if is_whole z [] then history_by (needs_equal kd) f [] else None) need ∙ ap (λ (b : Bool). if b && true then history_by (needs_equal kd) f [] else None) (eqb-zero-suc n) in
    let both : None ≡ Some h = sym empty ∙ is in
    cc (both)

none_kept : (f n : ℕ) (h : List Request) → 2 * f + 1 ≡ n → 1 ≤ n → kept_history f (Some []) ≡ Some h → ⊥
none_kept f zero h need some is = omega (arith, some)
none_kept f (suc n) h need some is =
    let empty : kept_history f (Some []) ≡ None =
    ap (λ z. if is_whole_kept z [] then Some (led_history (f + 1) [] None) else None) need ∙ ap (λ (b : Bool). if b && true then Some (led_history (f + 1) [] None) else None) (eqb-zero-suc n) in
    let both : None ≡ Some h = sym empty ∙ is in
    cc (both)

-- an empty one has no history
no_aborts : (kd : Kind) (c : Cluster) (j : ℕ) (h : List Request) → history_in kd c j [] ≡ Some h → ⊥
no_aborts kind.Quorum c j h is = none_held kind.Quorum c.f (need_of kind.Quorum c.f) h refl (some_need kind.Quorum c.f) is
no_aborts kind.ZLight c j h is = none_held kind.ZLight c.f (need_of kind.ZLight c.f) h refl (some_need kind.ZLight c.f) is
no_aborts kind.Chain c j h is = none_held kind.Chain c.f (need_of kind.Chain c.f) h refl (some_need kind.Chain c.f) is
no_aborts kind.Backup c j h is = none_held kind.Backup c.f (need_of kind.Backup c.f) h refl (some_need kind.Backup c.f) is
no_aborts kind.ZCert c j h is = none_kept c.f (2 * c.f + 1) h refl (omega arith) is

some_aborts : (c : Cluster) (j : ℕ) (cert : List Signed) (h : List Request) → history_of c j cert ≡ Some h → 1 ≤ length cert
some_aborts c j [] h is = absurd (no_aborts (kind_of c.plan j) c j h is)
some_aborts c j (s ∷ cert) h is = omega arith

-- nor is one in which a trimmed log stands
some_trimmed : (cert : List Signed) → are_whole cert ≡ false → 1 ≤ length cert
some_trimmed [] lacks = absurd (cc (lacks))
some_trimmed (s ∷ cert) lacks = omega arith

-- ---- parts of histories

pub history_drop : (n : ℕ) (h : List Request) → IsHistory h → IsHistory (drop n h)
history_drop n h history i j d lt within =
    rw (get_or-drop n h i d, get_or-drop n h j d) (history (n + i) (n + j) d (omega (arith, lt)) (omega (arith, within, length-drop n h)))

history_take : (n : ℕ) (h : List Request) → IsHistory h → IsHistory (take n h)
history_take n h history = history_prefix (take n h) h (take_begins n h) history

written_take : (n : ℕ) (h : List Request) → IsWritten h → IsWritten (take n h)
written_take n h is = ((omega arith, omega (arith, length-take n h, is.0.1)), (All-take (IsRequest 0 15) n h is.1.0, history_take n h is.1.1))

written_drop : (n : ℕ) (h : List Request) → IsWritten h → IsWritten (drop n h)
written_drop n h is = ((omega arith, omega (arith, length-drop n h, is.0.1)), (All-drop (IsRequest 0 15) n h is.1.0, history_drop n h is.1.1))

-- ---- the lists of a certificate

-- a list as an ABORT may state it
record HasBytes (t : Trimmed) : Type 0 where
  rest : IsWritten t.rest
  few : end_of t ≤ 65535

bytes_cut : (n : ℕ) (t : Trimmed) → HasBytes t → HasBytes (cut n t)
bytes_cut n t is = record { rest = written_take (n - t.start) t.rest is.rest; few = omega (arith, length-take (n - t.start) t.rest, is.few) }

bytes_forget : (n : ℕ) (t : Trimmed) → t.start ≤ n → n ≤ end_of t → HasBytes t → HasBytes (forget n t)
bytes_forget n t shown within is = record { rest = written_drop (n - t.start) t.rest is.rest; few = omega (arith, length-drop (n - t.start) t.rest, shown, within, is.few) }

stated_if : (b : Bool) (v u : Stated) → HasBytes v.list → (if b then Some v else None) ≡ Some u → HasBytes u.list
stated_if b v u has is =
    let one = when b (Some v) u is in
    let same : v ≡ u = cc (one.1) in
    subst (λ (w : Stated). HasBytes w.list) same has

stated_bytes : (c : Cluster) (j : ℕ) (s : Content) (v : Stated) → IsStopContent s → list_stated c j s ≡ Some v → HasBytes v.list
stated_bytes c j (Abort (Replica r) i h) v formed is =
    stated_if ((i == j) && nat_lt r (3 * c.f + 1)) (record { by = r; list = untrimmed h }) v (record { rest = formed.1.1; few = omega (arith, formed.1.1.0.1) }) is
stated_bytes c j (TrimmedAbort (Replica r) i n d rest) v formed is =
    stated_if ((i == j) && nat_lt r (3 * c.f + 1)) (record { by = r; list = record { start = n; digest = d; rest = rest } }) v (record { rest = formed.1.1.1.rest; few = formed.1.1.1.few }) is
stated_bytes c j _ v formed is = absurd (cc (is))

-- of each of these votes
abbrev AllBytes : List Stated → Type 0
AllBytes votes = (v : Stated) → Contains votes v → HasBytes v.list

with_bytes : (o : Option Stated) (more : Option (List Stated)) (votes : List Stated) → ((v : Stated) → o ≡ Some v → HasBytes v.list) → ((us : List Stated) → more ≡ Some us → AllBytes us) → with_stated o more ≡ Some votes → AllBytes votes
with_bytes None more votes one rest is = absurd (cc (is))
with_bytes (Some v) None votes one rest is = absurd (cc (is))
with_bytes (Some v) (Some us) votes one rest is =
    let all : v ∷ us ≡ votes = cc (is) in
    subst AllBytes all (λ u has. elim (Contains-cons_cases v us u has) [
      | inl same ↦ subst (λ (w : Stated). HasBytes w.list) same (one v refl)
      | inr later ↦ rest us refl u later
    ])

all_bytes : (c : Cluster) (j : ℕ) (cert : List Signed) (votes : List Stated) → All (IsSigned IsStopContent) cert → all_stated c j cert ≡ Some votes → AllBytes votes
all_bytes c j [] votes are is = let none : [] ≡ votes = cc (is) in subst AllBytes none (λ v gone. absurd (Contains-none v gone))
all_bytes c j (s ∷ cert) votes are is =
    with_bytes (list_stated c j s.content) (all_stated c j cert) votes
    (λ v e. stated_bytes c j s.content v (All-head (IsSigned IsStopContent) s cert are).1.0 e)
    (λ us e. all_bytes c j cert us (All-tail (IsSigned IsStopContent) s cert are) e)
    is

-- ---- the list on which they agree

listed_bytes : (votes : List Stated) → AllBytes votes → (t : Trimmed) → Contains (lists_of votes) t → HasBytes t
listed_bytes votes each t has = let v = Contains-map_cases (λ (u : Stated). u.list) votes t has in subst HasBytes v.2 (each v.0 v.1)

cut_bytes : (n : ℕ) (o : Option Trimmed) (t : Trimmed) → ((u : Trimmed) → o ≡ Some u → HasBytes u) → option_map (cut n) o ≡ Some t → HasBytes t
cut_bytes n None t each is = absurd (cc (is))
cut_bytes n (Some u) t each is = let same : cut n u ≡ t = cc (is) in subst HasBytes same (bytes_cut n u (each u refl))

agreed_bytes : (ts : List Trimmed) (o : Option Point) (t : Trimmed) → ((u : Trimmed) → Contains ts u → HasBytes u) → agreed_at ts o ≡ Some t → HasBytes t
agreed_bytes ts None t each is = absurd (cc (is))
agreed_bytes ts (Some p) t each is = cut_bytes p.number (least_holder p.number p.digest ts) t (λ u e. each u (least_is p.number p.digest ts u e).there) is

on_bytes : (f : ℕ) (o : Option (List Stated)) (t : Trimmed) → ((votes : List Stated) → o ≡ Some votes → AllBytes votes) → agreed_on f o ≡ Some t → HasBytes t
on_bytes f None t each is = absurd (cc (is))
on_bytes f (Some votes) t each is =
    let ts = lists_of votes in
    agreed_bytes ts (best_along (f + 1) ts ts None) t (listed_bytes votes (each votes refl)) (when (are_enough f votes) (agreed_list (f + 1) ts) t is).1

list_bytes : (c : Cluster) (j : ℕ) (cert : List Signed) (t : Trimmed) → All (IsSigned IsStopContent) cert → list_of c j cert ≡ Some t → HasBytes t
list_bytes c j cert t are is =
    on_bytes c.f (all_stated c j cert) t (λ votes e. all_bytes c j cert votes are e) (when (makes_checkpoints (kind_of c.plan j)) (agreed_on c.f (all_stated c j cert)) t is).1

-- ---- the same by a replica's own list

-- its requests have bytes, and it has what is trimmed of the replica's log
pub record IsOwn (n : ℕ) (own : List Request) : Type 0 where
  pub reaches : n ≤ length own
  pub requests : All (IsRequest 0 15) own

pub own_written : (n e : ℕ) (log base : List Request) → IsWrittenLog n log → IsWrittenLog e base → IsOwn n (logged_or log base)
own_written n e [] base log_is base_is = record { reaches = omega (arith, log_is.reaches); requests = base_is.requests }
own_written n e (m ∷ log) base log_is base_is = record { reaches = log_is.reaches; requests = log_is.requests }

known_written : (own : List Request) (o : Option Trimmed) (b : Based) → All (IsRequest 0 15) own → ((t : Trimmed) → o ≡ Some t → HasBytes t × (t.start ≤ length own)) → known_by own o ≡ Some b → IsWrittenLog b.trimmed b.base
known_written own None b requests each is = absurd (cc (is))
known_written own (Some t) b requests each is =
    let t_is = each t refl in
    let h = take t.start own ++ t.rest in
    let made : Based = record { base = h; trimmed = t.start } in
    let may = when (rises_behind [] h) (Some made) b is in
    let same : made ≡ b = cc (may.1) in
    let long = length-append (take t.start own) t.rest in
    let front = length-take t.start own in
    subst (λ (x : Based). IsWrittenLog x.trimmed x.base) same
    (record {
      reaches = omega (arith, long, front, t_is.1);
      behind = omega (arith, long, front, t_is.0.rest.0.1);
      few = omega (arith, long, front, t_is.0.few);
      requests = All-append (IsRequest 0 15) (take t.start own) t.rest (All-take (IsRequest 0 15) t.start own requests) t_is.0.rest.1.0;
      history = rising_history [] h may.0 (λ i j d e less. absurd (omega (arith, less)));
    })

grounded_bytes : (own t g : Trimmed) → HasBytes t → grounded own t ≡ Some g → HasBytes g × (g.start ≤ end_of own)
grounded_bytes own t g has is =
    let later = nat_lt t.start own.start && holds own.start own.digest t in
    elim (cases_if (holds t.start t.digest own) (Some t) (if later then Some (forget own.start t) else None) g is) [
      | inl here ↦
          let held = (holds-Decides t.start t.digest own).0 here.0 in
          let same : t ≡ g = cc (here.1) in
          subst (λ (x : Trimmed). HasBytes x × (x.start ≤ end_of own)) same (has, held.within)
      | inr there ↦
          let may = when later (Some (forget own.start t)) g there.1 in
          let held = (holds-Decides own.start own.digest t).0 (and_parts (nat_lt t.start own.start) (holds own.start own.digest t) may.0).1 in
          let same : forget own.start t ≡ g = cc (may.1) in
          subst (λ (x : Trimmed). HasBytes x × (x.start ≤ end_of own)) same (bytes_forget own.start t held.shown held.within has, omega arith)
    ]

list_written : (k : ℕ) (own : List Request) (o : Option Trimmed) (b : Based) → IsOwn k own → ((t : Trimmed) → o ≡ Some t → HasBytes t) → based_on_list k own o ≡ Some b → IsWrittenLog b.trimmed b.base
list_written k own None b own_is each is = absurd (cc (is))
list_written k own (Some t) b own_is each is =
    known_written own (grounded (trim k own) t) b own_is.requests
    (λ g e. let g_is = grounded_bytes (trim k own) t g (each t refl) e in (g_is.0, omega (arith, g_is.1, length-drop k own, own_is.reaches))) is

whole_written : (k : ℕ) (own : List Request) (o : Option (List Request)) (b : Based) → ((h : List Request) → o ≡ Some h → IsWritten h) → based_on_whole k own o ≡ Some b → IsWrittenLog b.trimmed b.base
whole_written k own None b each is = absurd (cc (is))
whole_written k own (Some h) b each is =
    let made : Based = record { base = h; trimmed = k } in
    let may = when (holds k (digest_of (take k own)) (untrimmed h)) (Some made) b is in
    let held = (holds-Decides k (digest_of (take k own)) (untrimmed h)).0 may.0 in
    let h_is = each h refl in
    let same : made ≡ b = cc (may.1) in
    subst (λ (x : Based). IsWrittenLog x.trimmed x.base) same
    (record { reaches = omega (arith, held.within); behind = omega (arith, h_is.0.1); few = omega (arith, h_is.0.1); requests = h_is.1.0; history = h_is.1.1 })

whole_there : (k : ℕ) (own : List Request) (o : Option (List Request)) (b : Based) → based_on_whole k own o ≡ Some b → (h : List Request) × (o ≡ Some h)
whole_there k own None b is = absurd (cc (is))
whole_there k own (Some h) b is = (h, refl)

-- what ABORTs with bytes bring, at least one of them
pub offered_written : (c : Cluster) (k : ℕ) (own : List Request) (j : ℕ) (cert : List Signed) (b : Based) → IsOwn k own → AreAborts 0 7 cert → offered_by c k own j cert ≡ Some b → AreAborts 1 7 cert × IsWrittenLog b.trimmed b.base
offered_written c k own j cert b own_is aborts is =
    elim (cases_if (are_whole cert) (based_on_whole k own (history_of c j cert)) (based_on_list k own (list_of c j cert)) b is) [
      | inl whole ↦
          let found = whole_there k own (history_of c j cert) b whole.1 in
          (((some_aborts c j cert found.0 found.1, aborts.0.1), aborts.1), whole_written k own (history_of c j cert) b (λ h e. certificate_written c j 0 7 cert h aborts e) whole.1)
      | inr listed ↦
          (((some_trimmed cert listed.0, aborts.0.1), aborts.1), list_written k own (list_of c j cert) b own_is (λ t e. list_bytes c j cert t aborts.1 e) listed.1)
    ]
