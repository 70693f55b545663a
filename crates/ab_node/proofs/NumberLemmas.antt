-- A replica signs with one number after the other.
use Rattle.std.proofs.Common.{◌≡◌, ℕ, ◌+◌, zero, suc, Bool, true, false, Option, None, Some, List, [], ◌∷◌, ◌++◌, refl, sym, ap, ◌∙◌, subst, inl, inr, arith, append_assoc, append-nil}
use Rattle.std.specs.Prelude.{◌==◌, if◌then◌else◌, Contains, length, replicate, slice_get}
use Rattle.std.proofs.lemmas.List.{length-append}
use Rattle.std.proofs.lemmas.List.Elements.{Contains-append_cases}
use Rattle.std.proofs.lemmas.Option.{slice_get_within}
use Rattle.ab_num.proofs.Lists.{Contains-none, Contains-one}
use Rattle.ab_hist.proofs.KeptLemmas.{slice_get-append-lt}
use Rattle.ab_msg.specs.declared.content.Content.{Content}
use Rattle.ab_msg.specs.declared.signed.Signed.{Signed}
use Rattle.ab_msg.specs.declared.message.Out.{Out}
use Rattle.ab_msg.specs.Claims.{signed_in}
use Rattle.ab_msg.specs.declared.message.Msg.{Msg}
use Rattle.ab_msg.specs.declared.message.Msg.TheVariants as msg
use Rattle.ab_num.specs.declared.party.Party.TheVariants.{Replica}
use Rattle.ab_num.specs.declared.plan.Kind.{Kind}
use Rattle.ab_abs.specs.Ensembles.{Proto}
use Rattle.ab_abs.specs.FormLaws.{KeepsForm}
use Rattle.ab_abs.specs.Messages.{Call}
use Rattle.ab_run.specs.Setups.{RunSetup, replicas}
use Rattle.ab_run.specs.Checkpoints.{to_others}
use Rattle.ab_run.specs.Replicas.{Rep, RepAction, turn_enter, turn_call, turn_halt, turn_sign, turn_bring, turn_abort, turn_mark, turn_keep, turn_trim, abort_content, checkpoint_at, abort_to, cert_to, after_turn, after_turns, pen_of, sent_in_turn, turns}
use Rattle.ab_run.specs.Local.{rep_after, rep_sends, sent_in_turns}
use Rattle.ab_node.specs.Locality.{sent_locally}
use Rattle.ab_node.specs.Numbers.{AreNumbered, IsNumbered, signed_in_turn, signed_in_turns, signed_locally}

get_front : {X : Type 0} (xs ys : List X) (n : ℕ) (x : X) → slice_get xs n ≡ Some x → slice_get (xs ++ ys) n ≡ Some x
get_front xs ys n x is = slice_get-append-lt xs ys n (slice_get_within xs n x is) ∙ is

get_behind : {X : Type 0} (xs ys : List X) (n : ℕ) → slice_get (xs ++ ys) (length xs + n) ≡ slice_get ys n
get_behind [] ys n = let e : 0 + n ≡ n = omega arith in ap (slice_get ys) e
get_behind (x ∷ xs) ys n =
    let e : length (x ∷ xs) + n ≡ suc (length xs + n) = omega arith in
    ap (slice_get (x ∷ (xs ++ ys))) e ∙ get_behind xs ys n

module _ {P : Type 0} (k : RunSetup) (proto : Proto P) (r : ℕ) where
  -- it has used as many numbers as it signed contents, and its ABORT has one of them
  pub record Counts (contents : List Content) (s : Rep P) : Type 0 where
    pub used : length contents ≡ s.used
    pub abort : (v : Signed) → s.abort ≡ Some v → IsNumbered k r contents v

  longer : (contents more : List Content) (v : Signed) → IsNumbered k r contents v → IsNumbered k r (contents ++ more) v
  longer contents more v is = record { n = is.n; at = get_front contents more is.n v.content is.at; sig = is.sig }

  -- a turn in which nothing is signed
  none : (contents : List Content) (s : Rep P) → Counts contents s → Counts (contents ++ []) s
  none contents s counts = subst (λ (cs : List Content). Counts cs s) (sym (append-nil contents)) counts

  one_aborts : (contents : List Content) (c : ℕ) (abort : Option Signed) (o : Out) (v : Signed) → ((w : Signed) → abort ≡ Some w → IsNumbered k r contents w)
      → Contains (abort_to c abort) o → Contains (signed_in o.msg) v → IsNumbered k r contents v
  one_aborts contents c None o v kept has in_it = absurd (Contains-none o has)
  one_aborts contents c (Some w) o v kept has in_it =
      let in_it' : Contains (w ∷ []) v = subst (λ (z : Out). Contains (signed_in z.msg) v) (sym (Contains-one _ o has)) in_it in
      subst (λ (z : Signed). IsNumbered k r contents z) (Contains-one w v in_it') (kept w refl)

  none_brought : (c : ℕ) (cert : Option (List Signed)) (o : Out) (v : Signed) → Contains (cert_to c cert) o → Contains (signed_in o.msg) v → ⊥
  none_brought c None o v has in_it = Contains-none o has
  none_brought c (Some cert) o v has in_it = Contains-none v (subst (λ (z : Out). Contains (signed_in z.msg) v) (sym (Contains-one _ o has)) in_it)

  -- a message in which nothing is signed
  none_to_others : (n : ℕ) (m : Msg) → signed_in m ≡ [] → (o : Out) (v : Signed) → Contains (to_others n r m) o → Contains (signed_in o.msg) v → ⊥
  none_to_others zero m unsigned o v has in_it = Contains-none o has
  none_to_others (suc n) m unsigned o v has in_it =
      elim (Contains-append_cases (to_others n r m) (if n == r then [] else record { to = Replica n; msg = m } ∷ []) o has) [
        | inl before ↦ none_to_others n m unsigned o v before in_it
        | inr last ↦ by_test (n == r) last
      ]
    where
      by_test : (b : Bool) → Contains (if b then [] else record { to = Replica n; msg = m } ∷ []) o → ⊥
      by_test true gone = Contains-none o gone
      by_test false one = Contains-none v (subst (λ (l : List Signed). Contains l v) unsigned (subst (λ (z : Out). Contains (signed_in z.msg) v) (sym (Contains-one _ o one)) in_it))

  module _ {serves : Kind → Bool} (form : KeepsForm proto serves) where
    counts_turn : (contents : List Content) (s : Rep P) (t : RepAction) → Counts contents s → Counts (contents ++ signed_in_turn k proto r s t) (after_turn k proto r s t)
    counts_turn contents s (turn_enter j cert n h) counts = record { used = ap length (append-nil contents) ∙ counts.used; abort = λ v is. absurd (cc is) }
    counts_turn contents s (turn_call call) counts = record {
      used = length-append contents (proto.signs s.value call) ∙ ap (λ n. n + length (proto.signs s.value call)) counts.used;
      abort = λ v is. longer contents (proto.signs s.value call) v (counts.abort v is);
    }
    counts_turn contents s turn_halt counts = record { used = (none contents s counts).used; abort = (none contents s counts).abort }
    counts_turn contents s turn_sign counts =
        let content : Content = abort_content k proto r s in
        let own : Signed = record { maker = r; content = content; sig = k.sig r content s.used } in
        let behind : slice_get (contents ++ content ∷ []) (length contents + 0) ≡ Some content = get_behind contents (content ∷ []) 0 in
        let place : length contents + 0 ≡ s.used = omega (arith, counts.used) in
        let numbered : IsNumbered k r (contents ++ content ∷ []) own =
        record { n = s.used; at = subst (λ (n : ℕ). slice_get (contents ++ content ∷ []) n ≡ Some content) place behind; sig = refl } in
        record {
          used = length-append contents (content ∷ []) ∙ ap (λ n. n + 1) counts.used;
          abort = λ v is. let same : own ≡ v = cc (is) in subst (λ (w : Signed). IsNumbered k r (contents ++ content ∷ []) w) same numbered;
        }
    counts_turn contents s (turn_bring c) counts = none contents s counts
    counts_turn contents s (turn_abort c) counts = none contents s counts
    counts_turn contents s (turn_mark n) counts = record { used = (none contents s counts).used; abort = (none contents s counts).abort }
    counts_turn contents s (turn_keep v) counts = record { used = (none contents s counts).used; abort = (none contents s counts).abort }
    counts_turn contents s (turn_trim n) counts = record { used = (none contents s counts).used; abort = (none contents s counts).abort }

    sent_turn : (contents : List Content) (s : Rep P) (t : RepAction) → Counts contents s → AreNumbered k r (contents ++ signed_in_turn k proto r s t) (sent_in_turn k proto r s t)
    sent_turn contents s (turn_enter j cert n h) counts o v has in_it = absurd (Contains-none o has)
    sent_turn contents s (turn_call call) counts o v has in_it =
        let (n, at, sig) = form.signed (pen_of k proto r s) s.value call o v has in_it in
        record {
          n = s.used + n;
          at = subst (λ (u : ℕ). slice_get (contents ++ proto.signs s.value call) (u + n) ≡ Some v.content) counts.used (get_behind contents (proto.signs s.value call) n ∙ at);
          sig = sig;
        }
    sent_turn contents s turn_halt counts o v has in_it = absurd (Contains-none o has)
    sent_turn contents s turn_sign counts o v has in_it = absurd (Contains-none o has)
    sent_turn contents s (turn_bring c) counts o v has in_it = absurd (none_brought c s.entry.cert o v has in_it)
    sent_turn contents s (turn_abort c) counts o v has in_it = longer contents [] v (one_aborts contents c s.abort o v counts.abort has in_it)
    sent_turn contents s (turn_mark n) counts o v has in_it = absurd (none_to_others (replicas k) (msg.Checkpoint (checkpoint_at k proto r s n) (replicate 32 0)) refl o v has in_it)
    sent_turn contents s (turn_keep w) counts o v has in_it = absurd (Contains-none o has)
    sent_turn contents s (turn_trim n) counts o v has in_it = absurd (Contains-none o has)

    counts_turns : (contents : List Content) (s : Rep P) (ts : List RepAction) → Counts contents s → Counts (contents ++ signed_in_turns k proto r s ts) (after_turns k proto r s ts)
    counts_turns contents s [] counts = none contents s counts
    counts_turns contents s (t ∷ ts) counts =
        subst (λ (cs : List Content). Counts cs (after_turns k proto r (after_turn k proto r s t) ts))
        (append_assoc contents (signed_in_turn k proto r s t) (signed_in_turns k proto r (after_turn k proto r s t) ts))
        (counts_turns (contents ++ signed_in_turn k proto r s t) (after_turn k proto r s t) ts (counts_turn contents s t counts))

    sent_turns : (contents : List Content) (s : Rep P) (ts : List RepAction) → Counts contents s → AreNumbered k r (contents ++ signed_in_turns k proto r s ts) (sent_in_turns k proto r s ts)
    sent_turns contents s [] counts o v has in_it = absurd (Contains-none o has)
    sent_turns contents s (t ∷ ts) counts o v has in_it =
        let first : List Content = signed_in_turn k proto r s t in
        let later : List Content = signed_in_turns k proto r (after_turn k proto r s t) ts in
        subst (λ (cs : List Content). IsNumbered k r cs v) (append_assoc contents first later)
        (elim (Contains-append_cases (sent_in_turn k proto r s t) (sent_in_turns k proto r (after_turn k proto r s t) ts) o has) [
          | inl here ↦ longer (contents ++ first) later v (sent_turn contents s t counts o v here in_it)
          | inr there ↦ sent_turns (contents ++ first) (after_turn k proto r s t) ts (counts_turn contents s t counts) o v there in_it
        ])

    -- and over all that it takes
    sent_numbered : (contents : List Content) (s : Rep P) (calls : List Call) → Counts contents s → AreNumbered k r (contents ++ signed_locally k proto r s calls) (sent_locally k proto r s calls)
    sent_numbered contents s [] counts o v has in_it = absurd (Contains-none o has)
    sent_numbered contents s (call ∷ calls) counts o v has in_it =
        let now : List Content = signed_in_turns k proto r s (turns k proto r s call) in
        let later : List Content = signed_locally k proto r (rep_after k proto r s call) calls in
        subst (λ (cs : List Content). IsNumbered k r cs v) (append_assoc contents now later)
        (elim (Contains-append_cases (rep_sends k proto r s call) (sent_locally k proto r (rep_after k proto r s call) calls) o has) [
          | inl here ↦ longer (contents ++ now) later v (sent_turns contents s (turns k proto r s call) counts o v here in_it)
          | inr there ↦ sent_numbered (contents ++ now) (rep_after k proto r s call) calls (counts_turns contents s (turns k proto r s call) counts) o v there in_it
        ])

    -- from its first event on
    pub all_numbered : (s : Rep P) (calls : List Call) → s.used ≡ 0 → s.abort ≡ None → AreNumbered k r (signed_locally k proto r s calls) (sent_locally k proto r s calls)
    all_numbered s calls fresh none_yet =
        sent_numbered [] s calls (record { used = sym fresh; abort = λ v is. absurd (cc (sym none_yet ∙ is)) })
