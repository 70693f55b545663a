-- It is a lawful orderer: all lists but that of replica 0 are empty.
use Rattle.std.proofs.Common.{◌≡◌, ◌≢◌, ℕ, zero, suc, ◌+◌, ◌<◌, ◌≤◌, Bool, true, false, Option, Some, None, List, [], ◌∷◌, ◌++◌, ◌⊎◌, refl, sym, ap, ◌∙◌, subst, inl, inr, arith, length, length-append, append_assoc, slice_get}
use Rattle.std.specs.Prelude.{Contains, unwrap_or, if◌then◌else◌, nat_le, nat_lt, ◌==◌, ◌&&◌, ◌||◌}
use Rattle.std.proofs.lemmas.List.{append-nil}
use Rattle.std.proofs.lemmas.Bool.{cases_Bool, and_parts}
use Rattle.std.proofs.lemmas.Bool.Decides.{Decides-eqb, Decides-ltb, Decides-and}
use Rattle.std.proofs.lemmas.Option.{none-some, same_Some, slice_get_within, get_or_from_slice_get}
use Rattle.std.proofs.lemmas.List.Quantifiers.{all_pairs_push}
use Rattle.std.proofs.lemmas.List.Elements.{Contains-push_cases}
use mathlib.Core.List.{IsPrefix}
use base.Growing.{prefix_refl}
use Rattle.ab_num.specs.declared.party.Party.TheVariants.{Replica, Client}
use Rattle.ab_hist.specs.declared.request.Request.{Request}
use Rattle.ab_hist.specs.Histories.{IsHistory, CanPush, Precedes, can_push}
use Rattle.ab_hist.proofs.RequestLemmas.{can_push-Decides}
use Rattle.ab_num.specs.declared.cluster.Cluster.{Cluster}
use Rattle.ab_num.proofs.Lists.{Contains-head, Contains-none}
use Rattle.ab_msg.specs.declared.content.Content.TheVariants.{Req}
use Rattle.ab_msg.specs.Fields.{IsRequest, IsWritten, IsWrittenLog}
use Rattle.ab_abs.specs.Acts.{Setting, Act, MayStart, observations, state_of, own_acts, start_of, log_at, log_of, base_at as state_base, base_of}
use Rattle.ab_abs.specs.Observations.{IsInitHistory}
use Rattle.ab_abs.specs.OrderRules.{WasClaimed}
use Rattle.ab_abs.proofs.Drafts.{written_logged}
use Rattle.ab_abs.proofs.Facts.{state_cases, state_own, init_first}
use Rattle.ab_order.specs.Inputs.{Reading, request, handed, asked_by, Given}
use Rattle.ab_order.specs.Orders.{IsOneOrder, IsQuiet}
use Rattle.ab_order.specs.Orderers.{IsReached, from_start, by_input, IsTurn, IsOrderly, IsLawfulOrderer, begun_empty}
use Rattle.ab_order.specs.Protos.{Obeys}
use Rattle.ab_order.specs.Owned.{KeepsOwn}
use Rattle.ab_order.proofs.OwnActs.{own_cases, own_state, own_within, own_grows, tail_within, claimed_within, init_within}
use Rattle.ab_order.specs.Readings.{read}
use Rattle.ab_order.specs.Bytes.{ArisesAs, from_entry, by_call, KeepsBytes}
use Rattle.ab_backup.specs.Laws.{asked_formed}
use Rattle.ab_backup.proofs.AnswerLemmas.{next_logged}
use Rattle.ab_fixtures.specs.SoloRules.{Sole, Placed, behind_with, is_ordering, begun_with, next, base_if, list_if, solo, solos, StandsSolo, IsSoloSound}

-- ---- lists

base_none : (b : Bool) (h ms : List Request) → base_if b h ≡ None → list_if b h ms ≡ []
base_none false h ms none = refl
base_none true h ms none = absurd (none-some h (sym none))

base_begins : (b : Bool) (h ms g : List Request) → base_if b h ≡ Some g → IsPrefix g (list_if b h ms)
base_begins false h ms g is = absurd (none-some g is)
base_begins true h ms g is = (ms, ap (λ (l : List Request). l ++ ms) (sym (same_Some h g is)))

base_keeps : (z b : Bool) (o : Option Request) (h g : List Request) → base_if b h ≡ Some g → base_if (begun_with z b o) h ≡ Some g
base_keeps z b None h g is = is
base_keeps true false (Some m) h g is = absurd (none-some g is)
base_keeps true true (Some m) h g is = is
base_keeps false b (Some m) h g is = is

-- what stands behind the base goes on
record Extends (k : ℕ) (h ms more : List Request) (o : Option Request) : Type 0 where
  begins : IsPrefix ms more
  rises : IsHistory (h ++ ms) → IsHistory (h ++ more)
  short : length ms ≤ k → length more ≤ k
  asked : (m : Request) → Contains more m → Contains ms m ⊎ (o ≡ Some m)

extends_not : (k : ℕ) (h ms : List Request) (o : Option Request) → Extends k h ms ms o
extends_not k h ms o = record { begins = prefix_refl ms; rises = λ was. was; short = λ was. was; asked = λ m has. inl has }

extends_if : (k : ℕ) (h ms : List Request) (m : Request) (b : Bool) → (b ≡ true → (length ms < k) × CanPush (h ++ ms) m) → Extends k h ms (if b then ms ++ m ∷ [] else ms) (Some m)
extends_if k h ms m false can = extends_not k h ms (Some m)
extends_if k h ms m true can = record {
  begins = (m ∷ [], refl);
  rises = λ was. subst IsHistory (append_assoc h ms (m ∷ [])) (all_pairs_push Precedes (h ++ ms) m was (can refl).1.1);
  short = λ was. let room = (can refl).0 in omega (arith, room, length-append ms (m ∷ []));
  asked = λ n has. elim (Contains-push_cases ms m n has) [ inl older ↦ inl older | inr e ↦ inr (ap Some e) ];
}

extends : (z : Bool) (k : ℕ) (h ms : List Request) (o : Option Request) → Extends k h ms (behind_with z k h ms o) o
extends z k h ms None = extends_not k h ms None
extends false k h ms (Some m) = extends_not k h ms (Some m)
extends true k h ms (Some m) =
    extends_if k h ms m (nat_lt (length ms) k && can_push (h ++ ms) m) (Decides-and (nat_lt (length ms) k) (can_push (h ++ ms) m) (Decides-ltb (length ms) k) (can_push-Decides (h ++ ms) m)).0

list_more : (b : Bool) (h ms more : List Request) → IsPrefix ms more → IsPrefix (list_if b h ms) (list_if b h more)
list_more false h ms more p = prefix_refl []
list_more true h ms more p = (p.0, append_assoc h ms p.0 ∙ ap (λ (l : List Request). h ++ l) p.1)

list_grows : (z b : Bool) (o : Option Request) (h ms more : List Request) → IsPrefix ms more → IsPrefix (list_if b h ms) (list_if (begun_with z b o) h more)
list_grows z b None h ms more p = list_more b h ms more p
list_grows true false (Some m) h ms more p = (h ++ more, refl)
list_grows true true (Some m) h ms more p = list_more true h ms more p
list_grows false b (Some m) h ms more p = list_more b h ms more p

-- nothing is executed where nothing is asked for
still : (q : Sole) → next q None ≡ q
still q = refl

-- ---- what holds of each value

within : (k : ℕ) (q : Sole) → IsReached solo k q → (q.k ≡ k) × (length q.behind ≤ k)
within k q (from_start f i me h) = (refl, omega arith)
within k q (by_input p e was) =
    let w = within k p was in
    let x = extends (is_ordering p) p.k p.entered p.behind (asked_by e) in
    (w.0, subst (λ (n : ℕ). length (behind_with (is_ordering p) p.k p.entered p.behind (asked_by e)) ≤ n) w.0 (x.short (subst (λ (n : ℕ). length p.behind ≤ n) (sym w.0) w.1)))

base_most : (b : Bool) (k : ℕ) (h ms g : List Request) → length ms ≤ k → base_if b h ≡ Some g → length (list_if b h ms) ≤ length g + k
base_most false k h ms g few is = absurd (none-some g is)
base_most true k h ms g few is = omega (arith, few, ap length (same_Some h g is), length-append h ms)

pub solo_orderly : IsOrderly handed solo
solo_orderly = record {
  begun = λ k f i me h. (refl, refl);
  empty = λ q none. base_none q.begun q.entered q.behind none;
  begins = λ q g is. base_begins q.begun q.entered q.behind g is;
  keeps = λ q e g is. base_keeps (is_ordering q) q.begun (asked_by e) q.entered g is;
  grows = λ q e.
      list_grows (is_ordering q) q.begun (asked_by e) q.entered q.behind (behind_with (is_ordering q) q.k q.entered q.behind (asked_by e)) (extends (is_ordering q) q.k q.entered q.behind (asked_by e)).begins;
  at_most = λ k q g was is. base_most q.begun k q.entered q.behind g (within k q was).1 is;
  opens = λ q e h is. inl refl;
  idles = λ q. refl;
  orders = λ q e s has. absurd (Contains-none s has);
  placed = λ k f i me h. (refl, refl);
  stays = λ q e. (refl, refl);
}

pub solo_obeys : Obeys solos solo
solo_obeys = record {
  begins = λ c i r e. refl;
  placed = λ c i r e. (refl, refl);
  goes_on = λ pen p call. refl;
  stays = λ pen p call. (refl, refl);
  stated = λ pen p call s has. absurd (Contains-none s has);
  only = λ pen p call o s f r has. absurd (Contains-none o has);
  signed = λ pen p call o v has. absurd (Contains-none o has);
  sent = λ pen p call s has. absurd (Contains-none s has);
}

pub solo_owns : KeepsOwn solos solo
solo_owns = record {
  states = λ pen p call o s f r sent has. absurd (Contains-none o sent);
  carries = λ pen p call o f r sent. absurd (Contains-none o sent);
  ignores = λ pen p call nothing.
      let placed : Sole → Placed = λ q. record { cluster = p.cluster; at = q } in
      (ap (λ (e : Reading). placed (next p.at (asked_by e))) nothing ∙ ap placed (still p.at), refl, refl);
}

-- ---- the law

idle_still : (z b : Bool) (o : Option Request) → (z ≡ false → b ≡ false) → z ≡ false → begun_with z b o ≡ false
idle_still z b None was is = was is
idle_still true b (Some m) was is = absurd (cc (is))
idle_still false b (Some m) was is = was is

asks_own : (i : ℕ) (e : Reading) (m : Request) → asked_by e ≡ Some m → Contains (handed.claims i e) (Req (Client m.client) i m)
asks_own i (request n) m is = subst (λ (z : Request). Contains (Req (Client n.client) i n ∷ []) (Req (Client z.client) i z)) (same_Some n m is) (Contains-head (Req (Client n.client) i n) [])
asks_own i _ m is = absurd (none-some m is)

some_begun : (b : Bool) (h ms : List Request) → list_if b h ms ≢ [] → b ≡ true
some_begun false h ms some = absurd (some refl)
some_begun true h ms some = refl

most_if : (b : Bool) (k : ℕ) (h ms : List Request) → length ms ≤ k → length (list_if b h ms) ≤ length (unwrap_or (base_if b h) []) + k
most_if false k h ms few = omega arith
most_if true k h ms few = omega (arith, few, length-append h ms)

nothing_rises : IsHistory []
nothing_rises i j d lt within = absurd (omega (arith, within))

rises_if : (b : Bool) (h ms : List Request) → IsHistory (h ++ ms) → IsHistory (list_if b h ms)
rises_if false h ms was = nothing_rises
rises_if true h ms was = was

behind_at : (h ms : List Request) (n : ℕ) (m : Request) → length h ≤ n → slice_get (h ++ ms) n ≡ Some m → Contains ms m
behind_at [] ms n m le at = (n, slice_get_within ms n m at, get_or_from_slice_get ms n m m at)
behind_at (y ∷ h) ms zero m le at = absurd (omega (arith, le))
behind_at (y ∷ h) ms (suc n) m le at = behind_at h ms n m (omega (arith, le)) at

module _ (x : Setting) (k : ℕ) where
  -- acts stay sound where the replica of the newest one stands
  sound_more : (acts : List Act) (a : Act) (me : ℕ) (q : Sole) → a.party ≡ Replica me → StandsSolo x k q me (a ∷ own_acts me acts) → IsSoloSound x k acts → IsSoloSound x k (a ∷ acts)
  sound_more acts a me q is stands was r =
      elim (own_cases a acts r) [
        | inl own ↦
            let e : me ≡ r = cc (is, own.0) in
            inr (q, subst (λ (l : List Act). StandsSolo x k q r l) (sym own.1) (subst (λ (n : ℕ). StandsSolo x k q n (a ∷ own_acts n acts)) e stands))
        | inr other ↦
            elim (state_cases a acts r) [
              | inl same ↦ absurd (other.0 same.0)
              | inr differ ↦ elim (was r) [
                | inl none ↦ inl (differ.1 ∙ none)
                | inr w ↦ inr (w.0, subst (λ (l : List Act). StandsSolo x k w.0 r l) (sym other.1) w.1)
              ]
            ]
      ]

  stands_still : (acts : List Act) (a : Act) (q : Sole) (r : ℕ) → IsQuiet acts a → StandsSolo x k q r (own_acts r acts) → StandsSolo x k q r (own_acts r (a ∷ acts))
  stands_still acts a q r quiet was = record {
    placed = was.placed;
    owned = was.owned;
    limit = was.limit;
    here = was.here;
    left = own_state (a ∷ acts) r ∙ (quiet.rests r ∙ (sym (own_state acts r) ∙ was.left));
    log_is = was.log_is;
    base_is = was.base_is;
    init = init_within (own_acts r acts) (own_acts r (a ∷ acts)) x.i q.entered (own_grows a acts r) was.init;
    rises = was.rises;
    short = was.short;
    claimed = λ m has. claimed_within (own_acts r acts) (own_acts r (a ∷ acts)) (Req (Client m.client) x.i m) (own_grows a acts r) (was.claimed m has);
    idle = was.idle;
  }

  starts : (acts : List Act) (me : ℕ) (base : List Request) → 1 ≤ x.i → MayStart x acts me base → StandsSolo x k (solo.begin k x.cluster.f x.i me base) me (start_of x me base (begun_empty base) ∷ own_acts me acts)
  starts acts me base one may =
      let a = start_of x me base (begun_empty base) in
      let own = own_acts me acts in
      record {
        placed = refl;
        owned = refl;
        limit = refl;
        here = begun_empty base;
        left = state_own a own me (begun_empty base) refl refl;
        log_is = refl;
        base_is = refl;
        init = init_first x own a me base (begun_empty base) one may.nothing refl;
        rises = subst IsHistory (sym (append-nil base)) may.rises;
        short = omega arith;
        claimed = λ m has. absurd (Contains-none m has);
        idle = λ is. refl;
      }

  turns : (own : List Act) (me : ℕ) (q : Sole) (e : Reading) (a : Act) → StandsSolo x k q me own → IsTurn handed solo x own me q e a → StandsSolo x k (next q (asked_by e)) me (a ∷ own)
  turns own me q e a was turn =
      let o = asked_by e in
      let goes = extends (is_ordering q) q.k q.entered q.behind o in
      record {
        placed = was.placed;
        owned = was.owned;
        limit = was.limit;
        here = turn.at;
        left = state_own a own me turn.at turn.party turn.left;
        log_is = turn.log_is;
        base_is = turn.base_is;
        init = init_within own (a ∷ own) x.i q.entered (tail_within a own) was.init;
        rises = goes.rises was.rises;
        short = subst (λ (n : ℕ). length (behind_with (is_ordering q) q.k q.entered q.behind o) ≤ n) was.limit (goes.short (subst (λ (n : ℕ). length q.behind ≤ n) (sym was.limit) was.short));
        claimed = λ m has.
            elim (goes.asked m has) [
              | inl old ↦ claimed_within own (a ∷ own) (Req (Client m.client) x.i m) (tail_within a own) (was.claimed m old)
              | inr now ↦ (a, Contains-head a own, turn.claims (Req (Client m.client) x.i m) (asks_own x.i e m now))
            ];
        idle = λ is. idle_still (is_ordering q) q.begun o (λ _. was.idle is) (ap (λ b. b && nat_le (length q.entered) 1024) is);
      }

  -- where replica r is
  record Told (acts : List Act) (r : ℕ) : Type 0 where
    h : List Request
    ms : List Request
    b : Bool
    log_is : log_of acts r ≡ list_if b h ms
    base_is : base_of acts r ≡ unwrap_or (base_if b h) []
    init : b ≡ true → IsInitHistory (observations acts) x.i h
    rises : IsHistory (h ++ ms)
    short : length ms ≤ k
    claimed : (m : Request) → Contains ms m → WasClaimed acts (Req (Client m.client) x.i m)
    idle : (r == 0) ≡ false → b ≡ false

  told : (acts : List Act) → IsSoloSound x k acts → (r : ℕ) → Told acts r
  told acts sound r =
      elim (sound r) [
        | inl none ↦ record {
          h = [];
          ms = [];
          b = false;
          log_is = ap log_at none;
          base_is = ap state_base none;
          init = λ is. absurd (cc (is));
          rises = nothing_rises;
          short = omega arith;
          claimed = λ m has. absurd (Contains-none m has);
          idle = λ is. refl;
        }
        | inr w ↦
            let s = w.1 in
            let left : state_of acts r ≡ Some s.here = sym (own_state acts r) ∙ s.left in
            record {
              h = w.0.entered;
              ms = w.0.behind;
              b = w.0.begun;
              log_is = ap log_at left ∙ s.log_is;
              base_is = ap state_base left ∙ s.base_is;
              init = λ is. init_within (own_acts r acts) acts x.i w.0.entered (own_within acts r) s.init;
              rises = s.rises;
              short = s.short;
              claimed = λ m has. claimed_within (own_acts r acts) acts (Req (Client m.client) x.i m) (own_within acts r) (s.claimed m has);
              idle = λ is. s.idle (ap (λ n. n == 0) s.owned ∙ is);
            }
      ]

  no_log : (acts : List Act) (r : ℕ) → Told acts r → (r == 0) ≡ false → log_of acts r ≡ []
  no_log acts r t is = t.log_is ∙ ap (λ b. list_if b t.h t.ms) (t.idle is)

  module _ (acts : List Act) (sound : IsSoloSound x k acts) where
    at_first : Told acts 0
    at_first = told acts sound 0

    only_first : (r : ℕ) → log_of acts r ≢ [] → r ≡ 0
    only_first r some =
        elim (cases_Bool (r == 0)) [ inl is ↦ (Decides-eqb r 0).0 is | inr isnt ↦ absurd (some (no_log acts r (told acts sound r) isnt)) ]

    first_some : (r : ℕ) → log_of acts r ≢ [] → log_of acts 0 ≢ []
    first_some r some = subst (λ (n : ℕ). log_of acts n ≢ []) (only_first r some) some

    module _ (t : Told acts 0) (some : log_of acts 0 ≢ []) where
      begun : t.b ≡ true
      begun = some_begun t.b t.h t.ms (λ none. some (t.log_is ∙ none))

      base_here : base_of acts 0 ≡ t.h
      base_here = t.base_is ∙ ap (λ b. unwrap_or (base_if b t.h) []) begun

      log_here : log_of acts 0 ≡ t.h ++ t.ms
      log_here = t.log_is ∙ ap (λ b. list_if b t.h t.ms) begun

      first_init : IsInitHistory (observations acts) x.i (base_of acts 0)
      first_init = subst (λ (l : List Request). IsInitHistory (observations acts) x.i l) (sym base_here) (t.init begun)

      first_begins : IsPrefix (base_of acts 0) (log_of acts 0)
      first_begins = (t.ms, ap (λ (l : List Request). l ++ t.ms) base_here ∙ sym log_here)

      first_claimed : (n : ℕ) (m : Request) → length (base_of acts 0) ≤ n → slice_get (log_of acts 0) n ≡ Some m → WasClaimed acts (Req (Client m.client) x.i m)
      first_claimed n m le at =
          t.claimed m (behind_at t.h t.ms n m (subst (λ (l : List Request). length l ≤ n) base_here le) (subst (λ (l : List Request). slice_get l n ≡ Some m) log_here at))

    first_most : (t : Told acts 0) → length (log_of acts 0) ≤ length (base_of acts 0) + k
    first_most t = let few = most_if t.b k t.h t.ms t.short in omega (arith, few, ap length t.log_is, ap length t.base_is)

    one : IsOneOrder x k acts
    one = record {
      base = base_of acts 0;
      is_init = λ r good some. first_init at_first (first_some r some);
      based = λ r good some. ap (λ n. base_of acts n) (only_first r some);
      begins = λ r good some. subst (λ (n : ℕ). IsPrefix (base_of acts 0) (log_of acts n)) (sym (only_first r some)) (first_begins at_first (first_some r some));
      comparable = λ r s good fine.
          elim (cases_Bool (r == 0)) [
            | inl is ↦ elim (cases_Bool (s == 0)) [
              | inl too ↦ let e : r ≡ s = (Decides-eqb r 0).0 is ∙ sym ((Decides-eqb s 0).0 too) in inl (subst (λ (n : ℕ). IsPrefix (log_of acts r) (log_of acts n)) e (prefix_refl (log_of acts r)))
              | inr isnt ↦ inr (subst (λ (l : List Request). IsPrefix l (log_of acts r)) (sym (no_log acts s (told acts sound s) isnt)) (log_of acts r, refl))
            ]
            | inr isnt ↦ inl (subst (λ (l : List Request). IsPrefix l (log_of acts s)) (sym (no_log acts r (told acts sound r) isnt)) (log_of acts s, refl))
          ];
      claimed = λ r n m good le at.
          let some : log_of acts r ≢ [] = λ none. omega (arith, ap length none, slice_get_within (log_of acts r) n m at) in
          first_claimed at_first (first_some r some) n m le (subst (λ (q : ℕ). slice_get (log_of acts q) n ≡ Some m) (only_first r some) at);
      at_most = λ r good.
          elim (cases_Bool (r == 0)) [
            | inl is ↦ subst (λ (n : ℕ). length (log_of acts n) ≤ length (base_of acts 0) + k) (sym ((Decides-eqb r 0).0 is)) (first_most at_first)
            | inr isnt ↦ omega (arith, ap length (no_log acts r (told acts sound r) isnt))
          ];
      rises = λ r good. let t = told acts sound r in subst IsHistory (sym t.log_is) (rises_if t.b t.h t.ms t.rises);
    }

pub solo_lawful : IsLawfulOrderer handed solo Given IsSoloSound StandsSolo
solo_lawful = record {
  sound_nil = λ x k later premises r. inl refl;
  lawful_start = λ x k acts me base later may was.
      let stands = starts x k acts me base later may in
      (stands, λ premises. sound_more x k acts (start_of x me base (begun_empty base)) me (solo.begin k x.cluster.f x.i me base) refl stands was);
  lawful_turn = λ x k acts me q e a lt good given stands turn.
      let new = turns x k (own_acts me acts) me q e a stands turn in
      (new, λ was premises. sound_more x k acts a me (next q (asked_by e)) turn.party new was);
  lawful_others = λ x k acts a good quiet. (
    λ q r was. stands_still x k acts a q r quiet was,
    λ was premises r. elim (was r) [ inl none ↦ inl (quiet.rests r ∙ none) | inr w ↦ inr (w.0, stands_still x k acts a w.0 r quiet w.1) ],
  );
  asks = λ f i me e m given is. asks_own i e m is;
  states = λ x k q r own e s given stands has. absurd (Contains-none s has);
  one_order = λ x k acts sound. one x k acts sound;
}

-- ---- bytes

written_if : (b : Bool) (h ms : List Request) → (b ≡ true → IsWritten (h ++ ms)) → IsWritten (list_if b h ms)
written_if false h ms was = ((omega arith, omega arith), (λ j d lt. absurd (omega (arith, lt)), nothing_rises))
written_if true h ms was = was refl

written_more : (h ms : List Request) (m : Request) (b : Bool) → (b ≡ true → CanPush (h ++ ms) m) → IsRequest 0 15 m → IsWritten (h ++ ms) → IsWritten (h ++ (if b then ms ++ m ∷ [] else ms))
written_more h ms m false can asked was = was
written_more h ms m true can asked was = subst IsWritten (next_logged (h ++ ms) m (can refl) ∙ append_assoc h ms (m ∷ [])) (written_logged (h ++ ms) m asked was)

written_behind : (z : Bool) (k : ℕ) (h ms : List Request) (o : Option Request) → ((m : Request) → o ≡ Some m → IsRequest 0 15 m) → IsWritten (h ++ ms) → IsWritten (h ++ behind_with z k h ms o)
written_behind z k h ms None asked was = was
written_behind false k h ms (Some m) asked was = was
written_behind true k h ms (Some m) asked was =
    written_more h ms m (nat_lt (length ms) k && can_push (h ++ ms) m)
    (λ is. ((Decides-and (nat_lt (length ms) k) (can_push (h ++ ms) m) (Decides-ltb (length ms) k) (can_push-Decides (h ++ ms) m)).0 is).1) (asked m refl) was

-- a base of at most 1,024 requests can be written as a history
written_short : (n : ℕ) (h : List Request) → length h ≤ 1024 → IsWrittenLog n h → IsWritten h
written_short n h few was = ((omega arith, few), (was.requests, was.history))

-- what is executed behind such a base has bytes with it, and behind another base nothing is executed
record IsWrittenSole (q : Sole) : Type 0 where
  short : q.begun ≡ true → length q.entered ≤ 1024
  written : length q.entered ≤ 1024 → IsWritten (q.entered ++ q.behind)

few_of : (a b : ℕ) → nat_le a b ≡ true → a ≤ b
few_of a b is = grind (arith, is)

short_with : (q : Sole) (o : Option Request) → (q.begun ≡ true → length q.entered ≤ 1024) → begun_with (is_ordering q) q.begun o ≡ true → length q.entered ≤ 1024
short_with q None was is = was is
short_with q (Some m) was is = by_test (is_ordering q) refl is
  where
    by_test : (b : Bool) → is_ordering q ≡ b → (b || q.begun) ≡ true → length q.entered ≤ 1024
    by_test true test is = few_of (length q.entered) 1024 (and_parts (q.me == 0) (nat_le (length q.entered) 1024) test).1
    by_test false test is = was is

sole_written : (c : Cluster) (i r : ℕ) (p : Placed) → ArisesAs solos c i r p → IsWrittenSole p.at
sole_written c i r p (from_entry e placed lt entry) = record {
  short = λ is. absurd (cc (is));
  written = λ few. subst IsWritten (sym (append-nil e.base)) (written_short e.trimmed e.base few entry.base);
}
sole_written c i r p (by_call pen q call signs formed was) =
    let w = sole_written c i r q was in
    let o = asked_by (read q.cluster q.at.instance call) in
    record {
      short = short_with q.at o w.short;
      written = λ few. written_behind (is_ordering q.at) q.at.k q.at.entered q.at.behind o (asked_formed q.cluster q.at.instance call formed) (w.written few);
    }

pub solo_bytes : KeepsBytes solos solo
solo_bytes = record {
  written = λ c i r p was. let w = sole_written c i r p was in written_if p.at.begun p.at.entered p.at.behind (λ is. w.written (w.short is));
  drafts = λ c i r pen p call signs was formed o has. absurd (Contains-none o has);
}
