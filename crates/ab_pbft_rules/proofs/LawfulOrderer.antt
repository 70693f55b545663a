-- PBFT is a lawful orderer.
use Rattle.std.proofs.Common.{◌≡◌, ℕ, ◌≤◌, false, Some, List, [], ◌∷◌, refl, sym, ap, ◌∙◌, subst, inl, inr}
use Rattle.std.specs.Prelude.{Contains}
use Rattle.std.specs.Str.{bytes_eq}
use Rattle.std.proofs.lemmas.Option.{none-some, same_Some}
use Rattle.std.proofs.lemmas.Slice.Eq.{bytes_eq-Decides}
use Rattle.ab_num.specs.declared.party.Party.TheVariants.{Replica, Client}
use Rattle.ab_num.proofs.Lists.{Contains-head, Contains-tail, Contains-cons_cases, Contains-flat_map, Contains-none}
use Rattle.ab_hist.specs.declared.request.Request.{Request}
use Rattle.ab_hist.specs.Histories.{IsHistory}
use Rattle.ab_msg.specs.declared.content.Content.{Content}
use Rattle.ab_msg.specs.declared.content.Content.TheVariants as content
use Rattle.ab_msg.specs.Claims.{maker_of, instance_of}
use Rattle.ab_abs.specs.Faults.{is_faulty}
use Rattle.ab_abs.specs.Observations.{IsInitHistory}
use Rattle.ab_abs.specs.Values.{goes}
use Rattle.ab_msg.specs.declared.value.Value.{Value}
use Rattle.ab_msg.specs.Slots.{slot_digest}
use Rattle.ab_abs.specs.Acts.{Setting, Act, MayStart, observations, state_of, start_of, WasMade, own_acts}
use Rattle.ab_abs.specs.OrderRules.{WasClaimed}
use Rattle.ab_abs.proofs.Facts.{state_own, init_first}
use Rattle.ab_lock.specs.Acts as lock
use Rattle.ab_lock.specs.Acts.{Prepare, Commit, ViewChange, taken, made}
use Rattle.ab_lock.specs.Events.{act_of}
use Rattle.ab_lock.proofs.KeptChanges.{rising_once}
use Rattle.ab_lock.proofs.EventLaws.{settle_lawful, kept_more, none_kept}
use Rattle.ab_order.specs.Orders.{OrderPremises, IsQuiet, is_ordering}
use Rattle.ab_order.specs.Orderers.{begun_empty, IsTurn, IsLawfulOrderer}
use Rattle.ab_order.specs.Inputs.{Reading, request, pre_prepare_base, pre_prepare, prepare, commit, view_change, new_view, timeout, other, input_claims, asked_by, handed, IsGiven, Given}
use Rattle.ab_order.proofs.OwnActs.{own_cases, own_state, tail_within, claimed_within, init_within, ordered_within}
use Rattle.ab_order.proofs.BackupLaws.{not_both}
use Rattle.ab_pbft_rules.specs.Traces.{OrderAct, content_of, IsSource, IsTraced, Explained, IsPbftSound}
use Rattle.ab_pbft_rules.specs.Rules.{Placement, Pbft, Work, core_of, base_of, idle, work, done_by, pbft}
use Rattle.ab_pbft_rules.specs.Standing.{IsMid, PbftStands}
use Rattle.ab_pbft_rules.proofs.OneOrder.{one_order, vote_orders}
use Rattle.ab_pbft_rules.proofs.ChangeInputs.{input_said, input_in}
use Rattle.ab_pbft_rules.proofs.EventSteps.{mid_more, IsTold, IsThere, event_there}
use Rattle.ab_pbft_rules.proofs.StandingLaws.{traced, vote_one, lawful_within, mid_within}
use Rattle.ab_pbft_rules.proofs.OrderlyOrderer.{base_same, IsMade, by_step, by_offer, by_lead, made_cases, made_is}

asked_claimed : (i : ℕ) (e : Reading) (m : Request) → asked_by e ≡ Some m → Contains (input_claims i e) (content.Req (Client m.client) i m)
asked_claimed i (request q) m is = let e : q ≡ m = same_Some q m is in subst (λ (z : Request). Contains (input_claims i (request q)) (content.Req (Client z.client) i z)) e (Contains-head _ [])
asked_claimed i (pre_prepare_base by view x h) m is = absurd (none-some m is)
asked_claimed i (pre_prepare by view slot x q) m is = absurd (none-some m is)
asked_claimed i (prepare by view slot x) m is = absurd (none-some m is)
asked_claimed i (commit by view slot x) m is = absurd (none-some m is)
asked_claimed i (view_change change) m is = absurd (none-some m is)
asked_claimed i (new_view by view inputs) m is = absurd (none-some m is)
asked_claimed i timeout m is = absurd (none-some m is)
asked_claimed i other m is = absurd (none-some m is)

-- a vote is no PRE-PREPARE and no NEW-VIEW
no_offer : (i r v n : ℕ) (d : List ℕ) (j : ℕ) (c : lock.LockContent (List ℕ)) → content.PrePrepare (Replica r) i v n d ≡ content_of j c → ⊥
no_offer i r v n d j (Prepare q w m x) e = cc (e)
no_offer i r v n d j (Commit q w m x) e = cc (e)
no_offer i r v n d j (ViewChange q w l) e = cc (e)

no_lead : (i r v j : ℕ) (c : lock.LockContent (List ℕ)) → content.NewView (Replica r) i v ≡ content_of j c → ⊥
no_lead i r v j (Prepare q w m x) e = cc (e)
no_lead i r v j (Commit q w m x) e = cc (e)
no_lead i r v j (ViewChange q w l) e = cc (e)

-- what one more act of a replica explains
more_explained : (x : Setting) (k : ℕ) (acts : List Act) (a : Act) (me : ℕ) → a.party ≡ Replica me → Explained x k me (a ∷ own_acts me acts) → ((r : ℕ) → Explained x k r (own_acts r acts)) → (r : ℕ) → Explained x k r (own_acts r (a ∷ acts))
more_explained x k acts a me party now was r =
    elim (own_cases a acts r) [
      | inl own ↦
          let same : me ≡ r = cc (party, own.0) in
          subst (λ (l : List Act). Explained x k r l) (sym own.1) (subst (λ (q : ℕ). Explained x k q (a ∷ own_acts q acts)) same now)
      | inr differ ↦ subst (λ (l : List Act). Explained x k r l) (sym differ.1) (was r)
    ]

more_clients : (acts : List Act) (a : Act) (me : ℕ) → a.party ≡ Replica me → ((b : Act) (c : ℕ) (s : Content) → Contains acts b → b.party ≡ Client c → Contains b.made s → is_ordering s ≡ false)
    → (b : Act) (c : ℕ) (s : Content) → Contains (a ∷ acts) b → b.party ≡ Client c → Contains b.made s → is_ordering s ≡ false
more_clients acts a me party was b c s has client makes =
    elim (Contains-cons_cases a acts b has) [
      | inl e ↦ absurd (apart (sym party ∙ (ap (λ z. z.party) e ∙ client)))
      | inr older ↦ was b c s older client makes
    ]
  where
    apart : Replica me ≡ Client c → ⊥
    apart e = cc (e)

nil_traced : (x : Setting) (k r : ℕ) → IsTraced x k r [] []
nil_traced x k r = record {
  lawful = tt;
  mine = λ a has. absurd (Contains-none a has);
  claimed = λ a c has claims. absurd (Contains-none a has);
  made = λ c was. absurd (Contains-none was.0 was.1);
  shown = λ v vcs chosen c t cert has in_vcs there. absurd (Contains-none _ has);
  none = λ none. refl;
  executes = λ s here. absurd (none-some s here);
}

-- an act that is no call leaves a trace
module _ (x : Setting) (k r : ℕ) (own : List Act) (a : Act) (quiet : (s : Content) → Contains a.made s → is_ordering s ≡ false) (rests : state_of (a ∷ own) r ≡ state_of own r) where
  said_before : (c : lock.LockContent (List ℕ)) → WasMade (a ∷ own) (content_of x.i c) → WasMade own (content_of x.i c)
  said_before c was =
      elim (Contains-cons_cases a own was.0 was.1) [
        | inl e ↦ absurd (not_both (is_ordering (content_of x.i c)) (vote_orders x.i c) (quiet (content_of x.i c) (subst (λ (b : Act). Contains b.made (content_of x.i c)) (sym e) was.2)))
        | inr older ↦ (was.0, older, was.2)
      ]

  quiet_traced : (trace : List OrderAct) → IsTraced x k r own trace → IsTraced x k r (a ∷ own) trace
  quiet_traced trace is = record {
    lawful = lawful_within x k r own (a ∷ own) (tail_within a own) trace is.lawful;
    mine = is.mine;
    claimed = λ b c has claims. claimed_within own (a ∷ own) (content_of x.i c) (tail_within a own) (is.claimed b c has claims);
    made = λ c was. is.made c (said_before c was);
    shown = λ v vcs chosen c t cert has in_vcs there. let s = is.shown v vcs chosen c t cert has in_vcs there in (s.0, ordered_within x own (a ∷ own) cert.value (tail_within a own) s.1);
    none = λ none. is.none (sym rests ∙ none);
    executes = λ s here. is.executes s (sym rests ∙ here);
  }

  quiet_stands : (p : Pbft) → PbftStands x k p r own → PbftStands x k p r (a ∷ own)
  quiet_stands p is = record {
    within = is.within;
    base = is.base;
    seated = is.seated;
    based = (init_within own (a ∷ own) x.i is.base (tail_within a own) is.based.0, is.based.1);
    trace = is.trace;
    mid = mid_within x k r own (a ∷ own) (tail_within a own) (λ c. WasMade own (content_of x.i c)) (λ c. WasMade (a ∷ own) (content_of x.i c)) is.trace p.memory [] (λ c was. is.mid.said c (said_before c was)) is.mid;
    begun = λ none. is.begun (sym rests ∙ none);
    executes = λ s here. is.executes s (sym rests ∙ here);
  }

module _ (x : Setting) (k : ℕ) where
  pub nil_sound : 1 ≤ x.i → OrderPremises x [] → IsPbftSound x k []
  nil_sound one premises = record {
    later_than_none = one;
    explained = λ r. ([], nil_traced x k r);
    clients = λ a c s has. absurd (Contains-none a has);
    premises = premises;
  }

  -- the state of its own acts, after an act that rests
  own_rests : (acts : List Act) (a : Act) (r : ℕ) → own_acts r (a ∷ acts) ≡ a ∷ own_acts r acts → state_of (a ∷ acts) r ≡ state_of acts r → state_of (a ∷ own_acts r acts) r ≡ state_of (own_acts r acts) r
  own_rests acts a r own rests = sym (ap (λ l. state_of l r) own) ∙ (own_state (a ∷ acts) r ∙ (rests ∙ sym (own_state acts r)))

  pub others : (acts : List Act) (a : Act) → is_faulty x.faulty a.party ≡ false → IsQuiet acts a
      → ((p : Pbft) (r : ℕ) → PbftStands x k p r (own_acts r acts) → PbftStands x k p r (own_acts r (a ∷ acts)))
      × (IsPbftSound x k acts → OrderPremises x (a ∷ acts) → IsPbftSound x k (a ∷ acts))
  others acts a good quiet = (
    λ p r stands.
        elim (own_cases a acts r) [
          | inl own ↦ subst (λ (l : List Act). PbftStands x k p r l) (sym own.1) (quiet_stands x k r (own_acts r acts) a quiet.states (own_rests acts a r own.1 (quiet.rests r)) p stands)
          | inr differ ↦ subst (λ (l : List Act). PbftStands x k p r l) (sym differ.1) stands
        ],
    λ was premises. record {
      later_than_none = was.later_than_none;
      explained = λ r.
          elim (own_cases a acts r) [
            | inl own ↦
                let e = was.explained r in
                subst (λ (l : List Act). Explained x k r l) (sym own.1) (e.0, quiet_traced x k r (own_acts r acts) a quiet.states (own_rests acts a r own.1 (quiet.rests r)) e.0 e.1)
            | inr differ ↦ subst (λ (l : List Act). Explained x k r l) (sym differ.1) (was.explained r)
          ];
      clients = λ b c s has client makes.
          elim (Contains-cons_cases a acts b has) [
            | inl e ↦ quiet.states s (subst (λ (z : Act). Contains z.made s) (sym e) makes)
            | inr older ↦ was.clients b c s older client makes
          ];
      premises = premises;
    },
  )

  -- a replica begins
  pub starts : (acts : List Act) (me : ℕ) (base : List Request) → 1 ≤ x.i → MayStart x acts me base → IsPbftSound x k acts
      → PbftStands x k (pbft.begin k x.cluster.f x.i me base) me (start_of x me base (begun_empty base) ∷ own_acts me acts)
      × (OrderPremises x (start_of x me base (begun_empty base) ∷ acts) → IsPbftSound x k (start_of x me base (begun_empty base) ∷ acts))
  starts acts me base one may was =
      let a = start_of x me base (begun_empty base) in
      let own = own_acts me acts in
      let p = pbft.begin k x.cluster.f x.i me base in
      let e = was.explained me in
      let nothing : e.0 ≡ [] = e.1.none (own_state acts me ∙ may.none) in
      let here : state_of (a ∷ own) me ≡ Some (begun_empty base) = state_own a own me (begun_empty base) refl refl in
      let stands : PbftStands x k (pbft.begin k x.cluster.f x.i me base) me (start_of x me base (begun_empty base) ∷ own_acts me acts) = record {
        within = may.within;
        base = base;
        seated = refl;
        based = (init_first x own a me base (begun_empty base) one may.nothing refl, may.rises);
        trace = [];
        mid = record {
          lawful = tt;
          mine = λ b has. absurd (Contains-none b has);
          claimed = λ b c has claims. absurd (Contains-none b has);
          shown = λ v vcs chosen c has in_vcs. absurd (Contains-none _ has);
          peer = record { core = refl; votes = none_kept slot_digest x.cluster.f me [] _; commits = none_kept slot_digest x.cluster.f me [] _ };
          changes = record { once = rising_once {V = Value} [] tt; within = λ u has. absurd (Contains-none u has); known = λ u has. absurd (Contains-none u has); fits = λ u has. absurd (Contains-none u has) };
          rising = tt;
          changes_shown = λ u has. absurd (Contains-none u has);
          requests = λ m has. absurd (Contains-none m has);
          made = λ c has. absurd (Contains-none c has);
          said = λ c said.
              elim (Contains-cons_cases a own said.0 said.1) [
                | inl same ↦ absurd (Contains-none (content_of x.i c) (subst (λ (z : Act). Contains z.made (content_of x.i c)) (sym same) said.2))
                | inr older ↦ subst (λ (l : List OrderAct). lock.WasMade slot_digest l c) nothing (e.1.made c (said.0, older, said.2))
              ];
        };
        begun = λ none. none-some (begun_empty base) (sym none ∙ here);
        executes = λ s there. let same : begun_empty base ≡ s = same_Some (begun_empty base) s (sym here ∙ there) in (ap (λ z. z.log) (sym same), ap (λ z. z.base) (sym same));
      } in (
        stands,
        λ premises. record {
          later_than_none = one;
          explained = more_explained x k acts a me refl ([], traced x k p me (a ∷ own) stands) was.explained;
          clients = more_clients acts a me refl was.clients;
          premises = premises;
        },
      )

  module _ (acts : List Act) (me : ℕ) (p : Pbft) (e : Reading) (a : Act) (given : IsGiven x.cluster.f e) (stands : PbftStands x k p me (own_acts me acts)) (turn : IsTurn handed pbft x (own_acts me acts) me p e a) where
    abbrev own : List Act
    own = own_acts me acts

    abbrev before : lock.LockContent (List ℕ) → Type 0
    before c = WasMade (own_acts me acts) (content_of x.i c)

    abbrev now : lock.LockContent (List ℕ) → Type 0
    now c = WasMade (a ∷ own_acts me acts) (content_of x.i c)

    abbrev seat : Placement
    seat = record { k = k; f = x.cluster.f; i = x.i; me = me; base = stands.base }

    based : IsInitHistory (observations (a ∷ own)) x.i stands.base × IsHistory stands.base
    based = (init_within own (a ∷ own) x.i stands.base (tail_within a own) stands.based.0, stands.based.1)

    -- the act of taking what is claimed
    abbrev takes : OrderAct
    takes = act_of me (input_said e) []

    claims_all : (c : lock.LockContent (List ℕ)) → Contains (input_said e) c → WasClaimed (a ∷ own) (content_of x.i c)
    claims_all c has = (a, Contains-head a own, turn.claims (content_of x.i c) (input_in x.i e c has))

    taking : IsMid x k me (a ∷ own) before (takes ∷ stands.trace) p.memory []
    taking =
        let mid = mid_within x k me own (a ∷ own) (tail_within a own) before before stands.trace p.memory [] stands.mid.said stands.mid in
        let q = p.memory.peer in
        let l = settle_lawful slot_digest goes k x.cluster.f (IsSource x (a ∷ own)) me stands.within bytes_eq bytes_eq-Decides 0 stands.trace (input_said e) q mid.lawful mid.peer.core
        (kept_more slot_digest x.cluster.f me takes stands.trace _ q.votes mid.peer.votes) (kept_more slot_digest x.cluster.f me takes stands.trace _ q.commits mid.peer.commits) in
        mid_more x k me (a ∷ own) before stands.trace p.memory [] (input_said e) [] q mid claims_all (λ v vcs chosen c has in_vcs. absurd (Contains-none _ has)) l.0 l.1

    work_is : work seat e (idle p.memory) ≡ done_by p e
    work_is = ap (λ (s : Placement). work s e (idle p.memory)) (sym stands.seated)

    told : IsTold x k me (a ∷ own) before stands.within stands.base based e (idle p.memory)
    told = record {
      given = given;
      shown = λ value has. (a, Contains-head a own, (me, turn.party), turn.values value has);
      asked = λ m is. (a, Contains-head a own, turn.claims (content.Req (Client m.client) x.i m) (asked_claimed x.i e m is));
      brought = λ by view slot d m is. (
        a,
        Contains-head a own,
        turn.claims (content.Req (Client m.client) x.i m)
            (subst (λ (z : Reading). Contains (input_claims x.i z) (content.Req (Client m.client) x.i m)) (sym is) (Contains-tail _ _ (content.Req (Client m.client) x.i m ∷ []) (Contains-head _ []))),
      );
      noted = λ h offered none then_is. turn.noted h offered none (ap (λ z. base_of (core_of z).accepted) (sym work_is) ∙ then_is);
    }

    reach : IsThere x k me (a ∷ own) before stands.within stands.base based e (idle p.memory) (done_by p e)
    reach =
        subst (λ (w : Work). IsThere x k me (a ∷ own) before stands.within stands.base based e (idle p.memory) w) work_is
        (event_there x k me (a ∷ own) before stands.within stands.base based e (idle p.memory) told
        (record { trace = takes ∷ stands.trace; mid = taking; knows = λ c has. taken takes (Contains-head takes stands.trace) refl has }))

    -- what the acts say the steps say
    said_by : (c : lock.LockContent (List ℕ)) → IsMade p.seat.i p.seat.me (done_by p e).steps (content_of x.i c) → lock.WasMade slot_digest reach.trace c
    said_by c (by_step vote step is in_steps makes) =
        let in_i : p.seat.i ≡ x.i = ap (λ (s : Placement). s.i) stands.seated in
        let by_me : p.seat.me ≡ me = ap (λ (s : Placement). s.me) stands.seated in
        let one : vote ≡ c = vote_one x.i vote c (ap (λ i. content_of i vote) (sym in_i) ∙ is) in
        reach.mid.made c
        (Contains-flat_map (made slot_digest me) (done_by p e).steps step c in_steps
        (subst (λ (z : lock.LockContent (List ℕ)). Contains (made slot_digest me step) z) one (subst (λ (q : ℕ). Contains (made slot_digest q step) vote) by_me makes)))
    said_by c (by_offer v n d is) = absurd (no_offer p.seat.i p.seat.me v n d x.i c is)
    said_by c (by_lead v is) = absurd (no_lead p.seat.i p.seat.me v x.i c is)

    said_now : (c : lock.LockContent (List ℕ)) → now c → lock.WasMade slot_digest reach.trace c
    said_now c was =
        elim (Contains-cons_cases a own was.0 was.1) [
          | inr older ↦ reach.mid.said c (was.0, older, was.2)
          | inl same ↦ said_by c (made_cases p e (content_of x.i c) (turn.made (content_of x.i c) (subst (λ (z : Act). Contains z.made (content_of x.i c)) (sym same) was.2) (vote_orders x.i c)))
        ]

    here : state_of (a ∷ own) me ≡ Some turn.at
    here = state_own a own me turn.at turn.party turn.left

    pub turns_stand : PbftStands x k (pbft.after p e) me (a ∷ own)
    turns_stand = record {
      within = stands.within;
      base = stands.base;
      seated = stands.seated;
      based = based;
      trace = reach.trace;
      mid = record {
        lawful = reach.mid.lawful;
        mine = reach.mid.mine;
        claimed = reach.mid.claimed;
        shown = reach.mid.shown;
        peer = reach.mid.peer;
        changes = reach.mid.changes;
        rising = reach.mid.rising;
        changes_shown = reach.mid.changes_shown;
        requests = reach.mid.requests;
        made = λ c has. absurd (Contains-none c has);
        said = said_now;
      };
      begun = λ none. none-some turn.at (sym none ∙ here);
      executes = λ s there.
          let same : turn.at ≡ s = same_Some turn.at s (sym here ∙ there) in
          (ap (λ z. z.log) (sym same) ∙ turn.log_is, ap (λ z. z.base) (sym same) ∙ (turn.base_is ∙ base_same (pbft.after p e).memory.peer.core.executed));
    }

    pub turns_sound : IsPbftSound x k acts → OrderPremises x (a ∷ acts) → IsPbftSound x k (a ∷ acts)
    turns_sound was premises = record {
      later_than_none = was.later_than_none;
      explained = more_explained x k acts a me turn.party (turns_stand.trace, traced x k (pbft.after p e) me (a ∷ own) turns_stand) was.explained;
      clients = more_clients acts a me turn.party was.clients;
      premises = premises;
    }

  pub states : (p : Pbft) (r : ℕ) (own : List Act) (e : Reading) (s : Content) → PbftStands x k p r own → Contains (pbft.makes p e) s → (maker_of s ≡ Replica r) × (instance_of s ≡ x.i)
  states p r mine e s stands has =
      let in_i : p.seat.i ≡ x.i = ap (λ (z : Placement). z.i) stands.seated in
      let by_me : p.seat.me ≡ r = ap (λ (z : Placement). z.me) stands.seated in
      let is = made_is p.seat.i p.seat.me (done_by p e).steps s (made_cases p e s has) in
      (is.0 ∙ ap Replica by_me, is.1 ∙ in_i)

pub pbft_lawful : IsLawfulOrderer handed pbft Given IsPbftSound PbftStands
pbft_lawful = record {
  sound_nil = λ x k one premises. nil_sound x k one premises;
  lawful_start = λ x k acts me base one may was. starts x k acts me base one may was;
  lawful_turn = λ x k acts me p e a lt good given stands turn. (turns_stand x k acts me p e a given stands turn, λ was premises. turns_sound x k acts me p e a given stands turn was premises);
  lawful_others = λ x k acts a good quiet. others x k acts a good quiet;
  asks = λ f i me e m given is. asked_claimed i e m is;
  states = λ x k p r own e s given stands has. states x k p r own e s stands has;
  one_order = λ x k acts sound. one_order x k acts sound;
}
