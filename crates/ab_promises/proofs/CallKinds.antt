-- What calls of each kind state.
use Rattle.std.proofs.Common.{◌≡◌, ℕ, zero, suc, ◌+◌, ◌*◌, Bool, true, false, Option, None, Some, List, [], ◌∷◌, ◌++◌, refl, sym, ap, ◌∙◌, subst, inl, inr, if◌then◌else◌}
use Rattle.std.specs.Prelude.{Contains, ◌==◌, nat_le, nat_lt, flat_map, map, length}
use Rattle.std.proofs.lemmas.Bool.{cases_Bool}
use Rattle.std.proofs.lemmas.List.Elements.{Contains-append_cases}
use Rattle.arrayvec.specs.ArrayVec.{ArrayVec}
use Rattle.ab_num.specs.declared.party.Party.TheVariants.{Replica}
use Rattle.ab_num.specs.Places.{position_in}
use Rattle.ab_num.proofs.Lists.{Contains-none, Contains-one, Contains-cons_cases, Contains-map_cases, flat_map_cases}
use Rattle.ab_hist.specs.declared.request.Request.{Request}
use Rattle.ab_hist.specs.Histories.{place_in}
use Rattle.ab_hist.specs.Known.{known_place}
use Rattle.ab_svc.specs.Machines.{Machine}
use Rattle.ab_msg.specs.declared.content.Content.{Content}
use Rattle.ab_msg.specs.declared.content.Content.TheVariants.{Order, Resp, ChainTag, PrePrepare, Prepare, Commit, ViewChange, NewView, Spec, LocalCommit}
use Rattle.ab_msg.specs.declared.message.Out.{Out}
use Rattle.ab_msg.specs.Claims.{fresh, passed_at}
use Rattle.ab_msg.specs.Pens.{Pen}
use Rattle.ab_abs.specs.declared.vote.Vote.{Vote}
use Rattle.ab_abs.specs.FormLaws.{is_answer}
use Rattle.ab_abs.specs.Members.{Member, respond}
use Rattle.ab_abs.specs.Messages.{request_in}
use Rattle.ab_chain.specs.Rules as chains
use Rattle.ab_chain.specs.Rules.{chain, is_chain}
use Rattle.ab_order.specs.Backups.{Backing, answer_in, answer_of, answers_by, asked_list, backup_after, backup_state, executed_now, keep_asked, unless_stopped, first_answers, later_answers}
use Rattle.ab_order.specs.Orderers.{base_at}
use Rattle.ab_order.specs.Inputs.{handed}
use Rattle.ab_order.specs.Orders.{is_ordering}
use Rattle.ab_abs.specs.Kinds.{is_backup, is_zcert}
use Rattle.ab_order.specs.Protos.{OrderProto, Obeys, answer_out, backup, told, viewed}
use Rattle.ab_pbft_rules.specs.Rules.{Pbft, pbft}
use Rattle.ab_pbft_rules.proofs.OrderlyOrderer.{pbft_orderly}
use Rattle.ab_quorum.specs.Rules.{quorum, is_quorum, responses}
use Rattle.ab_zcert.specs.Rules as keepers
use Rattle.ab_zcert.specs.Rules.{zcert_proto}
use Rattle.ab_zlight.specs.Rules as lights
use Rattle.ab_zlight.specs.Rules.{zlight, is_zlight, to_others, order_msg, orders_at, orders as orders_by}
use Rattle.ab_promises.specs.ReplicaActs.{StatesNone, is_abort, is_prepare}

-- what a message states in its sender's name is an answer
abbrev Answers : Out → Type 0
Answers o = (f r : ℕ) (s : Content) → Contains (fresh f (Replica r) o.msg) s → is_answer s ≡ true

-- an answer is neither
answer_aborts : (s : Content) → is_answer s ≡ true → is_abort s ≡ false
answer_aborts (Order maker i n m) is = refl
answer_aborts (Resp maker i c stamp n d reply) is = refl
answer_aborts (ChainTag maker i c stamp n d) is = refl
answer_aborts (Spec maker i c stamp n d reply) is = refl
answer_aborts (LocalCommit maker i c stamp n d) is = refl
answer_aborts _ is = absurd (cc (is))

answer_prepares : (s : Content) → is_answer s ≡ true → is_prepare s ≡ false
answer_prepares (Order maker i n m) is = refl
answer_prepares (Resp maker i c stamp n d reply) is = refl
answer_prepares (ChainTag maker i c stamp n d) is = refl
answer_prepares (Spec maker i c stamp n d reply) is = refl
answer_prepares (LocalCommit maker i c stamp n d) is = refl
answer_prepares _ is = absurd (cc (is))

order_aborts : (s : Content) → is_ordering s ≡ true → is_abort s ≡ false
order_aborts (PrePrepare maker i view slot d) is = refl
order_aborts (Prepare maker i view slot d) is = refl
order_aborts (Commit maker i view slot d) is = refl
order_aborts (ViewChange maker i view entries) is = refl
order_aborts (NewView maker i view) is = refl
order_aborts _ is = absurd (cc (is))

one_answer : (s t : Content) → is_answer s ≡ true → Contains (s ∷ []) t → is_answer t ≡ true
one_answer s t is has = ap is_answer (sym (Contains-one s t has)) ∙ is

responds : (i me : ℕ) (m : Request) (vote : Option Vote) (o : Out) → Contains (respond i me m vote) o → Answers o
responds i me m None o sent = absurd (Contains-none o sent)
responds i me m (Some vote) o sent =
    let out = Contains-one _ o sent in
    subst (λ (z : Out). Answers z) out (λ f r s has. one_answer (Resp (Replica me) i m.client m.stamp vote.n vote.d vote.reply) s refl has)

-- ---- Quorum

module _ {S : Type 0} (machine : Machine S) where
  quorum_with : (q : Member) (asked : Option Request) (o : Out) → Contains (responses machine q asked) o → Answers o
  quorum_with q None o sent = absurd (Contains-none o sent)
  quorum_with q (Some m) o sent = responds q.instance q.me m _ o sent

  pub quorum_aborts : StatesNone (quorum machine) is_quorum is_abort
  quorum_aborts c i r pen q call o s belongs sent has = answer_aborts s (quorum_with q (request_in call) o sent c.f r s has)

  pub quorum_prepares : StatesNone (quorum machine) is_quorum is_prepare
  quorum_prepares c i r pen q call o s belongs sent has = answer_prepares s (quorum_with q (request_in call) o sent c.f r s has)

-- ---- ZLight

orders_all : (n : ℕ) (q : Member) (m : Request) (x : ℕ) (tags : List (ℕ × List ℕ)) (o : Out) → Contains (to_others n q.me (order_msg q m x tags)) o → Answers o
orders_all zero q m x tags o sent = absurd (Contains-none o sent)
orders_all (suc n) q m x tags o sent =
    elim (Contains-append_cases (to_others n q.me (order_msg q m x tags)) (if n == q.me then [] else record { to = Replica n; msg = order_msg q m x tags n } ∷ []) o sent) [
      | inl before ↦ orders_all n q m x tags o before
      | inr last ↦
          elim (cases_Bool (n == q.me)) [
            | inl me ↦ absurd (Contains-none o (rw me at last))
            | inr other ↦
                let out = Contains-one (record { to = Replica n; msg = order_msg q m x tags n }) o (rw other at last) in
                subst (λ (z : Out). Answers z) out (λ f r s has. one_answer (Order (Replica q.me) q.instance x m) s refl has)
          ]
    ]

orders_where : (f : ℕ) (q : Member) (m : Request) (tags : List (ℕ × List ℕ)) (place : Option ℕ) (o : Out) → Contains (orders_at f q m tags place) o → Answers o
orders_where f q m tags None o sent = absurd (Contains-none o sent)
orders_where f q m tags (Some x) o sent = orders_all (3 * f + 1) q m x tags o sent

orders_with : (f : ℕ) (q : Member) (m : Request) (tags : List (ℕ × List ℕ)) (vote : Option Vote) (o : Out) → Contains (orders_by f q m tags vote) o → Answers o
orders_with f q m tags None o sent = absurd (Contains-none o sent)
orders_with f q m tags (Some vote) o sent = orders_where f q m tags (known_place q.trimmed (lights.log_with q m) m) o sent

module _ {S : Type 0} (machine : Machine S) where
  light_with : (f : ℕ) (q : Member) (t : lights.Task) (o : Out) → Contains (lights.sends_with machine f q t) o → Answers o
  light_with f q lights.idle o sent = absurd (Contains-none o sent)
  light_with f q (lights.ordered m) o sent = responds q.instance q.me m (lights.answer_of machine q m) o sent
  light_with f q (lights.asked m tags) o sent =
      elim (Contains-append_cases (orders_by f q m tags (lights.answer_of machine q m)) (respond q.instance q.me m (lights.answer_of machine q m)) o sent) [
        | inl order ↦ orders_with f q m tags (lights.answer_of machine q m) o order
        | inr response ↦ responds q.instance q.me m (lights.answer_of machine q m) o response
      ]

  pub zlight_aborts : StatesNone (zlight machine) is_zlight is_abort
  zlight_aborts c i r pen q call o s belongs sent has = answer_aborts s (light_with q.f q.at (lights.task q call) o sent c.f r s has)

  pub zlight_prepares : StatesNone (zlight machine) is_zlight is_prepare
  zlight_prepares c i r pen q call o s belongs sent has = answer_prepares s (light_with q.f q.at (lights.task q call) o sent c.f r s has)

-- ---- ZCert

specs_sent : (pen : Pen) (q : Member) (m : Request) (vote : Option Vote) (o : Out) → Contains (keepers.answers pen q m vote) o → Answers o
specs_sent pen q m None o sent = absurd (Contains-none o sent)
specs_sent pen q m (Some vote) o sent =
    let out = Contains-one _ o sent in
    subst (λ (z : Out). Answers z) out (λ f r s has. one_answer (keepers.spec_for q m vote) s refl has)

module _ {S : Type 0} (machine : Machine S) where
  keeper_with : (pen : Pen) (f : ℕ) (q : Member) (j : keepers.Job) (o : Out) → Contains (keepers.sends_for machine pen f q j) o → Answers o
  keeper_with pen f q (keepers.serves lights.idle) o sent = absurd (Contains-none o sent)
  keeper_with pen f q (keepers.serves (lights.ordered m)) o sent = specs_sent pen q m (lights.answer_of machine q m) o sent
  keeper_with pen f q (keepers.serves (lights.asked m tags)) o sent =
      elim (Contains-append_cases (orders_by f q m tags (lights.answer_of machine q m)) (keepers.answers pen q m (lights.answer_of machine q m)) o sent) [
        | inl order ↦ orders_with f q m tags (lights.answer_of machine q m) o order
        | inr answer ↦ specs_sent pen q m (lights.answer_of machine q m) o answer
      ]
  keeper_with pen f q (keepers.keeps z) o sent =
      elim (cases_Bool (keepers.takes_zcert f q z)) [
        | inl takes ↦
            let out = Contains-one (keepers.local_commit q z) o (rw takes at sent) in
            subst (λ (y : Out). Answers y) out (λ g r s has. one_answer (LocalCommit (Replica q.me) q.instance z.client z.stamp z.n z.d) s refl has)
        | inr rests ↦ absurd (Contains-none o (rw rests at sent))
      ]

  pub zcert_aborts : StatesNone (zcert_proto machine) is_zcert is_abort
  zcert_aborts c i r pen q call o s belongs sent has = answer_aborts s (keeper_with pen q.light.f q.light.at (keepers.job q call) o sent c.f r s has)

  pub zcert_prepares : StatesNone (zcert_proto machine) is_zcert is_prepare
  zcert_prepares c i r pen q call o s belongs sent has = answer_prepares s (keeper_with pen q.light.f q.light.at (keepers.job q call) o sent c.f r s has)

-- ---- Chain

passed_answers : (f i : ℕ) (m : Request) (n : ℕ) (d : List ℕ) (reply : Option (ArrayVec ℕ)) (r p : ℕ) (s : Content) → Contains (passed_at f i m n d reply r p) s → is_answer s ≡ true
passed_answers f i m n d None r p s has = one_answer (ChainTag (Replica r) i m.client m.stamp n d) s refl has
passed_answers f i m n d (Some reply) r p s has =
    let tag = ChainTag (Replica r) i m.client m.stamp n d in
    let resp = Resp (Replica r) i m.client m.stamp n d reply in
    elim (cases_Bool (nat_le p (2 * f))) [
      | inl early ↦ one_answer tag s refl (rw early at has)
      | inr late ↦
          let has' : Contains (if nat_lt p (3 * f + 1) then tag ∷ resp ∷ [] else resp ∷ []) s = rw late at has in
          elim (cases_Bool (nat_lt p (3 * f + 1))) [
            | inl middle ↦
                elim (Contains-cons_cases tag (resp ∷ []) s (rw middle at has')) [
                  | inl e ↦ ap is_answer (sym e)
                  | inr more ↦ one_answer resp s refl more
                ]
            | inr last ↦ one_answer resp s refl (rw last at has')
          ]
    ]

chain_with : (f i p : ℕ) (t : chains.Task) (o : Out) → Contains (chains.sends_with f i p t) o → Answers o
chain_with f i p chains.idle o sent = absurd (Contains-none o sent)
chain_with f i p (chains.passes m vote reply tags) o sent =
    let out = Contains-one _ o sent in
    subst (λ (z : Out). Answers z) out (λ g r s has. passed_answers g i m vote.n vote.d reply r (position_in g i r) s has)

module _ {S : Type 0} (machine : Machine S) where
  pub chain_aborts : StatesNone (chain machine) is_chain is_abort
  chain_aborts c i r pen q call o s belongs sent has = answer_aborts s (chain_with q.f q.at.instance (chains.position_at q) (chains.task machine q call) o sent c.f r s has)

  pub chain_prepares : StatesNone (chain machine) is_chain is_prepare
  chain_prepares c i r pen q call o s belongs sent has = answer_prepares s (chain_with q.f q.at.instance (chains.position_at q) (chains.task machine q call) o sent c.f r s has)

-- ---- Backup

module _ {S : Type 0} (machine : Machine S) where
  answered : (i me b : ℕ) (log : List Request) (m : Request) (place : Option ℕ) (s : Content) → Contains (answer_in machine i me b log m place) s → is_answer s ≡ true
  answered i me b log m None s has = absurd (Contains-none s has)
  answered i me b log m (Some n) s has = ap is_answer (sym (Contains-one _ s has))

  all_answered : (i me b : ℕ) (log requests : List Request) (s : Content) → Contains (flat_map (answer_of machine i me b log) requests) s → is_answer s ≡ true
  all_answered i me b log requests s has =
      let found = flat_map_cases (answer_of machine i me b log) requests s has in
      answered i me b log found.0 (place_in log found.0) s found.2

  unless_answered : (stopped : Bool) (answers : List Content) (s : Content) → ((t : Content) → Contains answers t → is_answer t ≡ true) → Contains (unless_stopped stopped answers) s → is_answer s ≡ true
  unless_answered true answers s each has = absurd (Contains-none s has)
  unless_answered false answers s each has = each s has

  answer_sent : (answers : List Content) → ((t : Content) → Contains answers t → is_answer t ≡ true) → (o : Out) → Contains (map answer_out answers) o → Answers o
  answer_sent answers each o sent =
      let found = Contains-map_cases answer_out answers o sent in
      subst (λ (z : Out). Answers z) found.2 (λ f r s has. one_answer found.0 s (each found.0 found.1) has)

  module _ {Q : Type 0} (orders : OrderProto Q Pbft) (obeys : Obeys orders pbft) where
    -- what a Backup answers for these requests where it is
    by_answers : (v : Backing Pbft) (stopped : Bool) (requests : List Request) (s : Content) → Contains (unless_stopped stopped (answers_by pbft handed machine v requests)) s → is_answer s ≡ true
    by_answers v stopped requests s has =
        unless_answered stopped (answers_by pbft handed machine v requests) s
        (λ t in_it. all_answered v.instance v.me (length (base_at pbft v.order)) (pbft.ordered v.order) requests t in_it) has

    pub backup_aborts : StatesNone (backup orders pbft machine) is_backup is_abort
    backup_aborts c i r pen v call o s belongs sent has =
        let e = told orders v.order call in
        let u = viewed orders v in
        let first = first_answers pbft handed machine u e in
        let later = later_answers pbft handed machine u e in
        let stopped = (backup_state pbft u).stopped in
        elim (Contains-append_cases (map answer_out first) (orders.sends pen v.order call ++ map answer_out later) o sent) [
          | inl now ↦ answer_aborts s (answer_sent first (λ t in_it. by_answers u stopped (asked_list (handed.asked e)) t in_it) o now c.f r s has)
          | inr rest ↦
              elim (Contains-append_cases (orders.sends pen v.order call) (map answer_out later) o rest) [
                | inl its ↦ order_aborts s (pbft_orderly.orders (orders.view v.order) e s (obeys.only pen v.order call o s c.f r its has)).2
                | inr last ↦
                    let requests = executed_now (pbft.base u.order) (pbft.base (pbft.after u.order e)) (pbft.ordered u.order) (pbft.ordered (pbft.after u.order e)) (keep_asked (handed.asked e) u.kept) in
                    answer_aborts s (answer_sent later (λ t in_it. by_answers (backup_after pbft handed u e) stopped requests t in_it) o last c.f r s has)
              ]
        ]
