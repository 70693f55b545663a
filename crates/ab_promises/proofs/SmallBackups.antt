-- The acts of the small Backup are own calls, meet the premises, and prepare slot 0.
use Rattle.std.proofs.Common.{◌≡◌, ℕ, ◌<◌, ◌⊎◌, true, false, Option, Some, None, List, [], ◌∷◌, ◌++◌, length, map, refl, sym, ap, ◌∙◌, subst, inl, inr, arith}
use Rattle.std.specs.Prelude.{Contains}
use Rattle.std.specs.List.{IsDistinct}
use Rattle.std.proofs.lemmas.Option.{none-some}
use Rattle.std.proofs.lemmas.List.Elements.{All-nil, Contains-append_left, Contains-append_right}
use Rattle.ab_mac.proofs.Sha256Lemmas.{length-sha256}
use Rattle.ab_num.specs.declared.cluster.Cluster.{Cluster}
use Rattle.ab_num.specs.declared.plan.Plan.TheVariants as plan
use Rattle.ab_num.specs.declared.party.Party.TheVariants.{Replica}
use Rattle.ab_num.specs.Parties.{party_eq}
use Rattle.ab_num.proofs.Lists.{Contains-none, Contains-one, Contains-head, Contains-cons_cases, Contains-flat_map, Contains-filter}
use Rattle.ab_num.proofs.Tests.{bytes_eq-refl}
use Rattle.ab_hist.specs.Digests.{digest_of_base}
use Rattle.ab_svc.specs.Machines.{Machine}
use Rattle.ab_msg.specs.declared.content.Content.{Content}
use Rattle.ab_msg.specs.declared.content.Content.TheVariants as content
use Rattle.ab_msg.specs.declared.message.Msg.{Msg}
use Rattle.ab_msg.specs.declared.message.Out.{Out}
use Rattle.ab_msg.specs.declared.value.Value.{Value}
use Rattle.ab_msg.specs.declared.value.Value.TheVariants.{Base}
use Rattle.ab_msg.specs.Claims.{maker_of, stated, fresh}
use Rattle.ab_msg.specs.Fields.{IsSig}
use Rattle.ab_msg.specs.Messages.{IsMessage}
use Rattle.ab_msg.specs.Slots.{base_digest}
use Rattle.ab_abs.specs.Backing.{IsCorrect}
use Rattle.ab_abs.specs.Faults.{is_faulty}
use Rattle.ab_abs.specs.Acts.{Act, WasMade, histories, bases, histories_of_act, unmarked, Premises}
use Rattle.ab_abs.specs.Messages.{took}
use Rattle.ab_abs.specs.Ensembles.{makes, entry_of, MayTake}
use Rattle.ab_abs.proofs.Facts.{party_eq-Decides}
use Rattle.ab_lock.specs.Steps.{Cert, with_cert}
use Rattle.ab_lock.specs.Votes.{SlotVote}
use Rattle.ab_order.specs.Inputs.{Reading, pre_prepare_base, prepare, handed}
use Rattle.ab_order.specs.Readings.{read}
use Rattle.ab_order.specs.Backups.{Backing, first_answers, later_answers}
use Rattle.ab_order.specs.Protos.{OrderProto, Obeys, told, viewed, answer_out}
use Rattle.ab_pbft_rules.specs.Locks.{ArePrepared}
use Rattle.ab_pbft_rules.specs.Rules.{Pbft, pbft}
use Rattle.ab_abs.proofs.Bases.{bases_are_histories}
use Rattle.ab_promises.specs.OwnCalls.{AreOwnCalls, none_yet, begins, takes}
use Rattle.ab_msg.specs.Pens.{no_pen}
use Rattle.ab_promises.specs.SmallStarts.{four}
use Rattle.ab_promises.proofs.EmptyLogs.{AllEmpty, IsIdle, state_empty, more_empty, empty_apart, empty_slots, rises}
use Rattle.ab_promises.specs.SmallBackups.{backup_of_four, empty_base, offers, prepared_by, rule, once, begun_by, taken_by, offered_acts, first_of, primary_acts, backup_acts}

-- replicas 1 and 2, and 2 and 1
data IsPair : ℕ → ℕ → Type 0 where
  one_two : IsPair 1 2
  two_one : IsPair 2 1

abbrev small_cluster : Cluster
small_cluster = four plan.Backup

-- ---- what the rules come to

abbrev by : ℕ → SlotVote (List ℕ)
by r = record { by = r; slot = 0; x = empty_base }

abbrev at : ℕ → ℕ → List (Option (Cert Value)) → List (SlotVote (List ℕ)) → List (SlotVote (List ℕ)) → Pbft
at r prepared certs votes commits = record {
  seat = record { k = 1; f = 1; i = 1; me = r; base = [] };
  memory = record {
    peer = record {
      core = record { view = 0; changing = false; accepted = Base [] ∷ []; signed = 1; prepared = prepared; certs = certs; executed = [] };
      votes = votes;
      commits = commits;
    };
    changes = [];
    requests = [];
  };
}

abbrev before : ℕ → Pbft
before r = pbft.begin 1 1 1 r []

abbrev accepted : ℕ → Pbft
accepted r = at r 0 [] (by r ∷ []) []

abbrev voted : ℕ → Pbft
voted r = at r 0 [] (by 0 ∷ by r ∷ []) []

abbrev ready : ℕ → ℕ → Pbft
ready r q = at r 1 (with_cert 0 (Base [] ∷ []) []) (by q ∷ by 0 ∷ by r ∷ []) (by r ∷ [])

abbrev base_offer : Reading
base_offer = pre_prepare_base 0 0 empty_base []

accepts_base : (r q : ℕ) → IsPair r q → pbft.after (before r) base_offer ≡ accepted r
accepts_base _ _ one_two = let a = bytes_eq-refl empty_base in rw a refl
accepts_base _ _ two_one = let a = bytes_eq-refl empty_base in rw a refl

says_prepare : (r q : ℕ) → IsPair r q → pbft.makes (before r) base_offer ≡ content.Prepare (Replica r) 1 0 0 empty_base ∷ []
says_prepare _ _ one_two = let a = bytes_eq-refl empty_base in rw a refl
says_prepare _ _ two_one = let a = bytes_eq-refl empty_base in rw a refl

votes_first : (r q : ℕ) → IsPair r q → pbft.after (accepted r) (prepare 0 0 0 empty_base) ≡ voted r
votes_first _ _ one_two = let a = bytes_eq-refl empty_base in rw a refl
votes_first _ _ two_one = let a = bytes_eq-refl empty_base in rw a refl

becomes_ready : (r q : ℕ) → IsPair r q → pbft.after (voted r) (prepare q 0 0 empty_base) ≡ ready r q
becomes_ready _ _ one_two = let a = bytes_eq-refl empty_base in rw (a, a) refl
becomes_ready _ _ two_one = let a = bytes_eq-refl empty_base in rw (a, a) refl

says_commit : (r q : ℕ) → IsPair r q → pbft.makes (voted r) (prepare q 0 0 empty_base) ≡ content.Commit (Replica r) 1 0 0 empty_base ∷ []
says_commit _ _ one_two = let a = bytes_eq-refl empty_base in rw (a, a) refl
says_commit _ _ two_one = let a = bytes_eq-refl empty_base in rw (a, a) refl

-- ---- messages of the grammar

length-empty_base : length empty_base ≡ 32
unfolding base_digest digest_of_base
length-empty_base = length-sha256 _

offers_formed : IsMessage offers
offers_formed = (
  (((omega arith, omega arith), ((omega arith, omega arith), (omega arith, ((omega arith, omega arith), length-empty_base)))), refl),
  (refl, ((omega arith, omega arith), All-nil _)),
)

prepared_formed : (sig : List ℕ) (r : ℕ) → r < 4 → IsSig sig → IsMessage (prepared_by sig r)
prepared_formed sig r lt is = (refl, (((omega arith, omega (arith, lt)), ((omega arith, omega arith), (omega arith, ((omega arith, omega arith), length-empty_base)))), is))

-- what the faulty primary says nobody has to have made
by_primary : (s c : Content) → maker_of s ≡ Replica 0 → Contains (s ∷ []) c → is_faulty (Replica 0 ∷ []) (maker_of c) ≡ false → ⊥
by_primary s c own has ok =
    let own' : maker_of c ≡ Replica 0 = ap maker_of (sym (Contains-one s c has)) ∙ own in
    let faulty : is_faulty (Replica 0 ∷ []) (maker_of c) ≡ true = ap (is_faulty (Replica 0 ∷ [])) own' in
    cc (faulty, ok)

module _ {S P : Type 0} (machine : Machine S) (orders : OrderProto P Pbft) (obeys : Obeys orders pbft) where
  -- ---- where the replicas are

  record IsIn (v : Backing P) (p : Pbft) : Type 0 where
    cluster_is : orders.cluster v.order ≡ small_cluster
    instance_is : orders.instance v.order ≡ 1
    view_is : orders.view v.order ≡ p
    entered_is : v.entered ≡ []

  begun_in : (r : ℕ) → IsIn (once machine orders r []) (before r)
  begun_in r =
      let placed = obeys.placed small_cluster 1 r (entry_of [] None) in
      record { cluster_is = placed.0; instance_is = placed.1; view_is = obeys.begins small_cluster 1 r (entry_of [] None); entered_is = refl }

  module _ (v : Backing P) (p : Pbft) (m : Msg) (e : Reading) (was : IsIn v p) (reads : read small_cluster 1 (took m) ≡ e) where
    told_is : told orders v.order (took m) ≡ e
    told_is = ap (λ c. read c (orders.instance v.order) (took m)) was.cluster_is ∙ (ap (λ i. read small_cluster i (took m)) was.instance_is ∙ reads)

    next_in : (q : Pbft) → pbft.after p e ≡ q → IsIn ((rule machine orders).after no_pen v (took m)) q
    next_in q goes =
        let stays = obeys.stays no_pen v.order (took m) in
        record {
          cluster_is = stays.0 ∙ was.cluster_is;
          instance_is = stays.1 ∙ was.instance_is;
          view_is = obeys.goes_on no_pen v.order (took m) ∙ (ap (λ z. pbft.after z (told orders v.order (took m))) was.view_is ∙ (ap (λ z. pbft.after p z) told_is ∙ goes));
          entered_is = was.entered_is;
        }

    -- it states what the rules make
    states : (r : ℕ) (s : Content) → maker_of s ≡ Replica r → Contains (pbft.makes p e) s → Contains (makes (rule machine orders) backup_of_four r no_pen v (took m)) s
    states r s own has =
        let so : Contains (pbft.makes (orders.view v.order) (told orders v.order (took m))) s =
        subst (λ (z : Pbft). Contains (pbft.makes z (told orders v.order (took m))) s) (sym was.view_is) (subst (λ (z : Reading). Contains (pbft.makes p z) s) (sym told_is) has) in
        let w = obeys.stated no_pen v.order (took m) s so in
        let now = map answer_out (first_answers pbft handed machine (viewed orders v) (told orders v.order (took m))) in
        let later = map answer_out (later_answers pbft handed machine (viewed orders v) (told orders v.order (took m))) in
        Contains-flat_map (λ (o : Out). stated 1 (Replica r) o.msg) ((rule machine orders).sends no_pen v (took m)) w.0 s
        (Contains-append_right now (orders.sends no_pen v.order (took m) ++ later) w.0 (Contains-append_left (orders.sends no_pen v.order (took m)) later w.0 w.1))
        (Contains-filter (λ (t : Content). party_eq (maker_of t) (Replica r)) (fresh 1 (Replica r) w.0.msg) s (w.2 1 r) ((party_eq-Decides (maker_of s) (Replica r)).1 own))

  idle_in : (v : Backing P) (p : Pbft) → IsIn v p → pbft.ordered p ≡ [] → (pbft.first p ≡ None) ⊎ (pbft.first p ≡ Some []) → IsIdle ((rule machine orders).state v)
  idle_in v p is nothing first = record {
    entered = is.entered_is;
    logged = ap (λ z. pbft.ordered z) is.view_is ∙ nothing;
    first = elim first [ inl none ↦ inl (ap (λ z. pbft.first z) is.view_is ∙ none) | inr some ↦ inr (ap (λ z. pbft.first z) is.view_is ∙ some) ];
  }

  module _ (sig : List ℕ) where
    module _ (r q : ℕ) (pair : IsPair r q) where
      accepted_in : IsIn (once machine orders r (offers ∷ [])) (accepted r)
      accepted_in = next_in (once machine orders r []) (before r) offers base_offer (begun_in r) refl (accepted r) (accepts_base r q pair)

      voted_in : IsIn (once machine orders r (first_of machine orders sig)) (voted r)
      voted_in = next_in (once machine orders r (offers ∷ [])) (accepted r) (prepared_by sig 0) (prepare 0 0 0 empty_base) accepted_in refl (voted r) (votes_first r q pair)

      read_other : read small_cluster 1 (took (prepared_by sig q)) ≡ prepare q 0 0 empty_base
      read_other = of_pair r q pair
        where
          of_pair : (r q : ℕ) → IsPair r q → read small_cluster 1 (took (prepared_by sig q)) ≡ prepare q 0 0 empty_base
          of_pair _ _ one_two = refl
          of_pair _ _ two_one = refl

      ready_in : IsIn (once machine orders r (prepared_by sig q ∷ first_of machine orders sig)) (ready r q)
      ready_in = next_in (once machine orders r (first_of machine orders sig)) (voted r) (prepared_by sig q) (prepare q 0 0 empty_base) voted_in read_other (ready r q) (becomes_ready r q pair)

      -- its PREPARE, and its COMMIT
      signs_base : Contains (taken_by machine orders r offers []).made (content.Prepare (Replica r) 1 0 0 empty_base)
      signs_base =
          states (once machine orders r []) (before r) offers base_offer (begun_in r) refl r (content.Prepare (Replica r) 1 0 0 empty_base) refl
          (subst (λ (l : List Content). Contains l (content.Prepare (Replica r) 1 0 0 empty_base)) (sym (says_prepare r q pair)) (Contains-head _ []))

      commits_base : Contains (taken_by machine orders r (prepared_by sig q) (first_of machine orders sig)).made (content.Commit (Replica r) 1 0 0 empty_base)
      commits_base =
          states (once machine orders r (first_of machine orders sig)) (voted r) (prepared_by sig q) (prepare q 0 0 empty_base) voted_in read_other r (content.Commit (Replica r) 1 0 0 empty_base) refl
          (subst (λ (l : List Content). Contains l (content.Commit (Replica r) 1 0 0 empty_base)) (sym (says_commit r q pair)) (Contains-head _ []))

      empty_begun : AllEmpty (histories_of_act (begun_by machine orders r))
      empty_begun = state_empty _ (idle_in (once machine orders r []) (before r) (begun_in r) refl (inl refl))

      empty_accepted : AllEmpty (histories_of_act (taken_by machine orders r offers []))
      empty_accepted = state_empty _ (idle_in (once machine orders r (offers ∷ [])) (accepted r) accepted_in refl (inr refl))

      empty_voted : AllEmpty (histories_of_act (taken_by machine orders r (prepared_by sig 0) (offers ∷ [])))
      empty_voted = state_empty _ (idle_in (once machine orders r (first_of machine orders sig)) (voted r) voted_in refl (inr refl))

    empty_ready_1 : AllEmpty (histories_of_act (taken_by machine orders 1 (prepared_by sig 2) (first_of machine orders sig)))
    empty_ready_1 = state_empty _ (idle_in (once machine orders 1 (prepared_by sig 2 ∷ first_of machine orders sig)) (ready 1 2) (ready_in 1 2 one_two) refl (inr refl))

    empty_ready_2 : AllEmpty (histories_of_act (taken_by machine orders 2 (prepared_by sig 1) (first_of machine orders sig)))
    empty_ready_2 = state_empty _ (idle_in (once machine orders 2 (prepared_by sig 1 ∷ first_of machine orders sig)) (ready 2 1) (ready_in 2 1 two_one) refl (inr refl))

    all_empty : AllEmpty (histories (backup_acts machine orders sig))
    all_empty =
        let none : AllEmpty (histories []) = λ h has. absurd (Contains-none h has) in
        let b1 = more_empty (begun_by machine orders 1) [] (empty_begun 1 2 one_two) none in
        let b2 = more_empty (begun_by machine orders 2) (begun_by machine orders 1 ∷ []) (empty_begun 2 1 two_one) b1 in
        let o1 = more_empty (taken_by machine orders 1 offers []) (begun_by machine orders 2 ∷ begun_by machine orders 1 ∷ []) (empty_accepted 1 2 one_two) b2 in
        let o2 = more_empty (taken_by machine orders 2 offers []) (taken_by machine orders 1 offers [] ∷ begun_by machine orders 2 ∷ begun_by machine orders 1 ∷ []) (empty_accepted 2 1 two_one) o1 in
        let v1 = more_empty (taken_by machine orders 1 (prepared_by sig 0) (offers ∷ [])) (offered_acts machine orders) (empty_voted 1 2 one_two) o2 in
        let v2 = more_empty (taken_by machine orders 2 (prepared_by sig 0) (offers ∷ [])) (taken_by machine orders 1 (prepared_by sig 0) (offers ∷ []) ∷ offered_acts machine orders) (empty_voted 2 1 two_one) v1 in
        let r1 = more_empty (taken_by machine orders 1 (prepared_by sig 2) (first_of machine orders sig)) (primary_acts machine orders sig) empty_ready_1 v2 in
        more_empty (taken_by machine orders 2 (prepared_by sig 1) (first_of machine orders sig)) (taken_by machine orders 1 (prepared_by sig 2) (first_of machine orders sig) ∷ primary_acts machine orders sig) empty_ready_2 r1

    other_signed : (acts : List Act) (r q : ℕ) → IsPair r q → Contains acts (taken_by machine orders q offers []) → (c : Content) → Contains (content.Prepare (Replica q) 1 0 0 empty_base ∷ []) c → WasMade acts c
    other_signed acts r q pair is c has =
        subst (λ (z : Content). WasMade acts z) (Contains-one (content.Prepare (Replica q) 1 0 0 empty_base) c has) (taken_by machine orders q offers [], is, signs_base q r (turned r q pair))
      where
        turned : (r q : ℕ) → IsPair r q → IsPair q r
        turned _ _ one_two = two_one
        turned _ _ two_one = one_two

    pub premises_met : Premises backup_of_four (backup_acts machine orders sig)
    premises_met = record {
      few = omega arith;
      honest = (
        λ c has _. other_signed (taken_by machine orders 1 (prepared_by sig 2) (first_of machine orders sig) ∷ primary_acts machine orders sig) 2 1 two_one (4, omega arith, refl) c has,
        (
          λ c has _. other_signed (primary_acts machine orders sig) 1 2 one_two (2, omega arith, refl) c has,
          (
            λ c has ok. absurd (by_primary (content.Prepare (Replica 0) 1 0 0 empty_base) c refl has ok),
            (
              λ c has ok. absurd (by_primary (content.Prepare (Replica 0) 1 0 0 empty_base) c refl has ok),
              (
                λ c has ok. absurd (by_primary (content.PrePrepare (Replica 0) 1 0 0 empty_base) c refl has ok),
                (
                  λ c has ok. absurd (by_primary (content.PrePrepare (Replica 0) 1 0 0 empty_base) c refl has ok),
                  (λ c has _. absurd (Contains-none c has), (λ c has _. absurd (Contains-none c has), tt)),
                ),
              ),
            ),
          ),
        ),
      );
      apart = empty_apart (histories (backup_acts machine orders sig)) all_empty;
      slots = empty_slots (bases (backup_acts machine orders sig)) (λ h has. all_empty h (bases_are_histories (backup_acts machine orders sig) h has));
    }

    pub both_prepare : ArePrepared backup_of_four (backup_acts machine orders sig) 0 0 empty_base
    unfolding IsDistinct
    both_prepare = record {
      by = 1 ∷ 2 ∷ [];
      replicas = record { distinct = ((refl, tt), (tt, tt)); within = λ r has. (each r has).0.within };
      enough = omega arith;
      each = each;
    }
      where
        each : (r : ℕ) → Contains (1 ∷ 2 ∷ []) r → IsCorrect backup_of_four r × WasMade (backup_acts machine orders sig) (content.Commit (Replica r) 1 0 0 empty_base)
        each r has =
            elim (Contains-cons_cases 1 (2 ∷ []) r has) [
              | inl e ↦ subst (λ (z : ℕ). IsCorrect backup_of_four z × WasMade (backup_acts machine orders sig) (content.Commit (Replica z) 1 0 0 empty_base)) e
                  (record { within = omega arith; correct = refl }, (taken_by machine orders 1 (prepared_by sig 2) (first_of machine orders sig), (1, omega arith, refl), commits_base 1 2 one_two))
              | inr more ↦ subst (λ (z : ℕ). IsCorrect backup_of_four z × WasMade (backup_acts machine orders sig) (content.Commit (Replica z) 1 0 0 empty_base)) (Contains-one 2 r more)
                  (record { within = omega arith; correct = refl }, (taken_by machine orders 2 (prepared_by sig 1) (first_of machine orders sig), (0, omega arith, refl), commits_base 2 1 two_one))
            ]

    may_accept : (acts : List Act) (r q : ℕ) → IsPair r q → MayTake (rule machine orders) backup_of_four acts r no_pen (once machine orders r []) (took offers) []
    may_accept acts r q pair = record {
      formed = offers_formed;
      for = refl;
      noted = unmarked refl;
      settled = λ cert is. inr ([], ap (λ z. pbft.first z) (accepted_in r q pair).view_is, inl (refl, refl), rises);
    }

    may_count : (acts : List Act) (r q : ℕ) (v : Backing P) → q < 4 → IsSig sig → MayTake (rule machine orders) backup_of_four acts r no_pen v (took (prepared_by sig q)) []
    may_count acts r q v lt is = record { formed = prepared_formed sig q lt is; for = refl; noted = unmarked refl; settled = λ cert offer. absurd (none-some cert offer) }

    module _ (is_sig : IsSig sig) where
      pub own : (left : ℕ → Option (Backing P)) × AreOwnCalls (rule machine orders) backup_of_four (backup_acts machine orders sig) left
      own =
          let lt_0 : 0 < 4 = omega arith in
          let lt_1 : 1 < 4 = omega arith in
          let lt_2 : 2 < 4 = omega arith in
          let b1 = begins 1 (entry_of [] None) (omega arith) none_yet (record { within = lt_1; correct = refl; none = refl; rises = rises; nothing = λ _. refl }) in
          let b2 = begins 2 (entry_of [] None) (omega arith) b1 (record { within = lt_2; correct = refl; none = refl; rises = rises; nothing = λ _. refl }) in
          let o1 = takes 1 (once machine orders 1 []) no_pen (took offers) [] b2 refl (may_accept _ 1 2 one_two) in
          let o2 = takes 2 (once machine orders 2 []) no_pen (took offers) [] o1 refl (may_accept _ 2 1 two_one) in
          let p1 = takes 1 (once machine orders 1 (offers ∷ [])) no_pen (took (prepared_by sig 0)) [] o2 refl (may_count _ 1 0 _ lt_0 is_sig) in
          let p2 = takes 2 (once machine orders 2 (offers ∷ [])) no_pen (took (prepared_by sig 0)) [] p1 refl (may_count _ 2 0 _ lt_0 is_sig) in
          let c1 = takes 1 (once machine orders 1 (first_of machine orders sig)) no_pen (took (prepared_by sig 2)) [] p2 refl (may_count _ 1 2 _ lt_2 is_sig) in
          let c2 = takes 2 (once machine orders 2 (first_of machine orders sig)) no_pen (took (prepared_by sig 1)) [] c1 refl (may_count _ 2 1 _ lt_1 is_sig) in
          (_, c2)
