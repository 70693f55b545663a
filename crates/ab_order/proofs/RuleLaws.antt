-- A Backup over an orderer keeps to what a rule table has to.
use Rattle.std.proofs.Common.{◌≡◌, ℕ, ◌≤◌, Bool, true, false, Option, Some, None, List, [], ◌∷◌, ◌++◌, refl, sym, ap, ◌∙◌, subst, inl, inr, arith, map, length, take}
use Rattle.std.specs.Prelude.{Contains, IsTrue, flat_map, unwrap_or}
use Rattle.std.proofs.lemmas.List.{drop_all}
use mathlib.Core.List.{IsPrefix}
use Rattle.ab_num.specs.declared.cluster.Cluster.{Cluster}
use Rattle.ab_num.specs.declared.plan.Kind.{Kind}
use Rattle.ab_num.specs.declared.plan.Kind.TheVariants as kind
use Rattle.ab_num.specs.declared.party.Party.TheVariants.{Replica, Client}
use Rattle.ab_num.specs.Places.{kind_of}
use Rattle.ab_num.proofs.Lists.{Contains-head, flat_map_cases, Contains-none}
use Rattle.ab_hist.specs.declared.request.Request.{Request}
use Rattle.ab_hist.specs.Digests.{digest_of}
use Rattle.ab_svc.specs.Machines.{Machine}
use Rattle.ab_msg.specs.declared.content.Content.{Content}
use Rattle.ab_msg.specs.declared.content.Content.TheVariants.{Req, Order, Resp, ChainTag, Panic, Abort, PrePrepare, Prepare, Commit, ViewChange, NewView, Spec, LocalCommit}
use Rattle.ab_msg.specs.declared.message.Msg.{Msg}
use Rattle.ab_msg.specs.declared.message.Msg.TheVariants as msg
use Rattle.ab_msg.specs.declared.message.Out.{Out}
use Rattle.ab_msg.specs.Claims.{fresh}
use Rattle.ab_msg.specs.Pens.{Pen}
use Rattle.ab_abs.specs.Acts.{Setting, State, Act, setting}
use Rattle.ab_abs.specs.Kinds.{is_backup}
use Rattle.ab_abs.specs.OrderRules.{IsOrderAnswer}
use Rattle.ab_abs.specs.Messages.{Call, took, timed}
use Rattle.ab_abs.specs.Ensembles.{Proto}
use Rattle.ab_abs.specs.FormLaws.{Belongs}
use Rattle.ab_abs.specs.RuleLaws.{KeepsRules, IsLogged, IsBackedBy, log_at_start, speaks_of_call, may_take}
use Rattle.ab_abs.proofs.Prefixes.{prefix_length}
use Rattle.ab_abs.proofs.TableLemmas.{served, not_both, contains_at}
use Rattle.ab_order.specs.Inputs.{Reading, other, handed, Given}
use Rattle.ab_order.specs.Orders.{is_ordering}
use Rattle.ab_order.specs.Orderers.{Ordering, base_at, IsOrderly, IsLawfulOrderer}
use Rattle.ab_order.specs.Backups.{Backing, answer_of, asked_list, answers_by, executed_now, keep_asked, backup_state, backup_after, unless_stopped, first_answers, later_answers}
use Rattle.ab_order.specs.Readings.{read}
use Rattle.ab_order.specs.Protos.{OrderProto, Obeys, told, viewed, answer_out, backup}
use Rattle.ab_order.specs.Owned.{KeepsOwn}
use Rattle.ab_order.proofs.Answering.{answer_right, answer_later}
use Rattle.ab_order.proofs.ProtoLaws as laws
use Rattle.ab_order.proofs.Untold.{unspoken_untold}

-- what an orderer states says nothing of a log
ordering_backed : {S : Type 0} (machine : Machine S) (at : State) (s : Content) → is_ordering s ≡ true → IsBackedBy machine at s
ordering_backed machine at (Req maker i m) is = absurd (cc (is))
ordering_backed machine at (Order maker i n m) is = absurd (cc (is))
ordering_backed machine at (Resp maker i c stamp n d reply) is = absurd (cc (is))
ordering_backed machine at (ChainTag maker i c stamp n d) is = absurd (cc (is))
ordering_backed machine at (Spec maker i c stamp n d reply) is = absurd (cc (is))
ordering_backed machine at (LocalCommit maker i c stamp n d) is = absurd (cc (is))
ordering_backed machine at _ is = tt

-- what is an answer stands in the log
answer_backed : {S : Type 0} (machine : Machine S) (x : Setting) (acts : List Act) (claims : List Content) (at : State) (r : ℕ) (s : Content) → IsOrderAnswer machine x acts claims at r s → IsBackedBy machine at s
answer_backed machine x acts claims at r s is =
    let logged : IsLogged at is.m is.m.client is.m.stamp is.n (digest_of (take is.n at.log)) = record {
      asked_by = refl;
      stamped = refl;
      stands = contains_at (take is.n at.log) is.replied.before is.m is.replied.stands;
      digest = refl;
      above = is.above;
      reaches = is.reaches;
    } in
    subst (λ (z : Content). IsBackedBy machine at z) (sym is.says) (is.m, logged, is.replied)

unless_nothing : (b : Bool) → unless_stopped b [] ≡ []
unless_nothing true = refl
unless_nothing false = refl

unless_has : (b : Bool) (answers : List Content) (s : Content) → Contains (unless_stopped b answers) s → Contains answers s
unless_has true answers s has = absurd (Contains-none s has)
unless_has false answers s has = has

-- where the list stays nothing is executed
nothing_executed : (base : Option (List Request)) (log kept : List Request) → executed_now base base log log kept ≡ []
nothing_executed None log kept = refl
nothing_executed (Some h) log kept = drop_all (length log) log (omega arith)

-- the rules of a Backup speak of what its orderer takes
untaken_backup : (k : Kind) (stopped : Bool) (call : Call) → is_backup k ≡ true → may_take k stopped call ≡ false → speaks_of_call kind.Backup call ≡ false
untaken_backup kind.Quorum stopped call is shut = absurd (cc (is))
untaken_backup kind.ZLight stopped call is shut = absurd (cc (is))
untaken_backup kind.Chain stopped call is shut = absurd (cc (is))
untaken_backup kind.ZCert stopped call is shut = absurd (cc (is))
untaken_backup kind.Backup true call is shut = shut
untaken_backup kind.Backup false call is shut = shut

begins_empty : (k : Kind) (base : List Request) → is_backup k ≡ true → [] ≡ log_at_start k base
begins_empty kind.Quorum base is = absurd (cc (is))
begins_empty kind.ZLight base is = absurd (cc (is))
begins_empty kind.Chain base is = absurd (cc (is))
begins_empty kind.ZCert base is = absurd (cc (is))
begins_empty kind.Backup base is = refl

module _ {S P Q : Type 0} (machine : Machine S) (orders : OrderProto P Q) (proto : Ordering Q Reading) (obeys : Obeys orders proto) (orderly : IsOrderly handed proto)
    (order_sound : Setting → ℕ → List Act → Type 0) (order_stands : Setting → ℕ → Q → ℕ → List Act → Type 0) (law : IsLawfulOrderer handed proto Given order_sound order_stands) (own : KeepsOwn orders proto) where
  abbrev rule : Proto (Backing P)
  rule = backup orders proto machine

  abbrev Backed : Backing Q → Content → Type 0
  Backed w s = IsBackedBy machine (backup_state proto w) s

  -- the base is no longer than the list
  fits : (q : Q) → length (base_at proto q) ≤ length (proto.ordered q)
  fits q = by_base (proto.base q) refl
    where
      by_base : (base : Option (List Request)) → proto.base q ≡ base → length (base_at proto q) ≤ length (proto.ordered q)
      by_base None is = rw is (omega arith)
      by_base (Some h) is = rw is (prefix_length h (proto.ordered q) (orderly.begins q h is))

  -- an answer by the list of a value, whatever the cluster
  record IsRight (c : Cluster) (w : Backing Q) (s : Content) : Type 0 where
    claims : List Content
    answer : IsOrderAnswer machine (setting c [] w.instance) [] claims (backup_state proto w) w.me s

  right_of : (c : Cluster) (w : Backing Q) (m : Request) (s : Content) → Contains (answer_of machine w.instance w.me (length (base_at proto w.order)) (proto.ordered w.order) m) s → IsRight c w s
  right_of c w m s has =
      let asked = Req (Client m.client) w.instance m in
      record {
        claims = asked ∷ [];
        answer = answer_right machine (setting c [] w.instance) [] (asked ∷ []) w.instance w.me (backup_state proto w) m s refl (fits w.order) (inl (Contains-head asked [])) has;
      }

  right_backed : (c : Cluster) (w : Backing Q) (s : Content) → IsRight c w s → Backed w s
  right_backed c w s is = answer_backed machine (setting c [] w.instance) [] is.claims (backup_state proto w) w.me s is.answer

  -- what it answers at once stays right as its list grows
  first_backed : (c : Cluster) (w : Backing Q) (e : Reading) (s : Content) → Contains (first_answers proto handed machine w e) s → Backed (backup_after proto handed w e) s
  first_backed c w e s has = by_base (proto.base w.order) refl
    where
      asker : (m : Request) × Contains (asked_list (handed.asked e)) m × Contains (answer_of machine w.instance w.me (length (base_at proto w.order)) (proto.ordered w.order) m) s
      asker = flat_map_cases (answer_of machine w.instance w.me (length (base_at proto w.order)) (proto.ordered w.order)) (asked_list (handed.asked e)) s (unless_has (backup_state proto w).stopped _ s has)

      by_base : (base : Option (List Request)) → proto.base w.order ≡ base → Backed (backup_after proto handed w e) s
      by_base None is =
          let none : Contains (answer_of machine w.instance w.me (length (base_at proto w.order)) [] asker.0) s =
          subst (λ (log : List Request). Contains (answer_of machine w.instance w.me (length (base_at proto w.order)) log asker.0) s) (orderly.empty w.order is) asker.2 in
          absurd (Contains-none s none)
      by_base (Some h) is =
          let old = right_of c w asker.0 s asker.2 in
          let stays : base_at proto (proto.after w.order e) ≡ base_at proto w.order = ap (λ (o : Option (List Request)). unwrap_or o []) (orderly.keeps w.order e h is ∙ sym is) in
          right_backed c (backup_after proto handed w e) s (record {
            claims = old.claims;
            answer = answer_later machine (setting c [] w.instance) [] old.claims w.me (backup_state proto w) (backup_state proto (backup_after proto handed w e)) s stays (orderly.grows w.order e) old.answer;
          })

  later_backed : (c : Cluster) (w : Backing Q) (e : Reading) (s : Content) → Contains (later_answers proto handed machine w e) s → Backed (backup_after proto handed w e) s
  later_backed c w e s has =
      let new = backup_after proto handed w e in
      let a = flat_map_cases (answer_of machine new.instance new.me (length (base_at proto new.order)) (proto.ordered new.order)) _ s (unless_has (backup_state proto w).stopped _ s has) in
      right_backed c new s (right_of c new a.0 s a.2)

  answers_law : (c : Cluster) (r : ℕ) (pen : Pen) (v : Backing P) (call : Call) (o : Out) (s : Content) → Contains (rule.sends pen v call) o → Contains (fresh c.f (Replica r) o.msg) s
      → IsBackedBy machine (rule.state (rule.after pen v call)) s
  answers_law c r pen v call o s sent has =
      let e = told orders v.order call in
      let w = viewed orders v in
      subst (λ (new : Backing Q). Backed new s) (laws.goes_so machine orders proto obeys orderly order_sound order_stands law pen v call)
      (elim (laws.made_in machine orders proto obeys orderly order_sound order_stands law v r pen call c.f o s sent has) [
        | inl its ↦ ordering_backed machine (backup_state proto (backup_after proto handed w e)) s (orderly.orders w.order e s its).2
        | inr answer ↦ elim answer [ inl now ↦ first_backed c w e s now | inr later ↦ later_backed c w e s later ]
      ])

  -- a call that tells its orderer nothing
  after_nothing : (pen : Pen) (v : Backing P) (call : Call) → told orders v.order call ≡ other → rule.after pen v call ≡ v
  after_nothing pen v call nothing =
      let told_so : Reading → Backing P = λ e. record { instance = v.instance; me = v.me; k = v.k; entered = v.entered; trimmed = v.trimmed; kept = keep_asked (handed.asked e) v.kept; order = orders.after pen v.order call } in
      let ordered_so : P → Backing P = λ q. record { instance = v.instance; me = v.me; k = v.k; entered = v.entered; trimmed = v.trimmed; kept = v.kept; order = q } in
      ap told_so nothing ∙ ap ordered_so (own.ignores pen v.order call nothing).0

  -- leaves its list as it was
  stays_after : (pen : Pen) (v : Backing P) (call : Call) → told orders v.order call ≡ other → proto.after (orders.view v.order) other ≡ orders.view v.order
  stays_after pen v call nothing =
      ap (λ (e : Reading). proto.after (orders.view v.order) e) (sym nothing) ∙ (sym (obeys.goes_on pen v.order call) ∙ ap orders.view (own.ignores pen v.order call nothing).0)

  no_first : (w : Backing Q) → first_answers proto handed machine w other ≡ []
  no_first w = unless_nothing (backup_state proto w).stopped

  no_later : (w : Backing Q) → proto.after w.order other ≡ w.order → later_answers proto handed machine w other ≡ []
  no_later w stays =
      let Answers : Q → List Content = λ q.
      unless_stopped (backup_state proto w).stopped
      (flat_map (answer_of machine w.instance w.me (length (base_at proto q)) (proto.ordered q)) (executed_now (proto.base w.order) (proto.base q) (proto.ordered w.order) (proto.ordered q) w.kept)) in
      ap Answers stays
      ∙ (ap (λ (ms : List Request). unless_stopped (backup_state proto w).stopped (flat_map (answer_of machine w.instance w.me (length (base_at proto w.order)) (proto.ordered w.order)) ms))
      (nothing_executed (proto.base w.order) (proto.ordered w.order) w.kept)
      ∙ unless_nothing (backup_state proto w).stopped)

  sends_nothing : (pen : Pen) (v : Backing P) (call : Call) → told orders v.order call ≡ other → rule.sends pen v call ≡ []
  sends_nothing pen v call nothing =
      let w = viewed orders v in
      ap (λ (e : Reading). map answer_out (first_answers proto handed machine w e) ++ (orders.sends pen v.order call ++ map answer_out (later_answers proto handed machine w e))) nothing
      ∙ (ap (λ (l : List Content). map answer_out l ++ (orders.sends pen v.order call ++ map answer_out (later_answers proto handed machine w other))) (no_first w)
      ∙ (ap (λ (outs : List Out). [] ++ (outs ++ map answer_out (later_answers proto handed machine w other))) (own.ignores pen v.order call nothing).1
      ∙ ap (λ (l : List Content). [] ++ ([] ++ map answer_out l)) (no_later w (stays_after pen v call nothing))))

  -- its kind is Backup
  kind_law : (c : Cluster) (i r : ℕ) (v : Backing P) → Belongs rule is_backup c i r v → is_backup (kind_of c.plan i) ≡ true
  kind_law c i r v was = served rule is_backup c i r v was

  untold : (c : Cluster) (i r : ℕ) (v : Backing P) (call : Call) → Belongs rule is_backup c i r v → may_take (kind_of c.plan i) (rule.state v).stopped call ≡ false → told orders v.order call ≡ other
  untold c i r v call was shut =
      unspoken_untold (orders.cluster v.order) (orders.instance v.order) call (untaken_backup (kind_of c.plan i) (rule.state v).stopped call (kind_law c i r v was) shut)

  pub rule_law : KeepsRules machine rule is_backup
  rule_law = record {
    answers = λ c i r pen v call o s was. answers_law c r pen v call o s;
    ignores = λ c i r pen v call was shut.
        let nothing = untold c i r v call was shut in (after_nothing pen v call nothing, sends_nothing pen v call nothing, (own.ignores pen v.order call nothing).2);
    begins = λ c i r e is.
        (laws.begins_blank machine orders proto obeys orderly order_sound order_stands law c i r e).0 ∙ begins_empty (kind_of c.plan i) e.base is;
    stops = λ c i r v was other_kind. not_both (kind_of c.plan i) other_kind (kind_law c i r v was);
    rests = λ c i r v was is. refl;
    keeps_none = λ c i r v was other_kind. refl;
  }
