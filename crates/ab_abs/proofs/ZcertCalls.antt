-- What lawful acts leave and state where replicas sign their answers and keep certificates of them.
use Rattle.std.proofs.Common.{◌≡◌, ℕ, ◌≤◌, true, false, Option, Some, List, [], ◌∷◌, ◌⊎◌, length, take, refl, sym, ap, ◌∙◌, subst, inl, inr, arith}
use Rattle.std.specs.Prelude.{Contains, IsTrue}
use Rattle.std.proofs.lemmas.Bool.{cases_Bool}
use Rattle.std.proofs.lemmas.List.Elements.{Contains-append_right}
use Rattle.ab_hist.specs.declared.request.Request.{Request}
use Rattle.ab_hist.specs.Digests.{digest_of}
use Rattle.ab_num.specs.declared.party.Party.TheVariants.{Replica, Client}
use Rattle.ab_num.proofs.Lists.{Contains-none}
use Rattle.ab_svc.specs.Machines.{Machine, Reply, IsReply}
use Rattle.ab_msg.specs.declared.content.Content.{Content}
use Rattle.ab_msg.specs.declared.content.Content.TheVariants.{Req, Abort, Spec, LocalCommit, AbortZ}
use Rattle.ab_msg.specs.declared.zcert.Zcert.{Zcert}
use Rattle.ab_abs.specs.declared.seen.Seen.TheVariants.{Invoked}
use Rattle.ab_abs.specs.declared.rule.ReplyRule.TheVariants as rules
use Rattle.ab_abs.specs.Faults.{is_faulty}
use Rattle.ab_abs.specs.Instances.{IsAccounted}
use Rattle.ab_abs.specs.Acts.{Setting, State, Act, observations, state_of, log_at, base_at, zcert_at, log_of, base_of, zcert_of, WasMade, IsHonest}
use Rattle.ab_abs.specs.Rules.{is_inner}
use Rattle.ab_abs.specs.Lawful.{BeginsThere}
use Rattle.ab_abs.specs.ZcertRules.{KeepsUpTo, IsSpec, IsLocalCommit, ZcertCalls, AreZcertLawful}
use Rattle.ab_abs.proofs.Prefixes.{prefix_length}
use Rattle.ab_abs.proofs.Facts.{init_first}
use Rattle.ab_abs.proofs.Statements.{take-prefix, spec_parts, local_parts, claimed}
use Rattle.ab_abs.proofs.Following.{AreKeeping, IsLater, later_itself, later_further, stays, begins, goes_on, moves, IsCalled, called, req_invoked, kept_abort_made}
use Rattle.ab_abs.proofs.Rooted.{IsRooted, IsBegun, rooted}
use Rattle.ab_abs.proofs.AllVotes.{IsVoted, accounted_later}

-- a replica that was at s is at t
pub record IsZcertLater (s t : State) : Type 0 where
  pub later : IsLater s t
  pub keeps : (n : ℕ) → KeepsUpTo n s.zcert → KeepsUpTo n t.zcert
  pub rests : s.stopped ≡ true → t.zcert ≡ s.zcert

zcert_further : (s t u : State) → IsZcertLater s t → IsZcertLater t u → IsZcertLater s u
zcert_further s t u one two = record {
  later = later_further s t u one.later two.later;
  keeps = λ n is. two.keeps n (one.keeps n is);
  rests = λ halt. two.rests (one.later.halted halt).1 ∙ one.rests halt;
}

module _ {S : Type 0} (machine : Machine S) (x : Setting) where
  abbrev IsStated : List Content → State → ℕ → Content → Type 0
  IsStated claims at r s = IsTrue (is_inner s) ⊎ (IsSpec machine x claims at r s ⊎ IsLocalCommit x at r s)

  no_request : (claims : List Content) (at : State) (r j c : ℕ) (m : Request) → IsStated claims at r (Req (Client c) j m) → ⊥
  no_request claims at r j c m (inl e) = cc (e)
  no_request claims at r j c m (inr (inl a)) = cc (a.says)
  no_request claims at r j c m (inr (inr a)) = cc (a.says)

  no_abort : (claims : List Content) (at : State) (r j q : ℕ) (h : List Request) → IsStated claims at r (Abort (Replica q) j h) → ⊥
  no_abort claims at r j q h (inl e) = cc (e)
  no_abort claims at r j q h (inr (inl a)) = cc (a.says)
  no_abort claims at r j q h (inr (inr a)) = cc (a.says)

  no_kept_abort : (claims : List Content) (at : State) (r j q : ℕ) (h : List Request) (z : Option Zcert) → IsStated claims at r (AbortZ (Replica q) j h z) → ⊥
  no_kept_abort claims at r j q h z (inl e) = cc (e)
  no_kept_abort claims at r j q h z (inr (inl a)) = cc (a.says)
  no_kept_abort claims at r j q h z (inr (inr a)) = cc (a.says)

  pub zcert_keeping : AreKeeping (ZcertCalls machine x) IsZcertLater
  zcert_keeping = record {
    itself = λ s. record { later = later_itself s; keeps = λ n is. is; rests = λ halt. refl };
    further = zcert_further;
    halts = λ s t later. later.later.halted;
    goes = λ acts claims made r old new is. record { later = record { based = is.based; grown = is.grows; halted = is.frozen }; keeps = is.keeps; rests = is.rests };
    no_request = λ acts claims made r old new is j c m has. no_request claims new r j c m (is.states (Req (Client c) j m) has);
    no_abort = λ acts claims made r old new is j q h has. no_abort claims new r j q h (is.states (Abort (Replica q) j h) has);
    no_kept_abort = λ acts claims made r old new is j q h z has. no_kept_abort claims new r j q h z (is.states (AbortZ (Replica q) j h z) has);
  }

  plain_keeping : AreKeeping (ZcertCalls machine x) IsLater
  plain_keeping = record {
    itself = later_itself;
    further = later_further;
    halts = λ s t later. later.halted;
    goes = λ acts claims made r old new is. record { based = is.based; grown = is.grows; halted = is.frozen };
    no_request = zcert_keeping.no_request;
    no_abort = zcert_keeping.no_abort;
    no_kept_abort = zcert_keeping.no_kept_abort;
  }

  pub zcert_rooted : 1 ≤ x.i → (acts : List Act) → AreZcertLawful machine x acts → (r : ℕ) → IsBegun acts r → IsRooted x acts r
  zcert_rooted one acts lawful r begun = rooted rules.Certified x (ZcertCalls machine x) plain_keeping (λ acts' claims made q old new is. is.rises) one acts lawful r begun

  abbrev IsCalledFor : List Act → Content → Type 0
  IsCalledFor acts s = IsCalled rules.Certified x BeginsThere (ZcertCalls machine x) IsZcertLater zcert_keeping acts s

  -- ---- signed answers

  spec_in : (claims : List Content) (here : State) (q j r c stamp n : ℕ) (d : List ℕ) (reply : Reply) → IsStated claims here q (Spec (Replica r) j c stamp n d reply) → IsSpec machine x claims here q (Spec (Replica r) j c stamp n d reply)
  spec_in claims here q j r c stamp n d reply (inl e) = absurd (cc (e))
  spec_in claims here q j r c stamp n d reply (inr (inl a)) = a
  spec_in claims here q j r c stamp n d reply (inr (inr a)) = absurd (cc (a.says))

  -- a signed answer says of the log what an answer says
  pub spec_made : (acts : List Act) → AreZcertLawful machine x acts → IsHonest x acts → (j r c stamp n : ℕ) (d : List ℕ) (reply : Reply)
      → WasMade acts (Spec (Replica r) j c stamp n d reply) → IsVoted machine x acts r c stamp n d reply
  spec_made acts lawful honest j r c stamp n d reply made =
      let s : Content = Spec (Replica r) j c stamp n d reply in
      let w : IsCalledFor acts s = called rules.Certified x BeginsThere (ZcertCalls machine x) IsZcertLater zcert_keeping acts lawful s (λ i e m is. cc (is)) (λ i e is. cc (is)) (λ i q h is. cc (is)) made in
      let ans = spec_in w.of_call.claims w.of_call.new w.of_call.r j r c stamp n d reply (w.of_call.calls.states s w.of_call.has) in
      let then' = w.of_call.new in
      let now = w.after.now in
      let later = w.after.later.later in
      let parts = spec_parts r w.of_call.r j x.i c ans.m.client stamp ans.m.stamp n ans.n d (digest_of (take ans.n then'.log)) reply ans.reply ans.says in
      let here = parts.0 in
      let is_now = subst (λ (q : ℕ). state_of acts q ≡ Some now) here w.after.is_now in
      let log_is : log_of acts r ≡ now.log = ap log_at is_now in
      let base_is : base_of acts r ≡ then'.base = ap base_at is_now ∙ later.based in
      let n_is = parts.3 in
      let d_is = parts.4 in
      let reply_is = parts.5 in
      let client_is = parts.1 in
      let front : take n (log_of acts r) ≡ take ans.n then'.log =
      ap (λ k. take k (log_of acts r)) n_is ∙ (ap (λ h. take ans.n h) log_is ∙ take-prefix ans.n then'.log now.log later.grown ans.reaches) in
      let longer : length then'.log ≤ length now.log = prefix_length then'.log now.log later.grown in
      record {
        m = ans.m;
        client_is = client_is;
        stamp_is = parts.2;
        begun = (now, is_now);
        replied = subst (λ (h : List Request). IsReply machine h ans.m reply) (sym front) (subst (λ (y : Reply). IsReply machine (take ans.n then'.log) ans.m y) reply_is ans.replied);
        digest = ap digest_of front ∙ sym d_is;
        above = omega (arith, ap length base_is, n_is, ans.above);
        reaches = omega (arith, n_is, ans.reaches, longer, ap length log_is);
        asked = λ correct.
            let named : is_faulty x.faulty (Client ans.m.client) ≡ false = rw client_is correct in
            let claim = subst (λ (a : Act). Contains a.claims (Req (Client ans.m.client) x.i ans.m)) (sym w.of_call.is) ans.asked in
            rw client_is at (req_invoked rules.Certified x BeginsThere (ZcertCalls machine x) IsZcertLater zcert_keeping acts lawful x.i ans.m.client ans.m (claimed machine x acts honest w.act w.is_in (Req (Client ans.m.client) x.i ans.m) claim named));
      }

  -- ---- what replicas keep

  local_in : (claims : List Content) (here : State) (q j r c stamp n : ℕ) (d : List ℕ) → IsStated claims here q (LocalCommit (Replica r) j c stamp n d) → IsLocalCommit x here q (LocalCommit (Replica r) j c stamp n d)
  local_in claims here q j r c stamp n d (inl e) = absurd (cc (e))
  local_in claims here q j r c stamp n d (inr (inl a)) = absurd (cc (a.says))
  local_in claims here q j r c stamp n d (inr (inr a)) = a

  -- a replica that told that it keeps a certificate keeps one of that number or a higher one
  pub local_made : (acts : List Act) → AreZcertLawful machine x acts → (j r c stamp n : ℕ) (d : List ℕ) → WasMade acts (LocalCommit (Replica r) j c stamp n d) → KeepsUpTo n (zcert_of acts r)
  local_made acts lawful j r c stamp n d made =
      let s : Content = LocalCommit (Replica r) j c stamp n d in
      let w : IsCalledFor acts s = called rules.Certified x BeginsThere (ZcertCalls machine x) IsZcertLater zcert_keeping acts lawful s (λ i e m is. cc (is)) (λ i e is. cc (is)) (λ i q h is. cc (is)) made in
      let a = local_in w.of_call.claims w.of_call.new w.of_call.r j r c stamp n d (w.of_call.calls.states s w.of_call.has) in
      let now = w.after.now in
      let parts = local_parts r w.of_call.r j x.i c a.c stamp a.stamp n a.n d (digest_of (take a.n w.of_call.new.log)) a.says in
      let here = parts.0 in
      let n_is = parts.1 in
      let zcert_is : zcert_of acts r ≡ now.zcert = ap zcert_at (subst (λ (q : ℕ). state_of acts q ≡ Some now) here w.after.is_now) in
      let kept = w.after.later.keeps a.n a.keeps in
      subst (λ (z : Option Zcert). KeepsUpTo n z) (sym zcert_is) (subst (λ (k : ℕ). KeepsUpTo k now.zcert) n_is kept)

  -- the ABORT of a correct replica holds its log, and the certificate that it keeps
  pub record IsLast (acts : List Act) (r : ℕ) (h : List Request) (z : Option Zcert) : Type 0 where
    pub begun : IsBegun acts r
    pub log_is : h ≡ log_of acts r
    pub zcert_is : z ≡ zcert_of acts r

  pub abort_is_last : (acts : List Act) → AreZcertLawful machine x acts → (j r : ℕ) (h : List Request) (z : Option Zcert) → WasMade acts (AbortZ (Replica r) j h z) → IsLast acts r h z
  abort_is_last acts lawful j r h z made =
      let found = kept_abort_made rules.Certified x BeginsThere (ZcertCalls machine x) IsZcertLater zcert_keeping acts lawful j r h z made in
      let now = found.after.now in
      record {
        begun = (now, found.after.is_now);
        log_is = found.log_is ∙ (sym (found.after.later.later.halted found.stopped).0 ∙ sym (ap log_at found.after.is_now));
        zcert_is = found.zcert_is ∙ (sym (found.after.later.rests found.stopped) ∙ sym (ap zcert_at found.after.is_now));
      }

  -- ---- each entry of a log is accounted for

  pub zcert_accounted : 1 ≤ x.i → (acts : List Act) → AreZcertLawful machine x acts → IsHonest x acts → (r : ℕ) (m : Request) → Contains (log_of acts r) m → IsAccounted (observations acts) x.faulty x.i m
  zcert_accounted one [] lawful honest r m has = absurd (Contains-none m has)
  zcert_accounted one (b ∷ acts) lawful honest r m has =
      elim (moves rules.Certified x BeginsThere (ZcertCalls machine x) IsZcertLater zcert_keeping acts b lawful.0 r) [
        | stays same ↦ accounted_later machine x b acts m (zcert_accounted one acts lawful.2 honest.1 r m (subst (λ (h : List Request). Contains h m) (ap log_at same) has))
        | begins base t none rises nothing there is now ↦
            inr (inr (base, init_first x acts b r base t one nothing is, subst (λ (h : List Request). Contains h m) (ap log_at now ∙ there.logged) has))
        | goes_on claims values made seen old new before c noted is now ↦
            elim (c.added m (subst (λ (h : List Request). Contains h m) (ap log_at now) has)) [
              | inl older ↦ accounted_later machine x b acts m (zcert_accounted one acts lawful.2 honest.1 r m (subst (λ (h : List Request). Contains h m) (sym (ap log_at before)) older))
              | inr asked ↦
                  elim (cases_Bool (is_faulty x.faulty (Client m.client))) [
                    | inl faulty ↦ inl faulty
                    | inr correct ↦
                        let asked' : Contains b.claims (Req (Client m.client) x.i m) = subst (λ (ss : List Content). Contains ss (Req (Client m.client) x.i m)) (sym (ap (λ a. a.claims) is)) asked in
                        inr (inl (Contains-append_right b.observations (observations acts) (Invoked x.i m.client m) (req_invoked rules.Certified x BeginsThere (ZcertCalls machine x) IsZcertLater zcert_keeping acts lawful.2 x.i m.client m (honest.0 (Req (Client m.client) x.i m) asked' correct))))
                  ]
            ]
      ]
