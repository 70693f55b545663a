-- The lists in the ABORTs that a correct client keeps were checked.
use Rattle.std.proofs.Common.{◌≡◌, ◌≢◌, ℕ, ◌+◌, Bool, true, false, Option, Some, None, List, [], ◌∷◌, map, refl, sym, ap, ◌∙◌, subst, inl, inr}
use Rattle.std.specs.Prelude.{Contains, ◌==◌, ◌&&◌, nat_le, nat_lt, if◌then◌else◌, flat_map}
use Rattle.std.specs.List.{list_any}
use Rattle.std.proofs.lemmas.Bool.{eqb-true}
use Rattle.std.proofs.lemmas.List.Elements.{Contains-append_left, Contains-append_right}
use Rattle.arrayvec.specs.ArrayVec.{ArrayVec}
use Rattle.ab_num.specs.declared.plan.Kind.{Kind}
use Rattle.ab_num.specs.declared.plan.Kind.TheVariants as kind
use Rattle.ab_num.specs.declared.party.Party.{Party}
use Rattle.ab_num.specs.declared.party.Party.TheVariants.{Replica, Client}
use Rattle.ab_num.proofs.Lists.{Contains-none, Contains-head, Contains-tail, Contains-cons_cases, Contains-flat_map}
use Rattle.ab_hist.specs.declared.request.Request.{Request}
use Rattle.ab_hist.specs.Trimmed.{Trimmed}
use Rattle.ab_svc.specs.Machines.{Reply}
use Rattle.ab_msg.specs.declared.content.Content.{Content}
use Rattle.ab_msg.specs.declared.content.Content.TheVariants.{Resp, Spec}
use Rattle.ab_msg.specs.declared.signed.Signed.{Signed}
use Rattle.ab_msg.specs.declared.zcert.Zcert.{Zcert}
use Rattle.ab_msg.specs.declared.message.Msg.{Msg}
use Rattle.ab_msg.specs.declared.message.Msg.TheVariants as msg
use Rattle.ab_msg.specs.Claims.{claims, kept_claims, tail_claims}
use Rattle.ab_abs.specs.declared.ballot.Ballot.{Ballot}
use Rattle.ab_abs.specs.Faults.{is_faulty}
use Rattle.ab_abs.specs.Kinds.{rule_in, counts_responses, is_zcert}
use Rattle.ab_abs.specs.Votes.{has_voted, is_full_by}
use Rattle.ab_abs.specs.Ensembles.{Proto}
use Rattle.ab_abs.specs.Messages.{took, timed}
use Rattle.ab_stable.specs.Offers.{list_in}
use Rattle.ab_run.specs.Setups.{RunSetup, within, replicas, last_instance}
use Rattle.ab_run.specs.Replicas.{RepAction, cert_instance, turns}
use Rattle.ab_run.specs.Asking.{teller, is_told_full, told_claims}
use Rattle.ab_run.specs.declared.phase.Phase.{Phase}
use Rattle.ab_run.specs.declared.phase.Phase.TheVariants.{Idle, Waiting, Panicking}
use Rattle.ab_run.specs.Clients.{Cli, CliAction, move_ask, move_vote, move_commit, move_keep, move_take, move_panic, move_again, move_spec, move_cert, move_told, after_move, vote_claim, spec_claim, own_cert, hears_tail, if_open, counts_chains, certifying, panics_in, asking, is_abort_of, kind_at, taking_with, taking, counting_by, counting, counting_spec, keeping, hears_response, hears_spec, telling_by, telling, hears, moves, cert_due, panics}
use Rattle.ab_run.specs.Runs.{Event, invoke, to_replica, to_client, replica_time, client_time, Run, stated_list, lists_for, checks, take_turn, take_turns, take_move, take_moves, at_replica, at_client, step, run}
use Rattle.ab_run.proofs.Did.{if_each}
use Rattle.ab_run.proofs.Moves.{keep_cases}

module _ (lists : List Trimmed) where
  -- the list that a content states is one of these
  abbrev IsListed : Content → Type 0
  IsListed s = (l : Trimmed) → Contains (stated_list s) l → Contains lists l

  abbrev AreListed : List Signed → Type 0
  AreListed kept = (u : Signed) → Contains kept u → IsListed u.content

  -- so is that of each ABORT that these moves keep
  abbrev KeepListed : List CliAction → Type 0
  KeepListed ts = (u : Signed) → Contains ts (move_keep u) → IsListed u.content

  no_move : KeepListed []
  no_move u none = absurd (Contains-none (move_keep u) none)

  with_move : (t : CliAction) (ts : List CliAction) → ((u : Signed) → t ≡ move_keep u → IsListed u.content) → KeepListed ts → KeepListed (t ∷ ts)
  with_move t ts first more u has = elim (Contains-cons_cases t ts (move_keep u) has) [ inl e ↦ first u e | inr later ↦ more u later ]

  -- a move that keeps nothing
  with_other : (t : CliAction) (ts : List CliAction) → ((u : Signed) → t ≢ move_keep u) → KeepListed ts → KeepListed (t ∷ ts)
  with_other t ts other more = with_move t ts (λ u e. absurd (other u e)) more

  one_move : (t : CliAction) → ((u : Signed) → t ≢ move_keep u) → KeepListed (t ∷ [])
  one_move t other = with_other t [] other no_move

  open_listed : (phase : Phase) (last : Option Request) (f : Bool → Request → List CliAction) → ((waits : Bool) (m : Request) → KeepListed (f waits m)) → KeepListed (if_open phase last f)
  open_listed Idle last f each = no_move
  open_listed Waiting None f each = no_move
  open_listed Waiting (Some m) f each = each true m
  open_listed Panicking None f each = no_move
  open_listed Panicking (Some m) f each = each false m

  asking_listed : (c : ℕ) (s : Cli) (phase : Phase) (command : ArrayVec ℕ) → KeepListed (asking c s phase command)
  asking_listed c s Idle command = one_move (move_ask (record { client = c; stamp = s.stamp + 1; command = command })) (λ u e. cc (e))
  asking_listed c s Waiting command = no_move
  asking_listed c s Panicking command = no_move

  certifying_listed : (made : Option Zcert) → KeepListed (certifying made)
  certifying_listed None = one_move move_panic (λ u e. cc (e))
  certifying_listed (Some z) = one_move (move_cert z) (λ u e. cc (e))

  panics_in_listed : (kd : Kind) (waits : Bool) (m : Request) (made : Option Zcert) → KeepListed (panics_in kd waits m made)
  panics_in_listed kind.Quorum waits m made = one_move move_panic (λ u e. cc (e))
  panics_in_listed kind.ZLight waits m made = one_move move_panic (λ u e. cc (e))
  panics_in_listed kind.Chain waits m made = one_move move_panic (λ u e. cc (e))
  panics_in_listed kind.Backup waits m made = if_each KeepListed waits (move_again m ∷ []) [] (λ _. one_move (move_again m) (λ u e. cc (e))) (λ _. no_move)
  panics_in_listed kind.ZCert waits m made = if_each KeepListed waits (certifying made) (move_panic ∷ []) (λ _. certifying_listed made) (λ _. one_move move_panic (λ u e. cc (e)))

  tail_listed : (m : Request) (n : ℕ) (d : List ℕ) (reply : Option Reply) (said : List Content) → KeepListed (hears_tail m n d reply said)
  tail_listed m n d None said = no_move
  tail_listed m n d (Some reply) said = one_move (move_commit m n d reply said) (λ u e. cc (e))

  module _ (k : RunSetup) where
    taking_listed : (s : Cli) (m : Request) (j : ℕ) (cert : List Signed) (o : Option Trimmed) → KeepListed (taking_with k s m j cert o)
    taking_listed s m j cert None = no_move
    taking_listed s m j cert (Some t) =
        if_each KeepListed (nat_le s.at j && nat_lt j last_instance) (move_take j cert t m ∷ []) [] (λ _. one_move (move_take j cert t m) (λ u e. cc (e))) (λ _. no_move)

    counting_listed : (claim : Ballot → Content) (t : CliAction) (s : Cli) (m : Request) (b : Ballot) → ((u : Signed) → t ≢ move_keep u) → KeepListed (counting_by k claim t s m b)
    counting_listed claim t s m b other =
        let full = is_full_by (rule_in (within k s.at)) (replicas k) (b ∷ s.votes) b in
        let commit : CliAction = move_commit m b.n b.d b.reply (map claim (b ∷ s.votes)) in
        let more = if full then commit ∷ [] else [] in
        if_each KeepListed (nat_lt b.by (replicas k)) (if has_voted s.votes b.by then [] else t ∷ more) []
        (λ _. if_each KeepListed (has_voted s.votes b.by) [] (t ∷ more) (λ _. no_move)
        (λ _. with_other t more other (if_each KeepListed full (commit ∷ []) [] (λ _. one_move commit (λ u e. cc (e))) (λ _. no_move))))
        (λ _. no_move)

    response_listed : (c : ℕ) (s : Cli) (waits : Bool) (m : Request) (content : Content) → KeepListed (hears_response k c s waits m content)
    response_listed c s waits m (Resp (Replica r) i d' stamp n d reply) =
        let b : Ballot = record { by = r; n = n; d = d; reply = reply } in
        if_each KeepListed ((waits && counts_responses (kind_at k s)) && ((i == s.at) && ((d' == c) && (stamp == s.stamp)))) (counting k c s m b) []
        (λ _. counting_listed (vote_claim s.at c m.stamp) (move_vote b) s m b (λ u e. cc (e))) (λ _. no_move)
    response_listed c s waits m _ = no_move

    spec_listed : (c : ℕ) (s : Cli) (waits : Bool) (m : Request) (content : Content) (sig : List ℕ) → KeepListed (hears_spec k c s waits m content sig)
    spec_listed c s waits m (Spec (Replica r) i d' stamp n d reply) sig =
        let b : Ballot = record { by = r; n = n; d = d; reply = reply } in
        if_each KeepListed ((waits && is_zcert (kind_at k s)) && ((i == s.at) && ((d' == c) && (stamp == s.stamp)))) (counting_spec k c s m b sig) []
        (λ _. counting_listed (spec_claim s.at c m.stamp) (move_spec b sig) s m b (λ u e. cc (e))) (λ _. no_move)
    spec_listed c s waits m _ sig = no_move

    telling_by_listed : (c : ℕ) (s : Cli) (m : Request) (z : Zcert) (o : Option ℕ) → KeepListed (telling_by k c s m z o)
    telling_by_listed c s m z None = no_move
    telling_by_listed c s m z (Some r) =
        let full = is_told_full k.cluster.f (r ∷ s.told) in
        let commit : CliAction = move_commit m z.n z.d z.reply (told_claims s.at c z (r ∷ s.told)) in
        let more = if full then commit ∷ [] else [] in
        if_each KeepListed (list_any (λ q. q == r) s.told) [] (move_told r ∷ more) (λ _. no_move)
        (λ _. with_other (move_told r) more (λ u e. cc (e)) (if_each KeepListed full (commit ∷ []) [] (λ _. one_move commit (λ u e. cc (e))) (λ _. no_move)))

    telling_listed : (c : ℕ) (s : Cli) (m : Request) (content : Content) (o : Option Zcert) → KeepListed (telling k c s m content o)
    telling_listed c s m content None = no_move
    telling_listed c s m content (Some z) = telling_by_listed c s m z (teller k.cluster.f s.at c z content)

    keeping_listed : (s : Cli) (m : Request) (v : Signed) → IsListed v.content → KeepListed (keeping k s m v)
    keeping_listed s m v stated =
        let cert = own_cert k.cluster s.at v s.kept in
        let more = taking k s m s.at cert in
        if_each KeepListed (list_any (λ (w : Signed). w.maker == v.maker) s.kept) [] (move_keep v ∷ more) (λ _. no_move)
        (λ _. with_move (move_keep v) more (λ u e. let same : v ≡ u = cc (e) in subst (λ (z : Signed). IsListed z.content) same stated) (taking_listed s m s.at cert (list_in k.cluster s.at cert)))

    hears_listed : (c : ℕ) (s : Cli) (waits : Bool) (m : Request) (t : Msg) → ((x : Content) → Contains (claims k.cluster.f (Client c) t) x → IsListed x) → KeepListed (hears k c s waits m t)
    hears_listed c s waits m (msg.Resp content tag) stated = response_listed c s waits m content
    hears_listed c s waits m (msg.Chain i q n d reply tags) stated =
        let said = tail_claims k.cluster.f i q n d reply in
        if_each KeepListed ((waits && counts_chains (kind_at k s)) && ((i == s.at) && ((q.client == c) && (q.stamp == s.stamp)))) (hears_tail m n d reply said) []
        (λ _. tail_listed m n d reply said) (λ _. no_move)
    hears_listed c s waits m (msg.Abort abort) stated =
        if_each KeepListed (is_abort_of (kind_at k s) k.cluster.f s.at abort.content) (keeping k s m abort) []
        (λ _. keeping_listed s m abort (stated abort.content (Contains-head abort.content (kept_claims abort.content)))) (λ _. no_move)
    hears_listed c s waits m (msg.Init cert) stated = taking_listed s m (cert_instance cert) cert (list_in k.cluster (cert_instance cert) cert)
    hears_listed c s waits m (msg.Spec spec) stated = spec_listed c s waits m spec.content spec.sig
    hears_listed c s waits m (msg.LocalCommit content tag) stated =
        if_each KeepListed waits (telling k c s m content s.sent) [] (λ _. telling_listed c s m content s.sent) (λ _. no_move)
    hears_listed c s waits m _ stated = no_move

    moves_listed : (c : ℕ) (s : Cli) (t : Msg) → ((x : Content) → Contains (claims k.cluster.f (Client c) t) x → IsListed x) → KeepListed (moves k c s t)
    moves_listed c s t stated = open_listed s.phase s.last (λ waits q. hears k c s waits q t) (λ waits q. hears_listed c s waits q t stated)

    panics_listed : (s : Cli) → KeepListed (panics k s)
    panics_listed s = open_listed s.phase s.last (λ waits m. panics_in (kind_at k s) waits m (cert_due k s m)) (λ waits m. panics_in_listed (kind_at k s) waits m (cert_due k s m))

  -- what a client keeps after a move
  after_listed : (s : Cli) (t : CliAction) → ((u : Signed) → t ≡ move_keep u → IsListed u.content) → AreListed s.kept → AreListed (after_move s t).kept
  after_listed s (move_keep v) now was = λ u has. elim (keep_cases v s.kept u has) [ inl e ↦ now u (ap move_keep e) | inr old ↦ was u old ]
  after_listed s (move_take j cert t m) now was = λ u none. absurd (Contains-none u none)
  after_listed s _ now was = was

module _ {P : Type 0} (k : RunSetup) (proto : Proto P) (c : ℕ) where
  -- the lists in what client c keeps were checked
  abbrev WereChecked : Run P → Type 0
  WereChecked w = AreListed w.lists (w.clis c).kept

  -- after moves of client d
  moved_listed : (lists : List Trimmed) (d : ℕ) (ts : List CliAction) (w : Run P) → (d ≡ c → KeepListed lists ts) → AreListed lists (w.clis c).kept → AreListed lists ((take_moves k d w ts).clis c).kept
  moved_listed lists d [] w each was = was
  moved_listed lists d (t ∷ ts) w each was =
      let s = after_move (w.clis d) t in
      let own : d ≡ c → AreListed lists s.kept = λ e.
      after_listed lists (w.clis d) t (λ u is. each e u (subst (λ (z : CliAction). Contains (t ∷ ts) z) is (Contains-head t ts))) (subst (λ (q : ℕ). AreListed lists (w.clis q).kept) (sym e) was) in
      moved_listed lists d ts (take_move k d w t) (λ e u has. each e u (Contains-tail t (move_keep u) ts has))
      (if_each (λ (z : Cli). AreListed lists z.kept) (c == d) s (w.clis c) (λ same. own (sym (eqb-true c d same))) (λ _. was))

  lists_stay : (d : ℕ) (ts : List CliAction) (w : Run P) → (take_moves k d w ts).lists ≡ w.lists
  lists_stay d [] w = refl
  lists_stay d (t ∷ ts) w = lists_stay d ts (take_move k d w t)

  client_listed : (d : ℕ) (ts : List CliAction) (w : Run P) → (d ≡ c → KeepListed w.lists ts) → WereChecked w → WereChecked (at_client k proto d w ts)
  client_listed d ts w each was =
      let now = take_moves k d w ts in
      let kept = moved_listed w.lists d ts w each was in
      if_each WereChecked (is_faulty k.faulty (Client d)) (record w { clis = now.clis }) now (λ _. kept)
      (λ _. subst (λ (ls : List Trimmed). AreListed ls (now.clis c).kept) (sym (lists_stay d ts w)) kept)

  turns_listed : (r : ℕ) (ts : List RepAction) (w : Run P) → WereChecked w → WereChecked (take_turns k proto r w ts)
  turns_listed r [] w was = was
  turns_listed r (t ∷ ts) w was = turns_listed r ts (take_turn k proto r w t) was

  replica_listed : (r : ℕ) (ts : List RepAction) (w : Run P) → WereChecked w → WereChecked (at_replica k proto r w ts)
  replica_listed r ts w was =
      if_each WereChecked (is_faulty k.faulty (Replica r)) (record w { reps = (take_turns k proto r w ts).reps }) (take_turns k proto r w ts) (λ _. was) (λ _. turns_listed r ts w was)

  checks_listed : (p : Party) (m : Msg) (w : Run P) → WereChecked w → WereChecked (checks k p m w)
  checks_listed p m w was = λ u has l is. Contains-append_right (lists_for k p m) w.lists l (was u has l is)

  -- what a correct party checks in a message
  message_listed : (p : Party) (m : Msg) (w : Run P) → is_faulty k.faulty p ≡ false → (x : Content) → Contains (claims k.cluster.f p m) x → IsListed (checks k p m w).lists x
  message_listed p m w good x has = λ l is.
      let said = claims k.cluster.f p m in
      let there : Contains (lists_for k p m) l = subst (λ (b : Bool). Contains (if b then [] else flat_map stated_list said) l) (sym good) (Contains-flat_map stated_list said x l has is) in
      Contains-append_left (lists_for k p m) w.lists l there

  step_listed : is_faulty k.faulty (Client c) ≡ false → (e : Event) (w : Run P) → WereChecked w → WereChecked (step k proto w e)
  step_listed good (invoke d command) w was =
      let ts = asking d (w.clis d) (w.clis d).phase command in
      if_each WereChecked (nat_lt d k.cluster.clients) (at_client k proto d w ts) w
      (λ _. client_listed d ts w (λ _. asking_listed w.lists d (w.clis d) (w.clis d).phase command) was) (λ _. was)
  step_listed good (to_replica r m) w was =
      let w' = checks k (Replica r) m w in
      let ts = turns k proto r (w.reps r) (took m) in
      if_each WereChecked (nat_lt r (replicas k)) (at_replica k proto r w' ts) w (λ _. replica_listed r ts w' (checks_listed (Replica r) m w was)) (λ _. was)
  step_listed good (to_client d m) w was =
      let w' = checks k (Client d) m w in
      let ts = moves k d (w.clis d) m in
      let each : d ≡ c → KeepListed w'.lists ts = λ e.
      moves_listed w'.lists k d (w.clis d) m (message_listed (Client d) m w (ap (λ (q : ℕ). is_faulty k.faulty (Client q)) e ∙ good)) in
      if_each WereChecked (nat_lt d k.cluster.clients) (at_client k proto d w' ts) w (λ _. client_listed d ts w' each (checks_listed (Client d) m w was)) (λ _. was)
  step_listed good (replica_time r) w was =
      let ts = turns k proto r (w.reps r) timed in
      if_each WereChecked (nat_lt r (replicas k)) (at_replica k proto r w ts) w (λ _. replica_listed r ts w was) (λ _. was)
  step_listed good (client_time d) w was =
      let ts = panics k (w.clis d) in
      if_each WereChecked (nat_lt d k.cluster.clients) (at_client k proto d w ts) w (λ _. client_listed d ts w (λ _. panics_listed w.lists k (w.clis d)) was) (λ _. was)

pub kept_listed : {P : Type 0} (k : RunSetup) (proto : Proto P) (events : List Event) (c : ℕ) → is_faulty k.faulty (Client c) ≡ false → (u : Signed) → Contains ((run k proto events).clis c).kept u
    → (l : Trimmed) → Contains (stated_list u.content) l → Contains (run k proto events).lists l
kept_listed k proto [] c good u none = absurd (Contains-none u none)
kept_listed k proto (e ∷ events) c good u has = step_listed k proto c good e (run k proto events) (kept_listed k proto events c good) u has
