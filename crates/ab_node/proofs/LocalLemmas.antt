-- One party over its events.
use Rattle.std.proofs.Common.{◌≡◌, ℕ, List, [], ◌∷◌, ◌++◌, reverse, Option, None, Some, refl, sym, ap, ◌∙◌, append_assoc, append-nil}
use Rattle.std.specs.List.{cons_option}
use Rattle.std.proofs.lemmas.Grind.{flat_map-append, reverse_onto}
use Rattle.ab_keys.specs.Rings.{Ring}
use Rattle.ab_msg.specs.declared.message.Out.{Out}
use Rattle.ab_msg.specs.Pens.{Pen}
use Rattle.ab_sign.specs.Signers.{pen_of}
use Rattle.ab_abs.specs.Ensembles.{Proto}
use Rattle.ab_abs.specs.Messages.{Call}
use Rattle.ab_run.specs.Setups.{RunSetup}
use Rattle.ab_run.specs.Runs.{first_cli}
use Rattle.ab_run.specs.Local.{Cue, cli_after, cli_local, cli_sends, rep_after, rep_local, rep_sends}
use Rattle.ab_client.specs.Clients.{alone}
use Rattle.ab_replica.specs.Sites.{IsSetupOf}
use Rattle.ab_loop.specs.Cores.{NodeEvent}
use Rattle.ab_loop.specs.Folds.{core_after, sends_in}
use Rattle.ab_party.specs.Credentials.{sealed_all, sealed_for}
use Rattle.ab_node.specs.Replicas.{ReplicaMember, call_of, own_setup, replica_after, replica_may_take, replica_rules, replica_takes}
use Rattle.ab_node.specs.Clients.{ClientMember, client_after, client_may_take, client_rules, client_takes, cue_of}
use Rattle.ab_node.specs.Locality.{IsLocalClient, IsLocalReplica, StartsIn, asked_locally, calls_in, cues_in, sent_locally}

sealed_append : (ring : Ring) (a b : List Out) → sealed_all ring (a ++ b) ≡ sealed_all ring a ++ sealed_all ring b
sealed_append ring a b = flat_map-append (sealed_for ring) a b

-- one more at the end of what was reversed
turned : {X : Type 0} (x : X) (xs before : List X) → reverse (x ∷ xs) ++ before ≡ reverse xs ++ (x ∷ before)
turned x xs before = ap (λ l. l ++ before) (reverse_onto xs x []) ∙ append_assoc (reverse xs) (x ∷ []) before

-- ---- a replica

module _ {P : Type 0} (k : RunSetup) (proto : Proto P) where
  -- it has its place in the run
  abbrev pub IsPlaced : ReplicaMember P → Type 0
  IsPlaced m = IsSetupOf k m.site (pen_of m.credentials.keys m.site.me 0)

  -- its own setup is that of the run, as far as what it does depends on it
  own_is : (m : ReplicaMember P) → IsPlaced m → own_setup m ≡ record { cluster = k.cluster; faulty = []; signatures = k.signatures; sig = λ q. k.sig m.site.me }
  own_is m of =
      let pen : Pen = pen_of m.credentials.keys m.site.me 0 in
      ap (λ c. let x : RunSetup = record { cluster = c; faulty = []; signatures = m.site.signatures; sig = λ q. pen.sig } in x) (sym of.cluster)
      ∙ ap (λ n. let x : RunSetup = record { cluster = k.cluster; faulty = []; signatures = n; sig = λ q. pen.sig } in x) (sym of.signatures)
      ∙ ap (λ f. let x : RunSetup = record { cluster = k.cluster; faulty = []; signatures = k.signatures; sig = λ q. f } in x) (sym of.sig)

  pub after_is : (m : ReplicaMember P) (call : Call) → IsPlaced m → (replica_after proto m call).site.rep ≡ rep_after k proto m.site.me m.site.rep call
  after_is m call of = ap (λ x. rep_after x proto m.site.me m.site.rep call) (own_is m of)

  sends_is : (m : ReplicaMember P) (call : Call) → IsPlaced m → (replica_takes proto m call).sends ≡ sealed_all m.credentials.ring (rep_sends k proto m.site.me m.site.rep call)
  sends_is m call of = ap (λ x. sealed_all m.credentials.ring (rep_sends x proto m.site.me m.site.rep call)) (own_is m of)

  pub placed_after : (m : ReplicaMember P) (call : Call) → IsPlaced m → IsPlaced (replica_after proto m call)
  placed_after m call of = record { cluster = of.cluster; signatures = of.signatures; sig = of.sig }

  module _ (counted : P → Option ℕ) where
    leads : (events : List NodeEvent) (m : ReplicaMember P) (before : List Call) → IsPlaced m → m.site.rep ≡ rep_local k proto m.site.me before
        → (core_after (replica_rules proto counted) m events).site.rep ≡ rep_local k proto m.site.me (reverse (calls_in m.credentials events) ++ before)
    leads [] m before of at = at
    leads (e ∷ events) m before of at = go (leads events) (call_of m.credentials e) where
      go : ((n : ReplicaMember P) (calls : List Call) → IsPlaced n → n.site.rep ≡ rep_local k proto n.site.me calls
          → (core_after (replica_rules proto counted) n events).site.rep ≡ rep_local k proto n.site.me (reverse (calls_in n.credentials events) ++ calls))
          → (o : Option Call) → (core_after (replica_rules proto counted) (replica_may_take proto m o).after events).site.rep
          ≡ rep_local k proto m.site.me (reverse (cons_option o (calls_in m.credentials events)) ++ before)
      go rest None = rest m before of at
      go rest (Some call) =
          rest (replica_after proto m call) (call ∷ before) (placed_after m call of) (after_is m call of ∙ ap (λ s. rep_after k proto m.site.me s call) at)
          ∙ ap (λ cs. rep_local k proto m.site.me cs) (sym (turned call (calls_in m.credentials events) before))

    tells : (events : List NodeEvent) (m : ReplicaMember P) → IsPlaced m
        → sends_in (replica_rules proto counted) m events ≡ sealed_all m.credentials.ring (sent_locally k proto m.site.me m.site.rep (calls_in m.credentials events))
    tells [] m of = refl
    tells (e ∷ events) m of = go (tells events) (call_of m.credentials e) where
      go : ((n : ReplicaMember P) → IsPlaced n → sends_in (replica_rules proto counted) n events ≡ sealed_all n.credentials.ring (sent_locally k proto n.site.me n.site.rep (calls_in n.credentials events)))
          → (o : Option Call) → (replica_may_take proto m o).sends ++ sends_in (replica_rules proto counted) (replica_may_take proto m o).after events
          ≡ sealed_all m.credentials.ring (sent_locally k proto m.site.me m.site.rep (cons_option o (calls_in m.credentials events)))
      go rest None = rest m of
      go rest (Some call) =
          let calls = calls_in m.credentials events in
          let now = replica_after proto m call in
          let here : List Out = rep_sends k proto m.site.me m.site.rep call in
          ap (λ l. l ++ sends_in (replica_rules proto counted) now events) (sends_is m call of)
          ∙ ap (λ l. sealed_all m.credentials.ring here ++ l) (rest now (placed_after m call of) ∙ ap (λ s. sealed_all m.credentials.ring (sent_locally k proto m.site.me s calls)) (after_is m call of))
          ∙ sym (sealed_append m.credentials.ring here (sent_locally k proto m.site.me (rep_after k proto m.site.me m.site.rep call) calls))

    pub replica_local : (m : ReplicaMember P) (events : List NodeEvent) → StartsIn k proto m → IsLocalReplica k proto counted m events
    replica_local m events starts = record {
      state = leads events m [] starts.setup starts.first ∙ ap (λ cs. rep_local k proto m.site.me cs) (append-nil (reverse (calls_in m.credentials events)));
      bytes = tells events m starts.setup;
    }

-- ---- a client

module _ (k : RunSetup) where
  pub cli_is : (m : ClientMember) (cue : Cue) → k.cluster ≡ m.seat.cluster → (client_after m cue).seat.cli ≡ cli_after k m.seat.me m.seat.cli cue
  cli_is m cue is = ap (λ c. cli_after (alone c) m.seat.me m.seat.cli cue) (sym is)

  asks_is : (m : ClientMember) (cue : Cue) → k.cluster ≡ m.seat.cluster → (client_takes m cue).sends ≡ sealed_all m.credentials.ring (cli_sends k m.seat.me m.seat.cli cue)
  asks_is m cue is = ap (λ c. sealed_all m.credentials.ring (cli_sends (alone c) m.seat.me m.seat.cli cue)) (sym is)

  client_leads : (events : List NodeEvent) (m : ClientMember) (before : List Cue) → k.cluster ≡ m.seat.cluster → m.seat.cli ≡ cli_local k m.seat.me before
      → (core_after client_rules m events).seat.cli ≡ cli_local k m.seat.me (reverse (cues_in m events) ++ before)
  client_leads [] m before is at = at
  client_leads (e ∷ events) m before is at = go (client_leads events) (cue_of m e) where
    go : ((n : ClientMember) (cues : List Cue) → k.cluster ≡ n.seat.cluster → n.seat.cli ≡ cli_local k n.seat.me cues
        → (core_after client_rules n events).seat.cli ≡ cli_local k n.seat.me (reverse (cues_in n events) ++ cues))
        → (o : Option Cue) → (core_after client_rules (client_may_take m o).after events).seat.cli
        ≡ cli_local k m.seat.me (reverse (cons_option o (cues_in (client_may_take m o).after events)) ++ before)
    go rest None = rest m before is at
    go rest (Some cue) =
        rest (client_after m cue) (cue ∷ before) is (cli_is m cue is ∙ ap (λ s. cli_after k m.seat.me s cue) at)
        ∙ ap (λ cs. cli_local k m.seat.me cs) (sym (turned cue (cues_in (client_after m cue) events) before))

  client_tells : (events : List NodeEvent) (m : ClientMember) → k.cluster ≡ m.seat.cluster
      → sends_in client_rules m events ≡ sealed_all m.credentials.ring (asked_locally k m.seat.me m.seat.cli (cues_in m events))
  client_tells [] m is = refl
  client_tells (e ∷ events) m is = go (client_tells events) (cue_of m e) where
    go : ((n : ClientMember) → k.cluster ≡ n.seat.cluster → sends_in client_rules n events ≡ sealed_all n.credentials.ring (asked_locally k n.seat.me n.seat.cli (cues_in n events)))
        → (o : Option Cue) → (client_may_take m o).sends ++ sends_in client_rules (client_may_take m o).after events
        ≡ sealed_all m.credentials.ring (asked_locally k m.seat.me m.seat.cli (cons_option o (cues_in (client_may_take m o).after events)))
    go rest None = rest m is
    go rest (Some cue) =
        let now = client_after m cue in
        let cues = cues_in now events in
        let here : List Out = cli_sends k m.seat.me m.seat.cli cue in
        ap (λ l. l ++ sends_in client_rules now events) (asks_is m cue is)
        ∙ ap (λ l. sealed_all m.credentials.ring here ++ l) (rest now is ∙ ap (λ s. sealed_all m.credentials.ring (asked_locally k m.seat.me s cues)) (cli_is m cue is))
        ∙ sym (sealed_append m.credentials.ring here (asked_locally k m.seat.me (cli_after k m.seat.me m.seat.cli cue) cues))

  pub client_local : (m : ClientMember) (events : List NodeEvent) → k.cluster ≡ m.seat.cluster → m.seat.cli ≡ first_cli → IsLocalClient k m events
  client_local m events is first = record {
    state = client_leads events m [] is first ∙ ap (λ cs. cli_local k m.seat.me cs) (append-nil (reverse (cues_in m events)));
    bytes = client_tells events m is;
  }
