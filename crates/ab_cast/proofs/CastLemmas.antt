-- What holds of the cores stays in each event.
use Rattle.std.proofs.Common.{◌≡◌, ℕ, zero, suc, ◌+◌, ◌*◌, ◌<◌, ◌≤◌, Bool, List, [], ◌∷◌, ◌++◌, Some, None, length, map, get_or, refl, sym, ap, ◌∙◌, subst, inl, inr, arith, length-append}
use Rattle.std.specs.Prelude.{Option, slice_get, slice_set}
use Rattle.std.specs.Option.{option_map}
use Rattle.std.proofs.lemmas.Bool.{cases_eq, cases_order}
use Rattle.std.proofs.lemmas.Option.{slice_get-map, slice_get_past, slice_get_within, slice_get_read, same_Some}
use Rattle.std.proofs.lemmas.List.{length-map}
use Rattle.ab_num.specs.declared.cluster.Cluster.{Cluster}
use Rattle.ab_num.specs.declared.plan.Kind.{Kind}
use Rattle.ab_num.specs.declared.party.Party.TheVariants.{Replica, Client}
use Rattle.ab_num.proofs.Lists.{slice_get_there, length-slice_set, slice_get-push}
use Rattle.ab_msg.specs.declared.message.Out.{Out}
use Rattle.ab_abs.specs.declared.seen.Seen.{Seen}
use Rattle.ab_abs.specs.Ensembles.{Proto}
use Rattle.ab_abs.specs.FormLaws.{KeepsForm}
use Rattle.ab_abs.specs.Promises.{ServesAll}
use Rattle.ab_run.specs.Replicas.{is_spent}
use Rattle.ab_run.specs.Local.{Cue, rep_marks, rep_sends, cli_after, cli_sends, cli_marks}
use Rattle.ab_run.proofs.Listed.{set_hit, set_miss, get_before}
use Rattle.ab_replica.specs.Sites.{Site}
use Rattle.ab_client.specs.Clients.{Seat, alone, after, sends, marks}
use Rattle.ab_party.specs.declared.cue.Cue.{Cue as CueRef}
use Rattle.ab_party.specs.Cues.{call_of, cue_of}
use Rattle.ab_party.specs.Parties.{ClientCommits, ClientHears}
use Rattle.ab_cast.specs.declared.place.Place.{Place}
use Rattle.ab_cast.specs.declared.place.Place.TheVariants as place
use Rattle.ab_cast.specs.Setups.{Setup, run_setup, replica_twins, client_twins, place_of, party_at}
use Rattle.ab_cast.specs.Cores.{CommitsAtOnce, Core, replica, client}
use Rattle.ab_cast.specs.Casts.{Cast, core_at, with_core, next, first_seat, first_seats, first_site, first_sites, first_cast, IsTaken, IsSeat, AreSeats, AreTwinSeats, IsSite, AreOwn, AreTwins, IsCast}
use Rattle.ab_cast.specs.Hearing.{CliHears, RepHears}
use Rattle.ab_cast.proofs.StandLemmas.{IsThere, mapped_cases, is_there}
use Rattle.ab_cast.proofs.ReplicaLemmas.{after_cue, sends_cue, marks_cue, spends_cue, first_is_site, after_is}

-- ---- lists

-- what holds of each element with its place
abbrev Each : {A : Type 0} → (ℕ → A → Type 0) → List A → Type 0
Each {A = A} Q xs = (i : ℕ) (x : A) → slice_get xs i ≡ Some x → Q i x

Each-set : {A : Type 0} (Q : ℕ → A → Type 0) (xs : List A) (i : ℕ) (was now : A) → slice_get xs i ≡ Some was → Q i now → Each Q xs → Each Q (slice_set xs i now)
Each-set Q xs i was now there is are j x at =
    elim (cases_eq j i) [
      | inl same ↦
          let e : Some now ≡ Some x = sym (set_hit xs i now was there) ∙ (ap (slice_get (slice_set xs i now)) (sym same) ∙ at) in
          subst (λ (k : ℕ). Q k x) (sym same) (subst (Q i) (same_Some now x e) is)
      | inr other ↦ are j x (sym (set_miss xs i j now other) ∙ at)
    ]

Each-push : {A : Type 0} (Q : ℕ → A → Type 0) (xs : List A) (y : A) → Q (length xs) y → Each Q xs → Each Q (xs ++ y ∷ [])
Each-push Q xs y is are j x at =
    elim (cases_order j (length xs)) [
      | inl same ↦
          let e : Some y ≡ Some x = sym (slice_get-push xs y) ∙ (ap (slice_get (xs ++ y ∷ [])) (sym same) ∙ at) in
          subst (λ (k : ℕ). Q k x) (sym same) (subst (Q (length xs)) (same_Some y x e) is)
      | inr (inl below) ↦ are j x (sym (get_before xs y j below) ∙ at)
      | inr (inr above) ↦ absurd (let e : None ≡ Some x = sym (slice_get_past (xs ++ y ∷ []) j (omega (arith, length-append xs (y ∷ []), above))) ∙ at in cc)
    ]

pub read_there : {A : Type 0} (xs : List A) (i : ℕ) (t : A) → i < length xs → t ≡ get_or xs i t → slice_get xs i ≡ Some t
read_there xs i t lt read = slice_get_read xs (length xs) i t refl lt read

-- what is put where it stands changes nothing
pub put_back : {A : Type 0} (xs : List A) (i : ℕ) (t u : A) → slice_get xs i ≡ Some t → u ≡ t → slice_set xs i u ≡ xs
put_back [] i t u there same = absurd (cc (there))
put_back (x ∷ xs) zero t u there same = let e : x ≡ t = cc (there) in ap (λ y. y ∷ xs) (same ∙ sym e)
put_back (x ∷ xs) (suc i) t u there same = ap (λ ys. x ∷ ys) (put_back xs i t u there same)

-- what stands at a place is what was read there
pub the_same : {A : Type 0} (xs : List A) (i : ℕ) (s t : A) → slice_get xs i ≡ Some s → i < length xs → t ≡ get_or xs i t → s ≡ t
the_same xs i s t at lt read = same_Some s t (sym at ∙ slice_get_read xs (length xs) i t refl lt read)

-- ---- events

module _ {P : Type 0} (proto : Proto P) (serves : Kind → Bool) (x : Cast P) (is : IsCast proto serves x) where
  abbrev c : Cluster
  c = x.setup.cluster

  later_seat : (n : ℕ) (s : Seat) → IsSeat c x.events n s → IsSeat c (x.events + 1) n s
  later_seat n s at = record { own = at.own; placed = at.placed; stamp = omega (arith, at.stamp) }

  later_seats : AreSeats c (x.events + 1) x.clients
  later_seats n s at = later_seat n s (is.seats n s at)

  later_twins : AreTwinSeats c (x.events + 1) (client_twins x.setup.faulty) x.client_twins
  later_twins at k s number there = later_seat k.0 s (is.twin_seats at k s number there)

  -- a client goes on
  abbrev pub GoesOn : Seat → Seat → Type 0
  GoesOn s now = (now.me ≡ s.me) × ((now.cluster ≡ s.cluster) × (now.cli.stamp ≤ s.cli.stamp + 1))

  moved_seat : (n : ℕ) (s now : Seat) → GoesOn s now → IsSeat c x.events n s → IsSeat c (x.events + 1) n now
  moved_seat n s now goes at = record { own = goes.0 ∙ at.own; placed = goes.1.0 ∙ at.placed; stamp = omega (arith, goes.1.1, at.stamp) }

  pub IsCast-next : x.events < 100000 → IsCast proto serves (next x)
  IsCast-next few = record {
    all_replicas = is.all_replicas;
    all_clients = is.all_clients;
    all_replica_twins = is.all_replica_twins;
    all_client_twins = is.all_client_twins;
    serves_all = is.serves_all;
    own_replicas = is.own_replicas;
    twin_replicas = is.twin_replicas;
    seats = later_seats;
    twin_seats = later_twins;
    few_events = omega (arith, few);
  }

  module _ (few : x.events < 100000) (at : ℕ) where
    IsCast-replica : (s now : Site P) (all : List (Site P)) → slice_get x.replicas at ≡ Some s → IsSite proto serves x.setup at now
        → all ≡ slice_set x.replicas at now → IsCast proto serves (record x { replicas = all; events = x.events + 1 })
    IsCast-replica s now all there here set = record {
      all_replicas = ap length set ∙ (length-slice_set x.replicas at now ∙ is.all_replicas);
      all_clients = is.all_clients;
      all_replica_twins = is.all_replica_twins;
      all_client_twins = is.all_client_twins;
      serves_all = is.serves_all;
      own_replicas = subst (AreOwn proto serves x.setup) (sym set) (Each-set (IsSite proto serves x.setup) x.replicas at s now there here is.own_replicas);
      twin_replicas = is.twin_replicas;
      seats = later_seats;
      twin_seats = later_twins;
      few_events = omega (arith, few);
    }

    IsCast-replica_twin : (s now : Site P) (all : List (Site P)) → slice_get x.replica_twins at ≡ Some s → ((k : ℕ × ℕ) → slice_get (replica_twins x.setup.faulty) at ≡ Some k → IsSite proto serves x.setup k.0 now)
        → all ≡ slice_set x.replica_twins at now → IsCast proto serves (record x { replica_twins = all; events = x.events + 1 })
    IsCast-replica_twin s now all there here set = record {
      all_replicas = is.all_replicas;
      all_clients = is.all_clients;
      all_replica_twins = ap length set ∙ (length-slice_set x.replica_twins at now ∙ is.all_replica_twins);
      all_client_twins = is.all_client_twins;
      serves_all = is.serves_all;
      own_replicas = is.own_replicas;
      twin_replicas = subst (AreTwins proto serves x.setup (replica_twins x.setup.faulty)) (sym set)
          (λ i k t number at_i. Each-set (λ j t. (k : ℕ × ℕ) → slice_get (replica_twins x.setup.faulty) j ≡ Some k → IsSite proto serves x.setup k.0 t) x.replica_twins at s now there
          here (λ j t at_j k number. is.twin_replicas j k t number at_j) i t at_i k number);
      seats = later_seats;
      twin_seats = later_twins;
      few_events = omega (arith, few);
    }

    IsCast-client : (s now : Seat) (all : List Seat) → slice_get x.clients at ≡ Some s → GoesOn s now
        → all ≡ slice_set x.clients at now → IsCast proto serves (record x { clients = all; events = x.events + 1 })
    IsCast-client s now all there goes set = record {
      all_replicas = is.all_replicas;
      all_clients = ap length set ∙ (length-slice_set x.clients at now ∙ is.all_clients);
      all_replica_twins = is.all_replica_twins;
      all_client_twins = is.all_client_twins;
      serves_all = is.serves_all;
      own_replicas = is.own_replicas;
      twin_replicas = is.twin_replicas;
      seats = subst (AreSeats c (x.events + 1)) (sym set) (Each-set (IsSeat c (x.events + 1)) x.clients at s now there (moved_seat at s now goes (is.seats at s there)) later_seats);
      twin_seats = later_twins;
      few_events = omega (arith, few);
    }

    IsCast-client_twin : (s now : Seat) (all : List Seat) → slice_get x.client_twins at ≡ Some s → GoesOn s now
        → all ≡ slice_set x.client_twins at now → IsCast proto serves (record x { client_twins = all; events = x.events + 1 })
    IsCast-client_twin s now all there goes set = record {
      all_replicas = is.all_replicas;
      all_clients = is.all_clients;
      all_replica_twins = is.all_replica_twins;
      all_client_twins = ap length set ∙ (length-slice_set x.client_twins at now ∙ is.all_client_twins);
      serves_all = is.serves_all;
      own_replicas = is.own_replicas;
      twin_replicas = is.twin_replicas;
      seats = later_seats;
      twin_seats = subst (AreTwinSeats c (x.events + 1) (client_twins x.setup.faulty)) (sym set)
          (λ i k t number here. Each-set (λ j t. (k : ℕ × ℕ) → slice_get (client_twins x.setup.faulty) j ≡ Some k → IsSeat c (x.events + 1) k.0 t) x.client_twins at s now there
          (λ k number. moved_seat k.0 s now goes (is.twin_seats at k s number there)) (λ j t here k number. later_twins j k t number here) i t here k number);
      few_events = omega (arith, few);
    }

  -- ---- where cores are

  replica_within : (r : ℕ) → IsThere x.setup (place.Replica r) → r < length x.replicas
  replica_within r there = omega (arith, there, is.all_replicas)

  client_within : (n : ℕ) → IsThere x.setup (place.Client n) → n < length x.clients
  client_within n there = omega (arith, there, is.all_clients)

  replica_twin_within : (r at : ℕ) → IsThere x.setup (place.ReplicaTwin r at) → at < length x.replica_twins
  replica_twin_within r at there = omega (arith, slice_get_within (replica_twins x.setup.faulty) at there.1.0 there.1.1.0, is.all_replica_twins)

  pub client_twin_within : (n at : ℕ) → IsThere x.setup (place.ClientTwin n at) → at < length x.client_twins
  client_twin_within n at there = omega (arith, slice_get_within (client_twins x.setup.faulty) at there.1.0 there.1.1.0, is.all_client_twins)

  replica_at : (r : ℕ) → IsThere x.setup (place.Replica r) → (s : Site P) × (slice_get x.replicas r ≡ Some s)
  replica_at r there = slice_get_there x.replicas r (replica_within r there)

  client_at : (n : ℕ) → IsThere x.setup (place.Client n) → (s : Seat) × (slice_get x.clients n ≡ Some s)
  client_at n there = slice_get_there x.clients n (client_within n there)

  replica_twin_at : (r at : ℕ) → IsThere x.setup (place.ReplicaTwin r at) → (s : Site P) × (slice_get x.replica_twins at ≡ Some s)
  replica_twin_at r at there = slice_get_there x.replica_twins at (replica_twin_within r at there)

  client_twin_at : (n at : ℕ) → IsThere x.setup (place.ClientTwin n at) → (s : Seat) × (slice_get x.client_twins at ≡ Some s)
  client_twin_at n at there = slice_get_there x.client_twins at (client_twin_within n at there)

  pub seat_at : (n at : ℕ) (s : Seat) → IsThere x.setup (place.ClientTwin n at) → slice_get x.client_twins at ≡ Some s → IsSeat c x.events n s
  seat_at n at s there here = subst (λ (d : ℕ). IsSeat c x.events d s) there.1.1.1 (is.twin_seats at there.1.0 s there.1.1.0 here)

  -- a place of the cluster has its core
  pub core_there : (at : Place) → IsThere x.setup at → (s : Core P) × (core_at x at ≡ Some s)
  core_there (place.Replica r) there = let s = replica_at r there in (replica s.0, ap (option_map replica) s.1)
  core_there (place.Client n) there = let s = client_at n there in (client s.0, ap (option_map client) s.1)
  core_there (place.ReplicaTwin r at) there = let s = replica_twin_at r at there in (replica s.0, ap (option_map replica) s.1)
  core_there (place.ClientTwin n at) there = let s = client_twin_at n at there in (client s.0, ap (option_map client) s.1)

  -- the number of the replica whose further core stands there is r
  pub twin_of : (r at : ℕ) (s : Site P) → IsThere x.setup (place.ReplicaTwin r at) → slice_get x.replica_twins at ≡ Some s → IsSite proto serves x.setup r s
  twin_of r at s there here = subst (λ (n : ℕ). IsSite proto serves x.setup n s) there.1.1.1 (is.twin_replicas at there.1.0 s there.1.1.0 here)

  -- ---- a replica takes what comes

  -- what the code says of the one at a place
  abbrev pub HearsAt : ℕ → ℕ → CueRef → List (Site P) → List (Site P) → List Out → List Seen → Bool → Type 0
  HearsAt r at g items all outs marks spent = (s : Site P) → slice_get items at ≡ Some s → RepHears proto serves x.setup r at s (call_of g) items all outs marks spent

  module _ (few : x.events < 100000) (r : ℕ) (g : CueRef) (all : List (Site P)) (outs : List Out) (marks : List Seen) (spent : Bool) (there : IsThere x.setup (place.Replica r)) (hears : HearsAt r r g x.replicas all outs marks spent) where
    pub replica_stays : IsCast proto serves (record x { replicas = all; events = x.events + 1 })
    replica_stays =
        let s = replica_at r there in
        let h = hears s.0 s.1 in
        IsCast-replica few r s.0 h.now all s.1 h.site h.set

    pub replica_taken : (s : Site P) → slice_get x.replicas r ≡ Some s
        → IsTaken proto x (place.Replica r) (replica s) (cue_of g) (record x { replicas = all; events = x.events + 1 }) outs marks spent
    replica_taken s here =
        let h = hears s here in
        let site = is.own_replicas r s here in
        let call = call_of g in
        record {
          after =
              ap (λ v. record x { replicas = v; events = x.events + 1 }) (h.set ∙ ap (slice_set x.replicas r) (after_is proto serves x.setup r s site h.now call outs marks spent h.hears))
              ∙ ap (λ q. next (with_core x (place.Replica r) q)) (sym (after_cue x.setup proto r s g));
          sends = h.hears.sends ∙ ap (λ m. rep_sends (run_setup x.setup) proto m s.rep call) site.own ∙ sym (sends_cue x.setup proto r s g);
          shows = h.hears.shows ∙ ap (λ m. rep_marks (run_setup x.setup) proto m s.rep call) site.own ∙ sym (marks_cue x.setup proto r s g);
          spends = h.hears.spends ∙ ap (λ m. is_spent (run_setup x.setup) proto m s.rep call) site.own ∙ sym (spends_cue x.setup proto r s g);
          drafts = h.drafts;
        }

  module _ (few : x.events < 100000) (r at : ℕ) (g : CueRef) (all : List (Site P)) (outs : List Out) (marks : List Seen) (spent : Bool) (there : IsThere x.setup (place.ReplicaTwin r at)) (hears : HearsAt r at g x.replica_twins all outs marks spent) where
    pub replica_twin_stays : IsCast proto serves (record x { replica_twins = all; events = x.events + 1 })
    replica_twin_stays =
        let s = replica_twin_at r at there in
        let h = hears s.0 s.1 in
        let number : (k : ℕ × ℕ) → slice_get (replica_twins x.setup.faulty) at ≡ Some k → r ≡ k.0
        = λ k is_k. sym there.1.1.1 ∙ ap (λ (k : ℕ × ℕ). k.0) (same_Some there.1.0 k (sym there.1.1.0 ∙ is_k)) in
        IsCast-replica_twin few at s.0 h.now all s.1 (λ k is_k. subst (λ (q : ℕ). IsSite proto serves x.setup q h.now) (number k is_k) h.site) h.set

    pub replica_twin_taken : (s : Site P) → slice_get x.replica_twins at ≡ Some s
        → IsTaken proto x (place.ReplicaTwin r at) (replica s) (cue_of g) (record x { replica_twins = all; events = x.events + 1 }) outs marks spent
    replica_twin_taken s here =
        let h = hears s here in
        let site = twin_of r at s there here in
        let call = call_of g in
        record {
          after =
              ap (λ v. record x { replica_twins = v; events = x.events + 1 }) (h.set ∙ ap (slice_set x.replica_twins at) (after_is proto serves x.setup r s site h.now call outs marks spent h.hears))
              ∙ ap (λ q. next (with_core x (place.ReplicaTwin r at) q)) (sym (after_cue x.setup proto r s g));
          sends = h.hears.sends ∙ ap (λ m. rep_sends (run_setup x.setup) proto m s.rep call) site.own ∙ sym (sends_cue x.setup proto r s g);
          shows = h.hears.shows ∙ ap (λ m. rep_marks (run_setup x.setup) proto m s.rep call) site.own ∙ sym (marks_cue x.setup proto r s g);
          spends = h.hears.spends ∙ ap (λ m. is_spent (run_setup x.setup) proto m s.rep call) site.own ∙ sym (spends_cue x.setup proto r s g);
          drafts = h.drafts;
        }

  -- ---- a client takes what comes

  -- a client of the cluster does what the run says
  module _ (n events : ℕ) (s : Seat) (seat : IsSeat c events n s) (cue : Cue) where
    seat_after : after s cue ≡ record s { cli = cli_after (run_setup x.setup) n s.cli cue }
    seat_after = ap (λ k. record s { cli = cli_after (alone k) s.me s.cli cue }) seat.placed ∙ ap (λ m. record s { cli = cli_after (run_setup x.setup) m s.cli cue }) seat.own

    seat_sends : sends s cue ≡ cli_sends (run_setup x.setup) n s.cli cue
    seat_sends = ap (λ k. cli_sends (alone k) s.me s.cli cue) seat.placed ∙ ap (λ m. cli_sends (run_setup x.setup) m s.cli cue) seat.own

    seat_marks : marks s cue ≡ cli_marks (run_setup x.setup) n s.cli cue
    seat_marks = ap (λ k. cli_marks (alone k) s.me s.cli cue) seat.placed ∙ ap (λ m. cli_marks (run_setup x.setup) m s.cli cue) seat.own

  -- what the code says of the client at a place
  abbrev pub CliHearsAt : ℕ → ℕ → Cue → List Seat → List Seat → List Out → List Seen → Bool → Type 0
  CliHearsAt n at cue items all outs marks spent = (s : Seat) → slice_get items at ≡ Some s → CliHears x.setup n at s cue items all outs marks spent

  client_goes : (s now : Seat) (cue : Cue) (outs : List Out) (shown : List Seen) (spent : Bool) → ClientHears s cue now outs shown spent → GoesOn s now
  client_goes s now cue outs shown spent h = (ap (λ (q : Seat). q.me) h.after, (ap (λ (q : Seat). q.cluster) h.after, h.stamp))

  module _ (few : x.events < 100000) (n : ℕ) (cue : Cue) (all : List Seat) (outs : List Out) (shown : List Seen) (spent : Bool) (there : IsThere x.setup (place.Client n)) (hears : CliHearsAt n n cue x.clients all outs shown spent) where
    pub client_stays : IsCast proto serves (record x { clients = all; events = x.events + 1 })
    client_stays =
        let s = client_at n there in
        let h = hears s.0 s.1 in
        IsCast-client few n s.0 h.now all s.1 (client_goes s.0 h.now cue outs shown spent h.hears) h.set

    pub client_taken : (s : Seat) → slice_get x.clients n ≡ Some s → IsTaken proto x (place.Client n) (client s) cue (record x { clients = all; events = x.events + 1 }) outs shown spent
    client_taken s here =
        let h = hears s here in
        let seat = is.seats n s here in
        record {
          after = ap (λ v. record x { clients = v; events = x.events + 1 }) (h.set ∙ ap (slice_set x.clients n) (h.hears.after ∙ seat_after n x.events s seat cue));
          sends = h.hears.sends ∙ seat_sends n x.events s seat cue;
          shows = h.hears.shows ∙ seat_marks n x.events s seat cue;
          spends = h.hears.spends;
          drafts = h.drafts;
        }

  module _ (few : x.events < 100000) (n at : ℕ) (cue : Cue) (all : List Seat) (outs : List Out) (shown : List Seen) (spent : Bool) (there : IsThere x.setup (place.ClientTwin n at)) (hears : CliHearsAt n at cue x.client_twins all outs shown spent) where
    pub client_twin_stays : IsCast proto serves (record x { client_twins = all; events = x.events + 1 })
    client_twin_stays =
        let s = client_twin_at n at there in
        let h = hears s.0 s.1 in
        IsCast-client_twin few at s.0 h.now all s.1 (client_goes s.0 h.now cue outs shown spent h.hears) h.set

    pub client_twin_taken : (s : Seat) → slice_get x.client_twins at ≡ Some s → IsTaken proto x (place.ClientTwin n at) (client s) cue (record x { client_twins = all; events = x.events + 1 }) outs shown spent
    client_twin_taken s here =
        let h = hears s here in
        let seat = seat_at n at s there here in
        record {
          after = ap (λ v. record x { client_twins = v; events = x.events + 1 }) (h.set ∙ ap (slice_set x.client_twins at) (h.hears.after ∙ seat_after n x.events s seat cue));
          sends = h.hears.sends ∙ seat_sends n x.events s seat cue;
          shows = h.hears.shows ∙ seat_marks n x.events s seat cue;
          spends = h.hears.spends;
          drafts = h.drafts;
        }

-- ---- what clauses say of the core at a place

module _ {P : Type 0} where
  pub replica_core : (xs : List (Site P)) (i : ℕ) (Q : Core P → Type 0) → ((t : Site P) → slice_get xs i ≡ Some t → Q (replica t)) → (s : Core P) → option_map replica (slice_get xs i) ≡ Some s → Q s
  replica_core xs i Q each s at = let m = mapped_cases replica (slice_get xs i) s at in subst Q m.1.1 (each m.0 m.1.0)

  pub client_core : (xs : List Seat) (i : ℕ) (Q : Core P → Type 0) → ((t : Seat) → slice_get xs i ≡ Some t → Q (client t)) → (s : Core P) → option_map client (slice_get xs i) ≡ Some s → Q s
  client_core xs i Q each s at = let m = mapped_cases client (slice_get xs i) s at in subst Q m.1.1 (each m.0 m.1.0)

  -- what follows where the core at a place commits at once
  abbrev pub WhereCommits : Cue → Seen → Type 0 → Core P → Type 0
  WhereCommits cue seen T s = CommitsAtOnce s cue seen → T

  pub no_replica_commits : (xs : List (Site P)) (i : ℕ) (cue : Cue) (seen : Seen) (T : Type 0) → (s : Core P) → option_map replica (slice_get xs i) ≡ Some s → WhereCommits cue seen T s
  no_replica_commits xs i cue seen T = replica_core xs i (WhereCommits cue seen T) (λ q at commits. absurd commits)

  pub client_commits : (xs : List Seat) (i : ℕ) (cue : Cue) (seen : Seen) (T : Type 0) → ((s : Seat) → slice_get xs i ≡ Some s → ClientCommits s cue seen → T)
      → (s : Core P) → option_map client (slice_get xs i) ≡ Some s → WhereCommits cue seen T s
  client_commits xs i cue seen T each = client_core xs i (WhereCommits cue seen T) each

  module _ (x now : Cast P) (view : x ≡ now) (p at : Place) (placed : p ≡ at) where
    pub at_core : (Q : Cast P → Place → Core P → Type 0) → ((s : Core P) → core_at x at ≡ Some s → Q x at s) → (s : Core P) → core_at now p ≡ Some s → Q now p s
    at_core Q each =
        subst (λ (y : Cast P). (s : Core P) → core_at y p ≡ Some s → Q y p s) view
        (subst (λ (q : Place). (s : Core P) → core_at x q ≡ Some s → Q x q s) (sym placed) each)

    pub at_there : (twin : Option ℕ) → place_of now.setup (party_at p) twin ≡ Some p → IsThere x.setup at
    at_there twin given =
        subst (IsThere x.setup) placed (subst (λ (y : Cast P). IsThere y.setup p) (sym view) (is_there now.setup (party_at p) twin p given))

-- ---- before the first event

pub length-first_seats : (c : Cluster) (n : ℕ) → length (first_seats c n) ≡ n
length-first_seats c zero = refl
length-first_seats c (suc n) = length-append (first_seats c n) (first_seat c n ∷ []) ∙ omega (arith, length-first_seats c n)

first_seated : (c : Cluster) (n : ℕ) → IsSeat c 0 n (first_seat c n)
first_seated c n = record { own = refl; placed = refl; stamp = omega arith }

first_are_seats : (c : Cluster) (n : ℕ) → AreSeats c 0 (first_seats c n)
first_are_seats c zero m s at = absurd (cc (at))
first_are_seats c (suc n) m s at =
    Each-push (IsSeat c 0) (first_seats c n) (first_seat c n) (subst (λ (m : ℕ). IsSeat c 0 m (first_seat c n)) (sym (length-first_seats c n)) (first_seated c n)) (first_are_seats c n) m s at

-- where both lists are made of the same numbers
mapped : {A : Type 0} (f : ℕ → A) (numbers : List (ℕ × ℕ)) (at : ℕ) (k : ℕ × ℕ) (s : A) → slice_get numbers at ≡ Some k → slice_get (map (λ k. f k.0) numbers) at ≡ Some s → f k.0 ≡ s
mapped f numbers at k s number there =
    same_Some (f k.0) s (sym (slice_get-map (λ k. f k.0) numbers at ∙ ap (option_map (λ k. f k.0)) number) ∙ there)

module _ {P : Type 0} (proto : Proto P) (serves : Kind → Bool) (form : KeepsForm proto serves) (x : Setup) (served : ServesAll serves x.cluster) where
  abbrev first : ℕ → Site P
  first r = first_site x proto r

  abbrev firsts : ℕ → List (Site P)
  firsts n = first_sites x proto n

  length-firsts : (n : ℕ) → length (firsts n) ≡ n
  length-firsts zero = refl
  length-firsts (suc n) = length-append (firsts n) (first n ∷ []) ∙ omega (arith, length-firsts n)

  firsts_are_own : (n : ℕ) → AreOwn proto serves x (firsts n)
  firsts_are_own zero r s at = absurd (cc (at))
  firsts_are_own (suc n) r s at =
      Each-push (IsSite proto serves x) (firsts n) (first n) (subst (λ (m : ℕ). IsSite proto serves x m (first n)) (sym (length-firsts n)) (first_is_site proto serves x n form served)) (firsts_are_own n) r s at

  IsCast-first : IsCast proto serves (first_cast proto x)
  IsCast-first = record {
    all_replicas = length-firsts (3 * x.cluster.f + 1);
    all_clients = length-first_seats x.cluster x.cluster.clients;
    all_replica_twins = length-map (replica_twins x.faulty) (λ k. first k.0);
    all_client_twins = length-map (client_twins x.faulty) (λ k. first_seat x.cluster k.0);
    serves_all = served;
    own_replicas = firsts_are_own (3 * x.cluster.f + 1);
    twin_replicas = λ at k s number there. subst (IsSite proto serves x k.0) (mapped first (replica_twins x.faulty) at k s number there) (first_is_site proto serves x k.0 form served);
    seats = first_are_seats x.cluster x.cluster.clients;
    twin_seats = λ at k s number there. subst (IsSeat x.cluster 0 k.0) (mapped (first_seat x.cluster) (client_twins x.faulty) at k s number there) (first_seated x.cluster k.0);
    few_events = omega arith;
  }

  module _ (c : Cluster) (placed : c ≡ x.cluster) (replicas : List (Site P)) (clients : List Seat) (twins : List (Site P)) (further : List Seat)
      (of_replicas : replicas ≡ first_sites x proto (3 * x.cluster.f + 1)) (of_clients : clients ≡ first_seats c c.clients)
      (of_twins : twins ≡ map (λ k. first_site x proto k.0) (replica_twins x.faulty)) (of_further : further ≡ map (λ k. first_seat x.cluster k.0) (client_twins x.faulty)) where
    pub first_as : record { setup = x; replicas = replicas; clients = clients; replica_twins = twins; client_twins = further; events = 0 } ≡ first_cast proto x
    first_as =
        let s : clients ≡ first_seats x.cluster x.cluster.clients = of_clients ∙ ap (λ (k : Cluster). first_seats k k.clients) placed in
        λ j. record { setup = x; replicas = of_replicas j; clients = s j; replica_twins = of_twins j; client_twins = of_further j; events = 0 }

    pub IsCast-new : IsCast proto serves (record { setup = x; replicas = replicas; clients = clients; replica_twins = twins; client_twins = further; events = 0 })
    IsCast-new = subst (IsCast proto serves) (sym first_as) IsCast-first
