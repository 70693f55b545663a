-- How the number of a client's timer rises.
use Rattle.std.proofs.Common.{◌≡◌, ℕ, ◌+◌, ◌≤◌, ◌==◌, ◌&&◌, Bool, true, false, Option, None, Some, List, [], ◌∷◌, refl, arith, if◌then◌else◌}
use Rattle.std.specs.Prelude.{nat_le, nat_lt, map}
use Rattle.std.specs.List.{list_any}
use Rattle.std.proofs.lemmas.Bool.{and_parts}
use Rattle.arrayvec.specs.ArrayVec.{ArrayVec}
use Rattle.ab_hist.specs.declared.request.Request.{Request}
use Rattle.ab_hist.specs.Trimmed.{Trimmed}
use Rattle.ab_num.specs.declared.plan.Kind.{Kind}
use Rattle.ab_num.specs.declared.plan.Kind.TheVariants as kind
use Rattle.ab_num.specs.declared.party.Party.TheVariants.{Replica}
use Rattle.ab_msg.specs.declared.content.Content.{Content}
use Rattle.ab_msg.specs.declared.content.Content.TheVariants.{Resp, Spec}
use Rattle.ab_msg.specs.declared.signed.Signed.{Signed}
use Rattle.ab_msg.specs.declared.zcert.Zcert.{Zcert}
use Rattle.ab_msg.specs.declared.message.Msg.{Msg}
use Rattle.ab_msg.specs.declared.message.Msg.TheVariants as msg
use Rattle.ab_msg.specs.Claims.{tail_claims}
use Rattle.ab_abs.specs.declared.ballot.Ballot.{Ballot}
use Rattle.ab_abs.specs.Votes.{has_voted, is_full_by}
use Rattle.ab_abs.specs.Kinds.{rule_in, counts_responses, is_zcert}
use Rattle.ab_stable.specs.Offers.{list_in}
use Rattle.ab_run.specs.declared.phase.Phase.{Phase}
use Rattle.ab_run.specs.declared.phase.Phase.TheVariants.{Idle, Waiting, Panicking}
use Rattle.ab_run.specs.Setups.{RunSetup, within, replicas, last_instance}
use Rattle.ab_run.specs.Replicas.{cert_instance}
use Rattle.ab_run.specs.Asking.{teller, is_told_full, told_claims}
use Rattle.ab_run.specs.Clients.{Cli, CliAction, move_ask, move_vote, move_commit, move_keep, move_take, move_panic, move_again, move_spec, move_cert, move_told, after_move, vote_claim, spec_claim, own_cert, hears_tail, if_open, counts_chains, certifying, panics_in, asking, is_abort_of, kind_at, taking_with, taking, counting_by, counting, counting_spec, keeping, hears_response, hears_spec, telling_by, telling, hears, cert_due}
use Rattle.ab_run.specs.Local.{Cue, cue_command, cue_message, cue_time, after_moves, moves_at, cli_after, cli_local}
use Rattle.ab_client.specs.Timers.{number_of, invocations, entries, passed_over, all_invocations, all_entries, all_passed}

-- an invocation has the next stamp, and an entry leads on
abbrev IsNext : Cli → CliAction → Type 0
IsNext s (move_ask m) = m.stamp ≡ s.stamp + 1
IsNext s (move_take j cert t m) = s.at ≤ j
IsNext s _ = Unit {0}

abbrev AreNext : Cli → List CliAction → Type 0
AreNext s [] = Unit {0}
AreNext s (move ∷ moves) = IsNext s move × AreNext (after_move s move) moves

counted : (s : Cli) (moves : List CliAction) → AreNext s moves → number_of (after_moves s moves) ≡ number_of s + invocations moves + entries moves + passed_over s moves
counted s [] next = omega arith
counted s (move_ask m ∷ moves) next = let rest = counted (after_move s (move_ask m)) moves next.1 in omega (arith, rest, next.0)
counted s (move_vote b ∷ moves) next = let rest = counted (after_move s (move_vote b)) moves next.1 in omega (arith, rest)
counted s (move_commit m n d reply claims ∷ moves) next = let rest = counted (after_move s (move_commit m n d reply claims)) moves next.1 in omega (arith, rest)
counted s (move_keep v ∷ moves) next = let rest = counted (after_move s (move_keep v)) moves next.1 in omega (arith, rest)
counted s (move_take j cert t m ∷ moves) next = let rest = counted (after_move s (move_take j cert t m)) moves next.1 in omega (arith, rest, next.0)
counted s (move_panic ∷ moves) next = let rest = counted (after_move s move_panic) moves next.1 in omega (arith, rest)
counted s (move_again m ∷ moves) next = let rest = counted (after_move s (move_again m)) moves next.1 in omega (arith, rest)
counted s (move_spec b sig ∷ moves) next = let rest = counted (after_move s (move_spec b sig)) moves next.1 in omega (arith, rest)
counted s (move_cert z ∷ moves) next = let rest = counted (after_move s (move_cert z)) moves next.1 in omega (arith, rest)
counted s (move_told r ∷ moves) next = let rest = counted (after_move s (move_told r)) moves next.1 in omega (arith, rest)

pub still_counted : (s : Cli) (moves : List CliAction) → entries moves ≡ 0 → passed_over s moves ≡ 0
still_counted s [] none = refl
still_counted s (move_take j cert t m ∷ moves) none = absurd (cc (none))
still_counted s (move_ask m ∷ moves) none = let rest = still_counted (after_move s (move_ask m)) moves none in omega (arith, rest)
still_counted s (move_vote b ∷ moves) none = let rest = still_counted (after_move s (move_vote b)) moves none in omega (arith, rest)
still_counted s (move_commit m n d reply claims ∷ moves) none = let rest = still_counted (after_move s (move_commit m n d reply claims)) moves none in omega (arith, rest)
still_counted s (move_keep v ∷ moves) none = let rest = still_counted (after_move s (move_keep v)) moves none in omega (arith, rest)
still_counted s (move_panic ∷ moves) none = let rest = still_counted (after_move s move_panic) moves none in omega (arith, rest)
still_counted s (move_again m ∷ moves) none = let rest = still_counted (after_move s (move_again m)) moves none in omega (arith, rest)
still_counted s (move_spec b sig ∷ moves) none = let rest = still_counted (after_move s (move_spec b sig)) moves none in omega (arith, rest)
still_counted s (move_cert z ∷ moves) none = let rest = still_counted (after_move s (move_cert z)) moves none in omega (arith, rest)
still_counted s (move_told r ∷ moves) none = let rest = still_counted (after_move s (move_told r)) moves none in omega (arith, rest)

-- ---- what a client does in a call

next_if : (s : Cli) (b : Bool) (yes' : List CliAction) → (b ≡ true → AreNext s yes') → AreNext s (if b then yes' else [])
next_if s true yes' each = each refl
next_if s false yes' each = tt

next_unless : (s : Cli) (b : Bool) (yes' : List CliAction) → AreNext s yes' → AreNext s (if b then [] else yes')
next_unless s true yes' each = tt
next_unless s false yes' each = each

module _ (k : RunSetup) (c : ℕ) where
  next_asking : (s : Cli) (phase : Phase) (command : ArrayVec ℕ) → AreNext s (asking c s phase command)
  next_asking s Idle command = (refl, tt)
  next_asking s Waiting command = tt
  next_asking s Panicking command = tt

  next_taking_with : (s : Cli) (m : Request) (j : ℕ) (cert : List Signed) (t : Option Trimmed) → AreNext s (taking_with k s m j cert t)
  next_taking_with s m j cert None = tt
  next_taking_with s m j cert (Some t) =
      next_if s (nat_le s.at j && nat_lt j last_instance) (move_take j cert t m ∷ [])
      (λ is. (let both = and_parts (nat_le s.at j) (nat_lt j last_instance) is in grind (arith, both.0), tt))

  next_tail : (s : Cli) (m : Request) (n : ℕ) (d : List ℕ) (reply : Option (ArrayVec ℕ)) (claims : List Content) → AreNext s (hears_tail m n d reply claims)
  next_tail s m n d None claims = tt
  next_tail s m n d (Some reply) claims = (tt, tt)

  next_counting_by : (claim : Ballot → Content) (counted : CliAction) (s : Cli) (m : Request) (b : Ballot) → IsNext s counted → AreNext s (counting_by k claim counted s m b)
  next_counting_by claim counted s m b next =
      let full = is_full_by (rule_in (within k s.at)) (replicas k) (b ∷ s.votes) b in
      let commit = move_commit m b.n b.d b.reply (map claim (b ∷ s.votes)) ∷ [] in
      let votes = counted ∷ (if full then commit else []) in
      next_if s (nat_lt b.by (replicas k)) (if has_voted s.votes b.by then [] else votes)
      (λ _. next_unless s (has_voted s.votes b.by) votes (next, next_if (after_move s counted) full commit (λ _. (tt, tt))))

  next_counting : (s : Cli) (m : Request) (b : Ballot) → AreNext s (counting k c s m b)
  next_counting s m b = next_counting_by (vote_claim s.at c m.stamp) (move_vote b) s m b tt

  next_counting_spec : (s : Cli) (m : Request) (b : Ballot) (sig : List ℕ) → AreNext s (counting_spec k c s m b sig)
  next_counting_spec s m b sig = next_counting_by (spec_claim s.at c m.stamp) (move_spec b sig) s m b tt

  -- what is kept changes nothing of where it is
  next_keeping : (s : Cli) (m : Request) (v : Signed) → AreNext s (keeping k s m v)
  next_keeping s m v =
      next_unless s (list_any (λ w. w.maker == v.maker) s.kept) (move_keep v ∷ taking k s m s.at (own_cert k.cluster s.at v s.kept))
      (tt, after_keeping (list_in k.cluster s.at (own_cert k.cluster s.at v s.kept)))
    where
      after_keeping : (t : Option Trimmed) → AreNext (after_move s (move_keep v)) (taking_with k s m s.at (own_cert k.cluster s.at v s.kept) t)
      after_keeping None = tt
      after_keeping (Some t) = next_if (after_move s (move_keep v)) (nat_le s.at s.at && nat_lt s.at last_instance) (move_take s.at (own_cert k.cluster s.at v s.kept) t m ∷ []) (λ _. (omega arith, tt))

  next_response : (s : Cli) (waits : Bool) (m : Request) (content : Content) → AreNext s (hears_response k c s waits m content)
  next_response s waits m (Resp (Replica r) i d' stamp n d reply) =
      let b : Ballot = record { by = r; n = n; d = d; reply = reply } in
      next_if s ((waits && counts_responses (kind_at k s)) && ((i == s.at) && ((d' == c) && (stamp == s.stamp)))) (counting k c s m b) (λ _. next_counting s m b)
  next_response s waits m _ = tt

  next_spec : (s : Cli) (waits : Bool) (m : Request) (content : Content) (sig : List ℕ) → AreNext s (hears_spec k c s waits m content sig)
  next_spec s waits m (Spec (Replica r) i d' stamp n d reply) sig =
      let b : Ballot = record { by = r; n = n; d = d; reply = reply } in
      next_if s ((waits && is_zcert (kind_at k s)) && ((i == s.at) && ((d' == c) && (stamp == s.stamp)))) (counting_spec k c s m b sig) (λ _. next_counting_spec s m b sig)
  next_spec s waits m _ sig = tt

  next_telling_by : (s : Cli) (m : Request) (z : Zcert) (o : Option ℕ) → AreNext s (telling_by k c s m z o)
  next_telling_by s m z None = tt
  next_telling_by s m z (Some r) =
      let full = is_told_full k.cluster.f (r ∷ s.told) in
      let commit = move_commit m z.n z.d z.reply (told_claims s.at c z (r ∷ s.told)) ∷ [] in
      next_unless s (list_any (λ q. q == r) s.told) (move_told r ∷ (if full then commit else [])) (tt, next_if (after_move s (move_told r)) full commit (λ _. (tt, tt)))

  next_telling : (s : Cli) (m : Request) (content : Content) (o : Option Zcert) → AreNext s (telling k c s m content o)
  next_telling s m content None = tt
  next_telling s m content (Some z) = next_telling_by s m z (teller k.cluster.f s.at c z content)

  next_hears : (s : Cli) (waits : Bool) (m : Request) (given : Msg) → AreNext s (hears k c s waits m given)
  next_hears s waits m (msg.Resp content tag) = next_response s waits m content
  next_hears s waits m (msg.Chain i q n d reply tags) =
      next_if s ((waits && counts_chains (kind_at k s)) && ((i == s.at) && ((q.client == c) && (q.stamp == s.stamp)))) (hears_tail m n d reply (tail_claims k.cluster.f i q n d reply))
      (λ _. next_tail s m n d reply (tail_claims k.cluster.f i q n d reply))
  next_hears s waits m (msg.Abort abort) = next_if s (is_abort_of (kind_at k s) k.cluster.f s.at abort.content) (keeping k s m abort) (λ _. next_keeping s m abort)
  next_hears s waits m (msg.Init cert) = next_taking_with s m (cert_instance cert) cert (list_in k.cluster (cert_instance cert) cert)
  next_hears s waits m (msg.Spec spec) = next_spec s waits m spec.content spec.sig
  next_hears s waits m (msg.LocalCommit content tag) = next_if s waits (telling k c s m content s.sent) (λ _. next_telling s m content s.sent)
  next_hears s waits m _ = tt

  next_open : (s : Cli) (phase : Phase) (last : Option Request) (doing : Bool → Request → List CliAction) → ((waits : Bool) (m : Request) → AreNext s (doing waits m)) → AreNext s (if_open phase last doing)
  next_open s Idle last doing each = tt
  next_open s Waiting None doing each = tt
  next_open s Waiting (Some m) doing each = each true m
  next_open s Panicking None doing each = tt
  next_open s Panicking (Some m) doing each = each false m

  next_certifying : (s : Cli) (made : Option Zcert) → AreNext s (certifying made)
  next_certifying s None = (tt, tt)
  next_certifying s (Some z) = (tt, tt)

  next_panics : (s : Cli) (of : Kind) (waits : Bool) (m : Request) (made : Option Zcert) → AreNext s (panics_in of waits m made)
  next_panics s kind.Quorum waits m made = (tt, tt)
  next_panics s kind.ZLight waits m made = (tt, tt)
  next_panics s kind.Chain waits m made = (tt, tt)
  next_panics s kind.Backup waits m made = next_if s waits (move_again m ∷ []) (λ _. (tt, tt))
  next_panics s kind.ZCert true m made = next_certifying s made
  next_panics s kind.ZCert false m made = (tt, tt)

  next_moves : (s : Cli) (cue : Cue) → AreNext s (moves_at k c s cue)
  next_moves s (cue_command command) = next_asking s s.phase command
  next_moves s (cue_message given) = next_open s s.phase s.last (λ waits q. hears k c s waits q given) (λ waits m. next_hears s waits m given)
  next_moves s cue_time = next_open s s.phase s.last (λ waits m. panics_in (kind_at k s) waits m (cert_due k s m)) (λ waits m. next_panics s (kind_at k s) waits m (cert_due k s m))

pub call_counted : (k : RunSetup) (c : ℕ) (s : Cli) (cue : Cue) → number_of (cli_after k c s cue) ≡ number_of s + invocations (moves_at k c s cue) + entries (moves_at k c s cue) + passed_over s (moves_at k c s cue)
call_counted k c s cue = counted s (moves_at k c s cue) (next_moves k c s cue)

pub all_counted : (k : RunSetup) (c : ℕ) (cues : List Cue) → number_of (cli_local k c cues) ≡ all_invocations k c cues + all_entries k c cues + all_passed k c cues + 1
all_counted k c [] = refl
all_counted k c (cue ∷ cues) =
    let now = call_counted k c (cli_local k c cues) cue in
    let before = all_counted k c cues in
    omega (arith, now, before)
