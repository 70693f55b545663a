-- What a client does is what a run says.
use Rattle.std.proofs.Common.{◌≡◌, ◌≤◌, ◌<◌, List, Result, Ok, Err, All, IsOkAnd, IsTrue, refl, sym, ap, subst, arith}
use Rattle.std.specs.Prelude.{◌≢◌, IfOk, MatchResult, OnErr, OnOk, None, Some, false, if◌then◌else◌}
use Rattle.std.proofs.lemmas.Bool.{ltb-true}
use Rattle.arrayvec.specs.ArrayVec.{ArrayVec}
use Rattle.ab_num.specs.declared.memory.OutOfMemory.{OutOfMemory}
use Rattle.ab_num.specs.declared.party.Party.TheVariants.{Client}
use Rattle.ab_keys.specs.Keys.{is_party}
use Rattle.ab_hist.specs.declared.request.Request.{Request}
use Rattle.ab_msg.specs.declared.message.Msg.{Msg}
use Rattle.ab_msg.specs.declared.message.Out.{Out}
use Rattle.ab_abs.specs.declared.ballot.Ballot.{Ballot}
use Rattle.ab_abs.specs.declared.seen.Seen.{Seen}
use Rattle.ab_abs.specs.declared.seen.Seen.TheVariants.{Committed}
use Rattle.ab_run.specs.declared.phase.Phase.{Phase}
use Rattle.ab_run.specs.declared.phase.Phase.TheVariants.{Idle, Waiting, Panicking}
use Rattle.ab_run.specs.Forms.{IsDraftOf}
use Rattle.ab_run.specs.Local.{Cue, cue_message}
use Rattle.ab_replica.specs.declared.effects.Effects.{Effects}
use Rattle.ab_client.specs.Clients.{Seat, after, sends, marks}
use Rattle.ab_client.specs.Moved.{IsLastVote}
use Rattle.ab_party.specs.declared.fault.CommandFault.TheVariants.{Busy}
use Rattle.ab_party.specs.Credentials.{Credentials}
use Rattle.ab_party.specs.Parties.{ClientCommits, ClientHears, IsClientOf, is_idle, seat_refusal}

module _ (c : Credentials) (s : Seat) (is : IsClientOf c s) where
  few_clients : s.me ≤ 15
  few_clients =
      let lt : s.me < c.ring.clients = ltb-true s.me c.ring.clients (subst (λ p. IsTrue (is_party c.ring.f c.ring.clients p)) is.own is.ring.party) in
      omega (arith, lt, is.ring.bounds.few_clients)

  pub client_stays : (cue : Cue) (now : Seat) → now ≡ after s cue → IsClientOf c now
  client_stays cue now moved = subst (IsClientOf c) (sym moved) (record { ring = is.ring; own = is.own; f = is.f })

  pub client_drafts : (outs : List Out) → (s.me ≤ 15 → All (IsDraftOf s.cluster.f (Client s.me)) outs) → All (IsDraftOf c.ring.f c.ring.me) outs
  client_drafts outs drafts = subst (λ p. All (IsDraftOf c.ring.f p) outs) (sym is.own) (subst (λ f. All (IsDraftOf f (Client s.me)) outs) (sym is.f) (drafts few_clients))

-- what a client sends and shows, where the code has it without what it spends
module _ (done : Result (List Out × ArrayVec Seen) OutOfMemory) where
  abbrev pub Unspent : Result Effects OutOfMemory → Type 0
  Unspent result = MatchResult result (λ e. (done ≡ Ok (e.outs, e.marks)) × (e.spent ≡ false)) (λ e. done ≡ Err e)

  module _ (s : Seat) (cue : Cue) (now : Seat) where
    pub unspent_hears : (result : Result Effects OutOfMemory) → Unspent result
        → OnOk done (now ≡ after s cue) → IfOk done (λ r. r.0 ≡ sends s cue) → IfOk done (λ r. r.1.items ≡ marks s cue) → OnOk done (now.cli.stamp ≡ s.cli.stamp)
        → IfOk result (λ e. ClientHears s cue now e.outs e.marks.items e.spent)
    unspent_hears (Err refused) same moves outs shown stamp = tt
    unspent_hears (Ok e) same moves outs shown stamp =
        let of : (Q : List Out × ArrayVec Seen → Type 0) → IfOk done Q → Q (e.outs, e.marks) = λ Q holds. subst (λ (d : Result (List Out × ArrayVec Seen) OutOfMemory). IfOk d Q) same.0 holds in
        let keeps : now.cli.stamp ≡ s.cli.stamp = of (λ r. now.cli.stamp ≡ s.cli.stamp) stamp in
        record {
          after = of (λ r. now ≡ after s cue) moves;
          sends = of (λ r. r.0 ≡ sends s cue) outs;
          shows = of (λ r. r.1.items ≡ marks s cue) shown;
          stamp = omega (arith, keeps);
          spends = same.1;
        }

    pub unspent_own : (c : Credentials) → IsClientOf c s → (result : Result Effects OutOfMemory) → Unspent result → OnOk done (now ≡ after s cue) → OnOk result (IsClientOf c now)
    unspent_own c is (Err refused) same moves = tt
    unspent_own c is (Ok e) same moves = client_stays c s is cue now (subst (λ (d : Result (List Out × ArrayVec Seen) OutOfMemory). OnOk d (now ≡ after s cue)) same.0 moves)

  pub unspent_drafts : (c : Credentials) (s : Seat) → IsClientOf c s → (result : Result Effects OutOfMemory) → Unspent result → (s.me ≤ 15 → IfOk done (λ r. All (IsDraftOf s.cluster.f (Client s.me)) r.0))
      → IfOk result (λ e. All (IsDraftOf c.ring.f c.ring.me) e.outs)
  unspent_drafts c s is (Err refused) same drafts = tt
  unspent_drafts c s is (Ok e) same drafts =
      client_drafts c s is e.outs (λ few. subst (λ (d : Result (List Out × ArrayVec Seen) OutOfMemory). IfOk d (λ r. All (IsDraftOf s.cluster.f (Client s.me)) r.0)) same.0 (drafts few))

  pub unspent_shows : (result : Result Effects OutOfMemory) (seen : List Seen) → Unspent result → IsOkAnd done (λ r. r.1.items ≡ seen) → IsOkAnd result (λ e. e.marks.items ≡ seen)
  unspent_shows (Ok e) seen same shows = subst (λ (d : Result (List Out × ArrayVec Seen) OutOfMemory). IsOkAnd d (λ r. r.1.items ≡ seen)) same.0 shows
  unspent_shows (Err refused) seen same shows = absurd (subst (λ (d : Result (List Out × ArrayVec Seen) OutOfMemory). IsOkAnd d (λ r. r.1.items ≡ seen)) same shows)

  pub unspent_err : (Q : Type 0) (result : Result Effects OutOfMemory) → Unspent result → OnErr done Q → OnErr result Q
  unspent_err Q (Ok e) same holds = tt
  unspent_err Q (Err refused) same holds = subst (λ (d : Result (List Out × ArrayVec Seen) OutOfMemory). OnErr d Q) same holds

pub message_commits : (s : Seat) (cue : Cue) (seen : Seen) (m : Msg) → cue ≡ cue_message m → (T : Type 0)
    → ((r : Request) (b : Ballot) → IsLastVote s m r b → seen ≡ Committed s.cli.at s.me r b.n b.d b.reply → T) → ClientCommits s cue seen → T
message_commits s cue seen m is T each commits =
    let there : ClientCommits s (cue_message m) seen = subst (λ (u : Cue). ClientCommits s u seen) is commits in
    each there.0 there.1 there.2 there.3

pub idle_takes : (s : Seat) → s.cli.phase ≡ Idle → seat_refusal s ≡ None
idle_takes s is = ap (λ (p : Phase). if is_idle p then None else Some Busy) is

is_busy : (p : Phase) → p ≢ Idle → is_idle p ≡ false
is_busy Idle other = absurd (other refl)
is_busy Waiting other = refl
is_busy Panicking other = refl

pub busy_refuses : (s : Seat) → s.cli.phase ≢ Idle → seat_refusal s ≡ Some Busy
busy_refuses s other = ap (λ b. if b then None else Some Busy) (is_busy s.cli.phase other)
