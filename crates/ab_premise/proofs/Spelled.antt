-- What correct parties make in a run has bytes.
use Rattle.std.proofs.Common.{◌≡◌, ℕ, suc, ◌+◌, ◌<◌, ◌≤◌, true, false, Bool, Some, None, Option, List, [], ◌∷◌, ◌++◌, length, take, refl, sym, ap, subst, inl, inr, arith, append-nil}
use Rattle.std.proofs.lemmas.Grind.{flat_map-append}
use Rattle.std.specs.Prelude.{All, Contains, nat_le, nat_lt, ◌==◌, ◌&&◌, ◌^◌, if◌then◌else◌, flat_map, map}
use Rattle.arrayvec.specs.ArrayVec.{ArrayVec}
use Rattle.std.proofs.lemmas.Bool.{cases_Bool, cases_eq, and_parts, ltb-true}
use Rattle.std.specs.List.{list_any}
use Rattle.std.proofs.lemmas.List.Elements.{All-contains, Contains-append_cases}
use Rattle.ab_num.specs.declared.party.Party.{Party}
use Rattle.ab_num.specs.declared.party.Party.TheVariants.{Replica, Client}
use Rattle.ab_num.specs.declared.plan.Kind.{Kind}
use Rattle.ab_num.specs.declared.plan.Kind.TheVariants as kind
use Rattle.ab_num.specs.Parties.{party_eq}
use Rattle.ab_num.proofs.Lists.{flat_map_cases, Contains-filter_cases, Contains-cons_cases}
use Rattle.ab_hist.specs.declared.request.Request.{Request}
use Rattle.ab_hist.specs.Trimmed.{Trimmed}
use Rattle.ab_hist.proofs.DigestLemmas.{length-digest_of}
use Rattle.ab_svc.specs.Machines.{Reply}
use Rattle.ab_msg.specs.declared.content.Content.{Content}
use Rattle.ab_msg.specs.declared.content.Content.TheVariants as content
use Rattle.ab_msg.specs.declared.signed.Signed.{Signed}
use Rattle.ab_msg.specs.declared.zcert.Zcert.{Zcert}
use Rattle.ab_msg.specs.declared.message.Msg.{Msg}
use Rattle.ab_msg.specs.declared.message.Msg.TheVariants as msg
use Rattle.ab_msg.specs.Claims.{fresh, maker_of, stated, claims, tail_claims}
use Rattle.ab_msg.specs.Fields.{IsInstance, IsRequest}
use Rattle.ab_msg.specs.Contents.{IsContent, spell_content}
use Rattle.ab_msg.specs.Messages.{IsMessage}
use Rattle.ab_wire.proofs.KindLemmas.{abort_content as of_grammar}
use Rattle.ab_abs.specs.declared.ballot.Ballot.{Ballot}
use Rattle.ab_abs.specs.Faults.{is_faulty}
use Rattle.ab_abs.specs.Kinds.{rule_in}
use Rattle.ab_abs.specs.Votes.{has_voted, is_full_by}
use Rattle.ab_abs.specs.Messages.{Call, took, timed, IsFormed}
use Rattle.ab_abs.specs.Ensembles.{Proto}
use Rattle.ab_abs.specs.FormLaws.{KeepsForm}
use Rattle.ab_stable.specs.Offers.{list_in}
use Rattle.ab_run.specs.Forms.{IsWrittenRep, IsWrittenSetup}
use Rattle.ab_run.proofs.Written.{IsGood, AllGood, turns_good, first_written, placed, abort_written, turn_keeps, turn_drafts}
use Rattle.ab_abs.proofs.Drafts.{few_replicas}
use Rattle.ab_run.specs.Setups.{RunSetup, replicas, within, last_instance}
use Rattle.ab_run.specs.Replicas.{Rep, RepAction, turn_enter, turn_call, turn_halt, turn_sign, turn_bring, turn_abort, turn_mark, turn_keep, turn_trim, after_turn, after_turns, made_in_turn, state_at, pen_of, cert_instance, abort_content as stopped, checkpoint_at, turns}
use Rattle.ab_run.specs.Clients.{Cli, CliAction, move_ask, move_vote, move_commit, move_keep, move_take, move_panic, move_again, move_spec, move_cert, move_told, asking, after_move, made_in_move, hears, hears_response, hears_spec, hears_tail, counting_by, telling, telling_by, keeping, taking, taking_with, own_cert, kind_at, certifying, cert_due, panics, panics_in, if_open, moves, vote_claim, spec_claim, counts_chains, is_abort_of}
use Rattle.ab_run.specs.Asking.{teller, is_told_full, told_claims}
use Rattle.ab_run.specs.declared.phase.Phase.{Phase}
use Rattle.ab_run.specs.declared.phase.Phase.TheVariants.{Idle, Waiting, Panicking}
use Rattle.ab_run.specs.Runs.{Event, invoke, to_replica, to_client, replica_time, client_time, Run, run, step, start}
use Rattle.ab_run.specs.Local.{made_in_turns, rep_after, rep_makes, Cue, cue_command, cue_message, cue_time, after_moves, made_in_moves, moves_at, cli_makes}
use Rattle.ab_run.specs.Premises.{checked}
use Rattle.ab_run.specs.Inputs.{Input, told, came, rang, elsewhere, Opener, opened, event_in, events_in, all_checked, SpellsApart}
use Rattle.ab_run.proofs.Effects.{at_call, at_cue, called, cued}
use Rattle.ab_premise.specs.Spelled.{IsSpelledInput, AreSpelledInputs, OpensSpelled, IsSpelledRun, AreSpelledContents}

one_of : (s c : Content) → IsContent s → Contains (s ∷ []) c → IsContent c
one_of s c is has = elim (Contains-cons_cases s [] c has) [
  | inl e ↦ subst IsContent e is
  | inr gone ↦ absurd (omega (arith, gone.1))
]

-- what each replica makes
module _ {P : Type 0} (k : RunSetup) (proto : Proto P) {serves : Kind → Bool} (form : KeepsForm proto serves) (are : IsWrittenSetup k serves) (contents : AreSpelledContents k.cluster.f) where
  record Makes (r : ℕ) (made : List Content) (now : Rep P) : Type 0 where
    each : (c : Content) → Contains made c → IsContent c
    stands : IsWrittenRep proto serves k.cluster r now

  nothing : (c : Content) → Contains [] c → IsContent c
  nothing c gone = absurd (omega (arith, gone.1))

  both : (xs ys : List Content) → ((c : Content) → Contains xs c → IsContent c) → ((c : Content) → Contains ys c → IsContent c) → (c : Content) → Contains (xs ++ ys) c → IsContent c
  both xs ys one other c has = elim (Contains-append_cases xs ys c has) [ inl here ↦ one c here | inr there ↦ other c there ]

  -- the log has so many entries, and there is a number for them
  checkpoint_written : (r n : ℕ) (s : Rep P) → r < replicas k → 0 < n → n ≤ length (state_at k proto s).log → IsWrittenRep proto serves k.cluster r s → IsContent (checkpoint_at k proto r s n)
  checkpoint_written r n s lt some within was =
      let few = (form.written k.cluster s.at r s.value was.arises).few in
      ((omega arith, few_replicas k.cluster r lt), (placed proto serves k.cluster s.at r s.value was.arises, ((omega (arith, some), omega (arith, within, few)), length-digest_of (take n (state_at k proto s).log))))

  turn_makes : (r : ℕ) (t : RepAction) (s : Rep P) → r < replicas k → IsGood k proto r s t → IsWrittenRep proto serves k.cluster r s → (c : Content) → Contains (made_in_turn k proto r s t) c → IsContent c
  turn_makes r (turn_enter j cert n h) s lt good was = nothing
  turn_makes r (turn_call call) s lt good was = λ c has.
      let sends = proto.sends (pen_of k proto r s) s.value call in
      let found = flat_map_cases (λ o. stated k.cluster.f (Replica r) o.msg) sends c has in
      let o = found.0 in
      let fresh_in = Contains-filter_cases (λ q. party_eq (maker_of q) (Replica r)) (fresh k.cluster.f (Replica r) o.msg) c found.2 in
      let draft = turn_drafts k proto form are r (turn_call call) s lt good was o found.1 in
      All-contains IsContent (fresh k.cluster.f (Replica r) o.msg) c (contents.stated r o.msg (few_replicas k.cluster r lt) draft.draft) fresh_in.0
  turn_makes r turn_halt s lt good was = nothing
  turn_makes r turn_sign s lt good was = λ c has. one_of (stopped k proto r s) c (of_grammar (stopped k proto r s) (abort_written k proto form are r s lt was)) has
  turn_makes r (turn_bring c) s lt good was = nothing
  turn_makes r (turn_abort c) s lt good was = nothing
  turn_makes r (turn_mark n) s lt good was = λ c has. one_of (checkpoint_at k proto r s n) c (checkpoint_written r n s lt good.0 good.1 was) has
  turn_makes r (turn_keep v) s lt good was = nothing
  turn_makes r (turn_trim n) s lt good was = nothing

  turns_make : (r : ℕ) (ts : List RepAction) (s : Rep P) → r < replicas k → AllGood k proto r s ts → IsWrittenRep proto serves k.cluster r s → Makes r (made_in_turns k proto r s ts) (after_turns k proto r s ts)
  turns_make r [] s lt good was = record { each = nothing; stands = was }
  turns_make r (t ∷ ts) s lt good was =
      let now = after_turn k proto r s t in
      let rest = turns_make r ts now lt good.1 (turn_keeps k proto form are r t s lt good.0 was) in
      record { each = both (made_in_turns k proto r now ts) (made_in_turn k proto r s t) rest.each (turn_makes r t s lt good.0 was); stands = rest.stands }

  call_makes : (r : ℕ) (s : Rep P) (call : Call) → r < replicas k → IsFormed call → IsWrittenRep proto serves k.cluster r s → Makes r (rep_makes k proto r s call) (rep_after k proto r s call)
  call_makes r s call lt formed was =
      turns_make r (turns k proto r s call) s lt (turns_good k proto form are r s call formed was) was

-- ---- the moves of clients

-- a client's own request, which has bytes
abbrev IsOwned : ℕ → Request → Type 0
IsOwned c m = IsRequest 0 15 m × (m.client ≡ c)

-- a move whose parts have bytes, of a client after at most n events
abbrev IsFine : ℕ → ℕ → CliAction → Type 0
IsFine c n (move_ask m) = IsOwned c m × (m.stamp ≤ n)
IsFine c n (move_vote b) = Unit {0}
IsFine c n (move_commit m d e reply claims) = Unit {0}
IsFine c n (move_keep v) = Unit {0}
IsFine c n (move_take j cert t m) = (j < last_instance) × IsOwned c m
IsFine c n move_panic = Unit {0}
IsFine c n (move_again m) = Unit {0}
IsFine c n (move_spec b sig) = Unit {0}
IsFine c n (move_cert z) = Unit {0}
IsFine c n (move_told r) = Unit {0}

abbrev AllFine : ℕ → ℕ → List CliAction → Type 0
AllFine c n [] = Unit {0}
AllFine c n (t ∷ ts) = IsFine c n t × AllFine c n ts

-- where a client is after at most n events
record Sits (c n : ℕ) (s : Cli) : Type 0 where
  at : IsInstance s.at
  stamp : s.stamp ≤ n
  last : (m : Request) → s.last ≡ Some m → IsOwned c m

record Does (c n : ℕ) (made : List Content) (now : Cli) : Type 0 where
  each : (t : Content) → Contains made t → IsContent t
  sits : Sits c n now

no_content : (c : Content) → Contains [] c → IsContent c
no_content c gone = absurd (omega (arith, gone.1))

move_does : (c n : ℕ) (t : CliAction) (s : Cli) → c ≤ 15 → IsFine c n t → Sits c n s → Does c n (made_in_move c s t) (after_move s t)
move_does c n (move_ask m) s le fine sits = record {
  each = λ q has. one_of (content.Req (Client c) s.at m) q (sym (ap Client fine.0.1), (sits.at, fine.0.0)) has;
  sits = record { at = sits.at; stamp = fine.1; last = λ q is. let same : m ≡ q = cc (is) in subst (IsOwned c) same fine.0 };
}
move_does c n (move_vote b) s le fine sits = record { each = no_content; sits = record { at = sits.at; stamp = sits.stamp; last = sits.last } }
move_does c n (move_commit m d e reply claims) s le fine sits = record { each = no_content; sits = record { at = sits.at; stamp = sits.stamp; last = sits.last } }
move_does c n (move_keep v) s le fine sits = record { each = no_content; sits = record { at = sits.at; stamp = sits.stamp; last = sits.last } }
move_does c n (move_take j cert t m) s le fine sits = record {
  each = λ q has. one_of (content.Req (Client c) (j + 1) m) q (sym (ap Client fine.1.1), ((omega arith, omega (arith, fine.0)), fine.1.0)) has;
  sits = record { at = (omega arith, omega (arith, fine.0)); stamp = sits.stamp; last = sits.last };
}
move_does c n move_panic s le fine sits = record {
  each = λ q has. one_of (content.Panic (Client c) s.at) q ((omega arith, le), sits.at) has;
  sits = record { at = sits.at; stamp = sits.stamp; last = sits.last };
}
move_does c n (move_again m) s le fine sits = record { each = no_content; sits = record { at = sits.at; stamp = sits.stamp; last = sits.last } }
move_does c n (move_spec b sig) s le fine sits = record { each = no_content; sits = record { at = sits.at; stamp = sits.stamp; last = sits.last } }
move_does c n (move_cert z) s le fine sits = record { each = no_content; sits = record { at = sits.at; stamp = sits.stamp; last = sits.last } }
move_does c n (move_told r) s le fine sits = record { each = no_content; sits = record { at = sits.at; stamp = sits.stamp; last = sits.last } }

moves_do : (c n : ℕ) (ts : List CliAction) (s : Cli) → c ≤ 15 → AllFine c n ts → Sits c n s → Does c n (made_in_moves c s ts) (after_moves s ts)
moves_do c n [] s le fine sits = record { each = no_content; sits = sits }
moves_do c n (t ∷ ts) s le fine sits =
    let one = move_does c n t s le fine.0 sits in
    let rest = moves_do c n ts (after_move s t) le fine.1 one.sits in
    record {
      each = λ q has. elim (Contains-append_cases (made_in_moves c (after_move s t) ts) (made_in_move c s t) q has) [ inl later ↦ rest.each q later | inr now ↦ one.each q now ];
      sits = rest.sits;
    }

fine_if : (c n : ℕ) (b : Bool) (ts us : List CliAction) → AllFine c n ts → AllFine c n us → AllFine c n (if b then ts else us)
fine_if c n true ts us one other = one
fine_if c n false ts us one other = other

tail_fine : (c n : ℕ) (m : Request) (x : ℕ) (d : List ℕ) (reply : Option Reply) (claims : List Content) → AllFine c n (hears_tail m x d reply claims)
tail_fine c n m x d None claims = tt
tail_fine c n m x d (Some reply) claims = (tt, tt)

certifying_fine : (c n : ℕ) (made : Option Zcert) → AllFine c n (certifying made)
certifying_fine c n None = (tt, tt)
certifying_fine c n (Some z) = (tt, tt)

panics_fine : (c n : ℕ) (kd : Kind) (waits : Bool) (m : Request) (made : Option Zcert) → AllFine c n (panics_in kd waits m made)
panics_fine c n kind.Quorum waits m made = (tt, tt)
panics_fine c n kind.ZLight waits m made = (tt, tt)
panics_fine c n kind.Chain waits m made = (tt, tt)
panics_fine c n kind.Backup waits m made = fine_if c n waits (move_again m ∷ []) [] (tt, tt) tt
panics_fine c n kind.ZCert waits m made = fine_if c n waits (certifying made) (move_panic ∷ []) (certifying_fine c n made) (tt, tt)

open_fine : (c n : ℕ) (phase : Phase) (last : Option Request) (ms : Bool → Request → List CliAction) → ((waits : Bool) (q : Request) → last ≡ Some q → AllFine c n (ms waits q)) → AllFine c n (if_open phase last ms)
open_fine c n Idle last ms all = tt
open_fine c n Waiting None ms all = tt
open_fine c n Waiting (Some q) ms all = all true q refl
open_fine c n Panicking None ms all = tt
open_fine c n Panicking (Some q) ms all = all false q refl

module _ (k : RunSetup) (c n : ℕ) where
  counting_fine : (claim : Ballot → Content) (counted : CliAction) (s : Cli) (m : Request) (b : Ballot) → IsFine c n counted → AllFine c n (counting_by k claim counted s m b)
  counting_fine claim counted s m b fine =
      let last : List CliAction = move_commit m b.n b.d b.reply (map claim (b ∷ s.votes)) ∷ [] in
      let full : Bool = is_full_by (rule_in (within k s.at)) (replicas k) (b ∷ s.votes) b in
      let voting : List CliAction = counted ∷ (if full then last else []) in
      let all : AllFine c n voting = (fine, fine_if c n full last [] (tt, tt) tt) in
      fine_if c n (nat_lt b.by (replicas k)) (if has_voted s.votes b.by then [] else voting) [] (fine_if c n (has_voted s.votes b.by) [] voting tt all) tt

  response_fine : (s : Cli) (waits : Bool) (m : Request) (q : Content) → AllFine c n (hears_response k c s waits m q)
  response_fine s waits m (content.Resp (Replica r) i d stamp x digest reply) =
      let b : Ballot = record { by = r; n = x; d = digest; reply = reply } in
      fine_if c n _ _ [] (counting_fine (vote_claim s.at c m.stamp) (move_vote b) s m b tt) tt
  response_fine s waits m _ = tt

  spec_fine : (s : Cli) (waits : Bool) (m : Request) (q : Content) (sig : List ℕ) → AllFine c n (hears_spec k c s waits m q sig)
  spec_fine s waits m (content.Spec (Replica r) i d stamp x digest reply) sig =
      let b : Ballot = record { by = r; n = x; d = digest; reply = reply } in
      fine_if c n _ _ [] (counting_fine (spec_claim s.at c m.stamp) (move_spec b sig) s m b tt) tt
  spec_fine s waits m _ sig = tt

  teller_fine : (s : Cli) (m : Request) (z : Zcert) (o : Option ℕ) → AllFine c n (telling_by k c s m z o)
  teller_fine s m z None = tt
  teller_fine s m z (Some r) =
      let last : List CliAction = move_commit m z.n z.d z.reply (told_claims s.at c z (r ∷ s.told)) ∷ [] in
      let full : Bool = is_told_full k.cluster.f (r ∷ s.told) in
      fine_if c n (list_any (λ q. q == r) s.told) [] (move_told r ∷ (if full then last else [])) tt (tt, fine_if c n full last [] (tt, tt) tt)

  telling_fine : (s : Cli) (m : Request) (q : Content) (o : Option Zcert) → AllFine c n (telling k c s m q o)
  telling_fine s m q None = tt
  telling_fine s m q (Some z) = teller_fine s m z (teller k.cluster.f s.at c z q)

  taking_fine : (s : Cli) (m : Request) (j : ℕ) (cert : List Signed) (o : Option Trimmed) → IsOwned c m → AllFine c n (taking_with k s m j cert o)
  taking_fine s m j cert None owned = tt
  taking_fine s m j cert (Some t) owned =
      let may = nat_le s.at j && nat_lt j last_instance in
      elim (cases_Bool may) [
        | inl goes ↦
            subst (AllFine c n) (sym (ap (λ (b : Bool). if b then move_take j cert t m ∷ [] else []) goes))
            ((ltb-true j last_instance (and_parts (nat_le s.at j) (nat_lt j last_instance) goes).1, owned), tt)
        | inr rests ↦ subst (AllFine c n) (sym (ap (λ (b : Bool). if b then move_take j cert t m ∷ [] else []) rests)) tt
      ]

  keeping_fine : (s : Cli) (m : Request) (v : Signed) → IsOwned c m → AllFine c n (keeping k s m v)
  keeping_fine s m v owned =
      let cert = own_cert k.cluster s.at v s.kept in
      fine_if c n (list_any (λ w. w.maker == v.maker) s.kept) [] (move_keep v ∷ taking k s m s.at cert) tt (tt, taking_fine s m s.at cert (list_in k.cluster s.at cert) owned)

  hears_fine : (s : Cli) (waits : Bool) (q : Request) (m : Msg) → IsOwned c q → AllFine c n (hears k c s waits q m)
  hears_fine s waits q (msg.Resp t tag) owned = response_fine s waits q t
  hears_fine s waits q (msg.Chain i r x d reply tags) owned =
      fine_if c n ((waits && counts_chains (kind_at k s)) && ((i == s.at) && ((r.client == c) && (r.stamp == s.stamp)))) (hears_tail q x d reply (tail_claims k.cluster.f i r x d reply)) []
      (tail_fine c n q x d reply (tail_claims k.cluster.f i r x d reply)) tt
  hears_fine s waits q (msg.Abort abort) owned = fine_if c n (is_abort_of (kind_at k s) k.cluster.f s.at abort.content) (keeping k s q abort) [] (keeping_fine s q abort owned) tt
  hears_fine s waits q (msg.Init cert) owned = taking_fine s q (cert_instance cert) cert (list_in k.cluster (cert_instance cert) cert) owned
  hears_fine s waits q (msg.Spec spec) owned = spec_fine s waits q spec.content spec.sig
  hears_fine s waits q (msg.LocalCommit t tag) owned = fine_if c n waits (telling k c s q t s.sent) [] (telling_fine s q t s.sent) tt
  hears_fine s waits q _ owned = tt

  message_fine : (s : Cli) (m : Msg) → Sits c n s → AllFine c n (moves k c s m)
  message_fine s m sits = open_fine c n s.phase s.last (λ waits q. hears k c s waits q m) (λ waits q is. hears_fine s waits q m (sits.last q is))

  time_fine : (s : Cli) → AllFine c n (panics k s)
  time_fine s = open_fine c n s.phase s.last (λ waits m. panics_in (kind_at k s) waits m (cert_due k s m)) (λ waits q is. panics_fine c n (kind_at k s) waits q (cert_due k s q))

asking_fine : (c n : ℕ) (s : Cli) (phase : Phase) (command : ArrayVec ℕ) → c ≤ 15 → n + 1 < 2 ^ 64 → (1 ≤ length command.items) × (length command.items ≤ 128) → s.stamp ≤ n → AllFine c (n + 1) (asking c s phase command)
asking_fine c n s Idle command le few is stamp = (((((omega arith, le), ((omega arith, omega (arith, few, stamp)), is)), refl), omega (arith, stamp)), tt)
asking_fine c n s Waiting command le few is stamp = tt
asking_fine c n s Panicking command le few is stamp = tt

later : (c n : ℕ) (s : Cli) → Sits c n s → Sits c (n + 1) s
later c n s sits = record { at = sits.at; stamp = omega (arith, sits.stamp); last = sits.last }

-- ---- events

more_made : (bad : Bool) (more was now : List Content) → now ≡ (if bad then was else more ++ was) → ((c : Content) → Contains was c → IsContent c) → ((c : Content) → Contains more c → IsContent c) → (c : Content) → Contains now c → IsContent c
more_made true more was now is old new c has = old c (subst (λ l. Contains l c) is has)
more_made false more was now is old new c has = elim (Contains-append_cases more was c (subst (λ l. Contains l c) is has)) [
  | inl one ↦ new c one
  | inr other ↦ old c other
]

module _ {P : Type 0} (k : RunSetup) (proto : Proto P) {serves : Kind → Bool} (form : KeepsForm proto serves) (are : IsWrittenSetup k serves)
    (contents : AreSpelledContents k.cluster.f) where
  abbrev Stands : ℕ → Rep P → Type 0
  Stands r s = IsWrittenRep proto serves k.cluster r s

  -- what was made has bytes, each replica arises, and each client is where it is after n events
  record IsSpelled (n : ℕ) (w : Run P) : Type 0 where
    made : (c : Content) → Contains w.made c → IsContent c
    reps : (r : ℕ) → r < replicas k → Stands r (w.reps r)
    clis : (c : ℕ) → Sits c n (w.clis c)

  still_spelled : (n : ℕ) (w : Run P) → IsSpelled n w → IsSpelled (n + 1) w
  still_spelled n w is = record { made = is.made; reps = is.reps; clis = λ c. later c n (w.clis c) (is.clis c) }

  call_spelled : (n : ℕ) (w : Run P) (r : ℕ) (call : Call) → IsFormed call → IsSpelled n w → IsSpelled (n + 1) (at_call k proto w r call)
  call_spelled n w r call formed is = elim (cases_Bool (nat_lt r (replicas k))) [
    | inl there ↦
        let lt = ltb-true r (replicas k) there in
        let c = called k proto w r call lt in
        let makes = call_makes k proto form are contents r (w.reps r) call lt formed (is.reps r lt) in
        record {
          made = more_made (is_faulty k.faulty (Replica r)) (rep_makes k proto r (w.reps r) call) w.made (at_call k proto w r call).made c.made is.made makes.each;
          reps = λ q less. elim (cases_eq q r) [
            | inl e ↦ subst (λ z. Stands z ((at_call k proto w r call).reps z)) (sym e) (subst (Stands r) (sym c.own) makes.stands)
            | inr ne ↦ subst (Stands q) (sym (c.others q ne)) (is.reps q less)
          ];
          clis = λ d. subst (Sits d (n + 1)) (sym (c.clis d)) (later d n (w.clis d) (is.clis d));
        }
    | inr gone ↦ rw gone (still_spelled n w is)
  ]

  cue_spelled : (n : ℕ) (w : Run P) (c : ℕ) (cue : Cue) → (c ≤ 15 → AllFine c (n + 1) (moves_at k c (w.clis c) cue)) → IsSpelled n w → IsSpelled (n + 1) (at_cue k proto w c cue)
  cue_spelled n w c cue fine is = elim (cases_Bool (nat_lt c k.cluster.clients)) [
    | inl there ↦
        let lt = ltb-true c k.cluster.clients there in
        let few : c ≤ 15 = omega (arith, lt, k.cluster.in_bounds.few_clients) in
        let d = cued k proto w c cue lt in
        let does = moves_do c (n + 1) (moves_at k c (w.clis c) cue) (w.clis c) few (fine few) (later c n (w.clis c) (is.clis c)) in
        record {
          made = more_made (is_faulty k.faulty (Client c)) (cli_makes k c (w.clis c) cue) w.made (at_cue k proto w c cue).made d.made is.made does.each;
          reps = λ q less. subst (Stands q) (sym (d.reps q)) (is.reps q less);
          clis = λ b. elim (cases_eq b c) [
            | inl e ↦ subst (λ z. Sits z (n + 1) ((at_cue k proto w c cue).clis z)) (sym e) (subst (Sits c (n + 1)) (sym d.own) does.sits)
            | inr ne ↦ subst (Sits b (n + 1)) (sym (d.others b ne)) (later b n (w.clis b) (is.clis b))
          ];
        }
    | inr gone ↦ rw gone (still_spelled n w is)
  ]

  abbrev IsSpelledEvent : Event → Type 0
  IsSpelledEvent (invoke c command) = (1 ≤ length command.items) × (length command.items ≤ 128)
  IsSpelledEvent (to_replica r m) = IsMessage m
  IsSpelledEvent (to_client c m) = IsMessage m
  IsSpelledEvent (replica_time r) = Unit {0}
  IsSpelledEvent (client_time c) = Unit {0}

  event_spelled : (n : ℕ) (w : Run P) (e : Event) → n + 1 < 2 ^ 64 → IsSpelledEvent e → IsSpelled n w → IsSpelled (n + 1) (step k proto w e)
  event_spelled n w (invoke c command) few built is = cue_spelled n w c (cue_command command) (λ le. asking_fine c n (w.clis c) (w.clis c).phase command le few built (is.clis c).stamp) is
  event_spelled n w (to_replica r m) few built is = call_spelled n w r (took m) built is
  event_spelled n w (to_client c m) few built is = cue_spelled n w c (cue_message m) (λ le. message_fine k c (n + 1) (w.clis c) m (later c n (w.clis c) (is.clis c))) is
  event_spelled n w (replica_time r) few built is = call_spelled n w r timed tt is
  event_spelled n w (client_time c) few built is = cue_spelled n w c cue_time (λ le. time_fine k c (n + 1) (w.clis c)) is

  module _ (opens : Opener) (spelled : OpensSpelled k opens) where
    start_spelled : IsSpelled 0 (start k proto)
    start_spelled = record {
      made = λ c gone. absurd (omega (arith, gone.1));
      reps = λ r lt. first_written k proto form are r lt;
      clis = λ c. record { at = (omega arith, omega arith); stamp = omega arith; last = λ m is. absurd (cc (is)) };
    }

    opened_spelled : (n : ℕ) (w : Run P) (events : List Event) (p : Party) (o : Option Msg) → w ≡ run k proto events → n + 1 < 2 ^ 64 → ((m : Msg) → o ≡ Some m → IsMessage m) → IsSpelled n w → IsSpelled (n + 1) (run k proto (opened p o ++ events))
    opened_spelled n w events p None is few built was = subst (IsSpelled (n + 1)) is (still_spelled n w was)
    opened_spelled n w events (Replica r) (Some m) is few built was = subst (λ v. IsSpelled (n + 1) (step k proto v (to_replica r m))) is (event_spelled n w (to_replica r m) few (built m refl) was)
    opened_spelled n w events (Client c) (Some m) is few built was = subst (λ v. IsSpelled (n + 1) (step k proto v (to_client c m))) is (event_spelled n w (to_client c m) few (built m refl) was)

    input_spelled : (g : Input) (inputs : List Input) (n : ℕ) → n + 1 < 2 ^ 64 → IsSpelledInput g → IsSpelled n (run k proto (events_in opens inputs)) → IsSpelled (n + 1) (run k proto (events_in opens (g ∷ inputs)))
    input_spelled (told c command) inputs n few is was = event_spelled n (run k proto (events_in opens inputs)) (invoke c command) few is was
    input_spelled (came p bytes) inputs n few is was = opened_spelled n (run k proto (events_in opens inputs)) (events_in opens inputs) p (opens p bytes) refl few (λ m e. (spelled p bytes m e).0) was
    input_spelled (rang (Replica r)) inputs n few is was = event_spelled n (run k proto (events_in opens inputs)) (replica_time r) few tt was
    input_spelled (rang (Client c)) inputs n few is was = event_spelled n (run k proto (events_in opens inputs)) (client_time c) few tt was
    input_spelled elsewhere inputs n few is was = still_spelled n (run k proto (events_in opens inputs)) was

    all_spelled : (inputs : List Input) → AreSpelledInputs inputs → length inputs < 2 ^ 64 → IsSpelled (length inputs) (run k proto (events_in opens inputs))
    all_spelled [] are few = start_spelled
    all_spelled (g ∷ inputs) are few =
        let one : length inputs + 1 ≡ suc (length inputs) = omega arith in
        subst (λ n. IsSpelled n (run k proto (events_in opens (g ∷ inputs)))) one
        (input_spelled g inputs (length inputs) (omega (arith, few)) are.0 (all_spelled inputs are.1 (omega (arith, few))))

    -- ---- what is checked

    party_content : (bad : Bool) (p : Party) (m : Msg) → All IsContent (claims k.cluster.f p m) → (c : Content) → Contains (if bad then [] else claims k.cluster.f p m) c → IsContent c
    party_content true p m all c gone = absurd (omega (arith, gone.1))
    party_content false p m all c has = All-contains IsContent (claims k.cluster.f p m) c all has

    opened_checked : (p : Party) (o : Option Msg) → ((m : Msg) → o ≡ Some m → All IsContent (claims k.cluster.f p m)) → (c : Content) → Contains (flat_map (checked k) (opened p o)) c → IsContent c
    opened_checked p None all c gone = absurd (omega (arith, gone.1))
    opened_checked (Replica r) (Some m) all c has = party_content (is_faulty k.faulty (Replica r)) (Replica r) m (all m refl) c (subst (λ l. Contains l c) (append-nil (checked k (to_replica r m))) has)
    opened_checked (Client d) (Some m) all c has = party_content (is_faulty k.faulty (Client d)) (Client d) m (all m refl) c (subst (λ l. Contains l c) (append-nil (checked k (to_client d m))) has)

    input_checked : (g : Input) (c : Content) → Contains (flat_map (checked k) (event_in opens g)) c → IsContent c
    input_checked (told d command) c gone = absurd (omega (arith, gone.1))
    input_checked (came p bytes) c has = opened_checked p (opens p bytes) (λ m e. (spelled p bytes m e).1) c has
    input_checked (rang (Replica r)) c gone = absurd (omega (arith, gone.1))
    input_checked (rang (Client d)) c gone = absurd (omega (arith, gone.1))
    input_checked elsewhere c gone = absurd (omega (arith, gone.1))

    each_checked : (inputs : List Input) (c : Content) → Contains (all_checked k (events_in opens inputs)) c → IsContent c
    each_checked [] c gone = absurd (omega (arith, gone.1))
    each_checked (g ∷ inputs) c has = elim (Contains-append_cases (flat_map (checked k) (event_in opens g)) (all_checked k (events_in opens inputs)) c (subst (λ l. Contains l c) (flat_map-append (checked k) (event_in opens g) (events_in opens inputs)) has)) [
      | inl now ↦ input_checked g c now
      | inr before ↦ each_checked inputs c before
    ]

pub spells_apart : {P : Type 0} (k : RunSetup) (proto : Proto P) (serves : Kind → Bool) (opens : Opener) (inputs : List Input) → KeepsForm proto serves → IsSpelledRun k serves opens inputs → AreSpelledContents k.cluster.f
    → SpellsApart k proto spell_content (events_in opens inputs)
spells_apart k proto serves opens inputs form is contents s t made checked same =
    contents.apart s t ((all_spelled k proto form is.written contents opens is.opens_spelled inputs is.each is.few).made s made)
    (each_checked k proto form is.written contents opens is.opens_spelled inputs t checked) same
