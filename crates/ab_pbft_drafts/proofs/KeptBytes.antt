-- A replica of PBFT keeps within the bounds of the grammar, whatever it is handed, and what it sends is of the grammar.
use Rattle.std.proofs.Common.{◌≡◌, ℕ, ◌+◌, ◌*◌, ◌<◌, ◌≤◌, ◌==◌, true, false, Some, None, Option, List, [], length, refl, sym, ap, ◌∙◌, subst, inl, inr, arith, lit<}
use Rattle.std.specs.Prelude.{Contains, unwrap_or, if◌then◌else◌}
use Rattle.std.proofs.lemmas.Bool.{cases_Bool}
use Rattle.std.proofs.lemmas.Option.{none-some}
use Rattle.std.proofs.lemmas.List.Elements.{All-nil}
use Rattle.ab_num.specs.declared.cluster.Cluster.{Cluster}
use Rattle.ab_num.specs.Places.{limit_of}
use Rattle.ab_num.proofs.Lists.{Contains-none}
use Rattle.ab_hist.specs.declared.request.Request.{Request}
use Rattle.ab_msg.specs.declared.message.Out.{Out}
use Rattle.ab_msg.specs.declared.signed.Signed.{Signed}
use Rattle.ab_msg.specs.declared.change.Proof.{Proof}
use Rattle.ab_msg.specs.Fields.{IsInstance, IsWritten, IsSig}
use Rattle.ab_msg.specs.Certs.{AreAborts, IsSigned, IsProof}
use Rattle.ab_msg.specs.Contents.{IsStopContent}
use Rattle.ab_msg.specs.Pens.{Pen}
use Rattle.ab_abs.specs.declared.entry.Entry.{Entry}
use Rattle.ab_abs.specs.Messages.{Call, IsFormed}
use Rattle.ab_abs.specs.FormLaws.{IsWrittenEntry, SignsInForm}
use Rattle.ab_lock.specs.Events.{with_vote}
use Rattle.ab_order.specs.Inputs.{Reading, request, prepare, view_change, other, ChangeReading}
use Rattle.ab_order.specs.Readings.{read}
use Rattle.ab_order.specs.Bytes.{ArisesAs, from_entry, by_call, KeepsBytes}
use Rattle.ab_pbft_rules.specs.Rules.{Placement, Memory, Work, core_of, with_peer, fits, keep_change, follow, lead, idle, work, pbft}
use Rattle.ab_pbft_rules.proofs.RuleInduction.{leads_on, follows_on, work_kept}
use Rattle.ab_pbft_shelf.specs.declared.kept.SignedVote.{SignedVote}
use Rattle.ab_pbft_shelf.specs.declared.kept.Tagged.{Tagged}
use Rattle.ab_pbft_shelf.specs.Shelves.{Shelf, maker_of, view_of, with_ballot, with_ballot_of, with_proof, with_tags}
use Rattle.ab_pbft_shelf.specs.Posts.{Post}
use Rattle.ab_pbft_shelf.specs.Signing.{Signing, puts, signing}
use Rattle.ab_pbft_drafts.specs.Bounds.{IsBounded, IsInForm, HasQuorum, HasTags, IsSent, seat_of}
use Rattle.ab_pbft_drafts.proofs.Ballots.{ballots_put, no_ballots}
use Rattle.ab_pbft_drafts.proofs.Proofs.{proofs_put, no_proofs}
use Rattle.ab_pbft_drafts.proofs.Certificates.{none_certified}
use Rattle.ab_pbft_drafts.proofs.Values.{nothing_written, short_written, no_values}
use Rattle.ab_pbft_drafts.proofs.Reading.{IsInputWritten, IsChangeWritten, certs_told, told_written}
use Rattle.ab_pbft_drafts.proofs.Putting.{IsPlain, IsPut, nothing, tags, ballot, proof, tagged_in, puts_are}
use Rattle.ab_pbft_drafts.proofs.Sending.{IsPosted}
use Rattle.ab_pbft_drafts.proofs.Events.{Stands, settles_on, kept_by}

module _ (c : Cluster) (i me : ℕ) (placed : IsInstance i) (owned : me < 3 * c.f + 1) (base : List Request) (written : length base ≤ 1024 → IsWritten base) (pen : Pen) (signs : SignsInForm pen) (memory : Memory) (s : Shelf) (left : ℕ)
    (was : IsBounded c.f (limit_of c.plan i) memory.peer.core memory.peer.votes memory.changes memory.requests s) where
  abbrev seat : Placement
  seat = seat_of c i me base

  abbrev start : Work
  start = idle memory

  -- once the shelf is this
  abbrev first : Shelf → Post
  first t = record { pen = pen; shelf = t; sent = [] }

  abbrev After : Shelf → Work → Type 0
  After t w = Stands c i me placed owned base written (first t) w

  begins : (t : Shelf) (v : Work) → IsBounded c.f (limit_of c.plan i) (core_of v) v.at.peer.votes v.at.changes v.at.requests t → IsPosted c i (core_of v) v.at.peer.votes v.at.changes v.at.requests (first t)
  begins t v is = record { held = is; pen = signs; sent = λ o has. absurd (Contains-none o has) }

  plain_event : (e : Reading) (t : Shelf) → IsPlain e → IsInputWritten e → IsBounded c.f (limit_of c.plan i) memory.peer.core memory.peer.votes memory.changes memory.requests t → After t (work seat e start)
  plain_event e t plain told is = work_kept seat e start (After t) (kept_by c i me placed owned base written (first t) e start told plain) (begins t start is)

  tagged_on : (t : Tagged) → HasTags t → IsBounded c.f (limit_of c.plan i) memory.peer.core memory.peer.votes memory.changes memory.requests (with_tags t s)
  tagged_on t long = record {
    core = was.core;
    asked = was.asked;
    view = was.view;
    ballots = was.ballots;
    certified = was.certified;
    proofs = was.proofs;
    entry = was.entry;
    tags = λ x has. elim (tagged_in t s.tagged x has) [ inl e ↦ subst (λ (z : Tagged). HasTags z) e long | inr old ↦ was.tags x old ];
  }

  -- with a vote
  abbrev voted : SignedVote → Work
  voted b = with_peer start (with_vote (record { by = b.by; slot = b.slot; x = b.x }) start.at.peer) []

  -- a PREPARE is kept as a vote, and signed, where it is of the present view
  ballot_event : (view : ℕ) (b : SignedVote) → b.by < 3 * c.f + 1 → IsSig b.sig → After (with_ballot_of view b s) (work seat (prepare b.by view b.slot b.x) start)
  ballot_event view b within formed =
      elim (cases_Bool (view == memory.peer.core.view)) [
        | inl same ↦
            let same' : (view == s.view) ≡ true = ap (λ n. view == n) was.view ∙ same in
            rw (same, same') (settles_on c i me placed owned base written (first (with_ballot b s)) (voted b) (begins (with_ballot b s) (voted b) (record {
              core = was.core;
              asked = was.asked;
              view = was.view;
              ballots = ballots_put c.f memory.peer.votes s.ballots b was.ballots within formed;
              certified = was.certified;
              proofs = was.proofs;
              entry = was.entry;
              tags = was.tags;
            })))
        | inr differs ↦
            let differs' : (view == s.view) ≡ false = ap (λ n. view == n) was.view ∙ differs in
            rw (differs, differs') (begins s start was)
      ]

  -- a VIEW-CHANGE that fits is kept as such, and as a message
  change_event : (change : ChangeReading) (p : Proof) → IsChangeWritten change → maker_of p ≡ change.by → view_of p ≡ change.view → IsProof p
      → After (if fits c.f change then with_proof p s else s) (work seat (view_change change) start)
  change_event change p told maker view formed =
      elim (cases_Bool (fits c.f change)) [
        | inr unfit ↦ rw unfit (begins s start was)
        | inl fit ↦ rw fit (of_kept (begins (with_proof p s) (keep_change change start) (record {
          core = was.core;
          asked = was.asked;
          view = was.view;
          ballots = was.ballots;
          certified = was.certified;
          proofs = proofs_put memory.changes s.proofs _ p was.proofs (ap (λ n. (n, change.view)) (sym maker) ∙ ap (λ n. (maker_of p, n)) (sym view)) told.view (certs_told change told) formed;
          entry = was.entry;
          tags = was.tags;
        })))
      ]
    where
      of_kept : After (with_proof p s) (keep_change change start) → After (with_proof p s) (lead seat (follow seat (keep_change change start)))
      of_kept kept =
          let by_rules = kept_by c i me placed owned base written (first (with_proof p s)) other (keep_change change start) tt tt in
          leads_on seat other (keep_change change start) (After (with_proof p s)) by_rules (follow seat (keep_change change start)) (follows_on seat other (keep_change change start) (After (with_proof p s)) by_rules (keep_change change start) kept)

  event : (e : Reading) (t : Shelf) → IsPut c i s e t → IsInputWritten e → After t (work seat e start)
  event e t (nothing e' plain) told = plain_event e' s plain told was
  event e t (tags m tagged long) told = plain_event (request m) (with_tags tagged s) tt told (tagged_on tagged long)
  event e t (ballot view b within formed) told = ballot_event view b within formed
  event e t (proof change p written' maker view formed) told = change_event change p written' maker view formed

  abbrev here : Signing
  here = record { cluster = c; order = record { seat = seat; memory = memory }; shelf = s; left = left }

  -- a call leaves it within bounds, and it sends what is of the grammar
  pub call_on : (call : Call) → IsFormed call → IsInForm c i me (signing.after pen here call) × ((o : Out) → Contains (signing.sends pen here call) o → IsSent c.f o.msg)
  call_on call formed =
      let goes = event (read c i call) (puts c.f call (read c i call) s) (puts_are c i s call formed) (told_written c i call formed) in
      (record { base = base; written = written; cluster = refl; seated = refl; kept = goes.held }, goes.sent)

-- ---- all that arises

entry_formed : (o : Option (List Signed)) → ((cert : List Signed) → o ≡ Some cert → AreAborts 1 7 cert) → AreAborts 0 7 (unwrap_or o [])
entry_formed None each = ((omega arith, omega arith), All-nil (IsSigned IsStopContent))
entry_formed (Some cert) each = let is = each cert refl in ((omega arith, is.0.1), is.1)

begun_in_form : (c : Cluster) (i r : ℕ) (e : Entry) → IsWrittenEntry e → IsInForm c i r (signing.begin c i r e)
begun_in_form c i r e is = record {
  base = e.base;
  written = short_written e.trimmed e.base is.base;
  cluster = refl;
  seated = refl;
  kept = record {
    core = record { view = lit< tt; few = omega arith; accepted = no_values; certs = λ t d there. absurd (none-some d there); executed = nothing_written };
    asked = λ m has. absurd (Contains-none m has);
    view = refl;
    ballots = no_ballots c.f;
    certified = none_certified (limit_of c.plan i);
    proofs = no_proofs;
    entry = entry_formed e.cert is.cert;
    tags = λ t has. absurd (Contains-none t has);
  };
}

abbrev GoesOn : Cluster → ℕ → ℕ → Pen → Signing → Call → Type 0
GoesOn c i r pen q call = IsInForm c i r (signing.after pen q call) × ((o : Out) → Contains (signing.sends pen q call) o → IsSent c.f o.msg)

call_within : (c : Cluster) (i r : ℕ) (pen : Pen) (q : Signing) (call : Call) → IsInstance i → r < 3 * c.f + 1 → SignsInForm pen → IsFormed call → IsInForm c i r q → GoesOn c i r pen q call
call_within c i r pen q call placed owned signs formed is =
    let at : Cluster → Placement → Signing = λ d seat. record { cluster = d; order = record { seat = seat; memory = q.order.memory }; shelf = q.shelf; left = q.left } in
    subst (λ (d : Cluster). GoesOn c i r pen (at d q.order.seat) call) (sym is.cluster)
    (subst (λ (seat : Placement). GoesOn c i r pen (at c seat) call) (sym is.seated)
    (call_on c i r placed owned is.base is.written pen signs q.order.memory q.shelf q.left is.kept call formed))

-- it is a replica of the cluster, in an instance that can be
record IsPlaced (c : Cluster) (i r : ℕ) : Type 0 where
  instance : IsInstance i
  replica : r < 3 * c.f + 1

arises_placed : (c : Cluster) (i r : ℕ) (q : Signing) → ArisesAs signing c i r q → IsPlaced c i r
arises_placed c i r q (from_entry e placed owned is) = record { instance = placed; replica = owned }
arises_placed c i r q (by_call pen p call signs formed was) = arises_placed c i r p was

pub signing_in_form : (c : Cluster) (i r : ℕ) (q : Signing) → ArisesAs signing c i r q → IsInForm c i r q
signing_in_form c i r q (from_entry e placed owned is) = begun_in_form c i r e is
signing_in_form c i r q (by_call pen p call signs formed was) =
    let at = arises_placed c i r p was in
    (call_within c i r pen p call at.instance at.replica signs formed (signing_in_form c i r p was)).0

signing_sends : (c : Cluster) (i r : ℕ) (pen : Pen) (q : Signing) (call : Call) → SignsInForm pen → ArisesAs signing c i r q → IsFormed call
    → (o : Out) → Contains (signing.sends pen q call) o → IsSent c.f o.msg
signing_sends c i r pen q call signs arises formed =
    let at = arises_placed c i r q arises in
    (call_within c i r pen q call at.instance at.replica signs formed (signing_in_form c i r q arises)).1

pub signing_keeps_bytes : KeepsBytes signing pbft
signing_keeps_bytes = record {
  written = λ c i r q arises. (signing_in_form c i r q arises).kept.core.executed;
  drafts = λ c i r pen q call signs arises formed o has. (signing_sends c i r pen q call signs arises formed o has).draft;
}

pub signing_has_quorums : (c : Cluster) (i r : ℕ) (pen : Pen) (q : Signing) (call : Call) → SignsInForm pen → ArisesAs signing c i r q → IsFormed call
    → (o : Out) → Contains (signing.sends pen q call) o → HasQuorum c.f o.msg
signing_has_quorums c i r pen q call signs arises formed o has = (signing_sends c i r pen q call signs arises formed o has).enough
