-- What a replica sends as it goes on by itself is of the grammar, and what it keeps stays so.
use Rattle.std.proofs.Common.{◌≡◌, ℕ, zero, suc, pred, ◌+◌, ◌*◌, ◌<◌, ◌≤◌, ◌==◌, Bool, true, false, Some, None, Option, List, [], ◌∷◌, ◌++◌, length, take, slice_get, map, refl, sym, ap, ◌∙◌, subst, inl, inr, arith}
use Rattle.std.specs.Prelude.{Contains, if◌then◌else◌}
use Rattle.std.specs.Str.{bytes_eq}
use Rattle.std.proofs.lemmas.Bool.{cases_Bool}
use Rattle.std.proofs.lemmas.Bool.Decides.{Decides-eqb}
use Rattle.std.proofs.lemmas.Grind.{flat_map-append}
use Rattle.std.proofs.lemmas.List.{length-take-le}
use Rattle.std.proofs.lemmas.List.Elements.{Contains-append_cases}
use Rattle.std.proofs.lemmas.Option.{slice_get_within, same_Some}
use Rattle.ab_num.specs.declared.cluster.Cluster.{Cluster}
use Rattle.ab_num.specs.declared.party.Party.TheVariants.{Replica}
use Rattle.ab_num.specs.Places.{limit_of}
use Rattle.ab_num.proofs.Lists.{Contains-one, Contains-none}
use Rattle.ab_hist.specs.declared.request.Request.{Request}
use Rattle.ab_hist.proofs.KeptLemmas.{slice_get-take}
use Rattle.ab_msg.specs.declared.content.Content.{Content}
use Rattle.ab_msg.specs.declared.content.Content.TheVariants.{Prepare}
use Rattle.ab_msg.specs.declared.message.Msg.{Msg}
use Rattle.ab_msg.specs.declared.message.Msg.TheVariants as msg
use Rattle.ab_msg.specs.declared.message.Out.{Out}
use Rattle.ab_msg.specs.declared.value.Value.{Value}
use Rattle.ab_msg.specs.Fields.{IsInstance, IsView}
use Rattle.ab_msg.specs.Contents.{IsOfSlot}
use Rattle.ab_msg.specs.Slots.{slot_digest}
use Rattle.ab_abs.specs.FormLaws.{SignsInForm}
use Rattle.ab_abs.specs.Values.{goes}
use Rattle.ab_abs.proofs.Drafts.{few_replicas}
use Rattle.ab_lock.specs.Steps.{Cert, prepares, State, after, cert_at, with_cert}
use Rattle.ab_lock.specs.Votes.{SlotVote, keep, is_enough, next, votes_after, commits_after, onward, settled}
use Rattle.ab_lock.specs.ViewChanges.{Kept}
use Rattle.ab_lock.specs.Events.{state_by, votes_by}
use Rattle.ab_lock.proofs.CertLemmas.{with_cert-last, with_cert-other}
use Rattle.ab_lock.proofs.Settling.{state_by-last, votes_by-last}
use Rattle.ab_lock.proofs.VoteLemmas.{IsNext, by_sign, by_prepare, by_execute, next_is}
use Rattle.ab_pbft_rules.specs.Traces.{OrderStep}
use Rattle.ab_pbft_rules.specs.Rules.{Doing, takes_step, oldest_first}
use Rattle.ab_slots.specs.declared.notice.Notice.{Notice}
use Rattle.ab_slots.specs.declared.notice.Notice.TheVariants.{Signs, Prepares}
use Rattle.ab_slots.specs.Deeds.{deeds_of, prepared_in, told_in}
use Rattle.ab_pbft_shelf.specs.declared.author.Author.{Author}
use Rattle.ab_pbft_shelf.specs.Shelves.{certified_by}
use Rattle.ab_pbft_shelf.specs.Posts.{Post, to_others, commit_message, ballot_by, sig_of, posts, posts_all}
use Rattle.ab_pbft_drafts.specs.Bounds.{IsValueAt, IsCertAt, IsCore, IsSent, IsBounded}
use Rattle.ab_pbft_drafts.proofs.Ballots.{ballots_put, enough_signed}
use Rattle.ab_pbft_drafts.proofs.Certificates.{length-slot_digest, certified_set}
use Rattle.ab_pbft_drafts.proofs.Values.{written_executed}

-- ---- deeds in a row

pub posts_all-append : (by : Author) (deeds more : List Notice) (p : Post) → posts_all by (deeds ++ more) p ≡ posts_all by more (posts_all by deeds p)
posts_all-append by [] more p = refl
posts_all-append by (d ∷ deeds) more p = posts_all-append by deeds more (posts by d p)

pub told-append : (by : Author) (doings more : List Doing) (p : Post) → posts_all by (told_in (doings ++ more)) p ≡ posts_all by (told_in more) (posts_all by (told_in doings) p)
told-append by doings more p = ap (λ deeds. posts_all by deeds p) (flat_map-append deeds_of doings more) ∙ posts_all-append by (told_in doings) (told_in more) p

oldest-last : {A : Type 0} (xs : List A) (x : A) → oldest_first (xs ++ x ∷ []) ≡ x ∷ oldest_first xs
oldest-last [] x = refl
oldest-last (y ∷ xs) x = ap (λ l. l ++ y ∷ []) (oldest-last xs x)

-- ---- to the others

others_sent : (f n me : ℕ) (says : ℕ → Msg) → ((r : ℕ) → IsSent f (says r)) → (o : Out) → Contains (to_others n me says) o → IsSent f o.msg
others_sent f zero me says each o has = absurd (Contains-none o has)
others_sent f (suc n) me says each o has =
    elim (Contains-append_cases (to_others n me says) (if n == me then [] else record { to = Replica n; msg = says n } ∷ []) o has) [
      | inl before ↦ others_sent f n me says each o before
      | inr last ↦ at (n == me) last
    ]
  where
    at : (own : Bool) → Contains (if own then [] else record { to = Replica n; msg = says n } ∷ []) o → IsSent f o.msg
    at true last = absurd (Contains-none o last)
    at false last = subst (λ (z : Out). IsSent f z.msg) (Contains-one (record { to = Replica n; msg = says n }) o last) (each n)

pub sent_more : (f n me : ℕ) (says : ℕ → Msg) (sent : List Out) → ((o : Out) → Contains sent o → IsSent f o.msg) → ((r : ℕ) → IsSent f (says r)) → (o : Out) → Contains (sent ++ to_others n me says) o → IsSent f o.msg
sent_more f n me says sent before each o has =
    elim (Contains-append_cases sent (to_others n me says) o has) [
      | inl old ↦ before o old
      | inr now ↦ others_sent f n me says each o now
    ]

pub limit_small : (c : Cluster) (i : ℕ) → limit_of c.plan i ≤ 16
limit_small c i = omega arith

-- the certificates once a slot is prepared
certs_on : (k : ℕ) (s : State Value) (front : List Value) (value : Value) → IsCore k s → length front ≡ suc s.prepared → slice_get front s.prepared ≡ Some value → IsValueAt s.prepared value
    → (t : ℕ) (d : Cert Value) → cert_at (with_cert s.view front s.certs) t ≡ Some d → IsCertAt t d
certs_on k s front value core len last at_slot t d is =
    elim (cases_Bool (t == s.prepared)) [
      | inl same ↦
          let e : t ≡ s.prepared = (Decides-eqb t s.prepared).0 same in
          let made : Cert Value = record { at = s.view; value = value } in
          let here : cert_at (with_cert s.view front s.certs) s.prepared ≡ Some made = with_cert-last s.view front s.certs s.prepared value (sym len) last in
          subst (λ (z : Cert Value). IsCertAt t z) (same_Some made d (sym here ∙ (ap (λ n. cert_at (with_cert s.view front s.certs) n) (sym e) ∙ is)))
          (core.view, subst (λ (n : ℕ). IsValueAt n value) (sym e) at_slot)
      | inr other ↦
          core.certs t d
          (sym (with_cert-other s.view front s.certs t (λ e. let same : (t == s.prepared) ≡ true = (Decides-eqb t s.prepared).1 (omega (arith, e, len)) in absurd (cc (other, same)))) ∙ is)
    ]

-- ---- replica me of instance i

abbrev pub own_author : Cluster → ℕ → ℕ → Author
own_author c i me = record { cluster = c; instance = i; me = me }

-- what it keeps is within bounds, it signs in form, and what it sent is of the grammar
pub record IsPosted (c : Cluster) (i : ℕ) (s : State Value) (votes : List (SlotVote (List ℕ))) (changes : List (Kept Value)) (requests : List Request) (p : Post) : Type 0 where
  pub held : IsBounded c.f (limit_of c.plan i) s votes changes requests p.shelf
  pub pen : SignsInForm p.pen
  pub sent : (o : Out) → Contains p.sent o → IsSent c.f o.msg

-- what it has told by these steps, the newest first
abbrev pub told_by : Author → List OrderStep → Post → Post
told_by by steps p = posts_all by (told_in (map takes_step (oldest_first steps))) p

module _ (c : Cluster) (i me : ℕ) (placed : IsInstance i) (owned : me < 3 * c.f + 1) where
  abbrev by : Author
  by = own_author c i me

  pub of_slot : (view slot : ℕ) (value : Value) → IsView view → slot ≤ limit_of c.plan i → IsOfSlot (Replica me) i view slot (slot_digest value)
  of_slot view slot value seen within = ((omega arith, few_replicas c me owned), (placed, (seen, ((omega arith, omega (arith, within, limit_small c i)), length-slot_digest value))))

  module _ (changes : List (Kept Value)) (requests : List Request) where
    abbrev Posted : State Value → List (SlotVote (List ℕ)) → Post → Type 0
    Posted s votes p = IsPosted c i s votes changes requests p

    -- it signs the PREPARE of a slot
    signs_on : (s : State Value) (votes : List (SlotVote (List ℕ))) (p : Post) (value : Value) → slice_get s.accepted s.signed ≡ Some value → Posted s votes p
        → Posted (record s { signed = suc s.signed }) (keep (record { by = me; slot = s.signed; x = slot_digest value }) votes) (posts by (Signs s.view s.signed (slot_digest value)) p)
    signs_on s votes p value there was =
        let h = was.held in
        let core = h.core in
        let x = slot_digest value in
        let content : Content = Prepare (Replica me) i s.view s.signed x in
        let sig = sig_of by p content in
        let within : s.signed ≤ limit_of c.plan i = omega (arith, slice_get_within s.accepted s.signed value there, core.few) in
        record {
          held = record {
            core = record { view = core.view; few = core.few; accepted = core.accepted; certs = core.certs; executed = core.executed };
            asked = h.asked;
            view = h.view;
            ballots = ballots_put c.f votes p.shelf.ballots (ballot_by by s.signed x sig) h.ballots owned (was.pen content p.pen.used);
            certified = h.certified;
            proofs = h.proofs;
            entry = h.entry;
            tags = h.tags;
          };
          pen = was.pen;
          sent = sent_more c.f (3 * c.f + 1) me (λ r. msg.Prepare (record { maker = me; content = content; sig = sig })) p.sent was.sent
              (λ r. record { draft = (refl, (of_slot s.view s.signed value core.view within, was.pen content p.pen.used)); enough = tt });
        }

    -- it prepares a slot
    prepares_on : (s : State Value) (votes : List (SlotVote (List ℕ))) (p : Post) (value : Value) → slice_get s.accepted s.prepared ≡ Some value → is_enough bytes_eq c.f votes s.prepared (slot_digest value) ≡ true → Posted s votes p
        → Posted (after {V = Value} {X = List ℕ} s (prepares s.view (take (suc s.prepared) s.accepted))) votes (posts_all by (deeds_of (takes_step (prepares s.view (take (suc s.prepared) s.accepted)))) p)
    prepares_on s votes p value there many was =
        let h = was.held in
        let core = h.core in
        let front = take (suc s.prepared) s.accepted in
        let inside = slice_get_within s.accepted s.prepared value there in
        let len : length front ≡ suc s.prepared = length-take-le (suc s.prepared) s.accepted (omega (arith, inside)) in
        let last : slice_get front s.prepared ≡ Some value = slice_get-take (suc s.prepared) s.accepted s.prepared (omega arith) ∙ there in
        let deeds : deeds_of (takes_step (prepares s.view front)) ≡ Prepares s.view s.prepared value ∷ [] =
        ap (λ n. prepared_in s.view n (slice_get front n)) (let e : pred (length front) ≡ s.prepared = ap pred len in e) ∙ ap (λ o. prepared_in s.view s.prepared o) last in
        let z = certified_by c.f s.view s.prepared value p.shelf.ballots in
        let at_slot = core.accepted s.prepared value there in
        let certificates = certified_set (limit_of c.plan i) s.view s.prepared front value s.certs p.shelf.certified z h.certified (sym len) last at_slot (enough_signed c.f s.prepared (slot_digest value) votes p.shelf.ballots c.in_bounds.few_faulty h.ballots many) in
        subst (λ (ds : List Notice). Posted (after {V = Value} {X = List ℕ} s (prepares s.view front)) votes (posts_all by ds p)) (sym deeds) (record {
          held = record {
            core = record { view = core.view; few = core.few; accepted = core.accepted; certs = certs_on (limit_of c.plan i) s front value core len last at_slot; executed = core.executed };
            asked = h.asked;
            view = h.view;
            ballots = h.ballots;
            certified = certificates;
            proofs = h.proofs;
            entry = h.entry;
            tags = h.tags;
          };
          pen = was.pen;
          sent = sent_more c.f (3 * c.f + 1) me (λ r. commit_message by s.view s.prepared value) p.sent was.sent
              (λ r. record { draft = of_slot s.view s.prepared value core.view (omega (arith, inside, core.few)); enough = tt });
        })

    -- it executes a slot
    executes_on : (s : State Value) (votes : List (SlotVote (List ℕ))) (p : Post) (value : Value) → slice_get s.accepted (length s.executed) ≡ Some value → goes s.executed value ≡ true → Posted s votes p
        → Posted (record s { executed = s.executed ++ value ∷ [] }) votes p
    executes_on s votes p value there on was =
        let h = was.held in
        let core = h.core in
        record {
          held = record {
            core = record { view = core.view; few = core.few; accepted = core.accepted; certs = core.certs; executed = written_executed s.executed value on (core.accepted (length s.executed) value there) core.executed };
            asked = h.asked;
            view = h.view;
            ballots = h.ballots;
            certified = h.certified;
            proofs = h.proofs;
            entry = h.entry;
            tags = h.tags;
          };
          pen = was.pen;
          sent = was.sent;
        }

    next_on : (s : State Value) (votes commits : List (SlotVote (List ℕ))) (p : Post) (step : OrderStep) → IsNext slot_digest bytes_eq goes c.f s votes commits step → Posted s votes p
        → Posted (after s step) (votes_after me step votes) (posts_all by (deeds_of (takes_step step)) p)
    next_on s votes commits p step (by_sign value level there) was = signs_on s votes p value there was
    next_on s votes commits p step (by_prepare value ahead there many) was = prepares_on s votes p value there many was
    next_on s votes commits p step (by_execute value ahead there many on) was = executes_on s votes p value there on was

    onward_on : (rest : List OrderStep) (step : OrderStep) (s : State Value) (votes : List (SlotVote (List ℕ))) (p : Post)
        → Posted (state_by rest (after s step)) (votes_by me rest (votes_after me step votes)) (told_by by rest (posts_all by (deeds_of (takes_step step)) p))
        → Posted (state_by (rest ++ step ∷ []) s) (votes_by me (rest ++ step ∷ []) votes) (told_by by (rest ++ step ∷ []) p)
    onward_on rest step s votes p was =
        let told : told_by by (rest ++ step ∷ []) p ≡ told_by by rest (posts_all by (deeds_of (takes_step step)) p) =
        ap (λ l. posts_all by (told_in (map takes_step l)) p) (oldest-last rest step) ∙ posts_all-append by (deeds_of (takes_step step)) (told_in (map takes_step (oldest_first rest))) p in
        subst (λ (t : State Value). Posted t (votes_by me (rest ++ step ∷ []) votes) (told_by by (rest ++ step ∷ []) p)) (sym (state_by-last slot_digest me rest step s))
        (subst (λ (u : List (SlotVote (List ℕ))). Posted (state_by rest (after s step)) u (told_by by (rest ++ step ∷ []) p)) (sym (votes_by-last slot_digest me rest step votes))
        (subst (λ (q : Post). Posted (state_by rest (after s step)) (votes_by me rest (votes_after me step votes)) q) (sym told) was))

    -- all that it goes on with
    pub settled_on : (n : ℕ) (s : State Value) (votes commits : List (SlotVote (List ℕ))) (p : Post) → Posted s votes p
        → Posted (state_by (settled slot_digest bytes_eq goes c.f me n s votes commits) s) (votes_by me (settled slot_digest bytes_eq goes c.f me n s votes commits) votes) (told_by by (settled slot_digest bytes_eq goes c.f me n s votes commits) p)
    settled_on zero s votes commits p was = was
    settled_on (suc n) s votes commits p was = of_next (next slot_digest bytes_eq goes c.f s votes commits) refl (λ t u d q then_is. settled_on n t u d q then_is)
      where
        of_next : (o : Option OrderStep) → next slot_digest bytes_eq goes c.f s votes commits ≡ o
            → ((t : State Value) (u d : List (SlotVote (List ℕ))) (q : Post) → Posted t u q
            → Posted (state_by (settled slot_digest bytes_eq goes c.f me n t u d) t) (votes_by me (settled slot_digest bytes_eq goes c.f me n t u d) u) (told_by by (settled slot_digest bytes_eq goes c.f me n t u d) q))
            → Posted (state_by (onward slot_digest bytes_eq goes c.f me (settled slot_digest bytes_eq goes c.f me n) s votes commits o) s) (votes_by me (onward slot_digest bytes_eq goes c.f me (settled slot_digest bytes_eq goes c.f me n) s votes commits o) votes) (told_by by (onward slot_digest bytes_eq goes c.f me (settled slot_digest bytes_eq goes c.f me n) s votes commits o) p)
        of_next None why further = was
        of_next (Some step) why further =
            let then_commits = commits_after slot_digest me step commits in
            let now = next_on s votes commits p step (next_is slot_digest bytes_eq goes c.f s votes commits step why) was in
            onward_on (settled slot_digest bytes_eq goes c.f me n (after s step) (votes_after me step votes) then_commits) step s votes p (further (after s step) (votes_after me step votes) then_commits (posts_all by (deeds_of (takes_step step)) p) now)
