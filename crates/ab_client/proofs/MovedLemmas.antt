-- What a client comes to, move by move.
use Rattle.std.proofs.Common.{◌≡◌, ℕ, ◌+◌, ◌*◌, ◌<◌, ◌≤◌, suc, length, map, Bool, true, false, Option, Some, None, List, [], ◌∷◌, ◌++◌, arith, refl, sym, ap, ◌∙◌, subst}
use Rattle.std.specs.Prelude.{◌==◌, ◌&&◌, nat_lt, nat_le, if◌then◌else◌, All, Contains, ◌⊎◌, Result, Ok, Err, IfOk}
use Rattle.std.proofs.Common.{inl, inr}
use Rattle.std.specs.List.{list_all, list_any}
use Rattle.std.proofs.Math.Bool.{and-false}
use Rattle.std.proofs.lemmas.Bool.{and_parts, eqb-true}
use Rattle.std.proofs.lemmas.Bool.Decides.{nat_tests}
use Rattle.std.proofs.lemmas.List.{append-nil}
use Rattle.std.proofs.lemmas.List.Elements.{All-nil, All-cons, All-contains}
use Rattle.arrayvec.specs.ArrayVec.{ArrayVec}
use Rattle.ab_num.specs.declared.memory.OutOfMemory.{OutOfMemory}
use Rattle.ab_num.specs.declared.cluster.Cluster.{Cluster}
use Rattle.ab_num.specs.declared.party.Party.TheVariants.{Client}
use Rattle.ab_num.specs.Places.{kind_of}
use Rattle.ab_form.specs.Formats.{IsWithin}
use Rattle.ab_form.specs.Lists.{FitsInside}
use Rattle.ab_hist.specs.declared.request.Request.{Request}
use Rattle.ab_hist.specs.Trimmed.{Trimmed}
use Rattle.ab_msg.specs.declared.signed.Signed.{Signed}
use Rattle.ab_msg.specs.declared.message.Msg.TheVariants as msg
use Rattle.ab_msg.specs.declared.message.Out.{Out}
use Rattle.ab_msg.specs.Claims.{instance_of}
use Rattle.ab_msg.specs.declared.zcert.Zcert.{Zcert}
use Rattle.ab_msg.specs.Fields.{IsInstance, IsReply, IsSigner, IsStamp}
use Rattle.ab_msg.specs.Messages.{IsDraft}
use Rattle.ab_msg.specs.Contents.{IsStopContent, IsZcert}
use Rattle.ab_msg.specs.Certs.{IsSigned, AreAborts}
use Rattle.ab_abs.specs.declared.ballot.Ballot.{Ballot}
use Rattle.ab_abs.specs.declared.seen.Seen.{Seen}
use Rattle.ab_abs.specs.declared.seen.Seen.TheVariants.{Invoked}
use Rattle.ab_abs.specs.Certificates.{are_apart}
use Rattle.ab_abs.specs.Observations.{cert_seen}
use Rattle.ab_stable.specs.Offers.{list_in}
use Rattle.ab_run.specs.declared.phase.Phase.{Phase}
use Rattle.ab_run.specs.declared.phase.Phase.TheVariants.{Idle, Waiting, Panicking}
use Rattle.ab_run.specs.Replicas.{cert_instance}
use Rattle.ab_run.specs.Clients.{Cli, CliAction, move_again, move_cert, move_keep, move_panic, move_take, after_move, if_open, cert_out, request_out, to_all, own_cert, taking, taking_with, is_abort_of, cert_due}
use Rattle.ab_run.specs.Asking.{IsSent, AreVoters}
use Rattle.ab_run.specs.Local.{cue_message}
use Rattle.ab_run.proofs.AskingLemmas.{timeout_sends}
use Rattle.ab_client.specs.Choices.{is_fit_of}
use Rattle.ab_client.specs.Clients.{Seat, alone, is_waiting, marks, moves_on, request_msg, panic_msg, sends}
use Rattle.ab_run.specs.Forms.{IsDraftOf}
use Rattle.ab_client.specs.Moved.{IsBallot, IsMoved, IsPlaced, IsRequestOf, open_request}
use Rattle.ab_client.proofs.CertLemmas.{is_abort_of-fits}
use Rattle.ab_client.proofs.Targets.{requests_are_drafts, certs_are_drafts, panics_are_drafts, zcerts_are_drafts, both_are_drafts}

-- ---- the open request

pub if_open-some : (p : Phase) (last : Option Request) (moves : Bool → Request → List CliAction) (m : Request) → open_request p last ≡ Some m → if_open p last moves ≡ moves (is_waiting p) m
if_open-some Idle last moves m e = absurd (cc (e))
if_open-some Waiting None moves m e = absurd (cc (e))
if_open-some Waiting (Some q) moves m e = let e' : q ≡ m = cc (e) in ap (moves true) e'
if_open-some Panicking None moves m e = absurd (cc (e))
if_open-some Panicking (Some q) moves m e = let e' : q ≡ m = cc (e) in ap (moves false) e'

if_open-still : (p : Phase) (last : Option Request) (moves : Bool → Request → List CliAction) → ((waits : Bool) (m : Request) → moves waits m ≡ []) → if_open p last moves ≡ []
if_open-still Idle last moves each = refl
if_open-still Waiting None moves each = refl
if_open-still Waiting (Some m) moves each = each true m
if_open-still Panicking None moves each = refl
if_open-still Panicking (Some m) moves each = each false m

-- ---- no move, and other ones

pub moved_not : (s : Seat) (moves : List CliAction) → moves ≡ [] → IsMoved s moves s [] []
moved_not s moves none =
    subst (λ (ms : List CliAction). IsMoved s ms s [] []) (sym none)
    (record { client = refl; stamp = refl; outs = refl; marks = refl; drafts = λ few. All-nil (IsDraftOf s.cluster.f (Client s.me)) })

pub moved_nothing : (s : Seat) (moves : List CliAction) (sent : List Out) (shown : List Seen) → sent ≡ [] → shown ≡ [] → moves ≡ [] → IsMoved s moves s sent shown
moved_nothing s moves sent shown none unseen still =
    subst (λ (o : List Out). IsMoved s moves s o shown) (sym none) (subst (λ (l : List Seen). IsMoved s moves s [] l) (sym unseen) (moved_not s moves still))

pub moved_so : (s : Seat) (moves other : List CliAction) (now : Seat) (sent : List Out) (shown : List Seen) → moves ≡ other → IsMoved s other now sent shown → IsMoved s moves now sent shown
moved_so s moves other now sent shown e is = subst (λ (ms : List CliAction). IsMoved s ms now sent shown) (sym e) is

-- ---- what it sends gets bytes

module _ (s : Seat) (placed : IsPlaced s.me s.cli) (m : Request) (last : s.cli.last ≡ Some m) where
  pub open_fits : IsRequestOf s.me m
  open_fits = subst (FitsInside (IsRequestOf s.me)) last placed.last

  request_fits : (i : ℕ) → IsInstance i → s.me ≤ 15 → IsDraft (request_msg i m)
  request_fits i at few = let fits = open_fits in (refl, (at, ((omega arith, omega (arith, fits.0, few)), fits.1)))

  pub sends_request : (i : ℕ) → IsInstance i → s.me ≤ 15 → All (IsDraftOf s.cluster.f (Client s.me)) (request_out (alone s.cluster) i s.me m)
  sends_request i at few =
      subst (λ (c : ℕ). All (IsDraftOf s.cluster.f (Client c)) (request_out (alone s.cluster) i c m)) open_fits.0
      (requests_are_drafts s.cluster i m (request_fits i at few))

  -- ---- entries

  module _ (j : ℕ) (cert : List Signed) (t : Trimmed) (aborts : AreAborts 1 7 cert) (below : j < 4294967295) (now : Seat) (sent : List Out) (shown : List Seen)
      (is : now ≡ record s { cli = after_move s.cli (move_take j cert t m) })
      (sends : sent ≡ cert_out (alone s.cluster) (Some cert) ++ request_out (alone s.cluster) (j + 1) m.client m)
      (shows : shown ≡ cert_seen j (Client s.me) t ∷ Invoked (j + 1) s.me m ∷ []) where
    sent_is : sent ≡ cert_out (alone s.cluster) (Some cert) ++ request_out (alone s.cluster) (j + 1) s.me m
    sent_is = sends ∙ ap (λ c. cert_out (alone s.cluster) (Some cert) ++ request_out (alone s.cluster) (j + 1) c m) open_fits.0

    pub moved_take : IsMoved s (move_take j cert t m ∷ []) now sent shown
    moved_take = record {
      client = is;
      stamp = ap (λ (t : Seat). t.cli.stamp) is;
      outs = sent_is ∙ sym (append-nil _);
      marks = shows;
      drafts = λ few. subst (All (IsDraftOf s.cluster.f (Client s.me))) (sym sent_is)
          (both_are_drafts s.cluster.f (Client s.me) _ _ (certs_are_drafts s.cluster (Client s.me) (Some cert) aborts) (sends_request (j + 1) (omega arith, omega (arith, below)) few));
    }

  -- the same request once more
  pub moved_again : (at : s.cli.at ≤ 4294967295) (sent : List Out) → sent ≡ cert_out (alone s.cluster) s.cli.cert ++ request_out (alone s.cluster) s.cli.at m.client m
      → IsMoved s (move_again m ∷ []) s sent []
  moved_again at sent sends =
      let is : sent ≡ cert_out (alone s.cluster) s.cli.cert ++ request_out (alone s.cluster) s.cli.at s.me m =
      sends ∙ ap (λ c. cert_out (alone s.cluster) s.cli.cert ++ request_out (alone s.cluster) s.cli.at c m) open_fits.0 in
      record {
        client = refl;
        stamp = refl;
        outs = is ∙ sym (append-nil _);
        marks = refl;
        drafts = λ few. subst (All (IsDraftOf s.cluster.f (Client s.me))) (sym is)
            (both_are_drafts s.cluster.f (Client s.me) _ _ (certs_are_drafts s.cluster (Client s.me) s.cli.cert placed.cert) (sends_request s.cli.at (placed.instance, at) few));
      }

pub moved_panic : (s : Seat) (placed : IsPlaced s.me s.cli) (at : s.cli.at ≤ 4294967295) (now : Seat) (sent : List Out)
    → now ≡ record s { cli = after_move s.cli move_panic }
    → sent ≡ cert_out (alone s.cluster) s.cli.cert ++ to_all (3 * s.cluster.f + 1) (panic_msg s.cli.at s.me)
    → IsMoved s (move_panic ∷ []) now sent []
unfolding panic_msg
moved_panic s placed at now sent is sends = record {
  client = is;
  stamp = ap (λ (t : Seat). t.cli.stamp) is;
  outs = sends ∙ sym (append-nil _);
  marks = refl;
  drafts = λ few. subst (All (IsDraftOf s.cluster.f (Client s.me))) (sym sends)
      (both_are_drafts s.cluster.f (Client s.me) _ _ (certs_are_drafts s.cluster (Client s.me) s.cli.cert placed.cert) (panics_are_drafts s.cluster s.cli.at s.me (placed.instance, at) few));
}

-- ---- a certificate of answers

module _ (s : Seat) (placed : IsPlaced s.me s.cli) (m : Request) (last : s.cli.last ≡ Some m) (z : Zcert) (due : cert_due (alone s.cluster) s.cli m ≡ Some z) where
  made : IsSent s.cluster.f m.client m.stamp z × AreVoters s.cli.votes s.cli.signed z
  made = timeout_sends s.cluster.f m s.cli.votes s.cli.signed s.cli.sent z due

  many : length z.sigs ≡ 2 * s.cluster.f + 1
  many = eqb-true (length z.sigs) (2 * s.cluster.f + 1) (and_parts (length z.sigs == (2 * s.cluster.f + 1)) (are_apart (map (λ t. t.0) z.sigs) && list_all (λ t. nat_lt t.0 (3 * s.cluster.f + 1)) z.sigs) made.0.quorum).0

  -- it has what one of the votes has
  voted_like : (sigs : List (ℕ × List ℕ)) → 1 ≤ length sigs → ((t : ℕ × List ℕ) → Contains sigs t → (a : Ballot) × Contains s.cli.votes a × (a.by ≡ t.0) × (a.n ≡ z.n) × (a.d ≡ z.d) × (a.reply ≡ z.reply))
      → IsWithin 1 65535 z.n × ((length z.d ≡ 32) × IsReply z.reply)
  voted_like [] some each = absurd (omega (arith, some))
  voted_like (t ∷ sigs) some each =
      let vote = each t (0, omega arith, refl) in
      let fits = All-contains IsBallot s.cli.votes vote.0 placed.votes vote.1 in
      (subst (λ (n : ℕ). IsWithin 1 65535 n) vote.3 fits.0, (subst (λ (d : List ℕ). length d ≡ 32) vote.4 fits.1, subst IsReply vote.5 fits.2))

  all_signed : (sigs : List (ℕ × List ℕ)) → ((t : ℕ × List ℕ) → Contains sigs t → Contains s.cli.signed t) → All IsSigner sigs
  all_signed [] each = All-nil IsSigner
  all_signed (t ∷ sigs) each =
      All-cons IsSigner t sigs (All-contains IsSigner s.cli.signed t placed.signed (each t (0, omega arith, refl))) (all_signed sigs (λ u has. each u (suc has.0, omega (arith, has.1), has.2)))

  zcert_fits : s.me ≤ 15 → IsZcert z
  zcert_fits few =
      let fits = open_fits s placed m last in
      let like = voted_like z.sigs (omega (arith, many)) (λ t has. (made.1 t has).1) in
      let f = s.cluster.in_bounds.few_faulty in (
        (omega arith, omega (arith, made.0.client_is, fits.0, few)),
        (
          subst IsStamp (sym made.0.stamp_is) fits.1.0,
          (like.0, (like.1.0, (like.1.1, ((omega (arith, many), omega (arith, many, f)), all_signed z.sigs (λ t has. (made.1 t has).0))))),
        ),
      )

  pub moved_cert : (at : s.cli.at ≤ 4294967295) (now : Seat) (sent : List Out) → now ≡ record s { cli = after_move s.cli (move_cert z) } → sent ≡ to_all (3 * s.cluster.f + 1) (msg.Cert s.cli.at z)
      → IsMoved s (move_cert z ∷ []) now sent []
  moved_cert at now sent is sends = record {
    client = is;
    stamp = ap (λ (t : Seat). t.cli.stamp) is;
    outs = sends ∙ sym (append-nil _);
    marks = refl;
    drafts = λ few. subst (All (IsDraftOf s.cluster.f (Client s.me))) (sym sends) (zcerts_are_drafts s.cluster (Client s.me) s.cli.at z (placed.instance, at) (zcert_fits few));
  }

-- ---- kept ABORTs

-- an ABORT that is kept just before an entry is gone after it
pub moved_keep_take : (s : Seat) (v : Signed) (j : ℕ) (cert : List Signed) (t : Trimmed) (m : Request) (now : Seat) (sent : List Out) (shown : List Seen)
    → IsMoved s (move_take j cert t m ∷ []) now sent shown → IsMoved s (move_keep v ∷ move_take j cert t m ∷ []) now sent shown
moved_keep_take s v j cert t m now sent shown is = record { client = is.client; stamp = is.stamp; outs = is.outs; marks = is.marks; drafts = is.drafts }

pub moved_keep : (s now : Seat) (v : Signed) → now ≡ record s { cli = after_move s.cli (move_keep v) } → IsMoved s (move_keep v ∷ []) now [] []
moved_keep s now v is = record { client = is; stamp = ap (λ (t : Seat). t.cli.stamp) is; outs = refl; marks = refl; drafts = λ few. All-nil (IsDraftOf s.cluster.f (Client s.me)) }

-- ---- certificates

module _ (c : Cluster) (s : Cli) (m : Request) (j : ℕ) (cert : List Signed) where
  pub taking-some : (t : Trimmed) → list_in c j cert ≡ Some t → s.at ≤ j → j < 4294967295 → taking (alone c) s m j cert ≡ move_take j cert t m ∷ []
  taking-some t is late below =
      ap (taking_with (alone c) s m j cert) is ∙ ap (λ b. if b then move_take j cert t m ∷ [] else []) (both s.at late below)
    where
      both : (a : ℕ) → a ≤ j → j < 4294967295 → (nat_le a j && nat_lt j 4294967295) ≡ true
      both a le lt = grind (arith, nat_tests)

  pub taking-none : list_in c j cert ≡ None → taking (alone c) s m j cert ≡ []
  taking-none is = ap (taking_with (alone c) s m j cert) is

  out_of_time : (o : Option Trimmed) → (nat_le s.at j && nat_lt j 4294967295) ≡ false → taking_with (alone c) s m j cert o ≡ []
  out_of_time None out = refl
  out_of_time (Some t) out = ap (λ b. if b then move_take j cert t m ∷ [] else []) out

  pub taking-early : j < s.at → taking (alone c) s m j cert ≡ []
  taking-early lt = out_of_time (list_in c j cert) (out s.at lt)
    where
      out : (a : ℕ) → j < a → (nat_le a j && nat_lt j 4294967295) ≡ false
      out a lt = grind (arith, nat_tests)

  pub taking-last : 4294967295 ≤ j → taking (alone c) s m j cert ≡ []
  taking-last le = out_of_time (list_in c j cert) (out s.at le)
    where
      out : (a : ℕ) → 4294967295 ≤ j → (nat_le a j && nat_lt j 4294967295) ≡ false
      out a le = grind (arith, nat_tests)

-- ---- ABORTs that come

module _ (s : Seat) (v : Signed) (is : IsSigned IsStopContent v) where
  abbrev may_keep : Bool
  may_keep = is_abort_of (kind_of s.cluster.plan s.cli.at) s.cluster.f s.cli.at v.content

  abbrev is_known : Bool
  is_known = list_any (λ w. w.maker == v.maker) s.cli.kept

  may_if : may_keep ≡ ((instance_of v.content == s.cli.at) && is_fit_of (kind_of s.cluster.plan s.cli.at) s.cluster.f v.content)
  may_if = is_abort_of-fits (kind_of s.cluster.plan s.cli.at) s.cluster.f s.cli.at v.content is.1.0

  again : (a b : Bool) (moves : List CliAction) → b ≡ true → (if a then (if b then [] else moves) else []) ≡ []
  again true b moves e = ap (λ t. if t then [] else moves) e
  again false b moves e = refl

  pub abort_again : list_any (λ w. w.maker == v.maker) s.cli.kept ≡ true → moves_on s (cue_message (msg.Abort v)) ≡ []
  abort_again out = if_open-still s.cli.phase s.cli.last _ (λ waits m. again may_keep is_known _ out)

  not_kept : (a : Bool) (moves : List CliAction) → a ≡ false → (if a then moves else []) ≡ []
  not_kept a moves out = ap (λ t. if t then moves else []) out

  refused : may_keep ≡ false → moves_on s (cue_message (msg.Abort v)) ≡ []
  refused out = if_open-still s.cli.phase s.cli.last _ (λ waits m. not_kept may_keep _ out)

  -- one of another instance
  pub abort_elsewhere : (instance_of v.content ≡ s.cli.at → ⊥) → moves_on s (cue_message (msg.Abort v)) ≡ []
  abort_elsewhere other =
      refused (may_if ∙ ap (λ b. b && is_fit_of (kind_of s.cluster.plan s.cli.at) s.cluster.f v.content) (differs (instance_of v.content) s.cli.at other))
    where
      differs : (a b : ℕ) → (a ≡ b → ⊥) → (a == b) ≡ false
      differs a b e = grind (arith, nat_tests)

  -- one that no certificate of the instance may hold
  pub abort_unfit : is_fit_of (kind_of s.cluster.plan s.cli.at) s.cluster.f v.content ≡ false → moves_on s (cue_message (msg.Abort v)) ≡ []
  abort_unfit out = refused (may_if ∙ ap (λ b. (instance_of v.content == s.cli.at) && b) out ∙ and-false (instance_of v.content == s.cli.at))

  first : (a b : Bool) (moves : List CliAction) → a ≡ true → b ≡ false → (if a then (if b then [] else moves) else []) ≡ moves
  first a b moves e f = ap (λ t. if t then (if b then [] else moves) else []) e ∙ ap (λ t. if t then [] else moves) f

  pub abort_first : (m : Request) → open_request s.cli.phase s.cli.last ≡ Some m → instance_of v.content ≡ s.cli.at → list_any (λ w. w.maker == v.maker) s.cli.kept ≡ false
      → is_fit_of (kind_of s.cluster.plan s.cli.at) s.cluster.f v.content ≡ true
      → moves_on s (cue_message (msg.Abort v)) ≡ move_keep v ∷ taking (alone s.cluster) s.cli m s.cli.at (own_cert s.cluster s.cli.at v s.cli.kept)
  abort_first m asked here new fits =
      if_open-some s.cli.phase s.cli.last _ m asked
      ∙ first may_keep is_known _ (may_if ∙ (λ j. same (instance_of v.content) s.cli.at here j && fits j)) new
    where
      same : (a b : ℕ) → a ≡ b → (a == b) ≡ true
      same a b e = grind (arith, nat_tests)

-- ---- results

-- what holds of one list of moves holds of another
pub moved_ok : (s : Seat) (moves other : List CliAction) (now : Seat) (r : Result (List Out × ArrayVec Seen) OutOfMemory)
    → ((sent : List Out) (shown : List Seen) → IsMoved s moves now sent shown → IsMoved s other now sent shown)
    → IfOk r (λ x. IsMoved s moves now x.0 x.1.items) → IfOk r (λ x. IsMoved s other now x.0 x.1.items)
moved_ok s moves other now (Ok x) same is = same x.0 x.1.items is
moved_ok s moves other now (Err e) same is = is

-- ---- an ABORT that completes a certificate, and one that does not

module _ (s : Seat) (v : Signed) (m : Request) (own : List Signed) where
  pub abort_taken : (j : ℕ) (cert : List Signed) (t : Trimmed) (now : Seat) (sent : List Out) (shown : List Seen) → j ≡ s.cli.at → cert ≡ own → list_in s.cluster s.cli.at own ≡ Some t → s.cli.at < 4294967295
      → IsMoved s (move_take j cert t m ∷ []) now sent shown → IsMoved s (move_keep v ∷ taking (alone s.cluster) s.cli m s.cli.at own) now sent shown
  abort_taken j cert t now sent shown here same brings below is =
      moved_so s (move_keep v ∷ taking (alone s.cluster) s.cli m s.cli.at own) (move_keep v ∷ move_take j cert t m ∷ []) now sent shown
      (ap (λ l. move_keep v ∷ l) (taking-some s.cluster s.cli m s.cli.at own t brings (omega arith) below ∙ (λ i. move_take (sym here i) (sym same i) t m ∷ [])))
      (moved_keep_take s v j cert t m now sent shown is)

  pub abort_kept : (now : Seat) (sent : List Out) (shown : List Seen) → (list_in s.cluster s.cli.at own ≡ None) ⊎ (4294967295 ≤ s.cli.at) → now ≡ record s { cli = after_move s.cli (move_keep v) } → sent ≡ [] → shown ≡ []
      → IsMoved s (move_keep v ∷ taking (alone s.cluster) s.cli m s.cli.at own) now sent shown
  abort_kept now sent shown not_yet is none unseen =
      subst (λ (o : List Out). IsMoved s (move_keep v ∷ taking (alone s.cluster) s.cli m s.cli.at own) now o shown) (sym none)
      (subst (λ (l : List Seen). IsMoved s (move_keep v ∷ taking (alone s.cluster) s.cli m s.cli.at own) now [] l) (sym unseen)
      (moved_so s (move_keep v ∷ taking (alone s.cluster) s.cli m s.cli.at own) (move_keep v ∷ []) now [] []
      (ap (λ l. move_keep v ∷ l) (nothing_taken not_yet)) (moved_keep s now v is)))
    where
      nothing_taken : (list_in s.cluster s.cli.at own ≡ None) ⊎ (4294967295 ≤ s.cli.at) → taking (alone s.cluster) s.cli m s.cli.at own ≡ []
      nothing_taken (inl none) = taking-none s.cluster s.cli m s.cli.at own none
      nothing_taken (inr last) = taking-last s.cluster s.cli m s.cli.at own last

pub init_late : (s : Seat) (cert : List Signed) → (cert_instance cert < s.cli.at) ⊎ (4294967295 ≤ cert_instance cert) → moves_on s (cue_message (msg.Init cert)) ≡ []
init_late s cert (inl early) = if_open-still s.cli.phase s.cli.last _ (λ waits m. taking-early s.cluster s.cli m (cert_instance cert) cert early)
init_late s cert (inr last) = if_open-still s.cli.phase s.cli.last _ (λ waits m. taking-last s.cluster s.cli m (cert_instance cert) cert last)
