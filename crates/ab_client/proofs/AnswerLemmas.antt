-- What answers come to.
use Rattle.std.proofs.Common.{◌≡◌, ℕ, zero, suc, ◌+◌, ◌*◌, ◌<◌, ◌≤◌, Bool, true, false, Option, Some, None, List, [], ◌∷◌, map, arith, refl, sym, ap, ◌∙◌, subst, inl, inr}
use Rattle.std.specs.Prelude.{◌==◌, ◌&&◌, ◌||◌, nat_lt, if◌then◌else◌, All, IsTrue, ◌≢◌, ◌⊎◌, Result, Ok, Err, IfOk, IsOk, IsOkAnd}
use Rattle.std.proofs.lemmas.Bool.{cases_order}
use Rattle.std.proofs.lemmas.Bool.Decides.{nat_tests}
use Rattle.std.proofs.lemmas.Result.{IfOk-weaker}
use Rattle.std.proofs.lemmas.Slice.Eq.{bytes_eq-Decides}
use Rattle.std.specs.Str.{bytes_eq}
use Rattle.arrayvec.specs.ArrayVec.{ArrayVec}
use Rattle.ab_num.specs.declared.memory.OutOfMemory.{OutOfMemory}
use Rattle.ab_msg.specs.declared.message.Out.{Out}
use Rattle.ab_num.specs.declared.plan.Kind.{Kind}
use Rattle.ab_num.specs.declared.plan.Kind.TheVariants as kind
use Rattle.ab_num.specs.declared.party.Party.TheVariants.{Replica}
use Rattle.ab_num.specs.Places.{kind_of}
use Rattle.ab_hist.specs.declared.request.Request.{Request}
use Rattle.ab_msg.specs.declared.content.Content.TheVariants.{Resp, Spec}
use Rattle.ab_msg.specs.declared.content.Content.{Content}
use Rattle.ab_msg.specs.declared.zcert.Zcert.{Zcert}
use Rattle.ab_msg.specs.declared.message.Msg.{Msg}
use Rattle.ab_msg.specs.declared.message.Msg.TheVariants as msg
use Rattle.ab_abs.specs.declared.ballot.Ballot.{Ballot}
use Rattle.ab_abs.specs.declared.rule.ReplyRule.TheVariants as rules
use Rattle.ab_abs.specs.declared.seen.Seen.{Seen}
use Rattle.ab_abs.specs.declared.seen.Seen.TheVariants.{Committed}
use Rattle.ab_abs.specs.Votes.{has_voted, voted, same_vote, all_voted, is_full_by}
use Rattle.ab_abs.specs.Kinds.{rule_of, counts_responses, is_zcert}
use Rattle.ab_run.specs.declared.phase.Phase.{Phase}
use Rattle.ab_run.specs.declared.phase.Phase.TheVariants.{Idle, Waiting, Panicking}
use Rattle.ab_run.specs.Clients.{CliAction, move_vote, move_commit, vote_claim, if_open, counting, counting_spec, hears_response, telling, telling_by}
use Rattle.ab_run.specs.Local.{cue_message, marks_in_moves}
use Rattle.ab_client.specs.Clients.{Seat, alone, is_waiting, moves_on, marks, told_by}
use Rattle.ab_client.specs.Moved.{IsLastVote, IsMoved, is_answer}
use Rattle.ab_client.proofs.MovedLemmas.{moved_nothing, moved_so}

-- ---- answers that are awaited

pub heard_so : (p : Phase) (last : Option Request) (x y : Bool) (moves : Request → List CliAction) (m : Request) → ((is_waiting p && x) && y) ≡ true → last ≡ Some m
    → if_open p last (λ waits m. if (waits && x) && y then moves m else []) ≡ moves m
heard_so Idle last x y moves m e is = absurd (cc (e))
heard_so Waiting None x y moves m e is = absurd (cc (is))
heard_so Waiting (Some q) x y moves m e is = let same : q ≡ m = cc (is) in ap (λ b. if b then moves q else []) e ∙ ap moves same
heard_so Panicking last x y moves m e is = absurd (cc (e))

-- where there was no request nothing moves
pub heard_none : (p : Phase) (last : Option Request) (moves : Bool → Request → List CliAction) → last ≡ None → if_open p last moves ≡ []
heard_none Idle last moves e = refl
heard_none Waiting None moves e = refl
heard_none Waiting (Some m) moves e = absurd (cc (e))
heard_none Panicking None moves e = refl
heard_none Panicking (Some m) moves e = absurd (cc (e))

-- a response that is awaited is counted, where a request is open
module _ (s : Seat) (b : Ballot) (i d stamp : ℕ) (tag : List ℕ) (now : Seat) (shown : List Seen)
    (awaited : ((is_waiting s.cli.phase && counts_responses (kind_of s.cluster.plan s.cli.at)) && ((i == s.cli.at) && ((d == s.me) && (stamp == s.cli.stamp)))) ≡ true)
    (counts : (m : Request) → s.cli.last ≡ Some m → IsMoved s (counting (alone s.cluster) s.me s.cli m b) now [] shown)
    (none : s.cli.last ≡ None → (now ≡ s) × (shown ≡ [])) where
  by_last : (last : Option Request) → s.cli.last ≡ last → IsMoved s (moves_on s (cue_message (msg.Resp (Resp (Replica b.by) i d stamp b.n b.d b.reply) tag))) now [] shown
  by_last None is =
      let moves = moves_on s (cue_message (msg.Resp (Resp (Replica b.by) i d stamp b.n b.d b.reply) tag)) in
      let rests = none is in
      subst (λ (t : Seat). IsMoved s (moves_on s (cue_message (msg.Resp (Resp (Replica b.by) i d stamp b.n b.d b.reply) tag))) t [] shown) (sym rests.0)
      (moved_nothing s moves [] shown refl rests.1 (heard_none s.cli.phase s.cli.last _ is))
  by_last (Some m) is =
      let moves = moves_on s (cue_message (msg.Resp (Resp (Replica b.by) i d stamp b.n b.d b.reply) tag)) in
      moved_so s moves (counting (alone s.cluster) s.me s.cli m b) now [] shown
      (heard_so s.cli.phase s.cli.last (counts_responses (kind_of s.cluster.plan s.cli.at)) ((i == s.cli.at) && ((d == s.me) && (stamp == s.cli.stamp))) (λ q. counting (alone s.cluster) s.me s.cli q b) m awaited is)
      (counts m is)

  pub response_counted : IsMoved s (moves_on s (cue_message (msg.Resp (Resp (Replica b.by) i d stamp b.n b.d b.reply) tag))) now [] shown
  response_counted = by_last s.cli.last refl

-- the same of a signed one, for whose signature memory may be wanting
module _ (s : Seat) (b : Ballot) (sig : List ℕ) (i d stamp maker : ℕ) (now : Seat) (r : Result (ArrayVec Seen) OutOfMemory)
    (awaited : ((is_waiting s.cli.phase && is_zcert (kind_of s.cluster.plan s.cli.at)) && ((i == s.cli.at) && ((d == s.me) && (stamp == s.cli.stamp)))) ≡ true)
    (counts : (m : Request) → s.cli.last ≡ Some m → IfOk r (λ marks. IsMoved s (counting_spec (alone s.cluster) s.me s.cli m b sig) now [] marks.items))
    (none : s.cli.last ≡ None → IfOk r (λ marks. (now ≡ s) × (marks.items ≡ []))) where
  abbrev moves_by : List CliAction
  moves_by = moves_on s (cue_message (msg.Spec (record { maker = maker; content = Spec (Replica b.by) i d stamp b.n b.d b.reply; sig = sig })))

  spec_by_last : (last : Option Request) → s.cli.last ≡ last → IfOk r (λ marks. IsMoved s moves_by now [] marks.items)
  spec_by_last None is =
      IfOk-weaker r (λ marks. (now ≡ s) × (marks.items ≡ [])) (λ marks. IsMoved s moves_by now [] marks.items)
      (λ marks rests. subst (λ (t : Seat). IsMoved s moves_by t [] marks.items) (sym rests.0) (moved_nothing s moves_by [] marks.items refl rests.1 (heard_none s.cli.phase s.cli.last _ is)))
      (none is)
  spec_by_last (Some m) is =
      let counted = counting_spec (alone s.cluster) s.me s.cli m b sig in
      IfOk-weaker r (λ marks. IsMoved s counted now [] marks.items) (λ marks. IsMoved s moves_by now [] marks.items)
      (λ marks moved. moved_so s moves_by counted now [] marks.items
      (heard_so s.cli.phase s.cli.last (is_zcert (kind_of s.cluster.plan s.cli.at)) ((i == s.cli.at) && ((d == s.me) && (stamp == s.cli.stamp))) (λ q. counting_spec (alone s.cluster) s.me s.cli q b sig) m awaited is)
      moved)
      (counts m is)

  pub spec_counted : IfOk r (λ marks. IsMoved s moves_by now [] marks.items)
  spec_counted = spec_by_last s.cli.last refl

-- ---- what replicas tell that they keep

kept_so : (p : Phase) (last : Option Request) (moves : Request → List CliAction) (m : Request) → is_waiting p ≡ true → last ≡ Some m → if_open p last (λ waits q. if waits then moves q else []) ≡ moves m
kept_so Idle last moves m e is = absurd (cc (e))
kept_so Waiting None moves m e is = absurd (cc (is))
kept_so Waiting (Some q) moves m e is = let same : q ≡ m = cc (is) in ap moves same
kept_so Panicking last moves m e is = absurd (cc (e))

kept_still : (p : Phase) (last : Option Request) (moves : Request → List CliAction) → is_waiting p ≡ false → if_open p last (λ waits q. if waits then moves q else []) ≡ []
kept_still Idle last moves e = refl
kept_still Waiting last moves e = absurd (cc (e))
kept_still Panicking None moves e = refl
kept_still Panicking (Some q) moves e = refl

module _ (s : Seat) (content : Content) (tag : List ℕ) where
  abbrev telling_moves : List CliAction
  telling_moves = moves_on s (cue_message (msg.LocalCommit content tag))

  -- nothing comes of it where the client doesn't wait
  pub tells_nobody : is_waiting s.cli.phase ≡ false → telling_moves ≡ []
  tells_nobody e = kept_still s.cli.phase s.cli.last (λ q. telling (alone s.cluster) s.me s.cli q content s.cli.sent) e

  pub tells_without : s.cli.last ≡ None → telling_moves ≡ []
  tells_without e = heard_none s.cli.phase s.cli.last _ e

  untold : (m : Request) (o : Option Zcert) → told_by s.cluster.f s.cli.at s.me o content ≡ None → telling (alone s.cluster) s.me s.cli m content o ≡ []
  untold m None none = refl
  untold m (Some z) none = ap (telling_by (alone s.cluster) s.me s.cli m z) none

  by_request : (last : Option Request) → s.cli.last ≡ last → is_waiting s.cli.phase ≡ true → told_by s.cluster.f s.cli.at s.me s.cli.sent content ≡ None → telling_moves ≡ []
  by_request None is waits none = tells_without is
  by_request (Some m) is waits none = kept_so s.cli.phase s.cli.last (λ q. telling (alone s.cluster) s.me s.cli q content s.cli.sent) m waits is ∙ untold m s.cli.sent none

  -- nor where it says nothing of the certificate that was sent
  pub tells_nothing : is_waiting s.cli.phase ≡ true → told_by s.cluster.f s.cli.at s.me s.cli.sent content ≡ None → telling_moves ≡ []
  tells_nothing waits none = by_request s.cli.last refl waits none

  module _ (r : ℕ) (waits : is_waiting s.cli.phase ≡ true) (now : Seat) (out : Result (ArrayVec Seen) OutOfMemory) (says : told_by s.cluster.f s.cli.at s.me s.cli.sent content ≡ Some r)
      (tells : (m : Request) (z : Zcert) → s.cli.last ≡ Some m → s.cli.sent ≡ Some z → IfOk out (λ marks. IsMoved s (telling_by (alone s.cluster) s.me s.cli m z (Some r)) now [] marks.items)) where
    told_so : (m : Request) (o : Option Zcert) → s.cli.sent ≡ o → s.cli.last ≡ Some m → told_by s.cluster.f s.cli.at s.me o content ≡ Some r → IfOk out (λ marks. IsMoved s telling_moves now [] marks.items)
    told_so m None is asked said = absurd (cc (said))
    told_so m (Some z) is asked said =
        let counted = telling_by (alone s.cluster) s.me s.cli m z (Some r) in
        let same : telling_moves ≡ counted =
        kept_so s.cli.phase s.cli.last (λ q. telling (alone s.cluster) s.me s.cli q content s.cli.sent) m waits asked
        ∙ ap (telling (alone s.cluster) s.me s.cli m content) is ∙ ap (telling_by (alone s.cluster) s.me s.cli m z) said
        in
        IfOk-weaker out (λ marks. IsMoved s counted now [] marks.items) (λ marks. IsMoved s telling_moves now [] marks.items)
        (λ marks moved. moved_so s telling_moves counted now [] marks.items same moved) (tells m z asked is)

    -- the first that a replica tells of it counts
    pub tells_so : (m : Request) → s.cli.last ≡ Some m → IfOk out (λ marks. IsMoved s telling_moves now [] marks.items)
    tells_so m asked = told_so m s.cli.sent refl asked says

-- ---- the last of equal answers

same_itself : (b : Ballot) → same_vote b b ≡ true
same_itself b = all_true (b.n == b.n) (bytes_eq b.d b.d) (bytes_eq b.reply.items b.reply.items) (same b.n) ((bytes_eq-Decides b.d b.d).1 refl) ((bytes_eq-Decides b.reply.items b.reply.items).1 refl)
  where
    same : (n : ℕ) → (n == n) ≡ true
    same n = grind (arith, nat_tests)

    all_true : (x y z : Bool) → x ≡ true → y ≡ true → z ≡ true → (x && (y && z)) ≡ true
    all_true x y z e f g = λ i. e i && (f i && g i)

module _ (votes : List Ballot) (b : Ballot) (n : ℕ) (equal : (r : ℕ) → r < n → r ≢ b.by → IsTrue (voted votes b r)) where
  voted_so : (r : ℕ) → r < n → voted (b ∷ votes) b r ≡ true
  voted_so r lt =
      elim (cases_order r b.by) [
        | inl same ↦ own ((b.by == r)) (same_vote b b) (voted votes b r) (is_same b.by r (sym same)) (same_itself b)
        | inr (inl below) ↦ other ((b.by == r) && same_vote b b) (voted votes b r) (equal r lt (λ e. omega (arith, below, e)))
        | inr (inr above) ↦ other ((b.by == r) && same_vote b b) (voted votes b r) (equal r lt (λ e. omega (arith, above, e)))
      ]
    where
      is_same : (x y : ℕ) → x ≡ y → (x == y) ≡ true
      is_same x y e = grind (arith, nat_tests)

      own : (x y z : Bool) → x ≡ true → y ≡ true → ((x && y) || z) ≡ true
      own x y z e f = λ i. (e i && f i) || z

      other : (x y : Bool) → IsTrue y → (x || y) ≡ true
      other true y is = refl
      other false y is = is

  all_so : (k : ℕ) → k ≤ n → all_voted (b ∷ votes) b k ≡ true
  all_so zero le = refl
  all_so (suc k) le = λ i. voted_so k (omega (arith, le)) i && all_so k (omega (arith, le)) i

-- such kinds commit on the votes of all, by responses
unanimous_kind : (k : Kind) (f : ℕ) → (k ≡ kind.Quorum) ⊎ (k ≡ kind.ZLight) → (rule_of k f ≡ rules.All) × (counts_responses k ≡ true)
unanimous_kind k f (inl is) = (ap (λ k. rule_of k f) is, ap counts_responses is)
unanimous_kind k f (inr is) = (ap (λ k. rule_of k f) is, ap counts_responses is)

module _ (s : Seat) (m : Request) (b : Ballot) (kinds : (kind_of s.cluster.plan s.cli.at ≡ kind.Quorum) ⊎ (kind_of s.cluster.plan s.cli.at ≡ kind.ZLight))
    (waits : s.cli.phase ≡ Waiting) (asked : s.cli.last ≡ Some m) (replica : b.by < 3 * s.cluster.f + 1) (new : has_voted s.cli.votes b.by ≡ false)
    (equal : (r : ℕ) → r < 3 * s.cluster.f + 1 → r ≢ b.by → IsTrue (voted s.cli.votes b r)) where
  full : is_full_by (rule_of (kind_of s.cluster.plan s.cli.at) s.cluster.f) (3 * s.cluster.f + 1) (b ∷ s.cli.votes) b ≡ true
  full = ap (λ r. is_full_by r (3 * s.cluster.f + 1) (b ∷ s.cli.votes) b) (unanimous_kind _ s.cluster.f kinds).0 ∙ all_so s.cli.votes b (3 * s.cluster.f + 1) equal (3 * s.cluster.f + 1) (omega arith)

  counted : counting (alone s.cluster) s.me s.cli m b ≡ move_vote b ∷ move_commit m b.n b.d b.reply (map (vote_claim s.cli.at s.me m.stamp) (b ∷ s.cli.votes)) ∷ []
  counted =
      chosen (nat_lt b.by (3 * s.cluster.f + 1)) (has_voted s.cli.votes b.by) (is_full_by (rule_of (kind_of s.cluster.plan s.cli.at) s.cluster.f) (3 * s.cluster.f + 1) (b ∷ s.cli.votes) b)
      (is_lt b.by (3 * s.cluster.f + 1) replica) new full
    where
      is_lt : (x y : ℕ) → x < y → nat_lt x y ≡ true
      is_lt x y lt = grind (arith, nat_tests)

      chosen : (x y z : Bool) {t u : CliAction} → x ≡ true → y ≡ false → z ≡ true → (if x then (if y then [] else t ∷ (if z then u ∷ [] else [])) else []) ≡ t ∷ u ∷ []
      chosen x y z {t} {u} e f g = λ i. if e i then (if f i then [] else t ∷ (if g i then u ∷ [] else [])) else []

  heard : hears_response (alone s.cluster) s.me s.cli true m (Resp (Replica b.by) s.cli.at s.me s.cli.stamp b.n b.d b.reply) ≡ counting (alone s.cluster) s.me s.cli m b
  heard = answered (counts_responses (kind_of s.cluster.plan s.cli.at)) (s.cli.at == s.cli.at) (s.me == s.me) (s.cli.stamp == s.cli.stamp)
      (unanimous_kind (kind_of s.cluster.plan s.cli.at) s.cluster.f kinds).1 (same s.cli.at) (same s.me) (same s.cli.stamp)
    where
      same : (n : ℕ) → (n == n) ≡ true
      same n = grind (arith, nat_tests)

      answered : (w x y z : Bool) {ts : List CliAction} → w ≡ true → x ≡ true → y ≡ true → z ≡ true → (if (true && w) && (x && (y && z)) then ts else []) ≡ ts
      answered w x y z {ts} e f g h = λ i. if (true && e i) && (f i && (g i && h i)) then ts else []

  last_moves : (tag : List ℕ) → moves_on s (cue_message (msg.Resp (Resp (Replica b.by) s.cli.at s.me s.cli.stamp b.n b.d b.reply) tag))
      ≡ move_vote b ∷ move_commit m b.n b.d b.reply (map (vote_claim s.cli.at s.me m.stamp) (b ∷ s.cli.votes)) ∷ []
  last_moves tag =
      (λ i. if_open (waits i) (asked i) (λ w q. hears_response (alone s.cluster) s.me s.cli w q (Resp (Replica b.by) s.cli.at s.me s.cli.stamp b.n b.d b.reply)))
      ∙ heard ∙ counted

  last_marks : (tag : List ℕ) → marks s (cue_message (msg.Resp (Resp (Replica b.by) s.cli.at s.me s.cli.stamp b.n b.d b.reply) tag)) ≡ Committed s.cli.at s.me m b.n b.d b.reply ∷ []
  last_marks tag = ap (marks_in_moves s.me s.cli) (last_moves tag)

-- the last of equal answers of all replicas commits
pub last_vote_commits : (s : Seat) (given : Msg) (m : Request) (b : Ballot) → IsLastVote s given m b → marks s (cue_message given) ≡ Committed s.cli.at s.me m b.n b.d b.reply ∷ []
last_vote_commits s given m b is =
    ap (λ t. marks s (cue_message t)) is.answer.1 ∙ last_marks s m b is.kind is.waits is.asked is.replica is.first is.equal is.answer.0

answer_is : (s : Seat) (given : Msg) (m : Request) (b : Ballot) → IsLastVote s given m b → is_answer given ≡ true
answer_is s given m b is = ap is_answer is.answer.1

-- in that very call, which takes no memory
pub marks_at_once : (s : Seat) (given : Msg) (now : Seat) (r : Result (List Out × ArrayVec Seen) OutOfMemory) (m : Request) (b : Ballot)
    → IfOk r (λ x. IsMoved s (moves_on s (cue_message given)) now x.0 x.1.items) → (is_answer given ≡ true → IsOk r) → IsLastVote s given m b
    → IsOkAnd r (λ x. x.1.items ≡ Committed s.cli.at s.me m b.n b.d b.reply ∷ [])
marks_at_once s given now (Ok x) m b moved answered is = moved.marks ∙ last_vote_commits s given m b is
marks_at_once s given now (Err e) m b moved answered is = let no_err = answered (answer_is s given m b is) in absurd (cc (no_err))
