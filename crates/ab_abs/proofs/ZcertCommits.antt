-- Sound acts with certificates of answers are founded.
use Rattle.std.proofs.Common.{◌≡◌, ℕ, ◌+◌, ◌*◌, ◌<◌, ◌≤◌, false, Option, Some, None, List, [], ◌⊎◌, length, take, refl, sym, ap, ◌∙◌, subst, inl, inr, arith}
use Rattle.std.specs.Prelude.{Contains, map}
use Rattle.std.proofs.lemmas.Bool.{cases_lt}
use Rattle.std.proofs.lemmas.List.{length-take, length-map}
use Rattle.std.proofs.lemmas.List.Elements.{All-contains}
use mathlib.Core.List.{IsPrefix}
use base.Growing.{prefix_trans}
use Rattle.ab_hist.specs.declared.request.Request.{Request}
use Rattle.ab_hist.specs.Histories.{IsHistory, Comparable}
use Rattle.ab_hist.specs.Digests.{digest_of}
use Rattle.ab_num.specs.declared.party.Party.{Party}
use Rattle.ab_num.specs.declared.party.Party.TheVariants.{Replica}
use Rattle.ab_num.proofs.Lists.{Contains-head, Contains-map_cases}
use Rattle.ab_svc.specs.Machines.{Machine, Reply, IsReply}
use Rattle.ab_msg.specs.declared.content.Content.{Content}
use Rattle.ab_msg.specs.declared.content.Content.TheVariants.{Spec, LocalCommit, AbortZ}
use Rattle.ab_msg.specs.declared.zcert.Zcert.{Zcert}
use Rattle.ab_msg.specs.Claims.{spec_of}
use Rattle.ab_abs.specs.declared.seen.Seen.TheVariants.{Cert, Committed}
use Rattle.ab_abs.specs.declared.rule.ReplyRule.TheVariants as rules
use Rattle.ab_abs.specs.Faults.{is_faulty}
use Rattle.ab_abs.specs.Observations.{IsInitHistory}
use Rattle.ab_abs.specs.Instances.{IsAbstract}
use Rattle.ab_abs.specs.Extraction.{holders, IsExtract}
use Rattle.ab_abs.specs.Acts.{Setting, State, Act, observations, state_of, log_at, log_of, base_of, zcert_of, named_in, histories}
use Rattle.ab_abs.specs.Rules.{AreStated, IsCertified, by_all, by_kept, Kept, HasFront, IsKeptBeside, IsExtension, AreUpTo, IsKeptHistory, without, with_zcert, IsKeptCert}
use Rattle.ab_abs.specs.Lawful.{BeginsThere}
use Rattle.ab_abs.specs.ZcertRules.{KeepsUpTo, ZcertCalls, IsZcertSound}
use Rattle.ab_abs.specs.Backing.{IsCorrect, IsBackedCommit, IsFoundedCert, IsFounded}
use Rattle.ab_abs.proofs.Prefixes.{prefix_length, prefix_shorter, take_begins, prefixes_comparable}
use Rattle.ab_abs.proofs.Statements.{claimed}
use Rattle.ab_abs.proofs.Facts.{claim_held}
use Rattle.ab_abs.proofs.Voters.{below, below-length, below-Contains, below_distinct, some_correct, some_fails, faulty_few}
use Rattle.ab_abs.proofs.Fronts.{named_front}
use Rattle.ab_abs.proofs.Rooted.{IsRooted}
use Rattle.ab_abs.proofs.Following.{IsCommitting, committing, certified, invoked_once}
use Rattle.ab_abs.proofs.Backed.{founded_abstract, prefix_take}
use Rattle.ab_abs.proofs.Quorums.{IsQuorum, quorums_meet}
use Rattle.ab_abs.proofs.KeptVotes.{both_held, correct_holder, correct_hold, half}
use Rattle.ab_abs.proofs.AllVotes.{IsVoted}
use Rattle.ab_abs.proofs.ZcertCalls.{IsZcertLater, zcert_keeping, zcert_rooted, spec_made, local_made, abort_is_last, zcert_accounted}

take_none : {A : Type 0} (n : ℕ) (xs : List A) → n ≡ 0 → take n xs ≡ []
take_none n xs e = ap (λ k. take k xs) e

-- nothing is kept that has a number
none_keeps : (n : ℕ) (z : Option Zcert) → z ≡ None → KeepsUpTo n z → ⊥
none_keeps n z e keeps = subst (λ (y : Option Zcert). KeepsUpTo n y) e keeps

-- what is kept up to n is there, with that number or a higher one
keeps_some : (n : ℕ) (z : Option Zcert) → KeepsUpTo n z → (y : Zcert) × (z ≡ Some y) × (n ≤ y.n)
keeps_some n None keeps = absurd keeps
keeps_some n (Some y) keeps = (y, refl, keeps)

module _ {S : Type 0} (machine : Machine S) (x : Setting) (acts : List Act) (sound : IsZcertSound machine x acts) where
  abbrev IsCommittingHere : ℕ → Request → ℕ → List ℕ → Reply → Type 0
  IsCommittingHere c m n d reply = IsCommitting rules.Certified x BeginsThere (ZcertCalls machine x) IsZcertLater (zcert_keeping machine x) acts c m n d reply

  commit_at : (c : ℕ) (m : Request) (n : ℕ) (d : List ℕ) (reply : Reply) → Contains (observations acts) (Committed x.i c m n d reply) → IsCommittingHere c m n d reply
  commit_at c m n d reply is = committing rules.Certified x BeginsThere (ZcertCalls machine x) IsZcertLater (zcert_keeping machine x) acts sound.lawful x.i c m n d reply is

  -- ---- fronts of logs

  -- the log of r has this front
  record Has (r n : ℕ) (d : List ℕ) : Type 0 where
    reaches : n ≤ length (log_of acts r)
    digest : digest_of (take n (log_of acts r)) ≡ d

  -- a replica that has not begun has an empty log
  log_or_nothing : (r : ℕ) (o : Option State) → state_of acts r ≡ o → (log_of acts r ≡ []) ⊎ IsRooted x acts r
  log_or_nothing r None is = inl (ap log_at is)
  log_or_nothing r (Some here) is = inr (zcert_rooted machine x sound.later_than_none acts sound.lawful r (here, is))

  same_front : (r s n : ℕ) (d : List ℕ) → Has r n d → Has s n d → take n (log_of acts r) ≡ take n (log_of acts s)
  same_front r s n d one two =
      elim (log_or_nothing r (state_of acts r) refl) [
        | inl none ↦ let e : n ≡ 0 = omega (arith, one.reaches, ap length none) in take_none n (log_of acts r) e ∙ sym (take_none n (log_of acts s) e)
        | inr root ↦ elim (log_or_nothing s (state_of acts s) refl) [
          | inl none ↦ let e : n ≡ 0 = omega (arith, two.reaches, ap length none) in take_none n (log_of acts r) e ∙ sym (take_none n (log_of acts s) e)
          | inr also ↦
              sound.premises.apart (log_of acts r) (log_of acts s) (take n (log_of acts r)) (take n (log_of acts s)) root.held also.held
              (take_begins n (log_of acts r)) (take_begins n (log_of acts s)) (one.digest ∙ sym two.digest)
        ]
      ]

  -- what n and d name, by the log of a correct replica that has them
  named : (r n : ℕ) (d : List ℕ) → IsCorrect x r → Has r n d → named_in x acts n d ≡ take n (log_of acts r)
  named r n d good has =
      let front = named_front x.faulty (log_of acts) n d (3 * x.cluster.f + 1) r good.within good.correct has.reaches has.digest in
      front.front_is ∙ same_front front.r r n d (record { reaches = front.reaches; digest = front.digest }) has

  -- ---- signed answers

  -- what the signed answer of a correct replica says of its log
  record IsBacking (r n : ℕ) (d : List ℕ) : Type 0 where
    root : IsRooted x acts r
    has : Has r n d
    above : length (base_of acts r) ≤ n

  answered : (a : Act) → Contains acts a → (r c stamp n : ℕ) (d : List ℕ) (reply : Reply) → Contains a.claims (Spec (Replica r) x.i c stamp n d reply) → is_faulty x.faulty (Replica r) ≡ false → IsVoted machine x acts r c stamp n d reply
  answered a is r c stamp n d reply claim good =
      spec_made machine x acts sound.lawful sound.premises.honest x.i r c stamp n d reply (claimed machine x acts sound.premises.honest a is (Spec (Replica r) x.i c stamp n d reply) claim good)

  backing : (r c stamp n : ℕ) (d : List ℕ) (reply : Reply) → IsVoted machine x acts r c stamp n d reply → IsBacking r n d
  backing r c stamp n d reply v = record {
    root = zcert_rooted machine x sound.later_than_none acts sound.lawful r v.begun;
    has = record { reaches = v.reaches; digest = v.digest };
    above = v.above;
  }

  -- 2f + 1 replicas of which each correct one backs n and d
  record AreBacking (n : ℕ) (d : List ℕ) : Type 0 where
    by : List ℕ
    many : IsQuorum x.faulty x.cluster.f by
    each : (r : ℕ) → Contains by r → is_faulty x.faulty (Replica r) ≡ false → IsBacking r n d

  quorum_of : (claims : List Content) (says : ℕ → Content) (s : AreStated (2 * x.cluster.f + 1) x claims says) → IsQuorum x.faulty x.cluster.f s.by
  quorum_of claims says s = record {
    distinct = s.each_once;
    within = λ r has. All-contains (λ q. q < 3 * x.cluster.f + 1) s.by r s.within has;
    enough = omega (arith, s.enough);
  }

  all_replicas : IsQuorum x.faulty x.cluster.f (below (3 * x.cluster.f + 1))
  all_replicas = record {
    distinct = below_distinct (3 * x.cluster.f + 1);
    within = below-Contains (3 * x.cluster.f + 1);
    enough = omega (arith, below-length (3 * x.cluster.f + 1));
  }

  stated_backing : (a : Act) → Contains acts a → (c stamp n : ℕ) (d : List ℕ) (reply : Reply) → AreStated (2 * x.cluster.f + 1) x a.claims (λ r. Spec (Replica r) x.i c stamp n d reply) → AreBacking n d
  stated_backing a is c stamp n d reply s = record {
    by = s.by;
    many = quorum_of a.claims (λ r. Spec (Replica r) x.i c stamp n d reply) s;
    each = λ r has good.
        let claim = All-contains (λ q. Contains a.claims (Spec (Replica q) x.i c stamp n d reply)) s.by r s.stated has in
        backing r c stamp n d reply (answered a is r c stamp n d reply claim good);
  }

  -- a correct replica that backs both
  record Both (n : ℕ) (d : List ℕ) (o : ℕ) (b : List ℕ) : Type 0 where
    r : ℕ
    good : IsCorrect x r
    one : IsBacking r n d
    other : IsBacking r o b

  meeting : (n : ℕ) (d : List ℕ) (o : ℕ) (b : List ℕ) → AreBacking n d → AreBacking o b → Both n d o b
  meeting n d o b one two =
      let m = quorums_meet x.faulty x.cluster.f one.by two.by sound.premises.few one.many two.many in
      record { r = m.at; good = record { within = m.within; correct = m.correct }; one = one.each m.at m.in_one m.correct; other = two.each m.at m.in_other m.correct }

  -- ---- commits

  -- how it was committed: every correct replica backs it, or 2f + 1 replicas told that they keep it, and keep it or a later one
  data IsWay (n : ℕ) (d : List ℕ) : Type 0 where
    everyone : ((r : ℕ) → IsCorrect x r → IsBacking r n d) → IsWay n d
    keepers : (by : List ℕ) → IsQuorum x.faulty x.cluster.f by → ((r : ℕ) → Contains by r → is_faulty x.faulty (Replica r) ≡ false → KeepsUpTo n (zcert_of acts r)) → IsWay n d

  -- a correct replica that answered the request, and 2f + 1 that back the commit
  record IsSupported (m : Request) (n : ℕ) (d : List ℕ) (reply : Reply) : Type 0 where
    r : ℕ
    good : IsCorrect x r
    backs : IsBacking r n d
    replied : IsReply machine (take n (log_of acts r)) m reply
    all : AreBacking n d
    way : IsWay n d

  local_kept : (a : Act) → Contains acts a → (c stamp n : ℕ) (d : List ℕ) (s : AreStated (2 * x.cluster.f + 1) x a.claims (λ r. LocalCommit (Replica r) x.i c stamp n d)) → (r : ℕ) → Contains s.by r → is_faulty x.faulty (Replica r) ≡ false → KeepsUpTo n (zcert_of acts r)
  local_kept a is c stamp n d s r has good =
      let claim = All-contains (λ q. Contains a.claims (LocalCommit (Replica q) x.i c stamp n d)) s.by r s.stated has in
      local_made machine x acts sound.lawful x.i r c stamp n d (claimed machine x acts sound.premises.honest a is (LocalCommit (Replica r) x.i c stamp n d) claim good)

  -- the reply of a correct replica is that to the request of the commit
  reply_is : (c : ℕ) (m : Request) (n : ℕ) (d : List ℕ) (reply : Reply) → IsCommittingHere c m n d reply → (r : ℕ) → IsVoted machine x acts r c m.stamp n d reply → IsReply machine (take n (log_of acts r)) m reply
  reply_is c m n d reply is r v =
      let same : v.m ≡ m = invoked_once rules.Certified x BeginsThere (ZcertCalls machine x) IsZcertLater (zcert_keeping machine x) acts sound.lawful c m v.m is.invoked (v.asked is.correct) v.stamp_is in
      subst (λ (q : Request). IsReply machine (take n (log_of acts r)) q reply) same v.replied

  some : (r : ℕ) × (r < 3 * x.cluster.f + 1) × (is_faulty x.faulty (Replica r) ≡ false)
  some = some_correct x.faulty (3 * x.cluster.f + 1) (omega (arith, sound.premises.few))

  support : (c : ℕ) (m : Request) (n : ℕ) (d : List ℕ) (reply : Reply) → (is : IsCommittingHere c m n d reply) → IsCertified x is.act.claims c m.stamp n d reply → IsSupported m n d reply
  support c m n d reply is (by_all each) =
      let voted : (r : ℕ) → r < 3 * x.cluster.f + 1 → is_faulty x.faulty (Replica r) ≡ false → IsVoted machine x acts r c m.stamp n d reply = λ r lt good. answered is.act is.is_in r c m.stamp n d reply (each r lt) good in
      let v = voted some.0 some.1 some.2 in
      record {
        r = some.0;
        good = record { within = some.1; correct = some.2 };
        backs = backing some.0 c m.stamp n d reply v;
        replied = reply_is c m n d reply is some.0 v;
        all = record {
          by = below (3 * x.cluster.f + 1);
          many = all_replicas;
          each = λ r has good. backing r c m.stamp n d reply (voted r (below-Contains (3 * x.cluster.f + 1) r has) good);
        };
        way = everyone (λ r good. backing r c m.stamp n d reply (voted r good.within good.correct));
      }
  support c m n d reply is (by_kept told specs) =
      let all = stated_backing is.act is.is_in c m.stamp n d reply specs in
      let one = meeting n d n d all all in
      let found = some_fails (λ r. is_faulty x.faulty (Replica r)) specs.by (omega (arith, specs.enough, faulty_few x.faulty specs.by specs.each_once, sound.premises.few)) in
      let claim = All-contains (λ q. Contains is.act.claims (Spec (Replica q) x.i c m.stamp n d reply)) specs.by found.0 specs.stated found.1 in
      let v = answered is.act is.is_in found.0 c m.stamp n d reply claim found.2 in
      record {
        r = found.0;
        good = record { within = All-contains (λ q. q < 3 * x.cluster.f + 1) specs.by found.0 specs.within found.1; correct = found.2 };
        backs = backing found.0 c m.stamp n d reply v;
        replied = reply_is c m n d reply is found.0 v;
        all = all;
        way = keepers told.by (quorum_of is.act.claims (λ r. LocalCommit (Replica r) x.i c m.stamp n d) told) (local_kept is.act is.is_in c m.stamp n d told);
      }

  supported : (c : ℕ) (m : Request) (n : ℕ) (d : List ℕ) (reply : Reply) → Contains (observations acts) (Committed x.i c m n d reply) → IsSupported m n d reply
  supported c m n d reply has = let is = commit_at c m n d reply has in support c m n d reply is is.full

  backed_commit : (c : ℕ) (m : Request) (n : ℕ) (d : List ℕ) (reply : Reply) → Contains (observations acts) (Committed x.i c m n d reply) → IsBackedCommit machine x acts m n d reply
  backed_commit c m n d reply has =
      let s = supported c m n d reply has in
      record {
        holder = s.r;
        correct = s.good;
        names = named s.r n d s.good s.backs.has;
        reaches = s.backs.has.reaches;
        digest = s.backs.has.digest;
        replied = s.replied;
        init = base_of acts s.r;
        begun = record { is_init = s.backs.root.init; begins = s.backs.root.begins };
        above = s.backs.above;
      }

  comparable : (n o : ℕ) (d b : List ℕ) → AreBacking n d → AreBacking o b → Comparable (named_in x acts n d) (named_in x acts o b)
  comparable n o d b one two =
      let m = meeting n d o b one two in
      let log = log_of acts m.r in
      rw (named m.r n d m.good m.one.has, named m.r o b m.good m.other.has)
      (prefixes_comparable (take n log) (take o log) log (take_begins n log) (take_begins o log))

  -- ---- certificates

  module _ (a : Act) (is : Contains acts a) (h : List Request) (cert : IsKeptCert x a.claims h) where
    abbrev lists : List (List Request)
    lists = map (λ v. v.log) cert.votes

    claim_of : (v : Kept) → Contains cert.votes v → Contains a.claims (AbortZ (Replica v.by) x.i v.log v.zcert)
    claim_of v has = All-contains (λ w. Contains a.claims (AbortZ (Replica w.by) x.i w.log w.zcert)) cert.votes v cert.signed has

    within : (v : Kept) → Contains cert.votes v → v.by < 3 * x.cluster.f + 1
    within v has = All-contains (λ w. w.by < 3 * x.cluster.f + 1) cert.votes v cert.within has

    -- the vote of a correct replica is its log, with the certificate that it keeps
    record IsOwn (v : Kept) : Type 0 where
      root : IsRooted x acts v.by
      log_is : v.log ≡ log_of acts v.by
      zcert_is : v.zcert ≡ zcert_of acts v.by

    own : (v : Kept) → Contains cert.votes v → is_faulty x.faulty (Replica v.by) ≡ false → IsOwn v
    own v has good =
        let made = claimed machine x acts sound.premises.honest a is (AbortZ (Replica v.by) x.i v.log v.zcert) (claim_of v has) good in
        let last = abort_is_last machine x acts sound.lawful x.i v.by v.log v.zcert made in
        record { root = zcert_rooted machine x sound.later_than_none acts sound.lawful v.by last.begun; log_is = last.log_is; zcert_is = last.zcert_is }

    voters : IsQuorum x.faulty x.cluster.f (map (λ v. v.by) cert.votes)
    voters = record {
      distinct = cert.each_once;
      within = λ r has. let v = Contains-map_cases (λ (w : Kept). w.by) cert.votes r has in subst (λ (n : ℕ). n < 3 * x.cluster.f + 1) v.2 (within v.0 v.1);
      enough = omega (arith, cert.enough, length-map cert.votes (λ (w : Kept). w.by));
    }

    -- a commit that keepers told of has left a mark in the certificate
    record IsMarked (n : ℕ) : Type 0 where
      vote : Kept
      is_in : Contains cert.votes vote
      zcert : Zcert
      there : vote.zcert ≡ Some zcert
      up_to : n ≤ zcert.n

    marked : (n : ℕ) (by : List ℕ) → IsQuorum x.faulty x.cluster.f by → ((r : ℕ) → Contains by r → is_faulty x.faulty (Replica r) ≡ false → KeepsUpTo n (zcert_of acts r)) → IsMarked n
    marked n by many keeps =
        let m = quorums_meet x.faulty x.cluster.f by (map (λ v. v.by) cert.votes) sound.premises.few many voters in
        let v = Contains-map_cases (λ (w : Kept). w.by) cert.votes m.at m.in_other in
        let good = subst (λ (r : ℕ). is_faulty x.faulty (Replica r) ≡ false) (sym v.2) m.correct in
        let zcert_is = (own v.0 v.1 good).zcert_is ∙ ap (zcert_of acts) v.2 in
        let kept = keeps_some n (zcert_of acts m.at) (keeps m.at m.in_one m.correct) in
        record { vote = v.0; is_in = v.1; zcert = kept.0; there = zcert_is ∙ kept.1; up_to = kept.2 }

    -- what each correct replica backs begins each correct list, so f + 1 lists hold it
    everyone_holds : (n : ℕ) (d : List ℕ) → ((r : ℕ) → IsCorrect x r → IsBacking r n d) → x.cluster.f + 1 ≤ holders lists (named_in x acts n d)
    everyone_holds n d each =
        correct_hold x cert.votes cert.enough cert.each_once sound.premises.few (named_in x acts n d)
        (λ v has good.
        let right : IsCorrect x v.by = record { within = within v has; correct = good } in
        rw (named v.by n d right (each v.by right).has, (own v has good).log_is) (take_begins n (log_of acts v.by)))

    named_length : (n : ℕ) (d : List ℕ) → AreBacking n d → length (named_in x acts n d) ≡ n
    named_length n d all =
        let m = meeting n d n d all all in
        omega (arith, ap length (named m.r n d m.good m.one.has), length-take n (log_of acts m.r), m.one.has.reaches)

    log_claimed : (v : Kept) → Contains cert.votes v → Contains (histories acts) v.log
    log_claimed v has = claim_held acts a is (AbortZ (Replica v.by) x.i v.log v.zcert) v.log (claim_of v has) (Contains-head v.log [])

    -- the front of a list that a certificate of answers is about is what 2f + 1 replicas back
    beside : (v : Kept) (z : Zcert) → Contains cert.votes v → v.zcert ≡ Some z → HasFront v.log z × AreStated (2 * x.cluster.f + 1) x a.claims (spec_of x.i z)
    beside v z has there = subst (λ (o : Option Zcert). IsKeptBeside x a.claims v.log o) there (All-contains (λ w. IsKeptBeside x a.claims w.log w.zcert) cert.votes v cert.beside has)

    record IsFrontOf (v : Kept) (z : Zcert) : Type 0 where
      all : AreBacking z.n z.d
      front : take z.n v.log ≡ named_in x acts z.n z.d

    front_of : (v : Kept) (z : Zcert) → Contains cert.votes v → v.zcert ≡ Some z → IsFrontOf v z
    front_of v z has there =
        let b = beside v z has there in
        let all = stated_backing a is z.client z.stamp z.n z.d z.reply b.1 in
        let m = meeting z.n z.d z.n z.d all all in
        let log = log_of acts m.r in
        record {
          all = all;
          front = sound.premises.apart v.log log (take z.n v.log) (take z.n log) (log_claimed v has) m.one.root.held (take_begins z.n v.log) (take_begins z.n log) (b.0.1 ∙ sym m.one.has.digest)
              ∙ sym (named m.r z.n z.d m.good m.one.has);
        }

    -- ---- a commit begins the history

    -- of two fronts that are backed the one with the lower number begins the other
    lower_begins : (n o : ℕ) (d b : List ℕ) → AreBacking n d → AreBacking o b → n ≤ o → IsPrefix (named_in x acts n d) (named_in x acts o b)
    lower_begins n o d b one two le =
        let m = meeting n d o b one two in
        let log = log_of acts m.r in
        rw (named m.r n d m.good m.one.has, named m.r o b m.good m.other.has)
        (prefix_shorter (take n log) (take o log) log (take_begins n log) (take_begins o log) (omega (arith, length-take n log, length-take o log, m.one.has.reaches, m.other.has.reaches, le)))

    -- everyone backs a front above the certified one: it is held, so the history is no shorter and begins with it
    above_front : (n : ℕ) (d : List ℕ) (k : List Request) → AreBacking n d → x.cluster.f + 1 ≤ holders lists (named_in x acts n d) → IsPrefix k (named_in x acts n d) → length k < n → IsExtension (x.cluster.f + 1) lists k h → IsPrefix (named_in x acts n d) h
    above_front n d k all held begins shorter ext =
        let long = ext.longest (named_in x acts n d) begins held in
        elim ext.held [
          | inl same ↦ absurd (omega (arith, long, ap length same, shorter, named_length n d all))
          | inr also ↦ both_held (x.cluster.f + 1) lists (named_in x acts n d) h (half x cert.votes cert.enough cert.each_once sound.premises.few) held also long
        ]

    kept_with : (n : ℕ) (d : List ℕ) → AreBacking n d → IsWay n d → (v : Kept) (z : Zcert) → Contains cert.votes v → v.zcert ≡ Some z → AreUpTo z.n cert.votes → IsExtension (x.cluster.f + 1) lists (take z.n v.log) h → IsPrefix (named_in x acts n d) h
    kept_with n d all way v z has there up_to ext =
        let f = front_of v z has there in
        let named_z = named_in x acts z.n z.d in
        let extends : IsPrefix named_z h = subst (λ (k : List Request). IsPrefix k h) f.front ext.extends in
        elim (cases_lt z.n n) [
          | inr low ↦ prefix_trans (named_in x acts n d) named_z h (lower_begins n z.n d z.d all f.all low) extends
          | inl high ↦
              elim way [
                | keepers by many keeps ↦ let m = marked n by many keeps in absurd (omega (arith, high, m.up_to, up_to m.vote m.zcert m.is_in m.there))
                | everyone each ↦
                    above_front n d named_z all (everyone_holds n d each) (lower_begins z.n n z.d d f.all all (omega (arith, high))) (omega (arith, high, named_length z.n z.d f.all))
                    (subst (λ (k : List Request). IsExtension (x.cluster.f + 1) lists k h) f.front ext)
              ]
        ]

    kept_without : (n : ℕ) (d : List ℕ) → IsWay n d → ((v : Kept) → Contains cert.votes v → v.zcert ≡ None) → IsExtract (x.cluster.f + 1) lists h → IsPrefix (named_in x acts n d) h
    kept_without n d (keepers by many keeps) none ext =
        let m = marked n by many keeps in
        let nothing : Some m.zcert ≡ None = sym m.there ∙ none m.vote m.is_in in absurd (cc (nothing))
    kept_without n d (everyone each) none ext =
        let held = everyone_holds n d each in
        both_held (x.cluster.f + 1) lists (named_in x acts n d) h (half x cert.votes cert.enough cert.each_once sound.premises.few) held ext.held (ext.longest (named_in x acts n d) held)

    kept : (n : ℕ) (d : List ℕ) → AreBacking n d → IsWay n d → IsKeptHistory (x.cluster.f + 1) cert.votes h → IsPrefix (named_in x acts n d) h
    kept n d all way (without none ext) = kept_without n d way none ext
    kept n d all way (with_zcert v z has there up_to ext) = kept_with n d all way v z has there up_to ext

    -- ---- the history of the certificate is founded

    -- it is held by a correct list
    held_founded : x.cluster.f + 1 ≤ holders lists h → ((common : List Request) → ((k : List Request) → IsInitHistory (observations acts) x.i k → IsPrefix common k) → IsPrefix common h) → IsFoundedCert x acts h
    held_founded held above =
        let b = correct_holder x cert.votes cert.enough cert.each_once sound.premises.few h held in
        let o = own b.vote b.is_in b.correct in
        record {
          holder = b.vote.by;
          correct = record { within = within b.vote b.is_in; correct = b.correct };
          held = subst (λ (l : List Request). IsPrefix h l) o.log_is b.begins;
          init = base_of acts b.vote.by;
          is_init = o.root.init;
          above = above;
        }

    -- what begins each init history begins each correct list
    common_holds : (common : List Request) → ((k : List Request) → IsInitHistory (observations acts) x.i k → IsPrefix common k) → x.cluster.f + 1 ≤ holders lists common
    common_holds common each =
        correct_hold x cert.votes cert.enough cert.each_once sound.premises.few common
        (λ v has good.
        let o = own v has good in
        rw o.log_is (prefix_trans common (base_of acts v.by) (log_of acts v.by) (each (base_of acts v.by) o.root.init) o.root.begins))

    founded_at : IsKeptHistory (x.cluster.f + 1) cert.votes h → IsFoundedCert x acts h
    founded_at (without none ext) =
        held_founded ext.held (λ common each.
        let held = common_holds common each in
        both_held (x.cluster.f + 1) lists common h (half x cert.votes cert.enough cert.each_once sound.premises.few) held ext.held (ext.longest common held))
    founded_at (with_zcert v z has there up_to ext) =
        let f = front_of v z has there in
        let m = meeting z.n z.d z.n z.d f.all f.all in
        let log = log_of acts m.r in
        let base = base_of acts m.r in
        let front : take z.n v.log ≡ take z.n log = f.front ∙ named m.r z.n z.d m.good m.one.has in
        let above : (common : List Request) → ((k : List Request) → IsInitHistory (observations acts) x.i k → IsPrefix common k) → IsPrefix common h = λ common each.
        let in_base = each base m.one.root.init in
        let in_front = prefix_take z.n common log (prefix_trans common base log in_base m.one.root.begins) (omega (arith, prefix_length common base in_base, m.one.above)) in
        prefix_trans common (take z.n v.log) h (rw front in_front) ext.extends in
        elim ext.held [
          | inr held ↦ held_founded held above
          | inl same ↦ record { holder = m.r; correct = m.good; held = subst (λ (k : List Request). IsPrefix k log) (sym (same ∙ front)) (take_begins z.n log); init = base; is_init = m.one.root.init; above = above }
        ]

  cert_at : (p : Party) (h : List Request) → Contains (observations acts) (Cert x.i p h) → (a : Act) × Contains acts a × IsKeptCert x a.claims h
  cert_at p h is = certified rules.Certified x BeginsThere (ZcertCalls machine x) IsZcertLater (zcert_keeping machine x) acts sound.lawful x.i p h is

  log_rises : (r : ℕ) → IsHistory (log_of acts r)
  log_rises r =
      elim (log_or_nothing r (state_of acts r) refl) [
        | inl none ↦ rw none (λ i j d lt within. absurd (omega (arith, within)))
        | inr root ↦ root.rises
      ]

  pub zcert_founded : IsFounded machine x acts
  zcert_founded = record {
    rises = λ r good. log_rises r;
    accounted = λ r m good has. zcert_accounted machine x sound.later_than_none acts sound.lawful sound.premises.honest r m has;
    commits = backed_commit;
    comparable = λ c e m k n o d b reply other has also. comparable n o d b (supported c m n d reply has).all (supported e k o b other also).all;
    certs = λ p h is. let t = cert_at p h is in founded_at t.0 t.1 h t.2 t.2.agreed;
    kept = λ c m n d reply has p h is.
        let s = supported c m n d reply has in
        let t = cert_at p h is in
        kept t.0 t.1 h t.2 n d s.all s.way t.2.agreed;
  }

  pub zcert_promises : IsAbstract machine (observations acts) (named_in x acts) x.faulty x.i
  zcert_promises = founded_abstract machine x acts zcert_founded
