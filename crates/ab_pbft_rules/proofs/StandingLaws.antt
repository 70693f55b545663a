-- Where a replica stands that runs PBFT, and what more acts make of that.
use Rattle.std.proofs.Common.{◌≡◌, ℕ, List, [], ◌∷◌, length, map, refl, ap, ◌∙◌, arith}
use Rattle.ab_num.specs.declared.party.Party.TheVariants.{Client}
use Rattle.ab_msg.specs.declared.content.Content.TheVariants as content
use Rattle.ab_abs.specs.Values.{list_of, base_in, goes}
use Rattle.ab_msg.specs.declared.value.Value.{Value}
use Rattle.ab_msg.specs.Slots.{slot_digest}
use Rattle.ab_abs.specs.Acts.{Setting, Act}
use Rattle.ab_lock.specs.Steps.{SlotEntry, Change, accepts, signs, prepares, changes, enters, executes}
use Rattle.ab_lock.specs.Acts as lock
use Rattle.ab_lock.specs.Acts.{Prepare, Commit, ViewChange, Backs, AreLawful}
use Rattle.ab_order.proofs.OwnActs.{IsWithin, claimed_within, ordered_within}
use Rattle.ab_pbft_rules.specs.Traces.{OrderStep, OrderAct, pair_of, content_of, IsSource, IsTraced}
use Rattle.ab_pbft_rules.specs.Rules.{Pbft, Memory}
use Rattle.ab_pbft_rules.proofs.OneOrder.{source_within}
use Rattle.ab_pbft_rules.specs.Standing.{AreShown, IsMid, PbftStands}

-- so its acts are explained
pub traced : (x : Setting) (k : ℕ) (p : Pbft) (r : ℕ) (own : List Act) (is : PbftStands x k p r own) → IsTraced x k r own is.trace
traced x k p r own is = record {
  lawful = is.mid.lawful;
  mine = is.mid.mine;
  claimed = λ a c has claims. is.mid.claimed a c has claims;
  made = is.mid.said;
  shown = λ v vcs chosen c t cert has in_vcs there. is.mid.shown v vcs chosen c has in_vcs t cert there;
  none = λ none. absurd (is.begun none);
  executes = λ s here.
      let e = is.executes s here in
      (e.0 ∙ ap (λ z. list_of z.executed) is.mid.peer.core, e.1 ∙ ap (λ z. base_in z.executed) is.mid.peer.core);
}

-- two votes that are one statement are one
entries_one : (a b : List (SlotEntry (List ℕ))) → map pair_of a ≡ map pair_of b → a ≡ b
entries_one [] [] e = refl
entries_one [] (o ∷ b) e = absurd (omega (arith, ap length e))
entries_one (o ∷ a) [] e = absurd (omega (arith, ap length e))
entries_one (o ∷ a) (u ∷ b) e =
    let head : pair_of o ≡ pair_of u = cc (e) in
    let at : o.at ≡ u.at = ap (λ (z : ℕ × List ℕ). z.0) head in
    let x : o.x ≡ u.x = ap (λ (z : ℕ × List ℕ). z.1) head in
    let rest : map pair_of a ≡ map pair_of b = cc (e) in
    let same : o ≡ u = λ i. record { at = at i; x = x i } in
    ap (λ z. z ∷ a) same ∙ ap (λ l. u ∷ l) (entries_one a b rest)

pub vote_one : (i : ℕ) (c d : lock.LockContent (List ℕ)) → content_of i c ≡ content_of i d → c ≡ d
vote_one i (Prepare r v n x) (Prepare q w m y) e = cc (e)
vote_one i (Prepare r v n x) (Commit q w m y) e = absurd (cc (e))
vote_one i (Prepare r v n x) (ViewChange q w b) e = absurd (cc (e))
vote_one i (Commit r v n x) (Prepare q w m y) e = absurd (cc (e))
vote_one i (Commit r v n x) (Commit q w m y) e = cc (e)
vote_one i (Commit r v n x) (ViewChange q w b) e = absurd (cc (e))
vote_one i (ViewChange r v a) (Prepare q w m y) e = absurd (cc (e))
vote_one i (ViewChange r v a) (Commit q w m y) e = absurd (cc (e))
vote_one i (ViewChange r v a) (ViewChange q w b) e =
    let maker : r ≡ q = cc (e) in
    let view : v ≡ w = cc (e) in
    let pairs : map pair_of a ≡ map pair_of b = cc (e) in
    ap (λ z. ViewChange z v a) maker ∙ (ap (λ z. ViewChange q z a) view ∙ ap (λ l. ViewChange q w l) (entries_one a b pairs))

module _ (x : Setting) (k r : ℕ) (few many : List Act) (within : IsWithin few many) where
  backs_within : (trace : List OrderAct) (q : ℕ) (step : OrderStep) → Backs slot_digest x.cluster.f (IsSource x few) trace q step → Backs slot_digest x.cluster.f (IsSource x many) trace q step
  backs_within trace q (accepts n value) backs = source_within x few many n value within backs
  backs_within trace q (signs v n d) backs = tt
  backs_within trace q (prepares v h) backs = backs
  backs_within trace q (changes w entries) backs = tt
  backs_within trace q (enters w vcs chosen) backs = backs
  backs_within trace q (executes v n value) backs = backs

  pub lawful_within : (trace : List OrderAct) → AreLawful slot_digest x.cluster.f (IsSource x few) goes k trace → AreLawful slot_digest x.cluster.f (IsSource x many) goes k trace
  lawful_within [] lawful = tt
  lawful_within (a ∷ trace) lawful = (lawful.0, λ step has. backs_within (a ∷ trace) a.by step (lawful.1 step has), lawful_within trace lawful.2)

  shown_within : (c : Change Value) → AreShown x few c → AreShown x many c
  shown_within c shows t cert there = let s = shows t cert there in (s.0, ordered_within x few many cert.value within s.1)

  -- what stands among few acts stands among more
  pub mid_within : (Said Says : lock.LockContent (List ℕ) → Type 0) (trace : List OrderAct) (at : Memory) (now : List OrderStep) → ((c : lock.LockContent (List ℕ)) → Says c → lock.WasMade slot_digest trace c)
      → IsMid x k r few Said trace at now → IsMid x k r many Says trace at now
  mid_within Said Says trace at now says mid = record {
    lawful = lawful_within trace mid.lawful;
    mine = mid.mine;
    claimed = λ a c has claims. claimed_within few many (content_of x.i c) within (mid.claimed a c has claims);
    shown = λ v vcs chosen c has in_vcs. shown_within c (mid.shown v vcs chosen c has in_vcs);
    peer = mid.peer;
    changes = mid.changes;
    rising = mid.rising;
    changes_shown = λ u has. shown_within u.change (mid.changes_shown u has);
    requests = λ m has. claimed_within few many (content.Req (Client m.client) x.i m) within (mid.requests m has);
    made = mid.made;
    said = says;
  }
