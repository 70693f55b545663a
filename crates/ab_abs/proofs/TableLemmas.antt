-- What shows that a rule table keeps to what it has to.
use Rattle.std.proofs.Common.{◌≡◌, ℕ, zero, suc, ◌≤◌, Bool, true, false, Option, None, Some, List, [], ◌∷◌, ◌⊎◌, length, take, refl, sym, ap, ◌∙◌, subst, inl, inr}
use Rattle.std.specs.Prelude.{Contains, IsTrue, slice_get, replicate, not, ◌||◌, if◌then◌else◌}
use Rattle.std.proofs.lemmas.Bool.{cases_Bool}
use mathlib.Core.List.{IsPrefix}
use Rattle.ab_num.specs.declared.cluster.Cluster.{Cluster}
use Rattle.ab_num.specs.declared.plan.Kind.{Kind}
use Rattle.ab_num.specs.declared.plan.Kind.TheVariants as kind
use Rattle.ab_num.specs.declared.party.Party.TheVariants.{Replica, Client}
use Rattle.ab_num.specs.Places.{kind_of}
use Rattle.ab_num.proofs.Lists.{Contains-head, Contains-tail, Contains-one, Contains-none}
use Rattle.ab_hist.specs.declared.request.Request.{Request}
use Rattle.ab_svc.specs.Machines.{Machine}
use Rattle.ab_msg.specs.declared.content.Content.{Content}
use Rattle.ab_msg.specs.declared.content.Content.TheVariants.{Resp}
use Rattle.ab_msg.specs.declared.message.Msg.TheVariants as msg
use Rattle.ab_msg.specs.declared.message.Out.{Out}
use Rattle.ab_msg.specs.Claims.{fresh}
use Rattle.ab_abs.specs.declared.vote.Vote.{Vote}
use Rattle.ab_abs.specs.Acts.{State}
use Rattle.ab_abs.specs.Answers.{answer_from, logged_from}
use Rattle.ab_abs.specs.Kinds.{is_backup}
use Rattle.ab_abs.specs.Messages.{Call, took, request_in}
use Rattle.ab_abs.specs.Ensembles.{Proto}
use Rattle.ab_abs.specs.FormLaws.{Belongs, begun, called, halted, trimmed}
use Rattle.ab_abs.specs.Members.{respond}
use Rattle.ab_abs.specs.RuleLaws.{IsLogged, IsBackedBy, KeepsRules, log_at_start, speaks_of_call, may_take}
use Rattle.ab_abs.proofs.Steps.{IsVoteOn, vote_on}

-- the kind of a value is served
pub served : {P : Type 0} (proto : Proto P) (serves : Kind → Bool) (c : Cluster) (i r : ℕ) (p : P) → Belongs proto serves c i r p → IsTrue (serves (kind_of c.plan i))
served proto serves c i r p (begun e is low) = is
served proto serves c i r p (called pen q call was) = served proto serves c i r q was
served proto serves c i r p (halted q was) = served proto serves c i r q was
served proto serves c i r p (trimmed n q low high was) = served proto serves c i r q was

-- a call that no rule takes is one that comes after a stop, or of which none speaks
pub untaken : (k : Kind) (stopped : Bool) (call : Call) → may_take k stopped call ≡ false → (stopped ≡ true) ⊎ (speaks_of_call k call ≡ false)
untaken k true call is = inl refl
untaken k false call is = inr is

-- the rules of each kind speak of requests
pub unasked : (k : Kind) (call : Call) → speaks_of_call k call ≡ false → request_in call ≡ None
unasked kind.Quorum (took (msg.Req content tags)) is = absurd (cc (is))
unasked kind.ZLight (took (msg.Req content tags)) is = absurd (cc (is))
unasked kind.Chain (took (msg.Req content tags)) is = absurd (cc (is))
unasked kind.Backup (took (msg.Req content tags)) is = absurd (cc (is))
unasked kind.ZCert (took (msg.Req content tags)) is = absurd (cc (is))
unasked k _ is = refl

-- a kind other than Backup begins with its base, and is no Backup
pub begins_there : (k : Kind) (base : List Request) → is_backup k ≡ false → base ≡ log_at_start k base
begins_there kind.Quorum base is = refl
begins_there kind.ZLight base is = refl
begins_there kind.Chain base is = refl
begins_there kind.Backup base is = absurd (cc (is))
begins_there kind.ZCert base is = refl

pub not_both : {A : Type 0} (k : Kind) → is_backup k ≡ false → is_backup k ≡ true → A
not_both k other backup = absurd (let e : true ≡ false = sym backup ∙ other in cc (e))

-- what stands at a place stands in the list
pub contains_at : {A : Type 0} (xs : List A) (k : ℕ) (x : A) → slice_get xs k ≡ Some x → Contains xs x
contains_at [] k x is = absurd (cc (is))
contains_at (y ∷ ys) zero x is = let e : y ≡ x = cc (is) in subst (λ z. Contains (y ∷ ys) z) e (Contains-head y ys)
contains_at (y ∷ ys) (suc k) x is = Contains-tail y x ys (contains_at ys k x is)

module _ {S : Type 0} (machine : Machine S) where
  pub logged_by : (at : State) (m : Request) (vote : Vote) → IsVoteOn machine at.base at.log m vote → IsLogged at m m.client m.stamp vote.n vote.d
  logged_by at m vote is = record {
    asked_by = refl;
    stamped = refl;
    stands = contains_at (take vote.n at.log) is.replied.before m is.replied.stands;
    digest = is.digest;
    above = is.above;
    reaches = is.reaches;
  }

  pub response_backed : (at : State) (m : Request) (vote : Vote) (i r : ℕ) → IsVoteOn machine at.base at.log m vote → IsBackedBy machine at (Resp (Replica r) i m.client m.stamp vote.n vote.d vote.reply)
  response_backed at m vote i r is = (m, logged_by at m vote is, is.replied)

  -- the answer of a replica, if it isn't stopped
  pub voted_unless : (stopped : Bool) (n : ℕ) (base log : List Request) (m : Request) (vote : Vote) → IsPrefix base log → n ≤ length log → (if stopped then None else answer_from machine n (length base) log m) ≡ Some vote
      → IsVoteOn machine base (if stopped then log else logged_from n log m) m vote
  voted_unless true n base log m vote begins low is = absurd (cc (is))
  voted_unless false n base log m vote begins low is = vote_on machine n base log m vote begins low is

  -- what stands in a response
  pub responds_backed : (f r i me : ℕ) (m : Request) (answer : Option Vote) (at : State) (o : Out) (s : Content) → ((vote : Vote) → answer ≡ Some vote → IsVoteOn machine at.base at.log m vote)
      → Contains (respond i me m answer) o → Contains (fresh f (Replica r) o.msg) s → IsBackedBy machine at s
  responds_backed f r i me m None at o s on sent has = absurd (Contains-none o sent)
  responds_backed f r i me m (Some vote) at o s on sent has =
      let out : Out = record { to = Client m.client; msg = msg.Resp (Resp (Replica me) i m.client m.stamp vote.n vote.d vote.reply) (replicate 32 0) } in
      let has' = subst (λ (p : Out). Contains (fresh f (Replica r) p.msg) s) (sym (Contains-one out o sent)) has in
      let e = Contains-one (Resp (Replica me) i m.client m.stamp vote.n vote.d vote.reply) s has' in
      subst (λ (t : Content). IsBackedBy machine at t) e (response_backed at m vote i me (on vote refl))

-- whether a stop leaves a replica stopped
pub stops_so : {S P : Type 0} (machine : Machine S) (proto : Proto P) (serves : Kind → Bool) → KeepsRules machine proto serves
    → (c : Cluster) (i r : ℕ) (p : P) → Belongs proto serves c i r p → (proto.state (proto.halt p)).stopped ≡ (not (is_backup (kind_of c.plan i)) || (proto.state p).stopped)
stops_so machine proto serves law c i r p was =
    elim (cases_Bool (is_backup (kind_of c.plan i))) [
      | inl backup ↦ rw backup (ap (λ (v : _). (proto.state v).stopped) (law.rests c i r p was backup))
      | inr other ↦ rw other (law.stops c i r p was other)
    ]
