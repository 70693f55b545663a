-- Chain: each position logs what the positions before it stated (Aublin et al., TOCS 2015, Chain).
use Rattle.std.specs.Prelude.{ℕ, ◌+◌, ◌*◌, Bool, true, false, ◌==◌, ◌&&◌, ◌||◌, nat_le, if◌then◌else◌, Option, None, Some, List, [], ◌∷◌, length, map}
use Rattle.std.specs.Str.{bytes_eq}
use Rattle.ab_num.specs.declared.plan.Kind.{Kind}
use Rattle.ab_num.specs.declared.plan.Kind.TheVariants as kind
use Rattle.ab_num.specs.declared.party.Party.{Party}
use Rattle.ab_num.specs.declared.party.Party.TheVariants.{Replica, Client}
use Rattle.ab_num.specs.Places.{at_position_of, position_in}
use Rattle.ab_hist.specs.declared.request.Request.{Request}
use Rattle.ab_svc.specs.Machines.{Machine, Reply}
use Rattle.ab_msg.specs.declared.content.Content.TheVariants.{Req}
use Rattle.ab_msg.specs.declared.chain_tags.TagBetween.{TagBetween}
use Rattle.ab_msg.specs.declared.message.Msg.{Msg}
use Rattle.ab_msg.specs.declared.message.Msg.TheVariants as msg
use Rattle.ab_msg.specs.declared.message.Out.{Out}
use Rattle.ab_abs.specs.declared.vote.Vote.{Vote}
use Rattle.ab_abs.specs.Answers.{answer_from, logged_from}
use Rattle.ab_abs.specs.Members.{Member, member_state}
use Rattle.ab_abs.specs.Messages.{Call, took, timed}
use Rattle.ab_abs.specs.Ensembles.{Proto}
use Rattle.ab_chain.specs.Tags.{passed_on, by_client}

abbrev pub is_chain : Kind → Bool
is_chain kind.Quorum = false
is_chain kind.ZLight = false
is_chain kind.Chain = true
is_chain kind.Backup = false
is_chain kind.ZCert = false

-- a replica, and how many may be faulty
pub record ChainState : Type 0 where
  pub f : ℕ
  pub at : Member

abbrev pub position_at : ChainState → ℕ
position_at q = position_in q.f q.at.instance q.at.me

-- what a call asks of a replica: nothing, or to log m with this answer, and to pass it on with this reply and these tags
pub data Task : Type 0 where
  idle : Task
  passes : (m : Request) (vote : Vote) (reply : Option Reply) (tags : List TagBetween) → Task

abbrev pub same_reply : Option Reply → Reply → Bool
same_reply None own = false
same_reply (Some reply) own = bytes_eq reply.items own.items

-- which reply position p passes on: the one that came, and its own from position 2f + 1 on
abbrev pub reply_from : ℕ → ℕ → Option Reply → Reply → Option Reply
reply_from f p came own = if nat_le p (2 * f) then came else Some own

abbrev pub is_numbered : ℕ → List ℕ → Vote → Bool
is_numbered n d vote = (vote.n == n) && bytes_eq vote.d d

-- position p passes on only its own number and digest; above 2f + 1 the reply has to be its own too
abbrev pub agrees : ℕ → ℕ → ℕ → List ℕ → Option Reply → Vote → Bool
agrees f p n d reply vote = is_numbered n d vote && (nat_le p (2 * f + 1) || same_reply reply vote.reply)

-- a later position has to give the answer that came
abbrev pub agreed : ℕ → ℕ → ℕ → List ℕ → Option Reply → Option Vote → Option Vote
agreed f p n d reply None = None
agreed f p n d reply (Some vote) = if agrees f p n d reply vote then Some vote else None

-- an answer has this number and digest
abbrev pub is_answered : ℕ → List ℕ → Option Vote → Bool
is_answered n d None = false
is_answered n d (Some vote) = is_numbered n d vote

-- the answer, if its reply is this one
abbrev pub replied_so : Option Reply → Option Vote → Option Vote
replied_so reply None = None
replied_so reply (Some vote) = if same_reply reply vote.reply then Some vote else None

-- with an answer position p passes the request on, where this reply came
abbrev pub passing : ℕ → ℕ → Request → Option Reply → List TagBetween → Option Vote → Task
passing f p m came tags None = idle
passing f p m came tags (Some vote) = passes m vote (reply_from f p came vote.reply) tags

-- a replica that isn't stopped answers by the answer rule
abbrev pub answer_of : {S : Type 0} → Machine S → Member → Request → Option Vote
answer_of machine q m = if q.stopped then None else answer_from machine q.trimmed (length q.base) q.log m

abbrev pub kept_of : ChainState → Request → List TagBetween → List TagBetween
kept_of q m tags = passed_on q.f q.at.instance m.client (position_at q) tags

module _ {S : Type 0} (machine : Machine S) where
  abbrev pub task_of : ChainState → Msg → Task
  task_of q (msg.Req (Req maker i m) tags) =
      if position_at q == 1 then passing q.f (position_at q) m None (kept_of q m (map (by_client m.client) tags.items)) (answer_of machine q.at m) else idle
  task_of q (msg.Chain i m n d reply tags) =
      if position_at q == 1
      then idle
      else passing q.f (position_at q) m reply (kept_of q m tags) (agreed q.f (position_at q) n d reply (answer_of machine q.at m))
  task_of q _ = idle

  abbrev pub task : ChainState → Call → Task
  task q (took m) = task_of q m
  task q timed = idle

abbrev pub log_after : Member → Task → List Request
log_after q idle = q.log
log_after q (passes m vote reply tags) = logged_from q.trimmed q.log m

-- to the next position, or to the client
abbrev pub next_of : ℕ → ℕ → ℕ → ℕ → Party
next_of f i p c = if p == (3 * f + 1) then Client c else Replica (at_position_of f i (p + 1))

abbrev pub sends_with : ℕ → ℕ → ℕ → Task → List Out
sends_with f i p idle = []
sends_with f i p (passes m vote reply tags) = record { to = next_of f i p m.client; msg = msg.Chain i m vote.n vote.d reply tags } ∷ []

abbrev pub moved : Member → Task → Member
moved q t = record { instance = q.instance; me = q.me; base = q.base; trimmed = q.trimmed; log = log_after q t; stopped = q.stopped }

abbrev pub goes : ChainState → Task → ChainState
goes q t = record { f = q.f; at = moved q.at t }

-- with an answer the request is logged
abbrev pub logging : ChainState → Request → Option Vote → ChainState
logging q m None = q
logging q m (Some vote) = record { f = q.f; at = record q.at { log = logged_from q.at.trimmed q.at.log m } }

abbrev pub sent_by : ChainState → Task → List Out
sent_by q t = sends_with q.f q.at.instance (position_at q) t

abbrev pub chain : {S : Type 0} → Machine S → Proto ChainState
chain machine = record {
  begin = λ c i r e. record { f = c.f; at = record { instance = i; me = r; base = e.base; trimmed = e.trimmed; log = e.base; stopped = false } };
  after = λ pen q call. goes q (task machine q call);
  sends = λ pen q call. sent_by q (task machine q call);
  signs = λ q call. [];
  halt = λ q. record { f = q.f; at = record { instance = q.at.instance; me = q.at.me; base = q.at.base; trimmed = q.at.trimmed; log = q.at.log; stopped = true } };
  trim = λ n q. record { f = q.f; at = record q.at { trimmed = n } };
  trimmed = λ q. q.at.trimmed;
  state = λ q. member_state q.at;
}
