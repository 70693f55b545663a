-- A rule table of a replica that answers by itself, and tables that no lawful protocol has: each is that one but for one row.
use Rattle.std.specs.Prelude.{ℕ, Bool, true, false, not, if◌then◌else◌, Option, None, Some, List, [], length}
use Rattle.ab_num.specs.declared.plan.Kind.{Kind}
use Rattle.ab_hist.specs.declared.request.Request.{Request}
use Rattle.ab_svc.specs.Machines.{Machine}
use Rattle.ab_msg.specs.declared.message.Msg.TheVariants as msg
use Rattle.ab_msg.specs.declared.message.Out.{Out}
use Rattle.ab_abs.specs.Kinds.{is_backup}
use Rattle.ab_abs.specs.Answers.{answer_from, logged_from}
use Rattle.ab_abs.specs.Members.{Member, member_state, respond}
use Rattle.ab_abs.specs.Messages.{Call, took, request_in}
use Rattle.ab_abs.specs.Ensembles.{Proto}

-- the kinds that it may serve
abbrev pub is_by_itself : Kind → Bool
is_by_itself k = not (is_backup k)

abbrev pub with_log : Member → List Request → Member
with_log q log = record { instance = q.instance; me = q.me; base = q.base; trimmed = q.trimmed; log = log; stopped = q.stopped }

abbrev pub stopped_at : Member → Member
stopped_at q = record { instance = q.instance; me = q.me; base = q.base; trimmed = q.trimmed; log = q.log; stopped = true }

abbrev pub trimmed_at : ℕ → Member → Member
trimmed_at n q = record { instance = q.instance; me = q.me; base = q.base; trimmed = n; log = q.log; stopped = q.stopped }

-- it logs the request of a call, if it isn't stopped
abbrev pub logs : Member → Option Request → Member
logs q None = q
logs q (Some m) = with_log q (if q.stopped then q.log else logged_from q.trimmed q.log m)

-- and answers it
abbrev pub answers : {S : Type 0} → Machine S → Member → Option Request → List Out
answers machine q None = []
answers machine q (Some m) = respond q.instance q.me m (if q.stopped then None else answer_from machine q.trimmed (length q.base) q.log m)

-- a PANIC stops it
abbrev pub stops_by : Call → Member → Member
stops_by (took (msg.Panic content tag)) q = stopped_at q
stops_by _ q = q

module _ {S : Type 0} (machine : Machine S) where
  abbrev pub answering : Proto Member
  answering = record {
    begin = λ c i r e. record { instance = i; me = r; base = e.base; trimmed = e.trimmed; log = e.base; stopped = false };
    after = λ pen q call. logs q (request_in call);
    sends = λ pen q call. answers machine q (request_in call);
    signs = λ q call. [];
    halt = stopped_at;
    state = member_state;
    trim = trimmed_at;
    trimmed = λ q. q.trimmed;
  }

  -- it answers what it doesn't log
  abbrev pub forgetful : Proto Member
  forgetful = record answering { after = λ pen q call. q }

  -- it is stopped by a message of which no rule speaks
  abbrev pub obedient : Proto Member
  obedient = record answering { after = λ pen q call. stops_by call (logs q (request_in call)) }

  -- it begins with nothing, whatever its base
  abbrev pub baseless : Proto Member
  baseless = record answering { begin = λ c i r e. record { instance = i; me = r; base = e.base; trimmed = e.trimmed; log = []; stopped = false } }

  -- no stop stops it
  abbrev pub unstoppable : Proto Member
  unstoppable = record answering { halt = λ q. q }
