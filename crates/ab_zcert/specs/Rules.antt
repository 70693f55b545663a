-- ZCert: ZLight whose replicas sign their answers, and keep the highest certificate of 2f + 1 equal ones that a client sends them.
use Rattle.std.specs.Prelude.{◌≡◌, ℕ, ◌+◌, Bool, true, false, not, ◌==◌, ◌&&◌, nat_lt, if◌then◌else◌, Option, None, Some, List, [], ◌∷◌, ◌++◌, length, take, replicate}
use Rattle.std.specs.List.{list_any}
use Rattle.ab_num.specs.declared.party.Party.TheVariants.{Replica, Client}
use Rattle.ab_hist.specs.declared.request.Request.{Request}
use Rattle.ab_svc.specs.Machines.{Machine}
use Rattle.ab_msg.specs.declared.content.Content.{Content}
use Rattle.ab_msg.specs.declared.content.Content.TheVariants.{Spec, LocalCommit}
use Rattle.ab_msg.specs.declared.zcert.Zcert.{Zcert}
use Rattle.ab_msg.specs.declared.message.Msg.{Msg}
use Rattle.ab_msg.specs.declared.message.Msg.TheVariants as msg
use Rattle.ab_msg.specs.declared.message.Out.{Out}
use Rattle.ab_msg.specs.declared.signed.Signed.{Signed}
use Rattle.ab_msg.specs.Pens.{Pen, moved}
use Rattle.ab_abs.specs.declared.vote.Vote.{Vote}
use Rattle.ab_abs.specs.Acts.{State}
use Rattle.ab_abs.specs.Observations.{has_front}
use Rattle.ab_abs.specs.Certificates.{is_quorum}
use Rattle.ab_abs.specs.Members.{Member, member_state}
use Rattle.ab_abs.specs.Messages.{Call, took, timed}
use Rattle.ab_abs.specs.Ensembles.{Proto}
use Rattle.ab_zlight.specs.Rules.{Light, Task, idle, ordered, asked, task_of, answer_of, orders, goes}

-- a replica of ZLight, with the certificate of answers that it keeps
pub record Keeper : Type 0 where
  pub light : Light
  pub zcert : Option Zcert

-- what a call asks of a replica: what it asks under ZLight, or to keep a certificate
pub data Job : Type 0 where
  serves : (t : Task) → Job
  keeps : (z : Zcert) → Job

abbrev pub job_of : Keeper → Msg → Job
job_of q (msg.Cert i z) = keeps z
job_of q t = serves (task_of q.light t)

abbrev pub job : Keeper → Call → Job
job q (took t) = job_of q t
job q timed = serves idle

-- the request of this client with this stamp stands in the log
abbrev pub has_asked : List Request → ℕ → ℕ → Bool
has_asked log c stamp = list_any (λ m. (m.client == c) && (m.stamp == stamp)) log

-- a replica that isn't stopped takes a certificate of 2f + 1 distinct replicas whose number and digest its log has, with the request
-- in this front
abbrev pub takes_zcert : ℕ → Member → Zcert → Bool
takes_zcert f q z = (not q.stopped && is_quorum f z) && (has_front q.log z.n z.d && has_asked (take z.n q.log) z.client z.stamp)

-- it keeps the first one, and from then on one of a higher number
abbrev pub higher : Zcert → Option Zcert → Option Zcert
higher z None = Some z
higher z (Some y) = if nat_lt y.n z.n then Some z else Some y

abbrev pub kept_with : ℕ → Member → Zcert → Option Zcert → Option Zcert
kept_with f q z old = if takes_zcert f q z then higher z old else old

abbrev pub after_job : Keeper → Job → Keeper
after_job q (serves t) = record { light = goes q.light t; zcert = q.zcert }
after_job q (keeps z) = record { light = q.light; zcert = kept_with q.light.f q.light.at z q.zcert }

-- ---- what it sends

abbrev pub spec_for : Member → Request → Vote → Content
spec_for q m vote = Spec (Replica q.me) q.instance m.client m.stamp vote.n vote.d vote.reply

abbrev pub specs_for : Member → Request → Option Vote → List Content
specs_for q m None = []
specs_for q m (Some vote) = spec_for q m vote ∷ []

-- with the next signature
abbrev pub signed_spec : Pen → Member → Request → Vote → Signed
signed_spec pen q m vote = record { maker = q.me; content = spec_for q m vote; sig = pen.sig (spec_for q m vote) pen.used }

abbrev pub signed_specs : Pen → Member → Request → Option Vote → Option Signed
signed_specs pen q m None = None
signed_specs pen q m (Some vote) = Some (signed_spec pen q m vote)

-- the signed answer, for the client
abbrev pub answers : Pen → Member → Request → Option Vote → List Out
answers pen q m None = []
answers pen q m (Some vote) = record { to = Client m.client; msg = msg.Spec (signed_spec pen q m vote) } ∷ []

-- that it keeps a certificate of this number or a higher one
abbrev pub local_commit : Member → Zcert → Out
local_commit q z =
    record { to = Client z.client; msg = msg.LocalCommit (LocalCommit (Replica q.me) q.instance z.client z.stamp z.n z.d) (replicate 32 0) }

abbrev pub sends_for : {S : Type 0} → Machine S → Pen → ℕ → Member → Job → List Out
sends_for machine pen f q (serves idle) = []
sends_for machine pen f q (serves (ordered m)) = answers pen q m (answer_of machine q m)
sends_for machine pen f q (serves (asked m tags)) = orders f q m tags (answer_of machine q m) ++ answers pen q m (answer_of machine q m)
sends_for machine pen f q (keeps z) = if takes_zcert f q z then local_commit q z ∷ [] else []

abbrev pub signs_for : {S : Type 0} → Machine S → Member → Job → List Content
signs_for machine q (serves idle) = []
signs_for machine q (serves (ordered m)) = specs_for q m (answer_of machine q m)
signs_for machine q (serves (asked m tags)) = specs_for q m (answer_of machine q m)
signs_for machine q (keeps z) = []

-- a pen has made so many signatures more
abbrev pub HasSigned : ℕ → Pen → ℕ → Pen → ℕ → Type 0
HasSigned k old before new after = (new ≡ moved old k) × (after + k ≡ before)

-- ---- a replica

abbrev pub keeper_at : Member → Option Zcert → State
keeper_at q z = record { entered = q.base; base = q.base; log = q.log; stopped = q.stopped; first = None; zcert = z }

abbrev pub halted : Member → Member
halted q = record q { stopped = true }

abbrev pub zcert_proto : {S : Type 0} → Machine S → Proto Keeper
zcert_proto machine = record {
  begin = λ c i r e. record { light = record { f = c.f; at = record { instance = i; me = r; base = e.base; trimmed = e.trimmed; log = e.base; stopped = false } }; zcert = None };
  after = λ pen q call. after_job q (job q call);
  sends = λ pen q call. sends_for machine pen q.light.f q.light.at (job q call);
  signs = λ q call. signs_for machine q.light.at (job q call);
  halt = λ q. record { light = record { f = q.light.f; at = halted q.light.at }; zcert = q.zcert };
  trim = λ n q. record { light = record { f = q.light.f; at = record q.light.at { trimmed = n } }; zcert = q.zcert };
  trimmed = λ q. q.light.at.trimmed;
  state = λ q. keeper_at q.light.at q.zcert;
}
