-- What the rule table of a protocol keeps to, whatever else it does: what it answers stands in its log, what no rule takes changes
-- nothing, and how it begins and stops is as its kind says.
use Rattle.std.specs.Prelude.{◌≡◌, ℕ, ◌≤◌, Bool, true, false, ◌&&◌, ◌||◌, not, IsTrue, None, Some, List, [], Contains, length, take}
use Rattle.ab_num.specs.declared.cluster.Cluster.{Cluster}
use Rattle.ab_num.specs.declared.plan.Kind.{Kind}
use Rattle.ab_num.specs.declared.plan.Kind.TheVariants as kind
use Rattle.ab_num.specs.declared.party.Party.TheVariants.{Replica}
use Rattle.ab_num.specs.Places.{kind_of}
use Rattle.ab_hist.specs.declared.request.Request.{Request}
use Rattle.ab_hist.specs.Histories.{place_in}
use Rattle.ab_hist.specs.Digests.{digest_of}
use Rattle.ab_svc.specs.Machines.{Machine, IsReply}
use Rattle.ab_msg.specs.declared.content.Content.{Content}
use Rattle.ab_msg.specs.declared.content.Content.TheVariants.{Order, Resp, ChainTag, Spec, LocalCommit}
use Rattle.ab_msg.specs.declared.message.Msg.{Msg}
use Rattle.ab_msg.specs.declared.message.Msg.TheVariants as msg
use Rattle.ab_msg.specs.declared.message.Out.{Out}
use Rattle.ab_msg.specs.Claims.{fresh}
use Rattle.ab_msg.specs.Pens.{Pen}
use Rattle.ab_abs.specs.declared.entry.Entry.{Entry}
use Rattle.ab_abs.specs.Acts.{State}
use Rattle.ab_abs.specs.Kinds.{is_backup, is_zcert}
use Rattle.ab_abs.specs.Messages.{Call, took, timed}
use Rattle.ab_abs.specs.Ensembles.{Proto}
use Rattle.ab_abs.specs.FormLaws.{Belongs}

-- the request of this client with this stamp stands in the first n entries of a replica's log, at least those of its base, and d is
-- their digest
pub record IsLogged (at : State) (m : Request) (client stamp n : ℕ) (d : List ℕ) : Type 0 where
  pub asked_by : m.client ≡ client
  pub stamped : m.stamp ≡ stamp
  pub stands : Contains (take n at.log) m
  pub digest : digest_of (take n at.log) ≡ d
  pub above : length at.base ≤ n
  pub reaches : n ≤ length at.log

-- the same without the base
pub record IsInFront (at : State) (m : Request) (client stamp n : ℕ) (d : List ℕ) : Type 0 where
  pub asked_by : m.client ≡ client
  pub stamped : m.stamp ≡ stamp
  pub stands : Contains (take n at.log) m
  pub digest : digest_of (take n at.log) ≡ d
  pub reaches : n ≤ length at.log

-- what a replica whose log this is may state of it. An ORDER has the place of its request, and a RESP and a SPEC the service's
-- reply too
abbrev pub IsBackedBy : {S : Type 0} → Machine S → State → Content → Type 0
IsBackedBy machine at (Order maker i n m) = place_in at.log m ≡ Some n
IsBackedBy machine at (Resp maker i client stamp n d reply) = (m : Request) × IsLogged at m client stamp n d × IsReply machine (take n at.log) m reply
IsBackedBy machine at (ChainTag maker i client stamp n d) = (m : Request) × IsLogged at m client stamp n d
IsBackedBy machine at (Spec maker i client stamp n d reply) = (m : Request) × IsLogged at m client stamp n d × IsReply machine (take n at.log) m reply
IsBackedBy machine at (LocalCommit maker i client stamp n d) = (m : Request) × IsInFront at m client stamp n d
IsBackedBy machine at _ = Unit {0}

-- which messages the rules of a kind speak of: requests, in ZLight what the primary orders, in ZCert that and certificates of answers,
-- in Chain what a position passes on, and in Backup what replicas agree by
abbrev pub speaks_of : Kind → Msg → Bool
speaks_of k (msg.Req content tags) = true
speaks_of kind.ZLight (msg.Order content client_tag tag) = true
speaks_of kind.ZCert (msg.Order content client_tag tag) = true
speaks_of kind.ZCert (msg.Cert i z) = true
speaks_of kind.Chain (msg.Chain i m n d reply tags) = true
speaks_of kind.Backup (msg.PrePrepare content tag offer) = true
speaks_of kind.Backup (msg.Prepare prepare) = true
speaks_of kind.Backup (msg.Commit content tag) = true
speaks_of kind.Backup (msg.ViewChange change) = true
speaks_of kind.Backup (msg.NewView content tag changes) = true
speaks_of k _ = false

-- and which calls. A timer runs in a Backup alone
abbrev pub speaks_of_call : Kind → Call → Bool
speaks_of_call k (took m) = speaks_of k m
speaks_of_call k timed = is_backup k

-- whether some rule may take a call. Once a replica is stopped, only a Backup takes any
abbrev pub may_take : Kind → Bool → Call → Bool
may_take k stopped call = (not stopped || is_backup k) && speaks_of_call k call

-- with which log a replica begins. A Backup logs nothing before its replicas agreed on a base
abbrev pub log_at_start : Kind → List Request → List Request
log_at_start kind.Quorum base = base
log_at_start kind.ZLight base = base
log_at_start kind.Chain base = base
log_at_start kind.Backup base = []
log_at_start kind.ZCert base = base

pub record KeepsRules {S P : Type 0} (machine : Machine S) (proto : Proto P) (serves : Kind → Bool) : Type 0 where
  -- an ORDER, a RESP, a SPEC, a LOCAL-COMMIT and a chain tag are made only for a request that stands in the log that the call leaves
  pub answers : (c : Cluster) (i r : ℕ) (pen : Pen) (p : P) (call : Call) (o : Out) (s : Content) → Belongs proto serves c i r p → Contains (proto.sends pen p call) o → Contains (fresh c.f (Replica r) o.msg) s
      → IsBackedBy machine (proto.state (proto.after pen p call)) s
  -- a call that no rule takes changes nothing, sends nothing and signs nothing
  pub ignores : (c : Cluster) (i r : ℕ) (pen : Pen) (p : P) (call : Call) → Belongs proto serves c i r p → may_take (kind_of c.plan i) (proto.state p).stopped call ≡ false
      → (proto.after pen p call ≡ p) × (proto.sends pen p call ≡ []) × (proto.signs p call ≡ [])
  -- in a kind other than Backup it begins with its base as its log, and a stop leaves it stopped. A stop changes no Backup
  pub begins : (c : Cluster) (i r : ℕ) (e : Entry) → IsTrue (serves (kind_of c.plan i)) → (proto.state (proto.begin c i r e)).log ≡ log_at_start (kind_of c.plan i) e.base
  pub stops : (c : Cluster) (i r : ℕ) (p : P) → Belongs proto serves c i r p → is_backup (kind_of c.plan i) ≡ false → (proto.state (proto.halt p)).stopped ≡ true
  pub rests : (c : Cluster) (i r : ℕ) (p : P) → Belongs proto serves c i r p → is_backup (kind_of c.plan i) ≡ true → proto.halt p ≡ p
  -- a kind other than ZCert keeps no certificate of answers
  pub keeps_none : (c : Cluster) (i r : ℕ) (p : P) → Belongs proto serves c i r p → is_zcert (kind_of c.plan i) ≡ false → (proto.state p).zcert ≡ None
