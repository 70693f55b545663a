-- An orderer by which replica 0 alone orders, each request as it comes. So its cluster goes on only while replica 0 is correct.
use Rattle.std.specs.Prelude.{◌≡◌, ◌⊎◌, ℕ, ◌≤◌, ◌==◌, ◌&&◌, ◌||◌, Bool, true, false, nat_le, nat_lt, if◌then◌else◌, Option, None, Some, unwrap_or, List, [], ◌∷◌, ◌++◌, Contains, length}
use Rattle.ab_num.specs.declared.cluster.Cluster.{Cluster}
use Rattle.ab_num.specs.Places.{limit_of}
use Rattle.ab_hist.specs.declared.request.Request.{Request}
use Rattle.ab_hist.specs.Histories.{IsHistory, can_push}
use Rattle.ab_num.specs.declared.party.Party.TheVariants.{Client}
use Rattle.ab_msg.specs.declared.content.Content.TheVariants.{Req}
use Rattle.ab_abs.specs.Acts.{Setting, State, Act, observations, state_of, own_acts}
use Rattle.ab_abs.specs.Observations.{IsInitHistory}
use Rattle.ab_abs.specs.OrderRules.{WasClaimed}
use Rattle.ab_order.specs.Inputs.{Reading, asked_by}
use Rattle.ab_order.specs.Orderers.{Ordering}
use Rattle.ab_order.specs.Readings.{read}
use Rattle.ab_order.specs.Protos.{OrderProto}

-- replica me in an instance of which it orders k requests: the history that it entered with, whether that is executed as the base, and
-- what is executed behind it
pub record Sole : Type 0 where
  pub instance : ℕ
  pub me : ℕ
  pub k : ℕ
  pub entered : List Request
  pub begun : Bool
  pub behind : List Request

-- with its cluster
pub record Placed : Type 0 where
  pub cluster : Cluster
  pub at : Sole

abbrev pub behind_with : Bool → ℕ → List Request → List Request → Option Request → List Request
behind_with first k entered behind None = behind
behind_with false k entered behind (Some m) = behind
behind_with true k entered behind (Some m) = if nat_lt (length behind) k && can_push (entered ++ behind) m then behind ++ m ∷ [] else behind

-- replica 0 orders, if its base can be written as a history
abbrev pub is_ordering : Sole → Bool
is_ordering q = (q.me == 0) && nat_le (length q.entered) 1024

-- the first request has the base executed
abbrev pub begun_with : Bool → Bool → Option Request → Bool
begun_with first begun None = begun
begun_with first begun (Some m) = first || begun

abbrev pub next : Sole → Option Request → Sole
next q o = record q { begun = begun_with (is_ordering q) q.begun o; behind = behind_with (is_ordering q) q.k q.entered q.behind o }

abbrev pub base_if : Bool → List Request → Option (List Request)
base_if false h = None
base_if true h = Some h

abbrev pub list_if : Bool → List Request → List Request → List Request
list_if false h ms = []
list_if true h ms = h ++ ms

abbrev pub solo : Ordering Sole Reading
solo = record {
  begin = λ k f i me h. record { instance = i; me = me; k = k; entered = h; begun = false; behind = [] };
  after = λ q e. next q (asked_by e);
  makes = λ q e. [];
  instance = λ q. q.instance;
  replica = λ q. q.me;
  base = λ q. base_if q.begun q.entered;
  first = λ q. None;
  ordered = λ q. list_if q.begun q.entered q.behind;
}

-- it sends nothing
abbrev pub solos : OrderProto Placed Sole
solos = record {
  begin = λ c i r e. record { cluster = c; at = solo.begin (limit_of c.plan i) c.f i r e.base };
  after = λ pen p call. record { cluster = p.cluster; at = next p.at (asked_by (read p.cluster p.at.instance call)) };
  sends = λ pen p call. [];
  signs = λ p call. [];
  cluster = λ p. p.cluster;
  instance = λ p. p.at.instance;
  view = λ p. p.at;
}

-- the value is where the own acts of replica r left it
pub record StandsSolo (x : Setting) (k : ℕ) (q : Sole) (r : ℕ) (own : List Act) : Type 0 where
  pub placed : q.instance ≡ x.i
  pub owned : q.me ≡ r
  pub limit : q.k ≡ k
  pub here : State
  pub left : state_of own r ≡ Some here
  pub log_is : here.log ≡ list_if q.begun q.entered q.behind
  pub base_is : here.base ≡ unwrap_or (base_if q.begun q.entered) []
  pub init : IsInitHistory (observations own) x.i q.entered
  pub rises : IsHistory (q.entered ++ q.behind)
  pub short : length q.behind ≤ k
  pub claimed : (m : Request) → Contains q.behind m → WasClaimed own (Req (Client m.client) x.i m)
  pub idle : (q.me == 0) ≡ false → q.begun ≡ false

-- each replica that has begun stands somewhere
abbrev pub IsSoloSound : Setting → ℕ → List Act → Type 0
IsSoloSound x k acts = (r : ℕ) → (state_of acts r ≡ None) ⊎ ((q : Sole) × StandsSolo x k q r (own_acts r acts))
