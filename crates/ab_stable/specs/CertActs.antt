-- Certificates over lists that forgot, and the same certificates among the acts of an instance, which hold whole logs.
use Rattle.std.specs.Prelude.{◌≡◌, ℕ, ◌+◌, ◌*◌, ◌<◌, ◌≤◌, Bool, nat_eq, List, All, count_by, length, map, take}
use Rattle.std.specs.List.{IsDistinct}
use mathlib.Core.List.{IsPrefix}
use Rattle.ab_num.specs.declared.party.Party.TheVariants.{Replica}
use Rattle.ab_hist.specs.declared.request.Request.{Request}
use Rattle.ab_msg.specs.declared.content.Content.{Content}
use Rattle.ab_msg.specs.declared.content.Content.TheVariants.{Abort}
use Rattle.ab_msg.specs.Carried.{is_replica}
use Rattle.ab_hist.specs.Trimmed.{Trimmed, StandsFor}
use Rattle.ab_trim.specs.Points.{IsAgreedList}
use Rattle.ab_abs.specs.Faults.{is_faulty}
use Rattle.ab_abs.specs.Acts.{Setting}
use Rattle.ab_stable.specs.Certs.{Stated, lists_of, IsFair}

abbrev pub faulty_in : Setting → ℕ → Bool
faulty_in x r = is_faulty x.faulty (Replica r)

-- a certificate as it came: the lists of 2f + 1 replicas, f + 1 of which agree on t
pub record IsTrimmedCert (x : Setting) (votes : List Stated) (t : Trimmed) : Type 0 where
  pub enough : length votes ≡ 2 * x.cluster.f + 1
  pub each_once : IsDistinct nat_eq (map (λ v. v.by) votes)
  pub within : All (λ v. v.by < 3 * x.cluster.f + 1) votes
  pub agreed : IsAgreedList (x.cluster.f + 1) (lists_of votes) t

-- at most f replicas are faulty; the list of each correct voter stands for its log; and what one of these has forgotten begins the logs of
-- all these
pub record MeetsForgetting (x : Setting) (log : ℕ → List Request) (votes : List Stated) : Type 0 where
  pub few : count_by is_replica x.faulty ≤ x.cluster.f
  pub stands : (v : Stated) → IsFair (faulty_in x) votes v → StandsFor v.list (log v.by)
  pub common : (v w : Stated) → IsFair (faulty_in x) votes v → IsFair (faulty_in x) votes w → IsPrefix (take v.list.start (log v.by)) (log w.by)

-- the ABORTs of these voters, each with the whole list that is given for it
abbrev pub whole_claims : Setting → (Stated → List Request) → List Stated → List Content
whole_claims x list votes = map (λ v. Abort (Replica v.by) x.i (list v)) votes
