-- What a client makes of signed answers: a certificate of 2f + 1 equal ones, on which it commits once 2f + 1 replicas keep it.
use Rattle.std.specs.Prelude.{◌≡◌, ℕ, zero, suc, ◌+◌, ◌*◌, ◌<◌, Bool, true, ◌==◌, ◌&&◌, nat_eq, nat_lt, nat_le, if◌then◌else◌, Option, None, Some, List, [], ◌∷◌, ◌++◌, Contains, length, map, take}
use Rattle.std.specs.List.{IsDistinct}
use Rattle.std.specs.Str.{bytes_eq}
use Rattle.ab_num.specs.declared.party.Party.TheVariants.{Replica}
use Rattle.ab_hist.specs.declared.request.Request.{Request}
use Rattle.ab_msg.specs.declared.content.Content.{Content}
use Rattle.ab_msg.specs.declared.content.Content.TheVariants.{LocalCommit}
use Rattle.ab_msg.specs.declared.zcert.Zcert.{Zcert}
use Rattle.ab_msg.specs.Claims.{specs_of}
use Rattle.ab_abs.specs.declared.ballot.Ballot.{Ballot}
use Rattle.ab_abs.specs.Votes.{voted}
use Rattle.ab_abs.specs.Certificates.{is_quorum}

-- ---- the certificate

-- the signature of replica r
abbrev pub sig_of : List (ℕ × List ℕ) → ℕ → Option (List ℕ)
sig_of [] r = None
sig_of (s ∷ signed) r = if s.0 == r then Some s.1 else sig_of signed r

abbrev pub with_sig : ℕ → Option (List ℕ) → List (ℕ × List ℕ)
with_sig r None = []
with_sig r (Some sig) = (r, sig) ∷ []

-- of the first k replicas those that voted as b, ascending, each with its signature
abbrev pub sigs_below : List Ballot → List (ℕ × List ℕ) → Ballot → ℕ → List (ℕ × List ℕ)
sigs_below votes signed b zero = []
sigs_below votes signed b (suc k) = sigs_below votes signed b k ++ (if voted votes b k then with_sig k (sig_of signed k) else [])

-- the lowest 2f + 1 of these, where there are so many
abbrev pub zcert_of_sigs : ℕ → Request → Ballot → List (ℕ × List ℕ) → Option Zcert
zcert_of_sigs f m b sigs =
    if nat_le (2 * f + 1) (length sigs)
    then Some (record { client = m.client; stamp = m.stamp; n = b.n; d = b.d; reply = b.reply; sigs = take (2 * f + 1) sigs })
    else None

abbrev pub or_later : Option Zcert → Option Zcert → Option Zcert
or_later None more = more
or_later (Some z) more = Some z

-- the certificate of 2f + 1 equal ones among votes for the request m, where there are so many
abbrev pub zcert_among : ℕ → Request → List Ballot → List (ℕ × List ℕ) → List Ballot → Option Zcert
zcert_among f m votes signed [] = None
zcert_among f m votes signed (b ∷ more) = or_later (zcert_of_sigs f m b (sigs_below votes signed b (3 * f + 1))) (zcert_among f m votes signed more)

-- one is made where none was sent
abbrev pub unless_sent : Option Zcert → Option Zcert → Option Zcert
unless_sent None made = made
unless_sent (Some z) made = None

-- ---- who keeps it

-- the replica that says in instance i that it keeps client c's certificate z, or one with a higher number
abbrev pub teller : ℕ → ℕ → ℕ → Zcert → Content → Option ℕ
teller f i c z (LocalCommit (Replica r) j e stamp n d) =
    if ((j == i) && ((e == c) && (stamp == z.stamp))) && (((n == z.n) && bytes_eq d z.d) && nat_lt r (3 * f + 1)) then Some r else None
teller f i c z _ = None

abbrev pub is_told_full : ℕ → List ℕ → Bool
is_told_full f told = length told == (2 * f + 1)

-- what these replicas said, and the answers of which the certificate was made
abbrev pub told_claims : ℕ → ℕ → Zcert → List ℕ → List Content
told_claims i c z told = map (λ r. LocalCommit (Replica r) i c z.stamp z.n z.d) told ++ specs_of i z

-- ---- what is known of them

-- z is a certificate of 2f + 1 distinct replicas of the cluster for client c's request with this stamp
pub record IsSent (f c stamp : ℕ) (z : Zcert) : Type 0 where
  pub client_is : z.client ≡ c
  pub stamp_is : z.stamp ≡ stamp
  pub quorum : is_quorum f z ≡ true

-- each of its replicas voted as it says, and has its signature there
abbrev pub AreVoters : List Ballot → List (ℕ × List ℕ) → Zcert → Type 0
AreVoters votes signed z =
    (s : ℕ × List ℕ) → Contains z.sigs s → Contains signed s × ((a : Ballot) × Contains votes a × (a.by ≡ s.0) × (a.n ≡ z.n) × (a.d ≡ z.d) × (a.reply ≡ z.reply))

-- these replicas are distinct, and of the cluster
pub record AreTelling (f : ℕ) (told : List ℕ) : Type 0 where
  pub each_once : IsDistinct nat_eq told
  pub within : (r : ℕ) → Contains told r → r < 3 * f + 1
