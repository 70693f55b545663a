-- Among the logs of a certificate with certificates of answers are enough correct ones.
use Rattle.std.proofs.Common.{◌≡◌, ℕ, ◌+◌, ◌*◌, ◌<◌, ◌≤◌, Bool, false, not, cond, List, length, arith}
use Rattle.std.specs.Prelude.{Contains, nat_eq, count_by, map}
use Rattle.std.specs.List.{IsDistinct, starts_with}
use Rattle.std.proofs.lemmas.List.{length-map}
use Rattle.std.proofs.lemmas.List.Folds.{fold-map}
use mathlib.Core.List.{IsPrefix}
use Rattle.ab_hist.specs.declared.request.Request.{Request}
use Rattle.ab_hist.specs.Requests.{request_eq}
use Rattle.ab_num.specs.declared.party.Party.TheVariants.{Replica}
use Rattle.ab_num.proofs.Lists.{parts_meet}
use Rattle.ab_msg.specs.Carried.{is_replica}
use Rattle.ab_abs.specs.Faults.{is_faulty}
use Rattle.ab_abs.specs.Acts.{Setting}
use Rattle.ab_abs.specs.Extraction.{holders}
use Rattle.ab_abs.specs.Rules.{Kept}
use Rattle.ab_abs.proofs.Extracts.{starts_with-Decides}
use Rattle.ab_abs.proofs.Prefixes.{prefix_shorter}
use Rattle.ab_abs.proofs.Voters.{faulty_few, count_by_implied, count_by_not, not_true}

-- two histories that more than half of the lists hold begin one list
pub both_held : (q : ℕ) (lists : List (List Request)) (g h : List Request) → length lists < q + q → q ≤ holders lists g → q ≤ holders lists h → length g ≤ length h → IsPrefix g h
both_held q lists g h half held also shorter =
    let both = parts_meet (λ l. starts_with request_eq l g) (λ l. starts_with request_eq l h) lists (omega (arith, held, also)) in
    let l = both.element in
    prefix_shorter g h l ((starts_with-Decides l g).0 both.first) ((starts_with-Decides l h).0 both.second) shorter

module _ (x : Setting) (votes : List Kept) (enough : length votes ≡ 2 * x.cluster.f + 1) (apart : IsDistinct nat_eq (map (λ v. v.by) votes)) (few : count_by is_replica x.faulty ≤ x.cluster.f) where
  abbrev is_correct : Kept → Bool
  is_correct v = not (is_faulty x.faulty (Replica v.by))

  abbrev pub logs : List (List Request)
  logs = map (λ v. v.log) votes

  correct_many : x.cluster.f + 1 ≤ count_by is_correct votes
  correct_many =
      let faulty = faulty_few x.faulty (map (λ v. v.by) votes) apart in
      let same : count_by (λ r. is_faulty x.faulty (Replica r)) (map (λ v. v.by) votes) ≡ count_by (λ v. is_faulty x.faulty (Replica v.by)) votes = fold-map (λ a r. a + cond (is_faulty x.faulty (Replica r)) 1 0) (λ v. v.by) 0 votes in
      omega (arith, faulty, same, few, count_by_not (λ v. is_faulty x.faulty (Replica v.by)) votes, enough)

  holders_are : (k : List Request) → holders logs k ≡ count_by (λ v. starts_with request_eq v.log k) votes
  holders_are k = fold-map (λ a l. a + cond (starts_with request_eq l k) 1 0) (λ v. v.log) 0 votes

  -- the log of a correct replica that begins with k
  pub record IsHeldBy (k : List Request) : Type 0 where
    pub vote : Kept
    pub is_in : Contains votes vote
    pub correct : is_faulty x.faulty (Replica vote.by) ≡ false
    pub begins : IsPrefix k vote.log

  pub correct_holder : (k : List Request) → x.cluster.f + 1 ≤ holders logs k → IsHeldBy k
  correct_holder k held =
      let both = parts_meet (λ v. starts_with request_eq v.log k) is_correct votes (omega (arith, held, holders_are k, correct_many, enough)) in
      record {
        vote = both.element;
        is_in = both.is_in;
        correct = not_true (is_faulty x.faulty (Replica both.element.by)) both.second;
        begins = (starts_with-Decides both.element.log k).0 both.first;
      }

  -- what begins the log of each correct replica is held by f + 1
  pub correct_hold : (k : List Request) → ((v : Kept) → Contains votes v → is_faulty x.faulty (Replica v.by) ≡ false → IsPrefix k v.log) → x.cluster.f + 1 ≤ holders logs k
  correct_hold k each =
      let holds = count_by_implied is_correct (λ v. starts_with request_eq v.log k) votes (λ v is_in correct. (starts_with-Decides v.log k).1 (each v is_in (not_true (is_faulty x.faulty (Replica v.by)) correct))) in
      omega (arith, holds, correct_many, holders_are k)

  pub half : length logs < (x.cluster.f + 1) + (x.cluster.f + 1)
  half = omega (arith, enough, length-map votes (λ (v : Kept). v.log))
