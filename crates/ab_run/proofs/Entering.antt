-- Certificates of trimmed logs, as correct replicas made their ABORTs.
use Rattle.std.proofs.Common.{◌≡◌, ℕ, ◌+◌, ◌*◌, ◌<◌, Bool, true, false, Option, None, Some, List, [], ◌∷◌, refl, sym, ap, ◌∙◌, subst, inl, inr}
use Rattle.std.specs.Prelude.{All, Contains, ◌==◌, ◌&&◌, nat_lt, if◌then◌else◌}
use Rattle.std.proofs.lemmas.Bool.{and_parts, ltb-true, eqb-true}
use Rattle.std.proofs.lemmas.List.Elements.{All-cons, All-nil}
use Rattle.ab_num.specs.declared.plan.Kind.{Kind}
use Rattle.ab_num.specs.declared.plan.Kind.TheVariants as kind
use Rattle.ab_num.specs.declared.cluster.Cluster.{Cluster}
use Rattle.ab_num.specs.declared.party.Party.TheVariants.{Replica, Client}
use Rattle.ab_num.specs.Places.{kind_of}
use Rattle.ab_num.proofs.Lists.{Contains-head, Contains-tail, Contains-cons_cases, Contains-none, Contains-flat_map}
use Rattle.ab_hist.specs.declared.request.Request.{Request}
use Rattle.ab_hist.specs.Trimmed.{Trimmed, untrimmed}
use Rattle.ab_msg.specs.declared.content.Content.{Content}
use Rattle.ab_msg.specs.declared.content.Content.TheVariants.{Abort, TrimmedAbort}
use Rattle.ab_msg.specs.declared.signed.Signed.{Signed}
use Rattle.ab_msg.specs.Claims.{signed_contents, kept_claims}
use Rattle.ab_abs.specs.Acts.{Setting, State, abort_content}
use Rattle.ab_abs.specs.Kinds.{rule_of}
use Rattle.ab_abs.specs.Rules.{IsCertBy, IsValidCert}
use Rattle.ab_stable.specs.AgreedLists.{agreed_list}
use Rattle.ab_stable.specs.Certs.{Stated, lists_of}
use Rattle.ab_stable.specs.Offers.{makes_checkpoints, list_stated, with_stated, all_stated, are_enough, agreed_on, list_of}

-- what a vote says is the content of an ABORT
pub data IsStatedBy (j : ℕ) (s : Content) (v : Stated) : Type 0 where
  whole : (h : List Request) → s ≡ Abort (Replica v.by) j h → v.list ≡ untrimmed h → IsStatedBy j s v
  trimmed : s ≡ TrimmedAbort (Replica v.by) j v.list.start v.list.digest v.list.rest → IsStatedBy j s v

-- a vote is by a replica of the cluster
pub record IsVote (c : Cluster) (j : ℕ) (s : Content) (v : Stated) : Type 0 where
  pub within : v.by < 3 * c.f + 1
  pub says : IsStatedBy j s v

vote_if : (c : Cluster) (j i r : ℕ) (s : Content) (u v : Stated) → u.by ≡ r → (i ≡ j → IsStatedBy j s u) → (if (i == j) && nat_lt r (3 * c.f + 1) then Some u else None) ≡ Some v → IsVote c j s v
vote_if c j i r s u v by says is = by_test ((i == j) && nat_lt r (3 * c.f + 1)) refl is
  where
    by_test : (b : Bool) → ((i == j) && nat_lt r (3 * c.f + 1)) ≡ b → (if b then Some u else None) ≡ Some v → IsVote c j s v
    by_test false test e = absurd (cc (e))
    by_test true test e =
        let parts = and_parts (i == j) (nat_lt r (3 * c.f + 1)) test in
        let same : u ≡ v = cc (e) in
        subst (λ (z : Stated). IsVote c j s z) same (record { within = subst (λ (n : ℕ). n < 3 * c.f + 1) (sym by) (ltb-true r (3 * c.f + 1) parts.1); says = says (eqb-true i j parts.0) })

vote_is : (c : Cluster) (j : ℕ) (s : Content) (v : Stated) → list_stated c j s ≡ Some v → IsVote c j s v
vote_is c j (Abort (Replica r) i h) v is =
    vote_if c j i r (Abort (Replica r) i h) (record { by = r; list = untrimmed h }) v refl (λ e. whole h (ap (λ n. Abort (Replica r) n h) e) refl) is
vote_is c j (Abort (Client q) i h) v is = absurd (cc (is))
vote_is c j (TrimmedAbort (Replica r) i n d rest) v is =
    vote_if c j i r (TrimmedAbort (Replica r) i n d rest) (record { by = r; list = record { start = n; digest = d; rest = rest } }) v refl (λ e. trimmed (ap (λ x. TrimmedAbort (Replica r) x n d rest) e)) is
vote_is c j (TrimmedAbort (Client q) i n d rest) v is = absurd (cc (is))
vote_is c j _ v is = absurd (cc (is))

-- each vote stands in the certificate
pub record IsFound (c : Cluster) (j : ℕ) (cert : List Signed) (v : Stated) : Type 0 where
  pub signed : Signed
  pub there : Contains cert signed
  pub vote : IsVote c j signed.content v

pub votes_found : (c : Cluster) (j : ℕ) (cert : List Signed) (votes : List Stated) → all_stated c j cert ≡ Some votes → (v : Stated) → Contains votes v → IsFound c j cert v
votes_found c j [] votes is v has = let e : [] ≡ votes = cc (is) in absurd (Contains-none v (subst (λ (vs : List Stated). Contains vs v) (sym e) has))
votes_found c j (s ∷ cert) votes is v has = by_parts (λ us more u has'. votes_found c j cert us more u has') (list_stated c j s.content) (all_stated c j cert) refl refl is
  where
    by_parts : ((us : List Stated) → all_stated c j cert ≡ Some us → (u : Stated) → Contains us u → IsFound c j cert u) → (o : Option Stated) (p : Option (List Stated)) → list_stated c j s.content ≡ o → all_stated c j cert ≡ p → with_stated o p ≡ Some votes → IsFound c j (s ∷ cert) v
    by_parts found None p one more e = absurd (cc (e))
    by_parts found (Some u) None one more e = absurd (cc (e))
    by_parts found (Some u) (Some us) one more e =
        let same : u ∷ us ≡ votes = cc (e) in
        elim (Contains-cons_cases u us v (subst (λ (vs : List Stated). Contains vs v) (sym same) has)) [
          | inl first ↦ record { signed = s; there = Contains-head s cert; vote = vote_is c j s.content v (one ∙ ap Some first) }
          | inr later ↦ let w = found us more v later in record { signed = w.signed; there = Contains-tail s w.signed cert w.there; vote = w.vote }
        ]

-- the votes that agree on a list
pub record AreAgreed (c : Cluster) (j : ℕ) (cert : List Signed) (t : Trimmed) : Type 0 where
  pub votes : List Stated
  pub stated : all_stated c j cert ≡ Some votes
  pub makes : makes_checkpoints (kind_of c.plan j) ≡ true
  pub enough : are_enough c.f votes ≡ true
  pub agreed : agreed_list (c.f + 1) (lists_of votes) ≡ Some t

pub list_agreed : (c : Cluster) (j : ℕ) (cert : List Signed) (t : Trimmed) → list_of c j cert ≡ Some t → AreAgreed c j cert t
list_agreed c j cert t is = by_kind (makes_checkpoints (kind_of c.plan j)) refl is
  where
    by_count : (votes : List Stated) (b : Bool) → all_stated c j cert ≡ Some votes → makes_checkpoints (kind_of c.plan j) ≡ true → are_enough c.f votes ≡ b → (if b then agreed_list (c.f + 1) (lists_of votes) else None) ≡ Some t → AreAgreed c j cert t
    by_count votes false found makes few e = absurd (cc (e))
    by_count votes true found makes enough e = record { votes = votes; stated = found; makes = makes; enough = enough; agreed = e }

    by_votes : (o : Option (List Stated)) → all_stated c j cert ≡ o → makes_checkpoints (kind_of c.plan j) ≡ true → agreed_on c.f o ≡ Some t → AreAgreed c j cert t
    by_votes None found makes e = absurd (cc (e))
    by_votes (Some votes) found makes e = by_count votes (are_enough c.f votes) found makes refl e

    by_kind : (b : Bool) → makes_checkpoints (kind_of c.plan j) ≡ b → (if b then agreed_on c.f (all_stated c j cert) else None) ≡ Some t → AreAgreed c j cert t
    by_kind false other e = absurd (cc (e))
    by_kind true makes e = by_votes (all_stated c j cert) refl makes e

-- what a vote says is claimed with the certificate
pub record IsClaimed (c : Cluster) (j : ℕ) (cert : List Signed) (v : Stated) : Type 0 where
  pub content : Content
  pub there : Contains (signed_contents cert) content
  pub vote : IsVote c j content v

pub votes_claimed : (c : Cluster) (j : ℕ) (cert : List Signed) (votes : List Stated) → all_stated c j cert ≡ Some votes → (v : Stated) → Contains votes v → IsClaimed c j cert v
votes_claimed c j cert votes is v has =
    let w = votes_found c j cert votes is v has in
    record {
      content = w.signed.content;
      there = Contains-flat_map (λ (s : Signed). s.content ∷ kept_claims s.content) cert w.signed w.signed.content w.there (Contains-head w.signed.content (kept_claims w.signed.content));
      vote = w.vote;
    }

pub votes_within : (c : Cluster) (j : ℕ) (cert : List Signed) (votes : List Stated) → all_stated c j cert ≡ Some votes → All (λ v. v.by < 3 * c.f + 1) votes
votes_within c j cert votes is = all_of votes (λ v has. (votes_found c j cert votes is v has).vote.within)
  where
    all_of : (vs : List Stated) → ((v : Stated) → Contains vs v → v.by < 3 * c.f + 1) → All (λ v. v.by < 3 * c.f + 1) vs
    all_of [] each = All-nil (λ (v : Stated). v.by < 3 * c.f + 1)
    all_of (v ∷ vs) each = All-cons (λ (u : Stated). u.by < 3 * c.f + 1) v vs (each v (Contains-head v vs)) (all_of vs (λ u has. each u (Contains-tail v u vs has)))

-- the rules of these kinds
pub cert_by : (g : Kind) (f : ℕ) (x : Setting) (claims : List Content) (h : List Request) → makes_checkpoints g ≡ true → IsValidCert x claims h → IsCertBy (rule_of g f) x claims h
cert_by kind.Quorum f x claims h makes is = is
cert_by kind.ZLight f x claims h makes is = is
cert_by kind.Chain f x claims h makes is = is
cert_by kind.Backup f x claims h makes is = absurd (cc (makes))
cert_by kind.ZCert f x claims h makes is = absurd (cc (makes))

pub plain_abort : (g : Kind) (f i r : ℕ) (s : State) → makes_checkpoints g ≡ true → abort_content (rule_of g f) i r s ≡ Abort (Replica r) i s.log
plain_abort kind.Quorum f i r s makes = refl
plain_abort kind.ZLight f i r s makes = refl
plain_abort kind.Chain f i r s makes = refl
plain_abort kind.Backup f i r s makes = absurd (cc (makes))
plain_abort kind.ZCert f i r s makes = absurd (cc (makes))
