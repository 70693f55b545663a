-- Certificates over lists that forgot, as acts hold them.
use Rattle.std.proofs.Common.{◌≡◌, ℕ, ◌+◌, ◌*◌, ◌<◌, ◌≤◌, List, [], ◌∷◌, length, map, arith, refl, sym, ap, ◌∙◌, subst}
use Rattle.std.specs.Prelude.{All, Contains, count_by, nat_eq}
use Rattle.std.specs.List.{IsDistinct}
use Rattle.std.proofs.lemmas.List.{length-map}
use Rattle.std.proofs.lemmas.List.Elements.{All-contains}
use Rattle.ab_num.specs.declared.party.Party.TheVariants.{Replica}
use Rattle.ab_num.proofs.Lists.{Contains-map, Contains-map_cases}
use Rattle.ab_hist.specs.declared.request.Request.{Request}
use Rattle.ab_msg.specs.declared.content.Content.TheVariants.{Abort}
use Rattle.ab_hist.specs.Trimmed.{Trimmed}
use Rattle.ab_trim.proofs.Counts.{count_fewer}
use Rattle.ab_msg.specs.Carried.{is_replica}
use Rattle.ab_abs.specs.Faults.{is_faulty}
use Rattle.ab_abs.specs.Acts.{Setting}
use Rattle.ab_abs.specs.Extraction.{IsExtract}
use Rattle.ab_abs.specs.Rules.{Held, IsValidCert}
use Rattle.ab_abs.proofs.Certified.{all_of}
use Rattle.ab_abs.proofs.Voters.{faulty_few}
use Rattle.ab_stable.specs.Certs.{Stated, AreTold, IsWholeCert}
use Rattle.ab_stable.specs.CertActs.{IsTrimmedCert, MeetsForgetting, faulty_in, whole_claims}
use Rattle.ab_stable.proofs.WholeCerts.{whole_cert}

map_after : {A B C : Type 0} (f : A → B) (g : B → C) (xs : List A) → map g (map f xs) ≡ map (λ x. g (f x)) xs
map_after f g [] = refl
map_after f g (x ∷ xs) = ap (λ ys. g (f x) ∷ ys) (map_after f g xs)

module _ (x : Setting) (votes : List Stated) (each_once : IsDistinct nat_eq (map (λ v. v.by) votes)) where
  -- no more of the voters are faulty than there are faulty replicas
  pub few_faulty : count_by is_replica x.faulty ≤ x.cluster.f → count_by (λ (v : Stated). faulty_in x v.by) votes ≤ x.cluster.f
  few_faulty few =
      let along = count_fewer (λ (v : Stated). faulty_in x v.by) (λ (r : ℕ). is_faulty x.faulty (Replica r)) (λ (v : Stated). v.by) votes (λ v _ has. has) in
      omega (arith, along, faulty_few x.faulty (map (λ (v : Stated). v.by) votes) each_once, few)

  -- these whole lists of enough replicas are a certificate
  pub valid_by : (list : Stated → List Request) (h : List Request) → length votes ≡ 2 * x.cluster.f + 1 → All (λ v. v.by < 3 * x.cluster.f + 1) votes → IsExtract (x.cluster.f + 1) (map list votes) h
      → IsValidCert x (whole_claims x list votes) h
  valid_by list h enough within extract =
      let held : Stated → Held = λ v. record { by = v.by; log = list v } in
      let by_is : map (λ (u : Held). u.by) (map held votes) ≡ map (λ (v : Stated). v.by) votes = map_after held (λ (u : Held). u.by) votes in
      let log_is : map (λ (u : Held). u.log) (map held votes) ≡ map list votes = map_after held (λ (u : Held). u.log) votes in
      record {
        votes = map held votes;
        enough = length-map votes held ∙ enough;
        each_once = subst (λ (rs : List ℕ). IsDistinct nat_eq rs) (sym by_is) each_once;
        within = all_of (λ (u : Held). u.by < 3 * x.cluster.f + 1) (map held votes) (λ u has.
            let r = Contains-map_cases held votes u has in
            subst (λ (w : Held). w.by < 3 * x.cluster.f + 1) r.2 (All-contains (λ (v : Stated). v.by < 3 * x.cluster.f + 1) votes r.0 within r.1));
        signed = all_of (λ (u : Held). Contains (whole_claims x list votes) (Abort (Replica u.by) x.i u.log)) (map held votes) (λ u has.
            let r = Contains-map_cases held votes u has in
            subst (λ (w : Held). Contains (whole_claims x list votes) (Abort (Replica w.by) x.i w.log)) r.2 (Contains-map (λ (v : Stated). Abort (Replica v.by) x.i (list v)) votes r.0 r.1));
        agreed = subst (λ (ls : List (List Request)). IsExtract (x.cluster.f + 1) ls h) (sym log_is) extract;
      }

pub valid_cert : (x : Setting) (log : ℕ → List Request) (links : List (List ℕ × Request)) (votes : List Stated) (t : Trimmed)
    → IsTrimmedCert x votes t → MeetsForgetting x log votes → AreTold links (faulty_in x) log votes
    → (h : List Request) × (whole : IsWholeCert x.cluster.f (faulty_in x) log links votes t h) × IsValidCert x (whole_claims x whole.list votes) h
valid_cert x log links votes t is meets told =
    let few = few_faulty x votes is.each_once meets.few in
    let r = whole_cert x.cluster.f (faulty_in x) log links votes is.enough (record { few = few; stands = meets.stands; common = meets.common }) told t is.agreed in
    (r.0, r.1, valid_by x votes is.each_once r.1.list r.0 is.enough is.within r.1.extract)
