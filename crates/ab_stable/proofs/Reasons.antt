-- What replicas forgot with reasons.
use Rattle.std.proofs.Common.{ℕ, ◌≤◌, List, [], ◌∷◌, refl, subst, inl, inr}
use Rattle.std.specs.Prelude.{Bool, Contains}
use mathlib.Core.List.{IsPrefix}
use Rattle.ab_num.proofs.Lists.{Contains-none, Contains-cons_cases}
use Rattle.ab_hist.specs.declared.request.Request.{Request}
use Rattle.ab_num.specs.declared.cluster.Cluster.{Cluster}
use Rattle.ab_num.specs.declared.party.Party.{Party}
use Rattle.ab_svc.specs.Machines.{Machine}
use Rattle.ab_msg.specs.declared.content.Content.{Content}
use Rattle.ab_abs.specs.declared.seen.Seen.{Seen}
use Rattle.ab_abs.specs.declared.seen.Seen.TheVariants.{Cert}
use Rattle.ab_abs.specs.Acts.{Setting, Act, observations, setting}
use Rattle.ab_abs.specs.Observations.{IsCertHistory, SameParts}
use Rattle.ab_stable.proofs.MarkedActs.{certified_by_all, certified_in_chain}
use Rattle.ab_stable.specs.Forgotten.{IsForgotten, settled, brought, IsCommonBy, by_all, in_chain, by_logs, Forgot, AreReasoned, start, begins, forgets, brings}

module _ (seen : List Seen) (common : List (ℕ × List Request)) (each : (i : ℕ) (front : List Request) → Contains common (i, front) → (1 ≤ i) × ((h : List Request) → IsCertHistory seen i h → IsPrefix front h)) where
  -- the newest, and those before it
  one_more : (w : Forgot) (lists : List Forgot) → IsForgotten seen w.instance w.front → ((v : Forgot) → Contains lists v → IsForgotten seen v.instance v.front)
      → (v : Forgot) → Contains (w ∷ lists) v → IsForgotten seen v.instance v.front
  one_more w lists of_w older v has =
      elim (Contains-cons_cases w lists v has) [
        | inl e ↦ subst (λ (u : Forgot). IsForgotten seen u.instance u.front) e of_w
        | inr more ↦ older v more
      ]

  pub reasoned : (lists : List Forgot) → AreReasoned common lists → (v : Forgot) → Contains lists v → IsForgotten seen v.instance v.front
  reasoned lists start v has = absurd (Contains-none v has)
  reasoned lists (begins r i rest one more) v has =
      one_more (record { by = r; instance = i; front = [] }) rest (settled i [] one (λ h _. (h, refl))) (reasoned rest more) v has
  reasoned lists (forgets r i front rest is more) v has =
      let says = each i front is in one_more (record { by = r; instance = i; front = front }) rest (settled i front says.0 says.1) (reasoned rest more) v has
  reasoned lists (brings w r j front rest is_in lt p more) v has =
      one_more (record { by = r; instance = j; front = front }) rest (brought w.instance j front w.front lt (reasoned rest more w is_in) p) (reasoned rest more) v has

pub reasons_stay : (common later : List (ℕ × List Request)) (lists : List Forgot) → ((p : ℕ × List Request) → Contains common p → Contains later p) → AreReasoned common lists → AreReasoned later lists
reasons_stay common later lists more start = start
reasons_stay common later lists more (begins r i rest one older) = begins r i rest one (reasons_stay common later rest more older)
reasons_stay common later lists more (forgets r i front rest is older) = forgets r i front rest (more (i, front) is) (reasons_stay common later rest more older)
reasons_stay common later lists more (brings v r j front rest is_in lt p older) = brings v r j front rest is_in lt p (reasons_stay common later rest more older)

-- ---- by the acts of each instance

module _ {S : Type 0} (machine : Machine S) where
  -- a reason says that the beginning begins each certificate history
  common_certified : (x : Setting) (is_mark : Content → Bool) (mark : ℕ → ℕ → List ℕ → Content) (acts : List Act) (front : List Request) → IsCommonBy machine x is_mark mark acts front
      → (1 ≤ x.i) × ((p : Party) (h : List Request) → Contains (observations acts) (Cert x.i p h) → IsPrefix front h)
  common_certified x is_mark mark acts front (by_all with_marks stable) = (with_marks.sound.later_than_none, certified_by_all machine x is_mark mark acts front with_marks stable)
  common_certified x is_mark mark acts front (in_chain with_marks stable) = (with_marks.sound.later_than_none, certified_in_chain machine x is_mark mark acts front with_marks stable)
  common_certified x is_mark mark acts front (by_logs one backed each) = (one, λ p h has. (backed.certs p h has).agreed front each)

  pub reasoned_by_acts : (c : Cluster) (faulty : List Party) (is_mark : Content → Bool) (mark : ℕ → ℕ → ℕ → List ℕ → Content) (acts : ℕ → List Act) (seen : List Seen) (common : List (ℕ × List Request)) (lists : List Forgot)
      → ((i : ℕ) → SameParts i (observations (acts i)) seen) → ((i : ℕ) (front : List Request) → Contains common (i, front) → IsCommonBy machine (setting c faulty i) is_mark (mark i) (acts i) front)
      → AreReasoned common lists → (v : Forgot) → Contains lists v → IsForgotten seen v.instance v.front
  reasoned_by_acts c faulty is_mark mark acts seen common lists parts reasons is =
      reasoned seen common (λ i front has.
      let says = common_certified (setting c faulty i) is_mark (mark i) (acts i) front (reasons i front has) in
      (says.0, λ h cert. says.1 cert.0 h ((parts i).back (Cert i cert.0 h) refl cert.1))) lists is
