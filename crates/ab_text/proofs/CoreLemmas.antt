-- Parties and cores hold no separator.
use Rattle.std.proofs.Common.{◌≡◌, ℕ, ◌<◌, List, ◌∷◌, ◌++◌, Option, None, Some, decimal, arith, ◌∙◌, sym, subst, append-nil, IfSome}
use Rattle.ab_num.specs.declared.party.Party.{Party}
use Rattle.ab_num.specs.declared.party.Party.TheVariants.{Replica, Client}
use Rattle.ab_text.specs.declared.event.Core.{Core}
use Rattle.ab_text.specs.Cores.{Lacks, party_text, IsParty, twin_text, core_text, IsTwin, IsCore}
use Rattle.ab_text.proofs.PartLemmas.{Lacks-decimal, Lacks-cons, Lacks-append}

pub Lacks-party : (s : ℕ) (p : Party) → s < 48 → IsParty p → Lacks s (party_text p)
Lacks-party s (Replica r) low good = Lacks-cons s 114 (decimal r) (λ e. omega (arith, e)) (Lacks-decimal s r low (omega arith))
Lacks-party s (Client c) low good = Lacks-cons s 99 (decimal c) (λ e. omega (arith, e)) (Lacks-decimal s c low (omega arith))

no_space_in_twin : (t : Option ℕ) → IfSome t IsTwin → Lacks 32 (twin_text t)
no_space_in_twin None good = λ k d lt. absurd (omega arith)
no_space_in_twin (Some t) good = let few = good.few in Lacks-cons 32 46 (decimal t) (λ e. omega (arith, e)) (Lacks-decimal 32 t (omega arith) (omega (arith, few)))

-- a core has no space
pub Lacks-core : (core : Core) → IsCore core → Lacks 32 (core_text core)
Lacks-core core good = Lacks-append 32 (party_text core.party) (twin_text core.twin) (Lacks-party 32 core.party (omega arith) good.party) (no_space_in_twin core.twin good.twin)

-- where there is no dot, the core is the only one of its party
pub without_dot : (text : List ℕ) (r : Option Core) (p : Party) (t : Option ℕ)
    → ((a b : List ℕ) → Lacks 46 a → text ≡ a ++ 46 ∷ b → ⊥)
    → ((q : Party) → IsParty q → text ≡ party_text q → r ≡ Some (record { party = q; twin = None }))
    → IsParty p → text ≡ party_text p ++ twin_text t → r ≡ Some (record { party = p; twin = t })
without_dot text r p None none sole good is = sole p good (is ∙ append-nil (party_text p))
without_dot text r p (Some t) none sole good is = absurd (none (party_text p) (decimal t) (Lacks-party 46 p (omega arith) good) is)

-- where there is one, the core is a twin
pub with_dot : (text front back : List ℕ) (r : Option Core) (p : Party) (t : Option ℕ)
    → ((a b : List ℕ) → Lacks 46 a → text ≡ a ++ 46 ∷ b → (front ≡ a) × (back ≡ b))
    → (Lacks 46 text → ⊥)
    → ((q : Party) (u : ℕ) → IsParty q → IsTwin u → front ≡ party_text q → back ≡ decimal u → r ≡ Some (record { party = q; twin = Some u }))
    → IsParty p → IfSome t IsTwin → text ≡ party_text p ++ twin_text t → r ≡ Some (record { party = p; twin = t })
with_dot text front back r p None parts dotted twin good fine is = absurd (dotted (subst (Lacks 46) (sym (is ∙ append-nil (party_text p))) (Lacks-party 46 p (omega arith) good)))
with_dot text front back r p (Some t) parts dotted twin good fine is =
    let both = parts (party_text p) (decimal t) (Lacks-party 46 p (omega arith) good) is in
    twin p t good fine both.0 both.1
