use Rattle.std.proofs.Common.{◌≡◌, ℕ, ◌^◌, ◌<◌, List, ◌∷◌, ◌++◌, Option, None, Some, IfSome, decimal, sym, subst, arith}
use Rattle.ab_text.specs.declared.event.Core.{Core}
use Rattle.ab_text.specs.declared.event.Event.{Event}
use Rattle.ab_text.specs.declared.event.Event.TheVariants.{Deliver}
use Rattle.ab_text.specs.Cores.{Lacks, core_text, IsCore}
use Rattle.ab_text.specs.EventLines.{delivery_text}
use Rattle.ab_text.proofs.PartLemmas.{Lacks-decimal}
use Rattle.ab_text.proofs.event_lines.deliver_of.Goals as goal

without_space : (text : List ℕ) (r : Option Event) (k : ℕ) (core : Option Core)
    → ((a b : List ℕ) → Lacks 32 a → text ≡ a ++ 32 ∷ b → ⊥)
    → ((n : ℕ) → n < 2 ^ 64 → text ≡ decimal n → r ≡ Some (Deliver n None))
    → k < 2 ^ 64 → text ≡ delivery_text k core → r ≡ Some (Deliver k core)
without_space text r k None none plain small is = plain k small is
without_space text r k (Some core) none plain small is = absurd (none (decimal k) (core_text core) (Lacks-decimal 32 k (omega arith) small) is)

with_space : (text front back : List ℕ) (r : Option Event) (k : ℕ) (core : Option Core)
    → ((a b : List ℕ) → Lacks 32 a → text ≡ a ++ 32 ∷ b → (front ≡ a) × (back ≡ b))
    → (Lacks 32 text → ⊥)
    → ((n : ℕ) (c : Core) → n < 2 ^ 64 → IsCore c → front ≡ decimal n → back ≡ core_text c → r ≡ Some (Deliver n (Some c)))
    → k < 2 ^ 64 → IfSome core IsCore → text ≡ delivery_text k core → r ≡ Some (Deliver k core)
with_space text front back r k None parts spaced named small good is = absurd (spaced (subst (Lacks 32) (sym is) (Lacks-decimal 32 k (omega arith) small)))
with_space text front back r k (Some core) parts spaced named small good is =
    let both = parts (decimal k) (core_text core) (Lacks-decimal 32 k (omega arith) small) is in
    named k core small good both.0 both.1

not_none : {A : Type 0} → (x : A) → Some x ≡ None → ⊥
not_none x e = cc

pub returns-in-None-clause-only : goal.returns-in-None-clause-only
returns-in-None-clause-only c k core small good is = without_space c.args.text.now c.plain_delivery.result k core c.in-None.ensures.only c.plain_delivery.ensures.only small is

pub returns-in-Some-clause-only : goal.returns-in-Some-clause-only
returns-in-Some-clause-only c k core small good is =
    with_space c.args.text.now c.in-Some.packet.now c.in-Some.core.now c.core_delivery.result k core
    c.in-Some.ensures.only (λ lacks. not_none _ (c.in-Some.ensures.none lacks)) c.core_delivery.ensures.only small good is
