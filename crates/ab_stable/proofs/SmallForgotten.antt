-- What may be forgotten in a run of two instances.
use Rattle.std.proofs.Common.{◌≡◌, ℕ, List, [], ◌∷◌, refl, sym, subst, arith}
use Rattle.std.specs.Prelude.{All}
use Rattle.std.proofs.lemmas.List.Elements.{All-contains, All-from_recursion}
use mathlib.Core.List.{IsPrefix}
use Rattle.ab_hist.specs.declared.request.Request.{Request}
use Rattle.ab_svc.specs.Machines.{Reply}
use Rattle.ab_abs.specs.declared.seen.Seen.{Seen}
use Rattle.ab_abs.specs.declared.seen.Seen.TheVariants.{Invoked, Init, Cert, TrimmedInit, TrimmedCert, Committed}
use Rattle.ab_abs.specs.Examples.{two_instances}
use Rattle.ab_abs.specs.Observations.{IsCertHistory}
use Rattle.ab_stable.specs.Forgotten.{IsForgotten, settled, brought}

module _ (a b c : Request) (d : List ℕ) (reply : Reply) where
  abbrev seen : List Seen
  seen = two_instances a b c (Committed 2 0 a 3 d reply)

  -- a certificate is of all three
  abbrev OfAll : Seen → Type 0
  OfAll (Invoked i q m) = Unit {0}
  OfAll (Init i r h) = Unit {0}
  OfAll (Cert i p h) = h ≡ a ∷ b ∷ c ∷ []
  OfAll (TrimmedInit i r start digest rest) = Unit {0}
  OfAll (TrimmedCert i p start digest rest) = Unit {0}
  OfAll (Committed i q m n e other) = Unit {0}

  each : All OfAll seen
  each = All-from_recursion OfAll seen (tt, (tt, (tt, (refl, (tt, (refl, (tt, (refl, (tt, (refl, (tt, (refl, (tt, (tt, tt))))))))))))))

  begins_all : (h : List Request) → IsCertHistory seen 1 h → IsPrefix (a ∷ b ∷ []) h
  begins_all h is = subst (λ (k : List Request). IsPrefix (a ∷ b ∷ []) k) (sym (All-contains OfAll seen (Cert 1 is.0 h) each is.1)) (c ∷ [], refl)

  pub two_settled : IsForgotten seen 1 (a ∷ b ∷ [])
  two_settled = settled 1 (a ∷ b ∷ []) (omega arith) begins_all

  pub one_brought : IsForgotten seen 2 (a ∷ [])
  one_brought = brought 1 2 (a ∷ []) (a ∷ b ∷ []) (omega arith) two_settled (b ∷ [], refl)
