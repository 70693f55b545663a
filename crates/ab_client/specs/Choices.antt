-- Certificates that kept ABORTs make, with the lists that they bring.
use Rattle.std.specs.Prelude.{ℕ, zero, suc, ◌&&◌, ◌||◌, Bool, Option, None, Some, List, [], ◌∷◌, ◌++◌}
use Rattle.std.specs.Option.{option_map}
use Rattle.ab_num.specs.declared.cluster.Cluster.{Cluster}
use Rattle.ab_num.specs.declared.plan.Kind.{Kind}
use Rattle.ab_hist.specs.Trimmed.{Trimmed}
use Rattle.ab_msg.specs.declared.content.Content.{Content}
use Rattle.ab_msg.specs.declared.signed.Signed.{Signed}
use Rattle.ab_abs.specs.Kinds.{is_zcert}
use Rattle.ab_extract.specs.Certs.{is_fit}
use Rattle.ab_stable.specs.Offers.{is_trimmed, list_in, makes_checkpoints}

-- an ABORT as replicas of this kind make it: of a whole log, or of a trimmed one if they trim their logs
abbrev pub is_fit_of : Kind → ℕ → Content → Bool
is_fit_of k f s = is_fit (is_zcert k) f s || (makes_checkpoints k && is_trimmed s)

-- the certificate with the list that it brings
abbrev pub with_list : Cluster → ℕ → List Signed → Option (List Signed × Trimmed)
with_list c j cert = option_map (λ t. (cert, t)) (list_in c j cert)

abbrev pub or_else : {A : Type 0} → Option A → Option A → Option A
or_else None other = other
or_else (Some x) other = Some x

-- the first set of n of these, behind those that are chosen, that brings a list
abbrev pub first_choice : Cluster → ℕ → List Signed → ℕ → List Signed → Option (List Signed × Trimmed)
first_choice c j chosen zero rest = with_list c j chosen
first_choice c j chosen (suc n) [] = None
first_choice c j chosen (suc n) (s ∷ rest) = or_else (first_choice c j (chosen ++ s ∷ []) n rest) (first_choice c j chosen (suc n) rest)
