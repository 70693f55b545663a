-- The signature keys of a cluster's replicas, and what each of them signs.
use Rattle.std.specs.Prelude.{ℕ, ◌+◌, ◌*◌, List, [], map, Option, None, Some, slice_get}
use Rattle.std.specs.List.{range_with_len}
use Rattle.ab_num.specs.declared.plan.Scheme.{Scheme}
use Rattle.ab_keys.specs.Secrets.{tree_name, tree_seed}
use Rattle.ab_msg.specs.Contents.{spell_content}
use Rattle.ab_msg.specs.Pens.{Pen}
use Rattle.ab_scheme.specs.Schemes.{public_by, signature_by, signatures_in}
use Rattle.ab_sign.specs.declared.key.SignKey.{SignKey}
use Rattle.ab_sign.specs.declared.key.SignKey.TheVariants.{Secret, Public}

-- ---- one key

abbrev pub public_in : SignKey → List ℕ
public_in (Secret k) = public_by k.scheme k.id k.seed
public_in (Public bytes) = bytes

-- how many signatures it can make: none without the secret
abbrev pub leaves_in : SignKey → ℕ
leaves_in (Secret k) = signatures_in k.scheme
leaves_in (Public bytes) = 0

-- its signature number n, which is of a text
abbrev pub signature_in : SignKey → ℕ → List ℕ → List ℕ
signature_in (Secret k) n text = signature_by k.scheme k.id k.seed n text
signature_in (Public bytes) n text = []

-- ---- the keys of replicas, from replica 0 on

abbrev pub public_at : Option SignKey → List ℕ
public_at None = []
public_at (Some key) = public_in key

abbrev pub leaves_at : Option SignKey → ℕ
leaves_at None = 0
leaves_at (Some key) = leaves_in key

abbrev pub signature_at : Option SignKey → ℕ → List ℕ → List ℕ
signature_at None n text = []
signature_at (Some key) n text = signature_in key n text

-- the public key of replica r; no bytes where there is none
abbrev pub public_of : List SignKey → ℕ → List ℕ
public_of keys r = public_at (slice_get keys r)

-- how many signatures replica r can make
abbrev pub leaves_of : List SignKey → ℕ → ℕ
leaves_of keys r = leaves_at (slice_get keys r)

-- replica r's signature number n, which is of a text
abbrev pub signature_of : List SignKey → ℕ → ℕ → List ℕ → List ℕ
signature_of keys r n text = signature_at (slice_get keys r) n text

-- replica r as one who signs contents, and has signed so many
abbrev pub pen_of : List SignKey → ℕ → ℕ → Pen
pen_of keys r used = record { used = used; sig = λ content n. signature_of keys r n (spell_content content) }

-- the keys, a replica that signs by its own, and how often it has signed
pub record Signing : Type 0 where
  pub keys : List SignKey
  pub replica : ℕ
  pub used : ℕ

-- ---- by a seed

abbrev pub derived_key : Scheme → List ℕ → ℕ → SignKey
derived_key scheme seed r = Secret (record { scheme = scheme; id = tree_name seed r; seed = tree_seed seed r })

-- the keys of all replicas where f may be faulty
abbrev pub derived_keys : ℕ → Scheme → List ℕ → List SignKey
derived_keys f scheme seed = map (derived_key scheme seed) (range_with_len 0 (3 * f + 1))
