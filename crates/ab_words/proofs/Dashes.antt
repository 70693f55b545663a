-- No value that a command takes begins with a dash.
use Rattle.std.proofs.Common.{◌≡◌, ℕ, ◌^◌, ◌/◌, ◌%◌, List, [], ◌∷◌, Option, None, Some, refl, ap, sym, ◌∙◌, inl, inr, eqb, if◌then◌else◌, decimal, length, arith, subst, nat_lt, ◌==◌}
use Rattle.std.specs.Str.{bytes_eq}
use Rattle.std.specs.Str.Parse.{digits_value}
use Rattle.std.proofs.lemmas.Bool.{and_parts, cases_Bool, ltb-true}
use Rattle.std.proofs.lemmas.Bool.Decides.{Decides-eqb}
use Rattle.std.proofs.lemmas.Slice.Eq.{bytes_eq-Decides}
use Rattle.clap.specs.Lexer.{strip_byte}
use Rattle.hex.specs.Hex.{decode_pairs}
use Rattle.ab_num.specs.declared.party.Party.{Party}
use Rattle.ab_num.specs.declared.plan.Plan.{Plan}
use Rattle.ab_num.specs.declared.plan.ServiceName.{ServiceName}
use Rattle.ab_num.specs.declared.plan.Scheme.{Scheme}
use Rattle.ab_text.specs.Cores.{Lacks}
use Rattle.ab_text.specs.Heads.{most_built, spelled_in, plans, services, schemes}
use Rattle.ab_text.specs.Numbers.{is_number, number_of as number_text}
use Rattle.ab_text.proofs.PartLemmas.{Lacks-decimal}
use Rattle.ab_text.specs.HexBytes.{bytes_in, in_lower_case}
use Rattle.ab_key_text.specs.Lines.{bounded, party_in}
use Rattle.ab_words.specs.Uses.{◌>>=◌}
use Rattle.ab_words.specs.Values.{plan_name, service_name, scheme_name, checkpoint_named, named, number_in}

-- what takes no text with a dash in front takes plain texts alone
plain-by : {B : Type 0} (read : List ℕ → Option B) → ((cs : List ℕ) → read (45 ∷ cs) ≡ None) → (v : List ℕ) (y : B) → read v ≡ Some y → strip_byte 45 v ≡ None
plain-by read none [] y e = refl
plain-by read none (c ∷ cs) y e = elim (cases_Bool (eqb c 45)) [
  | inr f ↦ rw f refl
  | inl t ↦ let z : read (c ∷ cs) ≡ None = ap (λ d. read (d ∷ cs)) ((Decides-eqb c 45).0 t) ∙ none cs in absurd cc (e, z)
]

no-plan : (cs : List ℕ) → spelled_in plan_name plans (45 ∷ cs) ≡ None
unfolding spelled_in
no-plan cs = refl

pub plan-plain : (v : List ℕ) (y : Plan) → spelled_in plan_name plans v ≡ Some y → strip_byte 45 v ≡ None
plan-plain = plain-by (spelled_in plan_name plans) no-plan

no-service : (cs : List ℕ) → spelled_in service_name services (45 ∷ cs) ≡ None
unfolding spelled_in
no-service cs = refl

pub service-plain : (v : List ℕ) (y : ServiceName) → spelled_in service_name services v ≡ Some y → strip_byte 45 v ≡ None
service-plain = plain-by (spelled_in service_name services) no-service

no-scheme : (cs : List ℕ) → spelled_in scheme_name schemes (45 ∷ cs) ≡ None
unfolding spelled_in
no-scheme cs = refl

pub scheme-plain : (v : List ℕ) (y : Scheme) → spelled_in scheme_name schemes v ≡ Some y → strip_byte 45 v ≡ None
scheme-plain = plain-by (spelled_in scheme_name schemes) no-scheme

no-party : (cs : List ℕ) → party_in (45 ∷ cs) ≡ None
no-party cs = refl

pub party-plain : (v : List ℕ) (y : Party) → party_in v ≡ Some y → strip_byte 45 v ≡ None
party-plain = plain-by party_in no-party

no-pairs : (cs : List ℕ) → in_lower_case (45 ∷ cs) (decode_pairs 0 (45 ∷ cs)) ≡ None
unfolding decode_pairs
no-pairs [] = refl
no-pairs (c ∷ cs) = refl

no-bytes : (cs : List ℕ) → bytes_in 32 (45 ∷ cs) ≡ None
unfolding bytes_in
no-bytes cs = elim (cases_Bool (length (45 ∷ cs) % 2 == 1)) [
  | inl t ↦ rw t refl
  | inr f ↦ elim (cases_Bool (length (45 ∷ cs) / 2 == 32)) [ inl u ↦ rw (f, u) (no-pairs cs) | inr g ↦ rw (f, g) refl ]
]

pub seed-plain : (v y : List ℕ) → bytes_in 32 v ≡ Some y → strip_byte 45 v ≡ None
seed-plain = plain-by (bytes_in 32) no-bytes

no-number : (cs : List ℕ) → number_text (45 ∷ cs) ≡ None
unfolding number_text is_number
no-number cs = elim (cases_Bool (is_number (45 ∷ cs))) [
  | inr f ↦ ap (λ b. if b then Some (digits_value 10 (45 ∷ cs)) else None) f
  | inl t ↦
      let n = digits_value 10 (45 ∷ cs) in
      let parts = and_parts (bytes_eq (45 ∷ cs) (decimal n)) (nat_lt n (2 ^ 64)) t in
      let is : 45 ∷ cs ≡ decimal n = (bytes_eq-Decides (45 ∷ cs) (decimal n)).0 parts.0 in
      let lacks : Lacks 45 (45 ∷ cs) = subst (Lacks 45) (sym is) (Lacks-decimal 45 n (omega arith) (ltb-true n (2 ^ 64) parts.1)) in
      absurd (lacks 0 0 (omega arith) refl)
]

pub number-plain : (low high : ℕ) (v : List ℕ) (y : ℕ) → number_in low high v ≡ Some y → strip_byte 45 v ≡ None
number-plain low high = plain-by (number_in low high) (λ cs. ap (bounded low high) (no-number cs))

pub checkpoint-plain : (plan : Plan) (v : List ℕ) (y : Option ℕ) → checkpoint_named plan (Some v) ≡ Some y → strip_byte 45 v ≡ None
checkpoint-plain plan = plain-by (λ v. checkpoint_named plan (Some v)) (λ cs. ap (λ o. bounded 0 (most_built plan) o >>= λ k. Some (Some k)) (no-number cs))

no-name : (cs : List ℕ) → named (Some (45 ∷ cs)) ≡ None
no-name cs = refl

pub name-plain : (v : List ℕ) (y : Option (List ℕ)) → named (Some v) ≡ Some y → strip_byte 45 v ≡ None
name-plain = plain-by (λ v. named (Some v)) no-name
