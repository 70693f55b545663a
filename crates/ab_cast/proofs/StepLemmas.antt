-- Lists of first cores.
use Rattle.std.proofs.Common.{◌≡◌, ℕ, zero, suc, ◌+◌, ◌-◌, ◌<◌, List, [], ◌∷◌, ◌++◌, length, map, take, get_or, refl, sym, ap, ◌∙◌, arith, add-one}
use Rattle.std.specs.Prelude.{replicate}
use Rattle.std.specs.List.{range_with_len}
use Rattle.std.proofs.lemmas.List.{map-append, append_assoc, replicate_more, append-nil}
use Rattle.std.proofs.lemmas.Grind.{flat_map-append}
use Rattle.ab_num.specs.declared.party.Party.{Party}
use Rattle.ab_num.specs.declared.party.Party.TheVariants.{Replica, Client}
use Rattle.ab_cast.specs.Setups.{twins_of_replica, twins_of_client, replica_twins, client_twins}

-- ---- lists

-- one like the ones before is added
pub one_more : {A : Type 0} (new old first : List A) (n : ℕ) (q x : A) → new ≡ old ++ q ∷ [] → old ≡ first ++ replicate n x → q ≡ x → new ≡ first ++ replicate (n + 1) x
one_more new old first n q x pushed before last =
    pushed ∙ ((λ j. before j ++ last j ∷ []) ∙ (append_assoc first (replicate n x) (x ∷ []) ∙ ap (λ ys. first ++ ys) (replicate_more n x)))

-- the first cores of one party's further cores are alike
same_first : {A : Type 0} (f : ℕ → A) (r low n : ℕ) → map (λ (k : ℕ × ℕ). f k.0) (map (λ t. (r, t)) (range_with_len low n)) ≡ replicate n (f r)
same_first f r low zero = refl
same_first f r low (suc n) = ap (λ xs. f r ∷ xs) (same_first f r (low + 1) n)

module _ {A : Type 0} (f : ℕ → A) (entries : List (Party × ℕ)) (e : Party × ℕ) where
  pub more_replicas : map (λ k. f k.0) (replica_twins (entries ++ e ∷ [])) ≡ map (λ k. f k.0) (replica_twins entries) ++ map (λ k. f k.0) (twins_of_replica e.0 e.1)
  more_replicas = ap (map (λ k. f k.0)) (flat_map-append (λ e. twins_of_replica e.0 e.1) entries (e ∷ []) ∙ ap (λ xs. replica_twins entries ++ xs) (append-nil (twins_of_replica e.0 e.1))) ∙ map-append (λ k. f k.0) (replica_twins entries) (twins_of_replica e.0 e.1)

  pub more_clients : map (λ k. f k.0) (client_twins (entries ++ e ∷ [])) ≡ map (λ k. f k.0) (client_twins entries) ++ map (λ k. f k.0) (twins_of_client e.0 e.1)
  more_clients = ap (map (λ k. f k.0)) (flat_map-append (λ e. twins_of_client e.0 e.1) entries (e ∷ []) ∙ ap (λ xs. client_twins entries ++ xs) (append-nil (twins_of_client e.0 e.1))) ∙ map-append (λ k. f k.0) (client_twins entries) (twins_of_client e.0 e.1)

pub replica_first : {A : Type 0} (f : ℕ → A) (p : Party) (r cores : ℕ) → p ≡ Replica r → map (λ k. f k.0) (twins_of_replica p cores) ≡ replicate (cores - 1) (f r)
replica_first f p r cores is = ap (λ q. map (λ k. f k.0) (twins_of_replica q cores)) is ∙ same_first f r 2 (cores - 1)

pub client_first : {A : Type 0} (f : ℕ → A) (p : Party) (c cores : ℕ) → p ≡ Client c → map (λ k. f k.0) (twins_of_client p cores) ≡ replicate (cores - 1) (f c)
client_first f p c cores is = ap (λ q. map (λ k. f k.0) (twins_of_client q cores)) is ∙ same_first f c 2 (cores - 1)

-- the next of the first n elements
pub take_next : {A : Type 0} (n : ℕ) (xs : List A) (d : A) → n < length xs → take (n + 1) xs ≡ take n xs ++ get_or xs n d ∷ []
take_next n xs d lt = rw add-one (more n xs lt)
  where
    more : (n : ℕ) (xs : List _) → n < length xs → take (suc n) xs ≡ take n xs ++ get_or xs n d ∷ []
    more n [] lt = absurd (omega (arith, lt))
    more zero (x ∷ xs) lt = refl
    more (suc n) (x ∷ xs) lt = ap (λ ys. x ∷ ys) (more n xs (omega (arith, lt)))

module _ {A : Type 0} (f : ℕ → A) (entries : List (Party × ℕ)) (n : ℕ) (d : Party × ℕ) (lt : n < length entries) (old new : List A) where
  abbrev e : Party × ℕ
  e = get_or entries n d

  abbrev first_replicas : List (Party × ℕ) → List A
  first_replicas xs = map (λ k. f k.0) (replica_twins xs)

  abbrev first_clients : List (Party × ℕ) → List A
  first_clients xs = map (λ k. f k.0) (client_twins xs)

  -- the further cores of one entry more
  pub next_replica : (r more : ℕ) → e.0 ≡ Replica r → more ≡ e.1 - 1 → new ≡ old ++ replicate more (f r) → old ≡ first_replicas (take n entries) → new ≡ first_replicas (take (n + 1) entries)
  next_replica r more party number pushed before =
      pushed ∙ ((λ j. before j ++ (ap (λ m. replicate m (f r)) number ∙ sym (replica_first f e.0 r e.1 party)) j) ∙ sym (ap first_replicas (take_next n entries d lt) ∙ more_replicas f (take n entries) e))

  pub other_replica : (r : ℕ) → e.0 ≡ Client r → new ≡ old → old ≡ first_replicas (take n entries) → new ≡ first_replicas (take (n + 1) entries)
  other_replica r party same before =
      same ∙ (before ∙ (sym (append-nil (first_replicas (take n entries)))
      ∙ (ap (λ p. first_replicas (take n entries) ++ map (λ k. f k.0) (twins_of_replica p e.1)) (sym party) ∙ sym (ap first_replicas (take_next n entries d lt) ∙ more_replicas f (take n entries) e))))

  -- the further cores of one entry more
  pub next_client : (r more : ℕ) → e.0 ≡ Client r → more ≡ e.1 - 1 → new ≡ old ++ replicate more (f r) → old ≡ first_clients (take n entries) → new ≡ first_clients (take (n + 1) entries)
  next_client r more party number pushed before =
      pushed ∙ ((λ j. before j ++ (ap (λ m. replicate m (f r)) number ∙ sym (client_first f e.0 r e.1 party)) j) ∙ sym (ap first_clients (take_next n entries d lt) ∙ more_clients f (take n entries) e))

  pub other_client : (r : ℕ) → e.0 ≡ Replica r → new ≡ old → old ≡ first_clients (take n entries) → new ≡ first_clients (take (n + 1) entries)
  other_client r party same before =
      same ∙ (before ∙ (sym (append-nil (first_clients (take n entries)))
      ∙ (ap (λ p. first_clients (take n entries) ++ map (λ k. f k.0) (twins_of_client p e.1)) (sym party) ∙ sym (ap first_clients (take_next n entries d lt) ∙ more_clients f (take n entries) e))))
