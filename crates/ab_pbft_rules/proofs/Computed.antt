-- What a replica comes to by the inputs of the examples.
use Rattle.std.proofs.Common.{◌≡◌, ℕ, false, Option, Some, List, [], ◌∷◌, refl, ap, ◌∙◌}
use Rattle.ab_num.proofs.Tests.{bytes_eq-refl}
use Rattle.ab_hist.specs.declared.request.Request.{Request}
use Rattle.ab_msg.specs.declared.value.Value.{Value}
use Rattle.ab_msg.specs.declared.value.Value.TheVariants.{Base, Request as Order}
use Rattle.ab_msg.specs.Slots.{slot_digest}
use Rattle.ab_lock.specs.Steps.{Cert, with_cert}
use Rattle.ab_lock.specs.Votes.{SlotVote}
use Rattle.ab_lock.specs.ViewChanges.{Kept}
use Rattle.ab_order.specs.Inputs.{Reading, request, prepare, commit, timeout}
use Rattle.ab_pbft_rules.specs.Rules.{Pbft, pbft}
use Rattle.ab_pbft_rules.specs.Examples.{after_all, begun_with, voted, late}

abbrev by : ℕ → ℕ → List ℕ → SlotVote (List ℕ)
by r slot d = record { by = r; slot = slot; x = d }

module _ (m : Request) where
  abbrev base : List ℕ
  base = slot_digest (Base [])

  abbrev order : List ℕ
  order = slot_digest (Order m)

  abbrev at : ℕ → ℕ → List (Option (Cert Value)) → List Value → List (SlotVote (List ℕ)) → List (SlotVote (List ℕ)) → Pbft
  at signed prepared certs executed votes commits = record {
    seat = record { k = 1; f = 1; i = 1; me = 0; base = [] };
    memory = record {
      peer = record {
        core = record { view = 0; changing = false; accepted = Base [] ∷ Order m ∷ []; signed = signed; prepared = prepared; certs = certs; executed = executed };
        votes = votes;
        commits = commits;
      };
      changes = [];
      requests = m ∷ [];
    };
  }

  abbrev no_cert : List (Option (Cert Value))
  no_cert = []

  abbrev first_cert : List (Option (Cert Value))
  first_cert = with_cert 0 (Base [] ∷ []) no_cert

  abbrev both_certs : List (Option (Cert Value))
  both_certs = with_cert 0 (Base [] ∷ Order m ∷ []) first_cert

  abbrev next : Pbft → Reading → Pbft
  next p e = pbft.after p e

  s1 : next (begun_with 1 0) (request m) ≡ at 1 0 no_cert [] (by 0 0 base ∷ []) []
  s1 = let a = bytes_eq-refl base in rw a refl

  s2 : next (at 1 0 no_cert [] (by 0 0 base ∷ []) []) (prepare 1 0 0 base) ≡ at 1 0 no_cert [] (by 1 0 base ∷ by 0 0 base ∷ []) []
  s2 = let a = bytes_eq-refl base in rw a refl

  abbrev votes3 : List (SlotVote (List ℕ))
  votes3 = by 0 1 order ∷ by 2 0 base ∷ by 1 0 base ∷ by 0 0 base ∷ []

  abbrev commits5 : List (SlotVote (List ℕ))
  commits5 = by 2 0 base ∷ by 1 0 base ∷ by 0 0 base ∷ []

  s3 : next (at 1 0 no_cert [] (by 1 0 base ∷ by 0 0 base ∷ []) []) (prepare 2 0 0 base) ≡ at 2 1 first_cert [] votes3 (by 0 0 base ∷ [])
  s3 = let a = bytes_eq-refl base in let b = bytes_eq-refl order in rw (a, b, a) refl

  s4 : next (at 2 1 first_cert [] votes3 (by 0 0 base ∷ [])) (commit 1 0 0 base) ≡ at 2 1 first_cert [] votes3 (by 1 0 base ∷ by 0 0 base ∷ [])
  s4 = let a = bytes_eq-refl base in let b = bytes_eq-refl order in rw (b, a) refl

  s5 : next (at 2 1 first_cert [] votes3 (by 1 0 base ∷ by 0 0 base ∷ [])) (commit 2 0 0 base) ≡ at 2 1 first_cert (Base [] ∷ []) votes3 commits5
  s5 = let a = bytes_eq-refl base in let b = bytes_eq-refl order in rw (b, a, b) refl

  s6 : next (at 2 1 first_cert (Base [] ∷ []) votes3 commits5) (prepare 1 0 1 order) ≡ at 2 1 first_cert (Base [] ∷ []) (by 1 1 order ∷ votes3) commits5
  s6 = let b = bytes_eq-refl order in rw b refl

  s7 : next (at 2 1 first_cert (Base [] ∷ []) (by 1 1 order ∷ votes3) commits5) (prepare 2 0 1 order) ≡ at 2 2 both_certs (Base [] ∷ []) (by 2 1 order ∷ by 1 1 order ∷ votes3) (by 0 1 order ∷ commits5)
  s7 = let a = bytes_eq-refl base in let b = bytes_eq-refl order in rw (b, b) refl

  s8 : next (at 2 2 both_certs (Base [] ∷ []) (by 2 1 order ∷ by 1 1 order ∷ votes3) (by 0 1 order ∷ commits5)) (commit 1 0 1 order)
      ≡ at 2 2 both_certs (Base [] ∷ []) (by 2 1 order ∷ by 1 1 order ∷ votes3) (by 1 1 order ∷ by 0 1 order ∷ commits5)
  s8 = let b = bytes_eq-refl order in rw b refl

  s9 : next (at 2 2 both_certs (Base [] ∷ []) (by 2 1 order ∷ by 1 1 order ∷ votes3) (by 1 1 order ∷ by 0 1 order ∷ commits5)) (commit 2 0 1 order)
      ≡ at 2 2 both_certs (Base [] ∷ Order m ∷ []) (by 2 1 order ∷ by 1 1 order ∷ votes3) (by 2 1 order ∷ by 1 1 order ∷ by 0 1 order ∷ commits5)
  s9 = let b = bytes_eq-refl order in rw b refl

  abbrev last_3 : List Reading
  last_3 = prepare 2 0 1 order ∷ commit 1 0 1 order ∷ commit 2 0 1 order ∷ []

  abbrev last_6 : List Reading
  last_6 = commit 1 0 0 base ∷ commit 2 0 0 base ∷ prepare 1 0 1 order ∷ prepare 2 0 1 order ∷ commit 1 0 1 order ∷ commit 2 0 1 order ∷ []

  ends : after_all (begun_with 1 0) (voted m) ≡ at 2 2 both_certs (Base [] ∷ Order m ∷ []) (by 2 1 order ∷ by 1 1 order ∷ votes3) (by 2 1 order ∷ by 1 1 order ∷ by 0 1 order ∷ commits5)
  ends =
      ap (λ (p : Pbft). after_all p (prepare 1 0 0 base ∷ prepare 2 0 0 base ∷ last_6)) s1
      ∙ (ap (λ (p : Pbft). after_all p (prepare 2 0 0 base ∷ last_6)) s2
      ∙ (ap (λ (p : Pbft). after_all p last_6) s3
      ∙ (ap (λ (p : Pbft). after_all p (commit 2 0 0 base ∷ prepare 1 0 1 order ∷ last_3)) s4
      ∙ (ap (λ (p : Pbft). after_all p (prepare 1 0 1 order ∷ last_3)) s5
      ∙ (ap (λ (p : Pbft). after_all p last_3) s6
      ∙ (ap (λ (p : Pbft). after_all p (commit 1 0 1 order ∷ commit 2 0 1 order ∷ [])) s7
      ∙ (ap (λ (p : Pbft). after_all p (commit 2 0 1 order ∷ [])) s8
      ∙ s9)))))))

  pub primary_executes : pbft.ordered (after_all (begun_with 1 0) (voted m)) ≡ m ∷ []
  primary_executes = ap (λ (p : Pbft). pbft.ordered p) ends

  pub primary_based : pbft.base (after_all (begun_with 1 0) (voted m)) ≡ Some []
  primary_based = ap (λ (p : Pbft). pbft.base p) ends

  -- the one replica of a cluster in view 1, which it entered from its own VIEW-CHANGE
  abbrev own : Kept Value
  own = record { view = 1; change = record { by = 0; certs = [] } }

  abbrev alone : List (SlotVote (List ℕ)) → List (SlotVote (List ℕ)) → List Request → List (Option (Cert Value)) → List Value → ℕ → Pbft
  alone votes commits requests certs values done = record {
    seat = record { k = 1; f = 0; i = 1; me = 0; base = [] };
    memory = record {
      peer = record {
        core = record { view = 1; changing = false; accepted = values; signed = done; prepared = done; certs = certs; executed = values };
        votes = votes;
        commits = commits;
      };
      changes = own ∷ [];
      requests = requests;
    };
  }

  moves : next (begun_with 0 0) timeout ≡ alone [] [] [] no_cert [] 0
  moves = refl

  abbrev certs : List (Option (Cert Value))
  certs = with_cert 1 (Base [] ∷ Order m ∷ []) (with_cert 1 (Base [] ∷ []) no_cert)

  executes_alone : next (alone [] [] [] no_cert [] 0) (request m) ≡ alone (by 0 1 order ∷ by 0 0 base ∷ []) (by 0 1 order ∷ by 0 0 base ∷ []) (m ∷ []) certs (Base [] ∷ Order m ∷ []) 2
  executes_alone = let a = bytes_eq-refl base in let b = bytes_eq-refl order in rw (a, b, a, b) refl

  pub alone_executes : pbft.ordered (after_all (begun_with 0 0) (late m)) ≡ m ∷ []
  alone_executes = ap (λ (p : Pbft). pbft.ordered (next p (request m))) moves ∙ ap (λ (p : Pbft). pbft.ordered p) executes_alone
