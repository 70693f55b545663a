-- The commit among what is seen.
use Rattle.std.proofs.Common.{◌≡◌, ℕ, suc, ◌+◌, ◌<◌, Bool, true, false, List, [], ◌∷◌, Option, None, Some, inl, inr, length, drop, get_or, refl, subst, ap, sym, ◌∙◌, add-one, arith, drop-cons}
use Rattle.std.specs.Prelude.{Contains, ◌==◌, if◌then◌else◌}
use Rattle.std.proofs.lemmas.List.Elements.{Contains-append_cases}
use Rattle.std.proofs.lemmas.Option.{none-some, same_Some}
use Rattle.ab_hist.specs.declared.request.Request.{Request}
use Rattle.ab_hist.specs.Trimmed.{Trimmed}
use Rattle.ab_num.specs.declared.party.Party.{Party}
use Rattle.ab_num.specs.declared.party.Party.TheVariants.{Client}
use Rattle.ab_num.proofs.Lists.{Contains-head, Contains-tail, Contains-cons_cases}
use Rattle.ab_abs.specs.declared.seen.Seen.{Seen}
use Rattle.ab_abs.specs.declared.seen.Seen.TheVariants.{Invoked, Cert, TrimmedCert, Committed}
use Rattle.ab_abs.specs.Observations.{cert_seen}
use Rattle.ab_run.specs.Clients.{Cli, CliAction, move_ask, move_vote, move_commit, move_keep, move_take, move_panic, move_again, move_spec, move_cert, move_told, after_move, shown_in_move}
use Rattle.ab_run.specs.Local.{shown_in_moves}
use Rattle.ab_loop.specs.declared.party_core.Commit.{Commit}
use Rattle.ab_node.specs.Clients.{commit_in, commit_of, first_of}

-- it is at this place or behind it
pub commit_here : (seen : List Seen) (i : ℕ) (s : Seen) → i < length seen → s ≡ get_or seen i s → commit_in (drop i seen) ≡ first_of (commit_of s) (commit_in (drop (i + 1) seen))
commit_here seen i s lt is =
    ap commit_in (drop-cons seen i s lt)
    ∙ ap (λ (x : Seen). first_of (commit_of x) (commit_in (drop (suc i) seen))) (sym is)
    ∙ ap (λ n. first_of (commit_of s) (commit_in (drop n seen))) (sym (add-one i))

-- it is that of something seen
pub commit_among : (seen : List Seen) (commit : Commit) → commit_in seen ≡ Some commit → (s : Seen) × Contains seen s × (commit_of s ≡ Some commit)
commit_among [] commit is = absurd (none-some commit is)
commit_among (s ∷ seen) commit is = go (λ later. commit_among seen commit later) (commit_of s) refl is where
  go : (commit_in seen ≡ Some commit → (x : Seen) × Contains seen x × (commit_of x ≡ Some commit))
      → (o : Option Commit) → commit_of s ≡ o → first_of o (commit_in seen) ≡ Some commit → (x : Seen) × Contains (s ∷ seen) x × (commit_of x ≡ Some commit)
  go rest None none later = let found = rest later in (found.0, Contains-tail s found.0 seen found.1, found.2)
  go rest (Some c) some first = (s, Contains-head s seen, some ∙ first)

-- ---- what a client's move shows is its own

-- the commit of client c that was seen
pub record IsOwnCommit (c : ℕ) (s : Seen) (commit : Commit) : Type 0 where
  pub request : Request
  pub digest : List ℕ
  pub is : s ≡ Committed commit.instance c request commit.n digest commit.reply
  pub stamp : request.stamp ≡ commit.stamp

own_seen : (c : ℕ) (seen s : Seen) (commit : Commit) → seen ≡ s → commit_of s ≡ Some commit → (commit_of seen ≡ Some commit → IsOwnCommit c seen commit) → IsOwnCommit c s commit
own_seen c seen s commit same is own = subst (λ x. IsOwnCommit c x commit) same (own (ap commit_of same ∙ is))

one_own : (c : ℕ) (seen s : Seen) (commit : Commit) → Contains (seen ∷ []) s → commit_of s ≡ Some commit → (commit_of seen ≡ Some commit → IsOwnCommit c seen commit) → IsOwnCommit c s commit
one_own c seen s commit has is own = elim (Contains-cons_cases seen [] s has) [
  | inl same ↦ own_seen c seen s commit same is own
  | inr gone ↦ absurd (omega (arith, gone.1))
]

-- a certificate that it takes is none, whatever its list has forgotten
no_commit : (j : ℕ) (p : Party) (t : Trimmed) (b : Bool) → commit_of (if b then Cert j p t.rest else TrimmedCert j p t.start t.digest t.rest) ≡ None
no_commit j p t true = refl
no_commit j p t false = refl

own_move : (c : ℕ) (at : Cli) (t : CliAction) (s : Seen) (commit : Commit) → Contains (shown_in_move c at t) s → commit_of s ≡ Some commit → IsOwnCommit c s commit
own_move c at (move_ask m) s commit has is = one_own c (Invoked at.at c m) s commit has is (λ none. absurd (none-some commit none))
own_move c at (move_vote b) s commit gone is = absurd (omega (arith, gone.1))
own_move c at (move_commit m n d reply claims) s commit has is =
    one_own c (Committed at.at c m n d reply) s commit has is (λ some.
    let made : Commit = record { stamp = m.stamp; instance = at.at; n = n; reply = reply } in
    subst (λ (x : Commit). IsOwnCommit c (Committed at.at c m n d reply) x) (same_Some made commit some) (record { request = m; digest = d; is = refl; stamp = refl }))
own_move c at (move_keep v) s commit gone is = absurd (omega (arith, gone.1))
own_move c at (move_take j cert t m) s commit has is = elim (Contains-cons_cases (Invoked (j + 1) c m) (cert_seen j (Client c) t ∷ []) s has) [
  | inl same ↦ own_seen c (Invoked (j + 1) c m) s commit same is (λ none. absurd (none-some commit none))
  | inr more ↦ one_own c (cert_seen j (Client c) t) s commit more is (λ some. absurd (none-some commit (sym (no_commit j (Client c) t (t.start == 0)) ∙ some)))
]
own_move c at move_panic s commit gone is = absurd (omega (arith, gone.1))
own_move c at (move_again m) s commit gone is = absurd (omega (arith, gone.1))
own_move c at (move_spec b sig) s commit gone is = absurd (omega (arith, gone.1))
own_move c at (move_cert z) s commit gone is = absurd (omega (arith, gone.1))
own_move c at (move_told r) s commit gone is = absurd (omega (arith, gone.1))

pub own_commit : (c : ℕ) (ts : List CliAction) (at : Cli) (s : Seen) (commit : Commit) → Contains (shown_in_moves c at ts) s → commit_of s ≡ Some commit → IsOwnCommit c s commit
own_commit c [] at s commit gone is = absurd (omega (arith, gone.1))
own_commit c (t ∷ ts) at s commit has is = elim (Contains-append_cases (shown_in_moves c (after_move at t) ts) (shown_in_move c at t) s has) [
  | inl later ↦ own_commit c ts (after_move at t) s commit later is
  | inr here ↦ own_move c at t s commit here is
]
