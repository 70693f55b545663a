-- A list that is made of its entries, one after the other.
use Rattle.std.proofs.Common.{◌≡◌, ◌∙◌, ℕ, suc, ◌+◌, ◌-◌, ◌<◌, ltb, true, Some, List, [], ◌∷◌, ◌++◌, length, drop, get_or, slice_get, sym, ap, subst, arith, append-nil, append_assoc}
use Rattle.std.specs.List.{list_all}
use Rattle.std.proofs.lemmas.Bool.{lt-ltb}
use Rattle.std.proofs.lemmas.List.{length-append, get_or-append-add}
use Rattle.ab_hist.specs.declared.request.Request.{Request}
use Rattle.ab_hist.specs.Histories.{may_follow}
use Rattle.ab_msg.specs.Fields.{IsRequest, IsSpellable}
use Rattle.ab_content.proofs.OwnLemmas.{may-follow}
use Rattle.ab_hist.specs.Trimmed.{Trimmed, end_of}
use Rattle.ab_trim.specs.Known.{can_push_by, follows_last}
use Rattle.ab_trim.specs.Logs.{TrimmedLog, as_last, last_at, log_of, no_lasts, push_log}
use Rattle.ab_trim.proofs.ChunkLemmas.{drop_here}
use Rattle.ab_trim.proofs.RestLemmas.{all_follow-Decides}
use Rattle.ab_trim.proofs.LastLemmas.{none_at}

-- a list with no last requests, as far as t goes
pub record IsFrontOf (own : TrimmedLog) (t : Trimmed) (more : List Request) : Type 0 where
  pub start : own.list.start ≡ t.start
  pub digest : own.list.digest ≡ t.digest
  pub rest : own.list.rest ++ more ≡ t.rest
  pub lasts : own.lasts ≡ no_lasts

module _ (own : TrimmedLog) (t : Trimmed) (m : Request) (more : List Request) (is : IsFrontOf own t (m ∷ more)) (fits : IsSpellable t) where
  pub next_client : m.client < 16
  next_client =
      let long = ap length is.rest in
      let at = length-append own.list.rest (m ∷ more) in
      let here : m ≡ get_or t.rest (length own.list.rest + 0) m = sym (get_or-append-add own.list.rest (m ∷ more) 0 m) ∙ ap (λ (xs : List Request). get_or xs (length own.list.rest + 0) m) is.rest in
      let one : IsRequest 0 15 (get_or t.rest (length own.list.rest + 0) m) = fits.rest.1.0 (length own.list.rest + 0) m (omega (arith, long, at)) in
      omega (arith, ap (λ (e : Request). e.client) here, one.0.1)

  pub next_may : can_push_by (log_of own) m ≡ true
  next_may =
      let may = may-follow own.list.rest more t.rest m is.rest fits.rest in
      let long = ap length is.rest in
      let at = length-append own.list.rest (m ∷ more) in
      let room : ltb (length own.list.rest) 1024 ≡ true = lt-ltb (length own.list.rest) 1024 may.0 in
      let few : ltb (end_of own.list) 65535 ≡ true = lt-ltb (end_of own.list) 65535 (omega (arith, is.start, long, at, fits.few)) in
      let later : list_all (may_follow m) own.list.rest ≡ true = (all_follow-Decides m own.list.rest).1 may.1 in
      let last : follows_last (last_at own.lasts m.client) m ≡ true = ap (λ l. follows_last (last_at l m.client) m) is.lasts ∙ ap (λ o. follows_last (as_last o) m) (none_at 16 m.client) in
      rw (room, few, later) last

-- the next of its entries
pub next_own : (own : TrimmedLog) (t : Trimmed) (n : ℕ) (m : Request) → IsFrontOf own t (drop n t.rest) → slice_get t.rest (n + 1 - 1) ≡ Some m → IsFrontOf own t (m ∷ drop (n + 1) t.rest)
next_own own t n m is at =
    let here : slice_get t.rest n ≡ Some m = ap (slice_get t.rest) (let e : n ≡ n + 1 - 1 = omega arith in e) ∙ at in
    subst (IsFrontOf own t) (drop_here t.rest n m here ∙ ap (λ k. m ∷ drop k t.rest) (let e : suc n ≡ n + 1 = omega arith in e)) is

pub one_more : (own new : TrimmedLog) (t : Trimmed) (m : Request) (more : List Request) → IsFrontOf own t (m ∷ more) → new ≡ push_log own m → IsFrontOf new t more
one_more own new t m more is pushed = record {
  start = ap (λ (l : TrimmedLog). l.list.start) pushed ∙ is.start;
  digest = ap (λ (l : TrimmedLog). l.list.digest) pushed ∙ is.digest;
  rest = ap (λ (l : TrimmedLog). l.list.rest ++ more) pushed ∙ append_assoc own.list.rest (m ∷ []) more ∙ is.rest;
  lasts = ap (λ (l : TrimmedLog). l.lasts) pushed ∙ is.lasts;
}

pub owned : (own : TrimmedLog) (t : Trimmed) → IsFrontOf own t [] → own ≡ record { list = t; lasts = no_lasts }
owned own t is =
    let rest = sym (append-nil own.list.rest) ∙ is.rest in
    λ i. record { list = record { start = is.start i; digest = is.digest i; rest = rest i }; lasts = is.lasts i }
