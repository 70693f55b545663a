-- What stays of a trimmed list's keeping, as it changes.
use Rattle.std.proofs.Common.{◌≡◌, ℕ, ◌+◌, ◌-◌, ◌<◌, ◌≤◌, Bool, true, false, Option, Ok, Err, OnOk, OnErr, IsTrue, ◌↔◌, List, [], ◌∷◌, length, take, arith, sym, ◌∙◌, ap, subst, inl, inr, length-append}
use Rattle.std.specs.Prelude.{All, Result}
use Rattle.std.proofs.lemmas.Bool.{cases_lt}
use Rattle.std.proofs.lemmas.List.{length-take, length-drop}
use Rattle.std.proofs.lemmas.List.Elements.{All-drop, All-push, All-take}
use Rattle.std.proofs.lemmas.List.Quantifiers.{all_pairs_push}
use Rattle.ab_hist.proofs.KeptLemmas.{history-take}
use Rattle.ab_hist.specs.declared.request.Request.{Request}
use Rattle.ab_hist.specs.Histories.{IsNext, Precedes}
use Rattle.ab_hist.specs.Chunks.{Chunk, grown, front}
use Rattle.ab_hist.specs.Trimmed.{Trimmed, end_of}
use Rattle.ab_trim.specs.Known.{forget_log}
use Rattle.ab_trim.specs.Chained.{behind}
use Rattle.ab_trim.specs.Logs.{TrimmedLog, IsTrimmed, IsFull, log_of, noted, padded, trim_log}
use Rattle.ab_trim.proofs.ChunkLemmas.{history_drop}
use Rattle.ab_trim.proofs.LastLemmas.{length-noted, padded-noted, padded-length, last_noted}

pub not_full : (t : Trimmed) (b : Bool) → (IsTrue b ↔ IsFull t) → b ≡ false → (length t.rest < 1024) × (end_of t < 65535)
not_full t b says is = (below (length t.rest) 1024 (λ le. full (inl le)), below (end_of t) 65535 (λ le. full (inr le)))
  where
    full : IsFull t → ⊥
    full f = let both : true ≡ false = sym (says.1 f) ∙ is in cc (both)

    below : (n k : ℕ) → (k ≤ n → ⊥) → n < k
    below n k other = elim (cases_lt n k) [ inl lt ↦ lt | inr le ↦ absurd (other le) ]

module _ (n : ℕ) (rest : Chunk) (lasts : List (Option (ℕ × Request))) (is : IsTrimmed n rest lasts) where
  pub pushed_trimmed : {T E : Type 0} (k : Chunk) (m : Request) (r : Result T E) → 0 < length lasts → length rest.requests < 1024 → n + length rest.requests < 65535 → IsNext rest.requests m → m.client < 16
      → OnOk r (k ≡ grown rest m) → OnErr r (k ≡ rest) → IsTrimmed n k lasts
  pushed_trimmed k m (Ok x) some room less next client ok err =
      subst (λ c. IsTrimmed n c lasts) (sym ok) (record {
        history = all_pairs_push Precedes rest.requests m is.history next;
        few = omega (arith, room, length-append rest.requests (m ∷ []));
        within = omega (arith, less, length-append rest.requests (m ∷ []));
        clients = All-push (λ e. e.client < 16) rest.requests m is.clients client;
        room = λ _. is.each some;
        each = is.each;
      })
  pushed_trimmed k m (Err e) some room less next client ok err = subst (λ c. IsTrimmed n c lasts) (sym err) is

  pub cut_trimmed : (j : ℕ) (k : Chunk) (more : List (Option (ℕ × Request))) → k ≡ front j rest → length more ≡ 16 → IsTrimmed n k more
  cut_trimmed j k more k_is long =
      subst (λ c. IsTrimmed n c more) (sym k_is) (record {
        history = history-take rest.requests j is.history;
        few = omega (arith, is.few, length-take j rest.requests);
        within = omega (arith, is.within, length-take j rest.requests);
        clients = All-take (λ e. e.client < 16) j rest.requests is.clients;
        room = λ _. long;
        each = λ _. long;
      })

  module _ (j : ℕ) (first : n ≤ j) (last : j ≤ n + length rest.requests) where
    pub forgot_trimmed : (k : Chunk) (more : List (Option (ℕ × Request))) → k ≡ behind (j - n) rest → more ≡ noted n (take (j - n) rest.requests) lasts → IsTrimmed j k more
    forgot_trimmed k more k_is more_is =
        let long : length more ≡ length lasts = ap length more_is ∙ length-noted n (take (j - n) rest.requests) lasts in
        subst (λ c. IsTrimmed j c more) (sym k_is) (record {
          history = history_drop (j - n) rest.requests is.history;
          few = omega (arith, is.few, length-drop (j - n) rest.requests);
          within = omega (arith, is.within, length-drop (j - n) rest.requests, first, last);
          clients = All-drop (λ e. e.client < 16) (j - n) rest.requests is.clients;
          room = λ some. long ∙ is.room (omega (arith, some, length-drop (j - n) rest.requests));
          each = λ some. long ∙ is.each (omega (arith, some, long));
        })

    pub forgot_lasts : (more : List (Option (ℕ × Request))) → more ≡ noted n (take (j - n) rest.requests) lasts → padded more ≡ noted n (take (j - n) rest.requests) (padded lasts)
    forgot_lasts more more_is =
        ap padded more_is ∙ padded-noted n (take (j - n) rest.requests) lasts (λ some. is.room (omega (arith, some, length-take (j - n) rest.requests)))

    pub with_trimmed : (k : Chunk) (more : List (Option (ℕ × Request))) → k ≡ behind (j - n) rest → length more ≡ 16 → IsTrimmed j k more
    with_trimmed k more k_is long =
        subst (λ c. IsTrimmed j c more) (sym k_is) (record {
          history = history_drop (j - n) rest.requests is.history;
          few = omega (arith, is.few, length-drop (j - n) rest.requests);
          within = omega (arith, is.within, length-drop (j - n) rest.requests, first, last);
          clients = All-drop (λ e. e.client < 16) (j - n) rest.requests is.clients;
          room = λ _. long;
          each = λ _. long;
        })

    abbrev kept : TrimmedLog
    kept = record { list = record { start = n; digest = rest.start; rest = rest.requests }; lasts = padded lasts }

    -- the log without its first j entries, as laws speak of it
    pub forgot_log : log_of (trim_log j kept) ≡ forget_log j (log_of kept)
    forgot_log i =
        let few : All (λ m. m.client < length (padded lasts)) (take (j - n) rest.requests) =
        subst (λ k. All (λ m. m.client < k) (take (j - n) rest.requests)) (sym (padded-length lasts is.each)) (All-take (λ m. m.client < 16) (j - n) rest.requests is.clients)
        in
        record {
          list = (trim_log j kept).list;
          last = λ c. last_noted c n (take (j - n) rest.requests) (padded lasts) few i;
        }
