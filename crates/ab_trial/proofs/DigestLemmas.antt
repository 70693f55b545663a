-- Digests along a log.
use Rattle.std.proofs.Common.{◌≡◌, ℕ, List, [], ◌∷◌, ◌++◌, length, take, sym, ap, ◌∙◌, arith}
use Rattle.std.specs.Prelude.{replicate}
use Rattle.std.proofs.lemmas.List.Sums.{fold_push}
use Rattle.std.proofs.lemmas.List.{take_all}
use Rattle.ab_mac.specs.Digests.{linked}
use Rattle.ab_hist.specs.declared.request.Request.{Request}
use Rattle.ab_hist.specs.Requests.{request_bytes}
use Rattle.ab_hist.specs.Digests.{link, digest_of}

next_is : (log : List Request) (m : Request) → digest_of (log ++ m ∷ []) ≡ linked (digest_of log) (request_bytes m)
unfolding digest_of link
next_is log m = fold_push link (replicate 32 0) log m

-- the digest of a log with one more request, by the digest of its first n, which are all
pub digest_next : (log : List Request) (m : Request) (n : ℕ) (linked_to before bytes : List ℕ) → n ≡ length log → before ≡ digest_of (take n log) → bytes ≡ request_bytes m → linked_to ≡ linked before bytes → linked_to ≡ digest_of (log ++ m ∷ [])
digest_next log m n linked_to before bytes long is spelled made =
    let all : take n log ≡ log = take_all n log (omega (arith, long)) in
    made ∙ (ap (λ d. linked d bytes) (is ∙ ap digest_of all) ∙ (ap (λ t. linked (digest_of log) t) spelled ∙ sym (next_is log m)))
