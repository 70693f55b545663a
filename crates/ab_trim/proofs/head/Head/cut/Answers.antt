use Rattle.std.proofs.Common.{◌≡◌, ℕ, zero, suc, List, [], take, drop, ap, sym, ◌∙◌, refl}
use Rattle.std.proofs.lemmas.List.{drop-take}
use Rattle.ab_hist.specs.declared.request.Request.{Request}
use Rattle.ab_hist.specs.Chunks.{front}
use Rattle.ab_trim.specs.Chained.{shown}
use Rattle.ab_trim.specs.contracts.head.Head.{the_view}
use Rattle.ab_trim.proofs.head.Head.cut.Goals.{in-Some, in_default}
use Rattle.ab_trim.proofs.head.Head.cut.Goals as goal

pub returns : goal.returns
returns c =
    let hidden = c.self.inside.hidden in
    let d = c.self.inside.digest in
    let n = c.args.n in
    let whole : front n (the_view c.self.inside) ≡ front n c.args.self.now = ap (front n) c.self.view_is in
    elim c.match-self.branch [
      | in-Some w ↦
          let part = w.in-Some.part in
          ap the_view w.self-inside-is
          ∙ (λ i. record { start = d; requests = (ap (λ k. drop hidden k.requests) w.cut.ensures ∙ drop-take hidden n part.requests ∙ ap (λ o. take n (shown o hidden)) (sym w.in-Some.is)) i })
          ∙ whole
      | in_default w ↦
          ap the_view w.self-inside-is
          ∙ (λ i. record { start = d; requests = (ap (λ o. shown o hidden) w.in_default.is ∙ none n ∙ ap (λ o. take n (shown o hidden)) (sym w.in_default.is)) i })
          ∙ whole
    ]
  where
    none : (k : ℕ) → ◌≡◌ {A = List Request} [] (take k [])
    none zero = refl
    none (suc k) = refl
