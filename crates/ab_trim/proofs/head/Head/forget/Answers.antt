use Rattle.std.proofs.Common.{◌≡◌, length, take, drop, ap, sym, ◌∙◌, arith}
use Rattle.std.proofs.lemmas.List.{length-drop}
use Rattle.ab_hist.specs.Chunks.{digest_from}
use Rattle.ab_trim.specs.Chained.{shown}
use Rattle.ab_trim.proofs.HeadLemmas.{digest_behind}
use Rattle.ab_trim.proofs.head.Head.forget.Goals as goal

pub invariant_of-self : goal.invariant_of-self
invariant_of-self c part is =
    let d = c.self.inside.digest in
    let hidden = c.self.inside.hidden in
    let was = c.self.invariant part is in
    let shows : drop hidden part.requests ≡ c.args.self.now.requests = ap (λ o. shown o hidden) (sym is) ∙ ap (λ k. k.requests) c.self.view_is in
    let starts : d ≡ c.args.self.now.start = ap (λ k. k.start) c.self.view_is in
    record {
      history = was.history;
      small = was.small;
      within = omega (arith, was.within, length-drop hidden part.requests, ap length shows, c.requires);
      digest = c.digest_at-self-inside.ensures ∙ (λ i. digest_from (sym starts i) (take c.args.n (sym shows i))) ∙ sym (digest_behind d part hidden c.args.n was.digest);
    }
