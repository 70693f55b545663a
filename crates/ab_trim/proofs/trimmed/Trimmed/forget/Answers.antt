use Rattle.std.proofs.Common.{◌+◌, ◌≤◌, length, arith, ap, sym, ◌∙◌}
use Rattle.ab_hist.specs.Trimmed.{end_of}
use Rattle.ab_trim.specs.Known.{forget_log}
use Rattle.ab_trim.specs.Logs.{log_of, trim_log}
use Rattle.ab_trim.proofs.TrimmedLemmas.{forgot_trimmed, forgot_lasts, forgot_log}
use Rattle.ab_trim.proofs.trimmed.Trimmed.forget.Goals as goal

pub invariant_of-self : goal.invariant_of-self
invariant_of-self c =
    let s = c.self.inside in
    let first : s.start ≤ c.args.n = omega (arith, c.requires.0, ap (λ k. k.list.start) c.self.view_is) in
    let last : c.args.n ≤ s.start + length s.rest.requests = omega (arith, c.requires.1, ap (λ k. end_of k.list) c.self.view_is) in
    forgot_trimmed s.start s.rest s.lasts.items c.self.invariant c.args.n first last c.forget.new.self c.note_all.new.lasts.items c.forget.ensures c.note_all.ensures

pub returns-clause-value : goal.returns-clause-value
returns-clause-value c =
    let s = c.self.inside in
    let first : s.start ≤ c.args.n = omega (arith, c.requires.0, ap (λ k. k.list.start) c.self.view_is) in
    let last : c.args.n ≤ s.start + length s.rest.requests = omega (arith, c.requires.1, ap (λ k. end_of k.list) c.self.view_is) in
    (λ i. record {
      list = record { start = c.args.n; digest = (c.forget.ensures i).start; rest = (c.forget.ensures i).requests };
      lasts = forgot_lasts s.start s.rest s.lasts.items c.self.invariant c.args.n first last c.note_all.new.lasts.items c.note_all.ensures i;
    })
    ∙ ap (trim_log c.args.n) c.self.view_is

pub returns-clause-log : goal.returns-clause-log
returns-clause-log c =
    let s = c.self.inside in
    let first : s.start ≤ c.args.n = omega (arith, c.requires.0, ap (λ k. k.list.start) c.self.view_is) in
    let last : c.args.n ≤ s.start + length s.rest.requests = omega (arith, c.requires.1, ap (λ k. end_of k.list) c.self.view_is) in
    ap log_of (returns-clause-value c) ∙ sym (ap (λ k. log_of (trim_log c.args.n k)) c.self.view_is)
    ∙ forgot_log s.start s.rest s.lasts.items c.self.invariant c.args.n first last ∙ ap (λ k. forget_log c.args.n (log_of k)) c.self.view_is
