use Rattle.std.proofs.Common.{◌≡◌, ℕ, List, IfSome, Vec, sym, subst, arith}
use Rattle.std.specs.declared.alloc.Global.{Global}
use Rattle.ab_journal.specs.Entries.{bodies_of}
use Rattle.ab_journal.specs.Journals.{IsReady, texts_of}
use Rattle.ab_journal.proofs.KeepLemmas.{keeps_both, keeps_start}
use Rattle.ab_journal.proofs.ListLemmas.{ListedSoFar, list_ends, list_starts, list_step, pushed}
use Rattle.ab_journal.proofs.journal.Journal.bodies.Goals as goal

pub entries-init : goal.entries-init
entries-init g c = record {
  within = omega arith;
  listed = subst (ListedSoFar (g.D.Disk.model.seen c.args.disk.now) c.self.inside.end 0) (sym c.new-bodies.ensures.items) (list_starts _ c.self.inside.end);
  keeps = keeps_start g.D.Disk.model g.met.D.Disk.only_now c.args.disk.now;
  later = omega arith;
}

pub entries-preserved : goal.entries-preserved
entries-preserved g c =
    let so_far = c.entries.invariant in
    let entry = rw c.in-Ok-Some.field-0-is at c.in-Ok-Some.ensures.entry in
    let within = rw c.in-Ok-Some.field-0-is at c.in-Ok-Some.ensures.within in
    record {
      within = omega (arith, within, c.self.view_is);
      listed =
          subst (ListedSoFar (g.D.Disk.model.seen c.args.disk.now) c.self.inside.end c.in-Ok-Some.next) (sym (pushed {X = List (Vec ℕ Global)} c.push.result _ _ _ (sym c.if-is_err.ensures.value) c.push.ensures.items))
          (list_step _ _ c.self.inside.end c.entries.at c.in-Ok-Some.next _ _ so_far.keeps.seen so_far.listed entry within.0);
      keeps = keeps_both g.D.Disk.model c.args.disk.now c.entries.disk c.read.new.disk so_far.keeps c.in-Ok-Some.ensures.keeps;
      later = omega (arith, so_far.later, c.in-Ok-Some.ensures.cause.later);
    }

pub returns-clause-all : goal.returns-clause-all
returns-clause-all g c = subst (λ (end : ℕ). IfSome (g.D.Disk.model.seen c.args.disk.now) (λ bytes. IsReady bytes end → texts_of c.entries.bodies.items ≡ bodies_of bytes)) c.self.view_is (list_ends _ c.self.inside.end c.entries.at _ c.entries.invariant.listed (omega (arith, c.entries.invariant.within, c.entries-test.false)))
