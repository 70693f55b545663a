use Rattle.ab_form.specs.Readers.{listed}
use Rattle.ab_content.specs.Parts.{signer_at}
use Rattle.ab_content.specs.Rows.{entry_at}
use Rattle.ab_wire.specs.Changes.{prepares_at}
use Rattle.ab_check.proofs.ListLemmas.{prepared-none}
use Rattle.ab_check.proofs.prepared.to_next_slot.Goals as goal

pub returns-in-None-next-clause-next : goal.returns-in-None-next-clause-next
returns-in-None-next-clause-next c = (
  prepared-none c.args.p.now.instance c.args.p.now.next c.args.p.now.view c.args.p.now.slot c.args.p.now.x.now (listed signer_at c.args.p.now.by.count c.args.p.now.by.bytes.now) (listed entry_at c.args.p.now.entries.count c.args.p.now.entries.bytes.now)
      (listed prepares_at c.args.p.now.prepares.count c.args.p.now.prepares.bytes.now) c.requires.none c.in-None-next.ensures.steps.0.0,
  prepared-none c.args.p.now.instance c.args.p.now.next c.args.p.now.view c.args.p.now.slot c.args.p.now.x.now (listed signer_at c.args.p.now.by.count c.args.p.now.by.bytes.now) (listed entry_at c.next.new.self.count c.next.new.self.bytes.now)
      (listed prepares_at c.next-in-Some.new.self.count c.next-in-Some.new.self.bytes.now) c.requires.none c.in-None-next.ensures.steps.0.1,
)
