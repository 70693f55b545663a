use Rattle.std.proofs.Common.{◌≡◌, ◌+◌, drop, take}
use Rattle.std.specs.Prelude.{count_by}
use Rattle.ab_audit.specs.Audits.{told_all, told_from}
use Rattle.ab_audit.specs.Tellings.{is_bad}
use Rattle.ab_audit.proofs.telling.add_all.Given as goal

abbrev pub invariant-messages : goal.invariant-messages
invariant-messages l = record {
  told : told_from l.audit (l.index + 1) (drop l.index l.messages) ≡ told_all l.initial.audit l.messages;
  bad : l.bad ≡ count_by is_bad (take l.index l.messages);
}
