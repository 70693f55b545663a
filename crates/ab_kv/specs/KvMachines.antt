-- The store as a service.
use Rattle.std.specs.FinMap.{empty}
use Rattle.ab_svc.specs.Machines.{Machine}
use Rattle.ab_kv.specs.declared.kv.Kv.{Kv}
use Rattle.ab_kv.specs.Readings.{command_in}
use Rattle.ab_kv.specs.Stores.{after_reading, answer_to_reading}

abbrev pub kv_machine : Machine Kv
kv_machine = record {
  begin = empty;
  after = λ s m. after_reading s (command_in m.command.items);
  answer = λ s m. record { items = answer_to_reading s (command_in m.command.items) };
}
