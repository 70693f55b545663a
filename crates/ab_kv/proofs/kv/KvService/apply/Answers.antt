use Rattle.std.proofs.Common.{◌≡◌, ℕ, List, None, Some, Result, Ok, Err, OnErr, ap, sym, ◌∙◌}
use Rattle.std.specs.FinMap.{get}
use Rattle.ab_hist.specs.declared.request.Request.{Request}
use Rattle.ab_kv.specs.Commands.{Put}
use Rattle.ab_kv.specs.Readings.{command_in}
use Rattle.ab_kv.specs.Stores.{Store}
use Rattle.ab_kv.specs.Rows.{PutsNewKey}
use Rattle.ab_kv.specs.Views.{view}
use Rattle.ab_kv.proofs.ReadingLaws.{read_is_spelled}
use Rattle.ab_kv.proofs.kv.KvService.apply.Goals as goal

-- what is refused to a `put` is refused to the request that spells it
refused : {A E : Type 0} (r : Result A E) (s : Store) (m : Request) (k v : List ℕ) → OnErr r (get s k ≡ None) → command_in m.command.items ≡ Some (Put k v) → OnErr r (PutsNewKey s m)
refused (Ok reply) s m k v new read = tt
refused (Err fault) s m k v new read = record { key = k; value = v; put = read_is_spelled m.command.items (Put k v) read; new = new }

pub returns-in-Some-Put-clause-new : goal.returns-in-Some-Put-clause-new
returns-in-Some-Put-clause-new c =
    refused c.put.result c.args.self.now c.args.m.now c.in-Some-Put.key.now c.in-Some-Put.value.now c.put.ensures.new
    (ap command_in (sym c.as_slice.ensures.value) ∙ sym c.in-Some-Put.ensures.read ∙ ap (λ asked. Some (view asked)) c.in-Some-Put.field-0-is)
