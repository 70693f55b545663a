use Rattle.std.proofs.Common.{◌≡◌}
use Rattle.std.specs.List.{list_all}
use Rattle.ab_keys.specs.Keys.{is_party}
use Rattle.ab_form.specs.Readers.{listed}
use Rattle.ab_content.specs.Parts.{signer_at}
use Rattle.ab_open.specs.Named.{answers_name}
use Rattle.ab_open.proofs.naming.has_answers.Given as goal

abbrev pub invariant-by : goal.invariant-by
invariant-by l =
    (goal.iterator-by).can_next l.s-iterator × (goal.iterator-by).is_finite l.s-iterator
    × (list_all (is_party l.k.f l.k.clients) (answers_name l.client (listed signer_at l.s-iterator.count l.s-iterator.bytes.now))
    ≡ list_all (is_party l.k.f l.k.clients) (answers_name l.client (listed signer_at l.fn.by.count l.fn.by.bytes.now)))
