use Rattle.std.proofs.Common.{ap, sym, ◌∙◌, cond, is_some, ◌+◌, ◌≡◌, false}
use Rattle.std.specs.FinMap.{get, insert}
use Rattle.std.specs.Option.{option_map}
use Rattle.std.specs.BTreeMap.{btree_map_len}
use Rattle.ab_num.proofs.Results.{on_err}
use Rattle.ab_kv.specs.Stores.{is_full}
use Rattle.ab_kv.specs.Contents.{store_of}
use Rattle.ab_kv.proofs.StoreLemmas.{get_shown, bytes_of, store-insert, few-insert}
use Rattle.ab_kv.proofs.kv.Kv.insert.Goals as goal

pub returns-in_err-insert-clause-new : goal.returns-in_err-insert-clause-new
returns-in_err-insert-clause-new c =
    on_err c.from_residual.result
    (sym (λ j. get (c.self.view_is j) (c.array_of.ensures j))
    ∙ get_shown c.self.inside.values c.array_of.result
    ∙ ap (option_map bytes_of) c.in_err-insert.ensures.absent)

pub invariant_of-self-2 : goal.invariant_of-self-2
invariant_of-self-2 c =
    let room : is_full (store_of c.self.inside.values) c.array_of.result.items ≡ false =
    (λ j. is_full (c.self.view_is j) (c.array_of.ensures j)) ∙ c.requires.room in
    record {
      ordered = c.in_ok-insert.ensures.ordered;
      few = few-insert c.self.inside.values c.insert.new.self c.array_of.result c.self.invariant room
          (c.in_ok-insert.ensures.len ∙ ap (λ o. btree_map_len c.self.inside.values + cond (is_some o) 0 1) c.in_ok-insert.ensures.old);
    }

pub returns-clause-ok : goal.returns-clause-ok
returns-clause-ok c =
    store-insert c.self.inside.values c.insert.new.self c.array_of.result c.array_of-2.result c.in_ok-insert.ensures.updates
    ∙ (λ j. insert (c.self.view_is j) (c.array_of.ensures j) (c.array_of-2.ensures j))
