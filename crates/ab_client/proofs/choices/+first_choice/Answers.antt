use Rattle.std.proofs.Common.{◌≡◌, ◌++◌, ◌∷◌, [], ◌-◌, ◌<◌, All, Bor, List, Option, None, length, vec_len, arith, true, false, rules, sym, ap, ◌∙◌, subst}
use Rattle.std.specs.Prelude.{IfOk}
use Rattle.ab_hist.specs.Trimmed.{Trimmed}
use Rattle.ab_msg.specs.declared.signed.Signed.{Signed}
use Rattle.ab_msg.specs.Contents.{IsStopContent}
use Rattle.ab_msg.specs.Certs.{IsSigned}
use Rattle.ab_client.specs.Choices.{or_else, first_choice}
use Rattle.ab_client.proofs.RefLemmas.{seen, others, shorter, others_formed, more_formed, step_is, popped_is, or_else-some, is_none}
use Rattle.ab_client.proofs.choices.+first_choice.Goals as goal

pub first_choice-requires : goal.first_choice-requires
first_choice-requires t c =
    let rest = c.args.rest.now in
    let some : 0 < length rest = search rules in
    let x = c.index-rest-0.result in
    let first = c.index-rest-0.is in (
      omega (arith, c.decreases, shorter rest x some first),
      (
        c.requires.instance,
        (
          subst (λ (l : List (Bor Signed)). All (IsSigned IsStopContent) (seen l)) (sym c.in_ok-push.ensures.items)
              (more_formed rest x some first (IsSigned IsStopContent) c.requires.formed c.args.chosen.now.items c.requires.chosen),
          others_formed rest x some first (IsSigned IsStopContent) c.requires.formed,
        ),
      ),
    )

pub first_choice-requires-2 : goal.first_choice-requires-2
first_choice-requires-2 t c =
    let rest = c.args.rest.now in
    let some : 0 < length rest = search rules in
    let x = c.index-rest-0.result in
    let first = c.index-rest-0.is in
    let long : vec_len c.first_choice.new.chosen ≡ length c.first_choice.new.chosen.items = search rules in
    let popped : c.pop.new.self.items ≡ c.args.chosen.now.items =
    c.pop.ensures.rest ∙ popped_is c.args.chosen.now.items c.first_choice.new.chosen.items x (vec_len c.first_choice.new.chosen) long (c.in_ok-found.ensures.same ∙ c.in_ok-push.ensures.items)
    in (
      omega (arith, c.decreases, shorter rest x some first),
      (
        c.requires.instance,
        (
          subst (λ (l : List (Bor Signed)). All (IsSigned IsStopContent) (seen l)) (sym popped) c.requires.chosen,
          others_formed rest x some first (IsSigned IsStopContent) c.requires.formed,
        ),
      ),
    )

pub returns-then-is_some-clause-list : goal.returns-then-is_some-clause-list
returns-then-is_some-clause-list t c =
    let q = c.args.c.now in
    let j = c.args.j in
    let n = c.args.n in
    let chosen = c.args.chosen.now.items in
    let rest = c.args.rest.now in
    let some : 0 < length rest = search rules in
    let many : 0 < n = search rules in
    let x = c.index-rest-0.result in
    let found = c.in_ok-found.found in
    let without = first_choice q j (seen chosen) n (seen (others rest)) in
    let with_it : found ≡ first_choice q j (seen (chosen ++ x ∷ [])) (n - 1) (seen (others rest)) =
    c.in_ok-found.ensures.list ∙ ap (λ l. first_choice q j (seen l) (n - 1) (seen (others rest))) c.in_ok-push.ensures.items
    in
    sym (or_else-some found without (sym c.is_some.ensures ∙ c.if-is_some.true))
    ∙ ap (λ o. or_else o without) with_it
    ∙ sym (step_is rest x some c.index-rest-0.is q j n chosen many)

pub returns-clause-list : goal.returns-clause-list
returns-clause-list t c =
    let q = c.args.c.now in
    let j = c.args.j in
    let n = c.args.n in
    let chosen = c.args.chosen.now.items in
    let rest = c.args.rest.now in
    let some : 0 < length rest = search rules in
    let many : 0 < n = search rules in
    let x = c.index-rest-0.result in
    let found = c.in_ok-found.found in
    let without = first_choice q j (seen chosen) n (seen (others rest)) in
    let long : vec_len c.first_choice.new.chosen ≡ length c.first_choice.new.chosen.items = search rules in
    let popped : c.pop.new.self.items ≡ chosen =
    c.pop.ensures.rest ∙ popped_is chosen c.first_choice.new.chosen.items x (vec_len c.first_choice.new.chosen) long (c.in_ok-found.ensures.same ∙ c.in_ok-push.ensures.items)
    in
    let none : first_choice q j (seen (chosen ++ x ∷ [])) (n - 1) (seen (others rest)) ≡ None =
    sym (c.in_ok-found.ensures.list ∙ ap (λ l. first_choice q j (seen l) (n - 1) (seen (others rest))) c.in_ok-push.ensures.items)
    ∙ is_none found (sym c.is_some.ensures ∙ c.if-is_some.false)
    in
    subst (λ (y : Option (List Signed × Trimmed)). IfOk c.first_choice-2.result (λ o. o ≡ y))
    (ap (λ l. first_choice q j (seen l) n (seen (others rest))) popped ∙ ap (λ o. or_else o without) (sym none) ∙ sym (step_is rest x some c.index-rest-0.is q j n chosen many))
    c.first_choice-2.ensures.list
