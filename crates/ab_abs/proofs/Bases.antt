-- What may be the value of slot 0 is among the histories of acts.
use Rattle.std.proofs.Common.{List, ◌++◌, inl, inr}
use Rattle.std.specs.Prelude.{Contains, flat_map}
use Rattle.std.proofs.lemmas.List.Elements.{Contains-append_left, Contains-append_right, Contains-append_cases}
use Rattle.ab_num.proofs.Lists.{Contains-flat_map, flat_map_cases}
use Rattle.ab_hist.specs.declared.request.Request.{Request}
use Rattle.ab_msg.specs.Carried.{stated_history, value_histories}
use Rattle.ab_abs.specs.Acts.{Act, logs_in_state, firsts_in_state, histories_of_act, histories, bases_of_act, bases}

pub bases_are_here : (a : Act) (h : List Request) → Contains (bases_of_act a) h → Contains (histories_of_act a) h
bases_are_here a h has =
    let told = flat_map value_histories a.values in
    let stated = flat_map stated_history a.claims in
    elim (Contains-append_cases (logs_in_state a.state) (firsts_in_state a.state ++ told) h has) [
      | inl log ↦ Contains-append_left (logs_in_state a.state) (firsts_in_state a.state ++ (stated ++ told)) h log
      | inr more ↦ Contains-append_right (logs_in_state a.state) (firsts_in_state a.state ++ (stated ++ told)) h
          (elim (Contains-append_cases (firsts_in_state a.state) told h more) [
            | inl first ↦ Contains-append_left (firsts_in_state a.state) (stated ++ told) h first
            | inr shown ↦ Contains-append_right (firsts_in_state a.state) (stated ++ told) h (Contains-append_right stated told h shown)
          ])
    ]

pub bases_are_histories : (acts : List Act) (h : List Request) → Contains (bases acts) h → Contains (histories acts) h
bases_are_histories acts h has =
    let a = flat_map_cases bases_of_act acts h has in
    Contains-flat_map histories_of_act acts a.0 h a.1 (bases_are_here a.0 h a.2)
