-- Inputs by which a replica executes a request.
use Rattle.std.specs.Prelude.{ℕ, List, [], ◌∷◌}
use Rattle.ab_hist.specs.declared.request.Request.{Request}
use Rattle.ab_msg.specs.declared.value.Value.TheVariants.{Base, Request as Order}
use Rattle.ab_msg.specs.Slots.{slot_digest}
use Rattle.ab_order.specs.Inputs.{Reading, request, prepare, commit, timeout}
use Rattle.ab_pbft_rules.specs.Rules.{Pbft, pbft}

-- where these inputs leave a replica, the first one first
abbrev pub after_all : Pbft → List Reading → Pbft
after_all p [] = p
after_all p (e ∷ inputs) = after_all (pbft.after p e) inputs

-- a replica of a cluster with f in instance 1, of which it orders one request
abbrev pub begun_with : ℕ → ℕ → Pbft
begun_with f me = pbft.begin 1 f 1 me []

-- a request, and votes of replicas 1 and 2 in view 0: on the base in slot 0, and on the request in slot 1
abbrev pub voted : Request → List Reading
voted m =
    let base = slot_digest (Base []) in
    let order = slot_digest (Order m) in
    request m ∷ prepare 1 0 0 base ∷ prepare 2 0 0 base ∷ commit 1 0 0 base ∷ commit 2 0 0 base
    ∷ prepare 1 0 1 order ∷ prepare 2 0 1 order ∷ commit 1 0 1 order ∷ commit 2 0 1 order ∷ []

-- a timer that runs out, and then a request
abbrev pub late : Request → List Reading
late m = timeout ∷ request m ∷ []
