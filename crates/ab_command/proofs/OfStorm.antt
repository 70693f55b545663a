-- The events that a storm draws, as a schedule.
use Rattle.std.proofs.Common.{◌≡◌, List, [], All, Ok, length, refl, sym, ap, ◌∙◌, subst, arith}
use Rattle.std.proofs.lemmas.List.Elements.{recursion_from_All}
use Rattle.ab_num.specs.declared.cluster.Cluster.{Cluster}
use Rattle.ab_num.specs.declared.plan.Height.TheVariants.{Ten}
use Rattle.ab_num.specs.declared.plan.Scheme.TheVariants.{Lms}
use Rattle.ab_num.specs.declared.plan.ServiceName.TheVariants.{Kv}
use Rattle.ab_text.specs.declared.event.Event.{Event}
use Rattle.ab_text.specs.EventLines.{IsEvent}
use Rattle.ab_text.specs.Heads.{Script, no_seed}
use Rattle.ab_text.specs.Spelling.{IsSchedule}
use Rattle.ab_text.proofs.HeadLemmas.{IsSeed-none}
use Rattle.ab_words.specs.Commands.{StormCommand}
use Rattle.ab_party.specs.Clusters.{IsSized}
use Rattle.ab_world.specs.Worlds.{World}
use Rattle.ab_replay.specs.Protocols.{Any}
use Rattle.ab_replay.specs.Replays.{Runs}
use Rattle.ab_storm.specs.Runs.{events_in}
use Rattle.ab_storm.specs.Drawn.{Draws}
use Rattle.ab_command.specs.Statuses.{kv}
use Rattle.ab_command.specs.Written.{script_in, IsOfStorm}

-- events with lines, in a cluster, are a schedule of the grammar
in_grammar : (c : Cluster) (events : List Event) → c.every ≡ 0 → All IsEvent events → IsSchedule (script_in c events)
in_grammar c events none lines = record { bounds = c.in_bounds; dense = omega (arith, none); seed = IsSeed-none; faulty = tt; events = recursion_from_All IsEvent events lines }

pub of_storm : (k : StormCommand) (c : Cluster) (events : List Event) (s : Script) → IsSized c k.f k.clients k.plan 0 → ((end : World Any) × Draws kv k events end) → s ≡ script_in c events → IsOfStorm k s
of_storm k c events s sized (end, draws) is =
    let own = draws.cluster in
    let f : c.f ≡ own.f = sized.f ∙ sym draws.sized.f in
    let clients : c.clients ≡ own.clients = sized.clients ∙ sym draws.sized.clients in
    let plan : c.plan ≡ own.plan = sized.plan ∙ sym draws.sized.plan in
    let every : c.every ≡ own.every = sized.every ∙ sym draws.sized.every in
    let whole : s ≡ script_in own (events_in kv own k) = is ∙ (λ j. record { f = f j; clients = clients j; plan = plan j; service = Kv; lms = Lms Ten; every = every j; seed = no_seed; faulty = []; events = draws.drawn j }) in
    record {
      cluster = own;
      sized = draws.sized;
      is = whole;
      all = ap (λ (x : Script). length x.events) is ∙ draws.all;
      end = end;
      storms = draws.runs;
      replays = subst (λ (x : Script). Runs x (Ok end)) (sym whole) (record { cluster = own; sized = record { f = refl; clients = refl; plan = refl; every = refl }; runs = draws.runs });
      grammar = subst IsSchedule (sym whole) (in_grammar own (events_in kv own k) draws.sized.every (subst (All IsEvent) draws.drawn draws.lines));
    }
