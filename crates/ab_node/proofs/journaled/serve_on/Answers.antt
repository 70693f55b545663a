use Rattle.std.proofs.Common.{ℕ, List, Option, map}
use Rattle.arrayvec.specs.ArrayVec.{ArrayVec}
use Rattle.ab_io.specs.States.{change}
use Rattle.ab_journal.specs.Entries.{bodies_of}
use Rattle.ab_journal.specs.Keepers.{listed}
use Rattle.ab_loop.specs.Edges.{LeavesFront, edge, keep_state}
use Rattle.ab_node.specs.Journals.{crash_between, disk_state, journal_call}
use Rattle.ab_node.specs.Nodes.{node_call}
use Rattle.ab_node.proofs.CrashLemmas.{crash_whole, ends_less, serves_less}
use Rattle.ab_node.proofs.JournalLemmas.{serves_on, stops_on}
use Rattle.ab_node.proofs.journaled.serve_on.Goals as goal

pub returns-clause-ok : goal.returns-clause-ok
returns-clause-ok g c =
    let m = g.D.Disk.model in
    let text = c.args.text.now in
    let commands = map (λ (v : ArrayVec ℕ). v.items) c.in-Ok.party.1 in
    let past = c.in-Ok-restore.found.0 in
    let old = c.args.disk.now in
    let mid = c.restore.new.disk in
    let new = c.serve_party.new.disk in
    let clock = change (g.C.Clock.state c.args.clock.now) (g.C.Clock.state c.serve_party.new.clock) in
    let out = change (g.O.Sink.state c.args.out.now) (g.O.Sink.state c.serve_party.new.out) in
    let link = change (g.L.Link.state c.args.link.now) (g.L.Link.state c.serve_party.new.link) in
    let j = journal_call c.args.asked.now clock out link (change (disk_state m old) (disk_state m new)) in
    let e = c.in-Ok-restore.ensures in
    let front = LeavesFront m bodies_of (listed (m.seen mid)) mid new in
    let crash = crash_between m old new in
    let kept = λ (k : Option ℕ) (d : g.row.D.Denot). listed (m.seen d) in
    let x = node_call c.args.asked.now past clock (edge out.before link.before (keep_state m kept c.in-Ok-restore.found.1 mid)) (edge out.after link.after (keep_state m kept c.serve_party.new.keeper new)) in
    serves_on text j crash past (disk_state m mid) c.in-Ok.party.0 commands c.in-Ok.ensures.reads e.past e.told e.kept e.later c.serve_party.result
    (serves_less front (crash text past) (λ more serves. crash_whole m g.met.D.Disk.only_now text past more old mid new e.any_moment e.past e.told e.kept serves)
    c.in-Ok.party.0 commands x c.serve_party.result c.serve_party.ensures.ok)

pub returns-clause-cause : goal.returns-clause-cause
returns-clause-cause g c =
    let m = g.D.Disk.model in
    let text = c.args.text.now in
    let commands = map (λ (v : ArrayVec ℕ). v.items) c.in-Ok.party.1 in
    let past = c.in-Ok-restore.found.0 in
    let old = c.args.disk.now in
    let mid = c.restore.new.disk in
    let new = c.serve_party.new.disk in
    let clock = change (g.C.Clock.state c.args.clock.now) (g.C.Clock.state c.serve_party.new.clock) in
    let out = change (g.O.Sink.state c.args.out.now) (g.O.Sink.state c.serve_party.new.out) in
    let link = change (g.L.Link.state c.args.link.now) (g.L.Link.state c.serve_party.new.link) in
    let j = journal_call c.args.asked.now clock out link (change (disk_state m old) (disk_state m new)) in
    let e = c.in-Ok-restore.ensures in
    let front = LeavesFront m bodies_of (listed (m.seen mid)) mid new in
    let crash = crash_between m old new in
    let kept = λ (k : Option ℕ) (d : g.row.D.Denot). listed (m.seen d) in
    let x = node_call c.args.asked.now past clock (edge out.before link.before (keep_state m kept c.in-Ok-restore.found.1 mid)) (edge out.after link.after (keep_state m kept c.serve_party.new.keeper new)) in
    stops_on text j crash past (disk_state m mid) c.in-Ok.party.0 commands c.in-Ok.ensures.reads e.past e.told e.kept e.later c.serve_party.result
    (ends_less front (crash text past) (λ more serves. crash_whole m g.met.D.Disk.only_now text past more old mid new e.any_moment e.past e.told e.kept serves)
    c.in-Ok.party.0 commands x c.serve_party.result c.serve_party.ensures.cause)
