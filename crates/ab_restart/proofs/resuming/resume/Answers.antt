use Rattle.std.proofs.Common.{◌≡◌, ℕ, ◌<◌, List, [], IfSome, length, subst, arith}
use Rattle.std.proofs.lemmas.Bool.Decides.{nat_tests}
use Rattle.std.proofs.lemmas.List.{length-map}
use Rattle.ab_disk.specs.Disks.{LeavesOnly}
use Rattle.ab_journal.specs.Entries.{bodies_of}
use Rattle.ab_journal.specs.Journals.{ListsOr, texts_of}
use Rattle.ab_restart.specs.Pasts.{IsPast, first_body}
use Rattle.ab_restart.proofs.ResumeLemmas.{begins_told, kept_told, no_texts, past_told, refused_told, stays_told}
use Rattle.ab_restart.proofs.resuming.resume.Goals as goal

pub returns-in-Ok-append-clause-any_moment : goal.returns-in-Ok-append-clause-any_moment
returns-in-Ok-append-clause-any_moment g c =
    let m = g.D.Disk.model in
    let appends =
    subst (λ (first : List ℕ). IfSome (m.seen c.open.new.disk) (λ bytes. LeavesOnly m c.open.new.disk c.append.new.disk (ListsOr (bodies_of bytes) first))) c.first_body-first.ensures c.in-Ok-append.ensures.any_moment in
    let none : texts_of c.in-Ok.found.1.items ≡ [] = no_texts c.in-Ok.found.1.items (grind (arith, nat_tests, c.is_empty.ensures, c.if-is_empty.true)) in
    begins_told m c.args.disk.now c.open.new.disk c.append.new.disk (first_body c.args.text.now) (m.seen c.args.disk.now) (m.seen c.open.new.disk) (texts_of c.in-Ok.found.1.items) none c.in-Ok.ensures.bodies c.in-Ok.ensures.told
    c.in-Ok.ensures.list c.in-Ok.ensures.any_moment appends

pub returns-in-Err-append-clause-any_moment : goal.returns-in-Err-append-clause-any_moment
returns-in-Err-append-clause-any_moment g c =
    let m = g.D.Disk.model in
    let appends =
    subst (λ (first : List ℕ). IfSome (m.seen c.open.new.disk) (λ bytes. LeavesOnly m c.open.new.disk c.append.new.disk (ListsOr (bodies_of bytes) first))) c.first_body-first.ensures c.in-Err-append.ensures.any_moment in
    let none : texts_of c.in-Ok.found.1.items ≡ [] = no_texts c.in-Ok.found.1.items (grind (arith, nat_tests, c.is_empty.ensures, c.if-is_empty.true)) in
    refused_told m c.args.disk.now c.append.new.disk (first_body c.args.text.now) (m.seen c.args.disk.now) (begins_told m c.args.disk.now c.open.new.disk c.append.new.disk (first_body c.args.text.now) (m.seen c.args.disk.now) (m.seen c.open.new.disk) (texts_of c.in-Ok.found.1.items) none c.in-Ok.ensures.bodies c.in-Ok.ensures.told
    c.in-Ok.ensures.list c.in-Ok.ensures.any_moment appends)

pub returns-in-Ok-past_of-clause-kept : goal.returns-in-Ok-past_of-clause-kept
returns-in-Ok-past_of-clause-kept g c =
    let m = g.D.Disk.model in
    let first = first_body c.args.text.now in
    let some : 0 < length (texts_of c.in-Ok.found.1.items) = grind (arith, nat_tests, length-map, c.is_empty.ensures, c.if-is_empty.false) in
    let is = subst (λ (first : List ℕ). IsPast first (texts_of c.in-Ok.found.1.items) c.in-Ok-past_of.past) c.first_body-first.ensures c.in-Ok-past_of.ensures.past in
    kept_told first (m.seen c.args.disk.now) (m.seen c.open.new.disk) c.in-Ok-past_of.past c.in-Ok.ensures.told (past_told first (m.seen c.args.disk.now) _ _ c.in-Ok.ensures.bodies is)
    (stays_told first (m.seen c.args.disk.now) (m.seen c.open.new.disk) _ some c.in-Ok.ensures.bodies c.in-Ok.ensures.list)
