use Rattle.std.proofs.Common.{◌≡◌, ℕ, List, [], ◌∷◌, ◌++◌, codes, map, ap, ◌∙◌}
use Rattle.ab_num.proofs.Lists.{five_parts}
use Rattle.ab_text.specs.EventLines.{event_line}
use Rattle.ab_text.specs.Heads.{version_of}
use Rattle.ab_text.specs.Schedules.{faulty_line, script_of}
use Rattle.ab_text.specs.Spelling.{head_lines}
use Rattle.ab_text.specs.Texts.{text_of}
use Rattle.ab_text.proofs.WritingLemmas.{added}
use Rattle.ab_text.proofs.writing.write_schedule.Goals as goal

pub returns : goal.returns
returns c =
    let s = c.args.schedule.now in
    let head : List (List ℕ) = head_lines (version_of (script_of s.head [])) (script_of s.head []) in
    let faulty : List (List ℕ) = map faulty_line s.head.faulty in
    let run : List (List ℕ) = codes "run" ∷ [] in
    let events : List (List ℕ) = map event_line s.events in
    let last : List (List ℕ) = codes "end" ∷ [] in
    let one = c.add_head.new.out.items in
    let two = c.add_faulty.new.out.items in
    let three = c.add_line.new.out.items in
    let four = c.add_events.new.out.items in
    let e1 : one ≡ [] ++ text_of head = c.in_ok-add_head.ensures ∙ ap (λ t. t ++ text_of head) c.new-out.ensures.items in
    let e2 = added [] one two head faulty e1 (c.in_ok-add_faulty.ensures ∙ ap (λ xs. one ++ text_of (map faulty_line xs)) c.as_slice.ensures) in
    let e3 = added [] two three (head ++ faulty) run e2 c.in_ok-add_line.ensures in
    let e4 = added [] three four (head ++ faulty ++ run) events e3 (c.in_ok-add_events.ensures ∙ ap (λ xs. three ++ text_of (map event_line xs)) c.as_slice-2.ensures) in
    added [] four c.add_line-2.new.out.items (head ++ faulty ++ run ++ events) last e4 c.in_ok-add_line-2.ensures ∙ ap text_of (five_parts head faulty run events last)
