-- What a message tells that is new.
use Rattle.std.proofs.Common.{◌≡◌, ℕ, List, Ok, ap, ◌∙◌}
use Rattle.std.specs.Prelude.{flat_map}
use Rattle.ab_num.specs.declared.party.Party.{Party}
use Rattle.ab_msg.specs.declared.message.Msg.{Msg}
use Rattle.ab_check.specs.Checks.{checks_of}
use Rattle.ab_sign.specs.declared.key.SignKey.{SignKey}
use Rattle.ab_audit.specs.Statements.{signed_at}
use Rattle.ab_audit.specs.Accusations.{found_by, found_in}
use Rattle.ab_audit.specs.Kept.{keep_all, note_at}
use Rattle.ab_audit.specs.Audits.{Auditing, check_notes, is_new, news_of, told}
use Rattle.ab_audit.proofs.ListLemmas.{filter-flat_map, flat_map-twice}
use Rattle.ab_audit.proofs.KeptLemmas.{keep_all-news}
use Rattle.ab_audit.proofs.StatementLemmas.{checked-signed}

all_notes : (keys : List SignKey) (n f : ℕ) (me : Party) (m : Msg) → flat_map (check_notes keys n) (checks_of f me m) ≡ flat_map (note_at n) (found_in keys m)
all_notes keys n f me m =
    flat_map-twice (note_at n) (λ k. flat_map (found_by keys) (signed_at k)) (checks_of f me m)
    ∙ ap (flat_map (note_at n)) (flat_map-twice (found_by keys) signed_at (checks_of f me m) ∙ ap (flat_map (found_by keys)) (checked-signed f me m))

-- the news of a message are kept as all that is found in it
pub news_told : (a : Auditing) (n f : ℕ) (me : Party) (m : Msg) → keep_all a.kept (flat_map (news_of a n) (checks_of f me m)) ≡ (told a n (Ok m)).kept
news_told a n f me m =
    ap (keep_all a.kept) (filter-flat_map (is_new a.kept) (check_notes a.keys n) (checks_of f me m))
    ∙ keep_all-news a.kept (flat_map (check_notes a.keys n) (checks_of f me m))
    ∙ ap (keep_all a.kept) (all_notes a.keys n f me m)
