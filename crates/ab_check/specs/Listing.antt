-- The checks of a message, as they are gone through.
use Rattle.std.specs.Prelude.{ℕ, ◌+◌, ◌*◌, ◌<◌, ◌≤◌, List, [], ◌∷◌, ◌++◌, length, map, Option, Some, None, IfSome}
use Rattle.std.specs.Option.{option_map}
use Rattle.ab_num.specs.Places.{at_position_of}
use Rattle.ab_content.specs.Views.{content, request, zcert}
use Rattle.ab_msg.specs.declared.content.Content.{Content}
use Rattle.ab_msg.specs.declared.content.Content.TheVariants as statement
use Rattle.ab_num.specs.declared.party.Party.TheVariants.{Replica}
use Rattle.ab_form.specs.Readers.{listed}
use Rattle.ab_content.specs.Parts.{signer_at}
use Rattle.ab_content.specs.Rows.{entry_at}
use Rattle.ab_wire.specs.Changes.{prepares_at}
use Rattle.ab_msg.specs.Claims.{asked, each_before, spec_of}
use Rattle.ab_msg.specs.Contents.{IsContent}
use Rattle.ab_wire.specs.Views.{Spells, aborts, chain_tags}
use Rattle.ab_check.specs.Checks.{Check, Token, by_tag, by_sig, aborts_checks, answers_checks, slot_checks, slots_checks}
use Rattle.ab_check.specs.Chains.{passed_to, said}
use Rattle.ab_check.specs.declared.check_ref.CheckRef.{CheckRef}
use Rattle.ab_check.specs.declared.claim_ref.ClaimRef.{ClaimRef}
use Rattle.ab_check.specs.declared.claim_ref.ClaimRef.TheVariants.{Received, Asked, Said, Answered, Prepared}
use Rattle.ab_check.specs.declared.check_ref.TokenRef.{TokenRef}
use Rattle.ab_check.specs.declared.check_ref.TokenRef.TheVariants.{Tag, Sig}
use Rattle.ab_check.specs.declared.stated_bytes.StatedBytes.{StatedBytes}
use Rattle.ab_check.specs.declared.stated_bytes.StatedBytes.TheVariants as bytes
use Rattle.ab_check.specs.declared.passed.Passed.{Passed}
use Rattle.ab_check.specs.declared.aborts.AnswersRef.{AnswersRef}
use Rattle.ab_check.specs.declared.aborts.AbortsRef.{AbortsRef}
use Rattle.ab_check.specs.declared.prepared.PreparedRef.{PreparedRef}

abbrev pub bytes_of : StatedBytes → List ℕ
bytes_of (bytes.Received bytes) = bytes.now
bytes_of (bytes.Made text) = text.items

abbrev pub token_of : TokenRef → Token
token_of (Tag tag) = by_tag (option_map (λ t. t.now) tag)
token_of (Sig sig) = by_sig sig.now

-- the content that is claimed
abbrev pub claimed : ClaimRef → Content
claimed (Received c bytes) = content c
claimed (Asked instance m) = asked instance (request m)
claimed (Said link r) = said link r
claimed (Answered instance z replica) = spec_of instance (zcert z) replica
claimed (Prepared replica instance view slot x) = statement.Prepare (Replica replica) instance view slot x.now

-- with what stands for it
abbrev pub checked : CheckRef → Check
checked c = record { content = claimed c.claim; token = token_of c.token }

-- what is known of a claim
abbrev pub IsClaim : ClaimRef → Type 0
IsClaim (Received c bytes) = Spells bytes.now c × IsContent (content c)
IsClaim (Asked instance m) = length m.command.now ≤ 128
IsClaim (Said link r) = IfSome link.reply (λ reply. length reply.now ≤ 72)
IsClaim (Answered instance z replica) = length z.reply.now ≤ 72
IsClaim (Prepared replica instance view slot x) = Unit {0}

abbrev pub one_left : Option CheckRef → List Check
one_left None = []
one_left (Some c) = checked c ∷ []

-- ---- along a chain

-- what the positions that are left state, with their tags
abbrev pub passed_left : Passed → List Check
passed_left p = map (passed_to p.me (chain_tags p.tags)) (each_before p.left (λ q. said p.link (at_position_of p.k.f p.link.instance q)) p.position)

pub record IsPassed (p : Passed) : Type 0 where
  pub instance : 1 ≤ p.link.instance
  pub position : p.position ≤ 3 * p.k.f + 2
  pub left : p.left < p.position
  pub few : p.left ≤ p.k.f + 1
  pub short : IfSome p.link.reply (λ reply. length reply.now ≤ 72)

-- ---- answers in a certificate, and ABORTs

-- its signatures are those that are left
abbrev pub answers_left : AnswersRef → List Check
answers_left a = answers_checks a.instance (zcert a.zcert)

-- the answers that are left of one ABORT, and the ABORTs behind it
abbrev pub aborts_left : AbortsRef → List Check
aborts_left a = answers_left a.answers ++ aborts_checks (aborts a.aborts)

abbrev pub AreAnswers : AnswersRef → Type 0
AreAnswers a = length a.zcert.reply.now ≤ 72

-- ---- behind a view change

-- the PREPAREs that are left: of the present slot, and of the slots behind it
abbrev pub prepared_left : PreparedRef → List Check
prepared_left p =
    slot_checks p.instance p.view p.slot p.x.now (listed signer_at p.by.count p.by.bytes.now)
    ++ slots_checks p.instance p.next (listed entry_at p.entries.count p.entries.bytes.now) (listed prepares_at p.prepares.count p.prepares.bytes.now)

abbrev pub IsPrepared : PreparedRef → Type 0
IsPrepared p = p.next + length (listed entry_at p.entries.count p.entries.bytes.now) ≤ 255
