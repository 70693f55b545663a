-- What is said along a chain is of no subject, and has no words.
use Rattle.std.proofs.Common.{◌≡◌, ℕ, List, [], Option, Some, None, refl}
use Rattle.std.specs.Borrow.{Bor}
use Rattle.ab_check.specs.declared.chain.PassingRef.{PassingRef}
use Rattle.ab_check.specs.Chains.{said, said_by}
use Rattle.ab_audit.specs.Accusations.{subject_of}
use Rattle.ab_audit.specs.Exhibits.{words_of}

by_reply : (l : PassingRef) (o : Option (Bor (List ℕ))) (r : ℕ) → None ≡ subject_of (said_by l o r)
by_reply l None r = refl
by_reply l (Some reply) r = refl

pub said_subject : (l : PassingRef) (r : ℕ) → None ≡ subject_of (said l r)
said_subject l r = by_reply l l.reply r

no_words : (l : PassingRef) (o : Option (Bor (List ℕ))) (r : ℕ) → [] ≡ words_of (said_by l o r)
no_words l None r = refl
no_words l (Some reply) r = refl

pub said_words : (l : PassingRef) (r : ℕ) → [] ≡ words_of (said l r)
said_words l r = no_words l l.reply r
