-- Who states each thing once isn't accused.
use Rattle.std.proofs.Common.{◌≡◌, ℕ, List, Some, ap, ◌∙◌}
use Rattle.ab_num.specs.declared.party.Party.TheVariants.{Replica, Client}
use Rattle.ab_msg.specs.declared.content.Content.{Content}
use Rattle.ab_msg.specs.declared.content.Content.TheVariants as content
use Rattle.ab_msg.specs.Claims.{maker_of}
use Rattle.ab_sign.specs.declared.key.SignKey.{SignKey}
use Rattle.ab_audit.specs.declared.accusation.Accusation.{Accusation}
use Rattle.ab_audit.specs.declared.accusation.Accusation.TheVariants.{Abort, Prepare}
use Rattle.ab_audit.specs.Accusations.{IsAccused, subject_of}
use Rattle.ab_audit.specs.Correct.{FindsItsOwn, StatesOnce, accused_replica}

-- a subject names its maker
subject_maker : (c : Content) (a : Accusation) → subject_of c ≡ Some a → maker_of c ≡ Replica (accused_replica a)
subject_maker (content.Req maker i m) a e = absurd (cc)
subject_maker (content.Order maker i n m) a e = absurd (cc)
subject_maker (content.Resp maker i client stamp n d reply) a e = absurd (cc)
subject_maker (content.ChainTag maker i client stamp n d) a e = absurd (cc)
subject_maker (content.Panic maker i) a e = absurd (cc)
subject_maker (content.Abort (Replica r) i h) a e = let same : Abort r i ≡ a = cc in ap (λ b. Replica (accused_replica b)) same
subject_maker (content.Abort (Client c) i h) a e = absurd (cc)
subject_maker (content.PrePrepare maker i view slot x) a e = absurd (cc)
subject_maker (content.Prepare (Replica r) i view slot x) a e = let same : Prepare r i view slot ≡ a = cc in ap (λ b. Replica (accused_replica b)) same
subject_maker (content.Prepare (Client c) i view slot x) a e = absurd (cc)
subject_maker (content.Commit maker i view slot x) a e = absurd (cc)
subject_maker (content.ViewChange maker i view entries) a e = absurd (cc)
subject_maker (content.NewView maker i view) a e = absurd (cc)
subject_maker (content.Checkpoint maker i n d) a e = absurd (cc)
subject_maker (content.Spec maker i client stamp n d reply) a e = absurd (cc)
subject_maker (content.LocalCommit maker i client stamp n d) a e = absurd (cc)
subject_maker (content.AbortZ (Replica r) i h z) a e = let same : Abort r i ≡ a = cc in ap (λ b. Replica (accused_replica b)) same
subject_maker (content.AbortZ (Client c) i h z) a e = absurd (cc)
subject_maker (content.TrimmedAbort (Replica r) i start digest rest) a e = let same : Abort r i ≡ a = cc in ap (λ b. Replica (accused_replica b)) same
subject_maker (content.TrimmedAbort (Client c) i start digest rest) a e = absurd (cc)

pub not_accused : (keys : List SignKey) (inputs : List (List ℕ)) (made : List Content) (r : ℕ) (a : Accusation) → FindsItsOwn keys inputs made r → StatesOnce made r → accused_replica a ≡ r → IsAccused keys inputs a → ⊥
not_accused keys inputs made r a own once is d =
    let one = own d.one a d.one_subject d.one_found (subject_maker d.one a d.one_subject ∙ ap Replica is) in
    let other = own d.other a d.other_subject d.other_found (subject_maker d.other a d.other_subject ∙ ap Replica is) in
    d.differ (once d.one d.other a one other is d.one_subject d.other_subject)
