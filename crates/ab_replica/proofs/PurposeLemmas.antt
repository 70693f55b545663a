-- What a message is, by its purpose.
use Rattle.std.proofs.Common.{◌≡◌, ℕ, ◌<◌, Option, None, Some, List, refl, arith}
use Rattle.std.specs.Bool.{⊤}
use Rattle.ab_num.specs.declared.party.Party.TheVariants.{Replica}
use Rattle.ab_ckpt.specs.Marks.{Mark}
use Rattle.ab_msg.specs.declared.content.Content.{Content}
use Rattle.ab_msg.specs.declared.content.Content.TheVariants as content_of
use Rattle.ab_msg.specs.declared.signed.Signed.{Signed}
use Rattle.ab_msg.specs.declared.message.Msg.{Msg}
use Rattle.ab_msg.specs.declared.message.Msg.TheVariants as msg
use Rattle.ab_msg.specs.declared.message.Offer.{Offer}
use Rattle.ab_msg.specs.declared.message.Offer.TheVariants as offer
use Rattle.ab_abs.specs.Messages.{took, offered}
use Rattle.ab_replica.specs.declared.purpose.Purpose.{Purpose}
use Rattle.ab_replica.specs.declared.purpose.Purpose.TheVariants.{Request, Panic, Base, Checkpoint, Nothing, Other}
use Rattle.ab_msg.specs.Contents.{IsCheckpoint}
use Rattle.ab_msg.specs.Messages.{IsMessage}
use Rattle.ab_run.specs.Checkpoints.{mark_in}
use Rattle.ab_replica.specs.Purposes.{purpose_of, purpose_of_mark, purpose_of_offer}

-- whether a message offers a base is its purpose
abbrev pub Offers : Msg → Purpose → Type 0
Offers m (Request c) = offered (took m) ≡ None
Offers m (Panic c) = offered (took m) ≡ None
Offers m Base = (cert : List Signed) × (offered (took m) ≡ Some cert)
Offers m (Checkpoint by n d) = offered (took m) ≡ None
Offers m Nothing = offered (took m) ≡ None
Offers m Other = offered (took m) ≡ None

offers_mark : (content : Content) (tag : List ℕ) (o : Option Mark) → Offers (msg.Checkpoint content tag) (purpose_of_mark o)
offers_mark content tag None = refl
offers_mark content tag (Some v) = refl

pub offers : (m : Msg) → Offers m (purpose_of m)
offers (msg.PrePrepare content tag (offer.Base cert)) = (cert, refl)
offers (msg.PrePrepare content tag (offer.Request m t)) = refl
offers (msg.Checkpoint content tag) = offers_mark content tag (mark_in content)
offers (msg.Req content tags) = refl
offers (msg.Panic content tag) = refl
offers _ = refl

-- a CHECKPOINT that comes is a replica's
abbrev pub IsMember : Purpose → Type 0
IsMember (Checkpoint by n d) = by < 7
IsMember (Request c) = ⊤
IsMember (Panic c) = ⊤
IsMember Base = ⊤
IsMember Nothing = ⊤
IsMember Other = ⊤

member_in : (content : Content) → IsCheckpoint content → IsMember (purpose_of_mark (mark_in content))
member_in (content_of.Checkpoint (Replica r) i n d) is = omega (arith, is.0)
member_in _ is = tt

member_offer : (o : Offer) → IsMember (purpose_of_offer o)
member_offer (offer.Base cert) = tt
member_offer (offer.Request m tag) = tt

pub member : (m : Msg) → IsMessage m → IsMember (purpose_of m)
member (msg.Checkpoint content tag) is = member_in content is.0
member (msg.PrePrepare content tag o) is = member_offer o
member (msg.Req content tags) is = tt
member (msg.Panic content tag) is = tt
member _ is = tt
