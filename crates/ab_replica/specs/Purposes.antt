-- What a message asks of a replica.
use Rattle.std.specs.Prelude.{Option, None, Some}
use Rattle.ab_msg.specs.declared.message.Msg.{Msg}
use Rattle.ab_msg.specs.declared.message.Msg.TheVariants as msg
use Rattle.ab_msg.specs.declared.message.Offer.{Offer}
use Rattle.ab_msg.specs.declared.message.Offer.TheVariants as offer
use Rattle.ab_msg.specs.Claims.{maker_of}
use Rattle.ab_ckpt.specs.Marks.{Mark}
use Rattle.ab_run.specs.Checkpoints.{mark_in}
use Rattle.ab_run.specs.Replicas.{client_of}
use Rattle.ab_replica.specs.declared.purpose.Purpose.{Purpose}
use Rattle.ab_replica.specs.declared.purpose.Purpose.TheVariants.{Request, Panic, Base, Checkpoint, Nothing, Other}

abbrev pub purpose_of_offer : Offer → Purpose
purpose_of_offer (offer.Base cert) = Base
purpose_of_offer (offer.Request m tag) = Other

abbrev pub purpose_of_mark : Option Mark → Purpose
purpose_of_mark None = Nothing
purpose_of_mark (Some v) = Checkpoint v.by v.n v.d

abbrev pub purpose_of : Msg → Purpose
purpose_of (msg.Req content tags) = Request (client_of (maker_of content))
purpose_of (msg.Panic content tag) = Panic (client_of (maker_of content))
purpose_of (msg.PrePrepare content tag o) = purpose_of_offer o
purpose_of (msg.Checkpoint content tag) = purpose_of_mark (mark_in content)
purpose_of (msg.LocalCommit content tag) = Nothing
purpose_of (msg.Spec spec) = Nothing
purpose_of _ = Other
