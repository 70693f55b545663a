-- The message by which the replicas of the small instance of Quorum are asked, and where it leaves them.
use Rattle.std.specs.Prelude.{ℕ, Bool, List, [], ◌∷◌, replicate}
use Rattle.ab_num.specs.declared.party.Party.TheVariants.{Client}
use Rattle.ab_hist.specs.declared.request.Request.{Request}
use Rattle.ab_msg.specs.declared.content.Content.TheVariants.{Req}
use Rattle.ab_msg.specs.declared.message.Msg.{Msg}
use Rattle.ab_msg.specs.declared.message.Msg.TheVariants as msg
use Rattle.ab_abs.specs.Members.{Member}

abbrev pub asking : Request → Msg
asking m = msg.Req (Req (Client m.client) 1 m) (record { items = (0, replicate 32 0) ∷ [] })

abbrev pub member : ℕ → List Request → Bool → Member
member r log stopped = record { instance = 1; me = r; base = []; trimmed = 0; log = log; stopped = stopped }
