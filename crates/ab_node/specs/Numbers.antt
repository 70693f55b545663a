-- Under which numbers a replica signs, over all that it takes.
use Rattle.std.specs.Prelude.{◌≡◌, ℕ, List, [], ◌∷◌, ◌++◌, Some, slice_get, Contains}
use Rattle.ab_msg.specs.declared.content.Content.{Content}
use Rattle.ab_msg.specs.declared.signed.Signed.{Signed}
use Rattle.ab_msg.specs.declared.message.Out.{Out}
use Rattle.ab_msg.specs.Claims.{signed_in}
use Rattle.ab_abs.specs.Ensembles.{Proto}
use Rattle.ab_abs.specs.Messages.{Call}
use Rattle.ab_run.specs.Setups.{RunSetup}
use Rattle.ab_run.specs.Replicas.{Rep, RepAction, turn_enter, turn_call, turn_halt, turn_sign, turn_bring, turn_abort, turn_mark, turn_keep, turn_trim, abort_content, after_turn, turns}
use Rattle.ab_run.specs.Local.{rep_after}
use Rattle.ab_loop.specs.Lives.{Among, StoppedRun, handed_by, kept_by}
use Rattle.ab_loop.specs.Nodes.{datagrams_in, parcels_of}
use Rattle.ab_loop.specs.Settings.{NodeSetting}
use Rattle.ab_party.specs.Credentials.{sealed_all}
use Rattle.ab_node.specs.Replicas.{ReplicaMember}
use Rattle.ab_node.specs.Locality.{calls_in, sent_locally}

module _ {P : Type 0} (k : RunSetup) (proto : Proto P) (r : ℕ) where
  -- the contents that it signs in a turn, one number after the other
  abbrev pub signed_in_turn : Rep P → RepAction → List Content
  signed_in_turn s (turn_enter j cert n h) = []
  signed_in_turn s (turn_call call) = proto.signs s.value call
  signed_in_turn s turn_halt = []
  signed_in_turn s turn_sign = abort_content k proto r s ∷ []
  signed_in_turn s (turn_bring c) = []
  signed_in_turn s (turn_abort c) = []
  signed_in_turn s (turn_mark n) = []
  signed_in_turn s (turn_keep v) = []
  signed_in_turn s (turn_trim n) = []

  abbrev pub signed_in_turns : Rep P → List RepAction → List Content
  signed_in_turns s [] = []
  signed_in_turns s (t ∷ ts) = signed_in_turn s t ++ signed_in_turns (after_turn k proto r s t) ts

  -- as these come to it, the oldest first: the content at place n of the list is the one that it signs with number n, if it began at 0
  abbrev pub signed_locally : Rep P → List Call → List Content
  signed_locally s [] = []
  signed_locally s (call ∷ calls) = signed_in_turns s (turns k proto r s call) ++ signed_locally (rep_after k proto r s call) calls

-- the signature is that of replica r with number n for the content at place n
pub record IsNumbered (k : RunSetup) (r : ℕ) (contents : List Content) (v : Signed) : Type 0 where
  pub n : ℕ
  pub at : slice_get contents n ≡ Some v.content
  pub sig : v.sig ≡ k.sig r v.content n

-- so is each that stands first in one of these messages
abbrev pub AreNumbered : RunSetup → ℕ → List Content → List Out → Type 0
AreNumbered k r contents sent = (o : Out) (v : Signed) → Contains sent o → Contains (signed_in o.msg) v → IsNumbered k r contents v

-- What left in these runs, one after the other, is among the messages that the replica sends in all events that they kept; and each signature in
-- them has a number for one content.
pub record SignsOnce {P : Type 0} (k : RunSetup) (proto : Proto P) (s : NodeSetting) (m : ReplicaMember P) (runs : List StoppedRun) : Type 0 where
  pub left : Among (handed_by runs) (datagrams_in (parcels_of s 0 (sealed_all m.credentials.ring (sent_locally k proto m.site.me m.site.rep (calls_in m.credentials (kept_by runs))))))
  pub numbered : AreNumbered k m.site.me (signed_locally k proto m.site.me m.site.rep (calls_in m.credentials (kept_by runs)))
      (sent_locally k proto m.site.me m.site.rep (calls_in m.credentials (kept_by runs)))
