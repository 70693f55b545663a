-- The small run of an instance, in which each replica makes a CHECKPOINT of its log before it stops, and one then forgets it.
use Rattle.std.specs.Prelude.{ℕ, Bool, true, false, List, [], ◌∷◌}
use Rattle.ab_num.specs.declared.party.Party.TheVariants.{Replica, Client}
use Rattle.ab_hist.specs.declared.request.Request.{Request}
use Rattle.ab_hist.specs.Digests.{digest_of}
use Rattle.ab_svc.specs.Machines.{Machine}
use Rattle.ab_msg.specs.declared.content.Content.{Content}
use Rattle.ab_msg.specs.declared.content.Content.TheVariants.{Checkpoint}
use Rattle.ab_abs.specs.declared.seen.Seen.TheVariants.{Cert}
use Rattle.ab_abs.specs.Acts.{Act, abort_of}
use Rattle.ab_abs.specs.SmallActs.{small, of_client, halts_small, aborts_small, committed_acts}
use Rattle.ab_stable.specs.Leaving.{mark_of, forget_of}

abbrev pub checkpoint_of : ℕ → ℕ → List ℕ → Content
checkpoint_of r n d = Checkpoint (Replica r) 1 n d

abbrev pub is_checkpoint : Content → Bool
is_checkpoint (Checkpoint maker i n d) = true
is_checkpoint other = false

module _ {S : Type 0} (machine : Machine S) (m : Request) where
  abbrev pub marks_small : ℕ → Act
  marks_small r = mark_of r (checkpoint_of r 1 (digest_of (m ∷ [])))

  abbrev pub marked_once : List Act
  marked_once = marks_small 0 ∷ committed_acts machine m

  abbrev pub marked_twice : List Act
  marked_twice = marks_small 1 ∷ marked_once

  abbrev pub marked_thrice : List Act
  marked_thrice = marks_small 2 ∷ marked_twice

  abbrev pub marked_early : List Act
  marked_early = forget_of 0 ∷ marks_small 3 ∷ marked_thrice

  abbrev pub marked_aborted : List Act
  marked_aborted =
      abort_of small 2 (m ∷ []) ∷ abort_of small 1 (m ∷ []) ∷ abort_of small 0 (m ∷ []) ∷ halts_small machine m 2 ∷ halts_small machine m 1 ∷ halts_small machine m 0 ∷ marked_early

  abbrev pub marked_acts : List Act
  marked_acts =
      of_client machine m (aborts_small machine m 0 ∷ aborts_small machine m 1 ∷ aborts_small machine m 2 ∷ []) [] (Cert 1 (Client m.client) (m ∷ []) ∷ []) ∷ marked_aborted
