-- Which messages tell an orderer nothing.
use Rattle.std.proofs.Common.{◌≡◌, ◌≢◌, ℕ, ◌==◌, eqb, Bool, true, false, Option, Some, None, List, refl, ap, inl, inr}
use Rattle.std.specs.Prelude.{if◌then◌else◌}
use Rattle.std.proofs.lemmas.Bool.{cases_Bool, eqb-true}
use Rattle.ab_num.specs.declared.cluster.Cluster.{Cluster}
use Rattle.ab_num.specs.declared.plan.Kind.TheVariants as kind
use Rattle.ab_num.specs.declared.party.Party.TheVariants.{Replica, Client}
use Rattle.ab_msg.specs.declared.content.Content.{Content}
use Rattle.ab_msg.specs.declared.content.Content.TheVariants.{Req, PrePrepare, Prepare, Commit, ViewChange, NewView}
use Rattle.ab_msg.specs.declared.value.Value.{Value}
use Rattle.ab_msg.specs.declared.change.Proof.{Proof}
use Rattle.ab_msg.specs.declared.message.Msg.{Msg}
use Rattle.ab_msg.specs.declared.message.Msg.TheVariants as msg
use Rattle.ab_msg.specs.declared.message.Offer.{Offer}
use Rattle.ab_msg.specs.Claims.{instance_of, instance_in}
use Rattle.ab_abs.specs.Messages.{Call, took, timed}
use Rattle.ab_abs.specs.RuleLaws.{speaks_of_call}
use Rattle.ab_order.specs.Inputs.{Reading, request, prepare, commit, other}
use Rattle.ab_order.specs.Readings.{slots_of, with_slots, change_by, change_of, changes_of, read_request, read_offer, read_pre_prepare, read_prepare, read_commit, read_change, read_new_view_of, read_new_view, read_message, read}

-- one of which the rules of a Backup don't speak
pub unspoken_untold : (c : Cluster) (i : ℕ) (call : Call) → speaks_of_call kind.Backup call ≡ false → read c i call ≡ other
unspoken_untold c i (took (msg.Req content tags)) is = absurd (cc (is))
unspoken_untold c i (took (msg.PrePrepare content tag offer)) is = absurd (cc (is))
unspoken_untold c i (took (msg.Prepare signed)) is = absurd (cc (is))
unspoken_untold c i (took (msg.Commit content tag)) is = absurd (cc (is))
unspoken_untold c i (took (msg.ViewChange proof)) is = absurd (cc (is))
unspoken_untold c i (took (msg.NewView content tag proofs)) is = absurd (cc (is))
unspoken_untold c i timed is = absurd (cc (is))
unspoken_untold c i _ is = refl

-- one of another instance
module _ (c : Cluster) (i : ℕ) where
  apart : (j : ℕ) → Some j ≢ Some i → (j == i) ≡ false
  apart j differ = elim (cases_Bool (j == i)) [ inl is ↦ absurd (differ (ap Some (eqb-true j i is))) | inr shut ↦ shut ]

  request_untold : (s : Content) → Some (instance_of s) ≢ Some i → read_request i s ≡ other
  request_untold (Req (Client q) j m) differ = rw (apart j differ) refl
  request_untold _ differ = refl

  offer_untold : (s : Content) (o : Offer) → Some (instance_of s) ≢ Some i → read_pre_prepare c i s o ≡ other
  offer_untold (PrePrepare (Replica by) j view slot x) o differ = rw (apart j differ) refl
  offer_untold _ o differ = refl

  prepare_untold : (s : Content) → Some (instance_of s) ≢ Some i → read_prepare c.f i s ≡ other
  prepare_untold (Prepare (Replica by) j view slot x) differ = rw (apart j differ) refl
  prepare_untold _ differ = refl

  commit_untold : (s : Content) → Some (instance_of s) ≢ Some i → read_commit c.f i s ≡ other
  commit_untold (Commit (Replica by) j view slot x) differ = rw (apart j differ) refl
  commit_untold _ differ = refl

  change_untold : (s : Content) (values : List Value) (signed : List (List (ℕ × List ℕ))) → Some (instance_of s) ≢ Some i → read_change (change_by c.f i s values signed) ≡ other
  change_untold (ViewChange (Replica r) j view entries) values signed differ = rw (apart j differ) refl
  change_untold _ values signed differ = refl

  shown_untold : (v : Proof) → Some (instance_of v.change.content) ≢ Some i → read_change (change_of c.f i v) ≡ other
  shown_untold v differ = of_test (eqb v.start 0)
    where
      of_test : (b : Bool) → read_change (if b then change_by c.f i v.change.content v.values v.prepares else None) ≡ other
      of_test true = change_untold v.change.content v.values v.prepares differ
      of_test false = refl

  new_view_untold : (s : Content) (proofs : List Proof) → Some (instance_of s) ≢ Some i → read_new_view c.f i s proofs ≡ other
  new_view_untold (NewView (Replica by) j view) proofs differ = rw (apart j differ) refl
  new_view_untold _ proofs differ = refl

  pub other_instance : (m : Msg) → instance_in m ≢ Some i → read c i (took m) ≡ other
  other_instance (msg.Req content tags) differ = request_untold content differ
  other_instance (msg.PrePrepare content tag o) differ = offer_untold content o differ
  other_instance (msg.Prepare signed) differ = prepare_untold signed.content differ
  other_instance (msg.Commit content tag) differ = commit_untold content differ
  other_instance (msg.ViewChange proof) differ = shown_untold proof differ
  other_instance (msg.NewView content tag proofs) differ = new_view_untold content proofs differ
  other_instance _ differ = refl
