-- The log of a value has what is trimmed of it.
use Rattle.std.proofs.Common.{◌≡◌, ℕ, ◌≤◌, Bool, true, false, length, inl, inr, refl, ap, ◌∙◌, arith}
use Rattle.std.specs.Prelude.{◌==◌, IsTrue}
use Rattle.std.proofs.lemmas.Bool.{eqb-true, or_cases}
use Rattle.ab_num.specs.declared.cluster.Cluster.{Cluster}
use Rattle.ab_num.specs.declared.plan.Kind.{Kind}
use Rattle.ab_num.specs.declared.plan.Kind.TheVariants as kind
use Rattle.ab_num.specs.Places.{kind_of}
use Rattle.ab_msg.specs.Pens.{Pen}
use Rattle.ab_abs.specs.declared.entry.Entry.{Entry}
use Rattle.ab_abs.specs.Kinds.{is_backup}
use Rattle.ab_abs.specs.Ensembles.{Proto}
use Rattle.ab_abs.specs.Messages.{Call}
use Rattle.ab_abs.specs.FormLaws.{KeepsForm}
use Rattle.ab_abs.proofs.Prefixes.{prefix_length}
use Rattle.ab_stable.specs.Offers.{makes_checkpoints}
use Rattle.ab_replica.specs.Sites.{IsWithin}
use Rattle.ab_replica.specs.Crossings.{may_begin}

-- in a Backup no CHECKPOINT is made
no_backup : (k : Kind) → makes_checkpoints k ≡ true → is_backup k ≡ false
no_backup kind.Quorum makes = refl
no_backup kind.ZLight makes = refl
no_backup kind.Chain makes = refl
no_backup kind.Backup makes = absurd (cc (makes))
no_backup kind.ZCert makes = refl

module _ {P : Type 0} (proto : Proto P) (serves : Kind → Bool) (form : KeepsForm proto serves) where
  pub within_after : (pen : Pen) (p next : P) (call : Call) → next ≡ proto.after pen p call → IsWithin proto p → IsWithin proto next
  within_after pen p next call after is =
      let rests : proto.trimmed next ≡ proto.trimmed p = ap proto.trimmed after ∙ form.trimmed_stays pen p call in
      let grows = prefix_length (proto.state p).log (proto.state (proto.after pen p call)).log (form.grows pen p call) in
      omega (arith, is, rests, grows, ap (λ q. length (proto.state q).log) after)

  -- where it enters with a history that may begin there
  pub within_begun : (c : Cluster) (i r : ℕ) (e : Entry) (p : P) → p ≡ proto.begin c i r e → IsTrue (serves (kind_of c.plan i)) → e.trimmed ≤ length e.base → may_begin c i e.trimmed ≡ true → IsWithin proto p
  within_begun c i r e p is served within begins =
      let rests : proto.trimmed p ≡ e.trimmed = ap proto.trimmed is ∙ form.begins_trimmed c i r e in
      elim (or_cases (e.trimmed == 0) (makes_checkpoints (kind_of c.plan i)) begins) [
        | inl none ↦ omega (arith, rests, eqb-true e.trimmed 0 none)
        | inr makes ↦
            let logs = ap (λ q. length (proto.state q).log) is ∙ ap length (form.logs c i r e served (no_backup (kind_of c.plan i) makes)) in
            omega (arith, rests, within, logs)
      ]
