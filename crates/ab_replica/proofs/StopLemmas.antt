-- What a stop leaves of what a replica states.
use Rattle.std.proofs.Common.{◌≡◌, ℕ, zero, suc, ◌+◌, Bool, true, false, Option, None, Some, List, [], ◌∷◌, if◌then◌else◌, take, drop, sym, ap, ◌∙◌}
use Rattle.ab_num.specs.declared.party.Party.TheVariants.{Replica}
use Rattle.ab_num.specs.declared.plan.Kind.{Kind}
use Rattle.ab_num.specs.Places.{kind_of}
use Rattle.ab_hist.specs.Digests.{digest_of}
use Rattle.ab_msg.specs.declared.content.Content.{Content}
use Rattle.ab_msg.specs.declared.content.Content.TheVariants.{Abort, AbortZ, TrimmedAbort}
use Rattle.ab_msg.specs.declared.signed.Signed.{Signed}
use Rattle.ab_msg.specs.declared.message.Out.{Out}
use Rattle.ab_msg.specs.Pens.{Pen}
use Rattle.ab_abs.specs.declared.seen.Seen.{Seen}
use Rattle.ab_abs.specs.declared.rule.ReplyRule.{ReplyRule}
use Rattle.ab_abs.specs.declared.rule.ReplyRule.TheVariants as rules
use Rattle.ab_abs.specs.Acts.{State, abort_content}
use Rattle.ab_abs.specs.Kinds.{rule_of}
use Rattle.ab_abs.specs.Ensembles.{Proto}
use Rattle.ab_abs.specs.FormLaws.{KeepsForm}
use Rattle.ab_run.specs.Checkpoints.{abort_after}
use Rattle.ab_run.specs.Replicas.{turn_halt, abort_to, aborting, aborting_with, halting}
use Rattle.ab_replica.specs.Sites.{Site, setup_of, stated_by}
use Rattle.ab_replica.specs.Doings.{Does}
use Rattle.ab_replica.proofs.TurnLemmas.{does_all, does_none, same_effects, was_spent, was_taken}

-- an ABORT holds no more of a state than its log and its certificate of answers
alike : (rule : ReplyRule) (i r : ℕ) (a b : State) → a.log ≡ b.log → a.zcert ≡ b.zcert → abort_content rule i r a ≡ abort_content rule i r b
alike rules.All i r a b logs zcerts = ap (λ h. Abort (Replica r) i h) logs
alike (rules.Equal q) i r a b logs zcerts = ap (λ h. Abort (Replica r) i h) logs
alike rules.Tail i r a b logs zcerts = ap (λ h. Abort (Replica r) i h) logs
alike rules.Certified i r a b logs zcerts = ap (λ h. AbortZ (Replica r) i h a.zcert) logs ∙ ap (λ z. AbortZ (Replica r) i b.log z) zcerts

alike_after : (n : ℕ) (rule : ReplyRule) (i r : ℕ) (a b : State) → a.log ≡ b.log → a.zcert ≡ b.zcert → abort_after n rule i r a ≡ abort_after n rule i r b
alike_after zero rule i r a b logs zcerts = alike rule i r a b logs zcerts
alike_after (suc n) rule i r a b logs zcerts = ap (λ h. TrimmedAbort (Replica r) i (suc n) (digest_of (take (suc n) h)) (drop (suc n) h)) logs

pub halted_states : {P : Type 0} (proto : Proto P) (serves : Kind → Bool) (form : KeepsForm proto serves) (s : Site P)
    → stated_by proto s (proto.halt s.rep.value) ≡ stated_by proto s s.rep.value
halted_states proto serves form s =
    let v = s.rep.value in
    let rule = rule_of (kind_of s.cluster.plan s.rep.at) s.cluster.f in
    ap (λ n. abort_after n rule s.rep.at s.me (proto.state (proto.halt v))) (form.trimmed_rests v)
    ∙ alike_after (proto.trimmed v) rule s.rep.at s.me (proto.state (proto.halt v)) (proto.state v) (form.halts v).0 (form.zcert_rests v)

module _ {P : Type 0} (proto : Proto P) (pen : Pen) (s : Site P) (client : ℕ) where
  -- a replica with its value stopped
  abbrev pub stopped : Site P → Site P
  stopped t = record t { rep = record t.rep { value = proto.halt t.rep.value } }

  -- as it is stopped, its ABORT signed with a content
  abbrev signs : Content → Signed
  signs content = record { maker = s.me; content = content; sig = pen.sig content s.rep.used }

  abbrev signed : Content → Site P
  signed content = record s { rep = record s.rep { value = proto.halt s.rep.value; abort = Some (signs content); used = s.rep.used + 1 }; entries = s.entries + 0 }

  -- one that sends its ABORT and then stops does as if it had stopped first
  pub stops_taken : (abort : Option Signed) (mid now : Site P) (outs : List Out) (marks : List Seen) → stated_by proto s (proto.halt s.rep.value) ≡ stated_by proto s s.rep.value
      → Does proto pen s (aborting_with client abort) mid outs marks false → now ≡ stopped mid → Does proto pen s (turn_halt ∷ aborting_with client abort) now outs marks false
  stops_taken None mid now outs marks states does is =
      let was = was_taken proto pen s (aborting_with client None) mid outs marks does in
      does_all proto pen s (turn_halt ∷ aborting_with client None) now outs marks was.fits
      (is ∙ ap stopped was.after ∙ ap signed (sym states))
      (was.sends ∙ ap (λ content. abort_to client (Some (signs content))) (sym states))
      was.shows
  stops_taken (Some abort) mid now outs marks states does is =
      let was = was_taken proto pen s (aborting_with client (Some abort)) mid outs marks does in
      does_all proto pen s (turn_halt ∷ aborting_with client (Some abort)) now outs marks was.fits (is ∙ ap stopped was.after) was.sends was.shows

  -- and where that is spent, neither is done
  pub stops_spent : (abort : Option Signed) (mid now : Site P) (outs : List Out) (marks : List Seen)
      → Does proto pen s (aborting_with client abort) mid outs marks true → now ≡ mid → Does proto pen s (turn_halt ∷ aborting_with client abort) now outs marks true
  stops_spent None mid now outs marks does is =
      let was = was_spent proto pen s (aborting_with client None) mid outs marks does in
      same_effects proto pen s (turn_halt ∷ aborting_with client None) now outs marks true (is ∙ was.stays) was.silent was.unseen (does_none proto pen s (turn_halt ∷ aborting_with client None) was.over)
  stops_spent (Some abort) mid now outs marks does is =
      let was = was_spent proto pen s (aborting_with client (Some abort)) mid outs marks does in
      same_effects proto pen s (turn_halt ∷ aborting_with client (Some abort)) now outs marks true (is ∙ was.stays) was.silent was.unseen (does_none proto pen s (turn_halt ∷ aborting_with client (Some abort)) was.over)

  -- what a stop asks for where it stops the replica
  pub halting_is : (before after : Bool) → before ≡ (proto.state s.rep.value).stopped → before ≡ false → after ≡ (proto.state (proto.halt s.rep.value)).stopped → after ≡ true
      → turn_halt ∷ aborting (setup_of s pen) proto client s.rep ≡ halting (setup_of s pen) proto client s.rep
  halting_is before after is runs will stops =
      ap (λ b. turn_halt ∷ (if b then aborting (setup_of s pen) proto client s.rep else [])) (sym stops ∙ will)
      ∙ ap (λ b. if b then aborting (setup_of s pen) proto client s.rep else (turn_halt ∷ (if (proto.state (proto.halt s.rep.value)).stopped then aborting (setup_of s pen) proto client s.rep else []))) (sym runs ∙ is)
