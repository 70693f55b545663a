-- The events of earlier runs, one after the other.
use Rattle.std.proofs.Common.{◌≡◌, ℕ, zero, suc, ◌+◌, List, [], ◌∷◌, ◌++◌, drop, Option, Some, Bool, false, refl, ap, sym, ◌∙◌, append_assoc, append-nil, arith}
use Rattle.std.specs.Prelude.{slice_get}
use Rattle.std.proofs.lemmas.Option.{same_Some}
use Rattle.ab_loop.specs.Settings.{NodeSetting}
use Rattle.ab_loop.specs.Cores.{NodeEvent, Rules}
use Rattle.ab_loop.specs.Edges.{SaysPart, grown}
use Rattle.ab_loop.specs.Nodes.{Node, line_again, node_again, past_node, past_text, trace_text, waits_after, waits_in}
use Rattle.ab_loop.proofs.OutsideLemmas.{grown_nil, grown_then}

-- the events from a place on, where one stands there
rest_from : (es : List NodeEvent) (i : ℕ) (e : NodeEvent) → slice_get es i ≡ Some e → drop i es ≡ e ∷ drop (i + 1) es
rest_from [] i e is = cc
rest_from (x ∷ es) zero e is = ap (λ (y : NodeEvent). y ∷ es) (same_Some x e is)
rest_from (x ∷ es) (suc i) e is = let step : suc i + 1 ≡ suc (i + 1) = omega arith in rest_from es i e is ∙ ap (λ (n : ℕ). e ∷ drop n (x ∷ es)) (sym step)

-- so far: what is left leads to the same as all of them, and the text so far stands before that of what is left
pub record Restoring {C : Type 0} (rules : Rules C) (s : NodeSetting) (t : ℕ) (past : List NodeEvent) (first now : Node C) (waits : Bool) (old new : Option (List ℕ)) (i : ℕ) : Type 0 where
  pub text : List ℕ
  pub node : past_node rules s t (drop i past) now ≡ past_node rules s t past first
  pub waits_is : waits_in rules now.core waits (drop i past) ≡ waits_in rules first.core false past
  pub wrote : new ≡ grown old text
  pub parts : text ++ past_text rules s now.core (drop i past) ≡ past_text rules s first.core past

module _ {C : Type 0} (rules : Rules C) (s : NodeSetting) (t : ℕ) (past : List NodeEvent) (first : Node C) where
  pub restoring_begins : (old : Option (List ℕ)) → Restoring rules s t past first first false old old 0
  restoring_begins old = record { text = []; node = refl; waits_is = refl; wrote = grown_nil old; parts = refl }

  -- the text of one event
  abbrev one_text : Node C → NodeEvent → List ℕ
  one_text n e = trace_text s e ++ line_again (rules.step n.core e).commit

  pub restoring_next : (now next : Node C) (waits still : Bool) (old new newer : Option (List ℕ)) (i : ℕ) (e : NodeEvent) → Restoring rules s t past first now waits old new i → slice_get past i ≡ Some e
      → next ≡ node_again rules s t now (rules.step now.core e) → still ≡ waits_after waits e (rules.step now.core e).commit → newer ≡ grown new (one_text now e)
      → Restoring rules s t past first next still old newer (i + 1)
  restoring_next now next waits still old new newer i e r at same waited wrote =
      let rest = rest_from past i e at in
      let later = drop (i + 1) past in
      let after = (rules.step now.core e).after in
      let core : next.core ≡ after = ap (λ (n : Node C). n.core) same in
      record {
        text = r.text ++ one_text now e;
        node = ap (past_node rules s t later) same ∙ ap (λ (es : List NodeEvent). past_node rules s t es now) (sym rest) ∙ r.node;
        waits_is = ap (λ (c : C). waits_in rules c still later) core ∙ ap (λ (b : Bool). waits_in rules after b later) waited ∙ ap (λ (es : List NodeEvent). waits_in rules now.core waits es) (sym rest) ∙ r.waits_is;
        wrote = wrote ∙ ap (λ k. grown k (one_text now e)) r.wrote ∙ grown_then old r.text (one_text now e);
        parts = append_assoc r.text (one_text now e) (past_text rules s next.core later)
            ∙ ap (λ (c : C). r.text ++ (one_text now e ++ past_text rules s c later)) core
            ∙ ap (λ (es : List NodeEvent). r.text ++ past_text rules s now.core es) (sym rest) ∙ r.parts;
      }

  -- in the next event the text was not written whole
  pub restoring_breaks : (now : Node C) (waits : Bool) (old new newer : Option (List ℕ)) (i : ℕ) (e : NodeEvent) → Restoring rules s t past first now waits old new i → slice_get past i ≡ Some e
      → SaysPart new newer (one_text now e) → SaysPart old newer (past_text rules s first.core past)
  restoring_breaks now waits old new newer i e r at p =
      let rest = rest_from past i e at in
      let later = past_text rules s (rules.step now.core e).after (drop (i + 1) past) in
      let whole : past_text rules s first.core past ≡ (r.text ++ p.0) ++ (p.1 ++ later) =
      sym r.parts ∙ ap (λ (es : List NodeEvent). r.text ++ past_text rules s now.core es) rest ∙ ap (λ (l : List ℕ). r.text ++ (l ++ later)) p.2
      ∙ ap (λ (l : List ℕ). r.text ++ l) (append_assoc p.0 p.1 later) ∙ sym (append_assoc r.text p.0 (p.1 ++ later)) in
      (r.text ++ p.0, p.1 ++ later, whole, p.3 ∙ ap (λ k. grown k p.0) r.wrote ∙ grown_then old r.text p.0)

  -- all of them
  pub restored_node : (now : Node C) (waits : Bool) (old new : Option (List ℕ)) (i : ℕ) → Restoring rules s t past first now waits old new i → drop i past ≡ [] → now ≡ past_node rules s t past first
  restored_node now waits old new i r none = ap (λ (es : List NodeEvent). past_node rules s t es now) (sym none) ∙ r.node

  pub restored_waits : (now : Node C) (waits : Bool) (old new : Option (List ℕ)) (i : ℕ) → Restoring rules s t past first now waits old new i → drop i past ≡ [] → waits ≡ waits_in rules first.core false past
  restored_waits now waits old new i r none = ap (λ (es : List NodeEvent). waits_in rules now.core waits es) (sym none) ∙ r.waits_is

  pub restored_text : (now : Node C) (waits : Bool) (old new : Option (List ℕ)) (i : ℕ) → Restoring rules s t past first now waits old new i → drop i past ≡ [] → new ≡ grown old (past_text rules s first.core past)
  restored_text now waits old new i r none =
      let whole : r.text ≡ past_text rules s first.core past = sym (append-nil r.text) ∙ ap (λ (es : List NodeEvent). r.text ++ past_text rules s now.core es) (sym none) ∙ r.parts in
      r.wrote ∙ ap (grown old) whole
