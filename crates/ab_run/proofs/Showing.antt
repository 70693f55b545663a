-- What parties show of what was seen.
use Rattle.std.proofs.Common.{◌≡◌, ℕ, ◌+◌, ◌<◌, Bool, true, false, List, [], ◌∷◌, ◌⊎◌, take, inl, inr}
use mathlib.Core.List.{IsPrefix}
use Rattle.ab_num.specs.declared.party.Party.{Party}
use Rattle.ab_num.specs.declared.party.Party.TheVariants.{Replica}
use Rattle.ab_hist.specs.declared.request.Request.{Request}
use Rattle.ab_hist.specs.Trimmed.{Trimmed, StandsFor}
use Rattle.ab_msg.specs.declared.content.Content.{Content}
use Rattle.ab_msg.specs.declared.content.Content.TheVariants.{Abort}
use Rattle.ab_abs.specs.declared.seen.Seen.{Seen}
use Rattle.ab_abs.specs.declared.seen.Seen.TheVariants.{Invoked, Init, Cert, TrimmedInit, TrimmedCert, Committed}
use Rattle.ab_abs.specs.Acts.{WasMade}
use Rattle.ab_abs.specs.Deeds.{InstanceAct, acts_in}
use Rattle.ab_abs.specs.Observations.{is_whole_seen, init_seen, cert_seen}
use Rattle.ab_run.specs.Setups.{RunSetup}
use Rattle.ab_run.proofs.Reasons.{IsGood}

-- the list stands for h; and what it has forgotten begins the log that some correct replica stated as it aborted in instance i
pub record IsNamedList (k : RunSetup) (deeds : List InstanceAct) (i : ℕ) (h : List Request) (t : Trimmed) : Type 0 where
  pub stands : StandsFor t h
  pub known : (t.start ≡ 0) ⊎ ((q : ℕ) × IsGood k q × (l : List Request) × IsPrefix (take t.start h) l × WasMade (acts_in i deeds) (Abort (Replica q) i l))

pub named_later : (k : RunSetup) (old new : List InstanceAct) (i : ℕ) (h : List Request) (t : Trimmed) → ((j : ℕ) (s : Content) → WasMade (acts_in j old) s → WasMade (acts_in j new) s) → IsNamedList k old i h t → IsNamedList k new i h t
named_later k old new i h t later was = record {
  stands = was.stands;
  known = elim was.known [ inl none ↦ inl none | inr (q, good, l, begins, made) ↦ inr (q, good, l, begins, later i (Abort (Replica q) i l) made) ];
}

-- one of whole histories is shown as it is
pub data IsShownAs (k : RunSetup) (deeds : List InstanceAct) : Seen → Seen → Type 0 where
  as_it_is : (s : Seen) → is_whole_seen s ≡ true → IsShownAs k deeds s s
  as_init : (i r : ℕ) (h : List Request) (t : Trimmed) → IsNamedList k deeds i h t → IsShownAs k deeds (Init (i + 1) r h) (init_seen (i + 1) r t)
  as_cert : (i : ℕ) (p : Party) (h : List Request) (t : Trimmed) → IsNamedList k deeds i h t → IsShownAs k deeds (Cert i p h) (cert_seen i p t)

pub data AreShown (k : RunSetup) (deeds : List InstanceAct) : List Seen → List Seen → Type 0 where
  nothing : AreShown k deeds [] []
  also : (s t : Seen) (ss ts : List Seen) → IsShownAs k deeds s t → AreShown k deeds ss ts → AreShown k deeds (s ∷ ss) (t ∷ ts)

shown_later : (k : RunSetup) (old new : List InstanceAct) (s t : Seen) → ((j : ℕ) (c : Content) → WasMade (acts_in j old) c → WasMade (acts_in j new) c) → IsShownAs k old s t → IsShownAs k new s t
shown_later k old new s t later (as_it_is u whole) = as_it_is u whole
shown_later k old new s t later (as_init i r h l named) = as_init i r h l (named_later k old new i h l later named)
shown_later k old new s t later (as_cert i p h l named) = as_cert i p h l (named_later k old new i h l later named)

pub are_shown_later : (k : RunSetup) (old new : List InstanceAct) (ss ts : List Seen) → ((j : ℕ) (c : Content) → WasMade (acts_in j old) c → WasMade (acts_in j new) c) → AreShown k old ss ts → AreShown k new ss ts
are_shown_later k old new ss ts later nothing = nothing
are_shown_later k old new ss ts later (also s t us vs one more) = also s t us vs (shown_later k old new s t later one) (are_shown_later k old new us vs later more)
