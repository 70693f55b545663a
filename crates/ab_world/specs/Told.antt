-- What is told of a run, in a report or a summary.
use Rattle.std.specs.Prelude.{◌≡◌, ◌↔◌, ℕ, ◌+◌, ◌*◌, ◌<◌, Option, Bool, false, nat_le, List, map, reverse, slice_get, take, Some}
use Rattle.std.specs.List.{filter}
use Rattle.ab_num.specs.declared.party.Party.TheVariants.{Replica}
use Rattle.ab_hist.specs.declared.request.Request.{Request}
use Rattle.ab_text.specs.declared.event.Event.{Event}
use Rattle.ab_text.specs.declared.line.Line.{Line}
use Rattle.ab_text.specs.declared.line.Premise.{Premise}
use Rattle.ab_text.specs.declared.line.Premise.TheVariants.{Held}
use Rattle.ab_svc.specs.Machines.{Machine}
use Rattle.ab_abs.specs.Ensembles.{Proto}
use Rattle.ab_abs.specs.Instances.{EachIsAbstract}
use Rattle.ab_abs.specs.Observations.{seen_whole}
use Rattle.ab_abs.specs.Order.{Ordered}
use Rattle.ab_replica.specs.Sites.{Site}
use Rattle.ab_run.specs.declared.noted.Noted.{Noted}
use Rattle.ab_run.specs.Inputs.{events_in}
use Rattle.ab_run.specs.Runs.{Run, run, named_by}
use Rattle.ab_premise.specs.Premises.{IsPremise}
use Rattle.ab_cast.specs.Setups.{Setup, run_setup, is_bad}
use Rattle.ab_world.specs.Lines.{is_observed, line_of_noted}
use Rattle.ab_world.specs.Runs.{came_to}
use Rattle.ab_world.specs.Worlds.{World, opener, premise_of}

-- the run of these events, in a cluster that is set up so: that of what they bring to the parties' own cores
abbrev pub run_of : {P : Type 0} → Proto P → Setup → List Event → Run P
run_of proto x es = run (run_setup x) proto (events_in (opener x) (came_to proto x es))

-- it was shown in one of the first n events
abbrev pub up_to : ℕ → Noted → Bool
up_to n o = nat_le o.event n

-- the lines of observations tell what the parties of the run show, in its order: with the numbers of the first n events stands what is
-- shown in the run of these
pub record TellsSeen {P : Type 0} (proto : Proto P) (x : Setup) (es : List Event) (lines : List Line) : Type 0 where
  pub noted : List Noted
  pub told : filter is_observed lines ≡ map line_of_noted noted
  pub all : map (λ o. o.what) noted ≡ reverse (run_of proto x es).shown
  pub numbered : (n : ℕ) → map (λ o. o.what) (filter (up_to n) noted) ≡ reverse (run_of proto x (take n es)).shown

-- replica r stands where the run leaves it, with the last log that the run keeps of it there
pub record EndsThere {P : Type 0} (proto : Proto P) (x : Setup) (es : List Event) (r : ℕ) (s : Site P) : Type 0 where
  pub stands : s.rep ≡ (run_of proto x es).reps r
  pub log : (proto.state s.rep.value).log ≡ (run_of proto x es).log s.rep.at r

-- what the parties show stands for the observations of the run; these are ordered, and each instance keeps what Abstract promises of the
-- service, under the last log of each replica in each instance
pub record KeepsPromises {S P : Type 0} (machine : Machine S) (proto : Proto P) (x : Setup) (es : List Event) : Type 0 where
  pub shown : let w = run_of proto x es in
      w.seen ≡ map (seen_whole (named_by (run_setup x) w)) w.shown
  pub ordered : let w = run_of proto x es in
      Ordered machine (reverse w.seen) (named_by (run_setup x) w) (run_setup x).faulty
  pub instances : let w = run_of proto x es in
      EachIsAbstract machine (reverse w.seen) (named_by (run_setup x) w) (run_setup x).faulty

-- correct replica r was in instance i after some of the events
pub record WasIn {P : Type 0} (proto : Proto P) (x : Setup) (es : List Event) (i r : ℕ) : Type 0 where
  pub replica : r < 3 * x.cluster.f + 1
  pub correct : is_bad x (Replica r) ≡ false
  pub first : ℕ
  pub there : ((run_of proto x (take first es)).reps r).at ≡ i

-- it is the last log that the run keeps of correct replica r in instance i, and there exactly if the replica was in it
pub record IsLogIn {P : Type 0} (proto : Proto P) (x : Setup) (es : List Event) (i r : ℕ) (log : Option (List Request)) : Type 0 where
  pub was : (h : List Request) → log ≡ Some h → WasIn proto x es i r
  pub is : WasIn proto x es i r → log ≡ Some ((run_of proto x es).log i r)

-- what a world tells of the run of the events that led to it: what is shown; the logs of the correct replicas; the premise line, which is
-- that of the run, to the letter; and where it says `held` the run keeps what Abstract promises
pub record IsTold {S P : Type 0} (machine : Machine S) (proto : Proto P) (x : Setup) (es : List Event) (end : World P) : Type 0 where
  pub seen : TellsSeen proto x es end.lines
  pub logs : (r : ℕ) (s : Site P) → is_bad x (Replica r) ≡ false → slice_get end.cast.replicas r ≡ Some s → EndsThere proto x es r s
  pub exact : (line : Premise) → (premise_of end ≡ line) ↔ IsPremise (run_setup x) proto (opener x) x.faulty (came_to proto x es) line
  pub promises : premise_of end ≡ Held → KeepsPromises machine proto x es
