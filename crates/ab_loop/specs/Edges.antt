-- What is done outside: text that is written, bodies that are kept, and datagrams that are handed over.
use Rattle.std.specs.Prelude.{◌≡◌, ℕ, ◌+◌, ◌-◌, ◌^◌, ◌≤◌, min, List, [], ◌∷◌, ◌++◌, length, map, Option, Result, Ok, Err, Bool, not, ⊤, IfSome, if◌then◌else◌}
use Rattle.std.specs.Option.{option_map}
use Rattle.std.specs.List.{count_by}
use Rattle.ab_io.specs.Causes.{Rose}
use Rattle.ab_io.specs.Datagrams.{Datagram}
use Rattle.ab_io.specs.States.{LinkState, SinkState}
use Rattle.ab_disk.specs.Disks.{DiskModel, LeavesOnly}
use Rattle.ab_loop.specs.declared.party_core.Commit.{Commit}
use Rattle.ab_loop.specs.declared.fault.ServeFault.{ServeFault}
use Rattle.ab_loop.specs.declared.fault.ServeFault.TheVariants as fault

-- a number that stops at the last one
abbrev pub capped : ℕ → ℕ
capped n = min n (2 ^ 64 - 1)

-- what a node does outside: it writes a byte, begins the line of a commit, keeps a body, or hands a datagram over. Effects stand in the
-- order in which they are done: whatever stops a node, what it did is a front of them
pub data Effect : Type 0 where
  writes : ℕ → Effect
  replies : Commit → Effect
  keeps : List ℕ → Effect
  sends : Datagram → Effect

-- a text is written
abbrev pub writing : List ℕ → List Effect
writing text = map writes text

-- bodies are kept
abbrev pub keeping : List (List ℕ) → List Effect
keeping bodies = map keeps bodies

-- datagrams are handed over
abbrev pub sending : List Datagram → List Effect
sending datagrams = map sends datagrams

-- the text that is written in all
abbrev pub text_in : List Effect → List ℕ
text_in [] = []
text_in (writes byte ∷ es) = byte ∷ text_in es
text_in (replies c ∷ es) = text_in es
text_in (keeps body ∷ es) = text_in es
text_in (sends d ∷ es) = text_in es

-- the commits of which a line was begun
abbrev pub replies_in : List Effect → List Commit
replies_in [] = []
replies_in (writes byte ∷ es) = replies_in es
replies_in (replies c ∷ es) = c ∷ replies_in es
replies_in (keeps body ∷ es) = replies_in es
replies_in (sends d ∷ es) = replies_in es

-- the bodies that are kept in all
abbrev pub bodies_in : List Effect → List (List ℕ)
bodies_in [] = []
bodies_in (writes byte ∷ es) = bodies_in es
bodies_in (replies c ∷ es) = bodies_in es
bodies_in (keeps body ∷ es) = body ∷ bodies_in es
bodies_in (sends d ∷ es) = bodies_in es

-- the datagrams that are handed over in all
abbrev pub handed_in : List Effect → List Datagram
handed_in [] = []
handed_in (writes byte ∷ es) = handed_in es
handed_in (replies c ∷ es) = handed_in es
handed_in (keeps body ∷ es) = handed_in es
handed_in (sends d ∷ es) = d ∷ handed_in es

-- what keeper and disk have together, where they tell, and how often the disk has failed
pub record KeepState : Type 0 where
  pub kept : Option (List (List ℕ))
  pub faults : ℕ

abbrev pub keep_state : {D K : Type 0} → DiskModel D → (K → D → Option (List (List ℕ))) → K → D → KeepState
keep_state model kept keeper disk = record { kept = kept keeper disk; faults = model.faults disk }

-- what a node touches: the states of out and of the link, and what is kept
pub record Edge : Type 0 where
  pub out : SinkState
  pub link : LinkState
  pub keep : KeepState

abbrev pub edge : SinkState → LinkState → KeepState → Edge
edge out link keep = record { out = out; link = link; keep = keep }

-- what is known, and more behind it
abbrev pub grown : {X : Type 0} → Option (List X) → List X → Option (List X)
grown known more = option_map (λ xs. xs ++ more) known

-- those datagrams that went
abbrev pub those_gone : List Bool → List Datagram → List Datagram
those_gone [] ds = []
those_gone (w ∷ went) [] = []
those_gone (w ∷ went) (d ∷ ds) = if w then d ∷ those_gone went ds else those_gone went ds

-- the text was written, the bodies were kept, and each datagram was handed over once: it went, or it was lost
pub record Did (old new : Edge) (es : List Effect) (went : List Bool) : Type 0 where
  pub each : length went ≡ length (handed_in es)
  pub wrote : new.out.held ≡ grown old.out.held (text_in es)
  pub kept : new.keep.kept ≡ grown old.keep.kept (bodies_in es)
  pub sent : new.link.sent ≡ grown old.link.sent (those_gone went (handed_in es))

-- all of it was done, and so many datagrams were lost
pub record DidAll (old new : Edge) (es : List Effect) (lost : ℕ) : Type 0 where
  pub went : List Bool
  pub did : Did old new es went
  pub lost_are : lost ≡ capped (count_by not went)

-- a front of it was done
pub record DidPart (old new : Edge) (es : List Effect) : Type 0 where
  pub done : List Effect
  pub left : List Effect
  pub went : List Bool
  pub parts : es ≡ done ++ left
  pub did : Did old new done went

-- all of the first list was done, so many of its datagrams were lost, and then a front of the second list
pub record DidUntil (old new : Edge) (before : List Effect) (lost : ℕ) (last : List Effect) : Type 0 where
  pub between : Edge
  pub whole : DidAll old between before lost
  pub part : DidPart between new last

-- all of it, or after a fault a front of it
abbrev pub Does : {E : Type 0} → Edge → Edge → List Effect → Result ℕ E → Type 0
Does old new es (Ok lost) = DidAll old new es lost
Does old new es (Err why) = DidPart old new es

-- why a fault was answered
abbrev pub FaultCause : ServeFault → Edge → Edge → Type 0
FaultCause fault.LinkFailed old new = Rose old.link.faults new.link.faults
FaultCause fault.WriteFailed old new = Rose old.out.faults new.out.faults
FaultCause fault.KeepFailed old new = Rose old.keep.faults new.keep.faults
FaultCause fault.OutOfMemory old new = ⊤
FaultCause (fault.TurnsSpent n) old new = ⊥

-- no count of faults falls, and that of losses rises with each that is lost, as far as it can
pub record Rises (old new : Edge) (lost : ℕ) : Type 0 where
  pub link : old.link.faults ≤ new.link.faults
  pub out : old.out.faults ≤ new.out.faults
  pub keep : old.keep.faults ≤ new.keep.faults
  pub later : old.link.losses ≤ new.link.losses
  pub losses : min (old.link.losses + lost) (2 ^ 64 - 1) ≤ new.link.losses

abbrev pub Counted : Edge → Edge → Result ℕ ServeFault → Type 0
Counted old new (Ok lost) = Rises old new lost
Counted old new (Err why) = Rises old new 0 × FaultCause why old new

-- ---- one object at a time

-- the text was written, or after a fault a front of it
abbrev pub SaysPart : Option (List ℕ) → Option (List ℕ) → List ℕ → Type 0
SaysPart old new text = (front : List ℕ) × (back : List ℕ) × (text ≡ front ++ back) × (new ≡ grown old front)

abbrev pub Says : {T E : Type 0} → Option (List ℕ) → Option (List ℕ) → List ℕ → Result T E → Type 0
Says old new text (Ok t) = new ≡ grown old text
Says old new text (Err why) = SaysPart old new text

abbrev pub SayFault : ServeFault → ℕ → ℕ → Type 0
SayFault fault.LinkFailed old new = ⊥
SayFault fault.WriteFailed old new = Rose old new
SayFault fault.KeepFailed old new = ⊥
SayFault fault.OutOfMemory old new = ⊤
SayFault (fault.TurnsSpent n) old new = ⊥

abbrev pub SayCause : {T : Type 0} → ℕ → ℕ → Result T ServeFault → Type 0
SayCause old new (Ok t) = old ≤ new
SayCause old new (Err why) = (old ≤ new) × SayFault why old new

-- it was written to a sink
pub record Tells {T : Type 0} (old new : SinkState) (text : List ℕ) (result : Result T ServeFault) : Type 0 where
  pub says : Says old.held new.held text result
  pub counted : SayCause old.faults new.faults result

-- each datagram was handed over, so many were lost
pub record SentAll (old new : Option (List Datagram)) (ds : List Datagram) (lost : ℕ) : Type 0 where
  pub went : List Bool
  pub each : length went ≡ length ds
  pub sent : new ≡ grown old (those_gone went ds)
  pub lost_are : lost ≡ capped (count_by not went)

-- those at the front were
pub record SentPart (old new : Option (List Datagram)) (ds : List Datagram) : Type 0 where
  pub front : List Datagram
  pub back : List Datagram
  pub went : List Bool
  pub parts : ds ≡ front ++ back
  pub each : length went ≡ length front
  pub sent : new ≡ grown old (those_gone went front)

abbrev pub Sends : {E : Type 0} → Option (List Datagram) → Option (List Datagram) → List Datagram → Result ℕ E → Type 0
Sends old new ds (Ok lost) = SentAll old new ds lost
Sends old new ds (Err why) = SentPart old new ds

abbrev pub SendFault : ServeFault → Type 0
SendFault fault.LinkFailed = ⊥
SendFault fault.WriteFailed = ⊥
SendFault fault.KeepFailed = ⊥
SendFault fault.OutOfMemory = ⊤
SendFault (fault.TurnsSpent n) = ⊥

abbrev pub SendCause : ℕ → ℕ → Result ℕ ServeFault → Type 0
SendCause old new (Ok lost) = (old ≤ new) × (min (old + lost) (2 ^ 64 - 1) ≤ new)
SendCause old new (Err why) = (old ≤ new) × SendFault why

-- datagrams were handed to a link, and none came by that
pub record Hands (old new : LinkState) (ds : List Datagram) (result : Result ℕ ServeFault) : Type 0 where
  pub sends : Sends old.sent new.sent ds result
  pub losses : SendCause old.losses new.losses result
  pub faults : new.faults ≡ old.faults
  pub to_come : new.to_come ≡ old.to_come

-- the bodies were kept, or after a fault those at the front
abbrev pub Keeps : {T E : Type 0} → Option (List (List ℕ)) → Option (List (List ℕ)) → List (List ℕ) → Result T E → Type 0
Keeps old new bodies (Ok t) = new ≡ grown old bodies
Keeps old new bodies (Err why) = (front : List (List ℕ)) × (back : List (List ℕ)) × (bodies ≡ front ++ back) × (new ≡ grown old front)

abbrev pub KeepFailure : ServeFault → ℕ → ℕ → Type 0
KeepFailure fault.LinkFailed old new = ⊥
KeepFailure fault.WriteFailed old new = ⊥
KeepFailure fault.KeepFailed old new = Rose old new
KeepFailure fault.OutOfMemory old new = ⊤
KeepFailure (fault.TurnsSpent n) old new = ⊥

abbrev pub KeepCause : {T : Type 0} → ℕ → ℕ → Result T ServeFault → Type 0
KeepCause old new (Ok t) = old ≤ new
KeepCause old new (Err why) = (old ≤ new) × KeepFailure why old new

-- bodies were kept
pub record Retains {T : Type 0} (old new : KeepState) (bodies : List (List ℕ)) (result : Result T ServeFault) : Type 0 where
  pub keeps : Keeps old.kept new.kept bodies result
  pub counted : KeepCause old.faults new.faults result

-- ---- a crash

-- what is known of a crash in a time in which these bodies were to be kept
abbrev pub Crash : Type 1
Crash = List (List ℕ) → Type 0

-- the bodies from before, and a front of more
pub record HasFront (before more all : List (List ℕ)) : Type 0 where
  pub front : List (List ℕ)
  pub back : List (List ℕ)
  pub parts : more ≡ front ++ back
  pub all_is : all ≡ before ++ front

-- A crash at any moment of what took a disk from old to new leaves the bodies from before, where they are told, and a front of more.
abbrev pub LeavesFront : {D : Type 0} → DiskModel D → (List ℕ → List (List ℕ)) → Option (List (List ℕ)) → D → D → Crash
LeavesFront model list_of kept old new more = IfSome kept (λ before. LeavesOnly model old new (λ c. HasFront before more (list_of c)))
