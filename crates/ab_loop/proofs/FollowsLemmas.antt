-- Code that goes along a definition, one step after the other.
use Rattle.std.proofs.Common.{◌≡◌, ℕ, ◌+◌, ◌≤◌, List, [], ◌∷◌, ◌++◌, Option, None, Some, Result, Ok, Err, OnErr, OnOk, IfSome, refl, ap, sym, subst, ◌∙◌, append-nil, arith}
use Rattle.ab_io.specs.Causes.{Rose}
use Rattle.ab_io.specs.Datagrams.{Datagram, given_of, Gives}
use Rattle.ab_io.specs.States.{LinkState, SinkState}
use Rattle.ab_io.specs.declared.link.Got.TheVariants.{Quiet}
use Rattle.ab_loop.specs.declared.fault.ServeFault.{ServeFault}
use Rattle.ab_loop.specs.declared.fault.ServeFault.TheVariants as fault
use Rattle.ab_loop.specs.declared.party_core.Commit.{Commit}
use Rattle.ab_loop.specs.Edges.{capped, Effect, replies, writing, keeping, sending, bodies_in, KeepState, Edge, edge, grown, DidAll, DidPart, SaysPart, Sends, Does, Rises, FaultCause, Counted, SayFault, SendCause, SendFault, KeepFailure, Crash}
use Rattle.ab_loop.specs.Texts.{reply_text}
use Rattle.ab_loop.specs.Nodes.{Node, Out, no_step, told_step, and_then, Follows, IsNext}
use Rattle.ab_loop.proofs.CrashLemmas.{Grows, Joins}
use Rattle.ab_loop.proofs.DidLemmas.{all_after, all_begun, all_kept, all_nothing, all_said, all_sent, all_then, bodies_in-append, bodies_in-keeping, bodies_in-sending, bodies_in-writing, part_after, part_before, part_first, part_kept, part_none, part_said, part_sent, part_then}

-- ---- counts

pub rises_same : (o : Edge) → Rises o o 0
rises_same o = record { link = omega arith; out = omega arith; keep = omega arith; later = omega arith; losses = omega arith }

pub rises_then : (o1 o2 o3 : Edge) (l m n : ℕ) → n ≡ capped (l + m) → Rises o1 o2 l → Rises o2 o3 m → Rises o1 o3 n
rises_then o1 o2 o3 l m n e a b = record {
  link = omega (arith, a.link, b.link);
  out = omega (arith, a.out, b.out);
  keep = omega (arith, a.keep, b.keep);
  later = omega (arith, a.later, b.later);
  losses = omega (arith, a.later, b.later, a.losses, b.losses);
}

pub rises_some : (o1 o2 : Edge) (l : ℕ) → Rises o1 o2 l → Rises o1 o2 0
rises_some o1 o2 l a = record { link = a.link; out = a.out; keep = a.keep; later = a.later; losses = omega (arith, a.later) }

pub cause_later : (why : ServeFault) (o1 o2 o3 : Edge) (l : ℕ) → Rises o1 o2 l → FaultCause why o2 o3 → FaultCause why o1 o3
cause_later fault.LinkFailed o1 o2 o3 l a c = omega (arith, a.link)
cause_later fault.WriteFailed o1 o2 o3 l a c = omega (arith, a.out)
cause_later fault.KeepFailed o1 o2 o3 l a c = omega (arith, a.keep)
cause_later fault.OutOfMemory o1 o2 o3 l a c = tt
cause_later (fault.TurnsSpent n) o1 o2 o3 l a c = absurd c

-- ---- steps

pub on_ok : {T E P : Type 0} (r : Result T E) → P → OnOk r P
on_ok (Ok t) p = p
on_ok (Err e) p = tt

pub on_err : {T E P : Type 0} (r : Result T E) → P → OnErr r P
on_err (Ok t) p = tt
on_err (Err e) p = p

pub follows_still : {C : Type 0} (n : Node C) (o : Edge) (crash : Crash) → crash [] → Follows n o o crash (no_step n) (Ok 0)
follows_still n o crash still = record { node = refl; did = all_nothing o; counted = rises_same o; any_moment = still }

pub follows_stays : {C : Type 0} (n m : Node C) (o : Edge) (crash : Crash) → crash [] → n ≡ m → Follows n o o crash (no_step m) (Ok 0)
follows_stays n m o crash still e = record { node = e; did = all_nothing o; counted = rises_same o; any_moment = still }

-- what a crash leaves of two lists of effects
pub crash_both : (o1 o2 : Edge) (c1 c2 c3 : Crash) (x y : List Effect) → Joins o1 o2 c1 c2 c3 → o2.keep.kept ≡ grown o1.keep.kept (bodies_in x) → c1 (bodies_in x) → c2 (bodies_in y) → c3 (bodies_in (x ++ y))
crash_both o1 o2 c1 c2 c3 x y join kept a b = subst c3 (sym (bodies_in-append x y)) (join (bodies_in x) (bodies_in y) kept a b)

pub crash_first : (crash : Crash) (x y : List Effect) → Grows crash → crash (bodies_in x) → crash (bodies_in (x ++ y))
crash_first crash x y grows a = subst crash (sym (bodies_in-append x y)) (grows (bodies_in x) (bodies_in y) a)

pub follows_both : {C : Type 0} (n1 n2 : Node C) (o1 o2 o3 : Edge) (c1 c2 c3 : Crash) → Joins o1 o2 c1 c2 c3 → (a : Out C) (f : Node C → Out C) (l m n : ℕ) → n ≡ capped (l + m)
    → Follows n1 o1 o2 c1 a (Ok l) → Follows n2 o2 o3 c2 (f n1) (Ok m) → Follows n2 o1 o3 c3 (and_then a f) (Ok n)
follows_both n1 n2 o1 o2 o3 c1 c2 c3 join a f l m n e first second =
    let there = subst (λ (x : Node _). Follows n2 o2 o3 c2 (f x) (Ok m)) first.node second in
    record {
      node = there.node;
      did = subst (λ (x : ℕ). DidAll o1 o3 (a.effects ++ (f a.node).effects) x) (sym e) (all_then o1 o2 o3 a.effects (f a.node).effects l m first.did there.did);
      counted = rises_then o1 o2 o3 l m n e first.counted there.counted;
      any_moment = crash_both o1 o2 c1 c2 c3 a.effects (f a.node).effects join first.did.did.kept first.any_moment there.any_moment;
    }

pub follows_first_err : {C : Type 0} (n1 : Node C) (o1 o2 : Edge) (crash : Crash) → Grows crash → (a : Out C) (f : Node C → Out C) (why : ServeFault)
    → Follows n1 o1 o2 crash a (Err why) → Follows n1 o1 o2 crash (and_then a f) (Err why)
follows_first_err n1 o1 o2 crash grows a f why first = record {
  node = tt;
  did = part_first o1 o2 a.effects (f a.node).effects first.did;
  counted = first.counted;
  any_moment = crash_first crash a.effects (f a.node).effects grows first.any_moment;
}

pub follows_second_err : {C : Type 0} (n1 n2 : Node C) (o1 o2 o3 : Edge) (c1 c2 c3 : Crash) → Joins o1 o2 c1 c2 c3 → (a : Out C) (f : Node C → Out C) (l : ℕ) (why : ServeFault)
    → Follows n1 o1 o2 c1 a (Ok l) → Follows n2 o2 o3 c2 (f n1) (Err why) → Follows n2 o1 o3 c3 (and_then a f) (Err why)
follows_second_err n1 n2 o1 o2 o3 c1 c2 c3 join a f l why first second =
    let there = subst (λ (x : Node _). Follows n2 o2 o3 c2 (f x) (Err why)) first.node second in
    record {
      node = tt;
      did = part_then o1 o2 o3 a.effects (f a.node).effects l first.did there.did;
      counted = (rises_some o1 o3 (capped (l + 0)) (rises_then o1 o2 o3 l 0 (capped (l + 0)) refl first.counted there.counted.0), cause_later why o1 o2 o3 l first.counted there.counted.1);
      any_moment = crash_both o1 o2 c1 c2 c3 a.effects (f a.node).effects join first.did.did.kept first.any_moment there.any_moment;
    }

-- ---- one event

done_of : (l : ℕ) (o1 o2 : Edge) (e : List Effect) → DidAll o1 o2 e l → capped (0 + l) ≡ l
done_of l o1 o2 e d = omega (arith, d.lost_are)

-- effects of which none is lost, and then more
does_then : (o1 o2 o3 : Edge) (a b : List Effect) (r : Result ℕ ServeFault) → DidAll o1 o2 a 0 → Does o2 o3 b r → Does o1 o3 (a ++ b) r
does_then o1 o2 o3 a b (Ok l) first second = subst (λ (x : ℕ). DidAll o1 o3 (a ++ b) x) (done_of l o2 o3 b second) (all_then o1 o2 o3 a b 0 l first second)
does_then o1 o2 o3 a b (Err why) first second = part_then o1 o2 o3 a b 0 first second

does_sent : (out : SinkState) (a b : LinkState) (k : KeepState) (ds : List Datagram) (r : Result ℕ ServeFault) → Sends a.sent b.sent ds r → Does (edge out a k) (edge out b k) (sending ds) r
does_sent out a b k ds (Ok l) sends = all_sent out a b k ds l sends
does_sent out a b k ds (Err why) sends = part_sent out a b k ds sends

-- what an event does: its line, its body, its datagrams
abbrev pub event_effects : List ℕ → List (List ℕ) → List Datagram → List Effect
event_effects text bodies ds = writing text ++ (keeping bodies ++ sending ds)

pub event_bodies : (text : List ℕ) (bodies : List (List ℕ)) (ds : List Datagram) → bodies_in (event_effects text bodies ds) ≡ bodies
event_bodies text bodies ds =
    bodies_in-append (writing text) (keeping bodies ++ sending ds) ∙ ap (λ (l : List (List ℕ)). l ++ bodies_in (keeping bodies ++ sending ds)) (bodies_in-writing text)
    ∙ bodies_in-append (keeping bodies) (sending ds) ∙ ap (λ (l : List (List ℕ)). l ++ bodies_in (sending ds)) (bodies_in-keeping bodies)
    ∙ ap (λ (l : List (List ℕ)). bodies ++ l) (bodies_in-sending ds) ∙ append-nil bodies

pub event_crash : (crash : Crash) (text : List ℕ) (shown bodies : List (List ℕ)) (ds : List Datagram) → shown ≡ bodies → crash shown → crash (bodies_in (event_effects text bodies ds))
event_crash crash text shown bodies ds same h = subst crash (same ∙ sym (event_bodies text bodies ds)) h

pub event_does : (a b : SinkState) (l m : LinkState) (j k : KeepState) (text : List ℕ) (shown bodies : List (List ℕ)) (ds : List Datagram) (r : Result ℕ ServeFault)
    → shown ≡ bodies → b.held ≡ grown a.held text → k.kept ≡ grown j.kept shown → Sends l.sent m.sent ds r → Does (edge a l j) (edge b m k) (event_effects text bodies ds) r
event_does a b l m j k text shown bodies ds r same wrote kept sends =
    does_then (edge a l j) (edge b l j) (edge b m k) (writing text) (keeping bodies ++ sending ds) r (all_said a b l j text wrote)
    (does_then (edge b l j) (edge b l k) (edge b m k) (keeping bodies) (sending ds) r (all_kept b l j k bodies (kept ∙ ap (grown j.kept) same)) (does_sent b l m k ds r sends))

-- its body may not be kept
pub event_unkept : (a b : SinkState) (l : LinkState) (j k : KeepState) (text : List ℕ) (shown bodies : List (List ℕ)) (ds : List Datagram)
    → shown ≡ bodies → b.held ≡ grown a.held text → ((front : List (List ℕ)) × (back : List (List ℕ)) × (shown ≡ front ++ back) × (k.kept ≡ grown j.kept front))
    → DidPart (edge a l j) (edge b l k) (event_effects text bodies ds)
event_unkept a b l j k text shown bodies ds same wrote p =
    part_then (edge a l j) (edge b l j) (edge b l k) (writing text) (keeping bodies ++ sending ds) 0 (all_said a b l j text wrote)
    (part_first (edge b l j) (edge b l k) (keeping bodies) (sending ds) (part_kept b l j k bodies p.0 p.1 (sym same ∙ p.2) p.3))

send_fault : (why : ServeFault) (o1 o2 : Edge) → SendFault why → FaultCause why o1 o2
send_fault fault.LinkFailed o1 o2 c = absurd c
send_fault fault.WriteFailed o1 o2 c = absurd c
send_fault fault.KeepFailed o1 o2 c = absurd c
send_fault fault.OutOfMemory o1 o2 c = tt
send_fault (fault.TurnsSpent n) o1 o2 c = absurd c

keep_fault : (why : ServeFault) (o1 o2 : Edge) → KeepFailure why o1.keep.faults o2.keep.faults → FaultCause why o1 o2
keep_fault fault.LinkFailed o1 o2 c = absurd c
keep_fault fault.WriteFailed o1 o2 c = absurd c
keep_fault fault.KeepFailed o1 o2 c = c
keep_fault fault.OutOfMemory o1 o2 c = tt
keep_fault (fault.TurnsSpent n) o1 o2 c = absurd c

pub event_counts : (a b : SinkState) (l m : LinkState) (j k : KeepState) (r : Result ℕ ServeFault) → a.faults ≤ b.faults → j.faults ≤ k.faults → m.faults ≡ l.faults
    → SendCause l.losses m.losses r → Counted (edge a l j) (edge b m k) r
event_counts a b l m j k (Ok n) out keep link cause = record { link = omega (arith, link); out = out; keep = keep; later = cause.0; losses = cause.1 }
event_counts a b l m j k (Err why) out keep link cause =
    (record { link = omega (arith, link); out = out; keep = keep; later = cause.0; losses = omega (arith, cause.0) }, send_fault why _ _ cause.1)

pub unkept_counts : (a b : SinkState) (l : LinkState) (j k : KeepState) (why : ServeFault) → a.faults ≤ b.faults → j.faults ≤ k.faults → KeepFailure why j.faults k.faults
    → Counted (edge a l j) (edge b l k) (Err why)
unkept_counts a b l j k why out keep c =
    (record { link = omega arith; out = out; keep = keep; later = omega arith; losses = omega arith }, keep_fault why (edge a l j) (edge b l k) c)

pub say_fault : (why : ServeFault) (a b : SinkState) (l : LinkState) (k : KeepState) → SayFault why a.faults b.faults → FaultCause why (edge a l k) (edge b l k)
say_fault fault.LinkFailed a b l k c = absurd c
say_fault fault.WriteFailed a b l k c = c
say_fault fault.KeepFailed a b l k c = absurd c
say_fault fault.OutOfMemory a b l k c = tt
say_fault (fault.TurnsSpent n) a b l k c = absurd c

-- a sink was written to
rises_said : (a b : SinkState) (l : LinkState) (k : KeepState) → a.faults ≤ b.faults → Rises (edge a l k) (edge b l k) 0
rises_said a b l k out = record { link = omega arith; out = out; keep = omega arith; later = omega arith; losses = omega arith }

-- the line was not written whole
pub line_failed : (a b : SinkState) (l : LinkState) (k : KeepState) (why : ServeFault) → a.faults ≤ b.faults → SayFault why a.faults b.faults → Counted (edge a l k) (edge b l k) (Err why)
line_failed a b l k why out c = (rises_said a b l k out, say_fault why a b l k c)

pub line_part : (a b : SinkState) (l : LinkState) (k : KeepState) (text : List ℕ) (rest : List Effect) → SaysPart a.held b.held text → DidPart (edge a l k) (edge b l k) (writing text ++ rest)
line_part a b l k text rest p = part_first (edge a l k) (edge b l k) (writing text) rest (part_said a b l k text p)

-- the line was written, and nothing else
pub line_alone : (a b : SinkState) (l : LinkState) (k : KeepState) (text : List ℕ) (rest : List Effect) → b.held ≡ grown a.held text → DidPart (edge a l k) (edge b l k) (writing text ++ rest)
line_alone a b l k text rest wrote = part_then (edge a l k) (edge b l k) (edge b l k) (writing text) rest 0 (all_said a b l k text wrote) (part_none (edge b l k) rest)

pub want_memory : (a b : SinkState) (l : LinkState) (k : KeepState) → a.faults ≤ b.faults → Counted (edge a l k) (edge b l k) (Err fault.OutOfMemory)
want_memory a b l k out = (rises_said a b l k out, tt)

-- ---- what the link gives

pub next_of : Option (List (List ℕ)) → Option (List ℕ)
next_of None = None
next_of (Some []) = None
next_of (Some (d ∷ ds)) = Some (given_of d)

pub next_is : (known : Option (List (List ℕ))) → IfSome known (λ datagrams. IsNext datagrams (next_of known))
unfolding next_of
next_is None = tt
next_is (Some []) = refl
next_is (Some (d ∷ ds)) = refl

-- ---- forms of steps

-- an allocation failed before anything was done
pub follows_wanting : {C : Type 0} (n : Node C) (o : Edge) (crash : Crash) (out : Out C) → crash (bodies_in out.effects) → Follows n o o crash out (Err fault.OutOfMemory)
follows_wanting n o crash out still = record { node = tt; did = part_none o out.effects; counted = (rises_same o, tt); any_moment = still }

pub follows_is : {C : Type 0} (n : Node C) (o1 o2 : Edge) (crash : Crash) (a b : Out C) (r : Result ℕ ServeFault) → b ≡ a → Follows n o1 o2 crash a r → Follows n o1 o2 crash b r
follows_is n o1 o2 crash a b r e g = subst (λ (x : Out _). Follows n o1 o2 crash x r) (sym e) g

-- a step in which nothing was lost, and then one of either answer
pub follows_then : {C : Type 0} (n1 n2 : Node C) (o1 o2 o3 : Edge) (c1 c2 c3 : Crash) → Joins o1 o2 c1 c2 c3 → (a : Out C) (f : Node C → Out C) (r : Result ℕ ServeFault)
    → Follows n1 o1 o2 c1 a (Ok 0) → Follows n2 o2 o3 c2 (f n1) r → Follows n2 o1 o3 c3 (and_then a f) r
follows_then n1 n2 o1 o2 o3 c1 c2 c3 join a f (Ok m) first second =
    follows_both n1 n2 o1 o2 o3 c1 c2 c3 join a f 0 m m (sym (done_of m o2 o3 (f n1).effects second.did)) first second
follows_then n1 n2 o1 o2 o3 c1 c2 c3 join a f (Err why) first second = follows_second_err n1 n2 o1 o2 o3 c1 c2 c3 join a f 0 why first second

-- the line of a commit was written
told_bodies : (c : Commit) → [] ≡ bodies_in (replies c ∷ writing (reply_text c))
told_bodies c = sym (bodies_in-writing (reply_text c))

pub follows_said : {C : Type 0} (n m : Node C) (a b : SinkState) (l : LinkState) (k : KeepState) (crash : Crash) (c : Commit) → crash [] → n ≡ m → b.held ≡ grown a.held (reply_text c) → a.faults ≤ b.faults
    → Follows n (edge a l k) (edge b l k) crash (told_step m c) (Ok 0)
follows_said n m a b l k crash c still same wrote out = record {
  node = same;
  did = all_then (edge a l k) (edge a l k) (edge b l k) (replies c ∷ []) (writing (reply_text c)) 0 0 (all_begun (edge a l k) c) (all_said a b l k (reply_text c) wrote);
  counted = rises_said a b l k out;
  any_moment = subst crash (told_bodies c) still;
}

-- and not whole
pub follows_unsaid : {C : Type 0} (n m : Node C) (a b : SinkState) (l : LinkState) (k : KeepState) (crash : Crash) (c : Commit) (why : ServeFault)
    → crash [] → SaysPart a.held b.held (reply_text c) → a.faults ≤ b.faults → SayFault why a.faults b.faults
    → Follows n (edge a l k) (edge b l k) crash (told_step m c) (Err why)
follows_unsaid n m a b l k crash c why still part out cause = record {
  node = tt;
  did = part_then (edge a l k) (edge a l k) (edge b l k) (replies c ∷ []) (writing (reply_text c)) 0 (all_begun (edge a l k) c) (part_said a b l k (reply_text c) part);
  counted = line_failed a b l k why out cause;
  any_moment = subst crash (told_bodies c) still;
}

-- lines of earlier runs were written again
pub follows_again : {C : Type 0} (n : Node C) (o : Out C) (a b : SinkState) (l : LinkState) (k : KeepState) (crash : Crash) (text : List ℕ) → crash [] → o.effects ≡ writing text → n ≡ o.node
    → b.held ≡ grown a.held text → a.faults ≤ b.faults → Follows n (edge a l k) (edge b l k) crash o (Ok 0)
follows_again n o a b l k crash text still is same wrote out = record {
  node = same;
  did = subst (λ (es : List Effect). DidAll (edge a l k) (edge b l k) es 0) (sym is) (all_said a b l k text wrote);
  counted = rises_said a b l k out;
  any_moment = subst crash (sym (ap bodies_in is ∙ bodies_in-writing text)) still;
}

pub follows_not_again : {C : Type 0} (n : Node C) (o : Out C) (a b : SinkState) (l : LinkState) (k : KeepState) (crash : Crash) (text : List ℕ) (why : ServeFault) → crash [] → o.effects ≡ writing text
    → SaysPart a.held b.held text → a.faults ≤ b.faults → SayFault why a.faults b.faults → Follows n (edge a l k) (edge b l k) crash o (Err why)
follows_not_again n o a b l k crash text why still is part out cause = record {
  node = tt;
  did = subst (λ (es : List Effect). DidPart (edge a l k) (edge b l k) es) (sym is) (part_said a b l k text part);
  counted = line_failed a b l k why out cause;
  any_moment = subst crash (sym (ap bodies_in is ∙ bodies_in-writing text)) still;
}

-- nothing was sent before, and no count has fallen
pub rises_after : (out : SinkState) (a b : LinkState) (k : KeepState) (o : Edge) (l : ℕ) → a.faults ≤ b.faults → b.losses ≡ a.losses → Rises (edge out b k) o l → Rises (edge out a k) o l
rises_after out a b k o l later losses r =
    record { link = omega (arith, r.link); out = r.out; keep = r.keep; later = omega (arith, r.later); losses = omega (arith, r.losses) }

pub counted_after : (out : SinkState) (a b : LinkState) (k : KeepState) (o : Edge) (r : Result ℕ ServeFault) → a.faults ≤ b.faults → b.losses ≡ a.losses
    → Counted (edge out b k) o r → Counted (edge out a k) o r
counted_after out a b k o (Ok m) later losses c = rises_after out a b k o m later losses c
counted_after out a b k o (Err why) later losses c = (
  rises_after out a b k o 0 later losses c.0,
  cause_later why (edge out a k) (edge out b k) o 0 (record { link = later; out = omega arith; keep = omega arith; later = omega (arith, losses); losses = omega (arith, losses) }) c.1,
)

does_after : (out : SinkState) (a b : LinkState) (k : KeepState) (o : Edge) (e : List Effect) (r : Result ℕ ServeFault) → b.sent ≡ a.sent → Does (edge out b k) o e r → Does (edge out a k) o e r
does_after out a b k o e (Ok m) same d = all_after out a b k o e m same d
does_after out a b k o e (Err why) same d = part_after out a b k o e same d

-- the link gave something, or nothing, before
pub follows_received : {C : Type 0} (n : Node C) (out : SinkState) (a b : LinkState) (k : KeepState) (o : Edge) (crash : Crash) (step : Out C) (r : Result ℕ ServeFault)
    → b.sent ≡ a.sent → a.faults ≤ b.faults → b.losses ≡ a.losses → Follows n (edge out b k) o crash step r → Follows n (edge out a k) o crash step r
follows_received n out a b k o crash step r sent later losses g = record {
  node = g.node;
  did = does_after out a b k o step.effects r sent g.did;
  counted = counted_after out a b k o r later losses g.counted;
  any_moment = g.any_moment;
}

-- and nothing after
pub follows_quiet : {C : Type 0} (n : Node C) (out : SinkState) (a b : LinkState) (k : KeepState) (crash : Crash) → crash [] → b.sent ≡ a.sent → a.faults ≤ b.faults → b.losses ≡ a.losses
    → Follows n (edge out a k) (edge out b k) crash (no_step n) (Ok 0)
follows_quiet n out a b k crash still sent later losses = follows_received n out a b k (edge out b k) crash (no_step n) (Ok 0) sent later losses (follows_still n (edge out b k) crash still)

-- the link failed
pub rises_failed : (out : SinkState) (a b : LinkState) (k : KeepState) → a.faults ≤ b.faults → b.losses ≡ a.losses → Rises (edge out a k) (edge out b k) 0
rises_failed out a b k later losses = record { link = later; out = omega arith; keep = omega arith; later = omega (arith, losses); losses = omega (arith, losses) }

pub follows_failed : {C : Type 0} (n : Node C) (out : SinkState) (a b : LinkState) (k : KeepState) (crash : Crash) (step : Out C) → crash (bodies_in step.effects) → b.sent ≡ a.sent → a.faults ≤ b.faults
    → Rose a.faults b.faults → b.losses ≡ a.losses → Follows n (edge out a k) (edge out b k) crash step (Err fault.LinkFailed)
follows_failed n out a b k crash step still sent later rose losses =
    record { node = tt; did = part_before out a b k step.effects sent; counted = (rises_failed out a b k later losses, rose); any_moment = still }

pub quiet_next : (known : Option (List (List ℕ))) (buf : List ℕ) → IfSome known (λ datagrams. Gives datagrams Quiet buf) → IfSome known (λ datagrams. IsNext datagrams None)
quiet_next None buf h = tt
quiet_next (Some ds) buf h = h
