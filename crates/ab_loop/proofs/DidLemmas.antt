-- What is done outside, by one object and by all.
use Rattle.std.proofs.Common.{◌≡◌, ℕ, ◌+◌, List, [], ◌∷◌, ◌++◌, length, Bool, not, if◌then◌else◌, refl, ap, sym, ◌∙◌, append_assoc, length-append, arith}
use Rattle.std.specs.List.{count_by}
use Rattle.std.proofs.lemmas.List.Sums.{sum_by-append}
use Rattle.ab_io.specs.Datagrams.{Datagram}
use Rattle.ab_io.specs.States.{LinkState, SinkState}
use Rattle.ab_loop.specs.declared.party_core.Commit.{Commit}
use Rattle.ab_loop.specs.Edges.{capped, Effect, writes, replies, keeps, sends, writing, keeping, sending, text_in, replies_in, bodies_in, handed_in, KeepState, Edge, edge, grown, those_gone, Did, DidAll, DidPart, SaysPart, SentAll, SentPart}
use Rattle.ab_loop.proofs.OutsideLemmas.{grown_nil, grown_then, those_append, capped_sum}

-- ---- lists of effects

pub text_in-append : (a b : List Effect) → text_in (a ++ b) ≡ text_in a ++ text_in b
text_in-append [] b = refl
text_in-append (writes byte ∷ a) b = ap (λ rest. byte ∷ rest) (text_in-append a b)
text_in-append (replies c ∷ a) b = text_in-append a b
text_in-append (keeps body ∷ a) b = text_in-append a b
text_in-append (sends d ∷ a) b = text_in-append a b

pub replies_in-append : (a b : List Effect) → replies_in (a ++ b) ≡ replies_in a ++ replies_in b
replies_in-append [] b = refl
replies_in-append (writes byte ∷ a) b = replies_in-append a b
replies_in-append (replies c ∷ a) b = ap (λ rest. c ∷ rest) (replies_in-append a b)
replies_in-append (keeps body ∷ a) b = replies_in-append a b
replies_in-append (sends d ∷ a) b = replies_in-append a b

pub bodies_in-append : (a b : List Effect) → bodies_in (a ++ b) ≡ bodies_in a ++ bodies_in b
bodies_in-append [] b = refl
bodies_in-append (writes byte ∷ a) b = bodies_in-append a b
bodies_in-append (replies c ∷ a) b = bodies_in-append a b
bodies_in-append (keeps body ∷ a) b = ap (λ rest. body ∷ rest) (bodies_in-append a b)
bodies_in-append (sends d ∷ a) b = bodies_in-append a b

pub handed_in-append : (a b : List Effect) → handed_in (a ++ b) ≡ handed_in a ++ handed_in b
handed_in-append [] b = refl
handed_in-append (writes byte ∷ a) b = handed_in-append a b
handed_in-append (replies c ∷ a) b = handed_in-append a b
handed_in-append (keeps body ∷ a) b = handed_in-append a b
handed_in-append (sends d ∷ a) b = ap (λ rest. d ∷ rest) (handed_in-append a b)

pub text_in-writing : (text : List ℕ) → text_in (writing text) ≡ text
text_in-writing [] = refl
text_in-writing (byte ∷ text) = ap (λ rest. byte ∷ rest) (text_in-writing text)

pub handed_in-writing : (text : List ℕ) → handed_in (writing text) ≡ []
handed_in-writing [] = refl
handed_in-writing (byte ∷ text) = handed_in-writing text

pub text_in-sending : (ds : List Datagram) → text_in (sending ds) ≡ []
text_in-sending [] = refl
text_in-sending (d ∷ ds) = text_in-sending ds

pub handed_in-sending : (ds : List Datagram) → handed_in (sending ds) ≡ ds
handed_in-sending [] = refl
handed_in-sending (d ∷ ds) = ap (λ rest. d ∷ rest) (handed_in-sending ds)

pub replies_in-writing : (text : List ℕ) → replies_in (writing text) ≡ []
replies_in-writing [] = refl
replies_in-writing (byte ∷ text) = replies_in-writing text

pub bodies_in-writing : (text : List ℕ) → bodies_in (writing text) ≡ []
bodies_in-writing [] = refl
bodies_in-writing (byte ∷ text) = bodies_in-writing text

pub replies_in-sending : (ds : List Datagram) → replies_in (sending ds) ≡ []
replies_in-sending [] = refl
replies_in-sending (d ∷ ds) = replies_in-sending ds

pub bodies_in-sending : (ds : List Datagram) → bodies_in (sending ds) ≡ []
bodies_in-sending [] = refl
bodies_in-sending (d ∷ ds) = bodies_in-sending ds

pub text_in-keeping : (bodies : List (List ℕ)) → text_in (keeping bodies) ≡ []
text_in-keeping [] = refl
text_in-keeping (body ∷ bodies) = text_in-keeping bodies

pub replies_in-keeping : (bodies : List (List ℕ)) → replies_in (keeping bodies) ≡ []
replies_in-keeping [] = refl
replies_in-keeping (body ∷ bodies) = replies_in-keeping bodies

pub bodies_in-keeping : (bodies : List (List ℕ)) → bodies_in (keeping bodies) ≡ bodies
bodies_in-keeping [] = refl
bodies_in-keeping (body ∷ bodies) = ap (λ rest. body ∷ rest) (bodies_in-keeping bodies)

pub handed_in-keeping : (bodies : List (List ℕ)) → handed_in (keeping bodies) ≡ []
handed_in-keeping [] = refl
handed_in-keeping (body ∷ bodies) = handed_in-keeping bodies

writing-append : (a b : List ℕ) → writing (a ++ b) ≡ writing a ++ writing b
writing-append [] b = refl
writing-append (byte ∷ a) b = ap (λ rest. writes byte ∷ rest) (writing-append a b)

sending-append : (a b : List Datagram) → sending (a ++ b) ≡ sending a ++ sending b
sending-append [] b = refl
sending-append (d ∷ a) b = ap (λ rest. sends d ∷ rest) (sending-append a b)

keeping-append : (a b : List (List ℕ)) → keeping (a ++ b) ≡ keeping a ++ keeping b
keeping-append [] b = refl
keeping-append (body ∷ a) b = ap (λ rest. keeps body ∷ rest) (keeping-append a b)

-- ---- one list after the other

pub did_then : (o1 o2 o3 : Edge) (a b : List Effect) (w v : List Bool) → Did o1 o2 a w → Did o2 o3 b v → Did o1 o3 (a ++ b) (w ++ v)
did_then o1 o2 o3 a b w v first second =
    let handed = handed_in-append a b in
    record {
      each = omega (arith, length-append w v, length-append (handed_in a) (handed_in b), ap (λ (ds : List Datagram). length ds) handed, first.each, second.each);
      wrote = second.wrote ∙ ap (λ k. grown k (text_in b)) first.wrote ∙ grown_then o1.out.held (text_in a) (text_in b) ∙ ap (grown o1.out.held) (sym (text_in-append a b));
      kept = second.kept ∙ ap (λ k. grown k (bodies_in b)) first.kept ∙ grown_then o1.keep.kept (bodies_in a) (bodies_in b) ∙ ap (grown o1.keep.kept) (sym (bodies_in-append a b));
      sent = second.sent ∙ ap (λ k. grown k (those_gone v (handed_in b))) first.sent ∙ grown_then o1.link.sent (those_gone w (handed_in a)) (those_gone v (handed_in b))
          ∙ ap (grown o1.link.sent) (sym (those_append w v (handed_in a) (handed_in b) first.each) ∙ ap (those_gone (w ++ v)) (sym handed));
    }

pub all_then : (o1 o2 o3 : Edge) (a b : List Effect) (l m : ℕ) → DidAll o1 o2 a l → DidAll o2 o3 b m → DidAll o1 o3 (a ++ b) (capped (l + m))
all_then o1 o2 o3 a b l m first second = record {
  went = first.went ++ second.went;
  did = did_then o1 o2 o3 a b first.went second.went first.did second.did;
  lost_are = capped_sum l m (count_by not first.went) (count_by not second.went) first.lost_are second.lost_are
      ∙ ap capped (sym (sum_by-append (λ w. if not w then 1 else 0) first.went second.went));
}

did_nothing : (o : Edge) → Did o o [] []
did_nothing o = record { each = refl; wrote = grown_nil o.out.held; kept = grown_nil o.keep.kept; sent = grown_nil o.link.sent }

pub all_nothing : (o : Edge) → DidAll o o [] 0
all_nothing o = record { went = []; did = did_nothing o; lost_are = refl }

pub part_none : (o : Edge) (e : List Effect) → DidPart o o e
part_none o e = record { done = []; left = e; went = []; parts = refl; did = did_nothing o }

pub part_first : (o1 o2 : Edge) (a b : List Effect) → DidPart o1 o2 a → DidPart o1 o2 (a ++ b)
part_first o1 o2 a b p = record {
  done = p.done;
  left = p.left ++ b;
  went = p.went;
  parts = ap (λ x. x ++ b) p.parts ∙ append_assoc p.done p.left b;
  did = p.did;
}

pub part_then : (o1 o2 o3 : Edge) (a b : List Effect) (l : ℕ) → DidAll o1 o2 a l → DidPart o2 o3 b → DidPart o1 o3 (a ++ b)
part_then o1 o2 o3 a b l first p = record {
  done = a ++ p.done;
  left = p.left;
  went = first.went ++ p.went;
  parts = ap (λ x. a ++ x) p.parts ∙ sym (append_assoc a p.done p.left);
  did = did_then o1 o2 o3 a p.done first.went p.went first.did p.did;
}

-- ---- one object

did_said : (a b : SinkState) (l : LinkState) (k : KeepState) (text : List ℕ) → b.held ≡ grown a.held text → Did (edge a l k) (edge b l k) (writing text) []
did_said a b l k text e = record {
  each = ap (λ (ds : List Datagram). length ds) (sym (handed_in-writing text));
  wrote = e ∙ ap (grown a.held) (sym (text_in-writing text));
  kept = grown_nil k.kept ∙ ap (grown k.kept) (sym (bodies_in-writing text));
  sent = grown_nil l.sent;
}

did_kept : (out : SinkState) (l : LinkState) (a b : KeepState) (bodies : List (List ℕ)) → b.kept ≡ grown a.kept bodies → Did (edge out l a) (edge out l b) (keeping bodies) []
did_kept out l a b bodies e = record {
  each = ap (λ (ds : List Datagram). length ds) (sym (handed_in-keeping bodies));
  wrote = grown_nil out.held ∙ ap (grown out.held) (sym (text_in-keeping bodies));
  kept = e ∙ ap (grown a.kept) (sym (bodies_in-keeping bodies));
  sent = grown_nil l.sent;
}

did_sent : (out : SinkState) (a b : LinkState) (k : KeepState) (ds : List Datagram) (w : List Bool) → length w ≡ length ds → b.sent ≡ grown a.sent (those_gone w ds)
    → Did (edge out a k) (edge out b k) (sending ds) w
did_sent out a b k ds w each sent =
    let handed = sym (handed_in-sending ds) in
    record {
      each = each ∙ ap (λ (xs : List Datagram). length xs) handed;
      wrote = grown_nil out.held ∙ ap (grown out.held) (sym (text_in-sending ds));
      kept = grown_nil k.kept ∙ ap (grown k.kept) (sym (bodies_in-sending ds));
      sent = sent ∙ ap (λ (xs : List Datagram). grown a.sent (those_gone w xs)) handed;
    }

pub all_said : (a b : SinkState) (l : LinkState) (k : KeepState) (text : List ℕ) → b.held ≡ grown a.held text → DidAll (edge a l k) (edge b l k) (writing text) 0
all_said a b l k text e = record { went = []; did = did_said a b l k text e; lost_are = refl }

pub part_said : (a b : SinkState) (l : LinkState) (k : KeepState) (text : List ℕ) → SaysPart a.held b.held text → DidPart (edge a l k) (edge b l k) (writing text)
part_said a b l k text p = record {
  done = writing p.0;
  left = writing p.1;
  went = [];
  parts = ap (λ (t : List ℕ). writing t) p.2 ∙ writing-append p.0 p.1;
  did = did_said a b l k p.0 p.3;
}

-- the line of a commit is begun, and nothing is done by that
pub all_begun : (o : Edge) (c : Commit) → DidAll o o (replies c ∷ []) 0
all_begun o c = record { went = []; did = record { each = refl; wrote = grown_nil o.out.held; kept = grown_nil o.keep.kept; sent = grown_nil o.link.sent }; lost_are = refl }

pub all_kept : (out : SinkState) (l : LinkState) (a b : KeepState) (bodies : List (List ℕ)) → b.kept ≡ grown a.kept bodies → DidAll (edge out l a) (edge out l b) (keeping bodies) 0
all_kept out l a b bodies e = record { went = []; did = did_kept out l a b bodies e; lost_are = refl }

pub part_kept : (out : SinkState) (l : LinkState) (a b : KeepState) (bodies front back : List (List ℕ)) → bodies ≡ front ++ back → b.kept ≡ grown a.kept front
    → DidPart (edge out l a) (edge out l b) (keeping bodies)
part_kept out l a b bodies front back parts e = record {
  done = keeping front;
  left = keeping back;
  went = [];
  parts = ap (λ (bs : List (List ℕ)). keeping bs) parts ∙ keeping-append front back;
  did = did_kept out l a b front e;
}

pub all_sent : (out : SinkState) (a b : LinkState) (k : KeepState) (ds : List Datagram) (l : ℕ) → SentAll a.sent b.sent ds l → DidAll (edge out a k) (edge out b k) (sending ds) l
all_sent out a b k ds l s = record { went = s.went; did = did_sent out a b k ds s.went s.each s.sent; lost_are = s.lost_are }

pub part_sent : (out : SinkState) (a b : LinkState) (k : KeepState) (ds : List Datagram) → SentPart a.sent b.sent ds → DidPart (edge out a k) (edge out b k) (sending ds)
part_sent out a b k ds p = record {
  done = sending p.front;
  left = sending p.back;
  went = p.went;
  parts = ap (λ (xs : List Datagram). sending xs) p.parts ∙ sending-append p.front p.back;
  did = did_sent out a b k p.front p.went p.each p.sent;
}

-- ---- nothing was sent before

did_after : (out : SinkState) (a b : LinkState) (k : KeepState) (o : Edge) (e : List Effect) (w : List Bool) → b.sent ≡ a.sent → Did (edge out b k) o e w → Did (edge out a k) o e w
did_after out a b k o e w same d = record { each = d.each; wrote = d.wrote; kept = d.kept; sent = d.sent ∙ ap (λ s. grown s (those_gone w (handed_in e))) same }

pub all_after : (out : SinkState) (a b : LinkState) (k : KeepState) (o : Edge) (e : List Effect) (l : ℕ) → b.sent ≡ a.sent → DidAll (edge out b k) o e l → DidAll (edge out a k) o e l
all_after out a b k o e l same d = record { went = d.went; did = did_after out a b k o e d.went same d.did; lost_are = d.lost_are }

pub part_after : (out : SinkState) (a b : LinkState) (k : KeepState) (o : Edge) (e : List Effect) → b.sent ≡ a.sent → DidPart (edge out b k) o e → DidPart (edge out a k) o e
part_after out a b k o e same d = record { done = d.done; left = d.left; went = d.went; parts = d.parts; did = did_after out a b k o d.done d.went same d.did }

-- and nothing after
pub part_before : (out : SinkState) (a b : LinkState) (k : KeepState) (e : List Effect) → b.sent ≡ a.sent → DidPart (edge out a k) (edge out b k) e
part_before out a b k e same =
    record { done = []; left = e; went = []; parts = refl; did = record { each = refl; wrote = grown_nil out.held; kept = grown_nil k.kept; sent = same ∙ grown_nil a.sent } }
