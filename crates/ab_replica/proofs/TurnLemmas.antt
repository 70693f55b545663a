-- What turns leave, send and show.
use Rattle.std.proofs.Common.{◌≡◌, ℕ, ◌+◌, ◌-◌, ◌<◌, ◌≤◌, Bool, true, false, Option, None, Some, Result, Ok, Err, List, [], ◌∷◌, length, if◌then◌else◌, reverse, refl, sym, ap, subst, ◌∙◌, arith, add-zero, append-nil}
use Rattle.std.specs.Prelude.{IfOk}
use Rattle.std.proofs.lemmas.Bool.{ltb-true, le-ltb, ltb-false, lt-ltb}
use Rattle.ab_num.specs.declared.party.Party.TheVariants.{Replica}
use Rattle.ab_hist.specs.declared.request.Request.{Request}
use Rattle.ab_hist.specs.Trimmed.{Trimmed, trim}
use Rattle.ab_ckpt.specs.Marks.{no_marks}
use Rattle.ab_msg.specs.declared.signed.Signed.{Signed}
use Rattle.ab_msg.specs.declared.message.Msg.{Msg}
use Rattle.ab_msg.specs.declared.message.Out.{Out}
use Rattle.ab_msg.specs.Pens.{Pen}
use Rattle.ab_abs.specs.declared.seen.Seen.{Seen}
use Rattle.ab_abs.specs.Observations.{cert_seen, init_seen}
use Rattle.ab_abs.specs.Ensembles.{Proto, trimmed_entry}
use Rattle.ab_abs.specs.Messages.{Call, offered}
use Rattle.ab_stable.specs.Offers.{offered_start}
use Rattle.ab_run.specs.Replicas.{RepAction, turn_enter, turn_call, accepted, accepted_marks, if_offered, new_first, after_turn, after_turns, pen_of, wanted, taken}
use Rattle.ab_run.specs.Local.{sent_in_turns, marks_in_turns}
use Rattle.ab_replica.specs.Sites.{Site, setup_of}
use Rattle.ab_replica.specs.Entries.{with_entry}
use Rattle.ab_replica.specs.declared.crossing.Crossing.{Crossing}
use Rattle.ab_replica.specs.declared.done.Done.{Done}
use Rattle.ab_replica.specs.Doings.{Arrives, Does, entering, are_spent, entries_in}

-- the pen of a replica is the one that a run gives it
pub pen_is : {P : Type 0} (proto : Proto P) (pen : Pen) (s : Site P) → pen.used ≡ s.rep.used → pen ≡ pen_of (setup_of s pen) proto s.me s.rep
pen_is proto pen s e = ap (λ n. let p : Pen = record { used = n; sig = pen.sig } in p) e

module _ {P : Type 0} (proto : Proto P) (pen : Pen) (s : Site P) where
  -- turns for which enough signatures are left are taken
  pub does_all : (ts : List RepAction) (now : Site P) (outs : List Out) (marks : List Seen)
      → s.rep.used + wanted (setup_of s pen) proto s.me s.rep ts ≤ s.signatures
      → now ≡ record s { rep = after_turns (setup_of s pen) proto s.me s.rep ts; entries = s.entries + entries_in ts }
      → outs ≡ sent_in_turns (setup_of s pen) proto s.me s.rep ts
      → marks ≡ marks_in_turns (setup_of s pen) proto s.me s.rep ts
      → Does proto pen s ts now outs marks false
  does_all ts now outs marks fits after sends shows =
      let e = le-ltb s.signatures (s.rep.used + wanted (setup_of s pen) proto s.me s.rep ts) fits in
      record {
        after = subst (λ (b : Bool). now ≡ record s { rep = after_turns (setup_of s pen) proto s.me s.rep (if b then [] else ts); entries = s.entries + entries_in (if b then [] else ts) }) (sym e) after;
        sends = subst (λ (b : Bool). outs ≡ sent_in_turns (setup_of s pen) proto s.me s.rep (if b then [] else ts)) (sym e) sends;
        shows = subst (λ (b : Bool). marks ≡ marks_in_turns (setup_of s pen) proto s.me s.rep (if b then [] else ts)) (sym e) shows;
        spends = sym e;
      }

  pub same_site : s ≡ record s { entries = s.entries + 0 }
  same_site = ap (λ n. let t : Site P = record s { entries = n } in t) (sym (add-zero s.entries))

  -- and where they are not, none is
  pub does_none : (ts : List RepAction) → s.signatures < s.rep.used + wanted (setup_of s pen) proto s.me s.rep ts → Does proto pen s ts s [] [] true
  does_none ts over =
      let e = lt-ltb s.signatures (s.rep.used + wanted (setup_of s pen) proto s.me s.rep ts) over in
      record {
        after = subst (λ (b : Bool). s ≡ record s { rep = after_turns (setup_of s pen) proto s.me s.rep (if b then [] else ts); entries = s.entries + entries_in (if b then [] else ts) }) (sym e) same_site;
        sends = subst (λ (b : Bool). [] ≡ sent_in_turns (setup_of s pen) proto s.me s.rep (if b then [] else ts)) (sym e) refl;
        shows = subst (λ (b : Bool). [] ≡ marks_in_turns (setup_of s pen) proto s.me s.rep (if b then [] else ts)) (sym e) refl;
        spends = sym e;
      }

  -- the same, of equal effects
  pub same_effects : (ts : List RepAction) (now : Site P) (outs : List Out) (marks : List Seen) (spent : Bool) → now ≡ s → outs ≡ [] → marks ≡ [] → Does proto pen s ts s [] [] spent → Does proto pen s ts now outs marks spent
  same_effects ts now outs marks spent stays silent unseen does =
      subst (λ (t : Site P). Does proto pen s ts t outs marks spent) (sym stays)
      (subst (λ (os : List Out). Does proto pen s ts s os marks spent) (sym silent)
      (subst (λ (ms : List Seen). Does proto pen s ts s [] ms spent) (sym unseen) does))

  -- ---- a call

  pub calls : (call : Call) (now : Site P) (outs : List Out) (marks : List Seen) → pen.used ≡ s.rep.used
      → s.rep.used + length (proto.signs s.rep.value call) ≤ s.signatures
      → now ≡ record s { rep = record s.rep { value = proto.after pen s.rep.value call; used = s.rep.used + length (proto.signs s.rep.value call) } }
      → outs ≡ proto.sends pen s.rep.value call
      → marks ≡ reverse (accepted_marks s.rep.at s.me (accepted (setup_of s pen) proto s.me s.rep call))
      → Does proto pen s (turn_call call ∷ []) now outs marks false
  calls call now outs marks same fits after sends shows =
      let p = pen_is proto pen s same in
      let next : Pen → Site P = λ q. record s { rep = record s.rep { value = proto.after q s.rep.value call; used = s.rep.used + length (proto.signs s.rep.value call) } } in
      does_all (turn_call call ∷ []) now outs marks (omega arith)
      (after ∙ ap next p ∙ ap (λ n. let t : Site P = record (next (pen_of (setup_of s pen) proto s.me s.rep)) { entries = n } in t) (sym (add-zero s.entries)))
      (sends ∙ ap (λ q. proto.sends q s.rep.value call) p ∙ sym (append-nil (proto.sends (pen_of (setup_of s pen) proto s.me s.rep) s.rep.value call)))
      (shows ∙ sym (append-nil (reverse (accepted_marks s.rep.at s.me (accepted (setup_of s pen) proto s.me s.rep call)))))

  -- one that offers a base
  pub calls_offer : (call : Call) (cert : List Signed) (now : Site P) (outs : List Out) (marks : List Seen) → offered call ≡ Some cert → pen.used ≡ s.rep.used
      → s.rep.used + length (proto.signs s.rep.value call) ≤ s.signatures
      → now ≡ record s { rep = record s.rep { value = proto.after pen s.rep.value call; used = s.rep.used + length (proto.signs s.rep.value call) } }
      → outs ≡ proto.sends pen s.rep.value call
      → marks ≡ reverse (accepted_marks s.rep.at s.me (new_first (proto.state s.rep.value).first (proto.state now.rep.value).first s.rep.entry.base))
      → Does proto pen s (turn_call call ∷ []) now outs marks false
  calls_offer call cert now outs marks offers same fits after sends shows =
      let first : Pen → Option (List Request) = λ q. new_first (proto.state s.rep.value).first (proto.state (proto.after q s.rep.value call)).first s.rep.entry.base in
      calls call now outs marks same fits after sends
      (shows
      ∙ ap (λ t. reverse (accepted_marks s.rep.at s.me (new_first (proto.state s.rep.value).first (proto.state t.rep.value).first s.rep.entry.base))) after
      ∙ ap (λ q. reverse (accepted_marks s.rep.at s.me (first q))) (pen_is proto pen s same)
      ∙ ap (λ o. reverse (accepted_marks s.rep.at s.me (if_offered o (first (pen_of (setup_of s pen) proto s.me s.rep))))) (sym offers))

  -- ---- what was done, by whether it was spent

  pub record WasSpent (ts : List RepAction) (now : Site P) (outs : List Out) (marks : List Seen) : Type 0 where
    pub stays : now ≡ s
    pub silent : outs ≡ []
    pub unseen : marks ≡ []
    pub over : s.signatures < s.rep.used + wanted (setup_of s pen) proto s.me s.rep ts

  pub was_spent : (ts : List RepAction) (now : Site P) (outs : List Out) (marks : List Seen) → Does proto pen s ts now outs marks true → WasSpent ts now outs marks
  was_spent ts now outs marks does =
      let e : are_spent proto (setup_of s pen) s ts ≡ true = sym does.spends in
      record {
        stays = subst (λ (b : Bool). now ≡ record s { rep = after_turns (setup_of s pen) proto s.me s.rep (if b then [] else ts); entries = s.entries + entries_in (if b then [] else ts) }) e does.after ∙ sym same_site;
        silent = subst (λ (b : Bool). outs ≡ sent_in_turns (setup_of s pen) proto s.me s.rep (if b then [] else ts)) e does.sends;
        unseen = subst (λ (b : Bool). marks ≡ marks_in_turns (setup_of s pen) proto s.me s.rep (if b then [] else ts)) e does.shows;
        over = ltb-true s.signatures (s.rep.used + wanted (setup_of s pen) proto s.me s.rep ts) e;
      }

  pub record WasTaken (ts : List RepAction) (now : Site P) (outs : List Out) (marks : List Seen) : Type 0 where
    pub after : now ≡ record s { rep = after_turns (setup_of s pen) proto s.me s.rep ts; entries = s.entries + entries_in ts }
    pub sends : outs ≡ sent_in_turns (setup_of s pen) proto s.me s.rep ts
    pub shows : marks ≡ marks_in_turns (setup_of s pen) proto s.me s.rep ts
    pub fits : s.rep.used + wanted (setup_of s pen) proto s.me s.rep ts ≤ s.signatures

  pub was_taken : (ts : List RepAction) (now : Site P) (outs : List Out) (marks : List Seen) → Does proto pen s ts now outs marks false → WasTaken ts now outs marks
  was_taken ts now outs marks does =
      let e : are_spent proto (setup_of s pen) s ts ≡ false = sym does.spends in
      record {
        after = subst (λ (b : Bool). now ≡ record s { rep = after_turns (setup_of s pen) proto s.me s.rep (if b then [] else ts); entries = s.entries + entries_in (if b then [] else ts) }) e does.after;
        sends = subst (λ (b : Bool). outs ≡ sent_in_turns (setup_of s pen) proto s.me s.rep (if b then [] else ts)) e does.sends;
        shows = subst (λ (b : Bool). marks ≡ marks_in_turns (setup_of s pen) proto s.me s.rep (if b then [] else ts)) e does.shows;
        fits = ltb-false s.signatures (s.rep.used + wanted (setup_of s pen) proto s.me s.rep ts) e;
      }

-- ---- an entry

module _ {P : Type 0} (proto : Proto P) (pen : Pen) (s : Site P) where
  -- a replica that has just entered arrives where it takes turns and its entry is seen too
  pub arrives_if : {E : Type 0} (n : ℕ) (ts : List RepAction) (now : Site P) (e : Done) (i me : ℕ) (list : Trimmed) (r : Result Done E)
      → Does proto pen s ts now e.outs e.marks.items e.spent → with_entry i me list e.marks.items e.spent ≡ with_entry s.rep.at s.me (trim n s.rep.entry.base) e.marks.items e.spent
      → IfOk r (λ x. x.outs ≡ e.outs) → IfOk r (λ x. x.marks.items ≡ with_entry i me list e.marks.items e.spent) → IfOk r (λ x. x.spent ≡ e.spent)
      → IfOk r (λ x. Arrives proto pen s n ts now x.outs x.marks.items x.spent)
  arrives_if n ts now e i me list (Ok x) does entry outs marks spent = record {
    marks = e.marks.items;
    does = subst (λ (b : Bool). Does proto pen s ts now x.outs e.marks.items b) (sym spent)
        (subst (λ (l : List Out). Does proto pen s ts now l e.marks.items e.spent) (sym outs) does);
    shows = marks ∙ entry ∙ ap (with_entry s.rep.at s.me (trim n s.rep.entry.base) e.marks.items) (sym spent);
  }
  arrives_if n ts now e i me list (Err x) does entry outs marks spent = tt

module _ {P : Type 0} (proto : Proto P) (pen : Pen) (s : Site P) (j : ℕ) (cert : List Signed) (n : ℕ) (h : List Request) where
  -- the replica as it has entered
  abbrev pub there : Site P
  there = record s { rep = after_turn (setup_of s pen) proto s.me s.rep (turn_enter j cert n h); entries = s.entries + 1 }

  -- the entries that it shows of the history
  abbrev list : Trimmed
  list = trim (offered_start s.cluster j cert) h

  pub enters_spent : (ts : List RepAction) (now : Site P) (outs : List Out) (marks : List Seen) → Does proto pen there ts now outs marks true → Does proto pen s (turn_enter j cert n h ∷ ts) s outs marks true
  enters_spent ts now outs marks does =
      let was = was_spent proto pen there ts now outs marks does in
      same_effects proto pen s (turn_enter j cert n h ∷ ts) s outs marks true refl was.silent was.unseen
      (does_none proto pen s (turn_enter j cert n h ∷ ts) (omega (arith, was.over)))

  pub enters_taken : (ts : List RepAction) (now : Site P) (outs : List Out) (marks : List Seen) → Does proto pen there ts now outs marks false
      → Does proto pen s (turn_enter j cert n h ∷ ts) now outs (cert_seen j (Replica s.me) list ∷ init_seen (j + 1) s.me list ∷ marks) false
  enters_taken ts now outs marks does =
      let was = was_taken proto pen there ts now outs marks does in
      let k = setup_of s pen in
      let more : s.entries + 1 + entries_in ts ≡ s.entries + (1 + entries_in ts) = omega arith in
      does_all proto pen s (turn_enter j cert n h ∷ ts) now outs (cert_seen j (Replica s.me) list ∷ init_seen (j + 1) s.me list ∷ marks) (omega (arith, was.fits))
      (was.after ∙ ap (λ n. let t : Site P = record s { rep = after_turns k proto s.me there.rep ts; entries = n } in t) more)
      was.sends
      (ap (λ l. cert_seen j (Replica s.me) list ∷ init_seen (j + 1) s.me list ∷ l) was.shows)

  -- the same of one that entered by a crossing
  abbrev pub entered_by : Crossing → Site P
  entered_by x = record s { rep = record { at = x.instance; value = proto.begin s.cluster x.instance s.me x.entry; entry = x.entry; abort = None; used = s.rep.used; kept = no_marks }; entries = s.entries + 1 }

  abbrev pub IsLed : Crossing → Type 0
  IsLed x = x ≡ record { instance = j + 1; entry = trimmed_entry h n cert; start = offered_start s.cluster j cert }

  crossing_there : (x : Crossing) (t : Site P) → IsLed x → t ≡ entered_by x → t ≡ there
  crossing_there x t leads is = is ∙ ap entered_by leads

  pub crosses_spent : (m : Msg) (x : Crossing) (t now : Site P) (outs : List Out) (shown : List Seen) (spent : Bool) → IsLed x → t ≡ entered_by x → spent ≡ true
      → Arrives proto pen t x.start (taken (setup_of t pen) proto t.me t.rep m) now outs shown spent → Does proto pen s (entering (setup_of s pen) proto s.me s.rep m j cert n h) s outs shown spent
  crosses_spent m x t now outs shown spent leads is over arrives =
      subst (λ (b : Bool). Does proto pen s (entering (setup_of s pen) proto s.me s.rep m j cert n h) s outs shown b) (sym over)
      (subst (λ (l : List Seen). Does proto pen s (entering (setup_of s pen) proto s.me s.rep m j cert n h) s outs l true)
      (sym (arrives.shows ∙ ap (with_entry t.rep.at t.me (trim x.start t.rep.entry.base) arrives.marks) over))
      (enters_spent (taken (setup_of s pen) proto s.me there.rep m) now outs arrives.marks
      (subst (λ (b : Bool). Does proto pen there (taken (setup_of s pen) proto s.me there.rep m) now outs arrives.marks b) over
      (subst (λ (u : Site P). Does proto pen u (taken (setup_of u pen) proto u.me u.rep m) now outs arrives.marks spent) (crossing_there x t leads is) arrives.does))))

  -- what is then seen
  entry_seen : (x : Crossing) (t : Site P) (shown marks : List Seen) (spent : Bool) → IsLed x → t ≡ entered_by x → spent ≡ false → shown ≡ with_entry t.rep.at t.me (trim x.start t.rep.entry.base) marks spent
      → shown ≡ cert_seen j (Replica s.me) list ∷ init_seen (j + 1) s.me list ∷ marks
  entry_seen x t shown marks spent leads is under shows =
      let back : j + 1 - 1 ≡ j = omega arith in
      shows
      ∙ ap (λ (u : Site P). with_entry u.rep.at u.me (trim x.start u.rep.entry.base) marks spent) (crossing_there x t leads is)
      ∙ ap (λ (y : Crossing). with_entry (j + 1) s.me (trim y.start h) marks spent) leads
      ∙ ap (with_entry (j + 1) s.me list marks) under
      ∙ ap (λ i. cert_seen i (Replica s.me) list ∷ init_seen (j + 1) s.me list ∷ marks) back

  pub crosses_taken : (m : Msg) (x : Crossing) (t now last : Site P) (outs : List Out) (shown : List Seen) (spent : Bool) → IsLed x → t ≡ entered_by x → spent ≡ false → last ≡ now
      → Arrives proto pen t x.start (taken (setup_of t pen) proto t.me t.rep m) now outs shown spent → Does proto pen s (entering (setup_of s pen) proto s.me s.rep m j cert n h) last outs shown spent
  crosses_taken m x t now last outs shown spent leads is under same arrives =
      subst (λ (b : Bool). Does proto pen s (entering (setup_of s pen) proto s.me s.rep m j cert n h) last outs shown b) (sym under)
      (subst (λ (u : Site P). Does proto pen s (entering (setup_of s pen) proto s.me s.rep m j cert n h) u outs shown false) (sym same)
      (subst (λ (l : List Seen). Does proto pen s (entering (setup_of s pen) proto s.me s.rep m j cert n h) now outs l false)
      (sym (entry_seen x t shown arrives.marks spent leads is under arrives.shows))
      (enters_taken (taken (setup_of s pen) proto s.me there.rep m) now outs arrives.marks
      (subst (λ (b : Bool). Does proto pen there (taken (setup_of s pen) proto s.me there.rep m) now outs arrives.marks b) under
      (subst (λ (u : Site P). Does proto pen u (taken (setup_of u pen) proto u.me u.rep m) now outs arrives.marks spent) (crossing_there x t leads is) arrives.does)))))

-- what takes some turns takes equal ones
pub does_same : {P E : Type 0} (proto : Proto P) (pen : Pen) (s : Site P) (asked ts : List RepAction) (now : Site P) (r : Result Done E) → asked ≡ ts
    → IfOk r (λ e. Does proto pen s ts now e.outs e.marks.items e.spent) → IfOk r (λ e. Does proto pen s asked now e.outs e.marks.items e.spent)
does_same proto pen s asked ts now (Ok e) same does = subst (λ (us : List RepAction). Does proto pen s us now e.outs e.marks.items e.spent) (sym same) does
does_same proto pen s asked ts now (Err e) same does = tt
