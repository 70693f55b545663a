-- How an event ends: the CHECKPOINT that is due, and what is stable.
use Rattle.std.proofs.Common.{◌≡◌, ℕ, ◌+◌, Bool, true, false, Option, None, Some, List, [], ◌∷◌, ◌++◌, if◌then◌else◌, reverse, refl, sym, ap, subst, ◌∙◌, arith, append-nil, append_assoc}
use Rattle.ab_msg.specs.declared.message.Out.{Out}
use Rattle.ab_msg.specs.Pens.{Pen}
use Rattle.ab_abs.specs.declared.seen.Seen.{Seen}
use Rattle.ab_abs.specs.Ensembles.{Proto}
use Rattle.ab_abs.specs.Messages.{Call}
use Rattle.ab_run.specs.Setups.{RunSetup}
use Rattle.ab_run.specs.Replicas.{Rep, RepAction, turn_mark, after_turn, after_turns, shown_in_turn, sent_in_turn, closed, due, marking, trims_with}
use Rattle.ab_run.specs.Local.{sent_in_turns, marks_in_turns}
use Rattle.ab_replica.specs.declared.done.Done.{Done}
use Rattle.ab_replica.specs.declared.effects.Effects.{Effects}
use Rattle.ab_replica.specs.Sites.{Site, IsSetupOf, IsPenOf, IsPenAfter, setup_of}
use Rattle.ab_replica.specs.Doings.{Does, Hears, entries_in}
use Rattle.ab_replica.specs.Endings.{due_at, ended, ended_with, stable_at, told, told_with, trimmed_by, with_own_mark}
use Rattle.ab_replica.proofs.TurnLemmas.{same_site, was_spent, was_taken}

-- ---- turns behind others

module _ {P : Type 0} (k : RunSetup) (proto : Proto P) (r : ℕ) where
  after_append : (s : Rep P) (ts us : List RepAction) → after_turns k proto r s (ts ++ us) ≡ after_turns k proto r (after_turns k proto r s ts) us
  after_append s [] us = refl
  after_append s (t ∷ ts) us = after_append (after_turn k proto r s t) ts us

  sent_append : (s : Rep P) (ts us : List RepAction) → sent_in_turns k proto r s (ts ++ us) ≡ sent_in_turns k proto r s ts ++ sent_in_turns k proto r (after_turns k proto r s ts) us
  sent_append s [] us = refl
  sent_append s (t ∷ ts) us =
      let next = after_turn k proto r s t in
      ap (λ l. sent_in_turn k proto r s t ++ l) (sent_append next ts us)
      ∙ sym (append_assoc (sent_in_turn k proto r s t) (sent_in_turns k proto r next ts) (sent_in_turns k proto r (after_turns k proto r next ts) us))

  shown_append : (s : Rep P) (ts us : List RepAction) → marks_in_turns k proto r s (ts ++ us) ≡ marks_in_turns k proto r s ts ++ marks_in_turns k proto r (after_turns k proto r s ts) us
  shown_append s [] us = refl
  shown_append s (t ∷ ts) us =
      let next = after_turn k proto r s t in
      ap (λ l. reverse (shown_in_turn k proto r s t) ++ l) (shown_append next ts us)
      ∙ sym (append_assoc (reverse (shown_in_turn k proto r s t)) (marks_in_turns k proto r next ts) (marks_in_turns k proto r (after_turns k proto r next ts) us))

entries_append : (ts us : List RepAction) → entries_in (ts ++ us) ≡ entries_in ts + entries_in us
entries_append [] us = omega arith
entries_append (t ∷ ts) us = omega (arith, entries_append ts us)

-- ---- what ends an event

module _ {P : Type 0} (proto : Proto P) (pen : Pen) (s : Site P) where
  -- these turns lead there, with these messages, and show nothing
  record Closes (us : List RepAction) (now : Site P) (last : List Out) : Type 0 where
    after : now ≡ record s { rep = after_turns (setup_of s pen) proto s.me s.rep us }
    sends : last ≡ sent_in_turns (setup_of s pen) proto s.me s.rep us
    unseen : marks_in_turns (setup_of s pen) proto s.me s.rep us ≡ []
    stays : entries_in us ≡ 0

  closes : (o : Option ℕ) → Closes (marking (setup_of s pen) proto s.me s.rep o) (ended_with proto s o) (told_with proto s o)
  closes None = record { after = refl; sends = refl; unseen = refl; stays = refl }
  closes (Some n) = by_trim (stable_at proto (with_own_mark proto s n))
    where
      by_trim : (o : Option ℕ) → Closes (turn_mark n ∷ trims_with (setup_of s pen) proto o) (trimmed_by proto (with_own_mark proto s n) o) (told_with proto s (Some n))
      by_trim None = record { after = refl; sends = sym (append-nil (told_with proto s (Some n))); unseen = refl; stays = refl }
      by_trim (Some m) = record { after = refl; sends = sym (append-nil (told_with proto s (Some n))); unseen = refl; stays = refl }

  -- it has made no signature
  same_used : (o : Option ℕ) → ((ended_with proto s o).rep.used ≡ s.rep.used) × ((ended_with proto s o).signatures ≡ s.signatures)
  same_used None = (refl, refl)
  same_used (Some n) = by_trim (stable_at proto (with_own_mark proto s n))
    where
      by_trim : (o : Option ℕ) → ((trimmed_by proto (with_own_mark proto s n) o).rep.used ≡ s.rep.used) × ((trimmed_by proto (with_own_mark proto s n) o).signatures ≡ s.signatures)
      by_trim None = (refl, refl)
      by_trim (Some m) = (refl, refl)

  own_pen : (left : ℕ) (spent : Bool) → IsPenOf pen left s → IsPenOf pen left (ended proto s spent)
  own_pen left true own = own
  own_pen left false own =
      let same = same_used (due_at proto s) in
      record { used = own.used ∙ sym same.0; rest = ap (λ n. left + n) same.0 ∙ own.rest ∙ sym same.1 }

-- its pen stays its own
pub ends_with_pen : {P : Type 0} (proto : Proto P) (old new : Pen) (left : ℕ) (mid now : Site P) (spent : Bool) → now ≡ ended proto mid spent → IsPenAfter old new left mid → IsPenAfter old new left now
ends_with_pen {P} proto old new left mid now spent is after =
    subst (λ (t : Site P). IsPenAfter old new left t) (sym is) (record { sig = after.sig; own = own_pen proto new mid left spent after.own })

-- ---- an event

module _ {P : Type 0} (proto : Proto P) (pen : Pen) (s : Site P) (call : Call) where
  -- a replica that takes the turns that are due and ends the event hears the call, in the run in which all sign as it does
  hears_own : (mid now : Site P) (outs last : List Out) (marks : List Seen) (spent : Bool) → Does proto pen s (due (setup_of s pen) proto s.me s.rep call) mid outs marks spent
      → now ≡ ended proto mid spent → last ≡ told proto mid spent → Hears proto (setup_of s pen) s call now (outs ++ last) marks spent
  hears_own mid now outs last marks true does is says =
      let k = setup_of s pen in
      let ts = due k proto s.me s.rep call in
      let was = was_spent proto pen s ts mid outs marks does in
      let e = sym does.spends in
      record {
        after = subst (λ (b : Bool). now ≡ record s { rep = after_turns k proto s.me s.rep (if b then [] else closed k proto s.me s.rep ts); entries = s.entries + entries_in (if b then [] else closed k proto s.me s.rep ts) }) (sym e) (is ∙ was.stays ∙ same_site proto pen s);
        sends = subst (λ (b : Bool). outs ++ last ≡ sent_in_turns k proto s.me s.rep (if b then [] else closed k proto s.me s.rep ts)) (sym e) (ap (λ l. l ++ last) was.silent ∙ says);
        shows = subst (λ (b : Bool). marks ≡ marks_in_turns k proto s.me s.rep (if b then [] else closed k proto s.me s.rep ts)) (sym e) was.unseen;
        spends = sym e;
      }
  hears_own mid now outs last marks false does is says =
      let k = setup_of s pen in
      let ts = due k proto s.me s.rep call in
      let was = was_taken proto pen s ts mid outs marks does in
      let e = sym does.spends in
      let q = after_turns k proto s.me s.rep ts in
      let place : Rep P → ℕ → Site P = λ p n. record s { rep = p; entries = n } in
      let there : Site P = place q (s.entries + entries_in ts) in
      let us = marking k proto s.me q (due_at proto there) in
      let ends = closes proto pen there (due_at proto there) in
      let more : s.entries + entries_in ts ≡ s.entries + entries_in (ts ++ us) = omega (arith, entries_append ts us, ends.stays) in
      record {
        after = subst (λ (b : Bool). now ≡ record s { rep = after_turns k proto s.me s.rep (if b then [] else closed k proto s.me s.rep ts); entries = s.entries + entries_in (if b then [] else closed k proto s.me s.rep ts) }) (sym e)
            (is ∙ ap (λ (t : Site P). ended_with proto t (due_at proto t)) was.after ∙ ends.after
            ∙ ap (λ p. place p (s.entries + entries_in ts)) (sym (after_append k proto s.me s.rep ts us)) ∙ ap (place (after_turns k proto s.me s.rep (ts ++ us))) more);
        sends = subst (λ (b : Bool). outs ++ last ≡ sent_in_turns k proto s.me s.rep (if b then [] else closed k proto s.me s.rep ts)) (sym e)
            (ap (λ l. l ++ last) was.sends ∙ ap (λ l. sent_in_turns k proto s.me s.rep ts ++ l) (says ∙ ap (λ (t : Site P). told_with proto t (due_at proto t)) was.after ∙ ends.sends)
            ∙ sym (sent_append k proto s.me s.rep ts us));
        shows = subst (λ (b : Bool). marks ≡ marks_in_turns k proto s.me s.rep (if b then [] else closed k proto s.me s.rep ts)) (sym e)
            (was.shows ∙ sym (append-nil (marks_in_turns k proto s.me s.rep ts)) ∙ ap (λ l. marks_in_turns k proto s.me s.rep ts ++ l) (sym ends.unseen) ∙ sym (shown_append k proto s.me s.rep ts us));
        spends = sym e;
      }

-- ---- whatever the run

module _ {P : Type 0} (proto : Proto P) (pen : Pen) (s : Site P) (k : RunSetup) (of : IsSetupOf k s pen) where
  setup_is : setup_of s pen ≡ record { cluster = k.cluster; faulty = []; signatures = k.signatures; sig = λ q. k.sig s.me }
  setup_is =
      ap (λ c. let x : RunSetup = record { cluster = c; faulty = []; signatures = s.signatures; sig = λ q. pen.sig } in x) (sym of.cluster)
      ∙ ap (λ n. let x : RunSetup = record { cluster = k.cluster; faulty = []; signatures = n; sig = λ q. pen.sig } in x) (sym of.signatures)
      ∙ ap (λ f. let x : RunSetup = record { cluster = k.cluster; faulty = []; signatures = k.signatures; sig = λ q. f } in x) (sym of.sig)

  alike : (call : Call) (now : Site P) (outs : List Out) (marks : List Seen) (spent : Bool)
      → Hears proto (record { cluster = k.cluster; faulty = []; signatures = k.signatures; sig = λ q. k.sig s.me }) s call now outs marks spent → Hears proto k s call now outs marks spent
  alike call now outs marks spent hears = record { after = hears.after; sends = hears.sends; shows = hears.shows; spends = hears.spends }

  -- a replica that takes the turns that are due and ends the event hears the call
  pub hears_of : (call : Call) (mid now : Site P) (d : Done) (e : Effects) → Does proto pen s (due (setup_of s pen) proto s.me s.rep call) mid d.outs d.marks.items d.spent
      → now ≡ ended proto mid d.spent → e.outs ≡ d.outs ++ told proto mid d.spent → e.marks.items ≡ d.marks.items → e.spent ≡ d.spent
      → Hears proto k s call now e.outs e.marks.items e.spent
  hears_of call mid now d e does is sends marks spent =
      alike call now e.outs e.marks.items e.spent
      (subst (λ (x : RunSetup). Hears proto x s call now e.outs e.marks.items e.spent) setup_is
      (subst (λ (b : Bool). Hears proto (setup_of s pen) s call now e.outs e.marks.items b) (sym spent)
      (subst (λ (ms : List Seen). Hears proto (setup_of s pen) s call now e.outs ms d.spent) (sym marks)
      (subst (λ (os : List Out). Hears proto (setup_of s pen) s call now os d.marks.items d.spent) (sym sends)
      (hears_own proto pen s call mid now d.outs (told proto mid d.spent) d.marks.items d.spent does is refl)))))
