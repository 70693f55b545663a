-- What a replica of PBFT sends is what its rules make.
use Rattle.std.proofs.Common.{◌≡◌, ℕ, zero, suc, ◌+◌, ◌*◌, ◌≤◌, ◌==◌, Bool, true, false, Option, Some, None, List, [], ◌∷◌, ◌++◌, ◌⊎◌, refl, sym, ap, ◌∙◌, subst, inl, inr, arith, length}
use Rattle.std.proofs.lemmas.List.{append-nil}
use Rattle.std.specs.Prelude.{Contains, flat_map, map, slice_get, pred, if◌then◌else◌}
use Rattle.std.proofs.lemmas.Bool.{cases_Bool, eqb-true}
use Rattle.std.proofs.lemmas.Grind.{flat_map-append}
use Rattle.std.proofs.lemmas.List.Elements.{Contains-append_left, Contains-append_right, Contains-append_cases}
use Rattle.ab_num.specs.declared.party.Party.TheVariants.{Replica}
use Rattle.ab_num.proofs.Lists.{Contains-map, Contains-head, Contains-one, Contains-none}
use Rattle.ab_msg.specs.declared.content.Content.{Content}
use Rattle.ab_msg.specs.declared.content.Content.TheVariants.{PrePrepare, Prepare, Commit, ViewChange, NewView}
use Rattle.ab_msg.specs.declared.value.Value.{Value}
use Rattle.ab_msg.specs.declared.signed.Signed.{Signed}
use Rattle.ab_msg.specs.declared.message.Msg.{Msg}
use Rattle.ab_msg.specs.declared.message.Msg.TheVariants as msg
use Rattle.ab_msg.specs.declared.message.Out.{Out}
use Rattle.ab_msg.specs.Claims.{fresh, signed_in}
use Rattle.ab_msg.specs.Pens.{Pen, moved}
use Rattle.ab_msg.specs.Slots.{slot_digest}
use Rattle.ab_lock.specs.Acts.{commit_of}
use Rattle.ab_lock.specs.Steps.{accepts, signs, prepares, changes, enters, executes}
use Rattle.ab_order.specs.Protos.{Obeys}
use Rattle.ab_pbft_rules.specs.Traces.{content_of}
use Rattle.ab_pbft_rules.specs.Rules.{Doing, takes_step, offers, leads, done_by, sayings, said_in, pbft}
use Rattle.ab_slots.specs.declared.notice.Notice.{Notice}
use Rattle.ab_slots.specs.declared.notice.Notice.TheVariants.{Signs, Prepares, Changes, Enters, Offers, Leads}
use Rattle.ab_slots.specs.Deeds.{deeds_of, prepared_in, told_in}
use Rattle.ab_pbft_shelf.specs.declared.author.Author.{Author}
use Rattle.ab_pbft_shelf.specs.Posts.{Post, to_others, own_change_of, offer_message, commit_message, lead_message, posts, posts_all, signed_by, signed_in_all}
use Rattle.ab_pbft_shelf.specs.Signing.{signing, author_of, input_of, deeds_by, first_post}
use Rattle.ab_pbft_shelf.proofs.PenLemmas.{pen_by}

-- ---- to the others

others_from : (n me : ℕ) (says : ℕ → Msg) (o : Out) → Contains (to_others n me says) o → (r : ℕ) × (o.msg ≡ says r)
others_from zero me says o has = absurd (Contains-none o has)
others_from (suc n) me says o has =
    elim (Contains-append_cases (to_others n me says) (if n == me then [] else record { to = Replica n; msg = says n } ∷ []) o has) [
      | inl before ↦ others_from n me says o before
      | inr last ↦ at (n == me) last
    ]
  where
    at : (b : Bool) → Contains (if b then [] else record { to = Replica n; msg = says n } ∷ []) o → (r : ℕ) × (o.msg ≡ says r)
    at true last = absurd (Contains-none o last)
    at false last = (n, ap (λ (z : Out). z.msg) (sym (Contains-one (record { to = Replica n; msg = says n }) o last)))

apart : (a b : ℕ) → a ≡ b → (suc a == b) ≡ false
apart a b is = elim (cases_Bool (suc a == b)) [ inl e ↦ absurd (omega (arith, is, eqb-true (suc a) b e)) | inr e ↦ e ]

-- replica k is another
there : (k me : ℕ) (says : ℕ → Msg) → (k == me) ≡ false → Contains {X = Out} (if k == me then [] else record { to = Replica k; msg = says k } ∷ []) (record { to = Replica k; msg = says k })
there k me says e = rw e (Contains-head (record { to = Replica k; msg = says k }) [])

-- of two replicas at least one is another
others_some : (n me : ℕ) (says : ℕ → Msg) → 2 ≤ n → (o : Out) × Contains (to_others n me says) o × ((r : ℕ) × (o.msg ≡ says r))
others_some zero me says two = absurd (omega (arith, two))
others_some (suc zero) me says two = absurd (omega (arith, two))
others_some (suc (suc n)) me says two =
    let before = to_others n me says in
    let first : List Out = if n == me then [] else record { to = Replica n; msg = says n } ∷ [] in
    let last : List Out = if suc n == me then [] else record { to = Replica (suc n); msg = says (suc n) } ∷ [] in
    elim (cases_Bool (n == me)) [
      | inl here ↦
          let o : Out = record { to = Replica (suc n); msg = says (suc n) } in
          (o, Contains-append_right (before ++ first) last o (there (suc n) me says (apart n me (eqb-true n me here))), (suc n, refl))
      | inr other ↦
          let o : Out = record { to = Replica n; msg = says n } in
          (o, Contains-append_left (before ++ first) last o (Contains-append_right before first o (there n me says other)), (n, refl))
    ]

-- ---- what others hear of is what the rules make

module _ (by : Author) where
  abbrev f : ℕ
  f = by.cluster.f

  abbrev says_by : Notice → List Content
  says_by (Signs view slot x) = Prepare (Replica by.me) by.instance view slot x ∷ []
  says_by (Prepares view slot value) = Commit (Replica by.me) by.instance view slot (slot_digest value) ∷ []
  says_by (Changes view entries) = ViewChange (Replica by.me) by.instance view entries ∷ []
  says_by (Enters view) = []
  says_by (Offers view slot value) = PrePrepare (Replica by.me) by.instance view slot (slot_digest value) ∷ []
  says_by (Leads view) = NewView (Replica by.me) by.instance view ∷ []

  abbrev said_by : List Notice → List Content
  said_by deeds = flat_map says_by deeds

  prepared_says : (v n : ℕ) (value : Option Value) → said_by (prepared_in v n value) ≡ map (content_of by.instance) (commit_of slot_digest by.me v n value)
  prepared_says v n None = refl
  prepared_says v n (Some value) = refl

  doing_says : (d : Doing) → said_by (deeds_of d) ≡ sayings by.instance by.me d
  doing_says (takes_step (accepts n value)) = refl
  doing_says (takes_step (signs v n x)) = refl
  doing_says (takes_step (prepares v h)) = prepared_says v (pred (length h)) (slice_get h (pred (length h)))
  doing_says (takes_step (changes w entries)) = refl
  doing_says (takes_step (enters w proofs chosen)) = refl
  doing_says (takes_step (executes v n value)) = refl
  doing_says (offers v n value) = refl
  doing_says (leads v) = refl

  told_says : (doings : List Doing) → said_by (told_in doings) ≡ said_in by.instance by.me doings
  told_says [] = refl
  told_says (d ∷ doings) =
      flat_map-append says_by (deeds_of d) (told_in doings)
      ∙ (ap (λ l. l ++ said_by (told_in doings)) (doing_says d) ∙ ap (λ l. sayings by.instance by.me d ++ l) (told_says doings))

  -- ---- what a deed sends

  -- the next signature
  abbrev signature : Post → Content → Signed
  signature p s = record { maker = by.me; content = s; sig = p.pen.sig s p.pen.used }

  record Tells (d : Notice) (p : Post) : Type 0 where
    outs : List Out
    sent : (posts by d p).sent ≡ p.sent ++ outs
    states : (o : Out) → Contains outs o → (g r : ℕ) → fresh g (Replica r) o.msg ≡ says_by d
    signs : (o : Out) → Contains outs o → signed_in o.msg ≡ map (signature p) (signed_by by d)
    some : 1 ≤ f → (s : Content) → Contains (says_by d) s → (o : Out) × Contains outs o
    speaks : (o : Out) → Contains outs o → (s : Content) × Contains (says_by d) s

  telling : (d : Notice) (p : Post) (says : ℕ → Msg) (first : Content) → (posts by d p).sent ≡ p.sent ++ to_others (3 * f + 1) by.me says → ((q g r : ℕ) → fresh g (Replica r) (says q) ≡ says_by d)
      → ((q : ℕ) → signed_in (says q) ≡ map (signature p) (signed_by by d)) → says_by d ≡ first ∷ [] → Tells d p
  telling d p says first sends states signatures one = record {
    outs = to_others (3 * f + 1) by.me says;
    sent = sends;
    states = λ o has g r. let w = others_from (3 * f + 1) by.me says o has in ap (λ (m : Msg). fresh g (Replica r) m) w.1 ∙ states w.0 g r;
    signs = λ o has. let w = others_from (3 * f + 1) by.me says o has in ap (λ (m : Msg). signed_in m) w.1 ∙ signatures w.0;
    some = λ faulty s has. let w = others_some (3 * f + 1) by.me says (omega (arith, faulty)) in (w.0, w.1);
    speaks = λ o has. (first, subst (λ (l : List Content). Contains l first) (sym one) (Contains-head first []));
  }

  silent : (d : Notice) (p : Post) → (posts by d p).sent ≡ p.sent → says_by d ≡ [] → Tells d p
  silent d p sends says = record {
    outs = [];
    sent = sends ∙ sym (append-nil p.sent);
    states = λ o has. absurd (Contains-none o has);
    signs = λ o has. absurd (Contains-none o has);
    some = λ faulty s has. absurd (Contains-none s (subst (λ (l : List Content). Contains l s) says has));
    speaks = λ o has. absurd (Contains-none o has);
  }

  tells_of : (d : Notice) (p : Post) → Tells d p
  tells_of (Signs view slot x) p =
      let s = Prepare (Replica by.me) by.instance view slot x in
      telling (Signs view slot x) p (λ r. msg.Prepare (signature p s)) s refl (λ q g r. refl) (λ q. refl) refl
  tells_of (Prepares view slot value) p = telling (Prepares view slot value) p (λ r. commit_message by view slot value) _ refl (λ q g r. refl) (λ q. refl) refl
  tells_of (Changes view entries) p = telling (Changes view entries) p (λ r. msg.ViewChange (own_change_of by p.shelf p.pen view entries)) _ refl (λ q g r. refl) (λ q. refl) refl
  tells_of (Enters view) p = silent (Enters view) p refl refl
  tells_of (Offers view slot value) p = telling (Offers view slot value) p (offer_message by p.shelf view slot value) _ refl (λ q g r. refl) (λ q. refl) refl
  tells_of (Leads view) p = telling (Leads view) p (λ r. lead_message by p.shelf view) _ refl (λ q g r. refl) (λ q. refl) refl

  abbrev told : Notice → Post → List Out
  told d p = (tells_of d p).outs

  sent_cases : (d : Notice) (p : Post) (o : Out) → Contains (posts by d p).sent o → Contains p.sent o ⊎ Contains (told d p) o
  sent_cases d p o has = Contains-append_cases p.sent (told d p) o (subst (λ (l : List Out). Contains l o) (tells_of d p).sent has)

  sent_now : (d : Notice) (p : Post) (o : Out) → Contains (told d p) o → Contains (posts by d p).sent o
  sent_now d p o has = subst (λ (l : List Out). Contains l o) (sym (tells_of d p).sent) (Contains-append_right p.sent (told d p) o has)

  -- what was sent stays sent
  still : (deeds : List Notice) (p : Post) (o : Out) → Contains p.sent o → Contains (posts_all by deeds p).sent o
  still [] p o has = has
  still (d ∷ deeds) p o has = still deeds (posts by d p) o (subst (λ (l : List Out). Contains l o) (sym (tells_of d p).sent) (Contains-append_left p.sent (told d p) o has))

  -- ---- statements

  all_stated : (deeds : List Notice) (p : Post) (s : Content) → 1 ≤ f → Contains (said_by deeds) s
      → (o : Out) × Contains (posts_all by deeds p).sent o × ((g r : ℕ) → Contains (fresh g (Replica r) o.msg) s)
  all_stated [] p s faulty has = absurd (Contains-none s has)
  all_stated (d ∷ deeds) p s faulty has =
      elim (Contains-append_cases (says_by d) (said_by deeds) s has) [
        | inl now ↦
            let w = (tells_of d p).some faulty s now in
            (w.0, still deeds (posts by d p) w.0 (sent_now d p w.0 w.1), λ g r. subst (λ (l : List Content). Contains l s) (sym ((tells_of d p).states w.0 w.1 g r)) now)
        | inr later ↦ all_stated deeds (posts by d p) s faulty later
      ]

  all_only : (deeds : List Notice) (p : Post) (o : Out) (s : Content) (g r : ℕ) → Contains (posts_all by deeds p).sent o → Contains (fresh g (Replica r) o.msg) s → Contains p.sent o ⊎ Contains (said_by deeds) s
  all_only [] p o s g r has is = inl has
  all_only (d ∷ deeds) p o s g r has is =
      elim (all_only deeds (posts by d p) o s g r has is) [
        | inl before ↦ elim (sent_cases d p o before) [
          | inl old ↦ inl old
          | inr now ↦ inr (Contains-append_left (says_by d) (said_by deeds) s (subst (λ (l : List Content). Contains l s) ((tells_of d p).states o now g r) is))
        ]
        | inr later ↦ inr (Contains-append_right (says_by d) (said_by deeds) s later)
      ]

  -- each message states something
  pub all_speak : (deeds : List Notice) (p : Post) (o : Out) (g r : ℕ) → Contains (posts_all by deeds p).sent o → Contains p.sent o ⊎ ((s : Content) × Contains (fresh g (Replica r) o.msg) s)
  all_speak [] p o g r has = inl has
  all_speak (d ∷ deeds) p o g r has =
      elim (all_speak deeds (posts by d p) o g r has) [
        | inl before ↦ elim (sent_cases d p o before) [
          | inl old ↦ inl old
          | inr now ↦ inr (let w = (tells_of d p).speaks o now in (w.0, subst (λ (l : List Content). Contains l w.0) (sym ((tells_of d p).states o now g r)) w.1))
        ]
        | inr later ↦ inr later
      ]

  -- ---- signatures

  behind : {X : Type 0} (xs ys : List X) (n : ℕ) → slice_get (xs ++ ys) (length xs + n) ≡ slice_get ys n
  behind [] ys n = ap (λ m. slice_get ys m) (let e : 0 + n ≡ n = omega arith in e)
  behind (x ∷ xs) ys n =
      let e : suc (length xs) + n ≡ suc (length xs + n) = omega arith in
      ap (λ m. slice_get (x ∷ xs ++ ys) m) e ∙ behind xs ys n

  -- it is the signature of a place in these contents, counted from a pen
  abbrev IsPlaced : Pen → List Content → Signed → Type 0
  IsPlaced pen contents w = (n : ℕ) × (slice_get contents n ≡ Some w.content) × (w.sig ≡ pen.sig w.content (pen.used + n))

  placed_first : (p : Post) (s : Content) (rest : List Content) (w : Signed) → Contains (signature p s ∷ []) w → IsPlaced p.pen (s ∷ rest) w
  placed_first p s rest w has =
      subst (λ (z : Signed). IsPlaced p.pen (s ∷ rest) z) (Contains-one (signature p s) w has) (zero, refl, ap (λ n. p.pen.sig s n) (let e : p.pen.used ≡ p.pen.used + 0 = omega arith in e))

  placed_by : (d : Notice) (p : Post) (rest : List Content) (w : Signed) → Contains (map (signature p) (signed_by by d)) w → IsPlaced p.pen (signed_by by d ++ rest) w
  placed_by (Signs view slot x) p rest w has = placed_first p (Prepare (Replica by.me) by.instance view slot x) rest w has
  placed_by (Prepares view slot value) p rest w has = absurd (Contains-none w has)
  placed_by (Changes view entries) p rest w has = placed_first p (ViewChange (Replica by.me) by.instance view entries) rest w has
  placed_by (Enters view) p rest w has = absurd (Contains-none w has)
  placed_by (Offers view slot value) p rest w has = absurd (Contains-none w has)
  placed_by (Leads view) p rest w has = absurd (Contains-none w has)

  -- one that is placed in the rest is placed in the whole
  placed_later : (d : Notice) (p : Post) (rest : List Content) (w : Signed) → IsPlaced (posts by d p).pen rest w → IsPlaced p.pen (signed_by by d ++ rest) w
  placed_later d p rest w is =
      let now = signed_by by d in
      let after : IsPlaced (moved p.pen (length now)) rest w = subst (λ (pen : Pen). IsPlaced pen rest w) (pen_by by d p) is in
      (length now + after.0, behind now rest after.0 ∙ after.1, after.2 ∙ ap (λ n. p.pen.sig w.content n) (let e : p.pen.used + length now + after.0 ≡ p.pen.used + (length now + after.0) = omega arith in e))

  all_signed : (deeds : List Notice) (p : Post) (o : Out) (w : Signed) → Contains (posts_all by deeds p).sent o → Contains (signed_in o.msg) w → Contains p.sent o ⊎ IsPlaced p.pen (signed_in_all by deeds) w
  all_signed [] p o w has in_it = inl has
  all_signed (d ∷ deeds) p o w has in_it =
      elim (all_signed deeds (posts by d p) o w has in_it) [
        | inl before ↦ elim (sent_cases d p o before) [
          | inl old ↦ inl old
          | inr now ↦ inr (placed_by d p (signed_in_all by deeds) w (subst (λ (l : List Signed). Contains l w) ((tells_of d p).signs o now) in_it))
        ]
        | inr later ↦ inr (placed_later d p (signed_in_all by deeds) w later)
      ]

  signed_says : (d : Notice) (s : Content) → Contains (signed_by by d) s → Contains (says_by d) s
  signed_says (Signs view slot x) s has = has
  signed_says (Prepares view slot value) s has = absurd (Contains-none s has)
  signed_says (Changes view entries) s has = has
  signed_says (Enters view) s has = absurd (Contains-none s has)
  signed_says (Offers view slot value) s has = absurd (Contains-none s has)
  signed_says (Leads view) s has = absurd (Contains-none s has)

  all_sent : (deeds : List Notice) (p : Post) (s : Content) → 1 ≤ f → Contains (signed_in_all by deeds) s
      → (o : Out) × (w : Signed) × Contains (posts_all by deeds p).sent o × Contains (signed_in o.msg) w × (w.content ≡ s)
  all_sent [] p s faulty has = absurd (Contains-none s has)
  all_sent (d ∷ deeds) p s faulty has =
      elim (Contains-append_cases (signed_by by d) (signed_in_all by deeds) s has) [
        | inl now ↦
            let w = (tells_of d p).some faulty s (signed_says d s now) in
            let signed = Contains-map (signature p) (signed_by by d) s now in (
              w.0,
              signature p s,
              still deeds (posts by d p) w.0 (sent_now d p w.0 w.1),
              subst (λ (l : List Signed). Contains l (signature p s)) (sym ((tells_of d p).signs w.0 w.1)) signed,
              refl,
            )
        | inr later ↦ all_sent deeds (posts by d p) s faulty later
      ]

-- ---- it does what the rules say

pub signing_obeys : Obeys signing pbft
signing_obeys = record {
  begins = λ c i r e. refl;
  placed = λ c i r e. (refl, refl);
  goes_on = λ pen q call. refl;
  stays = λ pen q call. (refl, refl);
  stated = λ pen q call s has.
      all_stated (author_of q) (deeds_by q call) (first_post pen q call) s q.cluster.in_bounds.some_faulty
      (subst (λ (l : List Content). Contains l s) (sym (told_says (author_of q) (done_by q.order (input_of q call)).doings)) has);
  only = λ pen q call o s g r has is.
      elim (all_only (author_of q) (deeds_by q call) (first_post pen q call) o s g r has is) [
        | inl none ↦ absurd (Contains-none o none)
        | inr its ↦ subst (λ (l : List Content). Contains l s) (told_says (author_of q) (done_by q.order (input_of q call)).doings) its
      ];
  signed = λ pen q call o w has in_it.
      elim (all_signed (author_of q) (deeds_by q call) (first_post pen q call) o w has in_it) [
        | inl none ↦ absurd (Contains-none o none)
        | inr is ↦ (is.0, is.1, is.2)
      ];
  sent = λ pen q call s has. all_sent (author_of q) (deeds_by q call) (first_post pen q call) s q.cluster.in_bounds.some_faulty has;
}
