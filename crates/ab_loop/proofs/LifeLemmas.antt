-- A party that is stopped at any moment, and started again over what it kept.
use Rattle.std.proofs.Common.{◌≡◌, ℕ, ◌+◌, ◌-◌, ◌^◌, ◌≤◌, List, [], ◌∷◌, ◌++◌, length, map, Option, None, Some, Bool, true, false, cond, inl, inr, refl, ap, sym, subst, ◌∙◌, append_assoc, append-nil, length-append, arith}
use Rattle.std.specs.Prelude.{slice_get}
use Rattle.std.specs.List.{cons_option}
use Rattle.std.specs.Option.{option_to_list}
use Rattle.std.proofs.lemmas.Bool.{cases_Bool}
use Rattle.std.proofs.lemmas.List.{map-append}
use Rattle.std.proofs.lemmas.Grind.{flat_map-append}
use Rattle.arrayvec.specs.ArrayVec.{ArrayVec}
use Rattle.ab_io.specs.Datagrams.{Datagram}
use Rattle.ab_msg.specs.Packets.{Packet}
use Rattle.ab_piece.specs.Joining.{Answer, dropped, more, step_of, whole}
use Rattle.ab_loop.specs.declared.party_core.Commit.{Commit}
use Rattle.ab_loop.specs.Settings.{NodeSetting}
use Rattle.ab_loop.specs.Cores.{NodeEvent, Rules, invoke, message, timeout}
use Rattle.ab_loop.specs.Past.{body_of}
use Rattle.ab_loop.specs.Edges.{capped, Effect, bodies_in, handed_in, keeps, keeping, replies, replies_in, sending, writing}
use Rattle.ab_loop.specs.Texts.{end_text, reply_text}
use Rattle.ab_loop.specs.Nodes.{Node, Out, Turn, after_reply, and_then, begin_step, command_step, datagram_step, datagrams_in, event_step, first_step, has_expired, joined_step, kept_of, latest, new_node, next_deadline, no_step, parcels_of, past_node, past_text, reply_step, run_after, told_step, timer_step, trace_text, turn_step, waits_in, with_deadline, with_joiner}
use Rattle.ab_loop.specs.Folds.{commits_in, core_after, sends_in}
use Rattle.ab_loop.specs.Lives.{Among, AreIdle, Comes, IsLife, IsStopped, StoppedRun, handed_by, kept_by, replied_by}
use Rattle.ab_loop.proofs.AmongLemmas.{among_all, among_both, among_carried, among_front, among_right, front_among, front_none, front_split}
use Rattle.ab_loop.proofs.DidLemmas.{bodies_in-append, bodies_in-sending, bodies_in-writing, handed_in-append, handed_in-sending, handed_in-writing, replies_in-append, replies_in-sending, replies_in-writing}
use Rattle.ab_loop.proofs.FollowsLemmas.{event_bodies, event_effects}
use Rattle.ab_loop.proofs.FoldLemmas.{begun, commits_in-append, core_after-append, event_hands, event_replies, parcels_of-append, sends_in-append}

-- ---- bodies

same_body : (a b : NodeEvent) → body_of a ≡ body_of b → a ≡ b
same_body (invoke x) (invoke y) e = let same : x ≡ y = cc in ap invoke same
same_body (invoke x) (message y) e = cc
same_body (invoke x) timeout e = cc
same_body (message x) (invoke y) e = cc
same_body (message x) (message y) e = let same : x ≡ y = cc in ap message same
same_body (message x) timeout e = cc
same_body timeout (invoke y) e = cc
same_body timeout (message y) e = cc
same_body timeout timeout e = refl

same_bodies : (a b : List NodeEvent) → map body_of a ≡ map body_of b → a ≡ b
same_bodies [] [] e = refl
same_bodies [] (y ∷ b) e = cc
same_bodies (x ∷ a) [] e = cc
same_bodies (x ∷ a) (y ∷ b) e =
    let heads : body_of x ≡ body_of y = cc in
    let tails : map body_of a ≡ map body_of b = cc in
    ap (λ (h : NodeEvent). h ∷ a) (same_body x y heads) ∙ ap (λ (l : List NodeEvent). y ∷ l) (same_bodies a b tails)

-- ---- effects of which nothing is kept, handed over or replied

record AreQuiet (es : List Effect) : Type 0 where
  bodies : bodies_in es ≡ []
  handed : handed_in es ≡ []
  told : replies_in es ≡ []

quiet_writing : (text : List ℕ) → AreQuiet (writing text)
quiet_writing text = record { bodies = bodies_in-writing text; handed = handed_in-writing text; told = replies_in-writing text }

quiet_front : (es front back : List Effect) → es ≡ front ++ back → AreQuiet es → AreQuiet front
quiet_front es front back e q = record {
  bodies = front_none (bodies_in front) (bodies_in back) (sym q.bodies ∙ ap bodies_in e ∙ bodies_in-append front back);
  handed = front_none (handed_in front) (handed_in back) (sym q.handed ∙ ap handed_in e ∙ handed_in-append front back);
  told = front_none (replies_in front) (replies_in back) (sym q.told ∙ ap replies_in e ∙ replies_in-append front back);
}

quiet_then : (a b : List Effect) → AreQuiet a → (bodies_in (a ++ b) ≡ bodies_in b) × (handed_in (a ++ b) ≡ handed_in b) × (replies_in (a ++ b) ≡ replies_in b)
quiet_then a b q = (
  bodies_in-append a b ∙ ap (λ l. l ++ bodies_in b) q.bodies,
  handed_in-append a b ∙ ap (λ l. l ++ handed_in b) q.handed,
  replies_in-append a b ∙ ap (λ l. l ++ replies_in b) q.told,
)

quiet_behind : (a b : List Effect) → AreQuiet b → (bodies_in (a ++ b) ≡ bodies_in a) × (handed_in (a ++ b) ≡ handed_in a) × (replies_in (a ++ b) ≡ replies_in a)
quiet_behind a b q = (
  bodies_in-append a b ∙ ap (λ l. bodies_in a ++ l) q.bodies ∙ append-nil (bodies_in a),
  handed_in-append a b ∙ ap (λ l. handed_in a ++ l) q.handed ∙ append-nil (handed_in a),
  replies_in-append a b ∙ ap (λ l. replies_in a ++ l) q.told ∙ append-nil (replies_in a),
)

module _ {C : Type 0} (rules : Rules C) (s : NodeSetting) where
  -- the datagrams of what a core sends in these events, where the last message before them had this number
  abbrev datagrams_of : ℕ → C → List NodeEvent → List Datagram
  datagrams_of number core es = datagrams_in (parcels_of s number (sends_in rules core es))

  abbrev number_after : ℕ → C → List NodeEvent → ℕ
  number_after number core es = capped (number + length (sends_in rules core es))

  -- What these effects did, where they began with this core, number and commit: the events of which the bodies are kept, what was handed
  -- over in them, and what was told.
  record Leaves (core : C) (number : ℕ) (commit : Option Commit) (done : List Effect) : Type 0 where
    kept : List NodeEvent
    bodies : bodies_in done ≡ map body_of kept
    handed : Among (handed_in done) (datagrams_of number core kept)
    told : Among (replies_in done) (option_to_list commit ++ commits_in rules core kept)

  leaves_quiet : (core : C) (number : ℕ) (commit : Option Commit) (done : List Effect) → AreQuiet done → Leaves core number commit done
  leaves_quiet core number commit done q = record {
    kept = [];
    bodies = q.bodies;
    handed = subst (λ (l : List Datagram). Among l []) (sym q.handed) tt;
    told = subst (λ (l : List Commit). Among l (option_to_list commit ++ [])) (sym q.told) tt;
  }

  -- the same of a whole step, and then of each front of it
  record Passes (core : C) (number : ℕ) (commit : Option Commit) (o : Out C) : Type 0 where
    kept : List NodeEvent
    bodies : bodies_in o.effects ≡ map body_of kept
    core_is : o.node.core ≡ core_after rules core kept
    number_is : o.node.number ≡ capped (number + length (sends_in rules core kept))
    handed : Among (handed_in o.effects) (datagrams_of number core kept)
    told : Among (replies_in o.effects ++ option_to_list o.node.commit) (option_to_list commit ++ commits_in rules core kept)
    fronts : (done left : List Effect) → o.effects ≡ done ++ left → Leaves core number commit done

  passes_still : (core : C) (number : ℕ) (commit : Option Commit) (n : Node C) → number ≤ 2 ^ 64 - 1 → n.core ≡ core → n.number ≡ number → n.commit ≡ commit → Passes core number commit (no_step n)
  passes_still core number commit n le c k m = record {
    kept = [];
    bodies = refl;
    core_is = c;
    number_is = omega (arith, k, le);
    handed = tt;
    told = subst (λ (l : List Commit). Among (option_to_list n.commit) l) (sym (append-nil (option_to_list commit))) (subst (λ (o : Option Commit). Among (option_to_list n.commit) (option_to_list o)) m (among_all (option_to_list n.commit)));
    fronts = λ done left e. leaves_quiet core number commit done (quiet_front [] done left e (record { bodies = refl; handed = refl; told = refl }));
  }

  -- ---- an event

  latest_told : (old new : Option Commit) → Among (option_to_list (latest old new)) (option_to_list old ++ cons_option new [])
  latest_told old None = subst (λ (l : List Commit). Among (option_to_list old) l) (sym (append-nil (option_to_list old))) (among_all (option_to_list old))
  latest_told old (Some c) = among_right (c ∷ []) (option_to_list old) (c ∷ []) (among_all (c ∷ []))

  -- a front of keeping a body and handing datagrams over
  kept_front : (core : C) (number : ℕ) (commit : Option Commit) (e : NodeEvent) (done left : List Effect) → keeping (body_of e ∷ []) ++ sending (datagrams_of number core (e ∷ [])) ≡ done ++ left
      → Leaves core number commit done
  kept_front core number commit e [] left same = leaves_quiet core number commit [] (record { bodies = refl; handed = refl; told = refl })
  kept_front core number commit e (x ∷ done) left same =
      let ds = datagrams_of number core (e ∷ []) in
      let head : x ≡ keeps (body_of e) = cc in
      let tail : sending ds ≡ done ++ left = cc in
      let handed : ds ≡ handed_in done ++ handed_in left = sym (handed_in-sending ds) ∙ ap handed_in tail ∙ handed_in-append done left in
      let none : bodies_in done ≡ [] = front_none (bodies_in done) (bodies_in left) (sym (bodies_in-sending ds) ∙ ap bodies_in tail ∙ bodies_in-append done left) in
      let silent : replies_in done ≡ [] = front_none (replies_in done) (replies_in left) (sym (replies_in-sending ds) ∙ ap replies_in tail ∙ replies_in-append done left) in
      subst (λ (y : Effect). Leaves core number commit (y ∷ done)) (sym head) (record {
        kept = e ∷ [];
        bodies = ap (λ (l : List (List ℕ)). body_of e ∷ l) none;
        handed = subst (λ (l : List Datagram). Among (handed_in done) l) (sym handed) (among_front (handed_in done) (handed_in left));
        told = subst (λ (l : List Commit). Among l (option_to_list commit ++ commits_in rules core (e ∷ []))) (sym silent) tt;
      })

  -- quiet effects before
  leaves_after : (core : C) (number : ℕ) (commit : Option Commit) (a done : List Effect) → AreQuiet a → Leaves core number commit done → Leaves core number commit (a ++ done)
  leaves_after core number commit a done q l =
      let same = quiet_then a done q in
      record {
        kept = l.kept;
        bodies = same.0 ∙ l.bodies;
        handed = subst (λ (x : List Datagram). Among x (datagrams_of number core l.kept)) (sym same.1) l.handed;
        told = subst (λ (x : List Commit). Among x (option_to_list commit ++ commits_in rules core l.kept)) (sym same.2) l.told;
      }

  event_front : (core : C) (number : ℕ) (commit : Option Commit) (e : NodeEvent) (text : List ℕ) (done left : List Effect)
      → event_effects text (body_of e ∷ []) (datagrams_of number core (e ∷ [])) ≡ done ++ left → Leaves core number commit done
  event_front core number commit e text done left same =
      elim (front_split (writing text) (keeping (body_of e ∷ []) ++ sending (datagrams_of number core (e ∷ []))) done left same) [
        | inl first ↦ leaves_quiet core number commit done (quiet_front (writing text) done first.0 first.1 (quiet_writing text))
        | inr second ↦ subst (Leaves core number commit) (sym second.1)
            (leaves_after core number commit (writing text) second.0 (quiet_writing text) (kept_front core number commit e second.0 left second.2))
      ]

  module _ (start : C) (idle : AreIdle rules start) where
    comes_on : (core : C) (e : NodeEvent) → Comes rules start core → Comes rules start (rules.step core e).after
    comes_on core e o = (o.0 ++ e ∷ [], core_after-append rules start o.0 (e ∷ []) ∙ ap (λ (c : C). (rules.step c e).after) o.1)

    comes_after : (es : List NodeEvent) (core : C) → Comes rules start core → Comes rules start (core_after rules core es)
    comes_after [] core o = o
    comes_after (e ∷ es) core o = comes_after es (rules.step core e).after (comes_on core e o)

    -- an event that is kept
    event_kept : (t : ℕ) (e : NodeEvent) (n : Node C) → (rules.step n.core e).opened ≡ true → Passes n.core n.number n.commit (event_step rules s t e n)
    unfolding event_step
    event_kept t e n opened =
        let done = rules.step n.core e in
        let text = trace_text s e in
        let bodies = kept_of done.opened e in
        let ds = datagrams_in (parcels_of s n.number done.sends) in
        let sends : done.sends ≡ sends_in rules n.core (e ∷ []) = sym (append-nil done.sends) in
        let same : datagrams_of n.number n.core (e ∷ []) ≡ ds = ap (λ (ms : List Packet). datagrams_in (parcels_of s n.number ms)) (sym sends) in
        let one : bodies ≡ body_of e ∷ [] = ap (λ (b : Bool). kept_of b e) opened in
        let silent = event_replies rules s text bodies ds in
        record {
          kept = e ∷ [];
          bodies = event_bodies text bodies ds ∙ one;
          core_is = refl;
          number_is = ap (λ (ms : List Packet). capped (n.number + length ms)) sends;
          handed = subst (λ (l : List Datagram). Among l (datagrams_of n.number n.core (e ∷ []))) (same ∙ sym (event_hands rules s text bodies ds)) (among_all (datagrams_of n.number n.core (e ∷ [])));
          told = subst (λ (l : List Commit). Among (l ++ option_to_list (latest n.commit done.commit)) (option_to_list n.commit ++ cons_option done.commit [])) (sym silent) (latest_told n.commit done.commit);
          fronts = λ front left is. event_front n.core n.number n.commit e text front left
              (ap (λ (l : List (List ℕ)). event_effects text l (datagrams_of n.number n.core (e ∷ []))) (sym one) ∙ ap (λ (l : List Datagram). event_effects text bodies l) same ∙ is);
        }

    -- an event that isn't kept
    event_idle : (t : ℕ) (e : NodeEvent) (n : Node C) → n.number ≤ 2 ^ 64 - 1 → Comes rules start n.core → (rules.step n.core e).opened ≡ false → Passes n.core n.number n.commit (event_step rules s t e n)
    unfolding event_step
    event_idle t e n le comes opened =
        let done = rules.step n.core e in
        let text = trace_text s e in
        let bodies = kept_of done.opened e in
        let ds = datagrams_in (parcels_of s n.number done.sends) in
        let no_sends : done.sends ≡ [] = idle.sends n.core e comes opened in
        let no_commit : done.commit ≡ None = idle.commit n.core e comes opened in
        let quiet : AreQuiet (event_effects text bodies ds) = record {
          bodies = event_bodies text bodies ds ∙ ap (λ (b : Bool). kept_of b e) opened;
          handed = event_hands rules s text bodies ds ∙ ap (λ (ms : List Packet). datagrams_in (parcels_of s n.number ms)) no_sends;
          told = event_replies rules s text bodies ds;
        } in
        record {
          kept = [];
          bodies = quiet.bodies;
          core_is = idle.after n.core e comes opened;
          number_is = ap (λ (ms : List Packet). capped (n.number + length ms)) no_sends;
          handed = subst (λ (l : List Datagram). Among l []) (sym quiet.handed) tt;
          told = subst (λ (l : List Commit). Among (l ++ option_to_list (latest n.commit done.commit)) (option_to_list n.commit ++ [])) (sym quiet.told)
              (subst (λ (o : Option Commit). Among (option_to_list (latest n.commit o)) (option_to_list n.commit ++ [])) (sym no_commit)
              (subst (λ (l : List Commit). Among (option_to_list n.commit) l) (sym (append-nil (option_to_list n.commit))) (among_all (option_to_list n.commit))));
          fronts = λ front left is. leaves_quiet n.core n.number n.commit front (quiet_front (event_effects text bodies ds) front left is quiet);
        }

    event_passes : (t : ℕ) (e : NodeEvent) (n : Node C) → n.number ≤ 2 ^ 64 - 1 → Comes rules start n.core → Passes n.core n.number n.commit (event_step rules s t e n)
    event_passes t e n le comes = elim (cases_Bool (rules.step n.core e).opened) [ inl opened ↦ event_kept t e n opened | inr none ↦ event_idle t e n le comes none ]

    -- ---- one step after the other

    datagrams_then : (number : ℕ) (core : C) (a b : List NodeEvent) → number ≤ 2 ^ 64 - 1
        → datagrams_of number core (a ++ b) ≡ datagrams_of number core a ++ datagrams_of (number_after number core a) (core_after rules core a) b
    datagrams_then number core a b le =
        ap (λ (ms : List Packet). datagrams_in (parcels_of s number ms)) (sends_in-append rules core a b)
        ∙ ap datagrams_in (parcels_of-append s number (sends_in rules core a) (sends_in rules (core_after rules core a) b) le)
        ∙ flat_map-append (λ p. p) (parcels_of s number (sends_in rules core a)) (parcels_of s (number_after number core a) (sends_in rules (core_after rules core a) b))

    -- what is left by the second step, seen from before the first
    handed_then : (number : ℕ) (core : C) (a b : List NodeEvent) (x y : List Datagram) → number ≤ 2 ^ 64 - 1 → Among x (datagrams_of number core a)
        → Among y (datagrams_of (number_after number core a) (core_after rules core a) b) → Among (x ++ y) (datagrams_of number core (a ++ b))
    handed_then number core a b x y le p q =
        subst (λ (l : List Datagram). Among (x ++ y) l) (sym (datagrams_then number core a b le)) (among_both x (datagrams_of number core a) y (datagrams_of (number_after number core a) (core_after rules core a) b) p q)

    told_then : (commit carried : Option Commit) (core : C) (a b : List NodeEvent) (x y : List Commit) → Among (x ++ option_to_list carried) (option_to_list commit ++ commits_in rules core a)
        → Among y (option_to_list carried ++ commits_in rules (core_after rules core a) b) → Among (x ++ y) (option_to_list commit ++ commits_in rules core (a ++ b))
    told_then commit carried core a b x y p q =
        subst (λ (l : List Commit). Among (x ++ y) (option_to_list commit ++ l)) (sym (commits_in-append rules core a b))
        (among_carried x (option_to_list carried) y (option_to_list commit) (commits_in rules core a) (commits_in rules (core_after rules core a) b) p q)

    -- seen from where the first step leads
    moved : (core : C) (number : ℕ) (commit : Option Commit) (a : Out C) (p : Passes core number commit a) (done : List Effect)
        → Leaves a.node.core a.node.number a.node.commit done → Leaves (core_after rules core p.kept) (number_after number core p.kept) a.node.commit done
    moved core number commit a p done l =
        subst (λ (k : ℕ). Leaves (core_after rules core p.kept) k a.node.commit done) p.number_is (subst (λ (c : C). Leaves c a.node.number a.node.commit done) p.core_is l)

    leaves_then : (core : C) (number : ℕ) (commit : Option Commit) (a : Out C) → number ≤ 2 ^ 64 - 1 → (p : Passes core number commit a) (done : List Effect)
        → Leaves (core_after rules core p.kept) (number_after number core p.kept) a.node.commit done → Leaves core number commit (a.effects ++ done)
    leaves_then core number commit a le p done l = record {
      kept = p.kept ++ l.kept;
      bodies = bodies_in-append a.effects done ∙ ap (λ x. x ++ bodies_in done) p.bodies ∙ ap (λ x. map body_of p.kept ++ x) l.bodies ∙ sym (map-append body_of p.kept l.kept);
      handed = subst (λ (x : List Datagram). Among x (datagrams_of number core (p.kept ++ l.kept))) (sym (handed_in-append a.effects done))
          (handed_then number core p.kept l.kept (handed_in a.effects) (handed_in done) le p.handed l.handed);
      told = subst (λ (x : List Commit). Among x (option_to_list commit ++ commits_in rules core (p.kept ++ l.kept))) (sym (replies_in-append a.effects done))
          (told_then commit a.node.commit core p.kept l.kept (replies_in a.effects) (replies_in done) p.told l.told);
    }

    passes_then : (core : C) (number : ℕ) (commit : Option Commit) (a : Out C) (f : Node C → Out C) → number ≤ 2 ^ 64 - 1 → Passes core number commit a → Passes a.node.core a.node.number a.node.commit (f a.node)
        → Passes core number commit (and_then a f)
    passes_then core number commit a f le p second =
        let b = f a.node in
        let q : Passes (core_after rules core p.kept) (number_after number core p.kept) a.node.commit b =
        subst (λ (k : ℕ). Passes (core_after rules core p.kept) k a.node.commit b) p.number_is (subst (λ (c : C). Passes c a.node.number a.node.commit b) p.core_is second) in
        let count : length (sends_in rules core (p.kept ++ q.kept)) ≡ length (sends_in rules core p.kept) + length (sends_in rules (core_after rules core p.kept) q.kept) =
        ap (λ (ms : List Packet). length ms) (sends_in-append rules core p.kept q.kept) ∙ length-append (sends_in rules core p.kept) (sends_in rules (core_after rules core p.kept) q.kept) in
        record {
          kept = p.kept ++ q.kept;
          bodies = bodies_in-append a.effects b.effects ∙ ap (λ x. x ++ bodies_in b.effects) p.bodies ∙ ap (λ x. map body_of p.kept ++ x) q.bodies ∙ sym (map-append body_of p.kept q.kept);
          core_is = q.core_is ∙ sym (core_after-append rules core p.kept q.kept);
          number_is = omega (arith, q.number_is, count);
          handed = subst (λ (x : List Datagram). Among x (datagrams_of number core (p.kept ++ q.kept))) (sym (handed_in-append a.effects b.effects))
              (handed_then number core p.kept q.kept (handed_in a.effects) (handed_in b.effects) le p.handed q.handed);
          told = subst (λ (x : List Commit). Among (x ++ option_to_list b.node.commit) (option_to_list commit ++ commits_in rules core (p.kept ++ q.kept))) (sym (replies_in-append a.effects b.effects))
              (subst (λ (x : List Commit). Among x (option_to_list commit ++ commits_in rules core (p.kept ++ q.kept))) (sym (append_assoc (replies_in a.effects) (replies_in b.effects) (option_to_list b.node.commit)))
              (told_then commit a.node.commit core p.kept q.kept (replies_in a.effects) (replies_in b.effects ++ option_to_list b.node.commit) p.told q.told));
          fronts = λ done left is. elim (front_split a.effects b.effects done left is) [
            | inl first ↦ p.fronts done first.0 first.1
            | inr later ↦ subst (Leaves core number commit) (sym later.1) (leaves_then core number commit a le p later.0 (q.fronts later.0 left later.2))
          ];
        }

    -- no number is past the last, and the core is one to which the party comes
    record IsGood (n : Node C) : Type 0 where
      number : n.number ≤ 2 ^ 64 - 1
      comes : Comes rules start n.core

    good_after : (core : C) (number : ℕ) (commit : Option Commit) (o : Out C) → Comes rules start core → Passes core number commit o → IsGood o.node
    good_after core number commit o comes p = record { number = omega (arith, p.number_is); comes = subst (λ (c : C). Comes rules start c) (sym p.core_is) (comes_after p.kept core comes) }

    abbrev PassesFrom : Node C → Out C → Type 0
    PassesFrom n o = Passes n.core n.number n.commit o

    still_from : (n : Node C) → IsGood n → PassesFrom n (no_step n)
    still_from n good = passes_still n.core n.number n.commit n good.number refl refl refl

    step_then : (n : Node C) (a : Out C) (f : Node C → Out C) → IsGood n → PassesFrom n a → (IsGood a.node → PassesFrom a.node (f a.node)) → PassesFrom n (and_then a f)
    step_then n a f good p second = passes_then n.core n.number n.commit a f good.number p (second (good_after n.core n.number n.commit a good.comes p))

    event_from : (t : ℕ) (e : NodeEvent) (n : Node C) → IsGood n → PassesFrom n (event_step rules s t e n)
    event_from t e n good = event_passes t e n good.number good.comes

    dated : (core : C) (number : ℕ) (commit : Option Commit) (deadline : ℕ) (o : Out C) → Passes core number commit o → Passes core number commit (with_deadline deadline o)
    dated core number commit deadline o p = record { kept = p.kept; bodies = p.bodies; core_is = p.core_is; number_is = p.number_is; handed = p.handed; told = p.told; fronts = p.fronts }

    timer_from : (t : ℕ) (n : Node C) → IsGood n → PassesFrom n (timer_step rules s t n)
    unfolding timer_step
    timer_from t n good =
        elim (cases_Bool (has_expired rules t n)) [
          | inl expired ↦ rw expired (dated n.core n.number n.commit (next_deadline s t) (event_step rules s t timeout n) (event_from t timeout n good))
          | inr running ↦ rw running (still_from n good)
        ]

    joined_from : (t : ℕ) (a : Answer) (n : Node C) → IsGood n → PassesFrom n (joined_step rules s t a n)
    joined_from t (whole text) n good = event_from t (message text) n good
    joined_from t more n good = still_from n good
    joined_from t (dropped why) n good = still_from n good

    datagram_from : (t : ℕ) (got : Option (List ℕ)) (n : Node C) → IsGood n → PassesFrom n (datagram_step rules s t got n)
    unfolding datagram_step
    datagram_from t None n good = still_from n good
    datagram_from t (Some bytes) n good = joined_from t (step_of n.joiner bytes).answer (with_joiner (step_of n.joiner bytes).after n) (record { number = good.number; comes = good.comes })

    command_from : (t : ℕ) (n : Node C) → IsGood n → PassesFrom n (command_step rules s t n)
    unfolding command_step
    command_from t n good = go (slice_get n.commands 0) where
      go : (next : Option (ArrayVec ℕ)) → PassesFrom n (elim next [ None ↦ no_step n | Some c ↦ event_step rules s t (invoke c.items) n ])
      go None = still_from n good
      go (Some c) = event_from t (invoke c.items) n good

    -- the line of the commit that the node has
    told_from : (n : Node C) (c : Commit) → n.commit ≡ Some c → IsGood n → PassesFrom n (told_step (after_reply n) c)
    told_from n c is good =
        let effects = replies c ∷ writing (reply_text c) in
        let one : replies_in effects ≡ c ∷ [] = ap (λ (l : List Commit). c ∷ l) (replies_in-writing (reply_text c)) in
        let from : option_to_list n.commit ++ [] ≡ c ∷ [] = ap (λ (o : Option Commit). option_to_list o ++ []) is in
        record {
          kept = [];
          bodies = bodies_in-writing (reply_text c);
          core_is = refl;
          number_is = let k = good.number in omega (arith, k);
          handed = subst (λ (l : List Datagram). Among l []) (sym (handed_in-writing (reply_text c))) tt;
          told = subst (λ (l : List Commit). Among (replies_in effects ++ []) l) (sym from) (subst (λ (l : List Commit). Among (l ++ []) (c ∷ [])) (sym one) (among_all (c ∷ [])));
          fronts = λ done left e. record {
            kept = [];
            bodies = front_none (bodies_in done) (bodies_in left) (sym (bodies_in-writing (reply_text c)) ∙ ap bodies_in e ∙ bodies_in-append done left);
            handed = subst (λ (l : List Datagram). Among l []) (sym (front_none (handed_in done) (handed_in left) (sym (handed_in-writing (reply_text c)) ∙ ap handed_in e ∙ handed_in-append done left))) tt;
            told = subst (λ (l : List Commit). Among (replies_in done) l) (sym from)
                (front_among (c ∷ []) (replies_in done) (replies_in left) (c ∷ []) (sym one ∙ ap replies_in e ∙ replies_in-append done left) (among_all (c ∷ [])));
          };
        }

    reply_from : (t : ℕ) (n : Node C) → IsGood n → PassesFrom n (reply_step rules s t n)
    unfolding reply_step
    reply_from t n good = go n.commit refl where
      go : (commit : Option Commit) → n.commit ≡ commit → PassesFrom n (elim commit [ None ↦ no_step n | Some c ↦ and_then (told_step (after_reply n) c) (command_step rules s t) ])
      go None is = still_from n good
      go (Some c) is = step_then n (told_step (after_reply n) c) (command_step rules s t) good (told_from n c is good) (λ next. command_from t (after_reply n) next)

    turn_from : (turn : Turn) (n : Node C) → IsGood n → PassesFrom n (turn_step rules s turn n)
    unfolding turn_step
    turn_from turn n good =
        let t = turn.reading in
        let first = timer_step rules s t n in
        let two = and_then first (datagram_step rules s t turn.got) in
        step_then n two (reply_step rules s t) good
        (step_then n first (datagram_step rules s t turn.got) good (timer_from t n good) (λ next. datagram_from t turn.got first.node next))
        (λ next. reply_from t two.node next)

    -- ---- a run

    -- a run behind lines that were written again: what it did then, from the node m on
    record Goes (m : Node C) (text : List ℕ) (o : Out C) : Type 0 where
      effects : List Effect
      parts : o.effects ≡ writing text ++ effects
      passes : PassesFrom m (record { node = o.node; effects = effects; events = [] })

    begin_goes : (t : ℕ) (past : List NodeEvent) (n : Node C) → IsGood (past_node rules s t past n) → Goes (past_node rules s t past n) (past_text rules s n.core past) (begin_step rules s t past n)
    unfolding begin_step
    begin_goes t past n good = go (waits_in rules n.core false past) where
      plain : (m : Node C) (o : Out C) → PassesFrom m o → PassesFrom m (record { node = o.node; effects = o.effects; events = [] })
      plain m o p = record { kept = p.kept; bodies = p.bodies; core_is = p.core_is; number_is = p.number_is; handed = p.handed; told = p.told; fronts = p.fronts }

      go : (waits : Bool) → Goes (past_node rules s t past n) (past_text rules s n.core past)
          (and_then (record { node = past_node rules s t past n; effects = writing (past_text rules s n.core past); events = past }) (cond waits no_step (command_step rules s t)))
      go true = record { effects = []; parts = refl; passes = plain (past_node rules s t past n) (no_step (past_node rules s t past n)) (still_from (past_node rules s t past n) good) }
      go false =
          let m = past_node rules s t past n in
          let next = command_step rules s t m in
          record { effects = next.effects; parts = refl; passes = plain m next (command_from t m good) }

    run_goes : (m : Node C) (text : List ℕ) (o : Out C) (turns : List Turn) → IsGood m → Goes m text o → Goes m text (run_after rules s o turns)
    run_goes m text o [] good g = g
    run_goes m text o (turn ∷ before) good g =
        let b = run_goes m text o before good g in
        let here = run_after rules s o before in
        let front : Out C = record { node = here.node; effects = b.effects; events = [] } in
        let next = turn_step rules s turn here.node in
        let p = step_then m front (turn_step rules s turn) good b.passes (λ later. turn_from turn here.node later) in
        record {
          effects = b.effects ++ next.effects;
          parts = ap (λ l. l ++ next.effects) b.parts ∙ append_assoc (writing text) b.effects next.effects;
          passes = record { kept = p.kept; bodies = p.bodies; core_is = p.core_is; number_is = p.number_is; handed = p.handed; told = p.told; fronts = p.fronts };
        }

    -- a front of all that is done in it, and of the line of the end
    front_goes : (m : Node C) (text line : List ℕ) (o : Out C) (done left : List Effect) → IsGood m → Goes m text o → o.effects ++ writing line ≡ done ++ left → Leaves m.core m.number m.commit done
    front_goes m text line o done left good g e =
        let all : writing text ++ (g.effects ++ writing line) ≡ done ++ left = sym (append_assoc (writing text) g.effects (writing line)) ∙ ap (λ l. l ++ writing line) (sym g.parts) ∙ e in
        elim (front_split (writing text) (g.effects ++ writing line) done left all) [
          | inl old ↦ leaves_quiet m.core m.number m.commit done (quiet_front (writing text) done old.0 old.1 (quiet_writing text))
          | inr new ↦ subst (Leaves m.core m.number m.commit) (sym new.1) (leaves_after m.core m.number m.commit (writing text) new.0 (quiet_writing text) (behind new.0 new.2))
        ]
      where
        behind : (rest : List Effect) → g.effects ++ writing line ≡ rest ++ left → Leaves m.core m.number m.commit rest
        behind rest is = elim (front_split g.effects (writing line) rest left is) [
          | inl run ↦ g.passes.fronts rest run.0 run.1
          | inr end ↦
              (let q = quiet_front (writing line) end.0 left end.2 (quiet_writing line) in
              let whole_run = g.passes.fronts g.effects [] (sym (append-nil g.effects)) in
              let same = quiet_behind g.effects end.0 q in
              subst (Leaves m.core m.number m.commit) (sym end.1) (record {
                kept = whole_run.kept;
                bodies = same.0 ∙ whole_run.bodies;
                handed = subst (λ (x : List Datagram). Among x (datagrams_of m.number m.core whole_run.kept)) (sym same.1) whole_run.handed;
                told = subst (λ (x : List Commit). Among x (option_to_list m.commit ++ commits_in rules m.core whole_run.kept)) (sym same.2) whole_run.told;
              }))
        ]

    -- what one stopped run left, seen from the core where its past leads
    record LeftBy (past : List NodeEvent) (r : StoppedRun) : Type 0 where
      handed : Among (handed_in r.done) (datagrams_of (capped (length (sends_in rules start past))) (core_after rules start past) r.kept)
      told : Among (replies_in r.done) (commits_in rules (core_after rules start past) r.kept)

    left_by : (past : List NodeEvent) (r : StoppedRun) (core : C) (number : ℕ) (commit : Option Commit) → core ≡ core_after rules start past → number ≡ capped (length (sends_in rules start past)) → commit ≡ None
        → bodies_in r.done ≡ map body_of r.kept → Leaves core number commit r.done → LeftBy past r
    left_by past r core number commit c k none kept l =
        let same : l.kept ≡ r.kept = same_bodies l.kept r.kept (sym l.bodies ∙ kept) in
        record {
          handed = subst (λ (es : List NodeEvent). Among (handed_in r.done) (datagrams_of (capped (length (sends_in rules start past))) (core_after rules start past) es)) same
              (subst (λ (x : ℕ). Among (handed_in r.done) (datagrams_of x (core_after rules start past) l.kept)) k
              (subst (λ (x : C). Among (handed_in r.done) (datagrams_of number x l.kept)) c l.handed));
          told = subst (λ (es : List NodeEvent). Among (replies_in r.done) (commits_in rules (core_after rules start past) es)) same
              (subst (λ (x : C). Among (replies_in r.done) (commits_in rules x l.kept)) c
              (subst (λ (o : Option Commit). Among (replies_in r.done) (option_to_list o ++ commits_in rules core l.kept)) none l.told));
        }

    stopped_left : (past : List NodeEvent) (r : StoppedRun) → IsStopped rules s start past r → LeftBy past r
    unfolding first_step
    stopped_left past r st =
        let m = past_node rules s st.reading past (new_node s st.reading start st.commands) in
        let there = begun rules s st.reading start past st.commands in
        let good : IsGood m = record { number = omega (arith, there.1); comes = (past, sym there.0) } in
        let text = past_text rules s start past in
        let from = begin_step rules s st.reading past (new_node s st.reading start st.commands) in
        let o = run_after rules s from st.turns in
        let g = run_goes m text from st.turns good (begin_goes st.reading past (new_node s st.reading start st.commands) good) in
        left_by past r m.core m.number m.commit there.0 there.1 there.2 st.kept_are
        (front_goes m text (end_text o.node.events o.node.sent st.lost o.node.spent) o r.done st.left good g st.parts)

    -- ---- all runs

    number_then : (past kept : List NodeEvent) → capped (length (sends_in rules start (past ++ kept))) ≡ number_after (capped (length (sends_in rules start past))) (core_after rules start past) kept
    number_then past kept =
        let count : length (sends_in rules start (past ++ kept)) ≡ length (sends_in rules start past) + length (sends_in rules (core_after rules start past) kept) =
        ap (λ (ms : List Packet). length ms) (sends_in-append rules start past kept) ∙ length-append (sends_in rules start past) (sends_in rules (core_after rules start past) kept) in
        omega (arith, count)

    life_handed : (runs : List StoppedRun) (past : List NodeEvent) → IsLife rules s start past runs
        → Among (handed_by runs) (datagrams_of (capped (length (sends_in rules start past))) (core_after rules start past) (kept_by runs))
    life_handed [] past l = tt
    life_handed (r ∷ later) past l =
        let first = stopped_left past r l.0 in
        let here = core_after rules start past in
        let number = capped (length (sends_in rules start past)) in
        let rest : Among (handed_by later) (datagrams_of (number_after number here r.kept) (core_after rules here r.kept) (kept_by later)) =
        subst (λ (x : C). Among (handed_by later) (datagrams_of (number_after number here r.kept) x (kept_by later))) (core_after-append rules start past r.kept)
        (subst (λ (k : ℕ). Among (handed_by later) (datagrams_of k (core_after rules start (past ++ r.kept)) (kept_by later))) (number_then past r.kept) (life_handed later (past ++ r.kept) l.1)) in
        handed_then number here r.kept (kept_by later) (handed_in r.done) (handed_by later) (omega arith) first.handed rest

    life_told : (runs : List StoppedRun) (past : List NodeEvent) → IsLife rules s start past runs → Among (replied_by runs) (commits_in rules (core_after rules start past) (kept_by runs))
    life_told [] past l = tt
    life_told (r ∷ later) past l =
        let first = stopped_left past r l.0 in
        let here = core_after rules start past in
        let rest : Among (replied_by later) (commits_in rules (core_after rules here r.kept) (kept_by later)) =
        subst (λ (x : C). Among (replied_by later) (commits_in rules x (kept_by later))) (core_after-append rules start past r.kept) (life_told later (past ++ r.kept) l.1) in
        subst (λ (x : List Commit). Among (replies_in r.done ++ replied_by later) x) (sym (commits_in-append rules here r.kept (kept_by later)))
        (among_both (replies_in r.done) (commits_in rules here r.kept) (replied_by later) (commits_in rules (core_after rules here r.kept) (kept_by later)) first.told rest)

pub restarts_hand : {C : Type 0} (rules : Rules C) (s : NodeSetting) (core : C) (runs : List StoppedRun) → AreIdle rules core → IsLife rules s core [] runs
    → Among (handed_by runs) (datagrams_in (parcels_of s 0 (sends_in rules core (kept_by runs))))
restarts_hand rules s core runs idle l = life_handed rules s core idle runs [] l

pub restarts_tell : {C : Type 0} (rules : Rules C) (s : NodeSetting) (core : C) (runs : List StoppedRun) → AreIdle rules core → IsLife rules s core [] runs
    → Among (replied_by runs) (commits_in rules core (kept_by runs))
restarts_tell rules s core runs idle l = life_told rules s core idle runs [] l
