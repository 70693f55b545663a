-- Each event keeps a replica within the bounds of the grammar, and what it sends is of the grammar.
use Rattle.std.proofs.Common.{◌≡◌, ℕ, zero, suc, ◌+◌, ◌*◌, ◌<◌, ◌≤◌, ◌==◌, Bool, true, false, Some, List, [], ◌∷◌, length, map, refl, sym, ap, ◌∙◌, subst, inl, inr, arith, length-append}
use Rattle.std.specs.Prelude.{Contains, nat_lt, unwrap_or, if◌then◌else◌}
use Rattle.std.specs.List.{filter}
use Rattle.std.specs.Str.{bytes_eq}
use Rattle.std.proofs.lemmas.List.{length-replicate, length-take-le}
use Rattle.ab_num.specs.declared.cluster.Cluster.{Cluster}
use Rattle.ab_num.specs.declared.party.Party.TheVariants.{Replica}
use Rattle.ab_num.specs.Places.{limit_of}
use Rattle.ab_num.proofs.Lists.{Contains-filter_cases, Contains-head, Contains-tail, Contains-none, Contains-map_cases}
use Rattle.ab_hist.specs.declared.request.Request.{Request}
use Rattle.ab_msg.specs.declared.content.Content.{Content}
use Rattle.ab_msg.specs.declared.content.Content.TheVariants.{ViewChange}
use Rattle.ab_msg.specs.declared.change.Proof.{Proof}
use Rattle.ab_msg.specs.declared.message.Msg.TheVariants as msg
use Rattle.ab_msg.specs.declared.value.Value.{Value}
use Rattle.ab_msg.specs.declared.value.Value.TheVariants.{Base, Request as Order}
use Rattle.ab_msg.specs.Fields.{IsInstance, IsView, IsRequest, IsWritten}
use Rattle.ab_msg.specs.Certs.{AreAborts, IsProof}
use Rattle.ab_msg.specs.Messages.{IsOffer}
use Rattle.ab_msg.specs.Slots.{slot_digest}
use Rattle.ab_wire.specs.Inside.{tag_in}
use Rattle.ab_abs.specs.Values.{goes}
use Rattle.ab_abs.proofs.Certified.{all_of}
use Rattle.ab_abs.proofs.Drafts.{few_replicas}
use Rattle.ab_lock.specs.Quorums.{quorum}
use Rattle.ab_lock.specs.Steps.{Change, cert_at, entry_of}
use Rattle.ab_lock.specs.Votes.{SlotVote, keep}
use Rattle.ab_lock.specs.ViewChanges.{Kept, put, of_view, enter, leave, certs_from, own_change}
use Rattle.ab_lock.specs.Events.{Peer, peer_by, settles_by, entered_peer, left_peer, accept, accepted_peer}
use Rattle.ab_lock.proofs.ChoosingLemmas.{chosen_of-IsChosen}
use Rattle.ab_lock.proofs.Lists.{first_in, Contains-take}
use Rattle.ab_lock.proofs.ViewChangeLemmas.{of_view_in}
use Rattle.ab_order.specs.Inputs.{Reading, request}
use Rattle.ab_order.proofs.BackupLaws.{keep_cases}
use Rattle.ab_pbft_rules.specs.Traces.{OrderStep, pair_of}
use Rattle.ab_pbft_rules.specs.Rules.{Placement, Doing, takes_step, Work, core_of, with_peer, does, oldest_first, take_value, change_of, settle, keep_request, leave_to, without}
use Rattle.ab_pbft_rules.proofs.RuleInduction.{WhyTaken, own_base, waiting, base_brought, request_brought, WhyEntered, from_kept, from_new_view, WhySaid, offered, led, WhyLeft, followed, timed_out, IsKept}
use Rattle.ab_slots.specs.Deeds.{told_in}
use Rattle.ab_pbft_shelf.specs.declared.author.Author.{Author}
use Rattle.ab_pbft_shelf.specs.declared.kept.Tagged.{Tagged}
use Rattle.ab_pbft_shelf.specs.Shelves.{Shelf, view_of, proofs_for, certified_front, own_proof, entered, tags_of, without_maker}
use Rattle.ab_pbft_shelf.specs.Posts.{Post, no_tag, offer_to, offer_message, lead_message, posts_all, sig_of}
use Rattle.ab_pbft_drafts.specs.Bounds.{IsValueAt, AreCertsAt, AreBallots, HasTags, seat_of}
use Rattle.ab_pbft_drafts.proofs.Ballots.{no_ballots}
use Rattle.ab_pbft_drafts.proofs.Proofs.{proofs_put, proofs_left, as_many}
use Rattle.ab_pbft_drafts.proofs.Certificates.{own_certs, own_formed}
use Rattle.ab_pbft_drafts.proofs.Values.{order_at, values_grown, no_values}
use Rattle.ab_pbft_drafts.proofs.Reading.{IsInputWritten, certs_told}
use Rattle.ab_pbft_drafts.proofs.Putting.{IsPlain}
use Rattle.ab_pbft_drafts.proofs.Sending.{told-append, sent_more, limit_small, own_author, IsPosted, told_by, of_slot, settled_on}

-- ---- tags

tag_long : (r : ℕ) (all : List (ℕ × List ℕ)) → ((tag : ℕ × List ℕ) → Contains all tag → length tag.1 ≡ 32) → length (unwrap_or (tag_in r all) no_tag) ≡ 32
tag_long r [] each = length-replicate {A = ℕ} 32 0
tag_long r (t ∷ all) each = at (t.0 == r) (tag_long r all (λ tag has. each tag (Contains-tail t tag all has)))
  where
    at : (here : Bool) → length (unwrap_or (tag_in r all) no_tag) ≡ 32 → length (unwrap_or (if here then Some t.1 else tag_in r all) no_tag) ≡ 32
    at true rest = each t (Contains-head t all)
    at false rest = rest

client_tags : (client : ℕ) (tagged : List Tagged) → ((t : Tagged) → Contains tagged t → HasTags t) → (tag : ℕ × List ℕ) → Contains (tags_of client tagged) tag → length tag.1 ≡ 32
client_tags client [] each tag has = absurd (Contains-none tag has)
client_tags client (t ∷ tagged) each tag has = at (t.client == client) (λ more. client_tags client tagged (λ o in_rest. each o (Contains-tail t o tagged in_rest)) tag more) has
  where
    at : (here : Bool) → (Contains (tags_of client tagged) tag → length tag.1 ≡ 32) → Contains (if here then t.tags.items else tags_of client tagged) tag → length tag.1 ≡ 32
    at true rest is = each t (Contains-head t tagged) tag is
    at false rest is = rest is

-- what a PRE-PREPARE offers is of its slot
offer_formed : (s : Shelf) (slot : ℕ) (value : Value) (r : ℕ) → AreAborts 0 7 s.entry → ((t : Tagged) → Contains s.tagged t → HasTags t) → IsValueAt slot value → IsOffer slot (offer_to s value r)
offer_formed s zero (Base h) r entry tagged at_slot = (refl, entry)
offer_formed s zero (Order m) r entry tagged at_slot = absurd at_slot
offer_formed s (suc slot) (Base h) r entry tagged at_slot = absurd at_slot
offer_formed s (suc slot) (Order m) r entry tagged at_slot = (λ e. omega (arith, e), (at_slot, tag_long r (tags_of m.client s.tagged) (client_tags m.client s.tagged tagged)))

-- ---- what an event does

module _ (c : Cluster) (i me : ℕ) (placed : IsInstance i) (owned : me < 3 * c.f + 1) (base : List Request) (written : length base ≤ 1024 → IsWritten base) where
  abbrev pub by : Author
  by = own_author c i me

  abbrev pub seat : Placement
  seat = seat_of c i me base

  module _ (first : Post) where
    abbrev pub post_of : Work → Post
    post_of w = posts_all by (told_in w.doings) first

    -- what it keeps and has sent so far is right
    abbrev pub Stands : Work → Type 0
    Stands w = IsPosted c i (core_of w) w.at.peer.votes w.at.changes w.at.requests (post_of w)

    by_steps : (w : Work) (q : Peer Value (List ℕ)) (more : List OrderStep) → IsPosted c i q.core q.votes w.at.changes w.at.requests (told_by by more (post_of w)) → Stands (with_peer w q more)
    by_steps w q more is =
        subst (λ (p : Post). IsPosted c i q.core q.votes w.at.changes w.at.requests p) (sym (told-append by w.doings (map takes_step (oldest_first more)) first)) is

    pub settles_on : (w : Work) → Stands w → Stands (settle seat w)
    settles_on w was =
        let more = settles_by slot_digest bytes_eq goes c.f me (suc (3 * suc (limit_of c.plan i))) w.at.peer in
        by_steps w (peer_by slot_digest me more w.at.peer) more
        (settled_on c i me placed owned w.at.changes w.at.requests (suc (3 * suc (limit_of c.plan i))) (core_of w) w.at.peer.votes w.at.peer.commits (post_of w) was)

    module _ (e : Reading) (start : Work) (told : IsInputWritten e) where
      -- a value that it takes is of its slot
      taken_at : (w : Work) (value : Value) → Stands w → goes (core_of w).accepted value ≡ true → WhyTaken seat e start w value → IsValueAt (length (core_of w).accepted) value
      taken_at w value was on (own_base none few is) =
          subst (λ (z : Value). IsValueAt (length (core_of w).accepted) z) (sym is) (subst (λ (l : List Value). IsValueAt (length l) (Base base)) (sym none) (written few))
      taken_at w value was on (waiting m has is) =
          subst (λ (z : Value). IsValueAt (length (core_of w).accepted) z) (sym is) (order_at (core_of w).accepted m (ap (λ z. goes (core_of w).accepted z) (sym is) ∙ on) (was.held.asked m has))
      taken_at w value was on (base_brought by_whom view x h is before none value_is then_is) =
          subst (λ (z : Value). IsValueAt (length (core_of w).accepted) z) (sym value_is) (subst (λ (l : List Value). IsValueAt (length l) (Base h)) (sym none) (subst (λ (z : Reading). IsInputWritten z) is told))
      taken_at w value was on (request_brought by_whom view slot x m is value_is) =
          subst (λ (z : Value). IsValueAt (length (core_of w).accepted) z) (sym value_is)
          (order_at (core_of w).accepted m (ap (λ z. goes (core_of w).accepted z) (sym value_is) ∙ on) (subst (λ (z : Reading). IsInputWritten z) is told))

      takes_on : (w : Work) (value : Value) → Stands w → length (core_of w).accepted ≤ limit_of c.plan i → goes (core_of w).accepted value ≡ true → WhyTaken seat e start w value → Stands (take_value value w)
      takes_on w value was room on why =
          let h = was.held in
          let core = h.core in
          by_steps w (accepted_peer value w.at.peer) (accept (core_of w) value ∷ []) (record {
            held = record {
              core = record {
                view = core.view;
                few = omega (arith, room, length-append (core_of w).accepted (value ∷ []));
                accepted = values_grown (core_of w).accepted value core.accepted (taken_at w value was on why);
                certs = core.certs;
                executed = core.executed;
              };
              asked = h.asked;
              view = h.view;
              ballots = h.ballots;
              certified = h.certified;
              proofs = h.proofs;
              entry = h.entry;
              tags = h.tags;
            };
            pen = was.pen;
            sent = was.sent;
          })

      -- a quorum of VIEW-CHANGEs for a view is kept as messages
      length-proofs : (w : Work) (v : ℕ) → Stands w → quorum c.f ≤ length (of_view w.at.changes v) → length (proofs_for c.f v (post_of w).shelf.proofs) ≡ quorum c.f
      length-proofs w v was many =
          let kept = (post_of w).shelf.proofs in
          length-take-le (quorum c.f) (filter (λ p. view_of p == v) kept) (omega (arith, many, as_many v w.at.changes kept was.held.proofs))

      said_on : (w : Work) (d : Doing) → Stands w → WhySaid seat e start w d → IsPosted c i (core_of w) w.at.peer.votes w.at.changes w.at.requests (posts_all by (told_in (d ∷ [])) (post_of w))
      said_on w d was (offered value room on why) =
          let h = was.held in
          let slot = length (core_of w).accepted in
          record {
            held = h;
            pen = was.pen;
            sent = sent_more c.f (3 * c.f + 1) me (offer_message by (post_of w).shelf (core_of w).view slot value) (post_of w).sent was.sent (λ r. record {
              draft = (of_slot c i me placed owned (core_of w).view slot value h.core.view room, offer_formed (post_of w).shelf slot value r h.entry h.tags (taken_at w value was on why));
              enough = tt;
            });
          }
      said_on w d was (led many) =
          let h = was.held in
          let v = (core_of w).view in
          let kept = (post_of w).shelf.proofs in
          let all = filter (λ (p : Proof). view_of p == v) kept in
          let many_proofs = length-proofs w v was many in
          let each = λ (p : Proof) (has : Contains (proofs_for c.f v kept) p). h.proofs.formed p (Contains-filter_cases (λ (q : Proof). view_of q == v) kept p (Contains-take (quorum c.f) all p has)).0 in
          record {
            held = h;
            pen = was.pen;
            sent = sent_more c.f (3 * c.f + 1) me (λ r. lead_message by (post_of w).shelf v) (post_of w).sent was.sent (λ r. record {
              draft = (
                ((omega arith, few_replicas c me owned), (placed, h.core.view)),
                ((omega (arith, many_proofs), omega (arith, many_proofs, c.in_bounds.few_faulty)), all_of IsProof (proofs_for c.f v kept) each),
              );
              enough = many_proofs;
            });
          }

      speaks_on : (w : Work) (d : Doing) → Stands w → WhySaid seat e start w d → Stands (does d w)
      speaks_on w d was why =
          subst (λ (p : Post). IsPosted c i (core_of w) w.at.peer.votes w.at.changes w.at.requests p) (sym (told-append by w.doings (d ∷ []) first)) (said_on w d was why)

      -- the view that it enters, and the certificates of the VIEW-CHANGEs by which it does
      record MayUse (v : ℕ) (vcs : List (Change Value)) : Type 0 where
        view : IsView v
        certs : (change : Change Value) → Contains vcs change → AreCertsAt change.certs

      entered_from : (w : Work) (v : ℕ) (vcs : List (Change Value)) → Stands w → WhyEntered seat e start w v vcs → MayUse v vcs
      entered_from w v vcs was (from_kept is many) =
          let p = was.held.proofs in
          let one = first_in (of_view w.at.changes v) (omega (arith, many)) in
          let kept = of_view_in w.at.changes v one.0 one.1 in
          record {
            view = subst (λ (n : ℕ). IsView n) kept.2 (p.views kept.0 kept.1);
            certs = λ change has.
                let in_view = Contains-take (quorum c.f) (of_view w.at.changes v) change (subst (λ (l : List (Change Value)). Contains l change) is has) in
                let u = of_view_in w.at.changes v change in_view in
                subst (λ (z : Change Value). AreCertsAt z.certs) u.3 (p.certs u.0 u.1);
          }
      entered_from w v vcs was (from_new_view by_whom inputs is may vcs_are) =
          let all = subst (λ (z : Reading). IsInputWritten z) is told in
          record {
            view = all.0;
            certs = λ change has.
                let w = Contains-map_cases change_of inputs change (subst (λ (l : List (Change Value)). Contains l change) vcs_are has) in
                subst (λ (z : Change Value). AreCertsAt z.certs) w.2 (certs_told w.0 (all.1 w.0 w.1));
          }

      entered_ballots : (v at : ℕ) (votes : List (SlotVote (List ℕ))) (s : Shelf) → s.view ≡ at → AreBallots c.f votes s.ballots → AreBallots c.f (if nat_lt at v then [] else votes) (entered v s).ballots
      entered_ballots v at votes s same are =
          subst (λ (n : ℕ). AreBallots c.f (if nat_lt n v then [] else votes) (entered v s).ballots) same (of_test (nat_lt s.view v))
        where
          of_test : (later : Bool) → AreBallots c.f (if later then [] else votes) (if later then [] else s.ballots)
          of_test true = no_ballots c.f
          of_test false = are

      enters_on : (w : Work) (v : ℕ) (vcs : List (Change Value)) → Stands w → WhyEntered seat e start w v vcs → Stands (with_peer w (entered_peer goes seat.k v vcs w.at.peer) (enter goes seat.k v vcs ∷ []))
      enters_on w v vcs was why =
          let h = was.held in
          let core = h.core in
          let may = entered_from w v vcs was why in
          let chosen = chosen_of-IsChosen goes seat.k vcs in
          by_steps w (entered_peer goes seat.k v vcs w.at.peer) (enter goes seat.k v vcs ∷ []) (record {
            held = record {
              core = record {
                view = may.view;
                few = chosen.within;
                accepted = λ t value there.
                    let b = chosen.best t value there in
                    subst (λ (z : Value). IsValueAt t z) b.value_is (may.certs b.change b.is_in t b.cert b.stands).1;
                certs = core.certs;
                executed = core.executed;
              };
              asked = h.asked;
              view = refl;
              ballots = entered_ballots v (core_of w).view w.at.peer.votes (post_of w).shelf h.view h.ballots;
              certified = h.certified;
              proofs = h.proofs;
              entry = h.entry;
              tags = h.tags;
            };
            pen = was.pen;
            sent = was.sent;
          })

      -- it leaves for a view whose number fits
      left_to : (w : Work) (v : ℕ) → Stands w → WhyLeft seat e start w v → IsView v
      left_to w v was (followed u has is) = subst (λ (n : ℕ). IsView n) is (was.held.proofs.views u has)
      left_to w v was (timed_out is below) = omega (arith, is, below)

      leaves_on : (w : Work) (v : ℕ) → Stands w → WhyLeft seat e start w v → Stands (leave_to seat v w)
      leaves_on w v was why =
          let h = was.held in
          let core = h.core in
          let p = post_of w in
          let seen = left_to w v was why in
          let certs = (core_of w).certs in
          let stated = certs_from (cert_at certs) (suc seat.k) 0 in
          let content : Content = ViewChange (Replica me) i v (map pair_of (map (entry_of slot_digest) stated)) in
          let signs = was.pen content p.pen.used in
          let own = own_proof me content (certified_front p.shelf.certified) (sig_of by p content) in
          let formed = own_formed seat.k me i v certs p.shelf.certified (sig_of by p content) (limit_small c i) (few_replicas c me owned) placed seen signs core.certs h.certified in
          let kept : Kept Value = record { view = v; change = own_change seat.k me (core_of w) } in
          subst (λ (q : Post). IsPosted c i (left_peer slot_digest seat.k v w.at.peer).core [] (put kept (without me w.at.changes)) w.at.requests q) (sym (told-append by w.doings (takes_step (leave slot_digest seat.k (core_of w) v) ∷ []) first)) (record {
            held = record {
              core = record { view = seen; few = omega arith; accepted = no_values; certs = core.certs; executed = core.executed };
              asked = h.asked;
              view = refl;
              ballots = no_ballots c.f;
              certified = h.certified;
              proofs = proofs_put (without me w.at.changes) (without_maker me p.shelf.proofs) kept own (proofs_left me w.at.changes p.shelf.proofs h.proofs) refl seen (own_certs seat.k certs core.certs) formed;
              entry = h.entry;
              tags = h.tags;
            };
            pen = was.pen;
            sent = sent_more c.f (3 * c.f + 1) me (λ r. msg.ViewChange own) p.sent was.sent (λ r. record { draft = formed; enough = tt });
          })

      asks_on : (m : Request) → e ≡ request m → Stands start → Stands (keep_request m start)
      asks_on m is was =
          let h = was.held in
          record {
            held = record {
              core = h.core;
              asked = λ q has. elim (keep_cases m start.at.requests q has) [
                | inl same ↦ subst (λ (z : Request). IsRequest 0 15 z) same (subst (λ (z : Reading). IsInputWritten z) is told)
                | inr old ↦ h.asked q old
              ];
              view = h.view;
              ballots = h.ballots;
              certified = h.certified;
              proofs = h.proofs;
              entry = h.entry;
              tags = h.tags;
            };
            pen = was.pen;
            sent = was.sent;
          }

      -- each rule, but for those by which something signed is kept
      pub kept_by : IsPlain e → IsKept seat e start Stands
      kept_by plain = record {
        settles = settles_on;
        takes = λ w value was still room on why. takes_on w value was room on why;
        speaks = speaks_on;
        enters = λ w v vcs was may why. enters_on w v vcs was why;
        leaves = λ w v was above why. leaves_on w v was why;
        keeps_request = asks_on;
        keeps_change = λ change is fit was. absurd (subst (λ (z : Reading). IsPlain z) is plain);
        keeps_vote = λ by_whom slot x is was. absurd (subst (λ (z : Reading). IsPlain z) is plain);
        keeps_commit = λ by_whom slot x is was. by_steps start (record { core = core_of start; votes = start.at.peer.votes; commits = keep (record { by = by_whom; slot = slot; x = x }) start.at.peer.commits }) [] was;
      }
