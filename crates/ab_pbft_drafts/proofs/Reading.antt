-- What a replica is told has bytes where the call is of the grammar, and so has what it puts on its shelf.
use Rattle.std.proofs.Common.{◌≡◌, ℕ, zero, suc, ◌==◌, Some, None, Option, List, [], ◌∷◌, slice_get, refl, sym, subst, inl, inr}
use Rattle.std.specs.Prelude.{Contains}
use Rattle.std.proofs.lemmas.Bool.{cases_Bool}
use Rattle.std.proofs.lemmas.Option.{none-some, same_Some}
use Rattle.std.proofs.lemmas.List.Elements.{All-contains}
use Rattle.ab_num.specs.declared.cluster.Cluster.{Cluster}
use Rattle.ab_num.specs.declared.party.Party.TheVariants.{Replica, Client}
use Rattle.ab_num.proofs.Lists.{Contains-head, Contains-tail, Contains-cons_cases, Contains-none}
use Rattle.ab_hist.specs.declared.request.Request.{Request}
use Rattle.ab_msg.specs.declared.content.Content.{Content}
use Rattle.ab_msg.specs.declared.content.Content.TheVariants.{Req, PrePrepare, Prepare, Commit, ViewChange, NewView}
use Rattle.ab_msg.specs.declared.change.Proof.{Proof}
use Rattle.ab_msg.specs.declared.signed.Signed.{Signed}
use Rattle.ab_msg.specs.declared.value.Value.{Value}
use Rattle.ab_msg.specs.declared.value.Value.TheVariants.{Base, Request as Order}
use Rattle.ab_msg.specs.declared.message.Msg.{Msg}
use Rattle.ab_msg.specs.declared.message.Msg.TheVariants as msg
use Rattle.ab_msg.specs.declared.message.Offer.{Offer}
use Rattle.ab_msg.specs.declared.message.Offer.TheVariants as offer
use Rattle.ab_msg.specs.Fields.{IsView, IsRequest, IsWritten}
use Rattle.ab_msg.specs.Contents.{IsReq, IsNewView, IsChange, IsEntry}
use Rattle.ab_msg.specs.Certs.{AreAborts, AreSlotValues, IsRequestValue, IsProof}
use Rattle.ab_msg.specs.Messages.{IsMessage, IsOffer, slot_in}
use Rattle.ab_abs.specs.Messages.{Call, took, timed, IsFormed}
use Rattle.ab_abs.proofs.Certified.{certificate_written}
use Rattle.ab_lock.specs.Steps.{Cert}
use Rattle.ab_lock.proofs.Lists.{nth_map, Contains-nth}
use Rattle.ab_order.specs.Inputs.{Reading, request, pre_prepare_base, pre_prepare, prepare, commit, view_change, new_view, timeout, other, ProvedSlot, ChangeReading}
use Rattle.ab_order.specs.Readings.{is_own_request, slots_of, with_slots, is_ours, change_by, change_of, with_change, changes_of, read_request, base_offered, read_base, read_offer, read_pre_prepare, read_prepare, read_commit, read_change, read_new_view_of, read_new_view, read_message, read}
use Rattle.ab_order.proofs.ReadingLaws.{slots_are, whole_read}
use Rattle.ab_pbft_rules.specs.Rules.{cert_of}
use Rattle.ab_pbft_rules.specs.Rules as rules
use Rattle.ab_pbft_shelf.specs.Shelves.{maker_in, view_in}
use Rattle.ab_pbft_drafts.specs.Bounds.{IsValueAt, IsCertAt, AreCertsAt}
use Rattle.ab_pbft_drafts.proofs.Lists.{nth_mapped}
use Rattle.ab_pbft_drafts.proofs.Values.{nothing_written}

-- ---- what has bytes

pub record IsChangeWritten (change : ChangeReading) : Type 0 where
  pub view : IsView change.view
  pub slots : (t : ℕ) (s : ProvedSlot) → slice_get change.slots t ≡ Some s → IsCertAt t (cert_of s)

abbrev pub IsInputWritten : Reading → Type 0
IsInputWritten (request m) = IsRequest 0 15 m
IsInputWritten (pre_prepare_base by view x h) = IsWritten h
IsInputWritten (pre_prepare by view slot x m) = IsRequest 0 15 m
IsInputWritten (prepare by view slot x) = Unit {0}
IsInputWritten (commit by view slot x) = Unit {0}
IsInputWritten (view_change change) = IsChangeWritten change
IsInputWritten (new_view by view changes) = IsView view × ((change : ChangeReading) → Contains changes change → IsChangeWritten change)
IsInputWritten timeout = Unit {0}
IsInputWritten other = Unit {0}

-- the certificates of a VIEW-CHANGE that is told
pub certs_told : (change : ChangeReading) → IsChangeWritten change → AreCertsAt (rules.change_of change).certs
certs_told change is t c there = let w = nth_map cert_of change.slots t c there in subst (λ (z : Cert Value). IsCertAt t z) w.2 (is.slots t w.0 w.1)

-- ---- VIEW-CHANGEs

request_value : (t : ℕ) (v : Value) → IsRequestValue v → IsValueAt (suc t) v
request_value t (Base h) is = absurd is
request_value t (Order m) is = is

value_at : (start : ℕ) (digest : List ℕ) (values : List Value) (t : ℕ) (v : Value) → AreSlotValues start digest values → slice_get values t ≡ Some v → IsValueAt t v
value_at start digest [] t v are is = absurd (none-some v is)
value_at start digest (Base h ∷ values) zero v are is = subst (λ (z : Value). IsValueAt 0 z) (same_Some (Base h) v is) are.0.rest
value_at start digest (Base h ∷ values) (suc t) v are is = request_value t v (All-contains IsRequestValue values v are.1 (Contains-nth values t v is))
value_at start digest (Order m ∷ values) t v are is = absurd are

-- whose it is, and for which view
pub record IsTold (content : Content) (change : ChangeReading) : Type 0 where
  pub written : IsChangeWritten change
  pub maker : maker_in content ≡ change.by
  pub view : view_in content ≡ change.view

module _ (c : Cluster) (i : ℕ) where
  change_told : (content : Content) (start : ℕ) (digest : List ℕ) (values : List Value) (signed : List (List (ℕ × List ℕ))) (change : ChangeReading) → IsChange content → AreSlotValues start digest values → change_by c.f i content values signed ≡ Some change → IsTold content change
  change_told (ViewChange (Replica r) j view entries) start digest values signed change formed are is =
      elim (cases_Bool (is_ours c.f i j r)) [
        | inr others ↦ absurd (none-some change (rw others at is))
        | inl ours ↦ of_slots (slots_of c.f 0 entries values signed) refl (rw ours at is)
      ]
    where
      of_slots : (o : Option (List ProvedSlot)) → slots_of c.f 0 entries values signed ≡ o → with_slots r view o ≡ Some change → IsTold (ViewChange (Replica r) j view entries) change
      of_slots None slots is' = absurd (none-some change is')
      of_slots (Some all) slots is' =
          let right = slots_are c i 0 entries values signed all slots in
          let made : ChangeReading = record { by = r; view = view; slots = all } in
          let e : made ≡ change = same_Some made change is' in
          subst (λ (z : ChangeReading). IsTold (ViewChange (Replica r) j view entries) z) e (record {
            written = record {
              view = formed.1.1.0;
              slots = λ t s there.
                  let entry : slice_get entries t ≡ Some (s.at, s.x) = subst (λ (l : List (ℕ × List ℕ)). slice_get l t ≡ Some (s.at, s.x)) right.listed (nth_mapped (λ (z : ProvedSlot). (z.at, z.x)) all t s there) in
                  let value : slice_get values t ≡ Some s.value = subst (λ (l : List Value). slice_get l t ≡ Some s.value) right.valued (nth_mapped (λ (z : ProvedSlot). z.value) all t s there) in
                  ((All-contains IsEntry entries (s.at, s.x) formed.1.1.1.1 (Contains-nth entries t (s.at, s.x) entry)).0, value_at start digest values t s.value are value);
            };
            maker = refl;
            view = refl;
          })
  change_told _ start digest values signed change formed are is = absurd (none-some change is)

  pub told_change : (proof : Proof) (change : ChangeReading) → IsProof proof → change_of c.f i proof ≡ Some change → IsTold proof.change.content change
  told_change proof change formed is = change_told proof.change.content proof.start proof.digest proof.values proof.prepares change formed.0.1.0 formed.1.0.1 (whole_read c i proof change is)

  told_changes : (proofs : List Proof) (changes : List ChangeReading) → ((p : Proof) → Contains proofs p → IsProof p) → changes_of c.f i proofs ≡ Some changes → (change : ChangeReading) → Contains changes change → IsChangeWritten change
  told_changes [] changes each is change has = absurd (Contains-none change (subst (λ (l : List ChangeReading). Contains l change) (sym (same_Some [] changes is)) has))
  told_changes (p ∷ proofs) changes each is change has = of_change (change_of c.f i p) (changes_of c.f i proofs) refl (λ rest e. told_changes proofs rest (λ q in_rest. each q (Contains-tail p q proofs in_rest)) e) is
    where
      of_change : (o : Option ChangeReading) (more : Option (List ChangeReading)) → change_of c.f i p ≡ o → ((rest : List ChangeReading) → more ≡ Some rest → (change : ChangeReading) → Contains rest change → IsChangeWritten change)
          → with_change o more ≡ Some changes → IsChangeWritten change
      of_change None more first later is' = absurd (none-some changes is')
      of_change (Some head) None first later is' = absurd (none-some changes is')
      of_change (Some head) (Some rest) first later is' =
          elim (Contains-cons_cases head rest change (subst (λ (l : List ChangeReading). Contains l change) (sym (same_Some (head ∷ rest) changes is')) has)) [
            | inl e ↦ subst (λ (z : ChangeReading). IsChangeWritten z) e (told_change p head (each p (Contains-head p proofs)) first).written
            | inr in_rest ↦ later rest refl change in_rest
          ]

  -- ---- what is told

  base_written : (j : ℕ) (cert : List Signed) (h : List Request) → AreAborts 0 7 cert → base_offered c j cert ≡ Some h → IsWritten h
  base_written zero cert h are is = absurd (none-some h is)
  base_written (suc zero) [] h are is = subst (λ (l : List Request). IsWritten l) (same_Some [] h is) nothing_written
  base_written (suc zero) (s ∷ cert) h are is = absurd (none-some h is)
  base_written (suc (suc j)) cert h are is = certificate_written c (suc j) 0 7 cert h are is

  told_request : (content : Content) → IsReq content → IsInputWritten (read_request i content)
  told_request (Req (Client q) j m) formed = elim (cases_Bool (is_own_request i j q m)) [ inl own ↦ rw own formed.1.1 | inr another ↦ rw another tt ]
  told_request _ formed = tt

  told_base : (by view : ℕ) (x : List ℕ) (cert : List Signed) (o : Option (List Request)) → AreAborts 0 7 cert → base_offered c i cert ≡ o → IsInputWritten (read_base by view x o)
  told_base by view x cert None are is = tt
  told_base by view x cert (Some h) are is = base_written i cert h are is

  told_offer : (by view slot : ℕ) (x : List ℕ) (o : Offer) → IsOffer slot o → IsInputWritten (read_offer c i by view slot x o)
  told_offer by view slot x (offer.Base cert) formed =
      elim (cases_Bool (slot == 0)) [ inl first ↦ rw first (told_base by view x cert (base_offered c i cert) formed.1 refl) | inr later ↦ rw later tt ]
  told_offer by view slot x (offer.Request m tag) formed = elim (cases_Bool (slot == 0)) [ inl first ↦ rw first tt | inr later ↦ rw later formed.1.0 ]

  told_pre_prepare : (content : Content) (o : Offer) → IsOffer (slot_in content) o → IsInputWritten (read_pre_prepare c i content o)
  told_pre_prepare (PrePrepare (Replica by) j view slot x) o formed =
      elim (cases_Bool (is_ours c.f i j by)) [ inl ours ↦ rw ours (told_offer by view slot x o formed) | inr others ↦ rw others tt ]
  told_pre_prepare _ o formed = tt

  told_prepare : (content : Content) → IsInputWritten (read_prepare c.f i content)
  told_prepare (Prepare (Replica by) j view slot x) = elim (cases_Bool (is_ours c.f i j by)) [ inl ours ↦ rw ours tt | inr others ↦ rw others tt ]
  told_prepare _ = tt

  told_commit : (content : Content) → IsInputWritten (read_commit c.f i content)
  told_commit (Commit (Replica by) j view slot x) = elim (cases_Bool (is_ours c.f i j by)) [ inl ours ↦ rw ours tt | inr others ↦ rw others tt ]
  told_commit _ = tt

  told_view_change : (proof : Proof) (o : Option ChangeReading) → IsProof proof → change_of c.f i proof ≡ o → IsInputWritten (read_change o)
  told_view_change proof None formed is = tt
  told_view_change proof (Some change) formed is = (told_change proof change formed is).written

  told_new_view_of : (by view : ℕ) (proofs : List Proof) (o : Option (List ChangeReading)) → IsView view → ((p : Proof) → Contains proofs p → IsProof p) → changes_of c.f i proofs ≡ o → IsInputWritten (read_new_view_of by view o)
  told_new_view_of by view proofs None seen each is = tt
  told_new_view_of by view proofs (Some changes) seen each is = (seen, told_changes proofs changes each is)

  told_new_view : (content : Content) (proofs : List Proof) → IsNewView content → ((p : Proof) → Contains proofs p → IsProof p) → IsInputWritten (read_new_view c.f i content proofs)
  told_new_view (NewView (Replica by) j view) proofs formed each =
      elim (cases_Bool (is_ours c.f i j by)) [ inl ours ↦ rw ours (told_new_view_of by view proofs (changes_of c.f i proofs) formed.1.1 each refl) | inr others ↦ rw others tt ]
  told_new_view _ proofs formed each = tt

  told_message : (m : Msg) → IsMessage m → IsInputWritten (read_message c i m)
  told_message (msg.Req content tags) formed = told_request content formed.0
  told_message (msg.PrePrepare content tag o) formed = told_pre_prepare content o formed.1
  told_message (msg.Prepare signed) formed = told_prepare signed.content
  told_message (msg.Commit content tag) formed = told_commit content
  told_message (msg.ViewChange proof) formed = told_view_change proof (change_of c.f i proof) formed refl
  told_message (msg.NewView content tag proofs) formed = told_new_view content proofs formed.0 (λ p has. All-contains IsProof proofs p formed.1.1.1 has)
  told_message _ formed = tt

  pub told_written : (call : Call) → IsFormed call → IsInputWritten (read c i call)
  told_written (took m) formed = told_message m formed
  told_written timed formed = tt
