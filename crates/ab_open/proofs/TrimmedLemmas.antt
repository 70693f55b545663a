-- Messages with trimmed lists, and the clusters in which they open.
use Rattle.std.proofs.Common.{◌≡◌, ◌<◌, ◌+◌, ◌-◌, ◌*◌, ℕ, zero, suc, ◌==◌, ◌&&◌, ◌||◌, Bool, true, false, cond, leb, List, [], ◌∷◌, ◌++◌, map, Option, Some, None, Result, Ok, Err, All, refl, sym, ap, ◌∙◌, arith}
use Rattle.std.specs.List.{flat_map, list_any}
use Rattle.std.proofs.lemmas.List.{append-nil}
use Rattle.std.proofs.lemmas.List.Elements.{All-nil, All-cons, All-head, All-tail, All-append, All-map}
use Rattle.std.proofs.lemmas.List.Folds.{list_any-append, list_any_none}
use Rattle.std.proofs.Math.Bool.{and-false, or-false}
use Rattle.arrayvec.specs.ArrayVec.{ArrayVec}
use Rattle.ab_num.specs.declared.party.Party.{Party}
use Rattle.ab_num.specs.declared.party.Party.TheVariants.{Replica, Client}
use Rattle.ab_num.specs.Places.{at_position_of, position_in}
use Rattle.ab_hist.specs.declared.request.Request.{Request}
use Rattle.ab_form.specs.declared.bad.Bad.{Bad}
use Rattle.ab_form.specs.declared.bad.Bad.TheVariants.{BadLength}
use Rattle.ab_msg.specs.declared.content.Content.{Content}
use Rattle.ab_msg.specs.declared.content.Content.TheVariants.{Order, Resp, ChainTag, Prepare, ViewChange, AbortZ, TrimmedAbort}
use Rattle.ab_msg.specs.declared.signed.Signed.{Signed}
use Rattle.ab_msg.specs.declared.change.Proof.{Proof}
use Rattle.ab_msg.specs.declared.zcert.Zcert.{Zcert}
use Rattle.ab_msg.specs.declared.message.Msg.{Msg}
use Rattle.ab_msg.specs.declared.message.Msg.TheVariants as msg
use Rattle.ab_msg.specs.declared.message.Offer.{Offer}
use Rattle.ab_msg.specs.declared.message.Offer.TheVariants as offer
use Rattle.ab_msg.specs.Claims.{instance_of, asked, ordered, each_before, tag_of_position, chain_claims, spec_of, specs_of, kept_claims, signed_contents, offer_claims, slot_claims, prepared_claims, change_claims, claims}
use Rattle.ab_msg.specs.Contents.{IsReq, IsOrder, IsResp, IsPanic, IsPrePrepare, IsPrepare, IsCommit, IsChange, IsNewView, IsCheckpoint, IsSpec, IsLocalCommit}
use Rattle.ab_msg.specs.Certs.{IsProof}
use Rattle.ab_msg.specs.Messages.{IsMessage}
use Rattle.ab_check.specs.Checks.{Judge}
use Rattle.ab_open.specs.Messages.{message_of}
use Rattle.ab_open.specs.Opening.{judged, opening}
use Rattle.ab_open.specs.Trimmed.{allowed, any_trimmed, holds_trimmed, is_trimmed, offers_trimmed, shows_trimmed, states_trimmed}
use Rattle.ab_open.specs.declared.fault.OpenFault.TheVariants as fault
use Rattle.ab_open.proofs.ContentLemmas.{each, front}

-- ---- what a message holds, by its claims

-- what is stated is no trimmed list
abbrev IsOther : Content → Type 0
IsOther c = is_trimmed c ≡ false

-- as of a kind that has none
of-kind : (P : Content → Type 0) → ((maker : Party) (i start : ℕ) (digest : List ℕ) (rest : List Request) → P (TrimmedAbort maker i start digest rest) → ⊥) → (c : Content) → P c → IsOther c
of-kind P none (TrimmedAbort maker i start digest rest) h = absurd (none maker i start digest rest h)
of-kind P none c h = refl

-- a message with one content
alone : (c : Content) → IsOther c → false ≡ list_any is_trimmed (c ∷ [])
alone c h = sym (ap (λ (b : Bool). b || false) h)

none : (cs : List Content) → All IsOther cs → false ≡ list_any is_trimmed cs
none cs h = sym (list_any_none is_trimmed cs h)

-- what stands behind a content that states none
behind : (c : Content) (cs : List Content) → IsOther c → list_any is_trimmed cs ≡ list_any is_trimmed (c ∷ cs)
behind c cs h = sym (ap (λ (b : Bool). b || list_any is_trimmed cs) h)

specs-other : (i : ℕ) (z : Zcert) → All IsOther (specs_of i z)
specs-other i z = All-map IsOther (λ (s : ℕ × List ℕ). spec_of i z s.0) z.sigs (λ k s lt. refl)

kept-other : (c : Content) → All IsOther (kept_claims c)
kept-other (AbortZ maker i h None) = All-nil IsOther
kept-other (AbortZ maker i h (Some z)) = specs-other i z
kept-other c = All-nil IsOther

-- beside a content the answers that it keeps add none
beside : (c : Content) (cs : List Content) → list_any is_trimmed (c ∷ cs) ≡ list_any is_trimmed (c ∷ (kept_claims c ++ cs))
beside c cs =
    ap (λ (b : Bool). is_trimmed c || b)
    (sym (list_any-append is_trimmed (kept_claims c) cs ∙ ap (λ (b : Bool). b || list_any is_trimmed cs) (list_any_none is_trimmed (kept_claims c) (kept-other c))))

abort-held : (c : Content) → is_trimmed c ≡ list_any is_trimmed (c ∷ kept_claims c)
abort-held c = sym (or-false (is_trimmed c)) ∙ beside c [] ∙ ap (λ (cs : List Content). list_any is_trimmed (c ∷ cs)) (append-nil (kept_claims c))

aborts-held : (ss : List Signed) → any_trimmed ss ≡ list_any is_trimmed (signed_contents ss)
aborts-held [] = refl
aborts-held (s ∷ ss) = ap (λ (b : Bool). is_trimmed s.content || b) (aborts-held ss) ∙ beside s.content (signed_contents ss)

offer-held : (i : ℕ) (o : Offer) → offers_trimmed o ≡ list_any is_trimmed (offer_claims i o)
offer-held i (offer.Base ss) = aborts-held ss
offer-held i (offer.Request m tag) = refl

order-other : (c : Content) → IsOrder c → All IsOther (ordered c ++ c ∷ [])
order-other (Order maker i n m) h =
    All-cons IsOther (asked i m) (Order maker i n m ∷ []) refl (All-cons IsOther (Order maker i n m) [] refl (All-nil IsOther))
order-other c h = absurd h

chain-other : (f : ℕ) (me : Party) (i : ℕ) (m : Request) (n : ℕ) (d : List ℕ) (reply : Option (ArrayVec ℕ)) → All IsOther (chain_claims f me i m n d reply)
chain-other f (Replica r) i m n d reply =
    front IsOther i m (leb (position_in f i r) (f + 1)) (each_before (f + 1) (tag_of_position f i m n d) (position_in f i r)) refl
    (each IsOther (tag_of_position f i m n d) (f + 1) (position_in f i r) (λ q. refl))
chain-other f (Client c) i m n d None = All-nil IsOther
chain-other f (Client c) i m n d (Some reply) = each IsOther _ (f + 1) (3 * f + 2) (λ q. refl)

slots-other : (i slot : ℕ) (es : List (ℕ × List ℕ)) (ps : List (List (ℕ × List ℕ))) → All IsOther (slot_claims i slot es ps)
slots-other i slot [] ps = All-nil IsOther
slots-other i slot (e ∷ es) [] = All-nil IsOther
slots-other i slot (e ∷ es) (by ∷ ps) =
    All-append IsOther (map (λ (s : ℕ × List ℕ). Prepare (Replica s.0) i e.0 slot e.1) by) (slot_claims i (suc slot) es ps)
    (All-map IsOther (λ (s : ℕ × List ℕ). Prepare (Replica s.0) i e.0 slot e.1) by (λ k s lt. refl)) (slots-other i (suc slot) es ps)

prepared-other : (c : Content) (ps : List (List (ℕ × List ℕ))) → All IsOther (prepared_claims c ps)
prepared-other (ViewChange maker i view entries) ps = slots-other i 0 entries ps
prepared-other c ps = All-nil IsOther

change-other : (v : Proof) → IsProof v → All IsOther (change_claims v)
change-other v h =
    All-cons IsOther v.change.content (prepared_claims v.change.content v.prepares) (of-kind IsChange (λ maker i start digest rest g. g) v.change.content h.0.1.0)
    (prepared-other v.change.content v.prepares)

changes-other : (vs : List Proof) → All IsProof vs → All IsOther (flat_map change_claims vs)
changes-other [] h = All-nil IsOther
changes-other (v ∷ vs) h =
    All-append IsOther (change_claims v) (flat_map change_claims vs) (change-other v (All-head IsProof v vs h)) (changes-other vs (All-tail IsProof v vs h))

stated : (f : ℕ) (me : Party) (m : Msg) → IsMessage m → states_trimmed m ≡ list_any is_trimmed (claims f me m)
stated f me (msg.Req content tags) h = alone content (of-kind IsReq (λ maker i start digest rest g. g) content h.0)
stated f me (msg.Order content client_tag tag) h = none (ordered content ++ content ∷ []) (order-other content h.0)
stated f me (msg.Resp content tag) h = alone content (of-kind IsResp (λ maker i start digest rest g. g) content h.0)
stated f me (msg.Chain i m n d reply tags) h = none (chain_claims f me i m n d reply) (chain-other f me i m n d reply)
stated f me (msg.Panic content tag) h = alone content (of-kind IsPanic (λ maker i start digest rest g. g) content h.0)
stated f me (msg.Abort abort) h = abort-held abort.content
stated f me (msg.Init cert) h = aborts-held cert
stated f me (msg.PrePrepare content tag offer) h =
    offer-held (instance_of content) offer ∙ behind content (offer_claims (instance_of content) offer) (of-kind IsPrePrepare (λ maker i start digest rest g. g) content h.0.0)
stated f me (msg.Prepare prepare) h = alone prepare.content (of-kind IsPrepare (λ maker i start digest rest g. g) prepare.content h.1.0)
stated f me (msg.Commit content tag) h = alone content (of-kind IsCommit (λ maker i start digest rest g. g) content h.0)
stated f me (msg.ViewChange change) h = none (change_claims change) (change-other change h)
stated f me (msg.NewView content tag changes) h =
    none (flat_map change_claims changes) (changes-other changes h.1.1.1)
    ∙ behind content (flat_map change_claims changes) (of-kind IsNewView (λ maker i start digest rest g. g) content h.0)
stated f me (msg.Checkpoint content tag) h = alone content (of-kind IsCheckpoint (λ maker i start digest rest g. g) content h.0)
stated f me (msg.LocalCommit content tag) h = alone content (of-kind IsLocalCommit (λ maker i start digest rest g. g) content h.0)
stated f me (msg.Spec spec) h = alone spec.content (of-kind IsSpec (λ maker i start digest rest g. g) spec.content h.1.0)
stated f me (msg.Cert i z) h = none (specs_of i z) (specs-other i z)

pub held : (f : ℕ) (me : Party) (m : Msg) → IsMessage m → holds_trimmed m ≡ (list_any is_trimmed (claims f me m) || shows_trimmed m)
held f me m h = ap (λ (b : Bool). b || shows_trimmed m) (stated f me m h)

-- ---- who reads it

pub refused : (judge : Judge) (f clients : ℕ) (me : Party) (bytes : List ℕ) (m : Msg) → message_of bytes ≡ Ok m → holds_trimmed m ≡ true
    → opening judge f clients 0 me bytes ≡ Err (fault.Bad BadLength)
refused judge f clients me bytes m read holds =
    ap (λ (r : Result Msg Bad). judged judge f clients me (allowed 0 r)) read
    ∙ ap (λ (b : Bool). judged judge f clients me (cond b (Err BadLength) (Ok m))) holds

above-none : (n : ℕ) → 0 < n → (n == 0) ≡ false
above-none n some = search arith

allowed-all : (every : ℕ) (r : Result Msg Bad) → 0 < every → allowed every r ≡ r
allowed-all every (Ok m) some = ap (λ (b : Bool). cond (b && holds_trimmed m) (Err BadLength) (Ok m)) (above-none every some)
allowed-all every (Err bad) some = refl

pub taken : (judge : Judge) (f clients every : ℕ) (me : Party) (bytes : List ℕ) → 0 < every → opening judge f clients every me bytes ≡ judged judge f clients me (message_of bytes)
taken judge f clients every me bytes some = ap (judged judge f clients me) (allowed-all every (message_of bytes) some)

allowed-other : (every : ℕ) (r : Result Msg Bad) → ((m : Msg) → r ≡ Ok m → holds_trimmed m ≡ false) → allowed every r ≡ r
allowed-other every (Ok m) whole = ap (λ (b : Bool). cond (every == 0 && b) (Err BadLength) (Ok m)) (whole m refl) ∙ ap (λ (b : Bool). cond b (Err BadLength) (Ok m)) (and-false (every == 0))
allowed-other every (Err bad) whole = refl

pub alike : (judge : Judge) (f clients every other : ℕ) (me : Party) (bytes : List ℕ) → ((m : Msg) → message_of bytes ≡ Ok m → holds_trimmed m ≡ false)
    → opening judge f clients every me bytes ≡ opening judge f clients other me bytes
alike judge f clients every other me bytes whole =
    ap (judged judge f clients me) (allowed-other every (message_of bytes) whole ∙ sym (allowed-other other (message_of bytes) whole))
