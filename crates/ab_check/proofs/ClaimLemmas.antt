-- What is checked are the claims of a message.
use Rattle.std.proofs.Common.{◌≡◌, ℕ, suc, List, [], ◌∷◌, ◌++◌, map, Option, Some, None, refl, ap, ◌∙◌}
use Rattle.std.specs.Prelude.{flat_map}
use Rattle.std.proofs.lemmas.List.{map-append}
use Rattle.ab_num.specs.declared.party.Party.{Party}
use Rattle.ab_msg.specs.declared.content.Content.{Content}
use Rattle.ab_msg.specs.declared.content.Content.TheVariants.{Req, Order, Resp, ChainTag, Panic, Abort, PrePrepare, Prepare, Commit, ViewChange, NewView, Checkpoint, Spec, LocalCommit, AbortZ, TrimmedAbort}
use Rattle.ab_msg.specs.declared.signed.Signed.{Signed}
use Rattle.ab_msg.specs.declared.zcert.Zcert.{Zcert}
use Rattle.ab_msg.specs.declared.change.Proof.{Proof}
use Rattle.ab_msg.specs.declared.message.Msg.{Msg}
use Rattle.ab_msg.specs.declared.message.Msg.TheVariants as msg
use Rattle.ab_msg.specs.declared.message.Offer.{Offer}
use Rattle.ab_msg.specs.declared.message.Offer.TheVariants as offer
use Rattle.ab_msg.specs.Claims.{maker_of, instance_of, ordered, chain_claims, claims, spec_of, specs_of, kept_specs, kept_claims, signed_contents, offer_claims, slot_claims, prepared_claims, change_claims}
use Rattle.ab_msg.specs.Certs.{entries_of}
use Rattle.ab_check.specs.Checks.{Check, tagged, tag_between, answer_check, answers_checks, kept_answers, kept_checks, abort_checks, aborts_checks, prepare_check, slot_checks, slots_checks, proof_checks, all_checks, offer_checks, checks_of}

tagged-claims : (t : Content → Option (List ℕ)) (cs : List Content) → map (λ (k : Check). k.content) (map (λ c. tagged c (t c)) cs) ≡ cs
tagged-claims t [] = refl
tagged-claims t (c ∷ cs) = ap (λ (xs : List Content). c ∷ xs) (tagged-claims t cs)

by-claims : (i : ℕ) (z : Zcert) (by : List (ℕ × List ℕ)) → map (λ (k : Check). k.content) (map (answer_check i z) by) ≡ map (λ s. spec_of i z s.0) by
by-claims i z [] = refl
by-claims i z (s ∷ by) = ap (λ (xs : List Content). spec_of i z s.0 ∷ xs) (by-claims i z by)

answers-claims : (i : ℕ) (z : Zcert) → map (λ (k : Check). k.content) (answers_checks i z) ≡ specs_of i z
answers-claims i z = by-claims i z z.sigs

kept_answers-claims : (i : ℕ) (z : Option Zcert) → map (λ (k : Check). k.content) (kept_answers i z) ≡ kept_specs i z
kept_answers-claims i None = refl
kept_answers-claims i (Some z) = answers-claims i z

kept-claims : (c : Content) → map (λ (k : Check). k.content) (kept_checks c) ≡ kept_claims c
kept-claims (AbortZ maker i h zcert) = kept_answers-claims i zcert
kept-claims c = refl

abort-claims : (s : Signed) → map (λ (k : Check). k.content) (abort_checks s) ≡ s.content ∷ kept_claims s.content
abort-claims s = ap (λ (xs : List Content). s.content ∷ xs) (kept-claims s.content)

aborts-claims : (ss : List Signed) → map (λ (k : Check). k.content) (aborts_checks ss) ≡ signed_contents ss
aborts-claims [] = refl
aborts-claims (s ∷ ss) =
    map-append (λ (k : Check). k.content) (abort_checks s) (aborts_checks ss)
    ∙ (ap (λ (xs : List Content). xs ++ map (λ (k : Check). k.content) (aborts_checks ss)) (abort-claims s) ∙ ap (λ (xs : List Content). (s.content ∷ kept_claims s.content) ++ xs) (aborts-claims ss))

slot-claims : (i view slot : ℕ) (x : List ℕ) (by : List (ℕ × List ℕ)) → map (λ (k : Check). k.content) (slot_checks i view slot x by) ≡ map (λ s. (prepare_check i view slot x s).content) by
slot-claims i view slot x [] = refl
slot-claims i view slot x (s ∷ by) = ap (λ (xs : List Content). (prepare_check i view slot x s).content ∷ xs) (slot-claims i view slot x by)

slots-claims : (i slot : ℕ) (es : List (ℕ × List ℕ)) (ps : List (List (ℕ × List ℕ))) → map (λ (k : Check). k.content) (slots_checks i slot es ps) ≡ slot_claims i slot es ps
slots-claims i slot [] ps = refl
slots-claims i slot (e ∷ es) [] = refl
slots-claims i slot (e ∷ es) (by ∷ ps) =
    rw (map-append (λ (k : Check). k.content) (slot_checks i e.0 slot e.1 by) (slots_checks i (suc slot) es ps), slot-claims i e.0 slot e.1 by, slots-claims i (suc slot) es ps) refl

prepared-claims : (c : Content) (ps : List (List (ℕ × List ℕ))) → map (λ (k : Check). k.content) (slots_checks (instance_of c) 0 (entries_of c) ps) ≡ prepared_claims c ps
prepared-claims (ViewChange maker i view entries) ps = slots-claims i 0 entries ps
prepared-claims (Req maker i m) ps = refl
prepared-claims (Order maker i n m) ps = refl
prepared-claims (Resp maker i client stamp n d reply) ps = refl
prepared-claims (ChainTag maker i client stamp n d) ps = refl
prepared-claims (Panic maker i) ps = refl
prepared-claims (Abort maker i h) ps = refl
prepared-claims (PrePrepare maker i view slot x) ps = refl
prepared-claims (Prepare maker i view slot x) ps = refl
prepared-claims (Commit maker i view slot x) ps = refl
prepared-claims (NewView maker i view) ps = refl
prepared-claims (Checkpoint maker i n d) ps = refl
prepared-claims (Spec maker i client stamp n d reply) ps = refl
prepared-claims (LocalCommit maker i client stamp n d) ps = refl
prepared-claims (AbortZ maker i h zcert) ps = refl
prepared-claims (TrimmedAbort maker i start digest rest) ps = refl

proof-claims : (v : Proof) → map (λ (k : Check). k.content) (proof_checks v) ≡ change_claims v
proof-claims v = ap (λ (xs : List Content). v.change.content ∷ xs) (prepared-claims v.change.content v.prepares)

all-claims : (vs : List Proof) → map (λ (k : Check). k.content) (all_checks vs) ≡ flat_map change_claims vs
all-claims [] = refl
all-claims (v ∷ vs) =
    map-append (λ (k : Check). k.content) (proof_checks v) (all_checks vs)
    ∙ (ap (λ (xs : List Content). xs ++ map (λ (k : Check). k.content) (all_checks vs)) (proof-claims v) ∙ ap (λ (xs : List Content). change_claims v ++ xs) (all-claims vs))

offer-claims : (i : ℕ) (o : Offer) → map (λ (k : Check). k.content) (offer_checks i o) ≡ offer_claims i o
offer-claims i (offer.Base aborts) = aborts-claims aborts
offer-claims i (offer.Request m tag) = refl

pub checked-claims : (f : ℕ) (me : Party) (m : Msg) → map (λ (k : Check). k.content) (checks_of f me m) ≡ claims f me m
checked-claims f me (msg.Req content tags) = refl
checked-claims f me (msg.Order content client_tag tag) =
    map-append (λ (k : Check). k.content) (map (λ c. tagged c (Some client_tag)) (ordered content)) (tagged content (Some tag) ∷ [])
    ∙ ap (λ (xs : List Content). xs ++ content ∷ []) (tagged-claims (λ _. Some client_tag) (ordered content))
checked-claims f me (msg.Resp content tag) = refl
checked-claims f me (msg.Chain i m n d reply tags) = tagged-claims (λ c. tag_between (maker_of c) me tags) (chain_claims f me i m n d reply)
checked-claims f me (msg.Panic content tag) = refl
checked-claims f me (msg.Abort abort) = abort-claims abort
checked-claims f me (msg.Init cert) = aborts-claims cert
checked-claims f me (msg.PrePrepare content tag offer) = ap (λ (xs : List Content). content ∷ xs) (offer-claims (instance_of content) offer)
checked-claims f me (msg.Prepare prepare) = refl
checked-claims f me (msg.Commit content tag) = refl
checked-claims f me (msg.ViewChange change) = proof-claims change
checked-claims f me (msg.NewView content tag changes) = ap (λ (xs : List Content). content ∷ xs) (all-claims changes)
checked-claims f me (msg.Checkpoint content tag) = refl
checked-claims f me (msg.LocalCommit content tag) = refl
checked-claims f me (msg.Spec spec) = refl
checked-claims f me (msg.Cert i z) = answers-claims i z
