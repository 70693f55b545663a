-- What messages claim of their makers, and what a party states in one.
use Rattle.std.specs.Prelude.{ℕ, zero, suc, ◌+◌, ◌-◌, ◌*◌, Bool, true, false, nat_le, nat_lt, if◌then◌else◌, Option, None, Some, List, [], ◌∷◌, ◌++◌, map, flat_map}
use Rattle.std.specs.List.{filter}
use Rattle.ab_num.specs.declared.party.Party.{Party}
use Rattle.ab_num.specs.declared.party.Party.TheVariants.{Replica, Client}
use Rattle.ab_num.specs.Parties.{party_eq}
use Rattle.ab_num.specs.Places.{at_position_of, position_in}
use Rattle.arrayvec.specs.ArrayVec.{ArrayVec}
use Rattle.ab_hist.specs.declared.request.Request.{Request}
use Rattle.ab_msg.specs.declared.content.Content.{Content}
use Rattle.ab_msg.specs.declared.content.Content.TheVariants.{Req, Order, Resp, ChainTag, Panic, Abort, PrePrepare, Prepare, Commit, ViewChange, NewView, Checkpoint, Spec, LocalCommit, AbortZ, TrimmedAbort}
use Rattle.ab_msg.specs.declared.message.Msg.{Msg}
use Rattle.ab_msg.specs.declared.message.Msg.TheVariants as msg
use Rattle.ab_msg.specs.declared.message.Offer.{Offer}
use Rattle.ab_msg.specs.declared.message.Offer.TheVariants as offer
use Rattle.ab_msg.specs.declared.signed.Signed.{Signed}
use Rattle.ab_msg.specs.declared.change.Proof.{Proof}
use Rattle.ab_msg.specs.declared.zcert.Zcert.{Zcert}

-- who states it
abbrev pub maker_of : Content → Party
maker_of (Req maker instance request) = maker
maker_of (Order maker instance n request) = maker
maker_of (Resp maker instance client stamp n d reply) = maker
maker_of (ChainTag maker instance client stamp n d) = maker
maker_of (Panic maker instance) = maker
maker_of (Abort maker instance history) = maker
maker_of (PrePrepare maker instance view slot x) = maker
maker_of (Prepare maker instance view slot x) = maker
maker_of (Commit maker instance view slot x) = maker
maker_of (ViewChange maker instance view entries) = maker
maker_of (NewView maker instance view) = maker
maker_of (Checkpoint maker instance n d) = maker
maker_of (Spec maker instance client stamp n d reply) = maker
maker_of (LocalCommit maker instance client stamp n d) = maker
maker_of (AbortZ maker instance history zcert) = maker
maker_of (TrimmedAbort maker instance start digest rest) = maker

-- the instance of which it speaks
abbrev pub instance_of : Content → ℕ
instance_of (Req maker instance request) = instance
instance_of (Order maker instance n request) = instance
instance_of (Resp maker instance client stamp n d reply) = instance
instance_of (ChainTag maker instance client stamp n d) = instance
instance_of (Panic maker instance) = instance
instance_of (Abort maker instance history) = instance
instance_of (PrePrepare maker instance view slot x) = instance
instance_of (Prepare maker instance view slot x) = instance
instance_of (Commit maker instance view slot x) = instance
instance_of (ViewChange maker instance view entries) = instance
instance_of (NewView maker instance view) = instance
instance_of (Checkpoint maker instance n d) = instance
instance_of (Spec maker instance client stamp n d reply) = instance
instance_of (LocalCommit maker instance client stamp n d) = instance
instance_of (AbortZ maker instance history zcert) = instance
instance_of (TrimmedAbort maker instance start digest rest) = instance

-- ---- parts of messages

-- the client's statement of a request
abbrev pub asked : ℕ → Request → Content
asked i m = Req (Client m.client) i m

-- what the given one says of each of the k positions before p, ascending
abbrev pub each_before : ℕ → (ℕ → Content) → ℕ → List Content
each_before zero says p = []
each_before (suc k) says p = if nat_le (k + 2) p then says (p - (k + 1)) ∷ each_before k says p else each_before k says p

abbrev pub tag_of_position : ℕ → ℕ → Request → ℕ → List ℕ → ℕ → Content
tag_of_position f i m n d q = ChainTag (Replica (at_position_of f i q)) i m.client m.stamp n d

-- what position p of a chain checks: the client's request if it is one of the first f + 1, and what the f + 1 positions before it stated
abbrev pub claims_at : ℕ → ℕ → Request → ℕ → List ℕ → ℕ → List Content
claims_at f i m n d p =
    if nat_le p (f + 1)
    then asked i m ∷ each_before (f + 1) (tag_of_position f i m n d) p
    else each_before (f + 1) (tag_of_position f i m n d) p

-- what the client of a chain checks: the responses of the last f + 1 positions. A reply has to be there
abbrev pub tail_claims : ℕ → ℕ → Request → ℕ → List ℕ → Option (ArrayVec ℕ) → List Content
tail_claims f i m n d None = []
tail_claims f i m n d (Some reply) = each_before (f + 1) (λ q. Resp (Replica (at_position_of f i q)) i m.client m.stamp n d reply) (3 * f + 2)

abbrev pub chain_claims : ℕ → Party → ℕ → Request → ℕ → List ℕ → Option (ArrayVec ℕ) → List Content
chain_claims f (Replica r) i m n d reply = claims_at f i m n d (position_in f i r)
chain_claims f (Client c) i m n d reply = tail_claims f i m n d reply

-- the request of which an ORDER speaks
abbrev pub ordered : Content → List Content
ordered (Order maker i n m) = asked i m ∷ []
ordered _ = []

-- the answer of replica r that a certificate of answers in instance i has
abbrev pub spec_of : ℕ → Zcert → ℕ → Content
spec_of i z r = Spec (Replica r) i z.client z.stamp z.n z.d z.reply

-- the answers that it has
abbrev pub specs_of : ℕ → Zcert → List Content
specs_of i z = map (λ s. spec_of i z s.0) z.sigs

abbrev pub kept_specs : ℕ → Option Zcert → List Content
kept_specs i None = []
kept_specs i (Some z) = specs_of i z

-- the answers in the certificate that an ABORT holds
abbrev pub kept_claims : Content → List Content
kept_claims (AbortZ maker i history zcert) = kept_specs i zcert
kept_claims _ = []

-- signed contents, each with the answers in the certificate that it holds
abbrev pub signed_contents : List Signed → List Content
signed_contents all = flat_map (λ s. s.content ∷ kept_claims s.content) all

abbrev pub offer_claims : ℕ → Offer → List Content
offer_claims i (offer.Base aborts) = signed_contents aborts
offer_claims i (offer.Request m tag) = asked i m ∷ []

-- the PREPAREs of a view change, slot by slot from the given one on
abbrev pub slot_claims : ℕ → ℕ → List (ℕ × List ℕ) → List (List (ℕ × List ℕ)) → List Content
slot_claims i slot [] prepares = []
slot_claims i slot (e ∷ entries) [] = []
slot_claims i slot (e ∷ entries) (by ∷ prepares) =
    map (λ s. Prepare (Replica s.0) i e.0 slot e.1) by ++ slot_claims i (suc slot) entries prepares

abbrev pub prepared_claims : Content → List (List (ℕ × List ℕ)) → List Content
prepared_claims (ViewChange maker i view entries) prepares = slot_claims i 0 entries prepares
prepared_claims _ prepares = []

abbrev pub change_claims : Proof → List Content
change_claims v = v.change.content ∷ prepared_claims v.change.content v.prepares

-- ---- messages

-- the contents that party p checks in a message, in their order, where f replicas may be faulty
abbrev pub claims : ℕ → Party → Msg → List Content
claims f p (msg.Req content tags) = content ∷ []
claims f p (msg.Order content client_tag tag) = ordered content ++ content ∷ []
claims f p (msg.Resp content tag) = content ∷ []
claims f p (msg.Chain i m n d reply tags) = chain_claims f p i m n d reply
claims f p (msg.Panic content tag) = content ∷ []
claims f p (msg.Abort abort) = abort.content ∷ kept_claims abort.content
claims f p (msg.Init cert) = signed_contents cert
claims f p (msg.PrePrepare content tag offer) = content ∷ offer_claims (instance_of content) offer
claims f p (msg.Prepare prepare) = prepare.content ∷ []
claims f p (msg.Commit content tag) = content ∷ []
claims f p (msg.ViewChange change) = change_claims change
claims f p (msg.NewView content tag changes) = content ∷ flat_map change_claims changes
claims f p (msg.Checkpoint content tag) = content ∷ []
claims f p (msg.LocalCommit content tag) = content ∷ []
claims f p (msg.Spec spec) = spec.content ∷ []
claims f p (msg.Cert i z) = specs_of i z

-- what position p of a chain states as it passes a request on: for later positions, and for the client
abbrev pub passed_at : ℕ → ℕ → Request → ℕ → List ℕ → Option (ArrayVec ℕ) → ℕ → ℕ → List Content
passed_at f i m n d None r p = ChainTag (Replica r) i m.client m.stamp n d ∷ []
passed_at f i m n d (Some reply) r p =
    if nat_le p (2 * f)
    then ChainTag (Replica r) i m.client m.stamp n d ∷ []
    else if nat_lt p (3 * f + 1)
    then ChainTag (Replica r) i m.client m.stamp n d ∷ Resp (Replica r) i m.client m.stamp n d reply ∷ []
    else Resp (Replica r) i m.client m.stamp n d reply ∷ []

abbrev pub passed : ℕ → Party → ℕ → Request → ℕ → List ℕ → Option (ArrayVec ℕ) → List Content
passed f (Replica r) i m n d reply = passed_at f i m n d reply r (position_in f i r)
passed f (Client c) i m n d reply = []

-- the contents for which a message has the proof of its sender: a tag that sealing makes, or a signature that was made for it. A
-- certificate and the view changes behind a NEW-VIEW were stated before
abbrev pub fresh : ℕ → Party → Msg → List Content
fresh f p (msg.Req content tags) = content ∷ []
fresh f p (msg.Order content client_tag tag) = content ∷ []
fresh f p (msg.Resp content tag) = content ∷ []
fresh f p (msg.Chain i m n d reply tags) = passed f p i m n d reply
fresh f p (msg.Panic content tag) = content ∷ []
fresh f p (msg.Abort abort) = abort.content ∷ []
fresh f p (msg.Init cert) = []
fresh f p (msg.PrePrepare content tag offer) = content ∷ []
fresh f p (msg.Prepare prepare) = prepare.content ∷ []
fresh f p (msg.Commit content tag) = content ∷ []
fresh f p (msg.ViewChange change) = change.change.content ∷ []
fresh f p (msg.NewView content tag changes) = content ∷ []
fresh f p (msg.Checkpoint content tag) = content ∷ []
fresh f p (msg.LocalCommit content tag) = content ∷ []
fresh f p (msg.Spec spec) = spec.content ∷ []
fresh f p (msg.Cert i z) = []

-- what p states in a message that it sends
abbrev pub stated : ℕ → Party → Msg → List Content
stated f p m = filter (λ s. party_eq (maker_of s) p) (fresh f p m)

-- it is a client's request
abbrev pub is_request : Msg → Bool
is_request (msg.Req (Req maker instance request) tags) = true
is_request _ = false

-- the instance of which a message speaks. An INIT brings its receiver to another, and has none
abbrev pub instance_in : Msg → Option ℕ
instance_in (msg.Req content tags) = Some (instance_of content)
instance_in (msg.Order content client_tag tag) = Some (instance_of content)
instance_in (msg.Resp content tag) = Some (instance_of content)
instance_in (msg.Chain i m n d reply tags) = Some i
instance_in (msg.Panic content tag) = Some (instance_of content)
instance_in (msg.Abort abort) = Some (instance_of abort.content)
instance_in (msg.Init cert) = None
instance_in (msg.PrePrepare content tag offer) = Some (instance_of content)
instance_in (msg.Prepare prepare) = Some (instance_of prepare.content)
instance_in (msg.Commit content tag) = Some (instance_of content)
instance_in (msg.ViewChange change) = Some (instance_of change.change.content)
instance_in (msg.NewView content tag changes) = Some (instance_of content)
instance_in (msg.Checkpoint content tag) = Some (instance_of content)
instance_in (msg.LocalCommit content tag) = Some (instance_of content)
instance_in (msg.Spec spec) = Some (instance_of spec.content)
instance_in (msg.Cert i z) = Some i

-- what a message has that its sender signed for it
abbrev pub signed_in : Msg → List Signed
signed_in (msg.Abort abort) = abort ∷ []
signed_in (msg.Prepare prepare) = prepare ∷ []
signed_in (msg.ViewChange change) = change.change ∷ []
signed_in (msg.Spec spec) = spec ∷ []
signed_in _ = []
