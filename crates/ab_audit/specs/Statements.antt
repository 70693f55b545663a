-- What is signed in messages.
use Rattle.std.specs.Prelude.{ℕ, suc, List, [], ◌∷◌, ◌++◌, map, flat_map, Option, Some, None}
use Rattle.ab_num.specs.declared.party.Party.TheVariants.{Replica}
use Rattle.ab_msg.specs.declared.content.Content.{Content}
use Rattle.ab_msg.specs.declared.content.Content.TheVariants.{AbortZ, Prepare}
use Rattle.ab_msg.specs.declared.signed.Signed.{Signed}
use Rattle.ab_msg.specs.declared.change.Proof.{Proof}
use Rattle.ab_msg.specs.declared.message.Msg.{Msg}
use Rattle.ab_msg.specs.declared.message.Msg.TheVariants as msg
use Rattle.ab_msg.specs.declared.message.Offer.{Offer}
use Rattle.ab_msg.specs.declared.message.Offer.TheVariants as offer
use Rattle.ab_msg.specs.declared.zcert.Zcert.{Zcert}
use Rattle.ab_msg.specs.Claims.{instance_of, spec_of}
use Rattle.ab_msg.specs.Certs.{entries_of}
use Rattle.ab_check.specs.Checks.{Check, Token, by_tag, by_sig}

-- a content, and a signature over it
pub record Statement : Type 0 where
  pub content : Content
  pub sig : List ℕ

abbrev pub statement_of : Signed → Statement
statement_of s = record { content = s.content; sig = s.sig }

-- the PREPARE of a slot, by one of those who signed it
abbrev pub prepare_by : ℕ → ℕ → ℕ → List ℕ → ℕ × List ℕ → Statement
prepare_by instance view slot x s = record { content = Prepare (Replica s.0) instance view slot x; sig = s.1 }

-- the PREPAREs behind a view change, slot by slot from this slot on
abbrev pub prepares_behind : ℕ → ℕ → List (ℕ × List ℕ) → List (List (ℕ × List ℕ)) → List Statement
prepares_behind instance slot [] prepares = []
prepares_behind instance slot (e ∷ entries) [] = []
prepares_behind instance slot (e ∷ entries) (by ∷ prepares) = map (prepare_by instance e.0 slot e.1) by ++ prepares_behind instance (suc slot) entries prepares

-- a view change, and the PREPAREs behind it
abbrev pub change_statements : Proof → List Statement
change_statements v = statement_of v.change ∷ prepares_behind (instance_of v.change.content) 0 (entries_of v.change.content) v.prepares

-- the answer in a certificate, by one of those who signed it
abbrev pub answer_by : ℕ → Zcert → ℕ × List ℕ → Statement
answer_by i z s = record { content = spec_of i z s.0; sig = s.1 }

-- the answers in a certificate of instance i
abbrev pub answer_statements : ℕ → Zcert → List Statement
answer_statements i z = map (answer_by i z) z.sigs

abbrev pub kept_statements : ℕ → Option Zcert → List Statement
kept_statements i None = []
kept_statements i (Some z) = answer_statements i z

-- the answers in the certificate that an ABORT holds
abbrev pub statements_behind : Content → List Statement
statements_behind (AbortZ maker i history zcert) = kept_statements i zcert
statements_behind _ = []

-- an ABORT, and the answers in the certificate that it holds
abbrev pub abort_statements : Signed → List Statement
abort_statements abort = statement_of abort ∷ statements_behind abort.content

-- what is offered for slot 0 are ABORTs
abbrev pub offer_statements : Offer → List Statement
offer_statements (offer.Base aborts) = flat_map abort_statements aborts
offer_statements (offer.Request m tag) = []

-- all that is signed in a message
abbrev pub statements_in : Msg → List Statement
statements_in (msg.Req content tags) = []
statements_in (msg.Order content client_tag tag) = []
statements_in (msg.Resp content tag) = []
statements_in (msg.Chain i m n d reply tags) = []
statements_in (msg.Panic content tag) = []
statements_in (msg.Abort abort) = abort_statements abort
statements_in (msg.Init cert) = flat_map abort_statements cert
statements_in (msg.PrePrepare content tag offer) = offer_statements offer
statements_in (msg.Prepare prepare) = statement_of prepare ∷ []
statements_in (msg.Commit content tag) = []
statements_in (msg.ViewChange change) = change_statements change
statements_in (msg.NewView content tag changes) = flat_map change_statements changes
statements_in (msg.Checkpoint content tag) = []
statements_in (msg.LocalCommit content tag) = []
statements_in (msg.Spec spec) = statement_of spec ∷ []
statements_in (msg.Cert i z) = answer_statements i z

-- ---- among what a party checks

abbrev pub signed_by : Content → Token → List Statement
signed_by c (by_tag tag) = []
signed_by c (by_sig sig) = record { content = c; sig = sig } ∷ []

-- the statement of a check, if a signature stands for it
abbrev pub signed_at : Check → List Statement
signed_at k = signed_by k.content k.token
