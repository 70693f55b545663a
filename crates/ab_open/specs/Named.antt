-- Whom the parts of a message name.
use Rattle.std.specs.Prelude.{ℕ, Option, None, Some, List, [], ◌∷◌, ◌++◌, map, flat_map}
use Rattle.ab_num.specs.declared.party.Party.{Party}
use Rattle.ab_num.specs.declared.party.Party.TheVariants.{Replica, Client}
use Rattle.ab_hist.specs.declared.request.Request.{Request}
use Rattle.ab_msg.specs.declared.content.Content.{Content}
use Rattle.ab_msg.specs.declared.content.Content.TheVariants.{AbortZ}
use Rattle.ab_msg.specs.declared.signed.Signed.{Signed}
use Rattle.ab_msg.specs.declared.value.Value.{Value}
use Rattle.ab_msg.specs.declared.change.Proof.{Proof}
use Rattle.ab_msg.specs.declared.zcert.Zcert.{Zcert}
use Rattle.ab_msg.specs.declared.message.Offer.{Offer}
use Rattle.ab_msg.specs.declared.message.Offer.TheVariants as offer
use Rattle.ab_msg.specs.Carried.{parties_of_content, value_histories, value_requests}

-- the clients of requests
abbrev pub clients_of : List Request → List Party
clients_of h = map (λ m. Client m.client) h

-- the makers of the PREPAREs of a slot
abbrev pub signers_of : List (ℕ × List ℕ) → List Party
signers_of by = map (λ s. Replica s.0) by

abbrev pub values_name : List Value → List Party
values_name values = clients_of (value_requests values) ++ flat_map clients_of (value_histories values)

-- the makers of equal answers to a client, and the client
abbrev pub answers_name : ℕ → List (ℕ × List ℕ) → List Party
answers_name client by = flat_map (λ s. Replica s.0 ∷ Client client ∷ []) by

abbrev pub zcert_names : Option Zcert → List Party
zcert_names None = []
zcert_names (Some z) = answers_name z.client z.sigs

abbrev pub kept_names : Content → List Party
kept_names (AbortZ maker i h zcert) = zcert_names zcert
kept_names _ = []

-- what a replica states as it stops, with the answers that it keeps
abbrev pub abort_names : Content → List Party
abort_names c = parties_of_content c ++ kept_names c

abbrev pub aborts_name : List Signed → List Party
aborts_name aborts = flat_map (λ s. abort_names s.content) aborts

abbrev pub offer_names : Offer → List Party
offer_names (offer.Base aborts) = aborts_name aborts
offer_names (offer.Request m tag) = Client m.client ∷ []

-- a view change, with its PREPAREs and values
abbrev pub change_names : Proof → List Party
change_names v = parties_of_content v.change.content ++ (flat_map signers_of v.prepares ++ values_name v.values)
