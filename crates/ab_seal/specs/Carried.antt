-- What a receiver checks of a message that its sender did not state anew, and when the sender's own tags reach it.
use Rattle.std.specs.Prelude.{◌≡◌, ℕ, List, [], ◌∷◌, map, not, None, Some}
use Rattle.std.specs.List.{Contains, filter}
use Rattle.ab_num.specs.declared.party.Party.{Party}
use Rattle.ab_num.specs.declared.party.Party.TheVariants.{Replica, Client}
use Rattle.ab_num.specs.declared.plan.Plan.{Plan}
use Rattle.ab_num.specs.Parties.{party_eq}
use Rattle.ab_msg.specs.declared.chain_tags.TagBetween.{TagBetween}
use Rattle.ab_msg.specs.declared.message.Msg.{Msg}
use Rattle.ab_msg.specs.declared.message.Msg.TheVariants as msg
use Rattle.ab_msg.specs.Claims.{instance_of, maker_of, ordered}
use Rattle.ab_check.specs.Checks.{Check, tagged, signed_check, answers_checks, abort_checks, aborts_checks, offer_checks, proof_checks, all_checks, checks_of, tag_between}
use Rattle.ab_seal.specs.Receivers.{receivers}

-- the checks of what others than a stated
abbrev pub of_others : Party → List Check → List Check
of_others a checks = filter (λ k. not (party_eq (maker_of k.content) a)) checks

-- what b checks of a message of a but for the tags that a makes as it seals: tags that others made, and signatures
abbrev pub carried_checks : ℕ → Party → Party → Msg → List Check
carried_checks f a b (msg.Req content tags) = []
carried_checks f a b (msg.Order content client_tag tag) = map (λ c. tagged c (Some client_tag)) (ordered content)
carried_checks f a b (msg.Resp content tag) = []
carried_checks f a b (msg.Chain i m n d reply tags) = of_others a (checks_of f b (msg.Chain i m n d reply tags))
carried_checks f a b (msg.Panic content tag) = []
carried_checks f a b (msg.Abort abort) = abort_checks abort
carried_checks f a b (msg.Init cert) = aborts_checks cert
carried_checks f a b (msg.PrePrepare content tag offer) = offer_checks (instance_of content) offer
carried_checks f a b (msg.Prepare prepare) = signed_check prepare ∷ []
carried_checks f a b (msg.Commit content tag) = []
carried_checks f a b (msg.ViewChange change) = proof_checks change
carried_checks f a b (msg.NewView content tag changes) = all_checks changes
carried_checks f a b (msg.Checkpoint content tag) = []
carried_checks f a b (msg.LocalCommit content tag) = []
carried_checks f a b (msg.Spec spec) = signed_check spec ∷ []
carried_checks f a b (msg.Cert i zcert) = answers_checks i zcert

-- a request of the instance has a tag for the party
abbrev pub Receives : Plan → ℕ → ℕ → Party → Type 0
Receives plan f i (Replica r) = Contains (receivers plan f i) r
Receives plan f i (Client c) = ⊥

-- it is a replica that passes on, and none of its tags for b stands there yet
abbrev pub PassesOn : Party → Party → List TagBetween → Type 0
PassesOn (Replica r) b tags = tag_between (Replica r) b tags ≡ None
PassesOn (Client c) b tags = ⊥

-- the tags that a makes as it seals are for b too
abbrev pub IsFor : Plan → ℕ → Party → Party → Msg → Type 0
IsFor plan f a b (msg.Req content tags) = Receives plan f (instance_of content) b
IsFor plan f a b (msg.Chain i m n d reply tags) = PassesOn a b tags
IsFor plan f a b _ = Unit {0}
