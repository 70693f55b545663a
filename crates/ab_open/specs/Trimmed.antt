-- Which messages hold a list of which a beginning is trimmed, and in which clusters they are read.
use Rattle.std.specs.Prelude.{ℕ, ◌==◌, Bool, true, false, ◌&&◌, ◌||◌, nat_lt, List, Result, Ok, Err, if◌then◌else◌}
use Rattle.std.specs.List.{list_any}
use Rattle.ab_form.specs.declared.bad.Bad.{Bad}
use Rattle.ab_form.specs.declared.bad.Bad.TheVariants.{BadLength}
use Rattle.ab_msg.specs.declared.content.Content.{Content}
use Rattle.ab_msg.specs.declared.content.Content.TheVariants.{TrimmedAbort}
use Rattle.ab_msg.specs.declared.signed.Signed.{Signed}
use Rattle.ab_msg.specs.declared.change.Proof.{Proof}
use Rattle.ab_msg.specs.declared.message.Msg.{Msg}
use Rattle.ab_msg.specs.declared.message.Msg.TheVariants as msg
use Rattle.ab_msg.specs.declared.message.Offer.{Offer}
use Rattle.ab_msg.specs.declared.message.Offer.TheVariants as offer

abbrev pub is_trimmed : Content → Bool
is_trimmed (TrimmedAbort maker i start digest rest) = true
is_trimmed _ = false

abbrev pub any_trimmed : List Signed → Bool
any_trimmed aborts = list_any (λ s. is_trimmed s.content) aborts

abbrev pub offers_trimmed : Offer → Bool
offers_trimmed (offer.Base aborts) = any_trimmed aborts
offers_trimmed (offer.Request m tag) = false

-- an ABORT in a message states a trimmed log
abbrev pub states_trimmed : Msg → Bool
states_trimmed (msg.Abort abort) = is_trimmed abort.content
states_trimmed (msg.Init cert) = any_trimmed cert
states_trimmed (msg.PrePrepare content tag offer) = offers_trimmed offer
states_trimmed _ = false

-- a view change shows its base without its first entries
abbrev pub has_front : Proof → Bool
has_front v = nat_lt 0 v.start

-- the base of a view change in a message is trimmed
abbrev pub shows_trimmed : Msg → Bool
shows_trimmed (msg.ViewChange change) = has_front change
shows_trimmed (msg.NewView content tag changes) = list_any has_front changes
shows_trimmed _ = false

-- a message holds a trimmed list
abbrev pub holds_trimmed : Msg → Bool
holds_trimmed m = states_trimmed m || shows_trimmed m

-- what is read where a checkpoint is due after so many requests: if none ever is, no list is trimmed
abbrev pub allowed : ℕ → Result Msg Bad → Result Msg Bad
allowed every (Ok m) = if every == 0 && holds_trimmed m then Err BadLength else Ok m
allowed every (Err bad) = Err bad
