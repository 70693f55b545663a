-- What follows for what was read.
use Rattle.std.proofs.Common.{◌≡◌, ℕ, List, Result, Ok, Err, IfOk, IsOkAnd, sym, ap, ◌∙◌}
use Rattle.ab_form.specs.declared.bad.Bad.{Bad}
use Rattle.ab_form.specs.Readers.{Gives}
use Rattle.ab_form.specs.Formats.{IsBytes}
use Rattle.ab_form.proofs.StepLemmas.{done_is, done-fault}
use Rattle.ab_msg.specs.declared.message.Msg.{Msg}
use Rattle.ab_wire.specs.declared.msg_ref.MsgRef.{MsgRef}
use Rattle.ab_open.specs.Messages.{message_of}
use Rattle.ab_msg.specs.Messages.{spell_message, IsMessage}
use Rattle.ab_wire.specs.Views.{message, IsKept, IsReceived}
use Rattle.ab_open.proofs.MessageLemmas.{message-law}

pub spelled : (bytes : List ℕ) (r : Result MsgRef Bad) → IsBytes bytes → Gives message r (message_of bytes) → IfOk r (λ m. bytes ≡ spell_message (message m))
spelled bytes (Ok m) fits e = (message-law.takes bytes (message m) fits e).0
spelled bytes (Err bad) fits e = tt

pub received : (bytes : List ℕ) (r : Result MsgRef Bad) → IsBytes bytes → Gives message r (message_of bytes) → IfOk r IsKept → IfOk r IsReceived
received bytes (Ok m) fits e kept = record { of_grammar = (message-law.takes bytes (message m) fits e).1; kept = kept }
received bytes (Err bad) fits e kept = tt

-- what spells a message is read as that message
pub all-read : (bytes : List ℕ) (r : Result MsgRef Bad) → Gives message r (message_of bytes) → (m : Msg) → IsMessage m → bytes ≡ spell_message m → IsOkAnd r (λ x. message x ≡ m)
all-read bytes (Ok x) e m lawful is = done_is (message x) m (sym e ∙ ap message_of is ∙ message-law.again m lawful)
all-read bytes (Err bad) e m lawful is = absurd (done-fault m bad (sym (message-law.again m lawful) ∙ ap message_of (sym is) ∙ e))
