-- What is put on the shelf of a received message that is told.
use Rattle.std.proofs.Common.{◌≡◌, ℕ, List, refl}
use Rattle.std.specs.Borrow.{Bor}
use Rattle.ab_form.specs.declared.list_ref.ListRef.{ListRef}
use Rattle.ab_content.specs.declared.content_ref.ContentRef.{ContentRef}
use Rattle.ab_wire.specs.declared.tags_ref.TagRef.{TagRef}
use Rattle.ab_wire.specs.declared.signed_ref.SignedRef.{SignedRef}
use Rattle.ab_wire.specs.declared.change_ref.ProofRef.{ProofRef}
use Rattle.ab_wire.specs.declared.msg_ref.MsgRef.{MsgRef}
use Rattle.ab_wire.specs.declared.msg_ref.MsgRef.TheVariants as ref
use Rattle.ab_wire.specs.Views.{message}
use Rattle.ab_abs.specs.Messages.{took}
use Rattle.ab_order.specs.Inputs.{Reading}
use Rattle.ab_pbft_shelf.specs.Shelves.{Shelf}
use Rattle.ab_pbft_shelf.specs.Signing.{puts}

-- of a message that is no request, PREPARE or VIEW-CHANGE nothing is put there
pub puts_none : (f : ℕ) (m : MsgRef) (e : Reading) (s : Shelf) → ((content : ContentRef) (bytes : Bor (List ℕ)) (tags : ListRef TagRef) → m ≡ ref.Req content bytes tags → ⊥)
    → ((prepare : SignedRef) → m ≡ ref.Prepare prepare → ⊥) → ((change : ProofRef) → m ≡ ref.ViewChange change → ⊥) → s ≡ puts f (took (message m)) e s
puts_none f (ref.Req content bytes tags) e s request prepare change = absurd (request content bytes tags refl)
puts_none f (ref.Prepare signed) e s request prepare change = absurd (prepare signed refl)
puts_none f (ref.ViewChange proof) e s request prepare change = absurd (change proof refl)
puts_none f _ e s request prepare change = refl
