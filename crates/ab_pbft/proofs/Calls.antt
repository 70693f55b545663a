-- An event that is read from a call is what the orderer does on that call.
use Rattle.std.proofs.Common.{◌≡◌, Result, Ok, Err, ap, ◌∙◌, length}
use Rattle.std.specs.Prelude.{IfOk}
use Rattle.ab_msg.specs.Pens.{Pen}
use Rattle.ab_abs.specs.Messages.{Call}
use Rattle.ab_order.specs.Inputs.{Reading}
use Rattle.ab_pbft_shelf.specs.Shelves.{Shelf}
use Rattle.ab_pbft_shelf.specs.Signing.{Signing, input_of, puts, signing}
use Rattle.ab_pbft.specs.Events.{post_of, signs_of, next_of}

-- two facts of what came out are one
pub both_ok : {A B E : Type 0} (r : Result (A × B) E) (x x' : A) (y y' : B) → IfOk r (λ made. made.0 ≡ x) → IfOk r (λ made. made.1 ≡ y) → x ≡ x' → y ≡ y' → IfOk r (λ made. (made.0 ≡ x') × (made.1 ≡ y'))
both_ok (Ok made) x x' y y' first second first_is second_is = (first ∙ first_is, second ∙ second_is)
both_ok (Err fault) x x' y y' first second first_is second_is = tt

module _ (q : Signing) (call : Call) (e : Reading) (read : e ≡ input_of q call) where
  pub signs_is : signs_of q e ≡ length (signing.signs q call)
  signs_is = ap (λ (i : Reading). signs_of q i) read

  module _ (pen : Pen) (shelf : Shelf) (held : shelf ≡ puts q.order.seat.f call e q.shelf) where
    put_is : shelf ≡ puts q.order.seat.f call (input_of q call) q.shelf
    put_is = held ∙ ap (λ (i : Reading). puts q.order.seat.f call i q.shelf) read

    pub after_is : next_of pen q shelf e ≡ signing.after pen q call
    after_is = ap (λ (i : Reading). next_of pen q shelf i) read ∙ ap (λ (s : Shelf). next_of pen q s (input_of q call)) put_is

    pub sends_is : (post_of pen q shelf e).sent ≡ signing.sends pen q call
    sends_is = ap (λ (i : Reading). (post_of pen q shelf i).sent) read ∙ ap (λ (s : Shelf). (post_of pen q s (input_of q call)).sent) put_is
