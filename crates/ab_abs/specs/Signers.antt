-- What a call leaves of who signs.
use Rattle.std.specs.Prelude.{◌≡◌, ℕ}
use Rattle.ab_msg.specs.Pens.{Pen}

-- nothing is signed: the pen is as it was, and so is how many more it can sign
pub record SignsNothing (old : Pen) (before : ℕ) (new : Pen) (after : ℕ) : Type 0 where
  pub pen : new ≡ old
  pub left : after ≡ before
