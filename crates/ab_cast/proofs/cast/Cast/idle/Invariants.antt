use Rattle.std.proofs.Common.{◌≡◌, ◌<◌, ℕ, Some, length}
use Rattle.std.specs.Prelude.{slice_get}
use Rattle.ab_cast.specs.Casts.{is_free}
use Rattle.ab_cast.proofs.cast.Cast.idle.Given as goal

abbrev pub invariant-loop-c : goal.invariant-loop-c
invariant-loop-c g l = record {
  size : length l.idle ≡ 16;
  told : (d : ℕ) → d < l.c → slice_get l.idle d ≡ Some (is_free (slice_get l.self.clients d));
}
