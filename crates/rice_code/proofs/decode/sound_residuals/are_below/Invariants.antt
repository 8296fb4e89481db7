use Rattle.std.proofs.Common.{◌≡◌, ◌<◌, take, true, false}
use Rattle.std.specs.Prelude.{All}
use Rattle.rice_code.proofs.decode.sound_residuals.are_below.Given as goal

abbrev pub invariant-loop-i : goal.invariant-loop-i
invariant-loop-i l = record {
  below : l.all ≡ true → All (λ d. d < l.count) (take l.i l.residuals);
  not_below : l.all ≡ false → All (λ d. d < l.count) l.residuals → ⊥;
}
