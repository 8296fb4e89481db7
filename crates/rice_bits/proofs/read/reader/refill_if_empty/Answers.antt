use Rattle.std.proofs.Common.{ℕ, ◌≤◌, ◌≡◌, arith, length}
use Rattle.std.proofs.lemmas.{List.length-take-le, Grind.common_steps}
use Rattle.rice_bits.proofs.lemmas.{bits.BytesAndBits.bits_of-nil, bits.BytesAndBits.length-bits_of, read.WindowLemmas.length-window, read.WindowLemmas.window_empty, read.RefilledBytes.supplies-none}
use Rattle.rice_bits.specs.{declared.read.window.Window.Window, Window.IsWindow, Window.window_bits}
use Rattle.rice_bits.proofs.read.reader.refill_if_empty.Goals as goal

-- where no bit is buffered, the window is at its end
at_end : (w : Window) (n : ℕ) → IsWindow w → n ≡ length (window_bits w) → n ≤ 0 → w.at ≡ w.end
at_end w n h e none = omega (arith, e, length-window w h, h.ordered)

pub returns-then-buffered-gt0-clause-ok : goal.returns-then-buffered-gt0-clause-ok
returns-then-buffered-gt0-clause-ok g c = supplies-none _ _

pub returns-in-Ok-clause-some : goal.returns-in-Ok-clause-some
returns-in-Ok-clause-some g c = grind (arith, common_steps, length-take-le, length-bits_of)

pub returns-in-Ok-clause-ok : goal.returns-in-Ok-clause-ok
returns-in-Ok-clause-ok g c = grind (arith, common_steps, at_end, window_empty, length-take-le)

pub returns-in-Err-clause-err : goal.returns-in-Err-clause-err
returns-in-Err-clause-err g c = grind (arith, common_steps, at_end, window_empty, bits_of-nil)

pub returns-in-Ok-clause-taken : goal.returns-in-Ok-clause-taken
returns-in-Ok-clause-taken g c = grind (arith, common_steps, at_end)

pub returns-in-Err-clause-taken : goal.returns-in-Err-clause-taken
returns-in-Err-clause-taken g c = grind (arith, common_steps, at_end)
