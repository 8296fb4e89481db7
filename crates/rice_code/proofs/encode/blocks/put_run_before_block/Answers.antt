use Rattle.std.proofs.Common.{◌≡◌, ℕ, zero, suc, ◌<◌, ◌++◌, ◌∙◌, length, false, arith, ap, sym, subst, append-nil}
use Rattle.rice_code.proofs.Words.{IfSome, Option, value_count, pending_bits, reference_at, common_steps}
use Rattle.rice_code.proofs.encode.blocks.put_run_before_block.Goals as goal

reference_fits : (r : Option ℕ) (n : ℕ) (P : ℕ → Type 0) → IfSome r P → IfSome (reference_at r n) P
reference_fits r zero P h = h
reference_fits r (suc n) P h = tt

pub put_pending_run-requires-clause-fits : goal.put_pending_run-requires-clause-fits
put_pending_run-requires-clause-fits c = grind (arith, common_steps, reference_fits)

pub returns-else-run-gt0 : goal.returns-else-run-gt0
returns-else-run-gt0 c = grind (arith, common_steps, append-nil)
