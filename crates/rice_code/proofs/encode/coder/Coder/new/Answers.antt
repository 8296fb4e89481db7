use Rattle.std.proofs.Common.{arith, [], subst, sym}
use Rattle.rice_code.proofs.{Words.common_steps, Words.IsCoder, Words.HasTaken, Words.CoderState, lemmas.encode.PushedCode.none_taken}
use Rattle.rice_code.proofs.encode.coder.Coder.new.Goals as goal

pub invariant_of-result : goal.invariant_of-result
invariant_of-result c = subst IsCoder (sym c.new.ensures) (record { samples = []; taken = none_taken c.args.setting c.block-block.ensures.legal })

pub returns-clause-taken : goal.returns-clause-taken
returns-clause-taken c = subst (λ (v : CoderState). HasTaken v []) (sym c.new.ensures) (none_taken c.args.setting c.block-block.ensures.legal)
