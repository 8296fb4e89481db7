use Rattle.std.proofs.lemmas.Grind.{common_steps}
use Rattle.std.proofs.Common.{◌≡◌, ◌<◌, arith, length, ◌+◌, ◌*◌, subst, ℤ, List}
use Rattle.rice_code.proofs.{lemmas.encode.PushedCode.pending_are, lemmas.encode.PushedCode.few_pending, Words.cut, Words.HasTaken, Words.CoderState}
use Rattle.rice_code.proofs.encode.coder.Coder.pending.Goals as goal

pub returns-clause-value : goal.returns-clause-value
returns-clause-value c = grind (arith, common_steps, pending_are)

pub returns-clause-limit : goal.returns-clause-limit
returns-clause-limit c = subst (λ (v : CoderState). c.len.result < 64 * v.setting.block) c.self.view_is
    (let e = few_pending c.self.inside.segment c.self.invariant in omega (arith, e, c.len.ensures.value))
