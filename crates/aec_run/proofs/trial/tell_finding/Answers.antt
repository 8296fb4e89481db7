use Rattle.std.proofs.lemmas.Grind.{common_steps}
use Rattle.std.proofs.Common.{◌≡◌, None, arith, refl}
use Rattle.aec_run.specs.Outside.{losing}
use Rattle.aec_run.proofs.OutsideLemmas.{holds_after}
use Rattle.aec_run.proofs.trial.tell_finding.Goals as goal

pub fail-requires : goal.fail-requires
fail-requires g c κs = (
  (refl, tt),
  λ x e. holds_after (λ o. o.said ≡ None) _ _ c.report.ensures.silent
      (λ o reported. (losing o, c.in-Err.ensures.tells o reported, c.requires.unsaid o reported)) x e,
)

pub returns-in-Ok : goal.returns-in-Ok
returns-in-Ok g c = grind (arith, common_steps)

pub returns-in-Err : goal.returns-in-Err
returns-in-Err g c = grind (arith, common_steps)
