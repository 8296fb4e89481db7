use Rattle.std.proofs.Common.{◌≡◌, ◌∙◌, true, false, inr, subst, sym}
use Rattle.clap.specs.Words.{IsAmong, fault_of}
use Rattle.clap.specs.Walk.{texts}
use Rattle.aec_command.specs.CommandLine.{aec}
use Rattle.aec_command.proofs.CommandLineLemmas.{asks_of}
use Rattle.aec_command.proofs.matches.matches_of_test.Goals as goal

pub returns-then-is_test-clause-ok : goal.returns-then-is_test-clause-ok
returns-then-is_test-clause-ok c =
    let parsed = c.in-Ok.ensures.ok in inr (
      record {
        lack = c.requires.lack;
        in_order = parsed.in_order;
        asks = sym (asks_of c.in-Ok.matches _ parsed.rows) ∙ (sym c.is_test.ensures ∙ c.if-is_test.true);
      },
      parsed.rows,
    )

pub returns-in-Ok-clause-err : goal.returns-in-Ok-clause-err
returns-in-Ok-clause-err c =
    let parsed = c.in-Ok.ensures.ok in inr (
      subst (λ k. IsAmong k (fault_of aec (texts c.args.words.now))) (sym c.requires.kind) c.requires.lack,
      λ kind asked.
          let bad : true ≡ false = sym asked.asks ∙ (sym (asks_of c.in-Ok.matches _ parsed.rows) ∙ (sym c.is_test.ensures ∙ c.if-is_test.false)) in
          let contradiction : ⊥ = cc in
          contradiction,
    )
