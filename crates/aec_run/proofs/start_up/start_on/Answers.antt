use Rattle.std.proofs.Common.{inl, inr}
use Rattle.clap.specs.Words.{kind_of}
use Rattle.aec_run.proofs.start_up.start_on.Goals as goal

-- what the matches ask for was done
pub returns-in-Ok : goal.returns-in-Ok
returns-in-Ok g c = λ o reported.
    let did = c.follow.ensures o reported in
    (did.0, did.1, inl (c.in-Ok.matches, c.in-Ok.ensures.ok, did.2))

-- what the parser has to say was passed on
pub returns-in-Err : goal.returns-in-Err
returns-in-Err g c = λ o reported.
    let did = c.refuse.ensures o reported in
    (did.0, did.1, inr (kind_of c.in-Err.error, c.in-Err.ensures.err, did.2))
