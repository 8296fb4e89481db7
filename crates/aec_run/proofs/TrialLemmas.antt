-- What a test of a code comes to.
use Rattle.std.proofs.Common.{◌≡◌, ℕ, Bool, true, false, List, Option, Some, None, Result, Ok, Err, inl, inr}
use Rattle.std.specs.Prelude.{is_some, ◌&&◌}
use Rattle.rice_bits.specs.OutletRoom.{Room}
use Rattle.rice_stream.specs.DevicesInCalls.{Fails}
use Rattle.rice_stream.specs.Decodes.{DecodesBetween}
use Rattle.rice_stream.specs.declared.outcome.Outcome.{Outcome}
use Rattle.rice_stream.specs.declared.outcome.Fault.{Fault}
use Rattle.aec_command.specs.TestPlan.{TestView}
use Rattle.aec_run.specs.Outside.{Outside, IsFresh, is_read_again, missing}
use Rattle.aec_run.specs.Performs.{Judges, Looks, Tests, test_status, tested}
use Rattle.aec_run.proofs.OutsideLemmas.{IsOpened}

-- what a system tells after a look
looked_of : {Source : Type 0} (reads : Source → ℕ) (wanted : Bool) (bits : ℕ) (source given : List ℕ) (o : Outside) (new : Option Outside) (found : Result (Option Bool) Fault)
    → Looks reads wanted bits source given o new found → IsFresh o → (looked : Outside) × (new ≡ Some looked) × (looked.said ≡ None) × (looked.found ≡ None)
looked_of reads false bits source given o new found looks fresh = (o, looks.0, fresh.said, fresh.found)
looked_of reads true bits source given o new (Ok None) looks fresh = absurd looks
looked_of reads true bits source given o new (Ok (Some more)) looks fresh = (o, looks.0, fresh.said, fresh.found)
looked_of reads true bits source given o new (Err fault) looks fresh = elim looks [
  | inl missed ↦ (missing source o, missed.0, fresh.said, fresh.found)
  | inr stopped ↦ (o, stopped.0, fresh.said, fresh.found)
]

-- what a system tells once a code was judged
pub judged_of : {Source Dest : Type 0} (left : Source → Option (List ℕ)) (reads : Source → ℕ) (taken : Dest → Option Room) (writes : Dest → ℕ)
    (p : TestView) (o : Outside) (given : List ℕ) (bits : ℕ) (fault : Option Fault) (new : Option Outside) (found : Result (Option Bool) Fault)
    → Judges left reads taken writes p o given bits fault new found → IsFresh o → (looked : Outside) × (new ≡ Some looked) × (looked.said ≡ None) × (looked.found ≡ None)
judged_of left reads taken writes p o given bits (Some fault) new found judges fresh = (o, judges.0, fresh.said, fresh.found)
judged_of left reads taken writes p o given bits None new found judges fresh =
    looked_of reads (is_some p.samples && is_read_again o p.source) bits p.source given o new found judges fresh

-- The source was decoded, and what was found is reported.
pub tests_of : {Source Dest : Type 0} {left : Source → Option (List ℕ)} {reads : Source → ℕ} {taken : Dest → Option Room} {writes : Dest → ℕ}
    {p : TestView} {o after : Outside} {status samples : ℕ} {given : List ℕ} {opened read : Source} {done : Outcome} (looked : Outside) (found : Result (Option Bool) Fault) (reported : Bool)
    → IsOpened left reads p.source o given opened
    → DecodesBetween p.setting p.samples (left opened) (left read) None None done.report done.fault → Fails done.fault (reads opened) (reads read) 0 0
    → Judges left reads taken writes p o given done.report.bits done.fault (Some looked) found
    → after ≡ tested p.setting done.report found reported looked → status ≡ test_status found reported → samples ≡ done.report.samples → Tests left reads taken writes p o after status samples
tests_of {given} {opened} {read} {done} looked found reported source did failures judges outside status_is samples_are = record {
  given = given;
  source = source.source;
  opened = opened;
  read = read;
  sound = source.sound;
  gives = source.gives;
  call = did.0;
  outcome = done;
  happens = did.1;
  decodes = did.2;
  failures = failures;
  found = found;
  looked = looked;
  judges = judges;
  reported = reported;
  outside = outside;
  status_is = status_is;
  samples_are = samples_are;
}
