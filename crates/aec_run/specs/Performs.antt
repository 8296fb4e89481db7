-- What the command has done for a plan, by what the system tells before and after.
use Rattle.std.specs.Prelude.{◌≡◌, ℕ, ◌+◌, ◌-◌, ◌/◌, Bool, true, false, ◌&&◌, List, ◌++◌, Option, Some, None, is_some, Result, Ok, Err, ◌⊎◌}
use Rattle.rice_bits.specs.OutletRoom.{Room}
use Rattle.rice_samples.specs.Parameters.{Parameters}
use Rattle.rice_stream.specs.DevicesInCalls.{Call, Happens, Fails}
use Rattle.rice_stream.specs.Encodes.{Encodes}
use Rattle.rice_stream.specs.Decodes.{Decodes}
use Rattle.rice_stream.specs.declared.outcome.Outcome.{Outcome}
use Rattle.rice_stream.specs.declared.outcome.Report.{Report}
use Rattle.rice_stream.specs.declared.outcome.Fault.{Fault}
use Rattle.rice_stream.specs.declared.outcome.Fault.TheVariants.{Read, Write}
use Rattle.aec_run.specs.OneAfter.{StopsLooking, has_one_after}
use Rattle.aec_command.specs.Plan.{PlanView}
use Rattle.aec_command.specs.TestPlan.{TestView}
use Rattle.aec_run.specs.Outside.{Outside, Said, CannotOpen, CannotCreate, LacksMemory, Stopped, Faulty, Holds, HasTakenNothing, closing, finding}
use Rattle.aec_run.specs.Outside.{losing, missing, new_mode, refusing, saying, is_standard, is_read_again, source_bytes, source_id, place_of, is_creatable, AreOneFile}

-- what the engine that the plan asks for has done
abbrev pub EngineOf : Bool → PlanView → Call → Outcome → Type 0
EngineOf true p c done = Decodes p.setting p.samples c done.report done.fault
EngineOf false p c done = Encodes p.setting c done.report done.fault

-- all that was written is there, or a front of it
abbrev pub Arrives : Bool → List ℕ → List ℕ → Type 0
Arrives true written there = there ≡ written
Arrives false written there = (lost : List ℕ) × (written ≡ there ++ lost)

-- the losses are one more where not all has arrived
abbrev pub losses_with : Bool → ℕ → ℕ
losses_with true losses = losses
losses_with false losses = losses + 1

-- the message at the end: the engine's fault comes first
abbrev pub last_words : Option Fault → Bool → Option Said
last_words (Some fault) kept = Some (Stopped fault)
last_words None false = Some (Stopped Write)
last_words None true = None

-- the status with a message is 1, and without one 0
abbrev pub status_with : Option Said → ℕ
status_with None = 0
status_with (Some line) = 1

-- creating the destination would empty the source
abbrev pub EmptiesSource : Outside → PlanView → Type 0
EmptiesSource o p = (is_standard p.dest ≡ false) × AreOneFile (source_id o p.source) (o.ids p.dest)

-- A message is all that came of it.
pub record OnlySays (line : Said) (o after : Outside) (status : ℕ) : Type 0 where
  pub outside : after ≡ saying o line
  pub status_is : status ≡ 1

-- the source of this name can't be opened
pub record FindsNoSource (source : List ℕ) (o after : Outside) (status : ℕ) : Type 0 where
  pub none : source_bytes o source ≡ None
  pub says : OnlySays (CannotOpen source) o after status

-- the destination is the source, or can't be created
pub record CreatesNothing (p : PlanView) (o after : Outside) (status : ℕ) : Type 0 where
  pub given : List ℕ
  pub source : source_bytes o p.source ≡ Some given
  pub why : EmptiesSource o p ⊎ (is_creatable o p.dest ≡ false)
  pub says : OnlySays (CannotCreate p.dest) o after status

-- there is no memory for the destination's buffer
pub record WantsMemory (o after : Outside) (status : ℕ) : Type 0 where
  pub says : OnlySays LacksMemory (refusing o) after status

-- the fault of a code, with the place of the last bit that was read
abbrev pub faulty : Parameters → Report → Fault → Said
faulty s r fault = Faulty fault (r.samples / s.block) (r.bits - 1) ((r.bits - 1) / 8)

-- what a test reported, or, where that could not be written, that it could not; and the status
abbrev pub tested : Parameters → Report → Result (Option Bool) Fault → Bool → Outside → Outside
tested s r (Err fault) reported o = saying o (faulty s r fault)
tested s r (Ok more) false o = saying (losing o) (Stopped Write)
tested s r (Ok more) true o = finding o (record { samples = r.samples; bits = r.bits; more = more })

abbrev pub test_status : Result (Option Bool) Fault → Bool → ℕ
test_status (Ok more) true = 0
test_status _ _ = 1

-- Whether a 1 is after so many bits of these bytes was not found out: the source could not be opened once more, or the look at it stopped.
abbrev pub LooksInVain : {Source : Type 0} → (Source → ℕ) → List ℕ → List ℕ → Outside → Option Outside → Fault → Type 0
LooksInVain reads source given o new fault = ((new ≡ Some (missing source o)) × (fault ≡ Read)) ⊎ ((new ≡ Some o) × StopsLooking reads 0 (Some given) fault)

-- What was found after so many bits of the bytes of a source, if that was looked for, once it was opened once more.
abbrev pub Looks : {Source : Type 0} → (Source → ℕ) → Bool → ℕ → List ℕ → List ℕ → Outside → Option Outside → Result (Option Bool) Fault → Type 0
Looks reads false bits source given o new found = (new ≡ Some o) × (found ≡ Ok None)
Looks reads true bits source given o new (Ok None) = ⊥
Looks reads true bits source given o new (Ok (Some more)) = (new ≡ Some o) × (more ≡ has_one_after bits given)
Looks reads true bits source given o new (Err fault) = LooksInVain reads source given o new fault

module _ {Source Dest : Type 0} (left : Source → Option (List ℕ)) (reads : Source → ℕ) (taken : Dest → Option Room) (writes : Dest → ℕ) where
  -- The source of the plan's name was read, and what the engine wrote stands at the destination of the plan's name.
  pub record Runs (p : PlanView) (o after : Outside) (status samples : ℕ) : Type 0 where
    pub given : List ℕ
    pub source : source_bytes o p.source ≡ Some given
    pub keeps_source : EmptiesSource o p → ⊥
    pub creatable : is_creatable o p.dest ≡ true
    -- the source, opened and read, and the destination, begun and written
    pub opened : Source
    pub read : Source
    pub begun : Dest
    pub written : Dest
    pub sound : reads opened ≡ 0
    pub unwritten : writes begun ≡ 0
    pub gives : left opened ≡ Some given
    pub empty : HasTakenNothing (taken begun)
    pub call : Call
    pub outcome : Outcome
    pub happens : Happens (left opened) (left read) (taken begun) (taken written) call
    pub engine : EngineOf p.decode p call outcome
    pub failures : Fails outcome.fault (reads opened) (reads read) (writes begun) (writes written)
    -- whether all that was written arrived, as the losses tell, and what did
    pub all : Bool
    pub there : List ℕ
    pub arrives : Arrives all call.written there
    pub outside : after ≡ record o {
      destination = Holds (place_of p.dest (new_mode (source_id o p.source))) there;
      said = last_words outcome.fault all;
      losses = losses_with all o.losses;
    }
    pub status_is : status ≡ status_with (last_words outcome.fault all)
    pub samples_are : samples ≡ outcome.report.samples

  -- what a test found: the fault of the code, or what is after the samples that were asked for
  abbrev pub Judges : TestView → Outside → List ℕ → ℕ → Option Fault → Option Outside → Result (Option Bool) Fault → Type 0
  Judges p o given bits (Some fault) new found = (new ≡ Some o) × (found ≡ Err fault)
  Judges p o given bits None new found = Looks reads (is_some p.samples && is_read_again o p.source) bits p.source given o new found

  -- The source of the plan's name was read, nothing was written, and what was found is reported.
  pub record Tests (p : TestView) (o after : Outside) (status samples : ℕ) : Type 0 where
    pub given : List ℕ
    pub source : source_bytes o p.source ≡ Some given
    pub opened : Source
    pub read : Source
    pub sound : reads opened ≡ 0
    pub gives : left opened ≡ Some given
    pub call : Call
    pub outcome : Outcome
    pub happens : Happens (left opened) (left read) None None call
    pub decodes : Decodes p.setting p.samples call outcome.report outcome.fault
    pub failures : Fails outcome.fault (reads opened) (reads read) 0 0
    pub found : Result (Option Bool) Fault
    -- what the system tells once that was found
    pub looked : Outside
    pub judges : Judges p o given outcome.report.bits outcome.fault (Some looked) found
    -- whether standard output took what was found
    pub reported : Bool
    pub outside : after ≡ tested p.setting outcome.report found reported looked
    pub status_is : status ≡ test_status found reported
    pub samples_are : samples ≡ outcome.report.samples

  -- this was done, and the closing line was written, if it is asked for
  abbrev pub Closes : Bool → Bool → (Outside → ℕ → ℕ → Type 0) → Outside → ℕ → Type 0
  Closes verbose decoded did after status = (before : Outside) × (samples : ℕ) × did before status samples × (after ≡ closing verbose decoded samples before)

  -- the destination was written, or why it was not is reported
  abbrev pub Ends : Bool → PlanView → Outside → Outside → ℕ → Type 0
  Ends verbose p o after status = CreatesNothing p o after status ⊎ (WantsMemory o after status ⊎ Closes verbose p.decode (Runs p o) after status)

  abbrev pub Performs : Bool → PlanView → Outside → Outside → ℕ → Type 0
  Performs verbose p o after status = FindsNoSource p.source o after status ⊎ Ends verbose p o after status

  abbrev pub PerformsTest : Bool → TestView → Outside → Outside → ℕ → Type 0
  PerformsTest verbose p o after status = FindsNoSource p.source o after status ⊎ Closes verbose true (Tests p o) after status
