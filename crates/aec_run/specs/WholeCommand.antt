-- What the command has done for the words of its command line, by what the system tells before and after.
use Rattle.std.specs.Prelude.{◌≡◌, ◌≢◌, ℕ, Bool, true, false, List, codes, Option, Result, Ok, Err, ◌⊎◌}
use Rattle.clap.specs.Words.{Text, found_of}
use Rattle.clap.specs.declared.parser.matches.ArgMatches.{ArgMatches}
use Rattle.clap.specs.declared.parser.matches.Found.{Found}
use Rattle.clap.specs.declared.error.kind.ErrorKind.{ErrorKind}
use Rattle.clap.specs.declared.error.kind.ErrorKind.TheVariants as kind
use Rattle.rice_bits.specs.OutletRoom.{Room}
use Rattle.aec_command.specs.declared.plan.PlanFault.{PlanFault}
use Rattle.aec_command.specs.declared.test_plan.TestFault.{TestFault}
use Rattle.aec_command.specs.CommandLine.{AreParsedTo, AreRefusedFor}
use Rattle.aec_command.specs.Plan.{PlanView, is_flagged, plan_in}
use Rattle.aec_command.specs.TestPlan.{TestView, test_plan_in, tests}
use Rattle.aec_run.specs.Outside.{Outside, Said, LacksMemory, Refused, TestRefused, saying, showing}
use Rattle.aec_run.specs.Performs.{OnlySays, Performs, PerformsTest}

-- What the parser has to say is passed on: help and version with status 0, and a mistake with status 2. Want of memory is reported.
pub record Explains (k : ErrorKind) (o after : Outside) (status : ℕ) : Type 0 where
  pub memory : k ≡ kind.OutOfMemory → OnlySays LacksMemory o after status
  pub shows : k ≢ kind.OutOfMemory → after ≡ showing o k
  pub help : k ≡ kind.DisplayHelp → status ≡ 0
  pub version : k ≡ kind.DisplayVersion → status ≡ 0
  pub mistake : k ≢ kind.OutOfMemory → k ≢ kind.DisplayHelp → k ≢ kind.DisplayVersion → status ≡ 2

-- why there is no plan is reported, with status 2
pub record RefusesPlan (line : Said) (o after : Outside) (status : ℕ) : Type 0 where
  pub outside : after ≡ saying o line
  pub status_is : status ≡ 2

module _ {Source Dest : Type 0} (left : Source → Option (List ℕ)) (reads : Source → ℕ) (taken : Dest → Option Room) (writes : Dest → ℕ) where
  -- what came of the plan that the matches ask for, with a line at the end or without
  abbrev pub FollowsPlan : Bool → Result PlanView PlanFault → Outside → Outside → ℕ → Type 0
  FollowsPlan verbose (Ok plan) o after status = Performs left reads taken writes verbose plan o after status
  FollowsPlan verbose (Err fault) o after status = RefusesPlan (Refused fault) o after status

  -- what came of the plan of a test
  abbrev pub FollowsTest : Bool → Result TestView TestFault → Outside → Outside → ℕ → Type 0
  FollowsTest verbose (Ok plan) o after status = PerformsTest left reads taken writes verbose plan o after status
  FollowsTest verbose (Err fault) o after status = RefusesPlan (TestRefused fault) o after status

  abbrev pub FollowsIfTest : Bool → Found → Outside → Outside → ℕ → Type 0
  FollowsIfTest true f o after status = FollowsTest (is_flagged f (codes "verbose")) (test_plan_in f) o after status
  FollowsIfTest false f o after status = FollowsPlan (is_flagged f (codes "verbose")) (plan_in f) o after status

  -- what came of the matches, which are those of a test or not
  abbrev pub Follows : Found → Outside → Outside → ℕ → Type 0
  Follows f o after status = FollowsIfTest (tests f) f o after status

  -- The words were parsed, and their plan was followed; or they were not, and the parser said why.
  abbrev pub Starts : List Text → Outside → Outside → ℕ → Type 0
  Starts words o after status =
      ((m : ArgMatches) × AreParsedTo words m × Follows (found_of m) o after status)
      ⊎ ((k : ErrorKind) × AreRefusedFor words k × Explains k o after status)
