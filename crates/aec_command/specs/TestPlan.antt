-- What a parsed command line asks for that is one of a test.
use Rattle.std.specs.Prelude.{ℕ, Bool, List, codes, Option, Some, is_some, Result, Ok, Err, if◌then◌else◌}
use Rattle.clap.specs.Words.{first_value}
use Rattle.clap.specs.declared.parser.matches.Found.{Found}
use Rattle.rice_samples.specs.Parameters.{Parameters}
use Rattle.rice_samples.specs.declared.setting.SettingFault.{SettingFault}
use Rattle.aec_command.specs.Plan.{is_flagged, samples_in, setting_in}
use Rattle.aec_command.specs.declared.test_plan.TestPlan.{TestPlan}
use Rattle.aec_command.specs.declared.test_plan.TestFault.{TestFault}
use Rattle.aec_command.specs.declared.test_plan.TestFault.TheVariants as fault

-- a test is asked for
abbrev pub tests : Found → Bool
tests f = is_flagged f (codes "test")

-- what the plan of a test says, with its name as text
pub record TestView : Type 0 where
  pub setting : Parameters
  pub samples : Option ℕ
  pub source : List ℕ

abbrev pub test_view : TestPlan → TestView
test_view p = record { setting = p.setting; samples = p.samples; source = p.source.now }

-- what the answer says, with its plan as what the plan says
abbrev pub test_answer_view : Result TestPlan TestFault → Result TestView TestFault
test_answer_view (Ok p) = Ok (test_view p)
test_answer_view (Err e) = Err e

-- the plan of this name and this setting, if there are both
abbrev pub test_plan_with_entries : Found → Option (List ℕ) → Option (Result Parameters SettingFault) → Result TestView TestFault
test_plan_with_entries f (Some source) (Some (Ok setting)) =
    Ok (record { setting = setting; samples = samples_in f; source = source })
test_plan_with_entries f (Some source) (Some (Err e)) = Err (fault.Setting e)
test_plan_with_entries f source setting = Err fault.Unreadable

-- the plan that the entries give, or the first reason to refuse them
abbrev pub test_plan_in : Found → Result TestView TestFault
test_plan_in f =
    if is_some (first_value f (codes "dest")) then Err fault.WithDest
    else test_plan_with_entries f (first_value f (codes "source")) (setting_in f)
