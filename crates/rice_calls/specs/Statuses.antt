-- The status of a call, and its number.
use Rattle.std.specs.Prelude.{ℕ, Option, Some, None, Result, Ok, Err}
use Rattle.rice_samples.specs.{Parameters.Parameters, declared.setting.SettingFault.SettingFault}
use Rattle.rice_samples.specs.declared.setting.SettingFault.TheVariants as settings
use Rattle.rice_stream.specs.declared.outcome.Fault.{Fault}
use Rattle.rice_stream.specs.declared.outcome.Fault.TheVariants as faults
use Rattle.rice_stream.specs.declared.stand.Pause.{Pause}
use Rattle.rice_stream.specs.declared.stand.Pause.TheVariants as pauses
use Rattle.rice_calls.specs.declared.status.Status.TheVariants.{Done, BadBits, BadBlock, BadInterval, SampleOutOfRange, InputCut, CodeEnds, RunPastSegment, ResidualTooLarge, NoRoom, TooLong}
use Rattle.rice_calls.specs.declared.status.Status.TheVariants.{OnlyZeros, MoreCode, BadPlace}
use Rattle.rice_calls.specs.{AskedSetting.setting_asked, declared.setting.RiceSetting.RiceSetting, declared.status.Status.Status}

-- the number that C sees
abbrev pub status_number : Status → ℕ
status_number Done = 0
status_number BadBits = 1
status_number BadBlock = 2
status_number BadInterval = 3
status_number SampleOutOfRange = 4
status_number InputCut = 5
status_number CodeEnds = 6
status_number RunPastSegment = 7
status_number ResidualTooLarge = 8
status_number NoRoom = 9
status_number TooLong = 10
status_number OnlyZeros = 11
status_number MoreCode = 12
status_number BadPlace = 13

-- the status of a setting that is refused
abbrev pub refusal_status : SettingFault → Status
refusal_status settings.BadBits = BadBits
refusal_status settings.BadBlock = BadBlock
refusal_status settings.BadAnyBlock = BadBlock
refusal_status settings.BadInterval = BadInterval

abbrev pub result_status : Result Parameters SettingFault → Status
result_status (Ok s) = Done
result_status (Err fault) = refusal_status fault

-- the status of a setting
abbrev pub check_of : RiceSetting → Status
check_of s = result_status (setting_asked s)

-- the status of a call that stopped with this fault, or with none; memory is read without faults
abbrev pub fault_status : Option Fault → Status
fault_status None = Done
fault_status (Some faults.Read) = Done
fault_status (Some faults.Write) = NoRoom
fault_status (Some faults.TooLong) = TooLong
fault_status (Some (faults.SampleOutOfRange index)) = SampleOutOfRange
fault_status (Some (faults.SampleCut index)) = InputCut
fault_status (Some (faults.CodeEnds samples)) = CodeEnds
fault_status (Some (faults.RunPastSegment block)) = RunPastSegment
fault_status (Some (faults.ResidualTooLarge block)) = ResidualTooLarge

-- the number that a fault names
abbrev pub fault_place : Option Fault → ℕ
fault_place (Some (faults.SampleOutOfRange index)) = index
fault_place (Some (faults.SampleCut index)) = index
fault_place (Some (faults.CodeEnds samples)) = samples
fault_place (Some (faults.RunPastSegment block)) = block
fault_place (Some (faults.ResidualTooLarge block)) = block
fault_place _ = 0

-- the status of a pull that pauses so
abbrev pub pause_status : Pause → Status
pause_status pauses.Full = NoRoom
pause_status pauses.Blank = OnlyZeros
pause_status pauses.Cut = MoreCode
pause_status pauses.RunPastSegment = RunPastSegment
pause_status pauses.ResidualTooLarge = ResidualTooLarge
pause_status pauses.TooLong = TooLong

-- the number that it names, where `block` blocks were given
abbrev pub pause_place : Pause → ℕ → ℕ
pause_place pauses.RunPastSegment block = block
pause_place pauses.ResidualTooLarge block = block
pause_place _ block = 0
