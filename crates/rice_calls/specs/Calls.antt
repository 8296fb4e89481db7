-- What a call does with its caller's memory.
use Rattle.std.specs.Prelude.{◌≡◌, ◌≢◌, ℕ, ◌≤◌, List, ◌++◌, length, drop, Option, Some}
use Rattle.std.specs.Io.KnownBytes.{Consumes}
use Rattle.rice_samples.specs.{Parameters.Parameters, declared.setting.SettingFault.SettingFault}
use Rattle.rice_stream.specs.declared.outcome.Fault.TheVariants.{Read, Write}
use Rattle.rice_stream.specs.{DevicesInCalls.Call, Encodes.Encodes, Encodes.EncodesWithin, Decodes.Decodes, Decodes.DecodesWithin, declared.outcome.Fault.Fault}
use Rattle.rice_calls.specs.Statuses.{status_number, refusal_status, fault_status, fault_place}
use Rattle.rice_calls.specs.{declared.report.RiceReport.RiceReport, Reports.report_of, Reports.empty_report}

-- These bytes stand at the front of a memory, and those after them are as they were.
abbrev pub StandsInFront : List ℕ → List ℕ → List ℕ → Type 0
StandsInFront bytes old new = new ≡ bytes ++ drop (length bytes) old

-- A call took its bytes from `input`.
pub record TakesInput (input : List ℕ) (c : Call) : Type 0 where
  pub left : List ℕ
  pub gave : Consumes (Some input) (Some left) c.given
  pub left_is : c.left ≡ Some left

-- These bytes were written at the front of a memory, by a call that stopped with this fault, or with none.
pub record WritesFront (bytes old new : List ℕ) (fault : Option Fault) : Type 0 where
  pub front : StandsInFront bytes old new
  pub fits : length bytes ≤ length old
  -- memory is read without faults, and a write fails only where the output is full
  pub reads : fault ≢ Some Read
  pub full : fault ≡ Some Write → length bytes ≡ length old

-- The status and the report tell it.
pub record ReportsCall (bytes : List ℕ) (fault : Option Fault) (r : RiceReport) (number : ℕ) : Type 0 where
  pub status : number ≡ status_number (fault_status fault)
  pub written : r.written ≡ length bytes
  pub place : r.place ≡ fault_place fault

-- a call that encodes
pub record EncodesInto (s : Parameters) (samples old new : List ℕ) (r : RiceReport) (status : ℕ) : Type 0 where
  pub call : Call
  pub fault : Option Fault
  pub takes : TakesInput samples call
  pub encodes : Encodes s call (report_of r) fault
  pub within : EncodesWithin s (report_of r)
  pub writes : WritesFront call.written old new fault
  pub tells : ReportsCall call.written fault r status

-- a call that decodes
pub record DecodesInto (s : Parameters) (asked : Option ℕ) (code old new : List ℕ) (r : RiceReport) (status : ℕ) : Type 0 where
  pub call : Call
  pub fault : Option Fault
  pub takes : TakesInput code call
  pub decodes : Decodes s asked call (report_of r) fault
  pub within : DecodesWithin asked (report_of r)
  pub writes : WritesFront call.written old new fault
  pub tells : ReportsCall call.written fault r status

-- a call that refuses its setting
pub record RefusesSetting (fault : SettingFault) (old new : List ℕ) (r : RiceReport) (number : ℕ) : Type 0 where
  pub status : number ≡ status_number (refusal_status fault)
  pub untouched : new ≡ old
  pub report : r ≡ empty_report
