-- What the calls that feed a coder do with their caller's memory.
use Rattle.std.specs.Prelude.{◌≡◌, ℕ, List, [], Option, Some, None, Result, Ok, Err, ℤ}
use Rattle.rice_bits.specs.OutletRoom.{Room, begun}
use Rattle.rice_samples.specs.Parameters.{Parameters}
use Rattle.rice_stream.specs.{Encodes.EncodesWithin, Feeding.IsSeam, Feeding.EncodesMore, Feeding.EncodesRest, declared.outcome.Fault.Fault, declared.outcome.Report.Report, declared.seam.Seam.Seam}
use Rattle.rice_calls.specs.{declared.feeding.RiceFeed.RiceFeed, declared.report.RiceReport.RiceReport, declared.setting.RiceSetting.RiceSetting, declared.status.Status.TheVariants.Done}
use Rattle.rice_calls.specs.{Calls.WritesFront, Calls.ReportsCall, Reports.report_of, Statuses.status_number}

-- what is counted at a seam
abbrev pub report_of_seam : Seam → Report
report_of_seam seam = record { samples = seam.samples; bits = seam.bits; steps = seam.steps }

-- a feed that has taken nothing
pub record Begins (s : Parameters) (setting : RiceSetting) (feed : RiceFeed) (status : ℕ) : Type 0 where
  pub done : status ≡ status_number Done
  pub setting_is : feed.setting ≡ setting
  pub none : IsSeam s feed.seam []

abbrev pub fault_of : Result Seam Fault → Option Fault
fault_of (Ok seam) = None
fault_of (Err fault) = Some fault

-- the feed goes on only where all was done
abbrev pub fed : RiceFeed → Result Seam Fault → RiceFeed
fed feed (Ok seam) = record { setting = feed.setting; seam = seam }
fed feed (Err fault) = feed

-- A call that encodes more samples after the samples xs. Its report counts all samples of the feed.
pub record PushesInto (s : Parameters) (xs : List ℤ) (input old new : List ℕ) (feed_old feed_new : RiceFeed) (r : RiceReport) (status : ℕ) : Type 0 where
  pub outcome : Result Seam Fault
  pub name : ℕ
  pub room : Room
  pub encodes : EncodesMore s xs input (Some (begun name old)) (Some room) outcome
  pub feeds : feed_new ≡ fed feed_old outcome
  pub counts : report_of r ≡ report_of_seam feed_new.seam
  pub writes : WritesFront room.bytes old new (fault_of outcome)
  pub tells : ReportsCall room.bytes (fault_of outcome) r status

-- a call that encodes the last samples
pub record FinishesInto (s : Parameters) (xs : List ℤ) (input old new : List ℕ) (r : RiceReport) (status : ℕ) : Type 0 where
  pub fault : Option Fault
  pub name : ℕ
  pub room : Room
  pub encodes : EncodesRest s xs input (Some (begun name old)) (Some room) (report_of r) fault
  pub within : EncodesWithin s (report_of r)
  pub writes : WritesFront room.bytes old new fault
  pub tells : ReportsCall room.bytes fault r status
