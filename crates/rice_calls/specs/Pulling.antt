-- What the calls that decode piece by piece do with their caller's memory.
use Rattle.std.specs.Prelude.{◌≡◌, ℕ, ◌*◌, ◌/◌, ◌%◌, ◌≤◌, Bool, true, List, [], length, ℤ}
use Rattle.rice_bits.specs.Limits.{most_bits_read}
use Rattle.rice_samples.specs.{Limits.most_samples_counted, Parameters.Parameters, Parameters.width}
use Rattle.rice_stream.specs.{Pulling.Origin, Pulling.IsStand, Pulling.DecodesMore, declared.outcome.Report.Report, declared.stand.Pause.Pause, declared.stand.Stand.Stand}
use Rattle.rice_calls.specs.{declared.pulling.RiceDrain.RiceDrain, declared.report.RiceReport.RiceReport, declared.setting.RiceSetting.RiceSetting, declared.status.Status.TheVariants.Done}
use Rattle.rice_calls.specs.{Reports.report_of, Statuses.status_number, Statuses.pause_status, Statuses.pause_place}

-- a place where an interval can begin: on a byte, where intervals are padded
pub record CanBegin (s : Parameters) (samples bits : ℕ) : Type 0 where
  pub few : samples ≤ most_samples_counted
  pub limit : bits ≤ most_bits_read
  pub padded : s.pad ≡ true → bits % 8 ≡ 0

-- a drain that has given nothing
pub record OpensDrain (s : Parameters) (o : Origin) (setting : RiceSetting) (drain : RiceDrain) (status : ℕ) : Type 0 where
  pub done : status ≡ status_number Done
  pub setting_is : drain.setting ≡ setting
  pub none : IsStand s o drain.stand [] []

-- what is counted where decoding stands
abbrev pub report_of_stand : Stand → Report
report_of_stand stand = record { samples = stand.samples; bits = stand.bits; steps = stand.steps }

-- A call that decodes a piece after these bits and samples. Its report counts all of the code so far.
pub record PullsInto (s : Parameters) (o : Origin) (front : List Bool) (given : List ℤ) (piece old new : List ℕ) (drain_old drain_new : RiceDrain) (r : RiceReport) (status : ℕ) : Type 0 where
  pub pause : Pause
  pub decodes : DecodesMore s o front given piece drain_old.stand old new drain_new.stand pause
  pub setting_is : drain_new.setting ≡ drain_old.setting
  pub status_is : status ≡ status_number (pause_status pause)
  pub counts : report_of r ≡ report_of_stand drain_new.stand
  pub written : r.written ≡ width s * length decodes.samples
  pub place : r.place ≡ pause_place pause (drain_new.stand.samples / s.block)
