-- What each call does, whatever becomes of its setting. The first argument of each is what the setting asks for, or why it is refused.
use Rattle.std.specs.Prelude.{◌≡◌, ◌≢◌, ℕ, ◌*◌, ◌/◌, ◌<◌, ◌≤◌, Bool, List, length, Some, None, Result, IfOk, IfErr, ℤ}
use Rattle.rice_samples.specs.{Limits.most_input, Parameters.Parameters, Parameters.width, UnusedBits.SpellsPatterns, declared.setting.SettingFault.SettingFault}
use Rattle.rice_code.specs.Bounds.{step_bound}
use Rattle.rice_stream.specs.{Feeding.IsSeam, Feeding.IsSomeSeam, Pulling.Origin, Pulling.IsStand, Pulling.IsSomeStand, Pulling.at_front}
use Rattle.rice_calls.specs.declared.status.Status.TheVariants.{Done, NoRoom, BadPlace}
use Rattle.rice_calls.specs.{AskedSetting.setting_asked, Calls.EncodesInto, Calls.DecodesInto, Calls.RefusesSetting, Feeding.Begins, Feeding.PushesInto, Feeding.FinishesInto, Pulling.CanBegin}
use Rattle.rice_calls.specs.{Pulling.OpensDrain, Pulling.PullsInto, Statuses.status_number, Statuses.refusal_status, SufficientRoom.code_room, SufficientRoom.push_room, SufficientRoom.set_room}
use Rattle.rice_calls.specs.{declared.feeding.RiceFeed.RiceFeed, declared.pulling.RiceDrain.RiceDrain, declared.report.RiceReport.RiceReport, declared.setting.RiceSetting.RiceSetting}

abbrev pub Asked : Type 0
Asked = Result Parameters SettingFault

-- a feed that these calls have left
abbrev pub IsFeed : RiceFeed → Type 0
IsFeed feed = IfOk (setting_asked feed.setting) (λ s. IsSomeSeam s feed.seam)

-- a drain that these calls have left
abbrev pub IsDrain : RiceDrain → Type 0
IsDrain drain = IfOk (setting_asked drain.setting) (λ s. IsSomeStand s drain.stand)

pub record TellsWidth (asked : Asked) (answer : ℕ) : Type 0 where
  pub ok : IfOk asked (λ s. answer ≡ width s)
  pub refused : IfErr asked (λ fault. answer ≡ 0)

pub record TellsCodeRoom (asked : Asked) (samples answer : ℕ) : Type 0 where
  pub ok : IfOk asked (λ s. samples ≤ most_input → answer ≡ code_room s samples)
  pub many : most_input < samples → answer ≡ 0
  pub refused : IfErr asked (λ fault. answer ≡ 0)

pub record TellsSetRoom (asked : Asked) (answer : ℕ) : Type 0 where
  pub ok : IfOk asked (λ s. answer ≡ set_room s)
  pub refused : IfErr asked (λ fault. answer ≡ 0)

pub record TellsStepBound (asked : Asked) (samples answer : ℕ) : Type 0 where
  pub ok : IfOk asked (λ s. samples ≤ most_input → answer ≡ step_bound s samples)
  pub many : most_input < samples → answer ≡ 0
  pub refused : IfErr asked (λ fault. answer ≡ 0)

pub record TellsPushRoom (asked : Asked) (feed : RiceFeed) (samples answer : ℕ) : Type 0 where
  pub ok : IfOk asked (λ s. samples ≤ most_input → answer ≡ push_room s feed.seam.waiting_bits samples)
  pub many : most_input < samples → answer ≡ 0
  pub refused : IfErr asked (λ fault. answer ≡ 0)

pub record SpellsAsAsked (asked : Asked) (old new : List ℕ) (status : ℕ) : Type 0 where
  pub ok : IfOk asked (λ s. SpellsPatterns s old new × (status ≡ status_number Done))
  pub refused : IfErr asked (λ fault. (status ≡ status_number (refusal_status fault)) × (new ≡ old))

-- With as much room as the samples can take it does not want for it.
pub record EncodesAsAsked (asked : Asked) (samples old new : List ℕ) (r : RiceReport) (status : ℕ) : Type 0 where
  pub ok : IfOk asked (λ s. EncodesInto s samples old new r status)
  pub refused : IfErr asked (λ fault. RefusesSetting fault old new r status)
  pub room : IfOk asked (λ s. code_room s (length samples / width s) ≤ length old → status ≢ status_number NoRoom)

-- With room for the bytes of so many samples it does not want for it.
pub record DecodesAsAsked (asked : Asked) (count : ℕ) (code old new : List ℕ) (r : RiceReport) (status : ℕ) : Type 0 where
  pub ok : IfOk asked (λ s. DecodesInto s (Some count) code old new r status)
  pub refused : IfErr asked (λ fault. RefusesSetting fault old new r status)
  pub room : IfOk asked (λ s. count * width s ≤ length old → status ≢ status_number NoRoom)

pub record DecodesAllAsAsked (asked : Asked) (code old new : List ℕ) (r : RiceReport) (status : ℕ) : Type 0 where
  pub ok : IfOk asked (λ s. DecodesInto s None code old new r status)
  pub refused : IfErr asked (λ fault. RefusesSetting fault old new r status)

pub record BeginsAsAsked (asked : Asked) (setting : RiceSetting) (feed_old feed_new : RiceFeed) (status : ℕ) : Type 0 where
  pub ok : IfOk asked (λ s. Begins s setting feed_new status)
  pub refused : IfErr asked (λ fault. (status ≡ status_number (refusal_status fault)) × (feed_new ≡ feed_old))

-- With as much room as the samples of the piece can take, and the bits that are buffered, it does not want for it.
pub record PushesAsAsked (asked : Asked) (samples old new : List ℕ) (feed_old feed_new : RiceFeed) (r : RiceReport) (status : ℕ) : Type 0 where
  pub ok : IfOk asked (λ s. (xs : List ℤ) → IsSeam s feed_old.seam xs → PushesInto s xs samples old new feed_old feed_new r status)
  pub room : IfOk asked (λ s. push_room s feed_old.seam.waiting_bits (length samples / width s) ≤ length old → status ≢ status_number NoRoom)
  pub refused : IfErr asked (λ fault. RefusesSetting fault old new r status × (feed_new ≡ feed_old))

pub record FinishesAsAsked (asked : Asked) (feed : RiceFeed) (samples old new : List ℕ) (r : RiceReport) (status : ℕ) : Type 0 where
  pub ok : IfOk asked (λ s. (xs : List ℤ) → IsSeam s feed.seam xs → FinishesInto s xs samples old new r status)
  pub room : IfOk asked (λ s. push_room s feed.seam.waiting_bits (length samples / width s) ≤ length old → status ≢ status_number NoRoom)
  pub refused : IfErr asked (λ fault. RefusesSetting fault old new r status)

pub record OpensAsAsked (asked : Asked) (setting : RiceSetting) (drain_old drain_new : RiceDrain) (status : ℕ) : Type 0 where
  pub ok : IfOk asked (λ s. OpensDrain s at_front setting drain_new status)
  pub refused : IfErr asked (λ fault. (status ≡ status_number (refusal_status fault)) × (drain_new ≡ drain_old))

pub record OpensAtAsAsked (asked : Asked) (samples bits : ℕ) (setting : RiceSetting) (drain_old drain_new : RiceDrain) (status : ℕ) : Type 0 where
  pub ok : IfOk asked (λ s. CanBegin s samples bits → OpensDrain s (record { bits = bits; samples = samples }) setting drain_new status)
  pub never : IfOk asked (λ s. (CanBegin s samples bits → ⊥) → (status ≡ status_number BadPlace) × (drain_new ≡ drain_old))
  pub refused : IfErr asked (λ fault. (status ≡ status_number (refusal_status fault)) × (drain_new ≡ drain_old))

pub record PullsAsAsked (asked : Asked) (code old new : List ℕ) (drain_old drain_new : RiceDrain) (r : RiceReport) (status : ℕ) : Type 0 where
  pub ok : IfOk asked (λ s. (o : Origin) (front : List Bool) (given : List ℤ) → IsStand s o drain_old.stand front given →
      PullsInto s o front given code old new drain_old drain_new r status)
  pub refused : IfErr asked (λ fault. RefusesSetting fault old new r status × (drain_new ≡ drain_old))
