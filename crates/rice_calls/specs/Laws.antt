-- What joins the calls that encode and decode.
use Rattle.std.specs.Prelude.{◌≡◌, ◌≢◌, ◌⊎◌, ℕ, ◌+◌, ◌*◌, ◌/◌, ◌<◌, ◌≤◌, Bool, List, [], ◌∷◌, ◌++◌, length, take, drop, sum_by, Some, None, ℤ, ⊤}
use Rattle.rice_samples.specs.{Parameters.Parameters, Parameters.IsLegal, Parameters.width, Spelling.spellings}
use Rattle.rice_stream.specs.{Feeding.IsSeam, Laws.IsPlace, Laws.place_at, Laws.place_after, Pulling.Origin, Pulling.IsStand, declared.seam.Seam.Seam}
use Rattle.rice_code.specs.code.Code.{output}
use Rattle.rice_calls.specs.declared.status.Status.TheVariants.{Done, NoRoom, CodeEnds, RunPastSegment, ResidualTooLarge, OnlyZeros, MoreCode}
use Rattle.rice_calls.specs.{declared.pulling.RiceDrain.RiceDrain, declared.feeding.RiceFeed.RiceFeed, declared.report.RiceReport.RiceReport, declared.setting.RiceSetting.RiceSetting}
use Rattle.rice_calls.specs.{declared.status.Status.Status, Calls.EncodesInto, Calls.DecodesInto, Calls.StandsInFront, Pulling.OpensDrain, Pulling.PullsInto, Feeding.Begins, Feeding.PushesInto}
use Rattle.rice_calls.specs.{Feeding.FinishesInto, SufficientRoom.code_room, SufficientRoom.push_room, Statuses.status_number}

-- A call that decodes is given what a call that encoded all has written, the number of its samples, and room for their bytes.
-- Then it writes these bytes, and all is done.
abbrev pub ReturnsBytes : Type 0
ReturnsBytes = (s : Parameters) → IsLegal s → (samples code_old code old new : List ℕ) (encoded decoded : RiceReport) (status : ℕ) →
    EncodesInto s samples code_old code encoded (status_number Done) → DecodesInto s (Some encoded.samples) (take encoded.written code) old new decoded status → length samples ≤ length old →
    (status ≡ status_number Done) × StandsInFront samples old new

-- Without the number of samples it writes these bytes and those of fewer than a segment of samples more, and all is done, or there is no
-- room for them.
abbrev pub ReturnsBytesAndFill : Type 0
ReturnsBytesAndFill = (s : Parameters) → IsLegal s → (samples code_old code old new : List ℕ) (encoded decoded : RiceReport) (status : ℕ) →
    EncodesInto s samples code_old code encoded (status_number Done) → DecodesInto s None (take encoded.written code) old new decoded status →
    ((status ≡ status_number Done) × (fill : List ℤ) × (length fill < 64 * s.block) × StandsInFront (samples ++ spellings s fill) old new) ⊎ (status ≡ status_number NoRoom)

-- With room for as much as the samples can take a call does not want for it.
abbrev pub RoomSuffices : Type 0
RoomSuffices = (s : Parameters) → IsLegal s → (input old new : List ℕ) (r : RiceReport) (status : ℕ) →
    (EncodesInto s input old new r status → code_room s (length input / width s) ≤ length old → status ≢ status_number NoRoom)
    × ((count : ℕ) → DecodesInto s (Some count) input old new r status → count * width s ≤ length old → status ≢ status_number NoRoom)

-- So it is with as much as the samples of a piece can take, and the bits that fill no byte.
abbrev pub PushRoomSuffices : Type 0
PushRoomSuffices = (s : Parameters) → IsLegal s → (xs : List ℤ) (input old new : List ℕ) (r : RiceReport) (status : ℕ) →
    ((feed_old feed_new : RiceFeed) → IsSeam s feed_old.seam xs → PushesInto s xs input old new feed_old feed_new r status →
    push_room s feed_old.seam.waiting_bits (length input / width s) ≤ length old → status ≢ status_number NoRoom)
    × ((seam : Seam) → IsSeam s seam xs → FinishesInto s xs input old new r status →
    push_room s seam.waiting_bits (length input / width s) ≤ length old → status ≢ status_number NoRoom)

-- A piece of a code that was pulled: its bytes, the drain, the report and the status after it, and the caller's memory before and after.
pub record Pull : Type 0 where
  pub piece : List ℕ
  pub drain : RiceDrain
  pub report : RiceReport
  pub status : ℕ
  pub old : List ℕ
  pub new : List ℕ

-- What a call of `rice_pull` says of a piece that begins with byte `bits / 8` of the code.
abbrev pub IsPulled : Parameters → List ℕ → RiceDrain → Pull → List ℕ → Type 0
IsPulled s code drain p after =
    (drop (drain.stand.bits / 8) code ≡ p.piece ++ after) ×
    ((o : Origin) (front : List Bool) (given : List ℤ) → IsStand s o drain.stand front given → PullsInto s o front given p.piece p.old p.new drain p.drain p.report p.status)

-- Pieces of a code were pulled one after the other. Each ends anywhere, and has any room.
abbrev pub ArePulled : Parameters → List ℕ → RiceDrain → List Pull → Type 0
ArePulled s code drain [] = ⊤
ArePulled s code drain (p ∷ ps) = ((after : List ℕ) × IsPulled s code drain p after) × ArePulled s code p.drain ps

-- where the last of them ended
abbrev pub last_drain : RiceDrain → List Pull → RiceDrain
last_drain drain [] = drain
last_drain drain (p ∷ ps) = last_drain p.drain ps

-- The calls wrote these bytes to the front of the caller's memory, a part each, which the report counts, and no byte after them.
abbrev pub WriteInParts : List Pull → List ℕ → Type 0
WriteInParts [] bytes = bytes ≡ []
WriteInParts (p ∷ ps) bytes = (part : List ℕ) × (rest : List ℕ) × (bytes ≡ part ++ rest) × (p.report.written ≡ length part) × StandsInFront part p.old p.new × WriteInParts ps rest

-- how a call that decodes the whole code ends, where a pull of a piece that has these bytes after it ends so
abbrev pub EndsAll : Status → List ℕ → Status → Type 0
EndsAll OnlyZeros after ended = (after ≡ []) × (ended ≡ Done)
EndsAll MoreCode after ended = (after ≡ []) × (ended ≡ CodeEnds)
EndsAll RunPastSegment after ended = ended ≡ RunPastSegment
EndsAll ResidualTooLarge after ended = ended ≡ ResidualTooLarge
EndsAll _ after ended = ⊥

-- and the place that it tells: that of the pull, or, where the code is cut, the number of samples
abbrev pub place_all : Status → RiceReport → ℕ
place_all MoreCode r = r.samples
place_all _ r = r.place

-- Pieces of a code were pulled from its front, or from where one of its intervals begins, and the last of them to where it ends; and a call
-- decoded the whole code without a count, with room for the bytes of all samples. Then that call wrote the bytes of the samples before
-- the place and those of all pulls, one after the other, and ended as they did.
abbrev pub PullsAreDecoding : Type 0
PullsAreDecoding = (s : Parameters) (code : List ℕ) (o : Origin) (before : List ℤ) (setting : RiceSetting) (first : RiceDrain) (opened : ℕ) (pulls : List Pull) (last : Pull)
    (after old new : List ℕ) (report : RiceReport) (status : ℕ) (paused ended : Status) →
    IsPlace s code o before → OpensDrain s o setting first opened → ArePulled s code first pulls → IsPulled s code (last_drain first pulls) last after → last.status ≡ status_number paused
    → EndsAll paused after ended →
    DecodesInto s None code old new report status → width s * last.report.samples ≤ length old →
    (bytes : List ℕ) × WriteInParts (pulls ++ last ∷ []) bytes × StandsInFront (spellings s before ++ bytes) old new ×
    (status ≡ status_number ended) × (report.samples ≡ last.report.samples) × (report.place ≡ place_all paused last.report)

-- Pieces were pulled until there were n samples after the place, and no block more; and a call decoded the code with the count of these and
-- of the samples before the place, and with room for their bytes. Then that call wrote the bytes of the samples before the place and the
-- first n of the pulls', and all is done, with as many bits.
abbrev pub EnoughIsDecoding : Type 0
EnoughIsDecoding = (s : Parameters) (code : List ℕ) (o : Origin) (before : List ℤ) (setting : RiceSetting) (first : RiceDrain) (opened : ℕ) (pulls : List Pull) (n : ℕ) (old new : List ℕ)
    (report : RiceReport) (status : ℕ) →
    IsPlace s code o before → OpensDrain s o setting first opened → ArePulled s code first pulls →
    o.samples + n ≤ (last_drain first pulls).stand.samples → (last_drain first pulls).stand.samples < o.samples + n + s.block →
    DecodesInto s (Some (o.samples + n)) code old new report status → width s * (o.samples + n) ≤ length old →
    (bytes : List ℕ) × WriteInParts pulls bytes × StandsInFront (spellings s before ++ take (width s * n) bytes) old new ×
    (status ≡ status_number Done) × (report.samples ≡ o.samples + n) × (report.bits ≡ (last_drain first pulls).stand.bits)

-- Where pieces of a code were pulled up to the end of an interval, the drain tells the place at which the next begins.
abbrev pub DrainsTellPlaces : Type 0
DrainsTellPlaces = (s : Parameters) (code : List ℕ) (o : Origin) (before : List ℤ) (setting : RiceSetting) (first : RiceDrain) (opened : ℕ) (pulls : List Pull) →
    IsPlace s code o before → OpensDrain s o setting first opened → ArePulled s code first pulls → (last_drain first pulls).stand.block ≡ 0 → (last_drain first pulls).stand.run ≡ 0 →
    (xs : List ℤ) × WriteInParts pulls (spellings s xs) × IsPlace s code (place_at (last_drain first pulls).stand) (before ++ xs)

-- A piece of an input that was fed: its bytes, the feed, the report and the status after it, and the caller's memory before and after.
pub record Push : Type 0 where
  pub piece : List ℕ
  pub feed : RiceFeed
  pub report : RiceReport
  pub status : ℕ
  pub old : List ℕ
  pub new : List ℕ

-- Pieces of an input were fed one after the other, and all was done. Each begins after the samples that the feed before it counts, and ends
-- anywhere.
abbrev pub AreFed : Parameters → List ℕ → RiceFeed → List Push → Type 0
AreFed s input feed [] = ⊤
AreFed s input feed (p ∷ ps) =
    ((after : List ℕ) × (drop (width s * feed.seam.samples) input ≡ p.piece ++ after)) × (p.status ≡ status_number Done) ×
    ((xs : List ℤ) → IsSeam s feed.seam xs → PushesInto s xs p.piece p.old p.new feed p.feed p.report p.status) × AreFed s input p.feed ps

-- where the last of them ended
abbrev pub last_feed : RiceFeed → List Push → RiceFeed
last_feed feed [] = feed
last_feed feed (p ∷ ps) = last_feed p.feed ps

-- the number of bytes that all of them wrote
abbrev pub written_by : List Push → ℕ
written_by pushes = sum_by (λ p. p.report.written) pushes

-- Where pieces of an input were fed up to the end of an interval, the feed tells, with the number of bytes that all calls wrote, the place at
-- which the next begins in the code of all samples, whatever the others are.
abbrev pub FeedsTellPlaces : Type 0
FeedsTellPlaces = (s : Parameters) (input : List ℕ) (setting : RiceSetting) (first : RiceFeed) (begun : ℕ) (pushes : List Push) →
    Begins s setting first begun → AreFed s input first pushes → (last_feed first pushes).seam.start ≡ 0 →
    (xs : List ℤ) × (rest : List ℕ) × (input ≡ spellings s xs ++ rest) ×
    ((ys : List ℤ) → IsPlace s (output s (xs ++ ys)) (place_after (last_feed first pushes).seam (written_by pushes)) xs)
