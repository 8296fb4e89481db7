-- A decoder at work: how far it has come, what is written of its samples, and what the next block or the blocks of a run bring.
use Rattle.std.specs.Prelude.{◌≡◌, ℕ, ◌+◌, ◌*◌, ◌<◌, ◌≤◌, Bool, List, ◌++◌, length, replicate, All, Option, None, IfSome, ℤ, pos, zero, suc, [], ◌-◌, take, Result, Ok}
use Rattle.rice_bits.specs.{Limits.most_bits_read, Limits.step_limit, OutletRoom.Room, OutletRoom.Appends, Reader.Reader}
use Rattle.rice_code.specs.{Bounds.most_samples_of_bit, Decoder.Answers, Decoder.DecoderState, Decoder.GivesFromRun, Decoder.IsDecoderState, Decoder.RepeatsBlocks, Decoder.with_mark}
use Rattle.rice_code.specs.{ReadSets.AreCounted, code.Blocks.blocks_from, code.Blocks.zero_block, code.CodedDataSets.CodedDataSet, code.Decoded.AreTaken, code.Decoded.Decoded}
use Rattle.rice_code.specs.{code.Decoded.DecodedFrom, code.Decoded.Ending, code.Decoded.IsWanted, code.Decoded.cut_to, code.Forms.blocks_in_all, code.Layout.Lies, code.SoundBlocks.AreSoundBlocks}
use Rattle.rice_code.specs.{declared.decode.call_results.CodeFault.CodeFault, declared.decode.call_results.Step.Step, declared.decode.call_results.Step.TheVariants.Block}
use Rattle.rice_samples.specs.{Parameters.Parameters, Parameters.IsSample, Parameters.width, Spelling.spellings, Residuals.last_of}
use Rattle.rice_stream.specs.DevicesInCalls.{TakesPart}

-- The samples of `run` zero blocks from this block on, after sample p.
pub record AreOfRun (s : Parameters) (block : ℕ) (p : ℤ) (run : ℕ) (samples : List ℤ) : Type 0 where
  pub len : length samples ≡ s.block * run
  pub legal : All (IsSample s) samples
  pub blocks : blocks_from s block p run samples ≡ replicate run (zero_block s None)

-- What may follow `position` bits, whose coded data sets begin before block `begun` and say `blocks` blocks with these samples:
-- the samples of a run that is still to come, and bits that decode to `ys` after them.
pub record MayFollow (s : Parameters) (position begun blocks run : ℕ) (given : List ℤ) (wanted : Option ℕ) (more : List ℤ) (rest : List Bool) (ys : List ℤ) (ending : Ending) (used : ℕ) : Type 0 where
  pub begun_wanted : (i : ℕ) → i < begun → IsWanted s wanted i
  pub of_run : AreOfRun s blocks (last_of (pos 0) given) run more
  pub next : DecodedFrom s (blocks + run) position (last_of (pos 0) (given ++ more)) rest wanted ys ending used

-- The bits so far are coded data sets that begin before block `begun`. The samples of `blocks` blocks were given, and
-- `run` blocks of a run are still to come: whatever follows these bits, and however many samples are wanted, decoding gives these samples first, then those of the run, and then goes on.
pub record DecodedSoFar (s : Parameters) (front : List Bool) (begun blocks run : ℕ) (given : List ℤ) : Type 0 where
  pub len : length given ≡ s.block * blocks
  pub legal : All (IsSample s) given
  pub sound : AreSoundBlocks s blocks (replicate run (zero_block s None))
  pub goes_on : (wanted : Option ℕ) (more : List ℤ) (rest : List Bool) (ys : List ℤ) (ending : Ending) (used : ℕ) → MayFollow s (length front) begun blocks run given wanted more rest ys ending used →
      Decoded s (front ++ rest) wanted (cut_to s wanted 0 (given ++ more) ++ ys) ending (length front + used)

-- These bits are sound coded data sets with their padding, which have `blocks` blocks.
pub record HasSets (s : Parameters) (sets : List CodedDataSet) (front : List Bool) (blocks : ℕ) : Type 0 where
  pub lie : Lies s 0 0 sets front
  pub sound : AreTaken s None 0 sets
  pub end : length (blocks_in_all s 0 sets) ≡ blocks

-- The steps of a decoder that has taken `taken` bits and written `written` samples, with `in_run` samples of a run still to come.
pub record HasSteps (steps taken written in_run turns : ℕ) : Type 0 where
  pub count : steps ≡ taken + written + turns
  pub most : steps ≤ 2 * taken + written
  pub by_bits : written + in_run ≤ most_samples_of_bit * taken

-- bytes that follow one another again and again
abbrev pub repeated : ℕ → List ℕ → List ℕ
repeated zero xs = []
repeated (suc n) xs = xs ++ repeated n xs

-- A decoder went past blocks of a run, and their samples, `count` together, were written. All of them are wanted.
pub record WritesRun (s : Parameters) (asked : Option ℕ) (written : ℕ) (p q : DecoderState) (old new : Option Room) (count : ℕ) : Type 0 where
  pub blocks : ℕ
  pub some : 1 ≤ blocks
  pub count_is : count ≡ s.block * blocks
  pub wanted : IfSome asked (λ n. written + count ≤ n)
  pub passes : RepeatsBlocks blocks p q
  pub run : q.run + blocks ≡ p.run
  pub put : Appends old new (spellings s (replicate count p.before))

-- The outlet failed after `count` samples, those of whole blocks of a run, in the block after them. All of these are wanted.
pub record FailsInRun (s : Parameters) (asked : Option ℕ) (written : ℕ) (p : DecoderState) (old new : Option Room) (count : ℕ) : Type 0 where
  pub blocks : ℕ
  pub count_is : count ≡ s.block * blocks
  pub within : blocks < p.run
  pub wanted : IfSome asked (λ n. written + count + s.block ≤ n)
  -- the decoder before and after that block
  pub middle : DecoderState
  pub last : DecoderState
  pub passes : RepeatsBlocks blocks p middle
  pub next : RepeatsBlocks 1 middle last
  pub room : Option Room
  pub put : Appends old room (spellings s (replicate count p.before))
  pub part : TakesPart room new (spellings s (replicate s.block p.before))

-- what it answers inside a run and elsewhere
pub record Advances {I : Type 0} (old new : Reader I) (steps steps_new : ℕ) (p q : DecoderState) (samples : List ℤ) (answer : Result Step CodeFault) : Type 0 where
  pub in_run : p.stopped ≡ None → 0 < p.run → (answer ≡ Ok Block) × GivesFromRun p q samples × (new ≡ old) × (steps_new ≡ steps)
  pub reads : p.stopped ≡ None → p.run ≡ 0 → Answers (with_mark old) new steps steps_new p q samples answer

-- It answers, and where it gives a block, the bytes begin with the spellings of its samples.
pub record AnswersBytes {I : Type 0} (old new : Reader I) (steps steps_new : ℕ) (p q : DecoderState) (bytes : List ℕ) (answer : Result Step CodeFault) : Type 0 where
  pub samples : List ℤ
  pub advances : Advances old new steps steps_new p q samples answer
  pub spelled : answer ≡ Ok Block → take (width p.setting * length samples) bytes ≡ spellings p.setting samples
  pub setting : q.setting ≡ p.setting
  pub counted : AreCounted steps steps_new old.taken new.taken
  -- the samples that are given and those that are then pending are bounded by the bits
  pub by_bits : length samples + q.run * q.setting.block ≤ p.run * p.setting.block + most_samples_of_bit * (new.taken - old.taken)

-- A decoder at work: its reader, the steps so far, its state, and what an outlet has taken of its samples.
pub record AtWork (I : Type 0) : Type 0 where
  pub reader : Reader I
  pub steps : ℕ
  pub decoder : DecoderState
  pub taken : Option Room

abbrev pub at_work : {I : Type 0} → Reader I → ℕ → DecoderState → Option Room → AtWork I
at_work reader steps decoder taken = record { reader = reader; steps = steps; decoder = decoder; taken = taken }

-- A decoder of this setting can go on, and its steps stay below their limit, whatever it reads.
pub record IsReady {I : Type 0} (s : Parameters) (reader : Reader I) (steps : ℕ) (p : DecoderState) : Type 0 where
  pub setting : p.setting ≡ s
  pub stopped : p.stopped ≡ None
  pub going : reader.refusal ≡ None
  pub limit : reader.taken ≤ most_bits_read
  pub room : steps + 458 * (most_bits_read - reader.taken) + 64 < step_limit

-- It answered a block outside a run, all of which was written.
pub record WritesBlock {I : Type 0} (s : Parameters) (a b : AtWork I) : Type 0 where
  pub bytes : List ℕ
  pub steps : ℕ
  pub no_run : a.decoder.run ≡ 0
  pub answers : AnswersBytes a.reader b.reader a.steps steps a.decoder b.decoder bytes (Ok Block)
  pub state : IsDecoderState b.decoder.setting b.decoder.block b.decoder.before b.decoder.run b.decoder.stopped
  pub put : Appends a.taken b.taken (take (width s * s.block) bytes)
  pub ticked : b.steps ≡ steps + s.block

-- and so many, one after another
abbrev pub WritesEach : {I : Type 0} → ℕ → Parameters → AtWork I → AtWork I → Type 0
WritesEach zero s a b = b ≡ a
WritesEach {I} (suc n) s a b = (m : AtWork I) × WritesEach n s a m × WritesBlock s m b

-- It answered blocks with so many samples, at most `most`, and each was written before the next.
pub record WritesBlocks {I : Type 0} (s : Parameters) (most : ℕ) (a b : AtWork I) (count : ℕ) : Type 0 where
  pub blocks : ℕ
  pub count_is : count ≡ s.block * blocks
  pub within : count ≤ most
  pub each : WritesEach blocks s a b

-- The outlet failed in the block after these.
pub record FailsInBlocks {I : Type 0} (s : Parameters) (most : ℕ) (a b : AtWork I) (count : ℕ) : Type 0 where
  pub middle : AtWork I
  pub before : WritesBlocks s most a middle count
  pub bytes : List ℕ
  pub answers : AnswersBytes middle.reader b.reader middle.steps b.steps middle.decoder b.decoder bytes (Ok Block)
  pub wanted : count + s.block ≤ most
  pub part : TakesPart middle.taken b.taken (take (width s * s.block) bytes)
