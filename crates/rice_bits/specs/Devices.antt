-- What contracts see of each device: those over memory that work in pieces, those over slices, and those over readers and writers.
use Rattle.std.specs.Prelude.{ℕ, ◌-◌, min, length, List, take, drop, Option, None, Some}
use Rattle.std.specs.{declared.io.buffered.BufWriter.BufWriter, Global.Global}
use Rattle.rice_bits.specs.declared.device.{memory.MemoryOut.MemoryOut, memory.MemoryIn.MemoryIn, memory.ZeroIn.ZeroIn, slice.SliceOut.SliceOut, slice.SliceIn.SliceIn}
use Rattle.rice_bits.specs.declared.device.{over_std.FromReader.FromReader, over_std.FromWriter.FromWriter, over_buf_writer.FromBufWriter.FromBufWriter}
use Rattle.rice_bits.specs.OutletRoom.{Room}

-- n, or the limit where there is a smaller one
abbrev pub limited_to : Option ℕ → ℕ → ℕ
limited_to None n = n
limited_to (Some limit) n = min limit n

-- what is left of a limit after n
abbrev pub limit_after : Option ℕ → ℕ → Option ℕ
limit_after None n = None
limit_after (Some limit) n = Some (limit - n)

-- the bytes that are still to come
abbrev pub memory_left : MemoryIn → List ℕ
memory_left s = s.rest.now

-- the most bytes that a call gives
abbrev pub memory_in_piece : MemoryIn → ℕ
memory_in_piece s = s.piece

-- how many bytes come before the place where the intake fails, if there is one
abbrev pub memory_before_failure : MemoryIn → Option ℕ
memory_before_failure s = s.before_failure

-- how many bytes a call gives for a buffer of n bytes
abbrev pub memory_gives : MemoryIn → ℕ → ℕ
memory_gives s n = limited_to (memory_before_failure s) (min (min n (length (memory_left s))) (memory_in_piece s))

abbrev pub memory_in_failures : MemoryIn → ℕ
memory_in_failures s = s.failures

-- the bytes taken so far
abbrev pub memory_taken : MemoryOut → List ℕ
memory_taken s = take s.at s.room.now

-- the room that the outlet fills, with the bytes taken so far in front
abbrev pub memory_state : MemoryOut → Room
memory_state s = record { borrow = s.room.ghost_name; bytes = take s.at s.room.now; rest = drop s.at s.room.now }

-- the most bytes that a call takes
abbrev pub memory_out_piece : MemoryOut → ℕ
memory_out_piece s = s.piece

-- how many bytes more are taken before the outlet fails
abbrev pub memory_room : MemoryOut → ℕ
memory_room s = s.end - s.at

-- how many of n bytes a call takes
abbrev pub memory_takes : MemoryOut → ℕ → ℕ
memory_takes s n = min (min n (memory_room s)) (memory_out_piece s)

abbrev pub memory_out_failures : MemoryOut → ℕ
memory_out_failures s = s.failures

-- how many zero bytes are still to come
abbrev pub zeros_left : ZeroIn → ℕ
zeros_left s = s.rest

-- the bytes of a slice that are still to come
abbrev pub slice_left : SliceIn → List ℕ
slice_left s = s.rest.now

-- the room that an outlet over a slice fills, with the bytes taken so far in front
abbrev pub slice_state : SliceOut → Room
slice_state s = record { borrow = s.room.ghost_name; bytes = take s.at s.room.now; rest = drop s.at s.room.now }

abbrev pub slice_failures : SliceOut → ℕ
slice_failures s = s.failures

-- the reader that an intake is over
abbrev pub reader_of : {R : Type 0} → FromReader R → R
reader_of s = s.reader

abbrev pub reader_failures : {R : Type 0} → FromReader R → ℕ
reader_failures s = s.failures

-- the writer that an outlet is over
abbrev pub writer_of : {W : Type 0} → FromWriter W → W
writer_of s = s.writer

abbrev pub writer_failures : {W : Type 0} → FromWriter W → ℕ
writer_failures s = s.failures

-- the buffer that an outlet is over
abbrev pub buffered_writer : {W : Type 0} → FromBufWriter W → BufWriter W Global
buffered_writer s = s.writer

abbrev pub buffered_failures : {W : Type 0} → FromBufWriter W → ℕ
buffered_failures s = s.failures
