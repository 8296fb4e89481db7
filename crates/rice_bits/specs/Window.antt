-- The bits that were given and not yet taken, and where a reader shows them in bytes.
use Rattle.std.specs.Prelude.{◌≡◌, ◌+◌, ◌-◌, ◌*◌, ◌/◌, ◌%◌, ◌^◌, ◌<◌, ◌≤◌, ℕ, Bool, List, ◌++◌, length, drop, min, replicate, take, slice_range}
use Rattle.rice_bits.specs.{Limits.most_bytes_read, Limits.most_at_once, declared.read.window.Window.Window, Bits.bits_of}

-- the bits of the most bytes that are asked for at a time
abbrev pub most_buffered : ℕ
most_buffered = 8 * most_at_once

-- how many bits can be looked at after the buffered ones
abbrev pub most_ahead : ℕ
most_ahead = 320

-- the bytes of a window's buffer: those that are asked for, those of as many bits, and eight, so that eight can be loaded from each byte on
abbrev pub buffer_len : ℕ
buffer_len = most_at_once + most_ahead / 8 + 8

-- the bits of the bytes from `at` to `end`
unfoldable pub window_bits : Window → List Bool
window_bits w = slice_range (bits_of w.buffer) w.at w.end

-- the bits that were taken since the mark, or since the bytes were given
unfoldable pub window_passed : Window → List Bool
window_passed w = slice_range (bits_of w.buffer) w.marked w.at

-- how many bits were given and are not buffered
abbrev pub window_taken : Window → ℕ
window_taken w = 8 * w.given - (w.end - w.at)

-- how many of the bits that are buffered are in the eight bytes that the next of them is in
abbrev pub bits_near : Window → ℕ
bits_near w = min (64 - w.at % 8) (length (window_bits w))

pub record IsWindow (w : Window) : Type 0 where
  pub size : length w.buffer ≡ buffer_len
  pub marked : w.marked ≤ w.at
  pub ordered : w.at ≤ w.end
  pub fits : w.end ≤ most_buffered
  pub whole : w.end % 8 ≡ 0
  pub held : w.end - w.at ≤ 8 * w.given
  pub limit : w.given ≤ most_bytes_read
  -- eight zeros follow the bytes
  pub after : take 8 (drop (w.end / 8) w.buffer) ≡ replicate 8 0

-- Bits were taken from the front of those that are buffered.
pub record Passes (old new : Window) (bits : List Bool) : Type 0 where
  pub split : window_bits old ≡ bits ++ window_bits new
  pub passed : window_passed new ≡ window_passed old ++ bits
  pub taken : window_taken new ≡ window_taken old + length bits

-- From bit `at` on, the bytes have these bits, and at least eight bytes more after them.
pub record AreBitsFrom (bytes : List ℕ) (at : ℕ) (bits : List Bool) : Type 0 where
  pub begin : take (length bits) (drop at (bits_of bytes)) ≡ bits
  pub room : at + length bits + 64 ≤ 8 * length bytes
  pub small : at < 2 ^ 32

-- the bits of the bytes from bit `at` on, but for the last 64
unfoldable pub bits_ahead : List ℕ → ℕ → List Bool
bits_ahead bytes at = take (8 * length bytes - 64 - at) (drop at (bits_of bytes))
