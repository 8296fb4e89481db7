-- Words of whole bytes, in bytes that stand one after another.
use Rattle.std.specs.Prelude.{◌≡◌, ℕ, zero, suc, ◌*◌, ◌^◌, ◌<◌, Bool, List, [], ◌++◌, length, take, drop, reverse, replicate, All, flat_map, if◌then◌else◌}
use Rattle.rice_bits.specs.Bits.{word}
use Rattle.rice_samples.specs.Spelling.{ordered_bytes}

-- the bytes of a word in the opposite order, or as they are
abbrev pub in_order : Bool → List ℕ → List ℕ
in_order turned bytes = if turned then reverse bytes else bytes

-- the bytes of the first `count` words of `width` bytes each in that order, each word with `more` zeros after it
abbrev pub words_in_order : Bool → (width more count : ℕ) → List ℕ → List ℕ
words_in_order turned width more zero bytes = []
words_in_order turned width more (suc count) bytes =
    in_order turned (take width bytes) ++ (replicate more 0 ++ words_in_order turned width more count (drop width bytes))

-- Bytes are those of words of `width` bytes, each with its most significant byte first, and `ordered` are the bytes of the same words
-- in the given order.
pub record OrdersWords (msb : Bool) (width : ℕ) (bytes ordered : List ℕ) : Type 0 where
  pub words : List ℕ
  pub count : width * length words ≡ length bytes
  pub fit : All (λ v. v < 2 ^ (8 * width)) words
  pub bits : flat_map (word (8 * width)) words ≡ flat_map (word 8) bytes
  pub ordered_are : ordered ≡ flat_map (ordered_bytes msb width) words
