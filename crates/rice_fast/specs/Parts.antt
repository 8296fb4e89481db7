-- The high and the low parts of residuals: where a search stops between them, and how they are joined in few numbers.
use Rattle.std.specs.Prelude.{◌≡◌, ℕ, ◌-◌, ◌/◌, ◌^◌, List, ◌++◌, length, map, replicate, ⊤, ◌+◌, ◌*◌, ◌%◌, ◌≤◌, Bool, [], ◌∷◌, drop, flat_map, ◌<◌, sum_by}
use Rattle.rice_bits.specs.Bits.{word}
use Rattle.rice_code.specs.{declared.encode.choice.Choice.Choice, declared.encode.choice.Choice.TheVariants.NoCompression, declared.encode.choice.Choice.TheVariants.SecondExtension}
use Rattle.rice_code.specs.{declared.encode.choice.Choice.TheVariants.Split, encode.BitBuffer.AddsBits, encode.BitBuffer.HasRoomForBits}

-- numbers, and zeros after them up to 64
abbrev pub with_zeros : List ℕ → List ℕ
with_zeros ms = ms ++ replicate (64 - length ms) 0

-- where a split is chosen, these are the residuals without the digits that it splits off
abbrev pub IsHighOfChoice : Choice → List ℕ → List ℕ → Type 0
IsHighOfChoice NoCompression ds high = ⊤
IsHighOfChoice SecondExtension ds high = ⊤
IsHighOfChoice (Split k) ds high = high ≡ with_zeros (map (λ d. d / 2 ^ k) ds)

-- there is room for the `digits` lowest digits of each number from number `first`, 0 or 1, on
pub record CanAddLow (first digits : ℕ) (numbers : List ℕ) (sink fields : List Bool) (meter : ℕ) : Type 0 where
  pub width : digits ≤ 32
  pub from : first ≤ 1
  pub room : HasRoomForBits (flat_map (word digits) (drop first numbers)) (length sink + length fields) (meter + length fields)

-- and these digits are added
abbrev pub AddsLow : (first digits : ℕ) → List ℕ → (sink_old fields_old sink_new fields_new : List Bool) → (meter_old meter_new : ℕ) → Type 0
AddsLow first digits numbers sink_old fields_old sink_new fields_new meter_old meter_new =
    AddsBits (flat_map (word digits) (drop first numbers)) sink_old fields_old sink_new fields_new meter_old meter_new

-- the `width` lowest digits of each number
abbrev pub low_digits_of_each : ℕ → List ℕ → List ℕ
low_digits_of_each width xs = map (λ d. d % 2 ^ width) xs

-- each two neighbours joined: the digits of the first, and after them the `width` digits of the second
abbrev pub joined_in_pairs : ℕ → List ℕ → List ℕ
joined_in_pairs width (x ∷ y ∷ xs) = (x * 2 ^ width + y) ∷ joined_in_pairs width xs
joined_in_pairs width _ = []

-- the digits of a number are these bits
pub record HasDigits (bits : List Bool) (value width : ℕ) : Type 0 where
  pub len : length bits ≡ width
  pub fits : value < 2 ^ width
  pub digits : word width value ≡ bits

-- each two neighbours joined: the digits of the first, and after them those of the second
abbrev pub joined_values : List ℕ → List ℕ → List ℕ
joined_values (v ∷ u ∷ vs) (w ∷ z ∷ ws) = (v * z + u) ∷ joined_values vs ws
joined_values _ _ = []

-- the weights of each two neighbours joined
abbrev pub joined_weights : List ℕ → List ℕ
joined_weights (w ∷ z ∷ ws) = (w * z) ∷ joined_weights ws
joined_weights _ = []

-- The first k, up to a greatest one, at which one digit more takes no more than `price` off the sum of the numbers without their k lowest
-- digits, and this sum.
pub record IsFirstStop (items : List ℕ) (greatest price k sum : ℕ) : Type 0 where
  pub limit : k ≤ greatest
  pub value : sum ≡ sum_by (λ d. d / 2 ^ k) items
  pub falls : (j : ℕ) → j < k → sum_by (λ d. d / 2 ^ (j + 1)) items + price < sum_by (λ d. d / 2 ^ j) items
  pub stops : k < greatest → sum_by (λ d. d / 2 ^ k) items ≤ sum_by (λ d. d / 2 ^ (k + 1)) items + price
