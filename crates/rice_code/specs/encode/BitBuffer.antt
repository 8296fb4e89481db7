-- Bits that are gathered before they are put into a sink, and what a put does: of any fields, and of the two parts of residuals that are sent.
use Rattle.std.specs.Prelude.{◌≡◌, ℕ, ◌+◌, ◌*◌, ◌^◌, ◌<◌, ◌≤◌, Bool, List, ◌++◌, length, ◌/◌, flat_map, sum_by}
use Rattle.rice_bits.specs.{Limits.step_limit, Bits.put_width, Bits.word, Bits.fundamental_sequence, Bits.Puts}
use Rattle.rice_samples.specs.{Parameters.Parameters, Pairs.pair_codes}
use Rattle.rice_code.specs.code.CodedDataSets.{CodedDataSet, bits_of_set, cost}

-- The bits of the sink of a coder: 64 blocks of at most 2,053 bits, and eight bytes beside them for the bits that it held before.
abbrev pub sink_bits : ℕ
sink_bits = 131456

-- these are the digits of a number, as many as one put takes at most
pub record IsShort (width value : ℕ) : Type 0 where
  pub most : width ≤ put_width
  pub digits : value < 2 ^ width

-- after `bits` bits a sink has room for `count` more, and the meter for `ticks`
pub record HasRoomFor (count ticks bits meter : ℕ) : Type 0 where
  pub room : bits + count ≤ sink_bits
  pub steps : meter + ticks < step_limit

-- These bits, `count` of them, are added after those of the sink and those that are gathered. A bit that is gathered still counts as a step when it is put; `ticks` steps are counted in all.
pub record AddsFields (more : List Bool) (count ticks : ℕ) (sink_old fields_old sink_new fields_new : List Bool) (meter_old meter_new : ℕ) : Type 0 where
  pub bits : sink_new ++ fields_new ≡ sink_old ++ fields_old ++ more
  pub len : length sink_new + length fields_new ≡ length sink_old + length fields_old + count
  pub steps : meter_new + length fields_new ≡ meter_old + length fields_old + ticks

-- as `HasRoomFor` and `AddsFields` for a list of bits, where nothing is counted beside them
abbrev pub HasRoomForBits : List Bool → ℕ → ℕ → Type 0
HasRoomForBits more bits meter = HasRoomFor (length more) (length more) bits meter

abbrev pub AddsBits : List Bool → List Bool → List Bool → List Bool → List Bool → ℕ → ℕ → Type 0
AddsBits more sink_old fields_old sink_new fields_new meter_old meter_new = AddsFields more (length more) (length more) sink_old fields_old sink_new fields_new meter_old meter_new

-- there is room for a coded data set, and for `looks` looks at residuals
abbrev pub HasRoomForSet : Parameters → CodedDataSet → ℕ → List Bool → ℕ → Type 0
HasRoomForSet s set looks sink meter = HasRoomFor (cost s set) (cost s set + looks) (length sink) meter

-- and for one of a block, of which each residual is looked at twice at most
abbrev pub HasRoomForOption : Parameters → CodedDataSet → List Bool → ℕ → Type 0
HasRoomForOption s set sink meter = HasRoomForSet s set (2 * s.block) sink meter

-- the coded data set is put, with `least` to `most` looks at residuals
pub record PutsSet (s : Parameters) (set : CodedDataSet) (least most : ℕ) (old new : List Bool) (meter_old meter_new : ℕ) : Type 0 where
  pub bits : new ≡ old ++ bits_of_set s set
  pub len : length new ≡ length old + cost s set
  pub steps_from : meter_old + cost s set + least ≤ meter_new
  pub steps_to : meter_new ≤ meter_old + cost s set + most

-- `width` lowest digits of each of n residuals, and a look at each
abbrev pub HasRoomForLow : ℕ → ℕ → ℕ → ℕ → Type 0
HasRoomForLow width n bits meter = HasRoomFor (n * width) (n * (width + 1)) bits meter

-- the fundamental sequences of n residuals without their k lowest digits, and so many looks
abbrev pub HasRoomForOnes : ℕ → ℕ → ℕ → List ℕ → ℕ → ℕ → Type 0
HasRoomForOnes k looks n ds bits meter = HasRoomFor (n + sum_by (λ d. d / 2 ^ k) ds) (looks + (n + sum_by (λ d. d / 2 ^ k) ds)) bits meter

-- the fundamental sequences of numbers, which are looked at already
abbrev pub HasRoomForSequences : List ℕ → ℕ → ℕ → Type 0
HasRoomForSequences ms bits meter = HasRoomForBits (flat_map fundamental_sequence ms) bits meter

abbrev pub AddsSequences : List ℕ → List Bool → List Bool → List Bool → List Bool → ℕ → ℕ → Type 0
AddsSequences ms sink_old fields_old sink_new fields_new meter_old meter_new = AddsBits (flat_map fundamental_sequence ms) sink_old fields_old sink_new fields_new meter_old meter_new

-- the bits of the codewords that second extension sends for the pairs
abbrev pub pairs_len : List ℕ → ℕ
pairs_len ds = sum_by (λ g. g + 1) (pair_codes ds)

-- these parts are put, with a look at each residual
abbrev pub PutsLow : ℕ → ℕ → List ℕ → List Bool → List Bool → ℕ → ℕ → Type 0
PutsLow width n ds sink_old sink_new meter_old meter_new = Puts (flat_map (word width) ds) (n * width) (n * (width + 1)) sink_old sink_new meter_old meter_new

abbrev pub PutsOnes : ℕ → ℕ → List ℕ → List Bool → List Bool → ℕ → ℕ → Type 0
PutsOnes k n ds sink_old sink_new meter_old meter_new =
    Puts (flat_map (λ d. fundamental_sequence (d / 2 ^ k)) ds) (n + sum_by (λ d. d / 2 ^ k) ds) (n + (n + sum_by (λ d. d / 2 ^ k) ds)) sink_old sink_new meter_old meter_new

abbrev pub PutsPairs : List ℕ → List Bool → List Bool → ℕ → ℕ → Type 0
PutsPairs ds sink_old sink_new meter_old meter_new = Puts (flat_map fundamental_sequence (pair_codes ds)) (pairs_len ds) (length ds + pairs_len ds) sink_old sink_new meter_old meter_new
