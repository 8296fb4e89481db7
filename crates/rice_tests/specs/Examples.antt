-- What the worked examples say.
use Rattle.std.specs.List.{range_with_len}
use Rattle.std.specs.Prelude.{◌≡◌, ℕ, Bool, List, [], ◌∷◌, None, map, flat_map, ℤ, pos}
use Rattle.rice_samples.specs.Parameters.{Parameters}
use Rattle.rice_code.specs.{code.Blocks.BlockData, code.Code.output, code.Code.code_bits}
use Rattle.rice_code.specs.code.CodedDataSets.{NoCompression, SecondExtension, Split, ZeroBlocks, bits_of_set, cost}

-- the samples are coded into these bytes, of which the code fills so many bits, padding aside
abbrev pub CodesTo : Parameters → List ℤ → List ℕ → ℕ → Type 0
CodesTo s xs bytes bits = (output s xs ≡ bytes) × (code_bits s xs ≡ bits)

-- the numbers from `first` on, so many
abbrev pub numbers_from : ℕ → ℕ → List ℤ
numbers_from first count = map pos (range_with_len first count)

-- the list again and again, so many times
abbrev pub repetition_of : ℕ → List ℤ → List ℤ
repetition_of count xs = flat_map (λ _. xs) (range_with_len 0 count)

-- the identifiers of no compression, splits 0, 1 and k, second extension, and a run
abbrev pub identifiers_of : Parameters → ℕ → List (List Bool)
identifiers_of s k =
    let c : BlockData = record { reference = None; residuals = [] } in
    map (bits_of_set s) (NoCompression c ∷ Split 0 c ∷ Split 1 c ∷ Split k c ∷ SecondExtension c ∷ ZeroBlocks None 1 ∷ [])

-- the costs of a block by splits 0, 1 and 2, second extension and no compression
abbrev pub costs_of : Parameters → BlockData → List ℕ
costs_of s c = map (cost s) (Split 0 c ∷ Split 1 c ∷ Split 2 c ∷ SecondExtension c ∷ NoCompression c ∷ [])
