-- The coded data set that a choice stands for, and the length of a block's head.
use Rattle.std.specs.Prelude.{ℕ, ◌+◌, ◌≤◌, ⊤}
use Rattle.rice_samples.specs.Parameters.{Parameters, id_len}
use Rattle.rice_code.specs.{code.Blocks.BlockData, declared.encode.choice.Choice.Choice}
use Rattle.rice_code.specs.code.CodedDataSets.{CodedDataSet, reference_len, NoCompression as no_compression, SecondExtension as second_extension, Split as split}
use Rattle.rice_code.specs.declared.encode.choice.Choice.TheVariants.{NoCompression, SecondExtension, Split}

abbrev pub chosen_set : Choice → BlockData → CodedDataSet
chosen_set NoCompression c = no_compression c
chosen_set SecondExtension c = second_extension c
chosen_set (Split k) c = split k c

-- where it is a split, it is no greater than the limit
abbrev pub IsSplitWithin : ℕ → Choice → Type 0
IsSplitWithin limit (Split k) = k ≤ limit
IsSplitWithin limit _ = ⊤

-- the bits that a block costs by each option: its identifier, and the reference, where there is one
abbrev pub head_len : Parameters → BlockData → ℕ
head_len s c = id_len s + reference_len s c.reference
