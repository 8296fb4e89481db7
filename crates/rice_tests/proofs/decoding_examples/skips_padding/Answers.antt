use Rattle.std.proofs.Common.{◌∷◌, [], ◌++◌, replicate, true, false, Some, None, refl, lit<, lit≤, pos}
use Rattle.rice_code.proofs.Words.{word, bits_of, CodedDataSet, ZeroBlocks, bits_of_set}
use Rattle.rice_code.proofs.lemmas.meaning.DecodingWitnesses.{Gives, gives_unsigned, unsigned_samples, zeros_end, decoded_by_one}
use Rattle.rice_base_tests.specs.Examples.{defaults}
use Rattle.rice_tests.proofs.decoding_examples.skips_padding.Goals as goal

-- eight samples 5 after a reference
abbrev run : CodedDataSet
run = ZeroBlocks (Some 5) 1

gives : Gives (record defaults { interval = 1; pad = true }) run (replicate 8 (pos 5))
gives = gives_unsigned (replicate 8 5) refl (record { there = refl; fits = lit< tt }, lit≤ tt) (lit≤ tt, lit≤ tt) tt refl refl refl

pub returns-clause-all : goal.returns-clause-all
unfolding word bits_of
returns-clause-all c = record {
  sets = run ∷ run ∷ [];
  front = bits_of_set (record defaults { interval = 1; pad = true }) run ++ (replicate 3 true ++ (bits_of_set (record defaults { interval = 1; pad = true }) run ++ replicate 3 false));
  rest = [];
  parts = refl;
  lie = (replicate 3 true, bits_of_set (record defaults { interval = 1; pad = true }) run ++ replicate 3 false, refl, refl, (replicate 3 false, [], refl, refl, refl));
  taken = (tt, (record { there = refl; fits = lit< tt }, lit≤ tt), (lit≤ tt, lit≤ tt), tt, (tt, (record { there = refl; fits = lit< tt }, lit≤ tt), (lit≤ tt, lit≤ tt), tt, tt));
  all = replicate 16 (pos 5);
  legal = unsigned_samples (record defaults { interval = 1; pad = true }) refl (replicate 16 5) refl;
  len = refl;
  blocks = refl;
  asked_for = refl;
  last = 0;
  ends = zeros_end (record defaults { interval = 1; pad = true }) None 2 0 tt;
  bits_used = refl;
}

pub returns-clause-asked : goal.returns-clause-asked
unfolding word bits_of
returns-clause-asked c = decoded_by_one gives (replicate 3 true)
    (bits_of_set (record defaults { interval = 1; pad = true }) run ++ replicate 3 false) refl refl (lit< tt) 0 (lit≤ tt, refl)
