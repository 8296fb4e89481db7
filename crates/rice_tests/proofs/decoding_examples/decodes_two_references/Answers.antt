use Rattle.std.proofs.Common.{◌∷◌, [], ◌++◌, replicate, false, Some, None, refl, lit<, lit≤, pos}
use Rattle.rice_code.proofs.Words.{word, bits_of, CodedDataSet, ZeroBlocks, bits_of_set}
use Rattle.rice_code.proofs.lemmas.meaning.DecodingWitnesses.{unsigned_samples, zeros_end}
use Rattle.rice_base_tests.specs.Examples.{defaults}
use Rattle.rice_tests.proofs.decoding_examples.decodes_two_references.Goals as goal

-- eight samples 5 after a reference
abbrev run : CodedDataSet
run = ZeroBlocks (Some 5) 1

pub returns-clause-all : goal.returns-clause-all
unfolding word bits_of
returns-clause-all c = record {
  sets = run ∷ run ∷ [];
  front = bits_of_set (record defaults { interval = 1 }) run ++ ([] ++ (bits_of_set (record defaults { interval = 1 }) run ++ []));
  rest = replicate 6 false;
  parts = refl;
  lie = ([], bits_of_set (record defaults { interval = 1 }) run ++ [], refl, refl, ([], [], refl, refl, refl));
  taken = (tt, (record { there = refl; fits = lit< tt }, lit≤ tt), (lit≤ tt, lit≤ tt), tt, (tt, (record { there = refl; fits = lit< tt }, lit≤ tt), (lit≤ tt, lit≤ tt), tt, tt));
  all = replicate 16 (pos 5);
  legal = unsigned_samples (record defaults { interval = 1 }) refl (replicate 16 5) refl;
  len = refl;
  blocks = refl;
  asked_for = refl;
  last = 6;
  ends = zeros_end (record defaults { interval = 1 }) None 2 6 tt;
  bits_used = refl;
}

pub returns-clause-asked : goal.returns-clause-asked
unfolding word bits_of
returns-clause-asked c = record {
  sets = run ∷ run ∷ [];
  front = bits_of_set (record defaults { interval = 1 }) run ++ ([] ++ (bits_of_set (record defaults { interval = 1 }) run ++ []));
  rest = replicate 6 false;
  parts = refl;
  lie = ([], bits_of_set (record defaults { interval = 1 }) run ++ [], refl, refl, ([], [], refl, refl, refl));
  taken = (lit< tt, (record { there = refl; fits = lit< tt }, lit≤ tt), (lit≤ tt, lit≤ tt), tt, (lit< tt, (record { there = refl; fits = lit< tt }, lit≤ tt), (lit≤ tt, lit≤ tt), tt, tt));
  all = replicate 16 (pos 5);
  legal = unsigned_samples (record defaults { interval = 1 }) refl (replicate 16 5) refl;
  len = refl;
  blocks = refl;
  asked_for = refl;
  last = 0;
  ends = (lit≤ tt, refl);
  bits_used = refl;
}
