-- The limits of samples that contracts cite, with what each bounds.
use Rattle.std.specs.Prelude.{ℕ, ◌^◌}

-- the most blocks of a reference interval
abbrev pub longest_interval : ℕ
longest_interval = 4096

-- the most samples of a segment, which has at most 64 blocks of at most 64 samples
abbrev pub longest_segment : ℕ
longest_segment = 4096

-- the most bytes of samples that are encoded, and so the most samples, of which each has a byte at least
abbrev pub most_input : ℕ
most_input = 2 ^ 48

-- the most samples that are counted between two pieces of a code
abbrev pub most_samples_counted : ℕ
most_samples_counted = 2 ^ 62
