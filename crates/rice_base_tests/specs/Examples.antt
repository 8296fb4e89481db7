-- Parameters of the worked examples.
use Rattle.std.specs.Prelude.{true, false}
use Rattle.rice_samples.specs.Parameters.{Parameters}

-- those of the command `aec` without options
abbrev pub defaults : Parameters
defaults = record { bits = 8; block = 8; interval = 2; signed = false; msb = false; three = false; preprocess = true; pad = false }

abbrev pub signed_defaults : Parameters
signed_defaults = record defaults { signed = true }

abbrev pub unprocessed_defaults : Parameters
unprocessed_defaults = record defaults { preprocess = false }

abbrev pub one_bit_defaults : Parameters
one_bit_defaults = record defaults { bits = 1 }
