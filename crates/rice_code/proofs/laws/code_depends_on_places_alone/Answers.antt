use Rattle.std.proofs.Common.{◌+◌, length}
use Rattle.rice_code.proofs.{lemmas.code.BlocksByPlaceAlone.code_stands_in_intervals, Words.block_count, Words.sets_from, lemmas.code.Layouts.laid_at}
use Rattle.rice_code.proofs.laws.code_depends_on_places_alone.Goals as goal

pub returns-clause-intervals : goal.returns-clause-intervals
returns-clause-intervals c = code_stands_in_intervals

pub returns-clause-bytes : goal.returns-clause-bytes
returns-clause-bytes c = λ s b m n p xs e. laid_at s (b + block_count s (length xs)) b m n (sets_from s b p xs) e
