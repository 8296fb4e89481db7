use Rattle.rice_code.proofs.laws.damage_stays_in_its_interval.Goals as goal
use Rattle.rice_code.proofs.lemmas.meaning.IntervalsStandAlone as intervals

pub returns : goal.returns
returns c = intervals.damage_stays
