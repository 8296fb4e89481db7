use Rattle.rice_code.proofs.laws.intervals_stand_alone.Goals as goal
use Rattle.rice_code.proofs.lemmas.meaning.IntervalsStandAlone as intervals

pub returns-clause-afresh : goal.returns-clause-afresh
returns-clause-afresh c = intervals.intervals_begin_afresh

pub returns-clause-joined : goal.returns-clause-joined
returns-clause-joined c = intervals.intervals_are_joined

pub returns-clause-padded : goal.returns-clause-padded
returns-clause-padded c = intervals.padded_intervals_are_joined

pub returns-clause-decoded : goal.returns-clause-decoded
returns-clause-decoded c = intervals.intervals_are_decoded_alone
