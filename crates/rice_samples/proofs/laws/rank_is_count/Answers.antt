use Rattle.rice_samples.proofs.laws.rank_is_count.Goals as goal
use Rattle.rice_samples.proofs.lemmas.predict.RankLaws.{rank_of_second, rank_of_other}

pub returns : goal.returns
returns c = λ s legal p x hp hx. (rank_of_second s p x hp hx, rank_of_other s p x hp hx)
