use Rattle.bcl_event.proofs.Ranks.{events_by_rank, calls_by_rank, count_by_rank}
use Rattle.bcl_event.proofs.laws.calls_are_those_of_the_ranks.Goals as goal

pub returns-clause-events : goal.returns-clause-events
returns-clause-events c = λ ranks history low. events_by_rank ranks history low

pub returns-clause-calls : goal.returns-clause-calls
returns-clause-calls c = λ ranks history low. calls_by_rank ranks history low

pub returns-clause-count : goal.returns-clause-count
returns-clause-count c = λ ranks test history low. count_by_rank ranks history low test
