use Rattle.kmer_rows.proofs.over_ranks.+fn-rows_by-join+arg2+fn-rows_by-join+arg3+rows_by.Given as goal

abbrev pub decreases-join+arg2 : goal.decreases-join+arg2
decreases-join+arg2 g l = l.few

abbrev pub decreases-join+arg3 : goal.decreases-join+arg3
decreases-join+arg3 g l = l.more

abbrev pub decreases-rows_by : goal.decreases-rows_by
decreases-rows_by g l = l.threads
