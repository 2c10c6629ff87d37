use Rattle.kmer_text.proofs.AllWords.{in_order, only_words, every_word}
use Rattle.kmer_text.proofs.order.words_rise.Goals as goal

pub returns : goal.returns
returns c = record { order = in_order; only = only_words; all = every_word }
