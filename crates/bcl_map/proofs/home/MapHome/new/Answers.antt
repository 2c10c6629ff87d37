use Rattle.bcl_map.proofs.Fills.{many, empty}
use Rattle.bcl_map.proofs.home.MapHome.new.Goals as goal

pub new-requires-clause-fits : goal.new-requires-clause-fits
new-requires-clause-fits g c = empty g.K.Object.WORDS g.V.Object.WORDS g.K.Object.passes g.V.Object.passes _ _ c.in_ok-words.words.items (c.in_ok-words.ensures.items_if_clones_equal (λ y e. e)) (many _ _ _ _ _ _ c.WORDS.ensures c.WORDS-2.ensures)
