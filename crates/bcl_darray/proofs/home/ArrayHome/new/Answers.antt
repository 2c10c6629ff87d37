use Rattle.std.proofs.Common.{◌≡◌, ℕ, ◌*◌, ◌∙◌, length, take, ap}
use Rattle.std.specs.List.{repeat, each_same}
use Rattle.bcl_darray.proofs.Fills.{filled, whole_words}
use Rattle.bcl_darray.proofs.home.ArrayHome.new.Goals as goal

pub new-requires-clause-fits : goal.new-requires-clause-fits
new-requires-clause-fits g c = let width = g.T.Object.WORDS in let fill = c.to_words-fill.result in let n = c.args.ranks * c.args.per_rank in
    let passed : g.T.Object.passes fill ≡ _ = ap g.T.Object.passes c.to_words-fill.ensures.words ∙ c.to_words-fill.ensures.passes in
    let own : length (take width fill) ≡ width = whole_words width fill c.requires.fits.most (g.T.Object.shape c.requires.fits fill passed) in
    let is : c.in_ok-words.words.items ≡ repeat n (take width fill) = each_same _ _ c.in_ok-words.ensures.items ∙ ap (λ (w : ℕ). repeat n (take w fill)) c.WORDS-2.ensures in
    filled width g.T.Object.passes _ c.in_ok-words.words.items passed own is
