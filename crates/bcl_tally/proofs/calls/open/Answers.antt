use Rattle.std.proofs.Common.{◌≡◌, length, replicate, sym, ap, ◌∙◌}
use Rattle.std.proofs.lemmas.List.{length-replicate}
use mathlib.Core.Option.{some-ne-none}
use Rattle.bcl_tally.specs.declared.tally.Note.TheVariants.{Got}
use Rattle.bcl_tally.proofs.calls.open.Goals as goal

pub new-requires-clause-fits : goal.new-requires-clause-fits
new-requires-clause-fits c = let zeros : c.in_ok-words.words.items ≡ replicate c.args.ranks 0 = c.in_ok-words.ensures.items_if_clones_equal (λ y e. e) in
    (ap length zeros ∙ length-replicate c.args.ranks 0, zeros, λ r m e. absurd (some-ne-none (Got m) (sym e)))
