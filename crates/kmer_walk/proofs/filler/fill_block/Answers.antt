use Rattle.std.proofs.Common.{◌≡◌, ◌+◌, ℕ, List, subst, sym, arith}
use Rattle.kmer_blocks.specs.Blocks.{begins_at}
use Rattle.kmer_blocks.proofs.Blocks.{block_within}
use Rattle.kmer_walk.specs.Nodes.{has_node, nodes_from}
use Rattle.kmer_walk.specs.Fills.{Fills}
use Rattle.kmer_walk.proofs.Places.{places_more}
use Rattle.kmer_walk.proofs.Waiting.{fills_trans}
use Rattle.kmer_walk.proofs.filler.fill_block.Goals as goal

pub loop-place-preserved : goal.loop-place-preserved
loop-place-preserved c =
    let lines = c.args.lines.now in let first = c.first_of-first.result in let place = c.loop-place.place in
    subst (λ (places : List ℕ). Fills c.args.k lines places c.args.buffer.now c.fill_line.new.buffer) (sym (places_more (has_node lines) first place (omega arith)))
    (fills_trans c.args.k lines (nodes_from lines first place) (nodes_from lines place (place + 1)) c.args.buffer.now c.loop-place.buffer c.fill_line.new.buffer c.loop-place.invariant c.in_ok-fill_line.ensures.fills)

pub returns : goal.returns
returns c =
    let lines = c.args.lines.now in
    let rises = (block_within c.args.rank c.args.ranks lines c.requires.rank).0 in
    let first = c.first_of-first.ensures.first in let end = c.first_of-end.ensures.first in
    let last : c.loop-place.place ≡ begins_at (c.args.rank + 1) c.args.ranks lines = omega arith in record {
      fills = subst (λ (z : ℕ × ℕ). Fills c.args.k lines (nodes_from lines z.0 z.1) c.args.buffer.now c.loop-place.buffer) (λ j. (first j, last j)) c.loop-place.invariant;
    }
