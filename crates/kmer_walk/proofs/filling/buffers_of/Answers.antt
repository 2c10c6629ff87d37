use Rattle.std.proofs.Common.{[], ◌∷◌, ◌++◌, List, refl, sym, ap, ◌∙◌, subst}
use Rattle.std.specs.Prelude.{IsOk}
use Rattle.std.proofs.lemmas.List.{map-append}
use Rattle.std.proofs.lemmas.List.Elements.{All-nil, All-cons, All-append}
use Rattle.bcl_buffer.specs.declared.buffer.Buffer.{Buffer}
use Rattle.kmer_text.specs.declared.kmer.Kmer.{Kmer}
use Rattle.kmer_text.specs.declared.node.Node.{Node}
use Rattle.kmer_walk.specs.declared.filler.Filler.{Filler}
use Rattle.kmer_walk.proofs.filling.buffers_of.Goals as goal

pub loop-kit-preserved : goal.loop-kit-preserved
loop-kit-preserved c =
    let before = c.loop-kit.invariant in let kits = c.loop-kit.yielded in let kit = c.in-Some.kit in record {
      filled = All-append (λ (f : Filler). IsOk f.filled) kits (kit ∷ []) before.filled (All-cons (λ (f : Filler). IsOk f.filled) kit [] (subst IsOk (sym c.in_ok-kit.was) refl) (All-nil (λ (f : Filler). IsOk f.filled)));
      buffers = c.in_ok-push.ensures.items ∙ (ap (λ (l : List (Buffer Kmer Node)). l ++ kit.buffer ∷ []) before.buffers ∙ sym (map-append (λ (f : Filler). f.buffer) kits (kit ∷ [])));
    }
