use Rattle.std.proofs.Common.{◌≡◌, ◌∙◌, length, map, sym, ap}
use Rattle.std.proofs.lemmas.List.{length-map, take_at}
use Rattle.std.proofs.lemmas.List.Sorted.{length_permutation}
use Rattle.kmer_paths.specs.Contigs.{in_byte_order}
use Rattle.kmer_paths.proofs.ByteOrder.{order-permutes}
use Rattle.kmer_walk.proofs.gathering.gathered.Goals as goal

pub returns-clause-texts : goal.returns-clause-texts
returns-clause-texts g c = λ all have.
    let old = c.in_ok-texts.texts in
    let texts = c.sort_texts.new.texts in
    let before = map (λ text. text.items) old.items in
    let sorted : map (λ text. text.items) texts ≡ in_byte_order before =
    c.sort_texts.ensures.sorted ∙ ap (λ l. in_byte_order (map (λ text. text.items) l)) c.as_mut_slice.ensures.value in
    let long : length texts ≡ old.len =
    sym (length-map texts (λ text. text.items))
    ∙ (ap length sorted
    ∙ (length_permutation before (in_byte_order before) (order-permutes before)
    ∙ (length-map old.items (λ text. text.items) ∙ sym old.ok.0))) in
    ap (map (λ text. text.items)) (take_at texts _ old.len long)
    ∙ (sorted ∙ ap in_byte_order (c.in_ok-texts.ensures.texts all have))
