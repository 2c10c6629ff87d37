use Rattle.std.proofs.Common.{◌≡◌, ◌∙◌, ◌+◌, ◌∷◌, [], ◌++◌, map, take, sym, ap, append_assoc, arith}
use Rattle.std.proofs.lemmas.List.{map-append, append-nil, take_more, take_all}
use Rattle.std.proofs.lemmas.Grind.{flat_map-append}
use Rattle.std.specs.declared.vec.Vec.{Vec}
use Rattle.std.specs.declared.alloc.Global.{Global}
use Rattle.kmer_paths.specs.Contigs.{text_of}
use Rattle.kmer_paths.proofs.text.text_of.Goals as goal

pub loop-text-init : goal.loop-text-init
loop-text-init c = c.new-all.ensures.items

pub loop-text-preserved : goal.loop-text-preserved
loop-text-preserved c =
    let texts = c.args.texts.now in
    let i = c.loop-text.text-index in
    let text = c.text-item.result in
    let so_far = map (λ (t : Vec _ Global). t.items) (take i texts) in
    let more : map (λ (t : Vec _ Global). t.items) (take (i + 1) texts) ≡ so_far ++ text.items ∷ [] =
    ap (map (λ (t : Vec _ Global). t.items)) (take_more texts i text (omega arith) ∙ ap (λ t. take i texts ++ t ∷ []) (sym c.text-item.is)) ∙ map-append (λ (t : Vec _ Global). t.items) (take i texts) (text ∷ []) in
    c.in_ok-push.ensures.items
    ∙ (ap (λ xs. xs ++ 10 ∷ []) (c.in_ok-extend_from_slice.ensures.items ∙ ap (λ xs. c.loop-text.all.items ++ xs) c.deref.ensures.value)
    ∙ (append_assoc c.loop-text.all.items text.items (10 ∷ [])
    ∙ (ap (λ xs. xs ++ (text.items ++ 10 ∷ [])) c.loop-text.invariant
    ∙ (ap (λ xs. text_of so_far ++ xs) (sym (append-nil (text.items ++ 10 ∷ [])))
    ∙ (sym (flat_map-append (λ t. t ++ 10 ∷ []) so_far (text.items ∷ [])) ∙ ap text_of (sym more))))))

pub returns : goal.returns
returns c = c.loop-text.invariant ∙ ap (λ ts. text_of (map (λ (t : Vec _ Global). t.items) ts)) (take_all c.loop-text.text-index c.args.texts.now (omega arith))
