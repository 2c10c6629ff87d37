use Rattle.std.proofs.Common.{rules, ◌≡◌, List, [], ◌∷◌, ◌++◌, map, refl, sym, ap, subst, ◌∙◌}
use Rattle.std.specs.Prelude.{All}
use Rattle.std.proofs.lemmas.List.{map-append, append_assoc}
use Rattle.std.proofs.lemmas.List.Elements.{All-nil, All-cons, All-append}
use Rattle.kmer_walk.specs.declared.walker.Walker.{Walker}
use Rattle.kmer_walk.proofs.Walkers.{IsMade}
use Rattle.kmer_walk.proofs.walking.walkers.Goals as goal

pub loop-pass-preserved : goal.loop-pass-preserved
loop-pass-preserved c =
    let before = c.loop-pass.invariant in let kits = c.loop-pass.kits.items in let rest = c.next-in-loop-pass.new.self.rest.items in
    let here : c.loop-pass.starts.rest.items ≡ c.in-Some-next.own ∷ rest = search rules in record {
      passes = ap (map (λ (w : Walker). w.pass)) c.in_ok-push.ensures.items ∙ (map-append (λ (w : Walker). w.pass) kits (_ ∷ []) ∙ ap (λ l. l ++ c.in-Some.pass ∷ []) before.passes);
      starts = ap (λ (l : List Walker). map (λ (w : Walker). w.starts) l ++ rest) c.in_ok-push.ensures.items
          ∙ (ap (λ l. l ++ rest) (map-append (λ (w : Walker). w.starts) kits (_ ∷ []))
          ∙ (append_assoc (map (λ (w : Walker). w.starts) kits) (c.in-Some-next.own ∷ []) rest ∙ (ap (λ l. map (λ (w : Walker). w.starts) kits ++ l) (sym here) ∙ before.starts)));
      left = search rules;
      made = subst (All (IsMade c.args.nodes.now)) (sym c.in_ok-push.ensures.items)
          (All-append (IsMade c.args.nodes.now) kits (_ ∷ []) before.made (All-cons (IsMade c.args.nodes.now) _ [] (refl, c.new.ensures.items, c.new-in-loop-pass.ensures.items) (All-nil (IsMade c.args.nodes.now))));
    }
