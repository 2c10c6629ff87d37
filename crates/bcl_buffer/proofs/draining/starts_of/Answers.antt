use Rattle.std.proofs.Common.{◌≡◌, ◌≢◌, ℕ, ◌+◌, ◌*◌, ◌<◌, ◌≤◌, List, length, take, get_or, set, sym, ap, ◌∙◌, subst, ⊎_elim, arith, get_or-set_same, get_or-set_other}
use Rattle.std.specs.Prelude.{min, slice_index_or}
use Rattle.std.proofs.lemmas.Bool.{cases_eq}
use Rattle.std.proofs.lemmas.List.{length-take, length-set, get_or-take, get_or_default}
use Rattle.bcl_words.specs.declared.pair.Pair.{Pair}
use Rattle.bcl_map.specs.declared.walk.Start.{Start}
use Rattle.bcl_map.specs.Calls.{start_at}
use Rattle.bcl_map.specs.Parts.{lead_key}
use Rattle.bcl_buffer.specs.Batches.{AreStarts}
use Rattle.bcl_buffer.proofs.draining.starts_of.Goals as goal

one_item : {P : Type 0} (xs : List P) (i j : ℕ) (p q : P) → i ≡ j → j < length xs → p ≡ get_or xs i p → q ≡ get_or xs j q → q ≡ p
one_item xs i j p q same low a b = b ∙ (get_or_default xs j q p low ∙ (ap (λ (n : ℕ). get_or xs n p) (sym same) ∙ sym a))

pub offset_bounds-starts-j : goal.offset_bounds-starts-j
offset_bounds-starts-j g c = let test = c.loop-j-test.true in let most = ap length c.front-pairs.ensures ∙ length-take 64 c.args.lane.now in omega arith

pub bounds-starts-j : goal.bounds-starts-j
bounds-starts-j g c = let test = c.loop-j-test.true in let most = ap length c.front-pairs.ensures ∙ length-take 64 c.args.lane.now in omega arith

pub loop-j-preserved : goal.loop-j-preserved
loop-j-preserved g c = let I = c.loop-j.invariant in let j = c.loop-j.j in let start = c.start.result in let pairs = c.front-pairs.result.now in let none : Start = record { place = 0; home = 0 } in record {
  starts = λ i p low is. ⊎_elim
      (λ (e : i ≡ j). ap (λ (n : ℕ). slice_index_or (set c.loop-j.starts j start) n none) e
      ∙ (get_or-set_same c.loop-j.starts j start none (let long = I.long in let test = c.loop-j-test.true in let most = ap length c.front-pairs.ensures ∙ length-take 64 c.args.lane.now in omega arith)
      ∙ (c.start.ensures.start ∙ ap (λ (q : Pair _ _). start_at (lead_key c.args.lead.now) (g.K.Object.words q.a)) (sym c.index-pairs-j.is ∙ one_item pairs i j p c.index-pairs-j.result e c.loop-j-test.true is c.index-pairs-j.is))))
      (λ (ne : i ≢ j). get_or-set_other c.loop-j.starts j i start none ne ∙ I.starts i p (omega arith) is)
      (cases_eq i j);
  long = length-set c.loop-j.starts j start ∙ I.long;
}

pub returns-clause-count : goal.returns-clause-count
returns-clause-count g c = ap length c.front-pairs.ensures ∙ length-take 64 c.args.lane.now

pub returns-clause-starts : goal.returns-clause-starts
returns-clause-starts g c = let pairs = c.front-pairs.result.now in let end = c.loop-j-test.false in let within = c.loop-j.auto.j-end in λ i p low is.
    c.loop-j.invariant.starts i p (omega arith)
    (is ∙ (sym (get_or-take 64 c.args.lane.now i p (let most = ap length c.front-pairs.ensures ∙ length-take 64 c.args.lane.now in omega arith)) ∙ ap (λ (l : List (Pair _ _)). slice_index_or l i p) (sym c.front-pairs.ensures)))
