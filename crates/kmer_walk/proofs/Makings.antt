-- Calls that a pass made, one list behind another, and the runs among them.
use Rattle.std.proofs.Common.{◌∙◌, ℕ, List, [], ◌++◌, refl, sym, ap, append_assoc}
use Rattle.std.proofs.lemmas.List.{map-append}
use Rattle.std.proofs.lemmas.List.Elements.{All-nil, All-append, All-weaker}
use Rattle.bcl_merge.specs.LeastWords.{least_of}
use Rattle.bcl_phase.proofs.Calls.{ran_none, ran_trans}
use Rattle.bcl_map.specs.declared.shape.Shape.{Shape}
use Rattle.bcl_map.specs.Map.{ranks, first_pairs, next, permits}
use Rattle.bcl_map.specs.Calls.{MapView}
use Rattle.kmer_walk.specs.Book.{Call, calls_of, walk_finds, IsRun}
use Rattle.kmer_walk.specs.Finds.{Makes}
use Rattle.kmer_walk.specs.Texts.{MakesWalks}

-- ---- calls
module _ (shape : Shape) where
  pub makes_none : (v : MapView) → Makes shape [] v v
  makes_none v = record { events = []; ran = ran_none ranks first_pairs (next least_of) permits shape v; calls_are = refl }

  pub makes_trans : (xs ys : List Call) (u v w : MapView) → Makes shape xs u v → Makes shape ys v w → Makes shape (xs ++ ys) u w
  makes_trans xs ys u v w a b = record {
    events = a.events ++ b.events;
    ran = ran_trans ranks first_pairs (next least_of) permits shape u v w a.events b.events a.ran b.ran;
    calls_are = map-append (λ e. e.call) a.events b.events ∙ (ap (λ (l : List Call). l ++ calls_of b.events) a.calls_are ∙ ap (λ (l : List Call). xs ++ l) b.calls_are);
  }

-- ---- runs
pub run_front : (run calls more : List Call) → IsRun run calls → IsRun run (calls ++ more)
run_front run calls more r = record {
  before = r.before;
  after = r.after ++ more;
  is = ap (λ (l : List Call). l ++ more) r.is ∙ (append_assoc r.before (run ++ r.after) more ∙ ap (λ (l : List Call). r.before ++ l) (append_assoc run r.after more));
}

pub run_back : (run more calls : List Call) → IsRun run calls → IsRun run (more ++ calls)
run_back run more calls r = record { before = more ++ r.before; after = r.after; is = ap (λ (l : List Call). more ++ l) r.is ∙ sym (append_assoc more r.before (run ++ r.after)) }

-- ---- walks
module _ (k : ℕ) (lines : List (List ℕ)) (shape : Shape) where
  pub walks_none : (v : MapView) → MakesWalks k lines shape [] v v
  walks_none v = record { calls = []; makes = makes_none shape v; walks = All-nil (λ start. IsRun (walk_finds k lines start) []) }

  pub walks_trans : (xs ys : List ℕ) (u v w : MapView) → MakesWalks k lines shape xs u v → MakesWalks k lines shape ys v w → MakesWalks k lines shape (xs ++ ys) u w
  walks_trans xs ys u v w a b = record {
    calls = a.calls ++ b.calls;
    makes = makes_trans shape a.calls b.calls u v w a.makes b.makes;
    walks = All-append (λ start. IsRun (walk_finds k lines start) (a.calls ++ b.calls)) xs ys
        (All-weaker (λ start. IsRun (walk_finds k lines start) a.calls) (λ start. IsRun (walk_finds k lines start) (a.calls ++ b.calls)) (λ start r. run_front (walk_finds k lines start) a.calls b.calls r) xs a.walks)
        (All-weaker (λ start. IsRun (walk_finds k lines start) b.calls) (λ start. IsRun (walk_finds k lines start) (a.calls ++ b.calls)) (λ start r. run_back (walk_finds k lines start) a.calls b.calls r) ys b.walks);
  }
