-- From the passes of a phase of finds to their checks and walks.
use Rattle.std.proofs.Common.{◌≡◌, ◌∙◌, ℕ, List, [], map, sym, ap, append-nil}
use Rattle.std.proofs.lemmas.List.Elements.{All-nil}
use Rattle.bcl_event.specs.Merged.{MapHistory}
use Rattle.bcl_phase.specs.Phases.{begun}
use Rattle.bcl_map.specs.declared.note.Note.{Note}
use Rattle.bcl_map.specs.declared.shape.Shape.{Shape}
use Rattle.bcl_map.specs.Map.{finding}
use Rattle.bcl_map.specs.Calls.{MapView}
use Rattle.kmer_walk.specs.Nodes.{nodes_of, starts_of}
use Rattle.kmer_walk.specs.Book.{IsFind, find_of}
use Rattle.kmer_walk.specs.Finds.{Asks, Makes, ChecksAndWalks}
use Rattle.kmer_walk.specs.Texts.{MakesWalks}
use Rattle.kmer_walk.proofs.Makings.{makes_trans}

-- a pass that begins
pub begun_asks : (rest : Note) (key : Shape) (history : MapHistory) (rank : ℕ) (view : MapView) → view ≡ begun rest finding key history rank → Asks history view
begun_asks rest key history rank view is = record {
  promise = ap (λ (v : MapView). v.promise) is;
  late = [];
  since = ap (λ (v : MapView). v.seen) is ∙ sym (append-nil history);
  finds = All-nil (λ e. IsFind e.call);
}

pub checks_then_walks : (k : ℕ) (lines : List (List ℕ)) (shape : Shape) (rank ranks : ℕ) (u v w : MapView) → Makes shape (map (find_of k lines) (nodes_of rank ranks lines)) u v → MakesWalks k lines shape (starts_of k rank ranks lines) v w
    → ChecksAndWalks k lines shape rank ranks u w
checks_then_walks k lines shape rank ranks u v w checks walks = record {
  behind = walks.calls;
  makes = makes_trans shape (map (find_of k lines) (nodes_of rank ranks lines)) walks.calls u v w checks walks.makes;
  walks = walks.walks;
}
