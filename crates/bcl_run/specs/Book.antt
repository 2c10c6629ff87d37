-- The book of a run: the history of the map that its ranks shared.
-- It is that of a count of what was read, or that of its contigs; a run without a text has none.
use Rattle.std.specs.Prelude.{ℕ, List}
use Rattle.kmer_text.specs.Lines.{lines}
use Rattle.kmer_count.specs.Book.{CountBook}
use Rattle.kmer_walk.specs.Book.{ContigBook}
use Rattle.bcl_map.specs.Parts.{closed_view}
use Rattle.bcl_settings.specs.declared.settings.Settings.{Settings}
use Rattle.bcl_settings.specs.declared.settings.Settings.TheVariants.{Count, Contigs, Drill}
use Rattle.bcl_run.specs.declared.book.Book.{Book}
use Rattle.bcl_run.specs.declared.book.Book.TheVariants as books

-- the book is that of a count of the lines of the bytes
abbrev pub IsCountOf : ℕ → ℕ → List ℕ → Book → Type 0
IsCountOf k ranks bytes (books.Count closed) = CountBook k ranks (lines bytes) (closed_view closed).seen
IsCountOf k ranks bytes (books.Nodes closed) = ⊥
IsCountOf k ranks bytes books.None = ⊥

-- the book is that of the contigs of the lines of the bytes
abbrev pub IsNodesOf : ℕ → ℕ → List ℕ → Book → Type 0
IsNodesOf k ranks bytes (books.Nodes closed) = ContigBook k (lines bytes) ranks (closed_view closed).seen
IsNodesOf k ranks bytes (books.Count closed) = ⊥
IsNodesOf k ranks bytes books.None = ⊥

-- the book is that of a run on the bytes with these settings. No words ask for a drill yet
abbrev pub IsBookOf : Settings → List ℕ → Book → Type 0
IsBookOf (Count k ranks min choice hist) bytes book = IsCountOf k ranks bytes book
IsBookOf (Contigs k ranks choice) bytes book = IsNodesOf k ranks bytes book
IsBookOf (Drill number lines k ranks choice) bytes book = ⊥
