-- What the program owes a list of words and an input.
-- The reasons to refuse are tried in order, and the first that applies is the verdict.
use Rattle.std.specs.Prelude.{◌≡◌, ℕ, ◌+◌, ◌^◌, nat_lt, List, [], ◌∷◌, Option, Some, None, length}
use Rattle.std.specs.Option.{option_map}
use Rattle.bcl_words.specs.Reasons.{when, first_of}
use Rattle.kmer_text.specs.Lines.{lines}
use Rattle.kmer_text.specs.Letters.{bad_letter}
use Rattle.kmer_text.specs.Windows.{total}
use Rattle.kmer_text.specs.Nodes.{bad_node}
use Rattle.kmer_paths.specs.Keys.{first_conflict}
use Rattle.kmer_paths.specs.Contigs.{contig_text}
use Rattle.kmer_rows.specs.Count.{count_text}
use Rattle.bcl_message.specs.declared.refusal.Refusal.{Refusal}
use Rattle.bcl_message.specs.declared.refusal.Refusal.TheVariants.{TooManyBytes, TooManyLines, Line, TooManyWindows, Conflict, TooMuchText}
use Rattle.bcl_settings.specs.declared.settings.Settings.{Settings}
use Rattle.bcl_settings.specs.declared.settings.Settings.TheVariants.{Count, Contigs, Drill}
use Rattle.bcl_settings.specs.Settings.{Reads}

pub data Verdict : Type 0 where
  Usage : Verdict
  Refused : (why : Refusal) → Verdict
  Text : (text : List ℕ) → Verdict

-- the limits on bytes and lines, and then the reasons of a mode
abbrev pub within_limits : List ℕ → List (Option Refusal) → List (Option Refusal)
within_limits bytes reasons =
    when (nat_lt (2 ^ 26) (length bytes)) TooManyBytes
    ∷ when (nat_lt (2 ^ 22) (length (lines bytes))) TooManyLines
    ∷ reasons

-- the reasons to refuse a count of the bytes
unfoldable pub count_refusals : ℕ → List ℕ → List (Option Refusal)
count_refusals k bytes = within_limits bytes (
    option_map Line (bad_letter (lines bytes))
    ∷ when (nat_lt (2 ^ 23) (total k (lines bytes))) TooManyWindows
    ∷ [])

abbrev pub conflict_at : ℕ → Refusal
conflict_at place = Conflict (place + 1)

-- the reasons to refuse the contigs of the bytes
unfoldable pub contig_refusals : ℕ → List ℕ → List (Option Refusal)
contig_refusals k bytes = within_limits bytes (
    option_map Line (bad_node k (lines bytes))
    ∷ option_map conflict_at (first_conflict k (lines bytes))
    ∷ when (nat_lt (2 ^ 26) (length (contig_text k (lines bytes)))) TooMuchText
    ∷ [])

-- the text, unless a reason to refuse applies
abbrev pub unless : Option Refusal → List ℕ → Verdict
unless (Some why) text = Refused why
unless None text = Text text

-- the verdict on a count of the bytes
abbrev pub counted : ℕ → ℕ → List ℕ → Verdict
counted k least bytes = unless (first_of (count_refusals k bytes)) (count_text k least (lines bytes))

-- the verdict on the contigs of the bytes
abbrev pub walked : ℕ → List ℕ → Verdict
walked k bytes = unless (first_of (contig_refusals k bytes)) (contig_text k (lines bytes))

-- the verdict on settings and bytes. No words ask for a drill yet
abbrev pub verdict : Option Settings → List ℕ → Verdict
verdict None bytes = Usage
verdict (Some (Count k ranks min choice hist)) bytes = counted k min bytes
verdict (Some (Contigs k ranks choice)) bytes = walked k bytes
verdict (Some (Drill number lines k ranks choice)) bytes = Usage

-- the verdict on words and bytes
abbrev pub IsVerdict : List (List ℕ) → List ℕ → Verdict → Type 0
IsVerdict words bytes v = (settings : Option Settings) × Reads words settings × (verdict settings bytes ≡ v)
