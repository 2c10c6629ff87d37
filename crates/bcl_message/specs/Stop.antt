-- Why a run ends without its text, and the status that says so.
-- The status of a run that has its text is 0.
use Rattle.std.specs.Prelude.{ℕ}
use Rattle.bcl_io.specs.declared.fault.ReadFault.{ReadFault}
use Rattle.bcl_io.specs.declared.fault.ReadFault.TheVariants as reads
use Rattle.kmer_text.specs.declared.lines.CutFault.{CutFault}
use Rattle.kmer_text.specs.declared.lines.CutFault.TheVariants as cuts
use Rattle.kmer_text.specs.declared.check.LetterFault.{LetterFault}
use Rattle.kmer_text.specs.declared.check.LetterFault.TheVariants as letters
use Rattle.kmer_text.specs.declared.fault.InputFault.{InputFault}
use Rattle.kmer_paths.specs.declared.fault.WalkFault.{WalkFault}
use Rattle.kmer_paths.specs.declared.fault.WalkFault.TheVariants as walks
use Rattle.bcl_message.specs.declared.refusal.Refusal.TheVariants as refusals
use Rattle.bcl_message.specs.declared.stop.Stop.{Stop}
use Rattle.bcl_message.specs.declared.stop.Stop.TheVariants as stops

abbrev pub status_of : Stop → ℕ
status_of (stops.Refused why) = 1
status_of stops.Usage = 2
status_of stops.ReadFault = 3
status_of stops.WriteFault = 4
status_of stops.NoMemory = 5

abbrev pub stop_of_read : ReadFault → Stop
stop_of_read reads.NoMemory = stops.NoMemory
stop_of_read reads.Failed = stops.ReadFault
stop_of_read reads.TooLarge = stops.Refused refusals.TooManyBytes

abbrev pub stop_of_cut : CutFault → Stop
stop_of_cut cuts.NoMemory = stops.NoMemory
stop_of_cut cuts.TooManyLines = stops.Refused refusals.TooManyLines

abbrev pub stop_of_letters : LetterFault → Stop
stop_of_letters (letters.Bad line) = stops.Refused (refusals.Line line)
stop_of_letters letters.TooManyWindows = stops.Refused refusals.TooManyWindows

abbrev pub stop_of_node : InputFault → Stop
stop_of_node line = stops.Refused (refusals.Line line)

abbrev pub stop_of_walk : WalkFault → Stop
stop_of_walk walks.NoMemory = stops.NoMemory
stop_of_walk (walks.Conflict line) = stops.Refused (refusals.Conflict line)
stop_of_walk walks.TooLong = stops.Refused refusals.TooMuchText
