-- What the program says of a run without a text.
-- Each message is a line, but the usage, which has a line for each mode.
use Rattle.std.specs.Prelude.{ℕ, List, ◌++◌, codes, decimal}
use Rattle.kmer_text.specs.declared.fault.Kind.{Kind}
use Rattle.kmer_text.specs.declared.fault.Kind.TheVariants as kind
use Rattle.bcl_message.specs.declared.refusal.Refusal.{Refusal}
use Rattle.bcl_message.specs.declared.refusal.Refusal.TheVariants.{TooManyBytes, TooManyLines, Line, TooManyWindows, Conflict, TooMuchText}
use Rattle.bcl_message.specs.declared.stop.Stop.{Stop}
use Rattle.bcl_message.specs.declared.stop.Stop.TheVariants as stops

abbrev pub usage_message : List ℕ
usage_message =
    codes "usage: bcl count K [--ranks N] [--min M] [--promise own|any] [--hist]\n"
    ++ (codes "       bcl contigs K [--ranks N] [--promise own|any]\n"
    ++ codes "       bcl drill NUMBER LINES K [--ranks N] [--promise own|any]\n")

-- what is wrong with a line
abbrev pub fault_words : Kind → List ℕ
fault_words kind.Letter = codes "bad letter"
fault_words kind.Length = codes "bad length"
fault_words kind.Tab = codes "no tab"
fault_words kind.Extension = codes "bad extension"

abbrev pub line_message : ℕ → List ℕ → List ℕ
line_message line what = codes "line " ++ (decimal line ++ (codes ": " ++ (what ++ codes "\n")))

abbrev pub refusal_message : Refusal → List ℕ
refusal_message TooManyBytes = codes "too large: more than 67108864 bytes\n"
refusal_message TooManyLines = codes "too large: more than 4194304 lines\n"
refusal_message (Line fault) = line_message fault.line (fault_words fault.kind)
refusal_message TooManyWindows = codes "too large: more than 8388608 windows\n"
refusal_message (Conflict line) = line_message line (codes "conflict")
refusal_message TooMuchText = codes "too large: more than 67108864 bytes of text\n"

abbrev pub read_fault_message : List ℕ
read_fault_message = codes "read fault\n"

abbrev pub write_fault_message : List ℕ
write_fault_message = codes "write fault\n"

abbrev pub no_memory_message : List ℕ
no_memory_message = codes "out of memory\n"

abbrev pub message_of : Stop → List ℕ
message_of (stops.Refused why) = refusal_message why
message_of stops.Usage = usage_message
message_of stops.ReadFault = read_fault_message
message_of stops.WriteFault = write_fault_message
message_of stops.NoMemory = no_memory_message
