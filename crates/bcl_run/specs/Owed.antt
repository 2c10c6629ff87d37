-- What a run owes for the way in which it ends.
use Rattle.std.specs.Prelude.{◌≡◌, ℕ, List, Option, None, Result, Ok, Err, IfSome, take}
use Rattle.std.specs.Io.KnownBytes.{Appends, IsAtEnd}
use Rattle.bcl_io.specs.Faults.{Rose}
use Rattle.bcl_message.specs.declared.stop.Stop.{Stop}
use Rattle.bcl_message.specs.declared.stop.Stop.TheVariants as stops
use Rattle.bcl_settings.specs.Settings.{Reads}
use Rattle.bcl_run.specs.declared.book.Book.{Book}
use Rattle.bcl_run.specs.Verdict.{Verdict, Text, Refused, IsVerdict}

-- what the devices of a run show, before it and after it
pub record Devices : Type 0 where
  pub left_before : Option (List ℕ)
  pub left_after : Option (List ℕ)
  pub read_faults_before : ℕ
  pub read_faults_after : ℕ
  pub taken_before : Option (List ℕ)
  pub taken_after : Option (List ℕ)
  pub write_faults_before : ℕ
  pub write_faults_after : ℕ

-- what is seen of a source and a sink before a run and after it
abbrev pub devices : {A B : Type 0} (left : A → Option (List ℕ)) (read_faults : A → ℕ) (taken : B → Option (List ℕ)) (write_faults : B → ℕ)
    (src src' : A) (out out' : B) → Devices
devices left read_faults taken write_faults src src' out out' = record {
  left_before = left src;
  left_after = left src';
  read_faults_before = read_faults src;
  read_faults_after = read_faults src';
  taken_before = taken out;
  taken_after = taken out';
  write_faults_before = write_faults out;
  write_faults_after = write_faults out';
}

-- the verdict on what was left is a text, and the sink took all of it
abbrev pub TookAll : List (List ℕ) → Devices → Type 0
TookAll words d = IfSome d.left_before (λ bytes. (text : List ℕ) × IsVerdict words bytes (Text text) × Appends d.taken_before d.taken_after text)

-- the verdict is a text, and the sink took a front of it
abbrev pub TookFront : List (List ℕ) → Devices → Type 0
TookFront words d = IfSome d.left_before (λ bytes. (text : List ℕ) × IsVerdict words bytes (Text text) × (n : ℕ) × Appends d.taken_before d.taken_after (take n text))

abbrev pub Owed : List (List ℕ) → Devices → Result Book Stop → Type 0
Owed words d (Ok book) = (d.read_faults_after ≡ d.read_faults_before) × IsAtEnd d.left_after × TookAll words d
Owed words d (Err (stops.Refused why)) = (d.read_faults_after ≡ d.read_faults_before) × IfSome d.left_before (λ bytes. IsVerdict words bytes (Refused why))
Owed words d (Err stops.Usage) = Reads words None
Owed words d (Err stops.ReadFault) = Rose d.read_faults_before d.read_faults_after
Owed words d (Err stops.WriteFault) = Rose d.write_faults_before d.write_faults_after × TookFront words d
Owed words d (Err stops.NoMemory) = Unit {0}

-- the run wrote nothing
abbrev pub WroteNothing : Result Book Stop → Type 0
WroteNothing (Ok book) = ⊥
WroteNothing (Err stops.WriteFault) = ⊥
WroteNothing (Err (stops.Refused why)) = Unit {0}
WroteNothing (Err stops.Usage) = Unit {0}
WroteNothing (Err stops.ReadFault) = Unit {0}
WroteNothing (Err stops.NoMemory) = Unit {0}

-- why an input with this verdict got no text
abbrev pub Excuses : Verdict → Stop → Type 0
Excuses v (stops.Refused why) = v ≡ Refused why
Excuses v stops.NoMemory = Unit {0}
Excuses v stops.Usage = ⊥
Excuses v stops.ReadFault = ⊥
Excuses v stops.WriteFault = ⊥

-- a sink took just a message, unless its faults rose
abbrev pub Tells : (faults faults' : ℕ) (taken taken' : Option (List ℕ)) (message : List ℕ) → Type 0
Tells faults faults' taken taken' message = (Rose faults faults' → ⊥) → Appends taken taken' message
