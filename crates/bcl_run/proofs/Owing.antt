-- What a run owes for settings that words ask for.
use Rattle.std.proofs.Common.{◌≡◌, ◌∙◌, ℕ, List, ◌++◌, Option, None, Some, IfSome, Err, take, ap, sym, subst}
use Rattle.std.specs.Io.KnownBytes.{Consumes, Appends, IsAtEnd}
use Rattle.std.proofs.lemmas.List.{append-nil}
use Rattle.bcl_settings.specs.declared.settings.Settings.{Settings}
use Rattle.bcl_settings.specs.Settings.{AsksFor}
use Rattle.bcl_message.specs.declared.stop.Stop.{Stop}
use Rattle.bcl_message.specs.declared.stop.Stop.TheVariants as stops
use Rattle.bcl_run.specs.Verdict.{Verdict, Text, Refused, IsVerdict, verdict}
use Rattle.bcl_run.specs.declared.book.Book.{Book}
use Rattle.bcl_run.specs.Book.{IsBookOf}
use Rattle.bcl_run.specs.Owed.{Excuses, Owed, Devices, TookAll, TookFront}

-- a source that is at its end had left just what was read
pub all_read : (left new : Option (List ℕ)) (bytes : List ℕ) → Consumes left new bytes → IsAtEnd new → IfSome left (λ b. b ≡ bytes)
all_read None new bytes c end = tt
all_read (Some xs) None bytes c end = absurd c
all_read (Some xs) (Some ys) bytes c end = c ∙ (ap (λ rest. bytes ++ rest) end ∙ append-nil bytes)

-- the book of a run on what was read is one on what was left
pub of_left : (left : Option (List ℕ)) (bytes : List ℕ) → IfSome left (λ b. b ≡ bytes)
    → (settings : Settings) (book : Book) → IsBookOf settings bytes book → IfSome left (λ b. IsBookOf settings b book)
of_left None bytes read settings book is = tt
of_left (Some b) bytes read settings book is = subst (λ (x : List ℕ). IsBookOf settings x book) (sym read) is

module _ (words : List (List ℕ)) (settings : Settings) (asks : AsksFor words settings) (bytes : List ℕ) where
  is_verdict : (left : Option (List ℕ)) (v : Verdict) → verdict (Some settings) bytes ≡ v → IfSome left (λ b. b ≡ bytes) → IfSome left (λ b. IsVerdict words b v)
  is_verdict None v is read = tt
  is_verdict (Some b) v is read = (Some settings, asks, ap (verdict (Some settings)) read ∙ is)

  took_all : (left taken taken' : Option (List ℕ)) (text : List ℕ) → verdict (Some settings) bytes ≡ Text text → IfSome left (λ b. b ≡ bytes) → Appends taken taken' text
      → IfSome left (λ b. (text : List ℕ) × IsVerdict words b (Text text) × Appends taken taken' text)
  took_all None taken taken' text is read appends = tt
  took_all (Some b) taken taken' text is read appends = (text, (Some settings, asks, ap (verdict (Some settings)) read ∙ is), appends)

  took_front : (left taken taken' : Option (List ℕ)) (text : List ℕ) (n : ℕ) → verdict (Some settings) bytes ≡ Text text → IfSome left (λ b. b ≡ bytes) → Appends taken taken' (take n text)
      → IfSome left (λ b. (text : List ℕ) × IsVerdict words b (Text text) × (n : ℕ) × Appends taken taken' (take n text))
  took_front None taken taken' text n is read appends = tt
  took_front (Some b) taken taken' text n is read appends = (text, (Some settings, asks, ap (verdict (Some settings)) read ∙ is), n, appends)

  module _ (d : Devices) (read : IfSome d.left_before (λ b. b ≡ bytes)) where
    pub excused : (stop : Stop) → d.read_faults_after ≡ d.read_faults_before → Excuses (verdict (Some settings) bytes) stop → Owed words d (Err stop)
    excused (stops.Refused why) same excuse = (same, is_verdict d.left_before (Refused why) excuse read)
    excused stops.NoMemory same excuse = tt
    excused stops.Usage same excuse = absurd excuse
    excused stops.ReadFault same excuse = absurd excuse
    excused stops.WriteFault same excuse = absurd excuse

    pub owes_all : (text : List ℕ) → verdict (Some settings) bytes ≡ Text text → Appends d.taken_before d.taken_after text → TookAll words d
    owes_all text is appends = took_all d.left_before d.taken_before d.taken_after text is read appends

    pub owes_front : (text : List ℕ) (n : ℕ) → verdict (Some settings) bytes ≡ Text text → Appends d.taken_before d.taken_after (take n text) → TookFront words d
    owes_front text n is appends = took_front d.left_before d.taken_before d.taken_after text n is read appends
