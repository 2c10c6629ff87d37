-- What a run of the program comes to: for each status what was read, written and said, and the book.
use Rattle.std.specs.Prelude.{◌≡◌, ◌≢◌, ℕ, ◌≤◌, ◌⊎◌, ◌↔◌, List, Option, None, Some, take, IfSome}
use Rattle.std.specs.Io.KnownBytes.{Appends, IsAtEnd}
use Rattle.bcl_io.specs.Faults.{Rose}
use Rattle.bcl_message.specs.declared.refusal.Refusal.{Refusal}
use Rattle.bcl_message.specs.Message.{refusal_message, usage_message, read_fault_message, write_fault_message, no_memory_message}
use Rattle.bcl_settings.specs.declared.settings.Settings.{Settings}
use Rattle.bcl_settings.specs.Settings.{Reads}
use Rattle.bcl_run.specs.declared.book.Book.TheVariants as books
use Rattle.bcl_run.specs.declared.program.Ended.{Ended}
use Rattle.bcl_run.specs.Verdict.{Text, Refused, IsVerdict}
use Rattle.bcl_run.specs.Book.{IsBookOf}
use Rattle.bcl_run.specs.Owed.{Tells}

-- the source `src`, the sink `out` of the text and the sink `err` of messages are there before the run, and as `src'`, `out'` and `err'` after it
pub record Headline {S O E : Type 0} (left : S → Option (List ℕ)) (read_faults : S → ℕ) (taken : O → Option (List ℕ)) (write_faults : O → ℕ) (said : E → Option (List ℕ)) (tell_faults : E → ℕ)
    (words : List (List ℕ)) (src src' : S) (out out' : O) (err err' : E) (ended : Ended) : Type 0 where
  -- status 0: the source was read to its end, and the sink took just the text of the verdict
  pub text : ended.status ≡ 0 → IfSome (left src) (λ bytes. (text : List ℕ) × IsVerdict words bytes (Text text) × Appends (taken out) (taken out') text)
  pub book : ended.status ≡ 0 → IfSome (left src) (λ bytes. (settings : Settings) × Reads words (Some settings) × IsBookOf settings bytes ended.book)
  pub read_whole : ended.status ≡ 0 → IsAtEnd (left src') × (read_faults src' ≡ read_faults src)
  -- status 1: the source was read with no fault, and what it had left is refused
  pub refused : ended.status ≡ 1 → IfSome (left src) (λ bytes. (why : Refusal) × IsVerdict words bytes (Refused why))
  pub no_read_fault : ended.status ≡ 1 → read_faults src' ≡ read_faults src
  -- status 2: the words ask for nothing, and nothing was read
  pub usage : (ended.status ≡ 2) ↔ Reads words None
  pub unread : ended.status ≡ 2 → src' ≡ src
  -- statuses 3 and 4: a device failed, and of the text a front was written
  pub read_fault : ended.status ≡ 3 → Rose (read_faults src) (read_faults src')
  pub write_fault : ended.status ≡ 4 → Rose (write_faults out) (write_faults out')
  pub front : ended.status ≡ 4 → IfSome (left src) (λ bytes. (text : List ℕ) × IsVerdict words bytes (Text text) × (n : ℕ) × Appends (taken out) (taken out') (take n text))
  -- the statuses without a text leave its sink as it was, and no status is above 5
  pub untouched : ended.status ≢ 0 → ended.status ≢ 4 → out' ≡ out
  pub no_book : ended.status ≢ 0 → ended.book ≡ books.None
  pub known : ended.status ≤ 5
  -- with status 0 nothing is said, and with each other status its message, where the faults of the sink for it didn't rise
  pub silent : ended.status ≡ 0 → err' ≡ err
  pub refusal_told : ended.status ≡ 1 → IfSome (left src) (λ bytes. (why : Refusal) → IsVerdict words bytes (Refused why) → Tells (tell_faults err) (tell_faults err') (said err) (said err') (refusal_message why))
  pub usage_told : ended.status ≡ 2 → Tells (tell_faults err) (tell_faults err') (said err) (said err') usage_message
  pub read_fault_told : ended.status ≡ 3 → Tells (tell_faults err) (tell_faults err') (said err) (said err') read_fault_message
  pub write_fault_told : ended.status ≡ 4 → Tells (tell_faults err) (tell_faults err') (said err) (said err') write_fault_message
  pub no_memory_told : ended.status ≡ 5 → Tells (tell_faults err) (tell_faults err') (said err) (said err') no_memory_message
  -- where no device failed, an input gets its text or its refusal, unless memory runs out
  pub complete : (bytes text : List ℕ) → left src ≡ Some bytes → IsVerdict words bytes (Text text) → (Rose (read_faults src) (read_faults src') → ⊥) → (Rose (write_faults out) (write_faults out') → ⊥)
      → (ended.status ≡ 0) ⊎ (ended.status ≡ 5)
  pub refuses : (bytes : List ℕ) (why : Refusal) → left src ≡ Some bytes → IsVerdict words bytes (Refused why) → (Rose (read_faults src) (read_faults src') → ⊥) → (ended.status ≡ 1) ⊎ (ended.status ≡ 5)
