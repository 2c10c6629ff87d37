-- From what a run owes to the headline.
use Rattle.std.proofs.Common.{◌≡◌, ◌≢◌, ◌∙◌, ◌⊎◌, ℕ, ◌≤◌, List, Option, None, Some, Ok, Err, refl, sym, ap, subst, arith, inl}
use Rattle.std.specs.Prelude.{IfSome, take}
use Rattle.std.specs.Io.KnownBytes.{Appends}
use Rattle.bcl_io.specs.Faults.{Rose}
use Rattle.bcl_message.specs.declared.stop.Stop.{Stop}
use Rattle.bcl_message.specs.declared.stop.Stop.TheVariants as stops
use Rattle.bcl_message.specs.Stop.{status_of}
use Rattle.bcl_message.specs.Message.{message_of, read_fault_message, write_fault_message, no_memory_message}
use Rattle.bcl_settings.specs.declared.settings.Settings.{Settings}
use Rattle.bcl_settings.specs.Settings.{Reads, AsksFor}
use Rattle.bcl_run.specs.declared.book.Book.{Book}
use Rattle.bcl_run.specs.declared.book.Book.TheVariants as books
use Rattle.bcl_run.specs.declared.program.Ended.{Ended}
use Rattle.bcl_run.specs.Verdict.{Text, IsVerdict}
use Rattle.bcl_run.specs.Book.{IsBookOf}
use Rattle.bcl_run.specs.Owed.{Devices, devices, Owed, WroteNothing, Tells}
use Rattle.bcl_run.specs.Headline.{Headline}
use Rattle.bcl_run.proofs.Verdicts.{status_refused, completes, refuses_it, never_text}
use Rattle.bcl_run.proofs.Told.{refusal_told}

-- ---- what the status of a stop tells of it

not_zero : (stop : Stop) → status_of stop ≡ 0 → ⊥
not_zero (stops.Refused why) e = absurd (omega (arith, e))
not_zero stops.Usage e = absurd (omega (arith, e))
not_zero stops.ReadFault e = absurd (omega (arith, e))
not_zero stops.WriteFault e = absurd (omega (arith, e))
not_zero stops.NoMemory e = absurd (omega (arith, e))

at_most_five : (stop : Stop) → status_of stop ≤ 5
at_most_five (stops.Refused why) = omega arith
at_most_five stops.Usage = omega arith
at_most_five stops.ReadFault = omega arith
at_most_five stops.WriteFault = omega arith
at_most_five stops.NoMemory = omega arith

wrote_nothing : (stop : Stop) → status_of stop ≢ 4 → WroteNothing (Err stop)
wrote_nothing (stops.Refused why) other = tt
wrote_nothing stops.Usage other = tt
wrote_nothing stops.ReadFault other = tt
wrote_nothing stops.WriteFault other = absurd (other refl)
wrote_nothing stops.NoMemory other = tt

says_read_fault : (stop : Stop) → status_of stop ≡ 3 → message_of stop ≡ read_fault_message
says_read_fault (stops.Refused why) e = absurd (omega (arith, e))
says_read_fault stops.Usage e = absurd (omega (arith, e))
says_read_fault stops.ReadFault e = refl
says_read_fault stops.WriteFault e = absurd (omega (arith, e))
says_read_fault stops.NoMemory e = absurd (omega (arith, e))

says_write_fault : (stop : Stop) → status_of stop ≡ 4 → message_of stop ≡ write_fault_message
says_write_fault (stops.Refused why) e = absurd (omega (arith, e))
says_write_fault stops.Usage e = absurd (omega (arith, e))
says_write_fault stops.ReadFault e = absurd (omega (arith, e))
says_write_fault stops.WriteFault e = refl
says_write_fault stops.NoMemory e = absurd (omega (arith, e))

says_no_memory : (stop : Stop) → status_of stop ≡ 5 → message_of stop ≡ no_memory_message
says_no_memory (stops.Refused why) e = absurd (omega (arith, e))
says_no_memory stops.Usage e = absurd (omega (arith, e))
says_no_memory stops.ReadFault e = absurd (omega (arith, e))
says_no_memory stops.WriteFault e = absurd (omega (arith, e))
says_no_memory stops.NoMemory e = refl

pub is_usage : (stop : Stop) → status_of stop ≡ 2 → stop ≡ stops.Usage
is_usage (stops.Refused why) e = absurd (omega (arith, e))
is_usage stops.Usage e = refl
is_usage stops.ReadFault e = absurd (omega (arith, e))
is_usage stops.WriteFault e = absurd (omega (arith, e))
is_usage stops.NoMemory e = absurd (omega (arith, e))

-- ---- and with what is owed
module _ (words : List (List ℕ)) (d : Devices) where
  same_faults : (stop : Stop) → Owed words d (Err stop) → status_of stop ≡ 1 → d.read_faults_after ≡ d.read_faults_before
  same_faults (stops.Refused why) o e = o.0
  same_faults stops.Usage o e = absurd (omega (arith, e))
  same_faults stops.ReadFault o e = absurd (omega (arith, e))
  same_faults stops.WriteFault o e = absurd (omega (arith, e))
  same_faults stops.NoMemory o e = absurd (omega (arith, e))

  read_rose : (stop : Stop) → Owed words d (Err stop) → status_of stop ≡ 3 → Rose d.read_faults_before d.read_faults_after
  read_rose (stops.Refused why) o e = absurd (omega (arith, e))
  read_rose stops.Usage o e = absurd (omega (arith, e))
  read_rose stops.ReadFault o e = o
  read_rose stops.WriteFault o e = absurd (omega (arith, e))
  read_rose stops.NoMemory o e = absurd (omega (arith, e))

  write_rose : (stop : Stop) → Owed words d (Err stop) → status_of stop ≡ 4 → Rose d.write_faults_before d.write_faults_after
  write_rose (stops.Refused why) o e = absurd (omega (arith, e))
  write_rose stops.Usage o e = absurd (omega (arith, e))
  write_rose stops.ReadFault o e = absurd (omega (arith, e))
  write_rose stops.WriteFault o e = o.0
  write_rose stops.NoMemory o e = absurd (omega (arith, e))

  took_front : (stop : Stop) → Owed words d (Err stop) → status_of stop ≡ 4
      → IfSome d.left_before (λ bytes. (text : List ℕ) × IsVerdict words bytes (Text text) × (n : ℕ) × Appends d.taken_before d.taken_after (take n text))
  took_front (stops.Refused why) o e = absurd (omega (arith, e))
  took_front stops.Usage o e = absurd (omega (arith, e))
  took_front stops.ReadFault o e = absurd (omega (arith, e))
  took_front stops.WriteFault o e = o.1
  took_front stops.NoMemory o e = absurd (omega (arith, e))

  asks_nothing : (stop : Stop) → Owed words d (Err stop) → status_of stop ≡ 2 → Reads words None
  asks_nothing (stops.Refused why) o e = absurd (omega (arith, e))
  asks_nothing stops.Usage o e = o
  asks_nothing stops.ReadFault o e = absurd (omega (arith, e))
  asks_nothing stops.WriteFault o e = absurd (omega (arith, e))
  asks_nothing stops.NoMemory o e = absurd (omega (arith, e))

with_settings : (words : List (List ℕ)) (settings : Settings) (book : Book) (left : Option (List ℕ)) → AsksFor words settings → IfSome left (λ bytes. IsBookOf settings bytes book)
    → IfSome left (λ bytes. (s : Settings) × Reads words (Some s) × IsBookOf s bytes book)
with_settings words settings book None asks is = tt
with_settings words settings book (Some bytes) asks is = (settings, asks, is)

module _ {S O E : Type 0} (left : S → Option (List ℕ)) (read_faults : S → ℕ) (taken : O → Option (List ℕ)) (write_faults : O → ℕ) (said : E → Option (List ℕ)) (tell_faults : E → ℕ)
    (words : List (List ℕ)) (src src' : S) (out out' : O) (err err' : E) (ended : Ended) where
  abbrev d : Devices
  d = devices left read_faults taken write_faults src src' out out'

  -- a run that has its text
  pub done : (settings : Settings) → AsksFor words settings → ended.status ≡ 0 → Owed words d (Ok ended.book) → IfSome (left src) (λ bytes. IsBookOf settings bytes ended.book) → err' ≡ err
      → Headline left read_faults taken write_faults said tell_faults words src src' out out' err err' ended
  done settings asks is owed book same = record {
    text = λ e. owed.2;
    book = λ e. with_settings words settings ended.book (left src) asks book;
    read_whole = λ e. (owed.1, owed.0);
    refused = λ e. absurd (omega (arith, e, is));
    no_read_fault = λ e. absurd (omega (arith, e, is));
    usage = (λ e. absurd (omega (arith, e, is)), λ none. absurd (none settings asks));
    unread = λ e. absurd (omega (arith, e, is));
    read_fault = λ e. absurd (omega (arith, e, is));
    write_fault = λ e. absurd (omega (arith, e, is));
    front = λ e. absurd (omega (arith, e, is));
    untouched = λ some other. absurd (some is);
    no_book = λ some. absurd (some is);
    known = omega (arith, is);
    silent = λ e. same;
    refusal_told = λ e. absurd (omega (arith, e, is));
    usage_told = λ e. absurd (omega (arith, e, is));
    read_fault_told = λ e. absurd (omega (arith, e, is));
    write_fault_told = λ e. absurd (omega (arith, e, is));
    no_memory_told = λ e. absurd (omega (arith, e, is));
    complete = λ bytes text told verdict no_fault no_write. inl is;
    refuses = λ bytes why told verdict no_fault. absurd (never_text words d bytes told no_fault why owed.2 verdict);
  }

  -- a run that has none
  pub ended_without : (stop : Stop) → ended.status ≡ status_of stop → Owed words d (Err stop) → (Reads words None → status_of stop ≡ 2) → (status_of stop ≡ 2 → src' ≡ src) → (WroteNothing (Err stop) → out' ≡ out)
      → ended.book ≡ books.None → Tells (tell_faults err) (tell_faults err') (said err) (said err') (message_of stop)
      → Headline left read_faults taken write_faults said tell_faults words src src' out out' err err' ended
  ended_without stop is owed usage unread untouched no_book tells =
      let P : List ℕ → Type 0 = λ message. Tells (tell_faults err) (tell_faults err') (said err) (said err') message in
      let Q : ℕ → Type 0 = λ status. (status ≡ 0) ⊎ (status ≡ 5) in
      let R : ℕ → Type 0 = λ status. (status ≡ 1) ⊎ (status ≡ 5) in
      record {
        text = λ e. absurd (not_zero stop (sym is ∙ e));
        book = λ e. absurd (not_zero stop (sym is ∙ e));
        read_whole = λ e. absurd (not_zero stop (sym is ∙ e));
        refused = λ e. status_refused words d stop owed (sym is ∙ e);
        no_read_fault = λ e. same_faults words d stop owed (sym is ∙ e);
        usage = (λ e. asks_nothing words d stop owed (sym is ∙ e), λ none. is ∙ usage none);
        unread = λ e. unread (sym is ∙ e);
        read_fault = λ e. read_rose words d stop owed (sym is ∙ e);
        write_fault = λ e. write_rose words d stop owed (sym is ∙ e);
        front = λ e. took_front words d stop owed (sym is ∙ e);
        untouched = λ some other. untouched (wrote_nothing stop (λ e. other (is ∙ e)));
        no_book = λ some. no_book;
        known = subst (λ (n : ℕ). n ≤ 5) (sym is) (at_most_five stop);
        silent = λ e. absurd (not_zero stop (sym is ∙ e));
        refusal_told = λ e. refusal_told (tell_faults err) (tell_faults err') (said err) (said err') words d stop owed (sym is ∙ e) tells;
        usage_told = λ e. subst P (ap message_of (is_usage stop (sym is ∙ e))) tells;
        read_fault_told = λ e. subst P (says_read_fault stop (sym is ∙ e)) tells;
        write_fault_told = λ e. subst P (says_write_fault stop (sym is ∙ e)) tells;
        no_memory_told = λ e. subst P (says_no_memory stop (sym is ∙ e)) tells;
        complete = λ bytes text told verdict no_fault no_write. subst Q (sym is) (completes words d bytes told no_fault stop text owed verdict no_write);
        refuses = λ bytes why told verdict no_fault. subst R (sym is) (refuses_it words d bytes told no_fault stop why owed verdict);
      }
