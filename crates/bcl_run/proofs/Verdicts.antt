-- When an input is refused, and when it is answered.
use Rattle.std.proofs.Common.{◌≡◌, ◌∙◌, ℕ, ◌+◌, ◌^◌, ◌<◌, ◌≤◌, ltb, List, [], ◌∷◌, length, Option, None, Some, IfSome, Err, ◌⊎◌, inl, inr, take, subst, arith, sym, ap, refl, length-append}
use Rattle.std.specs.Option.{option_map, option_or}
use Rattle.std.specs.Io.KnownBytes.{Consumes, Appends}
use Rattle.std.proofs.lemmas.Bool.{lt-ltb, le-ltb}
use Rattle.std.proofs.lemmas.Option.{none-some}
use Rattle.bcl_words.specs.Reasons.{when, first_of}
use Rattle.bcl_words.proofs.ReasonsLemmas.{first_of-applies, first_of-passes}
use Rattle.bcl_io.specs.declared.fault.ReadFault.{ReadFault}
use Rattle.bcl_io.specs.declared.fault.ReadFault.TheVariants as reads
use Rattle.bcl_io.specs.Faults.{Rose}
use Rattle.kmer_text.specs.declared.fault.InputFault.{InputFault}
use Rattle.kmer_text.specs.declared.lines.CutFault.{CutFault}
use Rattle.kmer_text.specs.declared.lines.CutFault.TheVariants as cuts
use Rattle.kmer_text.specs.declared.check.LetterFault.{LetterFault}
use Rattle.kmer_text.specs.declared.check.LetterFault.TheVariants as letters
use Rattle.kmer_text.specs.Lines.{lines}
use Rattle.kmer_text.specs.Letters.{bad_letter}
use Rattle.kmer_text.specs.Windows.{total}
use Rattle.kmer_text.specs.Nodes.{bad_node}
use Rattle.kmer_paths.specs.declared.fault.WalkFault.{WalkFault}
use Rattle.kmer_paths.specs.declared.fault.WalkFault.TheVariants as walks
use Rattle.kmer_paths.specs.Keys.{first_conflict}
use Rattle.kmer_paths.specs.Contigs.{contig_text}
use Rattle.kmer_rows.specs.Count.{count_text}
use Rattle.bcl_message.specs.declared.refusal.Refusal.{Refusal}
use Rattle.bcl_message.specs.declared.refusal.Refusal.TheVariants.{TooManyBytes, TooManyLines, Line, TooManyWindows, Conflict, TooMuchText}
use Rattle.bcl_settings.specs.declared.settings.Settings.{Settings}
use Rattle.bcl_settings.specs.declared.settings.Settings.TheVariants.{Count, Contigs, Drill}
use Rattle.bcl_message.specs.declared.stop.Stop.{Stop}
use Rattle.bcl_message.specs.declared.stop.Stop.TheVariants as stops
use Rattle.bcl_settings.specs.Settings.{AsksFor, Reads}
use Rattle.bcl_run.specs.Verdict.{Verdict, Usage, Text, Refused, IsVerdict, verdict, counted, walked, unless, within_limits, count_refusals, conflict_at, contig_refusals}
use Rattle.bcl_message.specs.Stop.{status_of, stop_of_read, stop_of_cut, stop_of_letters, stop_of_walk}
use Rattle.bcl_run.specs.Owed.{Excuses, Owed, Devices, TookAll}
use Rattle.bcl_settings.proofs.Asked.{drill_unasked}
use Rattle.bcl_settings.proofs.Reading.{once}

-- ---- the first reason that applies
applies : (n m : ℕ) (why : Refusal) (rest : List (Option Refusal)) → n < m → first_of (when (ltb n m) why ∷ rest) ≡ Some why
applies n m why rest h = first_of-applies (ltb n m) why rest (lt-ltb n m h)

passes : (n m : ℕ) (why : Refusal) (rest : List (Option Refusal)) → m ≤ n → first_of (when (ltb n m) why ∷ rest) ≡ first_of rest
passes n m why rest h = first_of-passes (ltb n m) why rest (le-ltb n m h)

-- ---- the limits come before the reasons of a mode
module _ (bytes : List ℕ) (reasons : List (Option Refusal)) where
  abbrev lines_reasons : List (Option Refusal)
  lines_reasons = when (ltb (2 ^ 22) (length (lines bytes))) TooManyLines ∷ reasons

  too_long : 2 ^ 26 < length bytes → first_of (within_limits bytes reasons) ≡ Some TooManyBytes
  too_long long = applies (2 ^ 26) (length bytes) TooManyBytes lines_reasons long

  module _ (short : length bytes ≤ 2 ^ 26) where
    many_lines : 2 ^ 22 < length (lines bytes) → first_of (within_limits bytes reasons) ≡ Some TooManyLines
    many_lines many = passes (2 ^ 26) (length bytes) TooManyBytes lines_reasons short ∙ applies (2 ^ 22) (length (lines bytes)) TooManyLines reasons many

    to_mode : length (lines bytes) ≤ 2 ^ 22 → first_of (within_limits bytes reasons) ≡ first_of reasons
    to_mode few = passes (2 ^ 26) (length bytes) TooManyBytes lines_reasons short ∙ passes (2 ^ 22) (length (lines bytes)) TooManyLines reasons few

    cut_excuse : (text : List ℕ) (fault : CutFault) → (fault ≡ cuts.TooManyLines → 2 ^ 22 < length (lines bytes))
        → Excuses (unless (first_of (within_limits bytes reasons)) text) (stop_of_cut fault)
    cut_excuse text cuts.NoMemory many = tt
    cut_excuse text cuts.TooManyLines many = ap (λ o. unless o text) (many_lines (many refl))

-- ---- the verdict on a count
module _ (k least : ℕ) (bytes : List ℕ) where
  abbrev ls : List (List ℕ)
  ls = lines bytes

  abbrev windows_reason : List (Option Refusal)
  windows_reason = when (ltb (2 ^ 23) (total k ls)) TooManyWindows ∷ []

  abbrev letters_reasons : List (Option Refusal)
  letters_reasons = option_map Line (bad_letter ls) ∷ windows_reason

  pub count_cut_excuse : (fault : CutFault) → length bytes ≤ 2 ^ 26 → (fault ≡ cuts.TooManyLines → 2 ^ 22 < length ls) → Excuses (counted k least bytes) (stop_of_cut fault)
  unfolding count_refusals
  count_cut_excuse fault short many = cut_excuse bytes letters_reasons short (count_text k least ls) fault many

  count_too_long : 2 ^ 26 < length bytes → counted k least bytes ≡ Refused TooManyBytes
  unfolding count_refusals
  count_too_long long = ap (λ o. unless o (count_text k least ls)) (too_long bytes letters_reasons long)

  module _ (short : length bytes ≤ 2 ^ 26) (few : length ls ≤ 2 ^ 22) where
    to_letters : first_of (count_refusals k bytes) ≡ first_of letters_reasons
    unfolding count_refusals
    to_letters = to_mode bytes letters_reasons short few

    bad_line : (fault : InputFault) → bad_letter ls ≡ Some fault → first_of (count_refusals k bytes) ≡ Some (Line fault)
    bad_line fault bad = to_letters ∙ ap (λ o. option_or (option_map Line o) (first_of windows_reason)) bad

    to_windows : bad_letter ls ≡ None → first_of (count_refusals k bytes) ≡ first_of windows_reason
    to_windows none = to_letters ∙ ap (λ o. option_or (option_map Line o) (first_of windows_reason)) none

    pub letters_excuse : (fault : LetterFault) → ((line : InputFault) → fault ≡ letters.Bad line → bad_letter ls ≡ Some line)
        → (fault ≡ letters.TooManyWindows → (bad_letter ls ≡ None) × (2 ^ 23 < total k ls)) → Excuses (counted k least bytes) (stop_of_letters fault)
    letters_excuse (letters.Bad line) bad many = ap (λ o. unless o (count_text k least ls)) (bad_line line (bad line refl))
    letters_excuse letters.TooManyWindows bad many =
        ap (λ o. unless o (count_text k least ls)) (to_windows (many refl).0 ∙ applies (2 ^ 23) (total k ls) TooManyWindows [] (many refl).1)

    pub count_answers : bad_letter ls ≡ None → total k ls ≤ 2 ^ 23 → counted k least bytes ≡ Text (count_text k least ls)
    count_answers none small = ap (λ o. unless o (count_text k least ls)) (to_windows none ∙ passes (2 ^ 23) (total k ls) TooManyWindows [] small)

-- ---- the verdict on contigs
module _ (k : ℕ) (bytes : List ℕ) where
  abbrev nodes : List (List ℕ)
  nodes = lines bytes

  abbrev text_reason : List (Option Refusal)
  text_reason = when (ltb (2 ^ 26) (length (contig_text k nodes))) TooMuchText ∷ []

  abbrev conflict_reasons : List (Option Refusal)
  conflict_reasons = option_map conflict_at (first_conflict k nodes) ∷ text_reason

  abbrev node_reasons : List (Option Refusal)
  node_reasons = option_map Line (bad_node k nodes) ∷ conflict_reasons

  pub contig_cut_excuse : (fault : CutFault) → length bytes ≤ 2 ^ 26 → (fault ≡ cuts.TooManyLines → 2 ^ 22 < length nodes) → Excuses (walked k bytes) (stop_of_cut fault)
  unfolding contig_refusals
  contig_cut_excuse fault short many = cut_excuse bytes node_reasons short (contig_text k nodes) fault many

  contigs_too_long : 2 ^ 26 < length bytes → walked k bytes ≡ Refused TooManyBytes
  unfolding contig_refusals
  contigs_too_long long = ap (λ o. unless o (contig_text k nodes)) (too_long bytes node_reasons long)

  module _ (short : length bytes ≤ 2 ^ 26) (few : length nodes ≤ 2 ^ 22) where
    to_nodes : first_of (contig_refusals k bytes) ≡ first_of node_reasons
    unfolding contig_refusals
    to_nodes = to_mode bytes node_reasons short few

    pub node_excuse : (line : InputFault) → bad_node k nodes ≡ Some line → walked k bytes ≡ Refused (Line line)
    node_excuse line bad = ap (λ o. unless o (contig_text k nodes)) (to_nodes ∙ ap (λ o. option_or (option_map Line o) (first_of conflict_reasons)) bad)

    module _ (good : bad_node k nodes ≡ None) where
      to_conflict : first_of (contig_refusals k bytes) ≡ first_of conflict_reasons
      to_conflict = to_nodes ∙ ap (λ o. option_or (option_map Line o) (first_of conflict_reasons)) good

      to_text : first_conflict k nodes ≡ None → first_of (contig_refusals k bytes) ≡ first_of text_reason
      to_text none = to_conflict ∙ ap (λ o. option_or (option_map conflict_at o) (first_of text_reason)) none

      pub walk_excuse : (fault : WalkFault) → ((n : ℕ) → fault ≡ walks.Conflict n → option_map (λ place. place + 1) (first_conflict k nodes) ≡ Some n)
          → (fault ≡ walks.TooLong → (first_conflict k nodes ≡ None) × (2 ^ 26 < length (contig_text k nodes))) → Excuses (walked k bytes) (stop_of_walk fault)
      walk_excuse walks.NoMemory conflict long = tt
      walk_excuse (walks.Conflict n) conflict long =
          ap (λ o. unless o (contig_text k nodes)) (to_conflict ∙ ap (λ o. option_or o (first_of text_reason)) (named (first_conflict k nodes) n (conflict n refl)))
        where
          named : (o : Option ℕ) (n : ℕ) → option_map (λ place. place + 1) o ≡ Some n → option_map conflict_at o ≡ Some (Conflict n)
          named None n e = absurd (none-some n e)
          named (Some place) n e = let same : place + 1 ≡ n = cc in ap (λ m. Some (Conflict m)) same
      walk_excuse walks.TooLong conflict long =
          ap (λ o. unless o (contig_text k nodes)) (to_text (long refl).0 ∙ applies (2 ^ 26) (length (contig_text k nodes)) TooMuchText [] (long refl).1)

      pub contig_answers : first_conflict k nodes ≡ None → length (contig_text k nodes) ≤ 2 ^ 26 → walked k bytes ≡ Text (contig_text k nodes)
      contig_answers none small = ap (λ o. unless o (contig_text k nodes)) (to_text none ∙ passes (2 ^ 26) (length (contig_text k nodes)) TooMuchText [] small)

-- what no fault is named for has none
pub none_named : (o : Option InputFault) → ((fault : InputFault) → o ≡ Some fault → ⊥) → o ≡ None
none_named None none = refl
none_named (Some fault) none = absurd (none fault refl)

-- ---- what was read
consumed_length : (left new : Option (List ℕ)) (taken : List ℕ) → Consumes left new taken → IfSome left (λ bytes. length taken ≤ length bytes)
consumed_length None new taken c = tt
consumed_length (Some xs) None taken c = absurd c
consumed_length (Some xs) (Some ys) taken c = omega (arith, ap length c, length-append taken ys)

-- too many bytes are refused whatever is asked for
long_refused : (words : List (List ℕ)) (settings : Settings) (bytes : List ℕ) → AsksFor words settings → 2 ^ 26 < length bytes → verdict (Some settings) bytes ≡ Refused TooManyBytes
long_refused words (Count k ranks min choice hist) bytes asks long = count_too_long k min bytes long
long_refused words (Contigs k ranks choice) bytes asks long = contigs_too_long k bytes long
long_refused words (Drill number lines k ranks choice) bytes asks long = absurd (drill_unasked words number lines k ranks choice asks)

too_large : (words : List (List ℕ)) (settings : Settings) (left new : Option (List ℕ)) (taken : List ℕ) → Reads words (Some settings) → 2 ^ 26 < length taken → Consumes left new taken
    → IfSome left (λ bytes. IsVerdict words bytes (Refused TooManyBytes))
too_large words settings None new taken asks long c = tt
too_large words settings (Some bytes) new taken asks long c =
    (Some settings, asks, long_refused words settings bytes asks (omega (arith, consumed_length (Some bytes) new taken c)))

pub read_owes : (words : List (List ℕ)) (d : Devices) (settings : Settings) (fault : ReadFault) → Reads words (Some settings)
    → (fault ≡ reads.Failed → Rose d.read_faults_before d.read_faults_after) → ((fault ≡ reads.Failed → ⊥) → d.read_faults_after ≡ d.read_faults_before)
    → (fault ≡ reads.TooLarge → (taken : List ℕ) × (2 ^ 26 < length taken) × Consumes d.left_before d.left_after taken)
    → Owed words d (Err (stop_of_read fault))
read_owes words d settings reads.Failed asks failed same large = failed refl
read_owes words d settings reads.NoMemory asks failed same large = tt
read_owes words d settings reads.TooLarge asks failed same large =
    let l = large refl in (same (λ e. cc), too_large words settings d.left_before d.left_after l.0 asks l.1 l.2)

-- ---- one verdict
pub one_verdict : (words : List (List ℕ)) (bytes : List ℕ) (v w : Verdict) → IsVerdict words bytes v → IsVerdict words bytes w → v ≡ w
one_verdict words bytes v w p q = sym p.2 ∙ (ap (λ settings. verdict settings bytes) (once words p.0 q.0 p.1 q.1) ∙ q.2)

at_some : {X : Type 0} (o : Option X) (x : X) (P : X → Type 0) → o ≡ Some x → IfSome o P → P x
at_some {X = X} o x P e h = let Q : Option X → Type 0 = λ p. IfSome p P in subst Q e h

with_reason : (words : List (List ℕ)) (left : Option (List ℕ)) (why : Refusal) → IfSome left (λ bytes. IsVerdict words bytes (Refused why))
    → IfSome left (λ bytes. (reason : Refusal) × IsVerdict words bytes (Refused reason))
with_reason words None why h = tt
with_reason words (Some bytes) why h = (why, h)

-- ---- what each status says
pub status_refused : (words : List (List ℕ)) (d : Devices) (stop : Stop) → Owed words d (Err stop) → status_of stop ≡ 1
    → IfSome d.left_before (λ bytes. (why : Refusal) × IsVerdict words bytes (Refused why))
status_refused words d (stops.Refused why) o e = with_reason words d.left_before why o.1
status_refused words d stops.Usage o e = absurd (omega arith)
status_refused words d stops.ReadFault o e = absurd (omega arith)
status_refused words d stops.WriteFault o e = absurd (omega arith)
status_refused words d stops.NoMemory o e = absurd (omega arith)

module _ (words : List (List ℕ)) (d : Devices) (bytes : List ℕ) (told : d.left_before ≡ Some bytes) (no_fault : Rose d.read_faults_before d.read_faults_after → ⊥) where
  -- an input that has a text gets it
  pub completes : (stop : Stop) (text : List ℕ) → Owed words d (Err stop) → IsVerdict words bytes (Text text) → (Rose d.write_faults_before d.write_faults_after → ⊥)
      → (status_of stop ≡ 0) ⊎ (status_of stop ≡ 5)
  completes (stops.Refused why) text o v no_write =
      let refused = at_some d.left_before bytes (λ b. IsVerdict words b (Refused why)) told o.1 in
      let same : Refused why ≡ Text text = one_verdict words bytes (Refused why) (Text text) refused v in
      absurd (cc)
  completes stops.Usage text o v no_write =
      let same : Usage ≡ Text text = one_verdict words bytes Usage (Text text) (None, o, refl) v in
      absurd (cc)
  completes stops.ReadFault text o v no_write = absurd (no_fault o)
  completes stops.WriteFault text o v no_write = absurd (no_write o.0)
  completes stops.NoMemory text o v no_write = inr refl

  -- one that is refused gets its refusal
  pub refuses_it : (stop : Stop) (why : Refusal) → Owed words d (Err stop) → IsVerdict words bytes (Refused why) → (status_of stop ≡ 1) ⊎ (status_of stop ≡ 5)
  refuses_it (stops.Refused why') why o v = inl refl
  refuses_it stops.Usage why o v =
      let same : Usage ≡ Refused why = one_verdict words bytes Usage (Refused why) (None, o, refl) v in
      absurd (cc)
  refuses_it stops.ReadFault why o v = absurd (no_fault o)
  refuses_it stops.WriteFault why o v =
      let took = at_some d.left_before bytes (λ b. (text : List ℕ) × IsVerdict words b (Text text) × (n : ℕ) × Appends d.taken_before d.taken_after (take n text)) told o.1 in
      let same : Text took.0 ≡ Refused why = one_verdict words bytes (Text took.0) (Refused why) took.1 v in
      absurd (cc)
  refuses_it stops.NoMemory why o v = inr refl

  -- and no text
  pub never_text : (why : Refusal) → TookAll words d → IsVerdict words bytes (Refused why) → ⊥
  never_text why o v =
      let took = at_some d.left_before bytes (λ b. (text : List ℕ) × IsVerdict words b (Text text) × Appends d.taken_before d.taken_after text) told o in
      let same : Text took.0 ≡ Refused why = one_verdict words bytes (Text took.0) (Refused why) took.1 v in
      absurd (cc)
