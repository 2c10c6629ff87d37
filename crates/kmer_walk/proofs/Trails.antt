-- The walk from a start by finds: where it has come to, what it has put and what it has found.
use Rattle.std.proofs.Common.{◌≡◌, ◌≢◌, ◌∙◌, ℕ, suc, ◌+◌, ◌-◌, ◌*◌, ◌/◌, ◌%◌, ◌^◌, ◌<◌, ◌≤◌, Bool, true, false, cond, eqb, ◌||◌, List, [], ◌∷◌, ◌++◌, length, map, take, drop, get_or, Option, None, Some, BTreeSet, arith, refl, sym, ap, subst, append_assoc, append-nil, length-append, length-take-le, eqb-true, eq-eqb, ⊎_elim}
use Rattle.std.specs.List.{list_any}
use Rattle.std.specs.Option.{option_map, option_map_or}
use Rattle.std.specs.Cmp.{both_ways}
use Rattle.std.specs.Ordering.{nat_cmp, is_eq}
use Rattle.std.specs.BTreeMap.{is_at}
use Rattle.std.specs.BTreeSet.{contains}
use Rattle.std.proofs.Math.Nat.{mod-lt}
use Rattle.std.proofs.lemmas.Bool.{and_parts, and_from, cond-true, cond-false, cases_Bool, or_cases}
use Rattle.std.proofs.lemmas.Cmp.{nat_cmp_total, tied_itself}
use Rattle.std.proofs.lemmas.List.{map-append, drop-append-le}
use Rattle.std.proofs.lemmas.List.Elements.{All-nil, All-cons}
use Rattle.std.proofs.lemmas.List.Quantifiers.{position-Some}
use Rattle.std.proofs.lemmas.Map.Lookups.{exact_unsigned}
use Rattle.std.proofs.lemmas.Map.Views.{tells_apart}
use Rattle.std.proofs.lemmas.Option.{none-some, same_Some}
use Rattle.std.proofs.lemmas.Slice.Eq.{bytes_eq-Decides}
use Rattle.bcl_words.specs.Numbers.{one_word}
use Rattle.bcl_event.specs.declared.map.MapCall.TheVariants.{Find}
use Rattle.bcl_event.specs.Merged.{MapHistory}
use Rattle.bcl_map.specs.declared.shape.Shape.{Shape}
use Rattle.bcl_map.specs.Calls.{MapView}
use Rattle.kmer_text.specs.declared.node.Node.{Node}
use Rattle.kmer_text.specs.Kmers.{IsKmerLength, digit_of, letter_of, number_of, word_of}
use Rattle.kmer_text.specs.NodeLaws.{fields_same}
use Rattle.kmer_text.specs.Letters.{is_letter}
use Rattle.kmer_text.specs.Nodes.{bad_node, code_of, is_extension, line_at}
use Rattle.kmer_text.proofs.GoodNodes.{node-good, extensions-good}
use Rattle.kmer_text.proofs.Numbers.{digit_of-lt, four-pos, four-suc, number_of-word_of, word_of-number_of}
use Rattle.kmer_paths.specs.Keys.{has_key, first_place}
use Rattle.kmer_paths.specs.Walks.{backward, forward, next_place, path, walk}
use Rattle.kmer_paths.specs.Contigs.{is_start, contig}
use Rattle.kmer_paths.proofs.NextKeys.{letter-from_code, next-none, next-some}
use Rattle.kmer_paths.proofs.Paths.{path-one}
use Rattle.kmer_paths.proofs.Walks.{next-below}
use Rattle.kmer_walk.specs.Nodes.{number_at, node_at}
use Rattle.kmer_walk.specs.Book.{Call, walk_finds, find_of, IsRun}
use Rattle.kmer_walk.specs.Fills.{words_of_node}
use Rattle.kmer_walk.specs.Finds.{IsFirstOf, Asks, Makes}
use Rattle.kmer_walk.specs.Texts.{MakesWalks}
use Rattle.kmer_walk.proofs.Makings.{makes_none, makes_trans}
use Rattle.kmer_walk.proofs.Walks.{Walking, next-line, begins, goes_on, longer, whole_contig, ended, came_back, too_long}

-- ---- codes
pub code-most : (b : ℕ) → code_of b ≤ 4
code-most b =
    ⊎_elim
    (λ (yes : eqb b 70 ≡ true). omega (arith, cond-true {A = ℕ} (eqb b 70) 4 (digit_of b) yes))
    (λ (no : eqb b 70 ≡ false). omega (arith, cond-false {A = ℕ} (eqb b 70) 4 (digit_of b) no, digit_of-lt b))
    (cases_Bool (eqb b 70))

letter_of-digit : (b : ℕ) → is_letter b ≡ true → letter_of (digit_of b) ≡ b
letter_of-digit b letter =
    let low = digit_of-lt b in
    let same : digit_of b ≡ (digit_of b * 1 + 0) / 1 % 4 = omega arith in
    ap letter_of same ∙ ap (λ (xs : List ℕ). get_or xs 0 0) (word_of-number_of (b ∷ []) (and_from (is_letter b) true letter refl))

-- ---- a start's line isn't empty
pub start-some : (k start : ℕ) (ls : List (List ℕ)) → is_start k ls start ≡ true → length (line_at ls start) ≢ 0
start-some k start ls is none =
    let end = eqb-true (backward k (line_at ls start)) 70
    (and_parts (eqb (backward k (line_at ls start)) 70) (option_map_or (λ first. eqb first start) (first_place k ls (take k (line_at ls start))) false) is).0 in
    empty (line_at ls start) none end
  where
    empty : (line : List ℕ) → length line ≡ 0 → backward k line ≡ 70 → ⊥
    empty [] none end = absurd (omega (arith, end))
    empty (x ∷ line) none end = absurd (omega arith)

-- ---- what a find tells
-- the node is that of the first line of a key, which is at a place
pub record FirstNode (k : ℕ) (ls : List (List ℕ)) (key : ℕ) (node : Node) : Type 0 where
  pub place : ℕ
  pub first : first_place k ls (word_of k key) ≡ Some place
  pub line : node.line ≡ place + 1
  pub code : node.forward ≡ code_of (forward k (line_at ls place))

module _ (k key : ℕ) (ls : List (List ℕ)) where
  pub no_first : IsFirstOf k ls key None → first_place k ls (word_of k key) ≡ None
  no_first is = none_of (first_place k ls (word_of k key)) is
    where
      none_of : (o : Option ℕ) → None ≡ option_map (node_at k ls) o → o ≡ None
      none_of None e = refl
      none_of (Some p) e = absurd (none-some (node_at k ls p) e)

  pub first_node : (node : Node) → IsFirstOf k ls key (Some node) → FirstNode k ls key node
  first_node node is = node_of (first_place k ls (word_of k key)) refl is
    where
      node_of : (o : Option ℕ) → first_place k ls (word_of k key) ≡ o → Some (words_of_node node) ≡ option_map (node_at k ls) o → FirstNode k ls key node
      node_of None at e = absurd (none-some (words_of_node node) (sym e))
      node_of (Some p) at e =
          let line = line_at ls p in
          let same = fields_same node.line node.back node.forward (p + 1) (code_of (backward k line)) (code_of (forward k line)) node.codes.1 (code-most (forward k line))
          (same_Some (words_of_node node) (node_at k ls p) e) in
          record { place = p; first = at; line = same.0; code = same.1.1 }

  -- the number of the key of that line
  pub first_number : (place : ℕ) → key < 4 ^ k → first_place k ls (word_of k key) ≡ Some place → number_at k ls place ≡ key
  first_number place low at =
      let found = position-Some (has_key k (word_of k key)) ls place [] at in
      ap number_of ((bytes_eq-Decides (take k (line_at ls place)) (word_of k key)).0 found.1) ∙ number_of-word_of k key low

-- ---- the key behind a line
module _ (k at key code : ℕ) (ls : List (List ℕ)) (letters : IsKmerLength k) (good : bad_node k ls ≡ None) (here : at < length ls) (some : length (line_at ls at) ≢ 0)
    (key_is : key ≡ number_at k ls at) (code_is : code ≡ code_of (forward k (line_at ls at))) (goes : code ≢ 4) where
  pub letter-is : letter_of code ≡ forward k (line_at ls at)
  letter-is =
      let b = forward k (line_at ls at) in
      let back = backward k (line_at ls at) in
      let no = letter-from_code b (λ e. goes (code_is ∙ e)) in
      let letter : is_letter b ≡ true =
      ⊎_elim (λ (yes : is_letter b ≡ true). yes) (λ (end : eqb b 70 ≡ true). absurd (cc)) (or_cases (is_letter b) (eqb b 70) (and_parts (is_extension back) (is_extension b) (extensions-good k at ls good here some)).1) in
      ap letter_of (code_is ∙ cond-false {A = ℕ} (eqb b 70) 4 (digit_of b) no) ∙ letter_of-digit b letter

  code-low : code < 4
  code-low = omega (arith, goes, code_is, code-most (forward k (line_at ls at)))

  module _ (behind : ℕ) (behind_is : behind ≡ key % 4 ^ (k - 1) * 4 + code) where
    pub behind-low : behind < 4 ^ k
    behind-low =
        let positive = letters.least in
        let one : suc (k - 1) ≡ k = omega arith in
        let all : 4 ^ k ≡ 4 * 4 ^ (k - 1) = ap (λ (n : ℕ). 4 ^ n) (sym one) ∙ four-suc (k - 1) in
        let low = code-low in
        omega (arith, all, behind_is, mod-lt key (four-pos (k - 1)))

    pub next-is : next_place k ls at ≡ first_place k ls (word_of k behind)
    next-is =
        next-some k at ls behind (λ q. first_place k ls (word_of k q)) letters.least good here some (λ e. goes (code_is ∙ e))
        (behind_is ∙ (ap (λ (n : ℕ). n % 4 ^ (k - 1) * 4 + code) key_is ∙ ap (λ (n : ℕ). number_at k ls at % 4 ^ (k - 1) * 4 + n) code_is)) (λ q low. refl)

-- ---- marks, which are the numbers of lines
abbrev marked : BTreeSet ℕ → ℕ → Bool
marked marks q = contains nat_cmp marks (q + 1)

mark-is : (y q : ℕ) → is_at (nat_cmp (y + 1)) (q + 1) ≡ eqb q y
mark-is y q =
    both_ways (is_at (nat_cmp (y + 1)) (q + 1)) (eqb q y)
    (λ h. let same = tells_apart exact_unsigned (y + 1) (q + 1) h in eq-eqb q y (omega arith))
    (λ h. let same : q + 1 ≡ y + 1 = omega (arith, eqb-true q y h) in ap (λ (n : ℕ). is_eq (nat_cmp (y + 1) n)) same ∙ ap is_eq (tied_itself nat_cmp_total (y + 1)))

mark-more : (y number : ℕ) (old new : BTreeSet ℕ) → number ≡ y + 1 → ((q : ℕ) → contains nat_cmp new q ≡ cond (is_at (nat_cmp number) q) true (contains nat_cmp old q))
    → (q : ℕ) → marked new q ≡ (eqb q y || marked old q)
mark-more y number old new is update q =
    update (q + 1)
    ∙ (ap (λ (n : ℕ). cond (is_at (nat_cmp n) (q + 1)) true (marked old q)) is
    ∙ (ap (λ (b : Bool). cond b true (marked old q)) (mark-is y q) ∙ either (eqb q y) (marked old q)))
  where
    either : (a b : Bool) → cond a true b ≡ (a || b)
    either true b = refl
    either false b = refl

-- ---- the walk on its way
-- it has come to a place, whose key and forward code are these, and so many letters are left
module _ (k : ℕ) (ls : List (List ℕ)) (shape : Shape) (start most : ℕ) (before : List ℕ) (history : MapHistory) (old : MapView) where
  abbrev finds : ℕ → List Call
  finds steps = map (find_of k ls) (drop 1 (path (next_place k ls) (suc steps) start))

  pub record Trail (key code left : ℕ) (text : List ℕ) (marks : BTreeSet ℕ) (view : MapView) : Type 0 where
    pub at : ℕ
    pub steps : ℕ
    pub so_far : List ℕ
    pub walking : Walking k ls start steps at so_far (marked marks)
    pub here : at < length ls
    pub some : length (line_at ls at) ≢ 0
    pub key_is : key ≡ number_at k ls at
    pub code_is : code ≡ code_of (forward k (line_at ls at))
    pub text_is : text ≡ before ++ so_far
    pub room : length so_far + left ≡ most
    pub makes : Makes shape (finds steps) old view
    pub asks : Asks history view

  -- the contig is put, where it fits, and the walk is made
  pub record Whole (text : List ℕ) (view : MapView) : Type 0 where
    pub contig_is : text ≡ before ++ contig k ls start
    pub short : length (contig k ls start) ≤ most
    pub walks : MakesWalks k ls shape (start ∷ []) old view
    pub asks : Asks history view

  -- one find more
  finds-more : (steps y : ℕ) → length (path (next_place k ls) (suc steps) start) ≡ suc steps → path (next_place k ls) (suc (suc steps)) start ≡ path (next_place k ls) (suc steps) start ++ y ∷ []
      → finds (suc steps) ≡ finds steps ++ find_of k ls y ∷ []
  finds-more steps y whole more =
      let walked = path (next_place k ls) (suc steps) start in
      ap (λ (xs : List ℕ). map (find_of k ls) (drop 1 xs)) more
      ∙ (ap (map (find_of k ls)) (drop-append-le 1 walked (y ∷ []) (omega (arith, whole))) ∙ map-append (find_of k ls) (drop 1 walked) (y ∷ []))

  module _ (letters : IsKmerLength k) (good : bad_node k ls ≡ None) (place : start < length ls) where
    pub trail_begins : (key code left number : ℕ) (text : List ℕ) (empty marks : BTreeSet ℕ) → length (line_at ls start) ≢ 0 → key ≡ number_at k ls start → code ≡ code_of (forward k (line_at ls start))
        → text ≡ before ++ take k (line_at ls start) → k + left ≡ most → Asks history old
        → empty.keys ≡ [] → number ≡ start + 1 → ((q : ℕ) → contains nat_cmp marks q ≡ cond (is_at (nat_cmp number) q) true (contains nat_cmp empty q)) → Trail key code left text marks old
    trail_begins key code left number text empty marks some key_is code_is text_is room asks none number_is update =
        let line = line_at ls start in
        let node = node-good k start ls good place some in
        let width : length (take k line) ≡ k = length-take-le k line (omega (arith, node.0)) in
        record {
          at = start;
          steps = 0;
          so_far = take k line;
          walking = begins k ls start (take k line) (marked marks) refl (λ q. mark-more start number empty marks number_is update q
              ∙ (ap (λ (keys : List ℕ). eqb q start || list_any (is_at (nat_cmp (q + 1))) keys) none ∙ or_false (eqb q start)));
          here = place;
          some = some;
          key_is = key_is;
          code_is = code_is;
          text_is = text_is;
          room = omega (arith, width, room);
          makes = subst (λ (xs : List ℕ). Makes shape (map (find_of k ls) (drop 1 xs)) old old) (sym (path-one (next_place k ls) start)) (makes_none shape old);
          asks = asks;
        }
      where
        or_false : (b : Bool) → (b || false) ≡ b
        or_false true = refl
        or_false false = refl

    module _ (key code left : ℕ) (text : List ℕ) (marks : BTreeSet ℕ) (view : MapView) (t : Trail key code left text marks view) where
      -- it is whole
      whole : (after : List Call) (view' : MapView) → walk k ls start ≡ path (next_place k ls) (suc t.steps) start → Makes shape (finds t.steps ++ after) old view' → Asks history view' → Whole text view'
      whole after view' is makes asks =
          let contig_is = whole_contig k ls start t.steps t.at t.so_far (marked marks) t.walking is in
          let room = t.room in
          record {
            contig_is = t.text_is ∙ ap (λ (xs : List ℕ). before ++ xs) contig_is;
            short = omega (arith, ap length contig_is);
            walks = record {
              calls = finds t.steps ++ after;
              makes = makes;
              walks = All-cons (λ start. IsRun (walk_finds k ls start) (finds t.steps ++ after)) start [] run (All-nil (λ start. IsRun (walk_finds k ls start) (finds t.steps ++ after)));
            };
            asks = asks;
          }
        where
          run : IsRun (walk_finds k ls start) (finds t.steps ++ after)
          run = record { before = []; after = after; is = ap (λ (xs : List ℕ). map (find_of k ls) (drop 1 xs) ++ after) (sym is) }

      pub whole_end : code ≡ 4 → Whole text view
      whole_end end =
          whole [] view (ended k ls start t.steps t.at t.so_far (marked marks) t.walking place (next-none k t.at ls (sym t.code_is ∙ end)))
          (subst (λ (xs : List Call). Makes shape xs old view) (sym (append-nil (finds t.steps))) t.makes) t.asks

      -- with a find of the key behind
      module _ (goes : code ≢ 4) (behind : ℕ) (behind_is : behind ≡ key % 4 ^ (k - 1) * 4 + code) (view' : MapView) (makes : Makes shape (Find (one_word behind) ∷ []) view view') (asks : Asks history view') where
        low : behind < 4 ^ k
        low = behind-low k t.at key code ls letters good t.here t.some t.key_is t.code_is goes behind behind_is

        next_is : next_place k ls t.at ≡ first_place k ls (word_of k behind)
        next_is = next-is k t.at key code ls letters good t.here t.some t.key_is t.code_is goes behind behind_is

        all : Makes shape (finds t.steps ++ Find (one_word behind) ∷ []) old view'
        all = makes_trans shape (finds t.steps) (Find (one_word behind) ∷ []) old view view' t.makes makes

        pub whole_none : IsFirstOf k ls behind None → Whole text view'
        whole_none none =
            whole (Find (one_word behind) ∷ []) view' (ended k ls start t.steps t.at t.so_far (marked marks) t.walking place (next_is ∙ no_first k behind ls none)) all asks

        module _ (node : Node) (is : IsFirstOf k ls behind (Some node)) where
          there : FirstNode k ls behind node
          there = first_node k behind ls node is

          goes_there : next_place k ls t.at ≡ Some there.place
          goes_there = next_is ∙ there.first

          seen : (b : Bool) → contains nat_cmp marks node.line ≡ b → marked marks there.place ≡ b
          seen b e = ap (contains nat_cmp marks) (sym there.line) ∙ e

          pub whole_again : contains nat_cmp marks node.line ≡ true → Whole text view'
          whole_again again =
              whole (Find (one_word behind) ∷ []) view' (came_back k ls start t.steps t.at t.so_far (marked marks) t.walking place there.place goes_there (seen true again)) all asks

          pub trail_long : contains nat_cmp marks node.line ≡ false → left ≡ 0 → most < length (contig k ls start)
          trail_long new full =
              let room = t.room in
              omega (arith, too_long k ls start t.steps t.at t.so_far (marked marks) t.walking place there.place goes_there (seen false new))

          pub trail_goes : (letter left' : ℕ) (text' : List ℕ) (marks' : BTreeSet ℕ) → contains nat_cmp marks node.line ≡ false → left' + 1 ≡ left → letter ≡ forward k (line_at ls t.at) → text' ≡ text ++ letter ∷ []
              → ((q : ℕ) → contains nat_cmp marks' q ≡ cond (is_at (nat_cmp node.line) q) true (contains nat_cmp marks q)) → Trail behind node.forward left' text' marks' view'
          trail_goes letter left' text' marks' new less letter_is text_is update =
              let y = there.place in
              let f = forward k (line_at ls t.at) in
              let room = t.room in
              let number = first_number k behind ls y low there.first in
              record {
                at = y;
                steps = suc t.steps;
                so_far = t.so_far ++ f ∷ [];
                walking = goes_on k ls start t.steps t.at t.so_far (marked marks) t.walking y (marked marks') goes_there (seen false new)
                    (mark-more y node.line marks marks' there.line update);
                here = next-below k ls t.at y goes_there;
                some = next-line k ls t.at y goes_there;
                key_is = sym number;
                code_is = there.code;
                text_is = text_is ∙ (ap (λ (n : ℕ). text ++ n ∷ []) letter_is ∙ (ap (λ (xs : List ℕ). xs ++ f ∷ []) t.text_is ∙ append_assoc before t.so_far (f ∷ [])));
                room = omega (arith, length-append t.so_far (f ∷ []));
                makes = subst (λ (xs : List Call). Makes shape xs old view')
                    (sym (finds-more t.steps y t.walking.whole (longer k ls start t.steps t.at t.so_far (marked marks) t.walking y goes_there)
                    ∙ ap (λ (n : ℕ). finds t.steps ++ Find (one_word n) ∷ []) number)) all;
                asks = asks;
              }
