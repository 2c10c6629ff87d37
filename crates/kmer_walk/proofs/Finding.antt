-- A find behind a history and other finds: it answers what the map had behind the history.
use Rattle.std.proofs.Common.{◌≡◌, ◌∙◌, ℕ, ◌^◌, ◌<◌, List, [], ◌∷◌, ◌++◌, Option, None, Some, sym, ap, refl, subst, append_assoc}
use Rattle.std.specs.Prelude.{All}
use Rattle.std.specs.Option.{option_map}
use Rattle.std.proofs.lemmas.List.Elements.{All-head, All-tail, All-append, All-weaker}
use Rattle.bcl_words.specs.Numbers.{one_word}
use Rattle.bcl_merge.specs.LeastWords.{least_of}
use Rattle.bcl_event.specs.declared.event.Event.{Event}
use Rattle.bcl_event.specs.declared.map.MapCall.TheVariants.{Find, Insert, Merge, Add}
use Rattle.bcl_event.specs.declared.map.MapReply.{MapReply}
use Rattle.bcl_event.specs.History.{event, state_after, IsLegal}
use Rattle.bcl_event.specs.Map.{Pairs, value_at, map_step, found}
use Rattle.bcl_event.specs.Merged.{MapHistory}
use Rattle.bcl_phase.specs.Rule.{IsPermitted}
use Rattle.bcl_phase.proofs.Prefixes.{after-append}
use Rattle.bcl_map.specs.declared.shape.Shape.{Shape}
use Rattle.bcl_map.specs.Map.{Words, places, ranks, permits, finding}
use Rattle.bcl_map.specs.Calls.{MapView, Stands, reply}
use Rattle.kmer_text.specs.declared.node.Node.{Node}
use Rattle.kmer_walk.specs.Book.{Call, IsFind}
use Rattle.kmer_walk.specs.Fills.{words_of_node}
use Rattle.kmer_walk.specs.Finds.{HasFirsts, IsFirstOf, Asks}

abbrev AreFinds : MapHistory → Type 0
AreFinds es = All (λ e. IsFind e.call) es

-- the promise to find permits nothing else
pub permits_find : (shape : Shape) (rank : ℕ) (call : Call) → permits shape finding rank call → IsFind call
permits_find shape rank (Find key) p = tt
permits_find shape rank (Insert key value) p = absurd p
permits_find shape rank (Merge key value) p = absurd p
permits_find shape rank (Add key n) p = absurd p

module _ (capacity : ℕ) (op : Words → Words → Words) where
  -- finds leave the state as it is
  find_keeps : (pairs : Pairs) (call : Call) → IsFind call → (map_step capacity op pairs call).1 ≡ pairs
  find_keeps pairs (Find key) f = refl
  find_keeps pairs (Insert key value) f = absurd f
  find_keeps pairs (Merge key value) f = absurd f
  find_keeps pairs (Add key n) f = absurd f

  finds_keep : (pairs : Pairs) (es : MapHistory) → AreFinds es → state_after (map_step capacity op) pairs es ≡ pairs
  finds_keep pairs [] all = refl
  finds_keep pairs (e ∷ es) all =
      ap (λ (z : Pairs). state_after (map_step capacity op) z es) (find_keeps pairs e.call (All-head (λ e. IsFind e.call) e es all))
      ∙ finds_keep pairs es (All-tail (λ e. IsFind e.call) e es all)

  last_reply : (pairs : Pairs) (before : MapHistory) (e : Event Call (MapReply Words)) → IsLegal (map_step capacity op) pairs (before ++ e ∷ [])
      → e.reply ≡ (map_step capacity op (state_after (map_step capacity op) pairs before) e.call).0
  last_reply pairs [] e legal = legal.0
  last_reply pairs (x ∷ before) e legal = last_reply (map_step capacity op pairs x.call).1 before e legal.1

-- an answer is the value that was found
reply_is : {V : Type 0} (words : V → Words) (answer : Option V) (value : Option Words) → reply words answer ≡ found value → option_map words answer ≡ value
reply_is words None None e = refl
reply_is words None (Some v) e = absurd (cc (e))
reply_is words (Some a) None e = absurd (cc (e))
reply_is words (Some a) (Some v) e = let same : words a ≡ v = cc (e) in ap Some same

module _ (shape : Shape) (history : MapHistory) (old new : MapView) (key : Words) (answer : MapReply Words) (asks : Asks history old)
    (stands : Stands least_of shape old new (event old.rank (Find key) answer ∷ [])) where
  abbrev late : MapHistory
  late = asks.late ++ stands.sees.late

  all_since : new.seen ≡ history ++ late
  all_since =
      stands.sees.grows ∙ (ap (λ (z : MapHistory). z ++ stands.sees.late) asks.since ∙ append_assoc history asks.late stands.sees.late)

  all_finds : AreFinds late
  all_finds =
      All-append (λ e. IsFind e.call) asks.late stands.sees.late asks.finds
      (All-weaker (IsPermitted ranks permits shape finding) (λ e. IsFind e.call) (λ e p. permits_find shape e.rank e.call p.0) stands.sees.late
      (subst (λ (z : ℕ). All (IsPermitted ranks permits shape z) stands.sees.late) asks.promise stands.sees.permitted))

  pub still_asks : Asks history new
  still_asks = record { promise = stands.same.same_promise ∙ asks.promise; late = late; since = all_since; finds = all_finds }

  abbrev after : MapHistory → Pairs
  after es = state_after (map_step (places shape) least_of) [] es

  same_state : after stands.before ≡ after history
  same_state =
      let step = map_step (places shape) least_of in
      sym (after-append step [] stands.before (event old.rank (Find key) answer ∷ []))
      ∙ (ap after (sym stands.last ∙ all_since)
      ∙ (after-append step [] history late ∙ finds_keep (places shape) least_of (after history) late all_finds))

  pub answer_is : answer ≡ found (value_at key (after history))
  answer_is =
      last_reply (places shape) least_of [] stands.before (event old.rank (Find key) answer) (subst (IsLegal (map_step (places shape) least_of) []) stands.last stands.legal)
      ∙ ap (λ (z : Pairs). found (value_at key z)) same_state

-- a find of a key answers the node of its first line
pub find_is : (k : ℕ) (lines : List (List ℕ)) (shape : Shape) (history : MapHistory) (old new : MapView) (number : ℕ) (answer : Option Node) → Asks history old
    → Stands least_of shape old new (event old.rank (Find (one_word number)) (reply words_of_node answer) ∷ []) → HasFirsts k lines shape history → number < 4 ^ k
    → IsFirstOf k lines number answer
find_is k lines shape history old new number answer asks stands firsts low =
    reply_is words_of_node answer (value_at (one_word number) (state_after (map_step (places shape) least_of) [] history))
    (answer_is shape history old new (one_word number) (reply words_of_node answer) asks stands)
    ∙ firsts number low
