-- That items are taken in the order in which they were put.
use Rattle.std.proofs.Common.{◌≡◌, ℕ, ◌+◌, List, [], ◌∷◌, ◌++◌, Bool, true, false, refl, ap, sym, ◌∙◌, append_assoc, append-nil, length}
use Rattle.std.specs.Prelude.{Option, ◌==◌, if◌then◌else◌, slice_get}
use Rattle.std.specs.Option.{option_to_list}
use Rattle.bcl_event.specs.History.{state_by}
use Rattle.bcl_event.specs.Queue.{Queue, queue_step, is_worn, taken, empty_queue}
use Rattle.bcl_event.specs.SeqQueue.{taken_item}
use Rattle.bcl_event.specs.InOrder.{items_put, items_taken, put_item, KeepsOrder}
use Rattle.bcl_event.specs.declared.queue.QueueCall.{QueueCall}
use Rattle.bcl_event.specs.declared.queue.QueueCall.TheVariants.{Push, Pop}
use Rattle.bcl_event.specs.declared.queue.QueueReply.{QueueReply}
use Rattle.bcl_event.specs.declared.queue.QueueReply.TheVariants.{Put, Full, Worn}

module _ (capacity first : ℕ) (limit : Option ℕ) where
  abbrev next : Queue → QueueCall (List ℕ) → QueueReply × Queue
  next = queue_step capacity first limit

  -- what one call takes and what it leaves are what was there and what it puts
  one_call : (queue : Queue) (call : QueueCall (List ℕ)) → option_to_list (taken_item queue call) ++ (next queue call).1.items ≡ queue.items ++ put_item call (next queue call).0
  one_call queue (Push item) = at (is_worn limit (first + queue.puts)) (length queue.items == capacity)
    where
      at : (worn full : Bool) → (let answer : QueueReply × Queue = if worn then (Worn, queue) else if full then (Full, queue) else (Put (first + queue.puts), record queue { items = queue.items ++ item ∷ []; puts = queue.puts + 1 }) in answer.1.items ≡ queue.items ++ put_item (Push item) answer.0)
      at true full = sym (append-nil queue.items)
      at false true = sym (append-nil queue.items)
      at false false = refl
  one_call queue Pop = at queue.items refl ∙ sym (append-nil queue.items)
    where
      at : (items : List (List ℕ)) → queue.items ≡ items → option_to_list (slice_get items 0) ++ (taken first queue items).1.items ≡ items
      at [] e = e
      at (item ∷ rest) e = refl

  all_calls : (calls : List (QueueCall (List ℕ))) (queue : Queue) → items_taken capacity first limit queue calls ++ (state_by next queue calls).items ≡ queue.items ++ items_put capacity first limit queue calls
  all_calls [] queue = sym (append-nil queue.items)
  all_calls (call ∷ calls) queue =
      let takes = option_to_list (taken_item queue call) in
      let after = (next queue call).1 in
      let later = items_taken capacity first limit after calls in
      let left = (state_by next after calls).items in
      let puts = items_put capacity first limit after calls in
      append_assoc takes later left
      ∙ ap (λ l. takes ++ l) (all_calls calls after)
      ∙ sym (append_assoc takes after.items puts)
      ∙ ap (λ l. l ++ puts) (one_call queue call)
      ∙ append_assoc queue.items (put_item call (next queue call).0) puts

  pub keeps_order : KeepsOrder capacity first limit
  keeps_order calls = all_calls calls empty_queue
