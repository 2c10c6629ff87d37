-- What a queue owes its callers: items are taken in the order in which they were put.
-- Of calls in order, these are the items that were put, and those that were taken.
use Rattle.std.specs.Prelude.{◌≡◌, ℕ, List, [], ◌∷◌, ◌++◌, Option}
use Rattle.std.specs.Option.{option_to_list}
use Rattle.bcl_event.specs.History.{state_by}
use Rattle.bcl_event.specs.Queue.{Queue, queue_step, empty_queue}
use Rattle.bcl_event.specs.SeqQueue.{taken_item}
use Rattle.bcl_event.specs.declared.queue.QueueCall.{QueueCall}
use Rattle.bcl_event.specs.declared.queue.QueueCall.TheVariants.{Push}
use Rattle.bcl_event.specs.declared.queue.QueueReply.{QueueReply}
use Rattle.bcl_event.specs.declared.queue.QueueReply.TheVariants.{Put}

-- the item of a push, where it was put
abbrev pub put_item : QueueCall (List ℕ) → QueueReply → List (List ℕ)
put_item (Push item) (Put ticket) = item ∷ []
put_item call reply = []

module _ (capacity first : ℕ) (limit : Option ℕ) where
  abbrev pub items_put : Queue → List (QueueCall (List ℕ)) → List (List ℕ)
  items_put queue [] = []
  items_put queue (call ∷ calls) = let answer = queue_step capacity first limit queue call in put_item call answer.0 ++ items_put answer.1 calls

  abbrev pub items_taken : Queue → List (QueueCall (List ℕ)) → List (List ℕ)
  items_taken queue [] = []
  items_taken queue (call ∷ calls) = option_to_list (taken_item queue call) ++ items_taken (queue_step capacity first limit queue call).1 calls

  -- those that were taken, and then those that are left, are those that were put
  abbrev pub KeepsOrder : Type 0
  KeepsOrder =
      (calls : List (QueueCall (List ℕ)))
      → items_taken empty_queue calls ++ (state_by (queue_step capacity first limit) empty_queue calls).items ≡ items_put empty_queue calls
