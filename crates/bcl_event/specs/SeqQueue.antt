-- What a contract sees of a queue that one caller steps: its capacity, its first ticket and its state.
-- Its tickets end at 2^62.
use Rattle.std.specs.Prelude.{ℕ, ◌^◌, List, slice_get, Option, Some, None}
use Rattle.bcl_event.specs.Queue.{Queue, empty_queue, queue_step}
use Rattle.bcl_event.specs.declared.queue.QueueCall.{QueueCall}
use Rattle.bcl_event.specs.declared.queue.QueueCall.TheVariants.{Push, Pop}
use Rattle.bcl_event.specs.declared.queue.QueueReply.{QueueReply}

pub record Ticketed : Type 0 where
  pub capacity : ℕ
  pub first : ℕ
  pub queue : Queue

abbrev pub new_queue : ℕ → ℕ → Ticketed
new_queue capacity first = record { capacity = capacity; first = first; queue = empty_queue }

abbrev pub ticketed_step : Ticketed → QueueCall (List ℕ) → QueueReply × Ticketed
ticketed_step it call =
    let answer = queue_step it.capacity it.first (Some (2 ^ 62)) it.queue call in
    (answer.0, record it { queue = answer.1 })

-- the item that a call takes
abbrev pub taken_item : Queue → QueueCall (List ℕ) → Option (List ℕ)
taken_item queue (Push item) = None
taken_item queue Pop = slice_get queue.items 0
