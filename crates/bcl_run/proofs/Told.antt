-- The message of a refusal names the reason of the verdict.
use Rattle.std.proofs.Common.{◌≡◌, ℕ, List, Option, None, Some, IfSome, Result, Ok, Err, OnOk, OnErr, subst, arith}
use Rattle.std.specs.Io.KnownBytes.{Appends}
use Rattle.bcl_io.specs.Faults.{Rose}
use Rattle.bcl_message.specs.declared.refusal.Refusal.{Refusal}
use Rattle.bcl_message.specs.declared.stop.Stop.{Stop}
use Rattle.bcl_message.specs.declared.stop.Stop.TheVariants as stops
use Rattle.bcl_message.specs.Message.{refusal_message, message_of}
use Rattle.bcl_run.specs.Verdict.{Refused, IsVerdict}
use Rattle.bcl_message.specs.Stop.{status_of}
use Rattle.bcl_run.specs.Owed.{Owed, Devices, Tells}
use Rattle.bcl_run.proofs.Verdicts.{one_verdict}

module _ (faults faults' : ℕ) (taken taken' : Option (List ℕ)) where
  -- what a call says of its result is what a caller that drops the result knows
  pub tells : {E : Type 0} (result : Result (Unit {0}) E) (message : List ℕ) → OnOk result (Appends taken taken' message) → OnErr result (Rose faults faults')
      → Tells faults faults' taken taken' message
  tells (Ok done) message told failed calm = told
  tells (Err e) message told failed calm = absurd (calm failed)

  -- two reasons for one input are one reason
  same_reason : (words : List (List ℕ)) (bytes : List ℕ) (why other : Refusal) → IsVerdict words bytes (Refused why) → IsVerdict words bytes (Refused other) → why ≡ other
  same_reason words bytes why other v w =
      let same : Refused why ≡ Refused other = one_verdict words bytes (Refused why) (Refused other) v w in
      cc

  reason_told : (words : List (List ℕ)) (left : Option (List ℕ)) (why : Refusal) → IfSome left (λ bytes. IsVerdict words bytes (Refused why)) → Tells faults faults' taken taken' (refusal_message why)
      → IfSome left (λ bytes. (other : Refusal) → IsVerdict words bytes (Refused other) → Tells faults faults' taken taken' (refusal_message other))
  reason_told words None why v told = tt
  reason_told words (Some bytes) why v told =
      λ other w. subst (λ (r : Refusal). Tells faults faults' taken taken' (refusal_message r)) (same_reason words bytes why other v w) told

  pub refusal_told : (words : List (List ℕ)) (d : Devices) (stop : Stop) → Owed words d (Err stop) → status_of stop ≡ 1 → Tells faults faults' taken taken' (message_of stop)
      → IfSome d.left_before (λ bytes. (why : Refusal) → IsVerdict words bytes (Refused why) → Tells faults faults' taken taken' (refusal_message why))
  refusal_told words d (stops.Refused why) o e told = reason_told words d.left_before why o.1 told
  refusal_told words d stops.Usage o e told = absurd (omega arith)
  refusal_told words d stops.ReadFault o e told = absurd (omega arith)
  refusal_told words d stops.WriteFault o e told = absurd (omega arith)
  refusal_told words d stops.NoMemory o e told = absurd (omega arith)
