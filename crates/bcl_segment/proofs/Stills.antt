-- The machine value of a seat that is put by, and what of it may cross threads.
use Rattle.std.proofs.Common.{◌≡◌, List, [], ◌∷◌, ◌++◌, ap, ◌∙◌}
use mir.Val.{Val, vstruct, vcons, vnil, of_list}
use denote.RattleType.{RattleType}
use denote.Laws.{Is}
use denote.Param.Send.{IsSend}
use Rattle.atomic_table.proofs.Fields.{token_val, token_told}
use Rattle.atomic_table.proofs.Sent.{seat_keyless}
use Rattle.bcl_segment.specs.contracts.still.Still as still

abbrev pub still_val : Val
still_val = vstruct (vcons token_val vnil)

module _ (R W : RattleType) where
  pub still_told : (d : (still.the_row R W).Denot) (vs : List Val) → Is (still.the_row R W) d vs → vs ≡ still_val ∷ []
  still_told d vs so = let is = so.0 in is.1.0 ∙ ap (λ (ws : List Val). vstruct (of_list (ws ++ [])) ∷ []) (token_told R W is.0.0 is.1.1.0.0)

  pub still_send : IsSend R → IsSend (still.the_row R W)
  still_send s = record { owned = λ d vs. ((λ vss. (tt, (((λ uss. (tt, ((λ wss. (tt, tt)), tt))), seat_keyless R s W.coded.code d.seat.table_id d.seat.id d.seat.me), tt))), tt); leaving = λ k x vs. (tt, tt) }
