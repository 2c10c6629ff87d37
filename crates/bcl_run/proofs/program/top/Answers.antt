use Rattle.std.proofs.Common.{map, string_bytes}
use Rattle.bcl_settings.proofs.Asked.{none_names_any}
use Rattle.bcl_run.proofs.program.top.Goals as goal

pub top_own-requires-clause-own : goal.top_own-requires-clause-own
top_own-requires-clause-own g c κs outlives any = none_names_any (map string_bytes c.args.words.now) any
