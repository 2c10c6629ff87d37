use Rattle.std.proofs.Common.{◌≡◌, ℕ, ◌*◌, ◌<◌, ◌≤◌, ap, ◌∙◌, subst, sym, arith}
use Rattle.std.proofs.Math.Nat.{mul-le-mul_right}
use Rattle.bcl_phase.specs.Parts.{lead_key, lead_heads, lead_layout}
use Rattle.bcl_map.specs.declared.walk.Start.{Start}
use Rattle.bcl_map.specs.Map.{places, size}
use Rattle.bcl_map.proofs.Walks.{few_all, few_places, places_by, begins_low, first_at}
use Rattle.bcl_map.proofs.walk.walk_from.Goals as goal

pub overflow_mul-result : goal.overflow_mul-result
overflow_mul-result g c = let lead = c.args.lead.now in let L = lead_key lead in let kw = g.K.Object.WORDS in let vw = g.V.Object.WORDS in
    let many = places_by kw vw (lead_heads lead) (lead_layout lead) L c.requires.shape c.layout-layout.result _ (c.layout-layout.ensures.layout ∙ c.requires.of.2) c.in_buckets-buckets.ensures.buckets in
    let few = few_places kw vw (lead_heads lead) (lead_layout lead) L c.requires.shape in omega arith

pub bucket_at-requires-clause-room : goal.bucket_at-requires-clause-room
bucket_at-requires-clause-room g c κs outlives = let lead = c.args.lead.now in let L = lead_key lead in let kw = g.K.Object.WORDS in let vw = g.V.Object.WORDS in
    let low : c.args.start.place < places L = subst (λ (s : Start). s.place < places L) (sym c.requires.start) (begins_low kw vw (lead_heads lead) (lead_layout lead) L c.requires.shape c.args.key.now) in
    let all = few_all kw vw (lead_heads lead) (lead_layout lead) L c.requires.shape in let below : c.args.start.place * size kw vw ≤ places L * size kw vw = mul-le-mul_right (size kw vw) (omega arith) in omega arith

pub returns-clause-places : goal.returns-clause-places
returns-clause-places g c = let lead = c.args.lead.now in
    places_by g.K.Object.WORDS g.V.Object.WORDS (lead_heads lead) (lead_layout lead) (lead_key lead) c.requires.shape c.layout-layout.result _ (c.layout-layout.ensures.layout ∙ c.requires.of.2) c.in_buckets-buckets.ensures.buckets

pub returns-clause-home : goal.returns-clause-home
returns-clause-home g c = ap (λ (s : Start). s.home) c.requires.start

pub returns-clause-at : goal.returns-clause-at
returns-clause-at g c = let lead = c.args.lead.now in let L = lead_key lead in let kw = g.K.Object.WORDS in let vw = g.V.Object.WORDS in
    first_at kw vw (lead_heads lead) (lead_layout lead) L c.requires.shape c.args.key.now c.bucket_at.result (c.bucket_at.ensures.at ∙ ap (λ (s : Start). s.place * size kw vw) c.requires.start)
