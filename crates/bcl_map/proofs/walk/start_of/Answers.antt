use Rattle.std.proofs.Common.{◌≡◌, ℕ, ◌/◌, ap, ◌∙◌}
use Rattle.bcl_segment.specs.declared.layout.Layout.{Layout}
use Rattle.bcl_phase.specs.Parts.{lead_key, lead_heads, lead_layout}
use Rattle.bcl_map.specs.Map.{begins_at, home}
use Rattle.bcl_map.proofs.Walks.{buckets_by, begins_by, home_by}
use Rattle.bcl_map.proofs.walk.start_of.Goals as goal

pub returns : goal.returns
returns g c = let lead = c.args.lead.now in let L = lead_key lead in let k = c.args.key.now in let kw = g.K.Object.WORDS in let vw = g.V.Object.WORDS in let same = c.layout.ensures.layout ∙ c.requires.of.2 in
    let buckets = buckets_by kw vw (lead_heads lead) (lead_layout lead) L c.requires.shape c.layout.result _ same c.in_buckets-buckets.ensures.buckets in
    let place : c.start_of_words-place.result ≡ begins_at L k = c.start_of_words-place.ensures.start ∙ begins_by kw vw (lead_heads lead) (lead_layout lead) L c.requires.shape k c.in_buckets-buckets.result buckets in
    let rank : c.start_of_words-place.result / c.in_buckets-buckets.result.per_rank ≡ home L k = home_by kw vw (lead_heads lead) (lead_layout lead) L c.requires.shape k c.in_buckets-buckets.result buckets _ (ap (λ (n : ℕ). n / c.in_buckets-buckets.result.per_rank) c.start_of_words-place.ensures.start) in
    record { start = λ i. record { place = place i; home = rank i } }
