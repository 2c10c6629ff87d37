use Rattle.std.proofs.Common.{◌≡◌, All, length, ap, ◌∙◌, subst}
use mathlib.Core.Option.{some}
use lib.ListN.{get_elem?}
use Rattle.bcl_segment.specs.declared.layout.Layout.{Layout}
use Rattle.bcl_phase.proofs.Returns.{if_ok}
use Rattle.bcl_map.specs.Parts.{lead_key, pass_view, IsOf}
use Rattle.bcl_buffer.specs.Lanes.{lane, home_in}
use Rattle.bcl_buffer.specs.Exchanges.{at}
use Rattle.bcl_buffer.proofs.Flushed.{all_ready, merged_once, in_place, all_back, all_emptied_again, all_of_column}
use Rattle.bcl_buffer.proofs.flushing.flush.Goals as goal

pub drain_each-requires-clause-ready : goal.drain_each-requires-clause-ready
drain_each-requires-clause-ready g c κs within =
    all_ready (λ k. k.pass) (λ k. k.buffer) (λ p. IsOf p c.args.lead.now) pass_view (lead_key c.args.lead.now) g.K.Object.WORDS c.args.passes.items c.args.buffers.items c.exchange_all.new.buffers.items c.in_ok-kits.kits.items
    c.in_ok-kits.ensures.passes c.in_ok-kits.ensures.buffers c.exchange_all.ensures.exchanges c.requires.count c.requires.fill c.requires.shape c.requires.all.of (λ w of. of.1)

pub returns-clause-merged : goal.returns-clause-merged
returns-clause-merged g c = if_ok c.parts_of.result _ _ c.parts_of.ensures.passes (λ r are i p q at back.
    merged_once (λ k. k.pass) (λ k. k.buffer) (λ p. IsOf p c.args.lead.now) pass_view (lead_key c.args.lead.now) g.K.Object.WORDS c.args.passes.items c.args.buffers.items c.exchange_all.new.buffers.items c.in_ok-kits.kits.items
    c.in_ok-kits.ensures.passes c.in_ok-kits.ensures.buffers c.exchange_all.ensures.exchanges c.requires.count g.K.Object.words g.V.Object.words g.L.MergeLaw.op c.drain_each.new.kits.items c.drain_each.ensures.steps
    i p q at (subst (λ l. get_elem? l i ≡ some q) are back))

pub returns-clause-homes : goal.returns-clause-homes
returns-clause-homes g c = if_ok c.parts_of.result _ _ c.parts_of.ensures.passes (λ r are i low.
    all_of_column (λ p. home_in g.K.Object.WORDS (at c.args.buffers.items 0).shape (g.K.Object.words p.a) ≡ i) i c.args.buffers.items (λ s less.
    subst (λ (shape : Layout). All (λ p. home_in g.K.Object.WORDS shape (g.K.Object.words p.a) ≡ i) (lane (at c.args.buffers.items s) i)) (c.requires.fill.shape s less) (c.exchange_all.ensures.homes s i less)))

pub returns-clause-all : goal.returns-clause-all
returns-clause-all g c = if_ok c.parts_of.result _ _ c.parts_of.ensures.passes (λ r are. record {
  count = ap length are ∙ (all_back (λ k. k.pass) (λ k. k.buffer) (λ p. IsOf p c.args.lead.now) pass_view (lead_key c.args.lead.now) g.K.Object.WORDS c.args.passes.items c.args.buffers.items c.exchange_all.new.buffers.items c.in_ok-kits.kits.items
      c.in_ok-kits.ensures.passes c.in_ok-kits.ensures.buffers c.exchange_all.ensures.exchanges c.requires.count g.K.Object.words g.V.Object.words g.L.MergeLaw.op c.drain_each.new.kits.items c.drain_each.ensures.steps ∙ c.requires.all.count);
  of = λ i q back. in_place (λ k. k.pass) (λ k. k.buffer) (λ p. IsOf p c.args.lead.now) pass_view (lead_key c.args.lead.now) g.K.Object.WORDS c.args.passes.items c.args.buffers.items c.exchange_all.new.buffers.items c.in_ok-kits.kits.items
      c.in_ok-kits.ensures.passes c.in_ok-kits.ensures.buffers c.exchange_all.ensures.exchanges c.requires.count g.K.Object.words g.V.Object.words g.L.MergeLaw.op c.drain_each.new.kits.items c.drain_each.ensures.steps
      (λ i w at. (c.requires.all.of i w at).1) i q (subst (λ l. get_elem? l i ≡ some q) are back);
})

pub returns-clause-empty : goal.returns-clause-empty
returns-clause-empty g c = if_ok c.parts_of.result _ _ c.parts_of.ensures.buffers (λ r are. are ∙
    all_emptied_again (λ k. k.pass) (λ k. k.buffer) (λ p. IsOf p c.args.lead.now) pass_view (lead_key c.args.lead.now) g.K.Object.WORDS c.args.passes.items c.args.buffers.items c.exchange_all.new.buffers.items c.in_ok-kits.kits.items
    c.in_ok-kits.ensures.passes c.in_ok-kits.ensures.buffers c.exchange_all.ensures.exchanges c.requires.count g.K.Object.words g.V.Object.words g.L.MergeLaw.op c.drain_each.new.kits.items c.drain_each.ensures.steps)
