use Rattle.std.proofs.Common.{sym, ◌∙◌, subst}
use Rattle.std.proofs.lemmas.Bool.{false≢true}
use Rattle.bcl_phase.specs.Parts.{lead_key, pass_view}
use Rattle.bcl_map.specs.Reaches.{IsPast}
use Rattle.bcl_map.proofs.Reached.{comes_trans, past_behind}
use Rattle.bcl_map.proofs.look.look_at.Goals.{else-names_home-via-then-names_home+else-has_key, else-names_home-via-else-names_home}
use Rattle.bcl_map.proofs.look.look_at.Goals as goal

pub has_key-requires-clause-matching : goal.has_key-requires-clause-matching
has_key-requires-clause-matching g c κs within = ((c.see-control.ensures.used c.if-control-eq0.false).same_home (c.names_home.ensures.names.0 c.if-names_home.true ∙ c.requires.home)).1

pub has_key-requires-clause-own : goal.has_key-requires-clause-own
has_key-requires-clause-own g c κs within = ((c.see-control.ensures.used c.if-control-eq0.false).same_home (c.names_home.ensures.names.0 c.if-names_home.true ∙ c.requires.home)).0.own

pub returns-then-has_key-clause-looks : goal.returns-then-has_key-clause-looks
returns-then-has_key-clause-looks g c =
    let first = (c.see-control.ensures.used c.if-control-eq0.false).same_home (c.names_home.ensures.names.0 c.if-names_home.true ∙ c.requires.home) in let has = c.has_key.ensures.same c.if-has_key.true in
    (comes_trans g.L.MergeLaw.op (lead_key c.args.lead.now) (pass_view c.args.pass.now) (pass_view c.see-control.new.pass) (pass_view c.has_key.new.pass) first.0 has.0, has.1)

pub returns-clause-looks : goal.returns-clause-looks
returns-clause-looks g c = let op = g.L.MergeLaw.op in let L = lead_key c.args.lead.now in let k = c.args.key.now in let walker = g.C.Walking.walker c.args.call.now k in let u = pass_view c.args.pass.now in
    let met = c.see-control.ensures.used c.if-control-eq0.false in elim c.else-names_home.branch [
      | else-names_home-via-then-names_home+else-has_key w ↦
          let first = met.same_home (c.names_home.ensures.names.0 w.if-names_home.true ∙ c.requires.home) in
          subst (λ (p : _). IsPast op L walker k c.args.number u (pass_view p)) (sym w.pass-is) (past_behind op L walker k c.args.number u (pass_view c.see-control.new.pass) (pass_view w.has_key.new.pass) first.0 (w.has_key.ensures.other w.if-has_key.false))
      | else-names_home-via-else-names_home w ↦
          subst (λ (p : _). IsPast op L walker k c.args.number u (pass_view p)) (sym w.pass-is) (met.other_home (λ e. false≢true (sym w.if-names_home.false ∙ c.names_home.ensures.names.1 (e ∙ sym c.requires.home))))
    ]
