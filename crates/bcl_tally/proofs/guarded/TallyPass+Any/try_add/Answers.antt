use Rattle.std.proofs.Common.{◌≡◌, ◌≢◌, ℕ, ◌+◌, ◌%◌, [], ◌∷◌, refl, sym, ap, ◌∙◌, subst, ⊎_elim, arith}
use Rattle.std.proofs.lemmas.Bool.{cases_eq}
use Rattle.bcl_event.specs.History.{event}
use Rattle.bcl_segment.specs.Steps.{found_by}
use Rattle.bcl_phase.specs.Views.{get, atomic}
use Rattle.bcl_phase.specs.Stands as phase
use Rattle.bcl_phase.specs.Stands.{Still}
use Rattle.bcl_phase.specs.Parts.{lead_key, pass_view}
use Rattle.bcl_phase.specs.Found.{HasLooked}
use Rattle.bcl_phase.proofs.Calls.{stands_one, still_by, still_trans, stands_behind}
use Rattle.bcl_phase.proofs.Found.{looked_at, looked_refl, looked_trans}
use Rattle.bcl_tally.specs.declared.tally.Call.TheVariants.{Add}
use Rattle.bcl_tally.specs.declared.tally.Reply.TheVariants.{Was}
use Rattle.bcl_tally.specs.Tally.{ranks, start, next, permits, is_rest}
use Rattle.bcl_tally.proofs.Fits.{at_rest, stays_at, exchanges_at}
use Rattle.bcl_tally.proofs.guarded.TallyPass+Any.try_add.Goals as goal

pub get-first-requires-clause-step : goal.get-first-requires-clause-step
get-first-requires-clause-step c = let v = pass_view c.args.self.now.pass.pass in
    stays_at (lead_key c.args.lead.now) v.promise v.rank _ (λ m. m) v.note (at_rest _ c.args.self.now.pass.idle) (λ _ _. refl)

pub invariant_of-self : goal.invariant_of-self
invariant_of-self c = record { idle = ap is_rest c.get-first.ensures.told.fact.1 }

pub returns-then-first-eq1-clause-tried : goal.returns-then-first-eq1-clause-tried
returns-then-first-eq1-clause-tried c = let got = c.get-first.ensures in let once = c.once.ensures.once in let word : _ ≡ c.args.place = c.number_of-number.ensures.word in
    let u = pass_view c.args.self.now.pass.pass in let v = pass_view c.get-first.new.self in record {
      still = still_by ranks start next permits (lead_key c.args.lead.now) get u v _ c.get-first.result got.took got.told got.told.fact.0;
      looked = λ _. subst (λ (z : ℕ). HasLooked 1 ((c.args.place, z) ∷ []) u v) (sym once.0) (looked_at 1 u v _ c.args.place c.get-first.result (omega arith) (omega arith) got.found);
      none = λ _. got.took.atomics_rise;
      shows = λ _. ap (λ (z : ℕ). z % 2) once.0 ∙ c.if-first-eq1.true;
      lost = λ ne. absurd (ne (once.0 ∙ sym once.1));
      one = λ ne. absurd (ne (once.0 ∙ sym once.1));
    }

pub cas-requires-clause-step : goal.cas-requires-clause-step
cas-requires-clause-step c = let v = pass_view c.get-first.new.self in let took = c.get-first.ensures.took in
    exchanges_at (lead_key c.args.lead.now) v.promise v.rank c.args.place c.args.n c.get-first.result _ v.note c.number_of-number.ensures.word c.get-first.ensures.told.fact.1 (took.same_promise ∙ c.args.self.now.pass.pass.pass.1)

pub invariant_of-self-2 : goal.invariant_of-self-2
invariant_of-self-2 c = let fact = c.cas.ensures.told.fact in
    record { idle = ⊎_elim (λ (won : found_by c.cas.result ≡ c.get-first.result). ap is_rest (fact.0 won).2) (λ (lost : found_by c.cas.result ≢ c.get-first.result). ap is_rest (fact.1 lost).1) (cases_eq (found_by c.cas.result) c.get-first.result) }

pub returns-in-Ok-clause-tried : goal.returns-in-Ok-clause-tried
returns-in-Ok-clause-tried c = let k = lead_key c.args.lead.now in let got = c.get-first.ensures in let done = c.in-Ok.ensures in
    let u = pass_view c.args.self.now.pass.pass in let v = pass_view c.get-first.new.self in let w = pass_view c.cas.new.self in
    let quiet : Still u v = still_by ranks start next permits k get u v _ c.get-first.result got.took got.told got.told.fact.0 in
    let made = done.told.fact.0 done.ok in let word : _ ≡ c.args.place = c.number_of-number.ensures.word in
    let one : phase.Stands ranks start next permits k v w (event v.rank (Add c.args.place c.args.n) (Was c.in-Ok.was) ∷ []) =
    stands_one ranks start next permits k atomic v w _ c.in-Ok.was (Add c.args.place c.args.n) (Was c.in-Ok.was) done.took done.told made.0 made.1 in
    let same : c.in-Ok.was ≡ c.get-first.result = done.ok in let odd : c.get-first.result % 2 ≢ 1 = c.if-first-eq1.false in record {
      stands = subst (λ (z : ℕ). phase.Stands ranks start next permits k u w (event z (Add c.args.place c.args.n) (Was c.in-Ok.was) ∷ [])) got.took.same_rank (stands_behind ranks start next permits k u v w _ quiet one);
      even = omega arith;
      looked = subst (λ (z : ℕ). HasLooked 1 ((c.args.place, z) ∷ []) u w) (sym same)
          (looked_trans 1 u v w _ _ (looked_at 1 u v _ c.args.place c.get-first.result (omega arith) (omega arith) got.found) (looked_refl 1 v w done.found));
      one = done.took.atomics_rise ∙ ap (λ (z : ℕ). z + 1) got.took.atomics_rise;
    }

pub returns-in-Err-clause-tried : goal.returns-in-Err-clause-tried
returns-in-Err-clause-tried c = let k = lead_key c.args.lead.now in let got = c.get-first.ensures in let done = c.in-Err.ensures in let word : _ ≡ c.args.place = c.number_of-number.ensures.word in
    let u = pass_view c.args.self.now.pass.pass in let v = pass_view c.get-first.new.self in let w = pass_view c.cas.new.self in
    let differ = done.err in let quiet : Still u v = still_by ranks start next permits k get u v _ c.get-first.result got.took got.told got.told.fact.0 in
    let still : Still v w = still_by ranks start next permits k atomic v w _ c.in-Err.second done.took done.told (done.told.fact.1 differ).0 in record {
      still = still_trans u v w quiet still;
      looked = λ same. absurd (differ (sym same));
      none = λ same. absurd (differ (sym same));
      shows = λ same. absurd (differ (sym same));
      lost = λ _. looked_trans 1 u v w _ _ (looked_at 1 u v _ c.args.place c.get-first.result (omega arith) (omega arith) got.found) (looked_at 1 v w _ c.args.place c.in-Err.second (omega arith) (omega arith) done.found);
      one = λ _. done.took.atomics_rise ∙ ap (λ (z : ℕ). z + 1) got.took.atomics_rise;
    }
