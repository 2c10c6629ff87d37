use Rattle.std.proofs.Common.{[], ◌∷◌, ◌++◌, List, refl, sym, ap, ◌∙◌, subst}
use Rattle.std.specs.Prelude.{IsOk}
use Rattle.std.proofs.lemmas.List.{map-append, append_assoc}
use Rattle.std.proofs.lemmas.List.Elements.{All-nil, All-cons, All-append}
use Rattle.std.proofs.lemmas.Result.{err_from_is_err_and}
use Rattle.kmer_walk.specs.declared.checker.Checker.{Checker}
use Rattle.kmer_walk.proofs.checking.checks_of.Goals as goal

pub returns-in_err-kit-clause-conflict : goal.returns-in_err-kit-clause-conflict
returns-in_err-kit-clause-conflict c n e =
    let p = err_from_is_err_and c.from_residual-in_err-kit.result c.from_residual-in_err-kit.ensures.1 in
    let at = rw (p.1, p.2) at e in
    record {
      before = c.loop-kit.yielded;
      here = c.in-Some.kit;
      behind = c.next.new.self.rest.items;
      all = sym c.loop-kit.invariant.rest ∙ ap (λ (l : List Checker). c.loop-kit.yielded ++ l) c.in-Some.ensures.steps.0;
      good = c.loop-kit.invariant.checked;
      met = c.in_err-kit.was ∙ cc (at);
    }

pub returns-in_err-kit-clause-too_long : goal.returns-in_err-kit-clause-too_long
returns-in_err-kit-clause-too_long c e =
    let p = err_from_is_err_and c.from_residual-in_err-kit.result c.from_residual-in_err-kit.ensures.1 in
    let at = rw (p.1, p.2) at e in
    record {
      before = c.loop-kit.yielded;
      here = c.in-Some.kit;
      behind = c.next.new.self.rest.items;
      all = sym c.loop-kit.invariant.rest ∙ ap (λ (l : List Checker). c.loop-kit.yielded ++ l) c.in-Some.ensures.steps.0;
      good = c.loop-kit.invariant.checked;
      met = c.in_err-kit.was ∙ cc (at);
    }

pub loop-kit-preserved : goal.loop-kit-preserved
loop-kit-preserved c =
    let before = c.loop-kit.invariant in let kits = c.loop-kit.yielded in let kit = c.in-Some.kit in record {
      checked = All-append (λ (f : Checker). IsOk f.checked) kits (kit ∷ []) before.checked (All-cons (λ (f : Checker). IsOk f.checked) kit [] (subst IsOk (sym c.in_ok-kit.was) refl) (All-nil (λ (f : Checker). IsOk f.checked)));
      passes = c.in_ok-push.ensures.items ∙ (ap (λ l. l ++ kit.pass ∷ []) before.passes ∙ sym (map-append (λ (f : Checker). f.pass) kits (kit ∷ [])));
      starts = c.in_ok-push-2.ensures.items ∙ (ap (λ l. l ++ kit.starts ∷ []) before.starts ∙ sym (map-append (λ (f : Checker). f.starts) kits (kit ∷ [])));
      rest = append_assoc kits (kit ∷ []) c.next.new.self.rest.items ∙ (ap (λ (l : List Checker). kits ++ l) (sym c.in-Some.ensures.steps.0) ∙ before.rest);
    }
