use Rattle.std.proofs.Common.{◌≡◌, ◌∙◌, ◌++◌, List, ℕ, sym, ap, subst}
use Rattle.std.proofs.lemmas.List.{append-nil}
use Rattle.bcl_map.specs.Parts.{lead_key, pass_view}
use Rattle.kmer_walk.specs.Checks.{IsReady}
use Rattle.kmer_walk.proofs.LineChecks.{empty_makes, key_low, not_none, one_find, number_is, agrees, clashes, one_start, no_start}
use Rattle.kmer_walk.proofs.checker.check_line.Goals as goal
use Rattle.kmer_walk.proofs.checker.check_line.Goals.{then-first-it-via-then-first-it, then-first-it-via-else-first-it+then-first-it-2, else-first-eq-NO_NEIGHBOUR-via-then-first-eq-NO_NEIGHBOUR+else-first-it-3, else-first-eq-NO_NEIGHBOUR-via-else-first-eq-NO_NEIGHBOUR}

pub returns-in_default-clause-makes : goal.returns-in_default-clause-makes
returns-in_default-clause-makes c =
    let nodes = c.args.nodes.now in
    let shape = lead_key nodes.lead.now in
    empty_makes nodes.k c.args.place nodes.lines.now (subst (IsReady nodes.k nodes.lines.now shape c.args.place) c.in_default.is c.requires.ready) shape (pass_view c.args.pass.now)

pub find-requires-clause-key : goal.find-requires-clause-key
find-requires-clause-key c =
    let nodes = c.args.nodes.now in
    let shape = lead_key nodes.lead.now in
    let ready = subst (IsReady nodes.k nodes.lines.now shape c.args.place) c.in-Some.is c.requires.ready in
    key_low nodes.k c.args.place nodes.lines.now shape nodes.good c.requires.place c.in-Some.it ready

pub unreachable-requires : goal.unreachable-requires
unreachable-requires c =
    let nodes = c.args.nodes.now in
    let shape = lead_key nodes.lead.now in
    let ready = subst (IsReady nodes.k nodes.lines.now shape c.args.place) c.in-Some.is c.requires.ready in
    not_none nodes.k c.args.place nodes.lines.now shape nodes.good c.requires.place c.in-Some.it ready c.in_default-find.ensures.first

pub returns-then-first-it-clause-conflict : goal.returns-then-first-it-clause-conflict
returns-then-first-it-clause-conflict c n e =
    let nodes = c.args.nodes.now in
    let shape = lead_key nodes.lead.now in
    let it = c.in-Some.it in
    let found = c.in-Some-find in
    let ready = subst (IsReady nodes.k nodes.lines.now shape c.args.place) c.in-Some.is c.requires.ready in
    let number : it.node.line ≡ n = cc (e) in
    let differ : found.first.back ≡ it.node.back → found.first.forward ≡ it.node.forward → ⊥ = λ back forth.
    elim c.then-first-it.branch [
      | then-first-it-via-then-first-it w ↦ w.if-first-it.true back
      | then-first-it-via-else-first-it+then-first-it-2 w ↦ w.if-first-it-2.true forth
    ] in (
      sym number ∙ number_is nodes.k c.args.place nodes.lines.now shape nodes.good c.requires.place it ready,
      clashes nodes.k c.args.place nodes.lines.now shape nodes.good c.requires.place it ready found.first found.ensures.first differ,
    )

pub returns-in_ok-push-clause-consistent : goal.returns-in_ok-push-clause-consistent
returns-in_ok-push-clause-consistent c =
    let nodes = c.args.nodes.now in
    let shape = lead_key nodes.lead.now in
    let found = c.in-Some-find in
    let ready = subst (IsReady nodes.k nodes.lines.now shape c.args.place) c.in-Some.is c.requires.ready in
    agrees nodes.k c.args.place nodes.lines.now shape nodes.good c.requires.place c.in-Some.it ready found.first found.ensures.first c.if-first-it.false c.if-first-it-2.false

pub returns-in_ok-push-clause-makes : goal.returns-in_ok-push-clause-makes
returns-in_ok-push-clause-makes c =
    let nodes = c.args.nodes.now in
    let shape = lead_key nodes.lead.now in
    let ready = subst (IsReady nodes.k nodes.lines.now shape c.args.place) c.in-Some.is c.requires.ready in
    one_find nodes.k c.args.place nodes.lines.now shape nodes.good c.requires.place c.in-Some.it ready (pass_view c.args.pass.now) (pass_view c.find.new.pass) c.in-Some-find.ensures.makes

pub returns-in_ok-push-clause-starts : goal.returns-in_ok-push-clause-starts
returns-in_ok-push-clause-starts c =
    let nodes = c.args.nodes.now in
    let shape = lead_key nodes.lead.now in
    let found = c.in-Some-find in
    let ready = subst (IsReady nodes.k nodes.lines.now shape c.args.place) c.in-Some.is c.requires.ready in
    c.in_ok-push.ensures.items
    ∙ ap (λ (places : List ℕ). c.args.starts.now.items ++ places)
    (sym (one_start nodes.k c.args.place nodes.lines.now shape nodes.good c.requires.place c.in-Some.it ready found.first found.ensures.first c.if-first-it.false c.if-first-eq-NO_NEIGHBOUR.true c.if-first-it-3.true))

pub returns-else-first-eq-NO_NEIGHBOUR-clause-consistent : goal.returns-else-first-eq-NO_NEIGHBOUR-clause-consistent
returns-else-first-eq-NO_NEIGHBOUR-clause-consistent c =
    let nodes = c.args.nodes.now in
    let shape = lead_key nodes.lead.now in
    let found = c.in-Some-find in
    let ready = subst (IsReady nodes.k nodes.lines.now shape c.args.place) c.in-Some.is c.requires.ready in
    agrees nodes.k c.args.place nodes.lines.now shape nodes.good c.requires.place c.in-Some.it ready found.first found.ensures.first c.if-first-it.false c.if-first-it-2.false

pub returns-else-first-eq-NO_NEIGHBOUR-clause-starts : goal.returns-else-first-eq-NO_NEIGHBOUR-clause-starts
returns-else-first-eq-NO_NEIGHBOUR-clause-starts c =
    let nodes = c.args.nodes.now in
    let shape = lead_key nodes.lead.now in
    let it = c.in-Some.it in
    let found = c.in-Some-find in
    let ready = subst (IsReady nodes.k nodes.lines.now shape c.args.place) c.in-Some.is c.requires.ready in
    let differ : found.first.back ≡ 4 → found.first.line ≡ it.node.line → ⊥ = λ end number.
    elim c.else-first-eq-NO_NEIGHBOUR.branch [
      | else-first-eq-NO_NEIGHBOUR-via-then-first-eq-NO_NEIGHBOUR+else-first-it-3 w ↦ w.if-first-it-3.false number
      | else-first-eq-NO_NEIGHBOUR-via-else-first-eq-NO_NEIGHBOUR w ↦ w.if-first-eq-NO_NEIGHBOUR.false end
    ] in
    sym (append-nil c.args.starts.now.items)
    ∙ ap (λ (places : List ℕ). c.args.starts.now.items ++ places)
    (sym (no_start nodes.k c.args.place nodes.lines.now shape nodes.good c.requires.place it ready found.first found.ensures.first c.if-first-it.false differ))
