use Rattle.std.proofs.Common.{◌∙◌, ◌≤◌, ◌^◌, ℕ, List, Err, map, ap, sym, refl, subst, length, ⊎_elim}
use Rattle.std.proofs.lemmas.Bool.{cases_lt}
use Rattle.std.proofs.lemmas.Result.{err_from_is_err_and}
use Rattle.kmer_text.specs.Lines.{lines}
use Rattle.kmer_text.specs.Nodes.{bad_node}
use Rattle.std.specs.declared.vec.Vec.{Vec}
use Rattle.std.specs.declared.alloc.Global.{Global}
use Rattle.kmer_paths.specs.Contigs.{text_of}
use Rattle.kmer_walk.specs.Book.{ContigBook}
use Rattle.bcl_map.specs.Parts.{closed_view}
use Rattle.bcl_run.specs.Verdict.{Text}
use Rattle.bcl_run.proofs.Verdicts.{contig_cut_excuse, node_excuse, walk_excuse, contig_answers}
use Rattle.bcl_run.proofs.answer.walked.Goals as goal

pub returns-in_err-lines-clause-stop : goal.returns-in_err-lines-clause-stop
returns-in_err-lines-clause-stop g c =
    let p = err_from_is_err_and c.from_residual.result c.from_residual.ensures.1 in
    rw (p.1, p.2) (contig_cut_excuse c.args.k c.args.bytes.items c.in_err-lines.field-0.0 c.requires.short (λ e. c.in_err-lines.ensures.too_many.0 (ap Err e)))

pub returns-in_err-check_nodes-clause-stop : goal.returns-in_err-check_nodes-clause-stop
returns-in_err-check_nodes-clause-stop g c =
    let p = err_from_is_err_and c.from_residual-in_err-check_nodes.result c.from_residual-in_err-check_nodes.ensures.1 in
    let all = lines c.args.bytes.items in
    let cut = c.in_ok-lines.ensures in
    let few : length all ≤ 2 ^ 22 = ⊎_elim (λ many. absurd (cc (cut.too_many.1 many))) (λ few. few) (cases_lt (2 ^ 22) (length all)) in
    let bad = ap (bad_node c.args.k) (sym cut.lines) ∙ (c.in_err-check_nodes.ensures.bad c.in_err-check_nodes.field-0.0).0 (λ i. Err c.in_err-check_nodes.field-0.0) in
    rw (p.1, p.2) (node_excuse c.args.k c.args.bytes.items c.requires.short few c.in_err-check_nodes.field-0.0 bad)

pub returns-in_err-found-clause-stop : goal.returns-in_err-found-clause-stop
returns-in_err-found-clause-stop g c =
    let p = err_from_is_err_and c.from_residual-in_err-found.result c.from_residual-in_err-found.ensures.1 in
    let all = lines c.args.bytes.items in
    let cut = c.in_ok-lines.ensures in
    let few : length all ≤ 2 ^ 22 = ⊎_elim (λ many. absurd (cc (cut.too_many.1 many))) (λ few. few) (cases_lt (2 ^ 22) (length all)) in
    let good = ap (bad_node c.args.k) (sym cut.lines) ∙ c.in_ok-check_nodes.ensures.good.0 refl in
    let fault = rw cut.lines at c.in_err-found.ensures in
    rw (p.1, p.2) (walk_excuse c.args.k c.args.bytes.items c.requires.short few good c.in_err-found.field-0.0
    (λ n e. fault.conflict n (ap Err e)) (λ e. fault.too_long (ap Err e)))

pub returns-clause-text : goal.returns-clause-text
returns-clause-text g c =
    let all = lines c.args.bytes.items in
    let cut = c.in_ok-lines.ensures in
    let few : length all ≤ 2 ^ 22 = ⊎_elim (λ many. absurd (cc (cut.too_many.1 many))) (λ few. few) (cases_lt (2 ^ 22) (length all)) in
    let good = ap (bad_node c.args.k) (sym cut.lines) ∙ c.in_ok-check_nodes.ensures.good.0 refl in
    let found = rw cut.lines at c.in_ok-found.ensures in
    let written = c.in_ok-text.ensures ∙ ap text_of (ap (map (λ (text : Vec _ Global). text.items)) c.deref.ensures.value ∙ found.texts) in
    contig_answers c.args.k c.args.bytes.items c.requires.short few good found.consistent found.short ∙ ap Text (sym written)

pub returns-clause-book : goal.returns-clause-book
returns-clause-book g c =
    subst (λ (ls : List (List ℕ)). ContigBook c.args.k ls c.args.ranks (closed_view c.in_ok-found.found.closed).seen) c.in_ok-lines.ensures.lines c.in_ok-found.ensures.book
