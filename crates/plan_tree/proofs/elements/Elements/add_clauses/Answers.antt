use Rattle.std.proofs.Common.{◌∙◌, ap, sym, subst, ◌||◌, ◌&&◌, ◌<◌, ◌≤◌, length, arith}
use Rattle.std.proofs.lemmas.Bool.{lt-ltb}
use Rattle.pg_base.specs.Sets.{has}
use Rattle.eq_classes.specs.Clauses.{Clause, ClassTable}
use Rattle.eq_classes.specs.Listing.{clause_at}
use Rattle.eq_classes.specs.Parts.{is_base, is_param}
use Rattle.plan_tree.specs.Bitmaps.{IsElement}
use Rattle.plan_tree.specs.work.Gathering.{Gathered}
use Rattle.plan_tree.proofs.GatherLemmas.{gather-clause, clauses-end}
use Rattle.plan_tree.proofs.elements.Elements.add_clauses.Goals as goal

pub loop-n-preserved : goal.loop-n-preserved
loop-n-preserved c = λ all h.
    let P = IsElement c.args.cat.now c.args.q.now c.args.r.0 (has c.args.p.0) in
    let test = λ (k : Clause). is_base c.args.r.0 k || is_param c.args.r.0 (has c.args.p.0) k in
    let ks = c.args.q.now.classes.clauses in
    let count = ap (λ (t : ClassTable). length t.clauses) c.classes_of.ensures in
    let within : c.loop-n.n < length ks = omega (arith, c.loop-n-test.true, c.count-n-end.ensures.count, count) in
    let passes = c.has.ensures ∙ c.requires.local c.loop-n.n ∙ ap (λ b. b && test (clause_at ks c.loop-n.n)) (lt-ltb c.loop-n.n (length ks) within) in
    subst (Gathered P all _) (sym c.note.ensures)
    (gather-clause P all test ks c.loop-n.n _ c.loop-n.self c.has.result c.is_clause_element-is.result within passes c.is_clause_element-is.ensures (c.loop-n.invariant all h))

pub returns : goal.returns
returns c = λ all h.
    let P = IsElement c.args.cat.now c.args.q.now c.args.r.0 (has c.args.p.0) in
    let test = λ (k : Clause). is_base c.args.r.0 k || is_param c.args.r.0 (has c.args.p.0) k in
    let ks = c.args.q.now.classes.clauses in
    let count = ap (λ (t : ClassTable). length t.clauses) c.classes_of.ensures in
    let past : length ks ≤ c.loop-n.n = omega (arith, c.loop-n-test.false, c.count-n-end.ensures.count, count) in
    clauses-end P all test ks c.loop-n.n c.loop-n.self past (c.loop-n.invariant all h)
