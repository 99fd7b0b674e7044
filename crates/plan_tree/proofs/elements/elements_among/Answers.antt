use Rattle.std.proofs.Common.{ap, sym, subst, map}
use Rattle.pg_base.specs.Sets.{has}
use Rattle.index_match.specs.Numbered.{Numbered, local}
use Rattle.plan_tree.specs.Bitmaps.{IsElement, by_clause, candidates}
use Rattle.plan_tree.specs.work.Gathering.{Gathered}
use Rattle.plan_tree.specs.work.Views.{element}
use Rattle.plan_tree.proofs.GatherLemmas.{gather-none, gathered-all}
use Rattle.plan_tree.proofs.elements.elements_among.Goals as goal

pub returns : goal.returns
returns c =
    let P = IsElement c.args.cat.now c.args.q.now c.args.r.0 (has c.args.p.0) in
    let all = candidates c.args.cat.now c.args.q.now c.args.r.0 (has c.args.p.0) in
    let rest = map (λ (k : Numbered). by_clause k.number) (local c.args.q.now.classes c.args.r.0 (has c.args.p.0)) in
    record { elements = gathered-all P all c.add_clauses.new.self (c.add_clauses.ensures all (c.add_indexes.ensures all rest (subst (Gathered P all all) (sym (ap (map element) c.new.ensures)) (gather-none P all)))) }
