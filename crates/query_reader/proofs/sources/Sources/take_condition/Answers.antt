use Rattle.std.proofs.Common.{Ok, List, map, ap, ◌∙◌}
use Rattle.pg_expr.specs.Cond.{Cond}
use Rattle.pg_expr.specs.work.View.{cond}
use Rattle.pg_expr.specs.declared.expr.Exprs.{Exprs}
use Rattle.catalog.specs.Range.{type_in}
use Rattle.expr_reader.proofs.ReadsLemmas.{was-read}
use Rattle.expr_reader.proofs.StepLemmas.{step}
use Rattle.query_reader.specs.From.{Joined, conjuncts_of_expr}
use Rattle.query_reader.specs.Scope.{scope_after}
use Rattle.query_reader.proofs.FromLemmas.{grown}
use Rattle.query_reader.proofs.SourceLemmas.{into-ok}
use Rattle.query_reader.proofs.sources.Sources.take_condition.Goals as goal

pub returns : goal.returns
returns c = λ e rest ends is.
    let j : Joined = c.args.self.now in
    let m = conjuncts_of_expr (scope_after j.contents c.args.first j.range) (type_in j.contents j.range) e in
    let w = was-read Exprs (List Cond) (λ (es : Exprs). map cond es.items.items) m c.in_ok-more.more rest _ (c.in_ok-more.ensures.read e rest ends is) in
    into-ok (Unit {0}) Joined _ _ _ rest _
    (step m _ (map cond c.in_ok-more.more.items.items) w.meant ∙
    ap (λ (i : Joined). Ok i) (grown j c.self.inside.cat.now c.self.inside.relations.items c.self.inside.written.items c.append.new.self.items c.in_ok-more.more.items.items c.self.view_is c.in_ok-append.ensures.items))
    w.words
