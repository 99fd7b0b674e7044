use Rattle.std.proofs.Common.{[], refl, sym, ap, ◌∙◌, append-nil}
use Rattle.pg_expr.specs.Cond.{Cond}
use Rattle.pg_expr.specs.work.View.{cond}
use Rattle.pg_expr.specs.declared.expr.Expr.{Expr}
use Rattle.sql_grammar.specs.Faults.{terminals}
use Rattle.expr_reader.specs.Conditions.{meaning_of_expr}
use Rattle.expr_reader.proofs.EndLemmas.{between, end-within}
use Rattle.expr_reader.proofs.ReadsLemmas.{read-whole}
use Rattle.expr_reader.proofs.read.read_expr.Goals as goal

pub part-from-requires-clause-within : goal.part-from-requires-clause-within
part-from-requires-clause-within g c =
    let e = c.requires.end in
    end-within c.args.first c.args.end e.before e.after e.token c.args.tokens.now e.split e.place

pub take_expr-requires : goal.take_expr-requires
take_expr-requires g c =
    let e = c.requires.end in
    let (tree, levels, words) = e.whole in
    let inside = between c.args.first c.args.end e.before e.after e.token c.args.tokens.now e.split e.place in
    (tree, [], refl, c.part-from.ensures ∙ (ap (terminals c.args.text.now) inside ∙ (sym words ∙ sym (append-nil _))))

pub returns-clause-read : goal.returns-clause-read
returns-clause-read g c = λ e is.
    read-whole Expr Cond cond (meaning_of_expr (g.S.Scope.visible c.args.scope.now) (g.S.Scope.type_of c.args.scope.now) e) c.take_expr.result [] c.take_expr.new.from
    (c.take_expr.ensures.read e [] refl (c.part-from.ensures ∙ (sym is ∙ sym (append-nil _))))
