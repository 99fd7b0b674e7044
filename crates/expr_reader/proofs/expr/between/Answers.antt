use Rattle.std.proofs.Common.{◌≡◌, ◌∷◌, ◌++◌, Ok, codes, refl, sym, ap, ◌∙◌}
use Rattle.pg_expr.specs.Cond.{Cond, no_conds, cond_and, joined}
use Rattle.pg_expr.specs.work.View.{cond, conds}
use Rattle.pg_expr.specs.declared.expr.Expr.{Expr}
use Rattle.sql_grammar.specs.declared.class.Word.TheVariants.{And}
use Rattle.sql_grammar.specs.Terminals.{Terminal, t_key}
use Rattle.sql_grammar.specs.Words.{words_of_operand}
use Rattle.expr_reader.specs.Conditions.{standing_for}
use Rattle.expr_reader.specs.work.Expressions.{against}
use Rattle.expr_reader.proofs.ListLemmas.{both, first-of-both, second-of-both, both-read}
use Rattle.expr_reader.proofs.PartLemmas.{first-parts, more-parts}
use Rattle.expr_reader.proofs.ReadsLemmas.{read-ok, read-refused, read-want, was-read}
use Rattle.expr_reader.proofs.expr.between.Goals as goal

pub returns-in_err-again-clause-read : goal.returns-in_err-again-clause-read
returns-in_err-again-clause-read g c = λ s a b k rest left ends is. read-want Expr Cond cond _ _ rest _ c.from_residual.ensures.1

pub returns-in_err-comparison-clause-read : goal.returns-in_err-comparison-clause-read
returns-in_err-comparison-clause-read g c = λ s a b k rest left ends is.
    let scope = g.S.Scope.visible c.args.scope.now in
    let types = g.S.Scope.type_of c.args.scope.now in
    let low = against scope types s (codes ">=") c.args.word a in
    let high = against scope types s (codes "<=") c.args.word b in
    read-refused Expr Expr Cond Cond cond cond low (both low high) c.in_err-comparison.field-0.0 c.from_residual-in_err-comparison.result (t_key And k ∷ (words_of_operand b ++ rest)) rest c.comparison.new.from c.comparison.new.from
    (c.in_err-comparison.ensures.read s (standing_for (codes ">=") c.args.word) a (t_key And k ∷ (words_of_operand b ++ rest)) left refl refl is) (λ f e. first-of-both low high f e) c.from_residual-in_err-comparison.ensures.1

pub returns-in_err-push-clause-read : goal.returns-in_err-push-clause-read
returns-in_err-push-clause-read g c = λ s a b k rest left ends is. read-want Expr Cond cond _ _ rest _ c.from_residual-in_err-push.ensures.1

pub unreachable-requires : goal.unreachable-requires
unreachable-requires g c =
    let (s, a, k, b, rest, left, ends, is) = c.requires in
    let scope = g.S.Scope.visible c.args.scope.now in
    let types = g.S.Scope.type_of c.args.scope.now in
    let one = was-read Expr Cond cond (against scope types s (codes ">=") c.args.word a) c.in_ok-comparison.field-0 (t_key And k ∷ (words_of_operand b ++ rest)) c.comparison.new.from
    (c.in_ok-comparison.ensures.read s (standing_for (codes ">=") c.args.word) a (t_key And k ∷ (words_of_operand b ++ rest)) left refl refl is) in
    c.if-not-takes.ensures.other refl _ (k, one.words)

pub comparison-requires-2 : goal.comparison-requires-2
comparison-requires-2 g c =
    let (s, a, k, b, rest, left, ends, is) = c.requires in
    let scope = g.S.Scope.visible c.args.scope.now in
    let types = g.S.Scope.type_of c.args.scope.now in
    let one = was-read Expr Cond cond (against scope types s (codes ">=") c.args.word a) c.in_ok-comparison.field-0 (t_key And k ∷ (words_of_operand b ++ rest)) c.comparison.new.from
    (c.in_ok-comparison.ensures.read s (standing_for (codes ">=") c.args.word) a (t_key And k ∷ (words_of_operand b ++ rest)) left refl refl is) in
    let (j, took) = c.if-not-takes.ensures.took refl in
    let same : t_key And j ∷ c.takes.new.self ≡ t_key And k ∷ (words_of_operand b ++ rest) = sym took ∙ one.words in
    (b, rest, ends, cc (same))

pub returns-in_err-comparison-2-clause-read : goal.returns-in_err-comparison-2-clause-read
returns-in_err-comparison-2-clause-read g c = λ s a b k rest left ends is.
    let scope = g.S.Scope.visible c.args.scope.now in
    let types = g.S.Scope.type_of c.args.scope.now in
    let low = against scope types s (codes ">=") c.args.word a in
    let high = against scope types s (codes "<=") c.args.word b in
    let one = was-read Expr Cond cond low c.in_ok-comparison.field-0 (t_key And k ∷ (words_of_operand b ++ rest)) c.comparison.new.from
    (c.in_ok-comparison.ensures.read s (standing_for (codes ">=") c.args.word) a (t_key And k ∷ (words_of_operand b ++ rest)) left refl refl is) in
    let (j, took) = c.if-not-takes.ensures.took refl in
    let same : t_key And j ∷ c.takes.new.self ≡ t_key And k ∷ (words_of_operand b ++ rest) = sym took ∙ one.words in
    read-refused Expr Expr Cond Cond cond cond high (both low high) c.in_err-comparison-2.field-0.0 c.from_residual-in_err-comparison-2.result rest rest c.comparison-2.new.from c.comparison-2.new.from
    (c.in_err-comparison-2.ensures.read s (standing_for (codes "<=") c.args.word) b rest (c.in_ok-again.ensures ∙ left) refl ends (cc (same))) (λ f e. second-of-both low high _ f one.meant e) c.from_residual-in_err-comparison-2.ensures.1

pub returns-in_err-push-2-clause-read : goal.returns-in_err-push-2-clause-read
returns-in_err-push-2-clause-read g c = λ s a b k rest left ends is. read-want Expr Cond cond _ _ rest _ c.from_residual-in_err-push-2.ensures.1

pub returns-clause-read : goal.returns-clause-read
returns-clause-read g c = λ s a b k rest left ends is.
    let scope = g.S.Scope.visible c.args.scope.now in
    let types = g.S.Scope.type_of c.args.scope.now in
    let low = against scope types s (codes ">=") c.args.word a in
    let high = against scope types s (codes "<=") c.args.word b in
    let x = c.in_ok-comparison.field-0 in
    let y = c.in_ok-comparison-2.field-0 in
    let one = was-read Expr Cond cond low x (t_key And k ∷ (words_of_operand b ++ rest)) c.comparison.new.from
    (c.in_ok-comparison.ensures.read s (standing_for (codes ">=") c.args.word) a (t_key And k ∷ (words_of_operand b ++ rest)) left refl refl is) in
    let (j, took) = c.if-not-takes.ensures.took refl in
    let same : t_key And j ∷ c.takes.new.self ≡ t_key And k ∷ (words_of_operand b ++ rest) = sym took ∙ one.words in
    let two = was-read Expr Cond cond high y rest c.comparison-2.new.from
    (c.in_ok-comparison-2.ensures.read s (standing_for (codes "<=") c.args.word) b rest (c.in_ok-again.ensures ∙ left) refl ends (cc (same))) in
    let first : conds c.push.new.self.items ≡ cond_and (cond x) no_conds = first-parts c.new-parts.result.items c.push.new.self.items x c.new-parts.ensures.items c.in_ok-push.ensures.items in
    let parts : conds c.push-2.new.self.items ≡ cond_and (cond x) (cond_and (cond y) no_conds) = more-parts c.push.new.self.items c.push-2.new.self.items y c.in_ok-push-2.ensures.items ∙ ap (λ zs. joined zs (cond_and (cond y) no_conds)) first in
    read-ok Expr Cond cond (both low high) c.and_of.result rest c.comparison-2.new.from (ap (λ m. Ok m) c.and_of.ensures ∙ both-read low high (cond x) (cond y) (conds c.push-2.new.self.items) one.meant two.meant parts) two.words
