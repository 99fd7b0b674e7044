use Rattle.std.proofs.Common.{◌≡◌, ◌∷◌, ◌++◌, List, Ok, codes, refl, sym, ap, ◌∙◌}
use Rattle.pg_expr.specs.Cond.{Cond}
use Rattle.pg_expr.specs.work.View.{cond}
use Rattle.pg_expr.specs.declared.expr.Expr.{Expr}
use Rattle.sql_grammar.specs.declared.class.Free.TheVariants.{Between, In}
use Rattle.sql_grammar.specs.Terminals.{Terminal}
use Rattle.sql_grammar.proofs.ExprTrees.{atom-dotless}
use Rattle.expr_reader.specs.work.Reading.{free_name}
use Rattle.expr_reader.specs.Conditions.{literals_after, meaning_of_atom, of_column}
use Rattle.expr_reader.specs.work.Expressions.{against, each_equal}
use Rattle.expr_reader.specs.declared.written.Side.TheVariants.{Column}
use Rattle.expr_reader.proofs.AtomLemmas.{column-atom, comparison-next, constant-atom, no-typed}
use Rattle.expr_reader.proofs.ListLemmas.{any, both, list-next, listed-read, listed-side, negated-read, none-next, perhaps_negated, range-next, TakesNot}
use Rattle.expr_reader.proofs.ReadsLemmas.{read-fault, read-ok, read-refused, read-want, seen-err, seen-ok, was-read}
use Rattle.expr_reader.proofs.expr.after_operand.Goals as goal

pub between-requires : goal.between-requires
between-requires g c =
    let (a, s, rest, flat, ends, side, read, is) = c.requires in
    let scope = g.S.Scope.visible c.args.scope.now in
    let types = g.S.Scope.type_of c.args.scope.now in
    let same = c.in_default.ensures.0 in
    let not : TakesNot c.takes-negated.result c.operator.new.self c.takes-negated.new.self = record { took = c.takes-negated.ensures.took; left = c.takes-negated.ensures.left; other = c.takes-negated.ensures.other } in
    let r = range-next scope types a s rest c.operator.new.self c.takes-negated.new.self c.free_word.new.from c.takes-negated.result c.in-Some-free_word.word flat ends side (same ∙ is) (λ said left e. c.in_default.ensures.1 said left (sym same ∙ e)) not c.in-Some-free_word.ensures in
    (s, r.low, r.and_at, r.high, rest, read, r.ends, r.words)

pub returns-in_err-e-clause-read : goal.returns-in_err-e-clause-read
returns-in_err-e-clause-read g c = λ a s rest flat ends side read is.
    let scope = g.S.Scope.visible c.args.scope.now in
    let types = g.S.Scope.type_of c.args.scope.now in
    let same = c.in_default.ensures.0 in
    let word = c.in-Some-free_word.word in
    let not : TakesNot c.takes-negated.result c.operator.new.self c.takes-negated.new.self = record { took = c.takes-negated.ensures.took; left = c.takes-negated.ensures.left; other = c.takes-negated.ensures.other } in
    let r = range-next scope types a s rest c.operator.new.self c.takes-negated.new.self c.free_word.new.from c.takes-negated.result word flat ends side (same ∙ is) (λ said left e. c.in_default.ensures.1 said left (sym same ∙ e)) not c.in-Some-free_word.ensures in
    let m = both (against scope types s (codes ">=") word r.low) (against scope types s (codes "<=") word r.high) in
    read-refused Expr Expr Cond Cond cond cond m (meaning_of_atom scope types a) c.in_err-e.field-0.0 c.from_residual.result rest rest c.between.new.from c.between.new.from
    (c.in_err-e.ensures.read s r.low r.high r.and_at rest read r.ends r.words) (λ f e. r.meant ∙ ap (perhaps_negated r.negated) e) c.from_residual.ensures.1

pub returns-in-Some-free_word-clause-read : goal.returns-in-Some-free_word-clause-read
returns-in-Some-free_word-clause-read g c = λ a s rest flat ends side read is.
    let scope = g.S.Scope.visible c.args.scope.now in
    let types = g.S.Scope.type_of c.args.scope.now in
    let same = c.in_default.ensures.0 in
    let word = c.in-Some-free_word.word in
    let not : TakesNot c.takes-negated.result c.operator.new.self c.takes-negated.new.self = record { took = c.takes-negated.ensures.took; left = c.takes-negated.ensures.left; other = c.takes-negated.ensures.other } in
    let r = range-next scope types a s rest c.operator.new.self c.takes-negated.new.self c.free_word.new.from c.takes-negated.result word flat ends side (same ∙ is) (λ said left e. c.in_default.ensures.1 said left (sym same ∙ e)) not c.in-Some-free_word.ensures in
    let m = both (against scope types s (codes ">=") word r.low) (against scope types s (codes "<=") word r.high) in
    let was = was-read Expr Cond cond m c.in_ok-e.e rest c.between.new.from (c.in_ok-e.ensures.read s r.low r.high r.and_at rest read r.ends r.words) in
    read-ok Expr Cond cond (meaning_of_atom scope types a) c.in_ok-perhaps_not.field-0 rest c.between.new.from
    (negated-read r.negated c.takes-negated.result m (cond c.in_ok-e.e) (cond c.in_ok-perhaps_not.field-0) r.taken was.meant c.in_ok-perhaps_not.ensures.plain c.in_ok-perhaps_not.ensures.negated ∙ sym r.meant) was.words

pub returns-in_err-e-2-clause-read : goal.returns-in_err-e-2-clause-read
returns-in_err-e-2-clause-read g c = λ a s rest flat ends side read is.
    let scope = g.S.Scope.visible c.args.scope.now in
    let types = g.S.Scope.type_of c.args.scope.now in
    let same = c.in_default.ensures.0 in
    let word = c.in-Some-free_word-2.word in
    let not : TakesNot c.takes-negated.result c.operator.new.self c.takes-negated.new.self = record { took = c.takes-negated.ensures.took; left = c.takes-negated.ensures.left; other = c.takes-negated.ensures.other } in
    let r = list-next scope types a s rest c.operator.new.self c.takes-negated.new.self c.free_word-2.new.from c.takes-negated.result word flat ends side (same ∙ is) (λ said left e. c.in_default.ensures.1 said left (sym same ∙ e)) not (sym c.in_default-free_word.ensures.0 ∙ c.in-Some-free_word-2.ensures) in
    let column = listed-side scope types s c.in-Column.c c.in-Column.t c.in-Column.first (sym c.in-Column.is ∙ read) in
    let m = any (each_equal (of_column c.in-Column.c c.in-Column.t c.in-Column.first) word (r.one ∷ literals_after r.more)) in
    read-refused Expr Expr Cond Cond cond cond m (meaning_of_atom scope types a) c.in_err-e-2.field-0.0 c.from_residual-in_err-e-2.result rest rest c.among.new.from c.among.new.from
    (c.in_err-e-2.ensures.read r.open_at r.one r.more r.close_at rest r.words) (λ f e. r.meant ∙ (ap (λ x. perhaps_negated r.negated (any (each_equal x word (r.one ∷ literals_after r.more)))) column ∙ ap (perhaps_negated r.negated) e)) c.from_residual-in_err-e-2.ensures.1

pub returns-in-Some-free_word-2-clause-read : goal.returns-in-Some-free_word-2-clause-read
returns-in-Some-free_word-2-clause-read g c = λ a s rest flat ends side read is.
    let scope = g.S.Scope.visible c.args.scope.now in
    let types = g.S.Scope.type_of c.args.scope.now in
    let same = c.in_default.ensures.0 in
    let word = c.in-Some-free_word-2.word in
    let not : TakesNot c.takes-negated.result c.operator.new.self c.takes-negated.new.self = record { took = c.takes-negated.ensures.took; left = c.takes-negated.ensures.left; other = c.takes-negated.ensures.other } in
    let r = list-next scope types a s rest c.operator.new.self c.takes-negated.new.self c.free_word-2.new.from c.takes-negated.result word flat ends side (same ∙ is) (λ said left e. c.in_default.ensures.1 said left (sym same ∙ e)) not (sym c.in_default-free_word.ensures.0 ∙ c.in-Some-free_word-2.ensures) in
    let column = listed-side scope types s c.in-Column.c c.in-Column.t c.in-Column.first (sym c.in-Column.is ∙ read) in
    let m = any (each_equal (of_column c.in-Column.c c.in-Column.t c.in-Column.first) word (r.one ∷ literals_after r.more)) in
    let was = was-read Expr Cond cond m c.in_ok-e-2.e rest c.among.new.from (c.in_ok-e-2.ensures.read r.open_at r.one r.more r.close_at rest r.words) in
    read-ok Expr Cond cond (meaning_of_atom scope types a) c.in_ok-perhaps_not-2.field-0 rest c.among.new.from
    (negated-read r.negated c.takes-negated.result m (cond c.in_ok-e-2.e) (cond c.in_ok-perhaps_not-2.field-0) r.taken was.meant c.in_ok-perhaps_not-2.ensures.plain c.in_ok-perhaps_not-2.ensures.negated
    ∙ sym (r.meant ∙ ap (λ x. perhaps_negated r.negated (any (each_equal x word (r.one ∷ literals_after r.more)))) column)) was.words

pub constant-requires : goal.constant-requires
constant-requires g c =
    let (a, s, rest, flat, ends, side, read, is) = c.requires in
    let scope = g.S.Scope.visible c.args.scope.now in
    let types = g.S.Scope.type_of c.args.scope.now in
    let same = c.in_default.ensures.0 in
    let not : TakesNot c.takes-negated.result c.operator.new.self c.takes-negated.new.self = record { took = c.takes-negated.ensures.took; left = c.takes-negated.ensures.left; other = c.takes-negated.ensures.other } in
    let n = none-next scope types a rest c.operator.new.self c.takes-negated.new.self c.takes-negated.result flat ends (same ∙ is) (λ said left e. c.in_default.ensures.1 said left (sym same ∙ e)) not c.in_default-free_word.ensures.1 (λ left (t, e). c.in_default-free_word-2.ensures.1 left (t, c.in_default-free_word.ensures.0 ∙ e)) in
    let found = constant-atom scope types a s rest c.operator.new.self c.in-Literal.literal flat side (sym c.in-Literal.is ∙ read) (same ∙ is) (λ said left e. c.in_default.ensures.1 said left (sym same ∙ e)) n.lists in
    (found.truth, found.token, found.literal)

pub returns-in-Literal-clause-read : goal.returns-in-Literal-clause-read
returns-in-Literal-clause-read g c = λ a s rest flat ends side read is.
    let scope = g.S.Scope.visible c.args.scope.now in
    let types = g.S.Scope.type_of c.args.scope.now in
    let same = c.in_default.ensures.0 in
    let not : TakesNot c.takes-negated.result c.operator.new.self c.takes-negated.new.self = record { took = c.takes-negated.ensures.took; left = c.takes-negated.ensures.left; other = c.takes-negated.ensures.other } in
    let n = none-next scope types a rest c.operator.new.self c.takes-negated.new.self c.takes-negated.result flat ends (same ∙ is) (λ said left e. c.in_default.ensures.1 said left (sym same ∙ e)) not c.in_default-free_word.ensures.1 (λ left (t, e). c.in_default-free_word-2.ensures.1 left (t, c.in_default-free_word.ensures.0 ∙ e)) in
    let found = constant-atom scope types a s rest c.operator.new.self c.in-Literal.literal flat side (sym c.in-Literal.is ∙ read) (same ∙ is) (λ said left e. c.in_default.ensures.1 said left (sym same ∙ e)) n.lists in
    read-ok Expr Cond cond (meaning_of_atom scope types a) c.constant.result rest c.free_word-2.new.from
    (ap (λ m. Ok m) (c.constant.ensures found.truth found.token found.literal) ∙ found.meant) (c.in_default-free_word-2.ensures.0 ∙ (c.in_default-free_word.ensures.0 ∙ (n.same ∙ found.words)))

pub returns-in_err-column_test-in-Column-left-clause-read : goal.returns-in_err-column_test-in-Column-left-clause-read
returns-in_err-column_test-in-Column-left-clause-read g c = λ a s rest flat ends side read is.
    let scope = g.S.Scope.visible c.args.scope.now in
    let types = g.S.Scope.type_of c.args.scope.now in
    let same = c.in_default.ensures.0 in
    let not : TakesNot c.takes-negated.result c.operator.new.self c.takes-negated.new.self = record { took = c.takes-negated.ensures.took; left = c.takes-negated.ensures.left; other = c.takes-negated.ensures.other } in
    let n = none-next scope types a rest c.operator.new.self c.takes-negated.new.self c.takes-negated.result flat ends (same ∙ is) (λ said left e. c.in_default.ensures.1 said left (sym same ∙ e)) not c.in_default-free_word.ensures.1 (λ left (t, e). c.in_default-free_word-2.ensures.1 left (t, c.in_default-free_word.ensures.0 ∙ e)) in
    let back : c.free_word-2.new.from ≡ c.operator.new.self = c.in_default-free_word-2.ensures.0 ∙ (c.in_default-free_word.ensures.0 ∙ n.same) in
    let told = column-atom scope types a s rest c.operator.new.self c.column_test.new.from c.in-Column-left.c c.in-Column-left.t c.in-Column-left.token c.column_test.result flat ends side (sym c.in-Column-left.is ∙ read) (same ∙ is)
    (λ said left e. c.in_default.ensures.1 said left (sym same ∙ e)) n.lists (λ i k left e. c.column_test.ensures.plain i k left (back ∙ e)) (λ i j k left e. c.column_test.ensures.negated i j k left (back ∙ e)) (λ none. ((c.column_test.ensures.alone (λ left (t, e). none left (t, sym back ∙ e))).0, (c.column_test.ensures.alone (λ left (t, e). none left (t, sym back ∙ e))).1 ∙ back)) in
    read-fault Expr Cond cond (meaning_of_atom scope types a) c.from_residual-in_err-column_test-in-Column-left.result c.in_err-column_test-in-Column-left.field-0.0 rest c.column_test.new.from
    (seen-err Expr Cond cond c.column_test.result (meaning_of_atom scope types a) c.in_err-column_test-in-Column-left.field-0.0 told.0 c.in_err-column_test-in-Column-left.was) c.from_residual-in_err-column_test-in-Column-left.ensures.1

pub returns-in_ok-column_test-in-Column-left-clause-read : goal.returns-in_ok-column_test-in-Column-left-clause-read
returns-in_ok-column_test-in-Column-left-clause-read g c = λ a s rest flat ends side read is.
    let scope = g.S.Scope.visible c.args.scope.now in
    let types = g.S.Scope.type_of c.args.scope.now in
    let same = c.in_default.ensures.0 in
    let not : TakesNot c.takes-negated.result c.operator.new.self c.takes-negated.new.self = record { took = c.takes-negated.ensures.took; left = c.takes-negated.ensures.left; other = c.takes-negated.ensures.other } in
    let n = none-next scope types a rest c.operator.new.self c.takes-negated.new.self c.takes-negated.result flat ends (same ∙ is) (λ said left e. c.in_default.ensures.1 said left (sym same ∙ e)) not c.in_default-free_word.ensures.1 (λ left (t, e). c.in_default-free_word-2.ensures.1 left (t, c.in_default-free_word.ensures.0 ∙ e)) in
    let back : c.free_word-2.new.from ≡ c.operator.new.self = c.in_default-free_word-2.ensures.0 ∙ (c.in_default-free_word.ensures.0 ∙ n.same) in
    let told = column-atom scope types a s rest c.operator.new.self c.column_test.new.from c.in-Column-left.c c.in-Column-left.t c.in-Column-left.token c.column_test.result flat ends side (sym c.in-Column-left.is ∙ read) (same ∙ is)
    (λ said left e. c.in_default.ensures.1 said left (sym same ∙ e)) n.lists (λ i k left e. c.column_test.ensures.plain i k left (back ∙ e)) (λ i j k left e. c.column_test.ensures.negated i j k left (back ∙ e)) (λ none. ((c.column_test.ensures.alone (λ left (t, e). none left (t, sym back ∙ e))).0, (c.column_test.ensures.alone (λ left (t, e). none left (t, sym back ∙ e))).1 ∙ back)) in
    read-ok Expr Cond cond (meaning_of_atom scope types a) c.in_ok-column_test-in-Column-left.field-0 rest c.column_test.new.from
    (seen-ok Expr Cond cond c.column_test.result (meaning_of_atom scope types a) c.in_ok-column_test-in-Column-left.field-0 told.0 c.in_ok-column_test-in-Column-left.was) told.1

pub comparison-requires : goal.comparison-requires
comparison-requires g c =
    let (a, s, rest, flat, ends, side, read, is) = c.requires in
    let n = comparison-next a rest c.args.from.now c.operator.new.self c.in-Some.operator flat ends c.in-Some.ensures is in
    (n.upper, rest, atom-dotless rest ends, n.words)

pub unreachable-requires-in-Typed : goal.unreachable-requires-in-Typed
unreachable-requires-in-Typed g c =
    let (a, s, rest, flat, ends, side, read, is) = c.requires in
    let scope = g.S.Scope.visible c.args.scope.now in
    let types = g.S.Scope.type_of c.args.scope.now in
    let same = c.in_default.ensures.0 in
    let not : TakesNot c.takes-negated.result c.operator.new.self c.takes-negated.new.self = record { took = c.takes-negated.ensures.took; left = c.takes-negated.ensures.left; other = c.takes-negated.ensures.other } in
    let n = none-next scope types a rest c.operator.new.self c.takes-negated.new.self c.takes-negated.result flat ends (same ∙ is) (λ said left e. c.in_default.ensures.1 said left (sym same ∙ e)) not c.in_default-free_word.ensures.1 (λ left (t, e). c.in_default-free_word-2.ensures.1 left (t, c.in_default-free_word.ensures.0 ∙ e)) in
    no-typed scope types a s rest c.operator.new.self c.in-Typed.field-0 c.in-Typed.field-1 c.in-Typed.field-2 flat side (sym c.in-Typed.is ∙ read) (same ∙ is) (λ said left e. c.in_default.ensures.1 said left (sym same ∙ e)) n.lists
