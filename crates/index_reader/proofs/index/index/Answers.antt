use Rattle.std.proofs.Common.{◌≡◌, List, [], ◌∷◌, ◌++◌, Vec, Option, drop, Result, Ok, Err, refl, sym, ap, ◌∙◌, subst}
use Rattle.std.specs.declared.alloc.Global.{Global}
use Rattle.std.specs.Option.{option_map}
use Rattle.pg_base.specs.declared.limits.TheConstants.{MOST_COLUMNS}
use Rattle.pg_expr.specs.declared.expr.Expr.{Expr}
use Rattle.pg_expr.specs.Cond.{Cond}
use Rattle.pg_expr.specs.work.View.{cond}
use Rattle.sql_grammar.specs.declared.class.Symbol.TheVariants.{Open}
use Rattle.sql_grammar.specs.Terminals.{t_mark}
use Rattle.sql_grammar.specs.Words.{words_of_where}
use Rattle.expr_reader.specs.declared.cursor.Spelled.{Spelled}
use Rattle.catalog.specs.Contents.{no_table}
use Rattle.expr_reader.proofs.ReadsLemmas.{read-ok, read-fault, read-refused, was-read}
use Rattle.index_reader.specs.declared.index.ReadIndex.{ReadIndex}
use Rattle.index_reader.specs.declared.keys.KeyRead.{KeyRead}
use Rattle.index_reader.specs.declared.names.NamedColumn.{NamedColumn}
use Rattle.index_reader.specs.declared.methods.MethodRead.{MethodRead}
use Rattle.index_reader.specs.Meaning.{IndexMeant, condition_bound, limited_names, name_tokens}
use Rattle.index_reader.specs.work.Reads.{index_meant}
use Rattle.index_reader.proofs.KeyLemmas.{reads-memory}
use Rattle.index_reader.proofs.VisibleLemmas.{sight}
use Rattle.index_reader.proofs.IndexLemmas.{behind, body, include-end, opened, table-told, columns-wrong, atoms-wrong, all-within, method-wrong, keys-wrong, names-wrong, condition-wrong, all-bound}
use Rattle.index_reader.proofs.index.index.Goals as goal

pub returns-in_err-method : goal.returns-in_err-method
returns-in_err-method c = λ n o t u p x xs m tree w is.
    let (one, two, left) = opened n o t u p x xs m tree w c.args.from.now c.expect_name.new.self c.skip.new.self c.expect_name-2.new.self c.in_ok-name.name c.in_ok-of.of is c.in_ok-name.ensures.read c.skip.ensures c.in_ok-of.ensures.read in
    let found = table-told c.args.cat.now t c.in_ok-of.of _ two c.in_ok-table.ensures.told in
    read-refused MethodRead ReadIndex MethodRead IndexMeant (λ q. q) index_meant _ _ _ _ _ _ _ _
    (c.in_err-method.ensures u (t_mark Open p ∷ body x xs m tree w) refl left)
    (method-wrong c.args.cat.now c.args.start n o t u p x xs m tree w c.in_ok-table.table found) c.from_residual-in_err-method.ensures.1

pub returns-in_err-keys : goal.returns-in_err-keys
returns-in_err-keys c = λ n o t u p x xs m tree w is.
    let (one, two, left) = opened n o t u p x xs m tree w c.args.from.now c.expect_name.new.self c.skip.new.self c.expect_name-2.new.self c.in_ok-name.name c.in_ok-of.of is c.in_ok-name.ensures.read c.skip.ensures c.in_ok-of.ensures.read in
    let found = table-told c.args.cat.now t c.in_ok-of.of _ two c.in_ok-table.ensures.told in
    let method = was-read MethodRead MethodRead (λ q. q) _ c.in_ok-method.method _ _ (c.in_ok-method.ensures u (t_mark Open p ∷ body x xs m tree w) refl left) in
    let inner = c.skip-2.ensures ∙ ap (drop 1) method.words in
    read-refused (Vec KeyRead Global) ReadIndex (List KeyRead) IndexMeant (λ v. v.items) index_meant _ _ _ _ _ _ _ _
    (c.in_err-keys.ensures x xs m (behind tree w) inner)
    (keys-wrong c.args.cat.now c.args.start n o t u p x xs m tree w c.in_ok-table.table found c.in_ok-method.method method.meant) c.from_residual-in_err-keys.ensures.1

pub include-requires-clause-words : goal.include-requires-clause-words
include-requires-clause-words c =
    let (n, o, t, u, p, x, xs, m, tree, w, is) = c.requires in
    let (one, two, left) = opened n o t u p x xs m tree w c.args.from.now c.expect_name.new.self c.skip.new.self c.expect_name-2.new.self c.in_ok-name.name c.in_ok-of.of is c.in_ok-name.ensures.read c.skip.ensures c.in_ok-of.ensures.read in
    let found = table-told c.args.cat.now t c.in_ok-of.of _ two c.in_ok-table.ensures.told in
    let method = was-read MethodRead MethodRead (λ q. q) _ c.in_ok-method.method _ _ (c.in_ok-method.ensures u (t_mark Open p ∷ body x xs m tree w) refl left) in
    let inner = c.skip-2.ensures ∙ ap (drop 1) method.words in
    let keys = was-read (Vec KeyRead Global) (List KeyRead) (λ v. v.items) _ c.in_ok-keys.keys _ _ (c.in_ok-keys.ensures x xs m (behind tree w) inner) in
    (tree, words_of_where w ++ [], include-end w, keys.words)

pub returns-in_err-names : goal.returns-in_err-names
returns-in_err-names c = λ n o t u p x xs m tree w is.
    let (one, two, left) = opened n o t u p x xs m tree w c.args.from.now c.expect_name.new.self c.skip.new.self c.expect_name-2.new.self c.in_ok-name.name c.in_ok-of.of is c.in_ok-name.ensures.read c.skip.ensures c.in_ok-of.ensures.read in
    let found = table-told c.args.cat.now t c.in_ok-of.of _ two c.in_ok-table.ensures.told in
    let method = was-read MethodRead MethodRead (λ q. q) _ c.in_ok-method.method _ _ (c.in_ok-method.ensures u (t_mark Open p ∷ body x xs m tree w) refl left) in
    let inner = c.skip-2.ensures ∙ ap (drop 1) method.words in
    let keys = was-read (Vec KeyRead Global) (List KeyRead) (λ v. v.items) _ c.in_ok-keys.keys _ _ (c.in_ok-keys.ensures x xs m (behind tree w) inner) in
    read-refused (Vec NamedColumn Global) ReadIndex (List NamedColumn) IndexMeant (λ v. v.items) index_meant _ _ _ _ _ _ _ _
    (c.in_err-names.ensures tree (words_of_where w ++ []) (include-end w) keys.words)
    (names-wrong c.args.cat.now c.args.start n o t u p x xs m tree w c.in_ok-table.table found c.in_ok-method.method method.meant c.in_ok-keys.keys.items keys.meant) c.from_residual-in_err-names.ensures.1

pub new-scope-requires-clause-lawful : goal.new-scope-requires-clause-lawful
new-scope-requires-clause-lawful c = c.in_ok-table.ensures.lawful.tables c.in_ok-table.table.0 no_table c.in_ok-table.ensures.there

pub predicate-requires : goal.predicate-requires
predicate-requires c =
    let (n, o, t, u, p, x, xs, m, tree, w, is) = c.requires in
    let (one, two, left) = opened n o t u p x xs m tree w c.args.from.now c.expect_name.new.self c.skip.new.self c.expect_name-2.new.self c.in_ok-name.name c.in_ok-of.of is c.in_ok-name.ensures.read c.skip.ensures c.in_ok-of.ensures.read in
    let found = table-told c.args.cat.now t c.in_ok-of.of _ two c.in_ok-table.ensures.told in
    let method = was-read MethodRead MethodRead (λ q. q) _ c.in_ok-method.method _ _ (c.in_ok-method.ensures u (t_mark Open p ∷ body x xs m tree w) refl left) in
    let inner = c.skip-2.ensures ∙ ap (drop 1) method.words in
    let keys = was-read (Vec KeyRead Global) (List KeyRead) (λ v. v.items) _ c.in_ok-keys.keys _ _ (c.in_ok-keys.ensures x xs m (behind tree w) inner) in
    let names = was-read (Vec NamedColumn Global) (List NamedColumn) (λ v. v.items) _ c.in_ok-names.names _ _ (c.in_ok-names.ensures tree (words_of_where w ++ []) (include-end w) keys.words) in
    (w, [], refl, names.words)

pub returns-in_err-predicate : goal.returns-in_err-predicate
returns-in_err-predicate c = λ n o t u p x xs m tree w is.
    let (one, two, left) = opened n o t u p x xs m tree w c.args.from.now c.expect_name.new.self c.skip.new.self c.expect_name-2.new.self c.in_ok-name.name c.in_ok-of.of is c.in_ok-name.ensures.read c.skip.ensures c.in_ok-of.ensures.read in
    let found = table-told c.args.cat.now t c.in_ok-of.of _ two c.in_ok-table.ensures.told in
    let method = was-read MethodRead MethodRead (λ q. q) _ c.in_ok-method.method _ _ (c.in_ok-method.ensures u (t_mark Open p ∷ body x xs m tree w) refl left) in
    let inner = c.skip-2.ensures ∙ ap (drop 1) method.words in
    let keys = was-read (Vec KeyRead Global) (List KeyRead) (λ v. v.items) _ c.in_ok-keys.keys _ _ (c.in_ok-keys.ensures x xs m (behind tree w) inner) in
    let names = was-read (Vec NamedColumn Global) (List NamedColumn) (λ v. v.items) _ c.in_ok-names.names _ _ (c.in_ok-names.ensures tree (words_of_where w ++ []) (include-end w) keys.words) in
    let scope = c.new-scope.ensures ∙ ap (sight c.args.cat.now c.in_ok-table.table) (c.items.ensures ∙ ap (λ (s : Spelled). s.bytes) two) in
    read-refused (Option Expr) ReadIndex (Option Cond) IndexMeant (option_map cond) index_meant _ _ _ _ _ _ _ _
    (c.in_err-predicate.ensures w [] refl names.words)
    (λ f wrong. condition-wrong c.args.cat.now c.args.start n o t u p x xs m tree w c.in_ok-table.table found c.in_ok-method.method method.meant c.in_ok-keys.keys.items keys.meant c.in_ok-names.names.items names.meant f
    (subst (λ s. condition_bound s w ≡ Err f) scope wrong)) c.from_residual-in_err-predicate.ensures.1

pub returns-in_err-tokens : goal.returns-in_err-tokens
returns-in_err-tokens c = λ n o t u p x xs m tree w is.
    reads-memory ReadIndex IndexMeant index_meant _ c.from_residual-in_err-tokens.result [] [] c.from_residual-in_err-tokens.ensures.1

pub returns-in_err-check_columns : goal.returns-in_err-check_columns
returns-in_err-check_columns c = λ n o t u p x xs m tree w is.
    let (one, two, left) = opened n o t u p x xs m tree w c.args.from.now c.expect_name.new.self c.skip.new.self c.expect_name-2.new.self c.in_ok-name.name c.in_ok-of.of is c.in_ok-name.ensures.read c.skip.ensures c.in_ok-of.ensures.read in
    let found = table-told c.args.cat.now t c.in_ok-of.of _ two c.in_ok-table.ensures.told in
    let method = was-read MethodRead MethodRead (λ q. q) _ c.in_ok-method.method _ _ (c.in_ok-method.ensures u (t_mark Open p ∷ body x xs m tree w) refl left) in
    let inner = c.skip-2.ensures ∙ ap (drop 1) method.words in
    let keys = was-read (Vec KeyRead Global) (List KeyRead) (λ v. v.items) _ c.in_ok-keys.keys _ _ (c.in_ok-keys.ensures x xs m (behind tree w) inner) in
    let names = was-read (Vec NamedColumn Global) (List NamedColumn) (λ v. v.items) _ c.in_ok-names.names _ _ (c.in_ok-names.ensures tree (words_of_where w ++ []) (include-end w) keys.words) in
    let scope = c.new-scope.ensures ∙ ap (sight c.args.cat.now c.in_ok-table.table) (c.items.ensures ∙ ap (λ (s : Spelled). s.bytes) two) in
    let condition = was-read (Option Expr) (Option Cond) (option_map cond) _ c.in_ok-predicate.predicate _ _ (c.in_ok-predicate.ensures w [] refl names.words) in
    let bound = subst (λ s. condition_bound s w ≡ Ok (option_map cond c.in_ok-predicate.predicate)) scope condition.meant in
    let whole = all-bound c.args.cat.now c.args.start n o t u p x xs m tree w c.in_ok-table.table found c.in_ok-method.method method.meant c.in_ok-keys.keys.items keys.meant c.in_ok-names.names.items names.meant (option_map cond c.in_ok-predicate.predicate) bound in
    let tokens : c.in_ok-tokens.tokens.items ≡ name_tokens c.in_ok-keys.keys.items c.in_ok-names.names.items = c.in_ok-tokens.ensures ∙ (ap (λ l. name_tokens l c.deref-2.result.now) c.deref.ensures.value ∙ ap (name_tokens c.in_ok-keys.keys.items) c.deref-2.ensures.value) in
    let listed = c.deref-3.ensures.value ∙ tokens in
    let wrong = ap (λ ts. limited_names {A = Unit {0}} (drop MOST_COLUMNS ts) (Ok tt)) (sym listed) ∙ sym c.in_err-check_columns.ensures in
    read-fault ReadIndex IndexMeant index_meant _ _ c.in_err-check_columns.field-0.0 [] []
    (whole ∙ columns-wrong c.args.start n c.in_ok-table.table c.in_ok-method.method c.in_ok-keys.keys.items c.in_ok-names.names.items (option_map cond c.in_ok-predicate.predicate) c.in_err-check_columns.field-0.0 wrong)
    c.from_residual-in_err-check_columns.ensures.1

pub returns-in_err-check_atoms : goal.returns-in_err-check_atoms
returns-in_err-check_atoms c = λ n o t u p x xs m tree w is.
    let (one, two, left) = opened n o t u p x xs m tree w c.args.from.now c.expect_name.new.self c.skip.new.self c.expect_name-2.new.self c.in_ok-name.name c.in_ok-of.of is c.in_ok-name.ensures.read c.skip.ensures c.in_ok-of.ensures.read in
    let found = table-told c.args.cat.now t c.in_ok-of.of _ two c.in_ok-table.ensures.told in
    let method = was-read MethodRead MethodRead (λ q. q) _ c.in_ok-method.method _ _ (c.in_ok-method.ensures u (t_mark Open p ∷ body x xs m tree w) refl left) in
    let inner = c.skip-2.ensures ∙ ap (drop 1) method.words in
    let keys = was-read (Vec KeyRead Global) (List KeyRead) (λ v. v.items) _ c.in_ok-keys.keys _ _ (c.in_ok-keys.ensures x xs m (behind tree w) inner) in
    let names = was-read (Vec NamedColumn Global) (List NamedColumn) (λ v. v.items) _ c.in_ok-names.names _ _ (c.in_ok-names.ensures tree (words_of_where w ++ []) (include-end w) keys.words) in
    let scope = c.new-scope.ensures ∙ ap (sight c.args.cat.now c.in_ok-table.table) (c.items.ensures ∙ ap (λ (s : Spelled). s.bytes) two) in
    let condition = was-read (Option Expr) (Option Cond) (option_map cond) _ c.in_ok-predicate.predicate _ _ (c.in_ok-predicate.ensures w [] refl names.words) in
    let bound = subst (λ s. condition_bound s w ≡ Ok (option_map cond c.in_ok-predicate.predicate)) scope condition.meant in
    let whole = all-bound c.args.cat.now c.args.start n o t u p x xs m tree w c.in_ok-table.table found c.in_ok-method.method method.meant c.in_ok-keys.keys.items keys.meant c.in_ok-names.names.items names.meant (option_map cond c.in_ok-predicate.predicate) bound in
    let tokens : c.in_ok-tokens.tokens.items ≡ name_tokens c.in_ok-keys.keys.items c.in_ok-names.names.items = c.in_ok-tokens.ensures ∙ (ap (λ l. name_tokens l c.deref-2.result.now) c.deref.ensures.value ∙ ap (name_tokens c.in_ok-keys.keys.items) c.deref-2.ensures.value) in
    let listed = c.deref-3.ensures.value ∙ tokens in
    let few = ap (λ ts. limited_names {A = Unit {0}} (drop MOST_COLUMNS ts) (Ok tt)) (sym listed) ∙ sym c.in_ok-check_columns.ensures in
    let wrong = sym c.in_err-check_atoms.ensures in
    read-fault ReadIndex IndexMeant index_meant _ _ c.in_err-check_atoms.field-0.0 [] []
    (whole ∙ atoms-wrong c.args.start n c.in_ok-table.table c.in_ok-method.method c.in_ok-keys.keys.items c.in_ok-names.names.items (option_map cond c.in_ok-predicate.predicate) c.in_err-check_atoms.field-0.0 few wrong)
    c.from_residual-in_err-check_atoms.ensures.1

pub returns : goal.returns
returns c = λ n o t u p x xs m tree w is.
    let (one, two, left) = opened n o t u p x xs m tree w c.args.from.now c.expect_name.new.self c.skip.new.self c.expect_name-2.new.self c.in_ok-name.name c.in_ok-of.of is c.in_ok-name.ensures.read c.skip.ensures c.in_ok-of.ensures.read in
    let found = table-told c.args.cat.now t c.in_ok-of.of _ two c.in_ok-table.ensures.told in
    let method = was-read MethodRead MethodRead (λ q. q) _ c.in_ok-method.method _ _ (c.in_ok-method.ensures u (t_mark Open p ∷ body x xs m tree w) refl left) in
    let inner = c.skip-2.ensures ∙ ap (drop 1) method.words in
    let keys = was-read (Vec KeyRead Global) (List KeyRead) (λ v. v.items) _ c.in_ok-keys.keys _ _ (c.in_ok-keys.ensures x xs m (behind tree w) inner) in
    let names = was-read (Vec NamedColumn Global) (List NamedColumn) (λ v. v.items) _ c.in_ok-names.names _ _ (c.in_ok-names.ensures tree (words_of_where w ++ []) (include-end w) keys.words) in
    let scope = c.new-scope.ensures ∙ ap (sight c.args.cat.now c.in_ok-table.table) (c.items.ensures ∙ ap (λ (s : Spelled). s.bytes) two) in
    let condition = was-read (Option Expr) (Option Cond) (option_map cond) _ c.in_ok-predicate.predicate _ _ (c.in_ok-predicate.ensures w [] refl names.words) in
    let bound = subst (λ s. condition_bound s w ≡ Ok (option_map cond c.in_ok-predicate.predicate)) scope condition.meant in
    let whole = all-bound c.args.cat.now c.args.start n o t u p x xs m tree w c.in_ok-table.table found c.in_ok-method.method method.meant c.in_ok-keys.keys.items keys.meant c.in_ok-names.names.items names.meant (option_map cond c.in_ok-predicate.predicate) bound in
    let tokens : c.in_ok-tokens.tokens.items ≡ name_tokens c.in_ok-keys.keys.items c.in_ok-names.names.items = c.in_ok-tokens.ensures ∙ (ap (λ l. name_tokens l c.deref-2.result.now) c.deref.ensures.value ∙ ap (name_tokens c.in_ok-keys.keys.items) c.deref-2.ensures.value) in
    let listed = c.deref-3.ensures.value ∙ tokens in
    let few = ap (λ ts. limited_names {A = Unit {0}} (drop MOST_COLUMNS ts) (Ok tt)) (sym listed) ∙ sym c.in_ok-check_columns.ensures in
    let passed = sym c.in_ok-check_atoms.ensures in
    read-ok ReadIndex IndexMeant index_meant _ c.in_ok-made.field-0 [] []
    (ap (λ (r : IndexMeant). Ok r) (c.in_ok-made.ensures n one) ∙
    sym (whole ∙ all-within c.args.start n c.in_ok-table.table c.in_ok-method.method c.in_ok-keys.keys.items c.in_ok-names.names.items (option_map cond c.in_ok-predicate.predicate) few passed)) refl
