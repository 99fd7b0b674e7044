use Rattle.std.proofs.Common.{◌≡◌, ◌≤◌, length, ◌∙◌, Some, slice_get, subst, List}
use Rattle.std.proofs.lemmas.Result.{err_from_is_err_and}
use Rattle.pg_base.specs.declared.limits.TheConstants.{MOST_COLUMNS}
use Rattle.ddl_reader.specs.declared.columns.ColumnDef.{ColumnDef}
use Rattle.ddl_reader.specs.work.AsMeant.{words_of_body}
use Rattle.ddl_reader.proofs.Opened.{opened, past, within, made-reads, fault-reads}
use Rattle.ddl_reader.proofs.table.table.Goals as goal

pub returns-in_err-limit : goal.returns-in_err-limit
returns-in_err-limit c = λ n o x xs m rest is.
    let p = err_from_is_err_and c.from_residual-in_err-limit.result c.from_residual-in_err-limit.ensures.1 in
    let (d, at, told) = c.in_err-limit.ensures in
    let (name, body) = opened n o (words_of_body x xs m rest) c.args.from.now c.name.new.from c.skip.new.self c.in_ok-title.title is c.in_ok-title.ensures c.skip.ensures in
    fault-reads c.from_residual-in_err-limit.result p.0 _ _ p.1 (p.2 ∙ told)
    (past n c.in_ok-defs.defs.items _ (c.in_ok-defs.ensures.read x xs m rest body) d (subst (λ (l : List ColumnDef). slice_get l MOST_COLUMNS ≡ Some d) c.deref.ensures.value at))

pub returns : goal.returns
returns c = λ n o x xs m rest is.
    let (name, body) = opened n o (words_of_body x xs m rest) c.args.from.now c.name.new.from c.skip.new.self c.in_ok-title.title is c.in_ok-title.ensures c.skip.ensures in
    made-reads c.made.result _ _ c.made.ensures
    (within n c.in_ok-defs.defs.items _ (c.in_ok-defs.ensures.read x xs m rest body) c.in_ok-title.title name (subst (λ (l : List ColumnDef). length l ≤ MOST_COLUMNS) c.deref.ensures.value c.in_ok-limit.ensures))
