use Rattle.std.proofs.Common.{◌≡◌, ◌≤◌, Ok, length, sym, ap, arith}
use Rattle.std.proofs.lemmas.List.{drop_all}
use Rattle.pg_base.specs.declared.limits.TheConstants.{MOST_COLUMNS}
use Rattle.index_reader.specs.Meaning.{limited_names}
use Rattle.index_reader.proofs.limits.check_columns.Goals as goal

-- with no name too many nothing is left behind the limit
pub returns : goal.returns
returns c =
    let few = c.if-names-gt-MOST_COLUMNS.false in
    ap (λ l. limited_names l (Ok tt)) (sym (drop_all MOST_COLUMNS c.args.names.now (omega (arith, few))))
