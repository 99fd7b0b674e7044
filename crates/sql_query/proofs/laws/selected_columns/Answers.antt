use Rattle.std.proofs.Common.{get_or, subst}
use Rattle.sql_query.specs.WellBound.{IsColumnOf}
use Rattle.sql_query.proofs.laws.selected_columns.Goals as goal

pub returns : goal.returns
returns g c q h k d lt =
    let m = h.select k d lt in
    subst (IsColumnOf c q.range) m.2 (h.used m.0 (get_or q.select k d) m.1)
