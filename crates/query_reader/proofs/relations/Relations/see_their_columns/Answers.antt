use Rattle.std.proofs.Common.{◌≡◌, true, All, subst}
use Rattle.path_cost.specs.work.Columns.{is_column_in}
use Rattle.expr_reader.specs.Scope.{Visible}
use Rattle.query_reader.specs.work.Scope.{Sight, visible_in}
use Rattle.query_reader.proofs.BoundLemmas.{all-seen}
use Rattle.query_reader.proofs.relations.Relations.see_their_columns.Goals as goal

pub returns : goal.returns
returns c =
    subst (λ (s : Sight). All (λ (v : Visible). is_column_in s.contents s.range v.column ≡ true) (visible_in s)) c.self.view_is
    (all-seen c.self.inside.cat.now c.self.inside.range.now c.self.inside.first c.self.invariant.0.lawful)
