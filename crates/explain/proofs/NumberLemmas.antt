-- The texts of costs.
use Rattle.std.proofs.Common.{◌≡◌, ℕ, List, ◌++◌, codes, sym, ap, subst, append_assoc}
use Rattle.std.specs.Prelude.{Option, Some}
use Rattle.std.specs.Fmt.{decimal}
use Rattle.sql_query.specs.declared.window.Window.{Window}
use Rattle.cost_rules.specs.declared.pair.Pair.{Pair}
use Rattle.explain.specs.Texts.{numbers_text}

-- the two costs of a node, one after the other
pub both-costs : (window : Option Window) (w : Window) (pair : Pair) (rows : ℕ) → window ≡ Some w →
    codes "  (cost=" ++ (decimal pair.startup ++ (codes ".." ++ (decimal pair.total ++ (codes " rows=" ++ (decimal rows ++ codes ")\n"))))) ≡ numbers_text window pair rows
both-costs window w pair rows is =
    let rest = codes " rows=" ++ (decimal rows ++ codes ")\n") in
    let P : Option Window → Type 0 = λ o. codes "  (cost=" ++ (decimal pair.startup ++ (codes ".." ++ (decimal pair.total ++ rest))) ≡ numbers_text o pair rows in
    subst P (sym is) (ap (λ (l : List ℕ). codes "  (cost=" ++ l) (sym (append_assoc (decimal pair.startup) (codes ".." ++ decimal pair.total) rest)))
