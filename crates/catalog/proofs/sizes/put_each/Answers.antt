use Rattle.std.proofs.Common.{[], ◌≡◌, ◌++◌, ◌∷◌, ◌∙◌, Some, ap, arith, drop, List, length, length-append, set, sym}
use Rattle.catalog.specs.declared.statistics.ColumnStats.{ColumnStats}
use Rattle.catalog.proofs.AnalysedLemmas.{put-more}
use Rattle.catalog.proofs.sizes.put_each.Goals as goal

pub columns-preserved-in-Some : goal.columns-preserved-in-Some
columns-preserved-in-Some c =
    let left = c.pop.new.self.items in
    let one : List ColumnStats = c.in-Some.column ∷ [] in
    let items : c.columns.left.items ≡ left ++ one = c.in-Some.ensures.items in
    let count = ap length items in
    let long = length-append left one in
    let place : c.len-place.result ≡ length left = omega (arith, c.len-place.ensures, c.pop.new.self.ok) in
    let more = put-more left c.args.columns.items c.columns.stats.items c.in-Some.column (length c.columns.left.items) (sym items ∙ c.columns.invariant.left) (omega (arith, count, long)) c.columns.invariant.long c.columns.invariant.put in
    record { left = more.0; long = ap (λ k. length (set c.columns.stats.items k (Some c.in-Some.column))) place ∙ more.1; put = ap (λ k. drop (length left) (set c.columns.stats.items k (Some c.in-Some.column))) place ∙ more.2 }

pub columns-preserved : goal.columns-preserved
columns-preserved c =
    let left = c.pop.new.self.items in
    let one : List ColumnStats = c.in-Some.column ∷ [] in
    let items : c.columns.left.items ≡ left ++ one = c.in-Some.ensures.items in
    let count = ap length items in
    let long = length-append left one in
    let place : c.len-place.result ≡ length left = omega (arith, c.len-place.ensures, c.pop.new.self.ok) in
    let more = put-more left c.args.columns.items c.columns.stats.items c.in-Some.column (length c.columns.left.items) (sym items ∙ c.columns.invariant.left) (omega (arith, count, long)) c.columns.invariant.long c.columns.invariant.put in
    record { left = more.0; long = ap (λ k. length (set c.columns.stats.items k (Some c.in-Some.column))) place ∙ more.1; put = ap (λ k. drop (length left) (set c.columns.stats.items k (Some c.in-Some.column))) place ∙ more.2 }
