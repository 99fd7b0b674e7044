-- Directions of an order.
use Rattle.std.proofs.Common.{◌≡◌, Bool, true, false, refl, Ordering, Less, Equal, Greater}
use Rattle.std.specs.Ordering.{is_eq}
use Rattle.pg_value.specs.ColumnOrder.{directed, place_of_null}

-- a direction does not change which values tie
pub equal_directed : (d : Bool) (o : Ordering) → is_eq (directed d o) ≡ is_eq o
equal_directed false o = refl
equal_directed true Less = refl
equal_directed true Equal = refl
equal_directed true Greater = refl

-- what ties in a direction ties
pub undirected_equal : (d : Bool) (k : Ordering) → directed d k ≡ Equal → k ≡ Equal
undirected_equal false k h = h
undirected_equal true Less h = cc
undirected_equal true Equal h = refl
undirected_equal true Greater h = cc

-- the place of NULL is no tie
pub not_in_place : (n : Bool) → is_eq (place_of_null n) ≡ false
not_in_place true = refl
not_in_place false = refl
