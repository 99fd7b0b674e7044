-- Working words beside those of `Keys`.
use Rattle.std.specs.Prelude.{◌≡◌, ◌<◌, false, length, All}
use Rattle.eq_classes.specs.Clauses.{ClassTable}
use Rattle.pathkeys.specs.Keys.{Keys, AreDifferent, is_constant}

-- a key list of a table: different classes of it, none with a constant
pub record IsKeyList (t : ClassTable) (keys : Keys) : Type 0 where
  pub different : AreDifferent keys
  pub classes : All (λ n. n < length t.classes) keys
  pub free : All (λ n. is_constant t n ≡ false) keys
