-- Lists of parts bound from the left, as every statement binds them.
pub use Rattle.expr_reader.specs.Lists.{further_parts, before_all, bound_each}
