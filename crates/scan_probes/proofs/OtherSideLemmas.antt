-- The side of a comparison that is not the key's column has a value in the rows given.
use Rattle.std.proofs.Common.{◌≡◌, ℕ, Bool, true, false, not, cond, ◌&&◌, ◌||◌, nat_eq, ◌⊎◌, inl, inr, refl, sym}
use Rattle.std.specs.Prelude.{IsTrue, None}
use Rattle.std.specs.List.{slice_index_or}
use Rattle.std.proofs.lemmas.Bool.{and_parts, true≢false}
use Rattle.pg_value.specs.declared.operators.Op.{Op}
use Rattle.opfamily.specs.declared.classes.IndexKey.{IndexKey}
use Rattle.opfamily.specs.declared.classes.Method.TheVariants.{Btree}
use Rattle.pg_expr.specs.declared.operand.Operand.{Operand}
use Rattle.pg_expr.specs.declared.operand.Operand.TheVariants.{Col, Lit}
use Rattle.pg_expr.specs.Columns.{passes_column}
use Rattle.pg_expr.specs.Cond.{compare}
use Rattle.index_match.specs.Conditions.{has_key_form, is_across, is_family_operator, is_key_side, is_outside}
use Rattle.scan_probes.specs.work.Values.{Given, has_value, is_beside}
use Rattle.scan_probes.specs.work.Probes.{is_given, is_known}

second : (x y : Bool) → x || y ≡ true → x ≡ false → y ≡ true
second true y h e = absurd (true≢false e)
second false y h e = h

beside : (same given : Bool) → not same ≡ true → cond same true given ≡ true → given ≡ true
beside true given h e = absurd (true≢false (sym h))
beside false given h e = e

outside_given : (r : ℕ) (given : Given) (o : Operand) → is_outside r o ≡ true → passes_column (is_beside r (λ c. true) given) o ≡ true → IsTrue (is_given given o)
outside_given r given (Lit v) out known = refl
outside_given r given (Col x) out known = beside (nat_eq x.rel.0 r) (has_value (slice_index_or given x.rel.0 None) x.col) out known

pub other_given : (r : ℕ) (given : Given) (k : IndexKey) (op : Op) (a b : Operand) → has_key_form Btree r k (compare op a b) ≡ true → is_known r given (compare op a b) ≡ true
    → is_key_side r k a && is_outside r b ≡ false → IsTrue (is_given given a)
other_given r given k op a b form known other =
    let across = (and_parts (is_family_operator Btree k op) (is_across r k a b) form).1 in
    let turned = second (is_key_side r k a && is_outside r b) (is_outside r a && is_key_side r k b) across other in
    outside_given r given a (and_parts (is_outside r a) (is_key_side r k b) turned).0 (and_parts (passes_column (is_beside r (λ c. true) given) a) (passes_column (is_beside r (λ c. true) given) b) known).0

-- one of two tests fails, so not both hold
pub neither : (x y : Bool) → (x ≡ false) ⊎ (y ≡ false) → x && y ≡ false
neither false y h = refl
neither true false h = refl
neither true true (inl e) = absurd (true≢false e)
neither true true (inr e) = absurd (true≢false e)
