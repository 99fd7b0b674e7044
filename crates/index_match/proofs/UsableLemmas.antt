-- Usable indexes, and the columns that an index holds.
use Rattle.std.proofs.Common.{◌≡◌, ◌↔◌, ℕ, Bool, true, false, ◌||◌, nat_eq, IsTrue, List, [], ◌∷◌, ◌++◌, map, Option, Some, refl, sym, ap, ◌∙◌, subst}
use Rattle.std.proofs.Math.Bool.{or_assoc}
use Rattle.std.specs.List.{list_any}
use Rattle.pg_base.specs.declared.numbers.ColNo.{ColNo}
use Rattle.pg_base.specs.declared.numbers.IndexNo.{IndexNo}
use Rattle.catalog.specs.pg_value_columns_Column.{Column}
use Rattle.catalog.specs.opfamily_classes_IndexKey.{IndexKey}
use Rattle.pg_expr.specs.Cond.{Cond}
use Rattle.predicate_proof.specs.Derivation.{IsImplied}
use Rattle.catalog.specs.Contents.{Contents, index_at, table_at}
use Rattle.catalog.specs.Indexes.{Index}
use Rattle.eq_classes.specs.Clauses.{ClassTable}
use Rattle.index_match.specs.Numbered.{base, conditions_of}
use Rattle.index_match.specs.Usable.{IsUsable, IsUsableBy}

pub held_columns : (c : ℕ) (ks : List IndexKey) (ns : List ColNo) →
    list_any (λ (n : ColNo). nat_eq c n.0) (map (λ (k : IndexKey). k.col) ks ++ ns) ≡ list_any (λ (k : IndexKey). nat_eq c k.col.0) ks || list_any (λ (n : ColNo). nat_eq c n.0) ns
held_columns c [] ns = refl
held_columns c (k ∷ ks) ns =
    ap (λ (b : Bool). nat_eq c k.col.0 || b) (held_columns c ks ns)
    ∙ sym (or_assoc (nat_eq c k.col.0) (list_any (λ (j : IndexKey). nat_eq c j.col.0) ks) (list_any (λ (n : ColNo). nat_eq c n.0) ns))

module _ (c : ℕ) (ks : List IndexKey) (ns : List ColNo) where
  abbrev in_key : Bool
  in_key = list_any (λ (k : IndexKey). nat_eq c k.col.0) ks

  pub held_by_key : (b : Bool) → b ≡ true → b ≡ in_key → b ≡ list_any (λ (n : ColNo). nat_eq c n.0) (map (λ (k : IndexKey). k.col) ks ++ ns)
  held_by_key b h is = h ∙ sym (held_columns c ks ns ∙ ap (λ (a : Bool). a || list_any (λ (n : ColNo). nat_eq c n.0) ns) (sym is ∙ h))

  pub held_beside : (b found : Bool) → b ≡ false → b ≡ in_key → found ≡ list_any (λ (n : ColNo). nat_eq c n.0) ns → found ≡ list_any (λ (n : ColNo). nat_eq c n.0) (map (λ (k : IndexKey). k.col) ks ++ ns)
  held_beside b found h is beside = beside ∙ sym (held_columns c ks ns ∙ ap (λ (a : Bool). a || list_any (λ (n : ColNo). nat_eq c n.0) ns) (sym is ∙ h))

module _ (c : Contents) (t : ClassTable) (i : IndexNo) (r : ℕ) where
  of_predicate : (x : Index) (o : Option Cond) (e : Cond) (b : Bool) → o ≡ Some e → (IsTrue b ↔ IsImplied (table_at c x.table).columns (conditions_of (base t r)) e) → IsTrue b ↔ IsUsableBy c t r x o
  of_predicate x o e b is h = subst (λ (p : Option Cond). IsTrue b ↔ IsUsableBy c t r x p) (sym is) h

  pub usable_by : (x : Index) (e : Cond) (es : List Cond) (columns : List Column) (b : Bool) → x ≡ index_at c i → x.predicate ≡ Some e → es ≡ conditions_of (base t r) →
      columns ≡ (table_at c x.table).columns → (IsTrue b ↔ IsImplied columns es e) → IsTrue b ↔ IsUsable c t i r
  usable_by x e es columns b at predicate clauses table h =
      subst (λ (y : Index). IsTrue b ↔ IsUsableBy c t r y y.predicate) at
      (of_predicate x x.predicate e b predicate
      (subst (λ (cs : List Column). IsTrue b ↔ IsImplied cs (conditions_of (base t r)) e) table (subst (λ (fs : List Cond). IsTrue b ↔ IsImplied columns fs e) clauses h)))
