-- A new index is refused for one cause.
use Rattle.std.proofs.Common.{◌≡◌, ℕ, ◌<◌, inl, inr, true, false, List, length, take, get_or, Some, sym, ◌∙◌, arith, subst, Contains}
use Rattle.std.proofs.lemmas.Bool.{cases_lt}
use Rattle.std.proofs.lemmas.List.{get_or-take, get_or_default, length-take, take-take}
use Rattle.pg_base.specs.declared.numbers.ColNo.{ColNo}
use Rattle.pg_base.specs.declared.faults.Fault.{Fault}
use Rattle.sql_lex.specs.declared.tokens.Token.{Token}
use Rattle.catalog.specs.Contents.{Contents}
use Rattle.catalog.specs.Indexes.{Index, AreDifferentColumns, IsFirstTwice, columns_of, has_form}
use Rattle.catalog.specs.Tables.{IsAcceptableIndex, IsIndexRefusal}
use Rattle.catalog.specs.declared.fault.CatalogFault.{CatalogFault}
use Rattle.catalog.specs.declared.fault.CatalogFault.TheVariants.{NameTaken, ColumnTwice, TooMany, BadNumber, Memory}
use Rattle.statements.specs.Faults.{index_fault}
use Rattle.statements.proofs.OneEndLemmas.{no-fault, some-one}

abbrev first_column : ColNo
first_column = record { 0 = 0 }

-- a column that stands before its place is none of different ones
other : (cs : List ColNo) (n : ℕ) (x : ColNo) → n < length cs → get_or cs n x ≡ x → AreDifferentColumns cs → Contains (take n cs) x → ⊥
other cs n x lt at h among =
    let len = length-take n cs in
    let before : among.0 < n = omega (arith, len, among.1) in
    h among.0 n x before lt (sym (get_or-take n cs among.0 x before) ∙ among.2 ∙ sym at)

pub twice : (cs : List ColNo) (place : ℕ) → IsFirstTwice cs place → AreDifferentColumns cs → ⊥
twice cs place p different = other cs place (get_or cs place first_column) p.within (get_or_default cs place (get_or cs place first_column) first_column p.within) different p.twice

-- no first one stands before another
later : (cs : List ColNo) (p q : ℕ) → IsFirstTwice cs p → IsFirstTwice cs q → p < q → ⊥
later cs p q h k lt =
    let x = get_or cs p first_column in
    let len = length-take q cs in
    let at : get_or (take q cs) p x ≡ x = get_or-take q cs p x lt ∙ get_or_default cs p x first_column h.within in
    let some : Contains (take p (take q cs)) x = subst (λ l. Contains l x) (sym (take-take p q cs (omega (arith, lt)))) h.twice in
    other (take q cs) p x (omega (arith, len, h.within, k.within, lt)) at k.before some

pub one_twice : (cs : List ColNo) (p q : ℕ) → IsFirstTwice cs p → IsFirstTwice cs q → p ≡ q
one_twice cs p q h k = elim (cases_lt p q) [
  | inl lt ↦ absurd (later cs p q h k lt)
  | inr le ↦ elim (cases_lt q p) [ inl lt ↦ absurd (later cs q p k h lt) | inr ge ↦ omega (arith, le, ge) ]
]

formless : (x : Index) → has_form x ≡ true → has_form x ≡ false → ⊥
formless x good bad = let wrong : true ≡ false = sym good ∙ bad in cc

module _ (c : Contents) (name : List ℕ) (x : Index) (at : List ℕ) (method : ℕ) (tokens : List Token) where
  -- a new index is refused in one way
  pub one_index_refusal : (d e : CatalogFault) (f g : Fault) → IsIndexRefusal c name x d → IsIndexRefusal c name x e → index_fault d at method tokens ≡ Some f → index_fault e at method tokens ≡ Some g → f ≡ g
  one_index_refusal NameTaken NameTaken f g h k i j = some-one f g (sym i ∙ j)
  one_index_refusal NameTaken (ColumnTwice q) f g h k i j = absurd (k.0 h)
  one_index_refusal NameTaken TooMany f g h k i j = absurd (k.0 h)
  one_index_refusal NameTaken (BadNumber q) f g h k i j = absurd (k.0 h)
  one_index_refusal (ColumnTwice p) NameTaken f g h k i j = absurd (h.0 k)
  one_index_refusal (ColumnTwice p) (ColumnTwice q) f g h k i j =
      let place = one_twice (columns_of x) p q h.1 k.1 in
      let same : index_fault (ColumnTwice q) at method tokens ≡ Some f = subst (λ n. index_fault (ColumnTwice n) at method tokens ≡ Some f) place i in
      some-one f g (sym same ∙ j)
  one_index_refusal (ColumnTwice p) TooMany f g h k i j = absurd (twice (columns_of x) p h.1 k.1)
  one_index_refusal (ColumnTwice p) (BadNumber q) f g h k i j = absurd (twice (columns_of x) p h.1 k.1)
  one_index_refusal TooMany NameTaken f g h k i j = absurd (h.0 k)
  one_index_refusal TooMany (ColumnTwice q) f g h k i j = absurd (twice (columns_of x) q k.1 h.1)
  one_index_refusal TooMany TooMany f g h k i j = some-one f g (sym i ∙ j)
  one_index_refusal TooMany (BadNumber q) f g h k i j = absurd (omega (arith, h.2, k.2))
  one_index_refusal (BadNumber p) NameTaken f g h k i j = absurd (h.0 k)
  one_index_refusal (BadNumber p) (ColumnTwice q) f g h k i j = absurd (twice (columns_of x) q k.1 h.1)
  one_index_refusal (BadNumber p) TooMany f g h k i j = absurd (omega (arith, h.2, k.2))
  one_index_refusal (BadNumber p) (BadNumber q) f g h k i j = some-one f g (sym i ∙ j)
  one_index_refusal Memory _ f g h k i j = absurd (no-fault f i)
  one_index_refusal _ Memory f g h k i j = absurd (no-fault g j)

  -- an index that may be made is not refused
  pub no_index_refusal : (e : CatalogFault) (f : Fault) → IsAcceptableIndex c name x → IsIndexRefusal c name x e → index_fault e at method tokens ≡ Some f → ⊥
  no_index_refusal NameTaken f a h i = a.free h
  no_index_refusal (ColumnTwice p) f a h i = twice (columns_of x) p h.1 a.distinct
  no_index_refusal TooMany f a h i = omega (arith, h.2, a.room)
  no_index_refusal (BadNumber p) f a h i = formless x a.form h.3
  no_index_refusal Memory f a h i = no-fault f i
