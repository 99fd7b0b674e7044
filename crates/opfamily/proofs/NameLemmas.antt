-- The class of a name, among the first classes of the table and those behind them.
use Rattle.std.proofs.Common.{◌≡◌, ℕ, Bool, true, false, cond, List, [], ◌∷◌, ◌++◌, Option, None, Some}
use Rattle.std.specs.Prelude.{bytes_eq, find, option_map}
use Rattle.pg_value.specs.declared.value.SqlType.{SqlType}
use Rattle.opfamily.specs.declared.classes.OpClass.{OpClass}
use Rattle.opfamily.specs.Table.{ClassRow}
use Rattle.opfamily.specs.Answers.{class_of_name, type_scale}
use Rattle.opfamily.specs.work.Answers.{class_among, further_classes, plain_classes}

module _ (name : List ℕ) where
  -- the class found where a first one has the name or not
  abbrev by_test : Bool → ClassRow → List ClassRow → Option OpClass
  by_test b x listed = option_map (λ (c : ClassRow). c.class) (cond b (Some x) (find (λ (c : ClassRow). bytes_eq c.name name) listed))

  among-first : (xs ys : List ClassRow) (c : OpClass) → Some c ≡ class_among name xs → Some c ≡ class_among name (xs ++ ys)
  among-first [] ys c is = cc (is)
  among-first (x ∷ xs) ys c is = by (bytes_eq x.name name) is (λ k. among-first xs ys c k)
    where
      by : (b : Bool) → Some c ≡ by_test b x xs → (Some c ≡ class_among name xs → Some c ≡ class_among name (xs ++ ys)) → Some c ≡ by_test b x (xs ++ ys)
      by true h rest = h
      by false h rest = rest h

  among-further : (xs ys : List ClassRow) (r : Option OpClass) → None ≡ class_among name xs → r ≡ class_among name ys → r ≡ class_among name (xs ++ ys)
  among-further [] ys r none is = is
  among-further (x ∷ xs) ys r none is = by (bytes_eq x.name name) none (λ k. among-further xs ys r k is)
    where
      by : (b : Bool) → None ≡ by_test b x xs → (None ≡ class_among name xs → r ≡ class_among name (xs ++ ys)) → r ≡ by_test b x (xs ++ ys)
      by true h rest = cc (h)
      by false h rest = rest h

  pub named-plain : (t : SqlType) (c : OpClass) → Some c ≡ class_among name plain_classes → Some c ≡ class_of_name name t
  named-plain t = among-first plain_classes (further_classes (type_scale t))

  pub named-further : (t : SqlType) (r : Option OpClass) → None ≡ class_among name plain_classes → r ≡ class_among name (further_classes (type_scale t)) → r ≡ class_of_name name t
  named-further t = among-further plain_classes (further_classes (type_scale t))
