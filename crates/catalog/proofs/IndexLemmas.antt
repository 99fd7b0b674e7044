-- The columns of an index, and the form of a hash index.
use Rattle.std.proofs.Common.{◌≡◌, ◌<◌, ◌≤◌, ◌+◌, ◌∷◌, [], ◌∙◌, ℕ, List, length, take, get_or, Contains, sym, ap, subst, arith}
use Rattle.std.specs.List.{list_all}
use Rattle.std.proofs.lemmas.List.{get_or_default, length-append, length-map, take_all}
use Rattle.std.proofs.Math.Bool.{and-true}
use Rattle.pg_base.specs.declared.numbers.ColNo.{ColNo}
use Rattle.opfamily.specs.declared.classes.IndexKey.{IndexKey}
use Rattle.opfamily.specs.declared.classes.Method.TheVariants.{Hash}
use Rattle.catalog.specs.Indexes.{Index, AreDifferentColumns, columns_of, has_form, is_plain}
use Rattle.catalog.proofs.NameLaws.{distinct-more}

-- how many columns an index has
pub length-columns : (x : Index) → length (columns_of x) ≡ length x.keys + length x.include
length-columns x = let len = length-map x.keys (λ (k : IndexKey). k.col) in length-append _ x.include ∙ ap (λ n. n + length x.include) len

-- one more column that does not stand before
pub different-more : (cs : List ColNo) (n : ℕ) (d : ColNo) → n < length cs → AreDifferentColumns (take n cs) → (Contains (take n cs) (get_or cs n d) → ⊥) → AreDifferentColumns (take (n + 1) cs)
different-more cs n d lt h new = distinct-more cs n (get_or cs n d) lt (get_or_default cs n _ d lt) h new

-- all of them
pub different-all : (cs : List ColNo) (n : ℕ) → length cs ≤ n → AreDifferentColumns (take n cs) → AreDifferentColumns cs
different-all cs n le h = subst AreDifferentColumns (take_all n cs le) h

plain-one : (ks : List IndexKey) (k : IndexKey) → length ks ≡ 1 → k ≡ get_or ks 0 k → list_all is_plain ks ≡ is_plain k
plain-one [] k len at = absurd (omega (arith, len))
plain-one (a ∷ []) k len at = and-true (is_plain a) ∙ ap is_plain (sym at)
plain-one (a ∷ b ∷ ks) k len at = absurd (omega (arith, len))

-- a hash index of one key alone has its form where the key is plain
pub hash-form : (x : Index) (k : IndexKey) → x.method ≡ Hash → length x.keys ≡ 1 → length x.include ≡ 0 → k ≡ get_or x.keys 0 k → is_plain k ≡ has_form x
hash-form x k hash one none at = rw (hash, one, none) (sym (plain-one x.keys k one at))
