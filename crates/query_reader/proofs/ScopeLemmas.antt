-- The columns of a relation: found by name, and under its alias alone.
use Rattle.std.proofs.Common.{◌≡◌, ◌≢◌, ℕ, ◌+◌, Bool, true, false, List, [], ◌∷◌, Option, Some, None, All, cond, refl, sym, ◌∙◌, suc, arith}
use Rattle.std.specs.List.{position_from}
use Rattle.std.specs.Str.{bytes_eq}
use Rattle.std.proofs.lemmas.Slice.Eq.{bytes_eq-Decides}
use Rattle.std.proofs.lemmas.List.Elements.{All-tail}
use Rattle.pg_base.specs.declared.numbers.RelNo.{RelNo}
use Rattle.pg_base.specs.Names.{AreDistinct}
use Rattle.expr_reader.specs.Scope.{under, of_name, the_one}
use Rattle.expr_reader.specs.declared.found.Found.{Found}
use Rattle.expr_reader.specs.declared.found.Found.TheVariants.{One, NoColumn}
use Rattle.query_reader.specs.Scope.{columns_from}

differs-by : (b : Bool) (x y : List ℕ) → (b ≡ true → x ≡ y) → x ≢ y → b ≡ false
differs-by true x y told apart = absurd (apart (told refl))
differs-by false x y told apart = refl

pub differs : (x y : List ℕ) → x ≢ y → bytes_eq x y ≡ false
differs x y apart = differs-by (bytes_eq x y) x y (bytes_eq-Decides x y).0 apart

-- the column at a place, where there is one
abbrev pub found_at : RelNo → Option ℕ → Found
found_at rel (Some k) = One (record { rel = rel; col = record { 0 = k } })
found_at rel None = NoColumn

module _ (alias : List ℕ) (rel : RelNo) where
  none-named : (name : List ℕ) (k : ℕ) (names : List (List ℕ)) → All (λ n. name ≢ n) names → of_name name (columns_from alias rel k names) ≡ []
  none-named name k [] apart = refl
  none-named name k (n ∷ ns) apart = rw (differs name n (apart 0 n (omega arith))) (none-named name (k + 1) ns (All-tail (λ n. name ≢ n) n ns apart))

  found-by : (b : Bool) (name n : List ℕ) (k : ℕ) (ns : List (List ℕ)) → bytes_eq name n ≡ b → AreDistinct (n ∷ ns) →
      the_one (of_name name (columns_from alias rel (k + 1) ns)) ≡ found_at rel (position_from (bytes_eq name) (k + 1) ns) →
      the_one (cond b (record { alias = alias; name = n; column = record { rel = rel; col = record { 0 = k } } } ∷ of_name name (columns_from alias rel (k + 1) ns)) (of_name name (columns_from alias rel (k + 1) ns)))
      ≡ found_at rel (cond b (Some k) (position_from (bytes_eq name) (k + 1) ns))
  found-by true name n k ns is apart later =
      let same : name ≡ n = (bytes_eq-Decides name n).0 is in
      let rest = none-named name (k + 1) ns (λ j d lt e. apart 0 (suc j) d (omega arith) (omega arith) (sym same ∙ e)) in
      rw rest refl
  found-by false name n k ns is apart later = later

  pub found-from : (name : List ℕ) (k : ℕ) (names : List (List ℕ)) → AreDistinct names → the_one (of_name name (columns_from alias rel k names)) ≡ found_at rel (position_from (bytes_eq name) k names)
  found-from name k [] apart = refl
  found-from name k (n ∷ ns) apart = found-by (bytes_eq name n) name n k ns refl apart (found-from name (k + 1) ns (λ i j d below lt. apart (suc i) (suc j) d (omega arith) (omega arith)))

  pub under-same : (q : List ℕ) (k : ℕ) (names : List (List ℕ)) → bytes_eq q alias ≡ true → under q (columns_from alias rel k names) ≡ columns_from alias rel k names
  under-same q k [] is = refl
  under-same q k (n ∷ ns) is = rw (is, under-same q (k + 1) ns is) refl

  pub under-other : (q : List ℕ) (k : ℕ) (names : List (List ℕ)) → bytes_eq q alias ≡ false → under q (columns_from alias rel k names) ≡ []
  under-other q k [] is = refl
  under-other q k (n ∷ ns) is = rw (is, under-other q (k + 1) ns is) refl
