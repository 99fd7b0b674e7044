-- A scan is told by its text.
use Rattle.std.proofs.Common.{◌≡◌, ◌<◌, ℕ, ◌+◌, Bool, true, false, List, [], ◌∷◌, ◌++◌, codes, refl, sym, ◌∙◌, ap, arith}
use Rattle.std.specs.Prelude.{Option, Some, None, option_map}
use Rattle.std.proofs.lemmas.Bool.{true≢false}
use Rattle.std.proofs.lemmas.List.{append_assoc, append-nil}
use Rattle.pg_base.specs.Sets.{has}
use Rattle.pg_base.proofs.SetLaws.{has-zero}
use Rattle.pg_base.specs.declared.numbers.RelNo.{RelNo}
use Rattle.pg_base.specs.declared.rel_set.RelSet.{RelSet}
use Rattle.catalog.specs.Contents.{Contents, IsLawful, table_at}
use Rattle.catalog.specs.Range.{Range, relation_at}
use Rattle.eq_classes.specs.Clauses.{Set}
use Rattle.sql_query.specs.Queries.{Query, width}
use Rattle.sql_query.specs.WellBound.{IsWellBound}
use Rattle.certificate_entries.specs.explain_Texts.{aliases_in, given_text, rel_text, scanned_text, with_alias, with_commas}
use Rattle.explain_laws.proofs.NameLemmas.{alias-name, alias-same, aliases-names, relation-table, table-name}
use Rattle.explain_laws.proofs.ParamLemmas.{IsOfQuery, params-same}
use Rattle.explain_laws.proofs.SplitLemmas.{relation-split}
use Rattle.certificate_entries.specs.certificate_text_HasText.{IsSetOf}
use Rattle.plan_lines.specs.HasText.{IsScanned}
use Rattle.pg_base.proofs.OptionLemmas.{none-some-too as none-some}

-- a set of relations of the query has no other one
of-query : (q : Query) (p : RelSet) → IsSetOf q (has p.0) → IsOfQuery q p
of-query q p h k le = by (has p.0 k) refl
  where
    by : (b : Bool) → has p.0 k ≡ b → has p.0 k ≡ false
    by false e = e
    by true e = let lt = h k e in absurd (omega (arith, lt, le))

module _ (c : Contents) (q : Query) (lawful : IsLawful c) (bound : IsWellBound c q) where
  -- behind a scan stand two spaces
  pub scanned-split : (r s : RelNo) (p o : RelSet) (x y : List ℕ) → IsScanned c q r p → IsScanned c q s o → scanned_text c q r p ++ 32 ∷ 32 ∷ x ≡ scanned_text c q s o ++ 32 ∷ 32 ∷ y → (r ≡ s) × (p ≡ o) × (x ≡ y)
  scanned-split r s p o x y h k e =
      let R = relation_at q.range r in
      let S = relation_at q.range s in
      let P = aliases_in 0 (has p.0) q.range in
      let O = aliases_in 0 (has o.0) q.range in
      let one = relation-split (table_at c R.0).name (table_at c S.0).name R.1 S.1 P O x y
      (table-name c lawful R.0 (relation-table c q.range bound.range r h.relation)) (table-name c lawful S.0 (relation-table c q.range bound.range s k.relation))
      (alias-name c q.range bound.range r h.relation) (alias-name c q.range bound.range s k.relation)
      (aliases-names 0 (has p.0) q.range bound.range.names) (aliases-names 0 (has o.0) q.range bound.range.names)
      (sym (append_assoc (rel_text c q r) (given_text q.range p) (32 ∷ 32 ∷ x)) ∙ e ∙ append_assoc (rel_text c q s) (given_text q.range o) (32 ∷ 32 ∷ y)) in
      (alias-same c q.range bound.range r s h.relation k.relation one.0, params-same c q bound p o (of-query q p h.param) (of-query q o k.param) one.1, one.2)

  pub scanned-same : (r s : RelNo) (p o : RelSet) → IsScanned c q r p → IsScanned c q s o → scanned_text c q r p ≡ scanned_text c q s o → (r ≡ s) × (p ≡ o)
  scanned-same r s p o h k e =
      let one = scanned-split r s p o [] [] h k (ap (λ (l : List ℕ). l ++ 32 ∷ 32 ∷ []) e) in
      (one.0, one.1)

-- no relations are given by the empty set
none-given : (n : ℕ) (set : Set) (range : Range) → ((k : ℕ) → set k ≡ false) → aliases_in n set range ≡ []
none-given n set [] h = refl
none-given n set (r ∷ rs) h = ap (λ (b : Bool). with_alias b r.1 (aliases_in (n + 1) set rs)) (h n) ∙ none-given (n + 1) set rs h

pub no-given : (range : Range) (p : RelSet) → ((k : ℕ) → has p.0 k ≡ false) → given_text range p ≡ []
no-given range p h = ap (with_commas (codes " for ")) (none-given 0 (has p.0) range h)

pub none-mapped : {A B : Type 0} (f : A → B) (o : Option A) (b : B) → o ≡ None → option_map f o ≡ Some b → ⊥
none-mapped f o b none e = none-some b (sym (ap (option_map f) none) ∙ e)
  where
    none-some : {X : Type 0} (x : X) → None ≡ Some x → ⊥
    none-some x e = cc

module _ (c : Contents) (q : Query) where
  -- a scan that is given no rows
  pub bare : (r : RelNo) → r.0 < width q → IsScanned c q r (record { 0 = 0 }) × (rel_text c q r ≡ scanned_text c q r (record { 0 = 0 }))
  bare r lt = (
    record { relation = lt; param = λ k h. absurd (true≢false (sym h ∙ has-zero k)) },
    sym (ap (λ (l : List ℕ). rel_text c q r ++ l) (no-given q.range (record { 0 = 0 }) has-zero) ∙ append-nil (rel_text c q r)),
  )

-- an alias in a list, where its relation is given
pub alias-is : (is : Bool) (first alias text left : List ℕ) → is ≡ true → text ≡ (first ++ alias) ++ left → (xs : List (List ℕ)) (rest : List ℕ) → left ≡ with_commas (codes ", ") xs ++ rest → text ≡ with_commas first (with_alias is alias xs) ++ rest
alias-is false first alias text left h e xs rest f = absurd (true≢false (sym h))
alias-is true first alias text left h e xs rest f =
    let more = with_commas (codes ", ") xs in
    e ∙ (ap (λ (l : List ℕ). (first ++ alias) ++ l) f ∙ (sym (append_assoc (first ++ alias) more rest) ∙ ap (λ (l : List ℕ). l ++ rest) (append_assoc first alias more)))

pub alias-only : (is : Bool) (first alias text : List ℕ) (res : Option (List ℕ)) → is ≡ true → ((rest : List ℕ) → text ≡ (first ++ alias) ++ rest → res ≡ Some rest) → res ≡ None → (xs : List (List ℕ)) (rest : List ℕ) →
    text ≡ with_commas first (with_alias is alias xs) ++ rest → ⊥
alias-only false first alias text res h only none xs rest e = true≢false (sym h)
alias-only true first alias text res h only none xs rest e =
    let more = with_commas (codes ", ") xs in
    none-some res (more ++ rest) none (only (more ++ rest) (e ∙ (sym (ap (λ (l : List ℕ). l ++ rest) (append_assoc first alias more)) ∙ append_assoc (first ++ alias) more rest)))

-- a relation found with those that its scan is given is the one that a text tells
pub found-scan : (c : Contents) (q : Query) → IsLawful c → IsWellBound c q → (text : List ℕ) (r s : RelNo) (p o : RelSet) → r.0 < width q → IsSetOf q (has p.0) × (text ≡ scanned_text c q r p) → IsScanned c q s o → text ≡ scanned_text c q s o → ◌≡◌ {A = Option (RelNo × RelSet)} (Some (r, p)) (Some (s, o))
found-scan c q lawful bound text r s p o lt h k e =
    let same = scanned-same c q lawful bound r s p o (record { relation = lt; param = h.0 }) k (sym h.1 ∙ e) in
    λ t. Some (same.0 t, same.1 t)

pub first-same : (r s : RelNo) (p o : RelSet) (res : Option (RelNo × RelSet)) → res ≡ Some (r, p) → res ≡ Some (s, o) → Some r ≡ Some s
first-same r s p o res e f = ap (option_map (λ (x : RelNo × RelSet). x.0)) (sym e ∙ f)
