-- A column that is found is visible.
use Rattle.std.proofs.Common.{◌≡◌, ℕ, suc, List, [], ◌∷◌, Option, Some, None, All, refl, subst, arith}
use Rattle.std.specs.List.{Contains}
use Rattle.std.specs.Str.{bytes_eq}
use Rattle.std.proofs.lemmas.List.Elements.{All-nil, All-cons, All-head, All-weaker, All-filter}
use Rattle.pg_expr.specs.declared.operand.ColRef.{ColRef}
use Rattle.expr_reader.specs.declared.found.Found.TheVariants.{One}
use Rattle.expr_reader.specs.Scope.{Visible, Scope, columns_in_scope, under, of_name, the_one, among, look_up}

-- the column is one of these
abbrev pub Seen : Scope → Visible → Type 0
Seen scope v = Contains (columns_in_scope scope) v.column

later : (w : Visible) (scope : Scope) (v : Visible) → Seen scope v → Seen (w ∷ scope) v
later w scope v (k, lt, is) = (suc k, omega (arith, lt), is)

seen-all : (scope : Scope) → All (Seen scope) scope
seen-all [] = All-nil (Seen [])
seen-all (v ∷ vs) = All-cons (Seen (v ∷ vs)) v vs (0, omega arith, refl) (All-weaker (Seen vs) (Seen (v ∷ vs)) (later v vs) vs (seen-all vs))

module _ (P : ColRef → Type 0) where
  pub the-one-all : (sub : Scope) (c : ColRef) → All (λ v. P v.column) sub → the_one sub ≡ One c → P c
  the-one-all [] c all is = absurd (cc (is))
  the-one-all (v ∷ []) c all is = let same : v.column ≡ c = cc (is) in subst P same (All-head (λ u. P u.column) v [] all)
  the-one-all (v ∷ w ∷ vs) c all is = absurd (cc (is))

  among-all : (sub : Scope) (name : List ℕ) (c : ColRef) → All (λ v. P v.column) sub → among name sub ≡ One c → P c
  among-all [] name c all is = absurd (cc (is))
  among-all (v ∷ vs) name c all is = the-one-all (of_name name (v ∷ vs)) c (All-filter (λ u. bytes_eq name u.name) (λ u. P u.column) (v ∷ vs) all) is

  -- what all visible columns are, one that is found is
  pub found-all : (scope : Scope) (qualifier : Option (List ℕ)) (name : List ℕ) (c : ColRef) → All (λ v. P v.column) scope → look_up scope qualifier name ≡ One c → P c
  found-all scope None name c all is = the-one-all (of_name name scope) c (All-filter (λ u. bytes_eq name u.name) (λ u. P u.column) scope all) is
  found-all scope (Some alias) name c all is = among-all (under alias scope) name c (All-filter (λ u. bytes_eq alias u.alias) (λ u. P u.column) scope all) is

pub found-seen : (scope : Scope) (qualifier : Option (List ℕ)) (name : List ℕ) (c : ColRef) → look_up scope qualifier name ≡ One c → Contains (columns_in_scope scope) c
found-seen scope qualifier name c is = found-all (λ x. Contains (columns_in_scope scope) x) scope qualifier name c (seen-all scope) is
