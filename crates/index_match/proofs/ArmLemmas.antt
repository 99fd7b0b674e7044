-- The parts of an arm.
use Rattle.std.proofs.Common.{◌≡◌, ◌≤◌, ◌+◌, ℕ, Bool, true, false, ◌&&◌, nat_lt, List, [], ◌∷◌, length, map, Some, refl, sym, ap, ap₂, ◌∙◌, subst, arith}
use Rattle.std.specs.List.{enumerate_from, list_all, list_any}
use Rattle.std.proofs.lemmas.Bool.{and_parts, true≢false}
use Rattle.std.proofs.lemmas.List.{length-map}
use Rattle.pg_expr.specs.Cond.{Cond, compare, is_null, is_not_null, bool_col, const, all_of, any_of, negation, Conds, no_conds, cond_and, conds_of}
use Rattle.pg_expr.specs.Columns.{atom_count, atom_count_of}
use Rattle.predicate_proof.specs.work.Atoms.{is_all}
use Rattle.catalog.specs.Indexes.{Index}
use Rattle.eq_classes.specs.Classes.{listed}
use Rattle.eq_classes.proofs.WordLemmas.{grown}
use Rattle.index_match.specs.Numbered.{Numbered, numbered, numbered_from_0, has_number}
use Rattle.index_match.specs.Conditions.{is_condition}
use Rattle.index_match.specs.Bounds.{bounds_among}
use Rattle.index_match.specs.Arms.{arm_parts, takes_parts, is_matched, arm_bounds}
use Rattle.index_match.specs.work.Slots.{numbered_at, numbered_from, bound_at}
use Rattle.index_match.proofs.BoundLemmas.{bounds_are, bounds_below}
use Rattle.eq_classes.proofs.ConditionLemmas.{listed_conds}

pub all_mapped : {A B : Type 0} (p : B → Bool) (f : A → B) (xs : List A) → list_all p (map f xs) ≡ list_all (λ x. p (f x)) xs
all_mapped p f [] = refl
all_mapped p f (x ∷ xs) = ap (λ (b : Bool). p (f x) && b) (all_mapped p f xs)

pub ruleset atoms = (grown)

pub ruleset mapped = (all_mapped)

-- an arm's parts are numbered by their places
pub parts_numbered : {A : Type 0} (f : A → Cond) (n : ℕ) (xs : List A) → numbered_from n (map (λ x. Some (f x)) xs) ≡ map numbered (enumerate_from n (map f xs))
parts_numbered f n [] = refl
parts_numbered f n (x ∷ xs) = ap (λ (cs : List Numbered). numbered_at n (f x) ∷ cs) (parts_numbered f (n + 1) xs)

none_of : {A : Type 0} (xs : List A) → list_any (λ x. false) xs ≡ false
none_of [] = refl
none_of (x ∷ xs) = none_of xs

-- a condition of an index is an atom
one_atom : (d : Index) (r : ℕ) (e : Cond) → is_condition d r e ≡ true → 1 ≤ atom_count e
one_atom d r (compare op a b) h = omega arith
one_atom d r (is_null x) h = omega arith
one_atom d r (is_not_null x) h = omega arith
one_atom d r (bool_col x) h = absurd (true≢false (sym h ∙ none_of d.keys))
one_atom d r (const x) h = absurd (true≢false (sym h ∙ none_of d.keys))
one_atom d r (all_of es) h = absurd (true≢false (sym h ∙ none_of d.keys))
one_atom d r (any_of es) h = absurd (true≢false (sym h ∙ none_of d.keys))
one_atom d r (negation e) h = absurd (true≢false (sym h ∙ none_of d.keys))

few_parts : (d : Index) (r : ℕ) (es : List Cond) → list_all (is_condition d r) es ≡ true → length es ≤ atom_count_of (conds_of es)
few_parts d r [] h = omega arith
few_parts d r (e ∷ es) h =
    let parts = and_parts (is_condition d r e) (list_all (is_condition d r) es) h in
    let one : 1 ≤ atom_count e = one_atom d r e parts.0 in
    let rest : length es ≤ atom_count_of (conds_of es) = few_parts d r es parts.1 in
    omega (arith, one, rest)

conds_listed : (es : Conds) → conds_of (listed es) ≡ es
conds_listed no_conds = refl
conds_listed (cond_and e es) = ap (λ (cs : Conds). cond_and e cs) (conds_listed es)

itself : (n : ℕ) → n + 0 ≡ n
itself n = omega arith

part_atoms : (arm : Cond) → atom_count_of (conds_of (arm_parts arm)) ≡ atom_count arm
part_atoms (all_of es) = ap atom_count_of (conds_listed es)
part_atoms (compare op a b) = refl
part_atoms (is_null x) = refl
part_atoms (is_not_null x) = refl
part_atoms (bool_col x) = refl
part_atoms (const x) = refl
part_atoms (any_of es) = itself (atom_count_of es)
part_atoms (negation e) = itself (atom_count e)

-- a matched arm has at most as many parts as atoms
pub parts_few : (d : Index) (r : ℕ) (arm : Cond) → list_all (is_condition d r) (arm_parts arm) ≡ true → length (arm_parts arm) ≤ atom_count arm
parts_few d r arm h = subst (λ (n : ℕ). length (arm_parts arm) ≤ n) (part_atoms arm) (few_parts d r (arm_parts arm) h)

pub and_arm : (arm : Cond) (es : List Cond) → arm ≡ all_of (conds_of es) → es ≡ arm_parts arm
and_arm arm es is = sym (listed_conds es) ∙ sym (ap arm_parts is)

pub alone : (arm : Cond) → is_all arm ≡ false → arm ∷ [] ≡ arm_parts arm
alone (all_of es) h = absurd (true≢false h)
alone (compare op a b) h = refl
alone (is_null x) h = refl
alone (is_not_null x) h = refl
alone (bool_col x) h = refl
alone (const x) h = refl
alone (any_of es) h = refl
alone (negation e) h = refl

pub ruleset parts = (and_arm, alone)

module _ {A : Type 0} (d x : Index) (at : d ≡ x) (r : ℕ) (arm : Cond) (f : A → Cond) (parts : List A) (are : map f parts ≡ arm_parts arm) where
  abbrev part_test : Bool
  part_test = list_all (λ e. is_condition d r (f e)) parts

  each_part : part_test ≡ list_all (is_condition d r) (arm_parts arm)
  each_part = sym (all_mapped (is_condition d r) f parts) ∙ ap (list_all (is_condition d r)) are

  as_many : length parts ≡ length (arm_parts arm)
  as_many = sym (length-map parts f) ∙ ap length are

  -- an arm with at most 256 atoms that is matched has at most 256 parts
  pub few_of_arm : (matched : Bool) → matched ≡ true → matched ≡ takes_parts d.method (length parts) && part_test → atom_count arm ≤ 256 → length parts ≤ 256
  few_of_arm matched passed is few =
      let each : list_all (is_condition d r) (arm_parts arm) ≡ true = sym each_part ∙ (and_parts (takes_parts d.method (length parts)) part_test (sym is ∙ passed)).1 in
      let at_most : length (arm_parts arm) ≤ atom_count arm = parts_few d r arm each in
      let same : length parts ≡ length (arm_parts arm) = as_many in
      omega (arith, at_most, same, few)

  pub matched_arm : (matched : Bool) → matched ≡ takes_parts d.method (length parts) && part_test → matched ≡ is_matched x r arm
  matched_arm matched is =
      is ∙ ap₂ (λ (n : ℕ) (b : Bool). takes_parts d.method n && b) as_many each_part ∙ ap (λ (y : Index). is_matched y r arm) at

  -- the numbers of its bounds
  pub bounds_of_arm : (set atoms : ℕ → Bool) → ((j : ℕ) → set j ≡ bound_at d.method r d.keys (map (λ e. Some (f e)) parts) j) → ((n : ℕ) → atoms n ≡ nat_lt n (length parts) && set n) → (n : ℕ) → atoms n ≡ has_number (arm_bounds x r arm) n
  bounds_of_arm set atoms bounds are_atoms n =
      let slots = map (λ e. Some (f e)) parts in
      are_atoms n
      ∙ ap₂ (λ (len : ℕ) (b : Bool). nat_lt n len && b) (sym (length-map parts (λ e. Some (f e)))) (bounds n)
      ∙ bounds_below d r slots n
      ∙ sym (bounds_are d r slots n)
      ∙ ap (λ (cs : List Numbered). has_number (bounds_among d r cs) n) (parts_numbered f 0 parts ∙ ap numbered_from_0 are)
      ∙ ap (λ (y : Index). has_number (arm_bounds y r arm) n) at
