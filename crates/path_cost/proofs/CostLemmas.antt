-- Operators past what a word holds make a cost that is cut.
use Rattle.std.proofs.Common.{◌≡◌, ◌<◌, ◌≤◌, ◌∙◌, ℕ, suc, ◌+◌, ◌-◌, ◌*◌, ◌^◌, ◌&&◌, ◌||◌, min, nat_lt, not, Bool, true, false, List, [], ◌∷◌, zero, refl, sym, ap, subst, arith, length, drop, inl, inr}
use Rattle.std.proofs.lemmas.Grind.{common_steps}
use Rattle.std.proofs.lemmas.Bool.{cases_lt}
use Rattle.pg_expr.specs.work.AtomSets.{contains}
use Rattle.eq_classes.specs.Clauses.{Clause, Set}
use Rattle.eq_classes.specs.Listing.{clause_at}
use Rattle.eq_classes.specs.Parts.{is_base, is_param, is_local}
use Rattle.pg_expr.specs.Columns.{atom_count}
use Rattle.cost_rules.specs.Costs.{pair, row_cost}
use Rattle.cost_rules.specs.work.Costs.{capped, capped_pair}
use Rattle.cost_rules.specs.Scans.{bitmap_scan_cost, fetch_cost, index_scan_cost, heap_pages_of, page_in_order, run_cost, seq_scan_cost}
use Rattle.cost_rules.specs.declared.parameters.TheConstants.{MOST_COST, SEQUENTIAL_PAGE}
use Rattle.cost_rules.proofs.RisingLemmas.{once-at_least}
use Rattle.path_cost.specs.Costs.{operators}
use Rattle.path_cost.specs.Estimates.{conditions_from, conditions_where}
use Rattle.path_cost.specs.work.Estimates.{either, either_but}
use Rattle.path_cost.proofs.KeptLemmas.{where_params, where-from, from-same, conditions-at}

-- rows with operators past what a word holds
pub work-cut : (x r n : ℕ) → 1 ≤ r → capped (x + r * row_cost (min n (2 ^ 64 - 1))) ≡ capped (x + r * row_cost n)
work-cut x r n some = elim (cases_lt n (2 ^ 64)) [
  | inl less ↦ ap (λ m. capped (x + r * row_cost m)) (let same : min n (2 ^ 64 - 1) ≡ n = omega (arith, less) in same)
  | inr more ↦ both (r * row_cost (min n (2 ^ 64 - 1))) (r * row_cost n) (dear (min n (2 ^ 64 - 1)) (omega (arith, more))) (dear n (omega (arith, more)))
]
  where
    both : (a b : ℕ) → MOST_COST ≤ a → MOST_COST ≤ b → capped (x + a) ≡ capped (x + b)
    both a b h k = omega (arith, h, k)

    dear : (m : ℕ) → 2 ^ 64 - 1 ≤ m → MOST_COST ≤ r * row_cost m
    dear m h = omega (arith, h, once-at_least r (row_cost m) some)

pub seq_cut : (pages rows n : ℕ) → 1 ≤ rows → capped_pair (seq_scan_cost pages rows (min n (2 ^ 64 - 1))) ≡ capped_pair (seq_scan_cost pages rows n)
seq_cut pages rows n some = ap (pair (capped 0)) (work-cut (pages * SEQUENTIAL_PAGE) rows n some)

pub bitmap_cut : (runs parts rows pages n : ℕ) → 1 ≤ rows → capped_pair (bitmap_scan_cost runs parts rows pages (min n (2 ^ 64 - 1))) ≡ capped_pair (bitmap_scan_cost runs parts rows pages n)
bitmap_cut runs parts rows pages n some = ap (pair (capped parts)) (work-cut (parts + run_cost runs rows pages (page_in_order (heap_pages_of rows pages) pages)) rows n some)

-- a part that was cut before, and operators past what a word holds
pub index_cut : (runs descent part : ℕ) (only : Bool) (rows pages n : ℕ) → 1 ≤ rows → capped_pair (index_scan_cost runs descent (capped part) only rows pages (min n (2 ^ 64 - 1))) ≡ capped_pair (index_scan_cost runs descent part only rows pages n)
index_cut runs descent part only rows pages n some = ap (pair (capped descent)) (plus-two part (fetch_cost runs only rows pages) (rows * row_cost (min n (2 ^ 64 - 1))) ∙ work-cut (part + fetch_cost runs only rows pages) rows n some)
  where
    plus-two : (x y z : ℕ) → capped (capped x + y + z) ≡ capped (x + y + z)
    plus-two x y z = omega arith

-- an index scan over numbers that are those of a rule
pub index_rule : (n d part found pages ops runs descent own rows touched all most : ℕ) (only : Bool) → n ≡ runs → d ≡ descent → part ≡ capped own → found ≡ rows → pages ≡ touched → ops ≡ min all (2 ^ 64 - 1) → all ≡ most → 1 ≤ rows →
    capped_pair (index_scan_cost n d part only found pages ops) ≡ capped_pair (index_scan_cost runs descent own only rows touched most)
index_rule n d part found pages ops runs descent own rows touched all most only k e f g h i j some =
    ap (λ x. capped_pair (index_scan_cost x d part only found pages ops)) k
    ∙ ap (λ x. capped_pair (index_scan_cost runs x part only found pages ops)) e
    ∙ ap (λ x. capped_pair (index_scan_cost runs descent x only found pages ops)) f
    ∙ ap (λ x. capped_pair (index_scan_cost runs descent (capped own) only x pages ops)) g
    ∙ ap (λ x. capped_pair (index_scan_cost runs descent (capped own) only rows x ops)) h
    ∙ ap (λ x. capped_pair (index_scan_cost runs descent (capped own) only rows touched x)) (i ∙ ap (λ x. min x (2 ^ 64 - 1)) j)
    ∙ index_cut runs descent own only rows touched most some

-- the operators of the clauses over a relation, and of those of its parameterisation
pub base_operators : (r : ℕ) (base none : List ℕ) (ks : List Clause) → ((k : ℕ) → contains base k ≡ nat_lt k (length ks) && is_base r (clause_at ks k)) → ((k : ℕ) → contains none k ≡ false) → operators (conditions_from 0 (either_but base none none) ks) ≡ operators (conditions_where (is_base r) ks)
base_operators r base none ks h g = ap operators (where-from (is_base r) (either_but base none none) ks 0 at)
  where
    one : (n m : ℕ) (a x y : Bool) → n < m → x ≡ nat_lt n m && a → y ≡ false → (x || y) && not y ≡ a
    one n m a x y lt e f = grind (arith, common_steps, lt, e, f)

    at : (k : ℕ) → k < length ks → either_but base none none (0 + k) ≡ is_base r (clause_at ks k)
    at k lt = subst (λ m. either_but base none none m ≡ is_base r (clause_at ks k)) (let same : k ≡ 0 + k = omega arith in same) (one k (length ks) (is_base r (clause_at ks k)) (contains base k) (contains none k) lt (h k) (g k))

pub local_operators_are : (r : ℕ) (p : Set) (base param none : List ℕ) (ks : List Clause) → ((k : ℕ) → contains base k ≡ nat_lt k (length ks) && is_base r (clause_at ks k)) → ((k : ℕ) → contains param k ≡ nat_lt k (length ks) && is_param r p (clause_at ks k)) → ((k : ℕ) → contains none k ≡ false) → operators (conditions_from 0 (either_but base param none) ks) ≡ operators (conditions_where (is_local r p) ks)
local_operators_are r p base param none ks h g e = ap operators (from-same 0 (either_but base param none) (either base param) ks (λ k lt. but-none (either base param (0 + k)) (contains none (0 + k)) (e (0 + k))) ∙ where_params r p base param ks h g)
  where
    but-none : (x y : Bool) → y ≡ false → x && not y ≡ x
    but-none x y f = grind (arith, common_steps, f)

-- the operators of a relation's clauses that are no conditions of an index
pub other_operators_are : (r : ℕ) (p : Set) (base param conditions : List ℕ) (ks : List Clause) → ((k : ℕ) → contains base k ≡ nat_lt k (length ks) && is_base r (clause_at ks k)) → ((k : ℕ) → contains param k ≡ nat_lt k (length ks) && is_param r p (clause_at ks k)) → operators (conditions_from 0 (either_but base param conditions) ks) ≡ operators (conditions_from 0 (λ n. is_local r p (clause_at ks n) && not (contains conditions n)) ks)
other_operators_are r p base param conditions ks h g = ap operators (from-same 0 (either_but base param conditions) (λ n. is_local r p (clause_at ks n) && not (contains conditions n)) ks at)
  where
    two : (n m : ℕ) (a b x y z : Bool) → n < m → x ≡ nat_lt n m && a → y ≡ nat_lt n m && b → (x || y) && not z ≡ (a || b) && not z
    two n m a b x y z lt e f = grind (arith, common_steps, lt, e, f)

    at : (k : ℕ) → k < length ks → either_but base param conditions (0 + k) ≡ is_local r p (clause_at ks (0 + k)) && not (contains conditions (0 + k))
    at k lt = two (0 + k) (length ks) (is_base r (clause_at ks (0 + k))) (is_param r p (clause_at ks (0 + k))) (contains base (0 + k)) (contains param (0 + k)) (contains conditions (0 + k)) (omega (arith, lt)) (h (0 + k)) (g (0 + k))

-- operators summed clause by clause
pub sum-yes : (ks : List Clause) (chosen : ℕ → Bool) (n sum ops next whole : ℕ) → n < length ks → chosen n ≡ true → ops ≡ min (atom_count (clause_at ks n).cond) (2 ^ 64 - 1) → next ≡ min (sum + ops) (2 ^ 64 - 1) → min (sum + operators (conditions_from n chosen (drop n ks))) (2 ^ 64 - 1) ≡ whole → min (next + operators (conditions_from (n + 1) chosen (drop (n + 1) ks))) (2 ^ 64 - 1) ≡ whole
sum-yes ks chosen n sum ops next whole lt e f g h =
    cut-sum sum ops next whole (operators (conditions_from n chosen (drop n ks))) (atom_count (clause_at ks n).cond) (operators (conditions_from (n + 1) chosen (drop (n + 1) ks))) (ap operators (conditions-at ks chosen n true lt e)) f g h
  where
    cut-sum : (sum ops next whole all a rest : ℕ) → all ≡ a + rest → ops ≡ min a (2 ^ 64 - 1) → next ≡ min (sum + ops) (2 ^ 64 - 1) → min (sum + all) (2 ^ 64 - 1) ≡ whole → min (next + rest) (2 ^ 64 - 1) ≡ whole
    cut-sum sum ops next whole all a rest i f g h = omega (arith, i, f, g, h)

pub sum-no : (ks : List Clause) (chosen : ℕ → Bool) (n sum next whole : ℕ) → n < length ks → chosen n ≡ false → next ≡ sum → min (sum + operators (conditions_from n chosen (drop n ks))) (2 ^ 64 - 1) ≡ whole → min (next + operators (conditions_from (n + 1) chosen (drop (n + 1) ks))) (2 ^ 64 - 1) ≡ whole
sum-no ks chosen n sum next whole lt e g h =
    subst (λ x. min (next + operators x) (2 ^ 64 - 1) ≡ whole) (conditions-at ks chosen n false lt e)
    (subst (λ m. min (m + operators (conditions_from n chosen (drop n ks))) (2 ^ 64 - 1) ≡ whole) (sym g) h)

pub none-left : (ks : List Clause) (n : ℕ) → length ks ≤ n → drop n ks ≡ []
none-left [] zero h = refl
none-left [] (suc n) h = refl
none-left (k ∷ ks) zero h = absurd (omega (arith, h))
none-left (k ∷ ks) (suc n) h = none-left ks n (omega (arith, h))

pub sum-all : (ks : List Clause) (chosen : ℕ → Bool) (n sum whole : ℕ) → length ks ≤ n → sum ≤ 2 ^ 64 - 1 → min (sum + operators (conditions_from n chosen (drop n ks))) (2 ^ 64 - 1) ≡ whole → sum ≡ whole
sum-all ks chosen n sum whole past fits h =
    none (operators (conditions_from n chosen (drop n ks))) (ap (λ xs. operators (conditions_from n chosen xs)) (none-left ks n past)) h
  where
    none : (rest : ℕ) → rest ≡ 0 → min (sum + rest) (2 ^ 64 - 1) ≡ whole → sum ≡ whole
    none rest e f = omega (arith, e, f, fits)
