-- Products that are cut, and costs that rise with their input's.
use Rattle.std.proofs.Common.{◌≡◌, ℕ, zero, suc, ◌+◌, ◌*◌, ◌<◌, ◌≤◌, Bool, true, false, cond, List, [], ◌∷◌, length, get_or, drop, sym, ap, ◌∙◌, arith, ⊎_elim}
use Rattle.std.specs.Prelude.{All, min}
use Rattle.std.proofs.lemmas.Bool.{cases_lt}
use Rattle.std.proofs.lemmas.List.{drop_more}
use Rattle.std.proofs.lemmas.List.Elements.{All-head, All-tail}
use Rattle.cost_rules.specs.Costs.{pair, sort_cost}
use Rattle.cost_rules.proofs.RisingLemmas.{once-at_least, sort-child, sort-rises}
use Rattle.group_values.specs.declared.form.Form.{Form}
use Rattle.group_values.specs.declared.task.GroupTask.{GroupTask}
use Rattle.group_values.specs.GroupCosts.{combinations}
use Rattle.group_values.specs.work.GroupCosts.{group_cost, group_total, groups_of, sorts_after}

assoc : (g d p : ℕ) → g * d * p ≡ g * (d * p)
assoc g d p = omega arith

zeros : (x g d : ℕ) → x * 0 ≡ g * (d * 0)
zeros x g d = omega arith

cut-at : (most y : ℕ) → most ≤ y → min most y ≡ most
cut-at most y le = omega arith

below-cut : (most y x : ℕ) → y ≤ most → x ≡ min most y → x ≡ y
below-cut most y x le e = omega arith

above-cut : (most y x : ℕ) → most < y → x ≡ min most y → x ≡ most
above-cut most y x lt e = omega arith

still-above : (most g d p : ℕ) → most < g * d → most ≤ g * (d * suc p)
still-above most g d p lt = omega (arith, lt, once-at_least (suc p) (g * d) (omega arith))

all-cut : (most g d p x : ℕ) → most < g * d → x ≡ most → min most (x * p) ≡ min most (g * (d * p))
all-cut most g d zero x lt is = ap (λ y. min most y) (zeros x g d)
all-cut most g d (suc p) x lt is = cut-at most (x * suc p) (omega (arith, is, once-at_least (suc p) x (omega arith))) ∙ sym (cut-at most (g * (d * suc p)) (still-above most g d p lt))

-- a product that is cut on the way is cut in the end
pub cut-more : (most g d p x : ℕ) → x ≡ min most (g * d) → min most (x * p) ≡ min most (g * (d * p))
cut-more most g d p x e = ⊎_elim
    (λ (lt : most < g * d). all-cut most g d p x lt (above-cut most (g * d) x lt e))
    (λ (le : g * d ≤ most). ap (λ y. min most y) (ap (λ y. y * p) (below-cut most (g * d) x le e) ∙ assoc g d p))
    (cases_lt most (g * d))

-- one more factor
pub factor-more : (ns : List ℕ) (i n most g x : ℕ) → i < length ns → n ≡ get_or ns i 0 → x ≡ min most (g * n) → min most (g * combinations (drop i ns)) ≡ min most (combinations ns) → min most (x * combinations (drop (i + 1) ns)) ≡ min most (combinations ns)
factor-more ns i n most g x lt is e before =
    cut-more most g n (combinations (drop (i + 1) ns)) x e
    ∙ ap (λ ms. min most (g * combinations ms)) (ap (λ k. k ∷ drop (i + 1) ns) is ∙ sym (drop_more ns i 0 lt))
    ∙ before

rise-by : (b : Bool) (n x y : ℕ) → x ≤ y → cond b (sort_cost (pair 0 x) n).total x ≤ cond b (sort_cost (pair 0 y) n).total y
rise-by true n x y le = (sort-rises (pair 0 x) (pair 0 y) n (record { startup = omega arith; total = le })).total
rise-by false n x y le = le

pub total-rises : (f : Form) (t : GroupTask) (a b : ℕ) → a ≤ b → group_total f t a ≤ group_total f t b
total-rises f t a b le = rise-by (sorts_after f t) (groups_of t) (group_cost f t a) (group_cost f t b) (omega arith)

pub child-by : (b : Bool) (n x : ℕ) → x ≤ cond b (sort_cost (pair 0 x) n).total x
child-by true n x = sort-child (pair 0 x) n
child-by false n x = omega arith

at-least : (a x y : ℕ) → a ≤ x → x ≤ y → a ≤ y
at-least a x y h g = omega arith

pub total-input : (f : Form) (t : GroupTask) (a : ℕ) → a ≤ group_total f t a
total-input f t a = at-least a (group_cost f t a) (group_total f t a) (omega arith) (child-by (sorts_after f t) (groups_of t) (group_cost f t a))

-- where each group key has a value there is a list of values
pub product-some : (ns : List ℕ) → All (λ n. 1 ≤ n) ns → 1 ≤ combinations ns
product-some [] all = omega arith
product-some (n ∷ ns) all = omega (arith, product-some ns (All-tail (λ n. 1 ≤ n) n ns all), once-at_least n (combinations ns) (All-head (λ n. 1 ≤ n) n ns all))
