-- The lesser of the plans of both forms is the least one.
use Rattle.std.proofs.Common.{◌≡◌, ℕ, ◌<◌, ◌≤◌, Bool, true, false, cond, ◌&&◌, refl, sym, ap₂, ◌∙◌, arith}
use Rattle.std.specs.Prelude.{Option, Some, None, IfSome, nat_lt}
use Rattle.std.proofs.lemmas.Bool.{true≢false, and_parts, lt-ltb, ltb-true, ltb-false}
use Rattle.cost_rules.specs.declared.parameters.TheConstants.{MOST_COST}
use Rattle.group_values.specs.declared.form.Form.{Form}
use Rattle.group_values.specs.declared.form.Form.TheVariants.{Sorted, Hashed}
use Rattle.group_values.specs.declared.task.GroupPlan.{GroupPlan}
use Rattle.group_values.specs.declared.task.GroupTask.{GroupTask}
use Rattle.group_values.specs.work.GroupCosts.{group_total, is_offered}
use Rattle.group_values.specs.work.Choice.{HasAtMost, IsNoLess, IsPlanOver, candidate, input_of, lesser, plan_of}
use Rattle.group_values.proofs.CostLemmas.{total-input, total-rises}

-- what both have, the lesser one has
either : (P : GroupPlan → Type 0) (p q : GroupPlan) (b : Bool) → P p → P q → IfSome (cond b (Some q) (Some p)) P
either P p q true h g = g
either P p q false h g = h

lesser-has : (P : GroupPlan → Type 0) (a b : Option GroupPlan) → IfSome a P → IfSome b P → IfSome (lesser a b) P
lesser-has P None b h g = g
lesser-has P (Some p) None h g = h
lesser-has P (Some p) (Some q) h g = either P p q (nat_lt q.cost p.cost) h g

-- the lesser one costs no more than either
left : (p q : GroupPlan) (n : ℕ) (b : Bool) → nat_lt q.cost p.cost ≡ b → p.cost ≤ n → HasAtMost (cond b (Some q) (Some p)) n
left p q n true e le = omega (arith, le, ltb-true q.cost p.cost e)
left p q n false e le = le

right : (p q : GroupPlan) (n : ℕ) (b : Bool) → nat_lt q.cost p.cost ≡ b → q.cost ≤ n → HasAtMost (cond b (Some q) (Some p)) n
right p q n true e le = le
right p q n false e le = omega (arith, le, ltb-false q.cost p.cost e)

lesser-left : (a b : Option GroupPlan) (n : ℕ) → HasAtMost a n → HasAtMost (lesser a b) n
lesser-left None b n h = absurd h
lesser-left (Some p) None n h = h
lesser-left (Some p) (Some q) n h = left p q n (nat_lt q.cost p.cost) refl h

lesser-right : (a b : Option GroupPlan) (n : ℕ) → HasAtMost b n → HasAtMost (lesser a b) n
lesser-right None b n h = h
lesser-right (Some p) None n h = absurd h
lesser-right (Some p) (Some q) n h = right p q n (nat_lt q.cost p.cost) refl h

module _ (t : GroupTask) (plain sorted : Option ℕ) where
  -- the plan of a form is one over its input
  over : (f : Form) (o : Option ℕ) → input_of f plain sorted ≡ o → IfSome (candidate f t o) (IsPlanOver t plain sorted)
  over f None e = tt
  over f (Some input) e = by (is_offered f t && nat_lt (group_total f t input) MOST_COST) refl
    where
      by : (b : Bool) → is_offered f t && nat_lt (group_total f t input) MOST_COST ≡ b → IfSome (cond b (Some (plan_of f t input)) None) (IsPlanOver t plain sorted)
      by false g = tt
      by true g =
          let both = and_parts (is_offered f t) (nat_lt (group_total f t input) MOST_COST) g in
          record { input = input; over = e; offered = both.0; cost = refl; admissible = ltb-true (group_total f t input) MOST_COST both.1; sort_after = refl; rows = refl }

  pub chosen-over : IfSome (lesser (candidate Sorted t sorted) (candidate Hashed t plain)) (IsPlanOver t plain sorted)
  chosen-over = lesser-has (IsPlanOver t plain sorted) (candidate Sorted t sorted) (candidate Hashed t plain) (over Sorted sorted refl) (over Hashed plain refl)

  -- the plan of a form costs no more than one over a dearer input
  least-at : (f : Form) (o : Option ℕ) (n : ℕ) → IsNoLess o n → is_offered f t ≡ true → group_total f t n < MOST_COST → HasAtMost (candidate f t o) (group_total f t n)
  least-at f None n dearer offered below = absurd (lost (total-input f t n) dearer below)
    where
      lost : {x y : ℕ} → n ≤ x → y ≤ n → x < y → ⊥
      lost h g k = omega arith
  least-at f (Some m) n dearer offered below = by (is_offered f t && nat_lt (group_total f t m) MOST_COST) refl
    where
      lower : {x y z : ℕ} → x ≤ y → y < z → x < z
      lower h g = omega arith

      rise : group_total f t m ≤ group_total f t n
      rise = total-rises f t m n dearer

      by : (b : Bool) → is_offered f t && nat_lt (group_total f t m) MOST_COST ≡ b → HasAtMost (cond b (Some (plan_of f t m)) None) (group_total f t n)
      by true g = rise
      by false g = absurd (true≢false (sym (ap₂ (λ a b. a && b) offered (lt-ltb (group_total f t m) MOST_COST (lower rise below))) ∙ g))

  pub chosen-least : (f : Form) (n : ℕ) → IsNoLess (input_of f plain sorted) n → is_offered f t ≡ true → group_total f t n < MOST_COST → HasAtMost (lesser (candidate Sorted t sorted) (candidate Hashed t plain)) (group_total f t n)
  chosen-least Sorted n dearer offered below = lesser-left (candidate Sorted t sorted) (candidate Hashed t plain) (group_total Sorted t n) (least-at Sorted sorted n dearer offered below)
  chosen-least Hashed n dearer offered below = lesser-right (candidate Sorted t sorted) (candidate Hashed t plain) (group_total Hashed t n) (least-at Hashed plain n dearer offered below)
