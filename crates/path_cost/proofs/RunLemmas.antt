-- Runs of a scan: the rows of relations taken one after the other, and what a run pays for pages.
use Rattle.std.proofs.Common.{◌≡◌, ◌<◌, ◌≤◌, ◌∙◌, ℕ, ◌+◌, ◌-◌, ◌*◌, min, nat_eq, Bool, true, false, cond, List, [], ◌∷◌, length, map, Option, Some, None, refl, sym, ap, subst, arith, mul-le-mul_right, mul_comm, le_trans}
use Rattle.std.specs.Prelude.{fold, IfSome}
use Rattle.catalog.specs.Contents.{Contents}
use Rattle.catalog.specs.Range.{Range}
use Rattle.eq_classes.specs.Clauses.{ClassTable, Set, one}
use Rattle.cost_rules.specs.work.Costs.{IsEstimate}
use Rattle.cost_rules.specs.Scans.{heap_pages_of, leaves_cost, run_cost}
use Rattle.cost_rules.specs.declared.parameters.TheConstants.{RANDOM_PAGE}
use Rattle.cost_rules.proofs.RisingLemmas.{ceil-least, once-at_least}
use Rattle.path_cost.specs.Estimates.{set_numbers_from, relations, set_rows}
use Rattle.path_cost.specs.Runs.{least_or_one, runs}
use Rattle.path_cost.specs.work.Runs.{lesser_with}
use Rattle.path_cost.proofs.NumberLemmas.{numbers-at}

-- the least of some numbers with one that may be missing
abbrev pub least_with : Option ℕ → List ℕ → ℕ
least_with None ns = least_or_one ns
least_with (Some m) ns = fold min m ns

least-more : (o : Option ℕ) (n : ℕ) (ns : List ℕ) → least_with o (n ∷ ns) ≡ least_with (Some (lesser_with o n)) ns
least-more None n ns = refl
least-more (Some m) n ns = refl

module _ (c : Contents) (range : Range) (t : ClassTable) (set : Set) where
  -- the rows of the relations of a set from a number on, each alone
  abbrev pub alone-from : ℕ → List ℕ
  alone-from n = map (λ q. set_rows c range t (one q)) (set_numbers_from n (length range - n) set)

  pub least-yes : (n rows : ℕ) (old new : Option ℕ) (whole : ℕ) → n < length range → set n ≡ true → rows ≡ set_rows c range t (one n) → new ≡ Some (lesser_with old rows) → least_with old (alone-from n) ≡ whole → least_with new (alone-from (n + 1)) ≡ whole
  least-yes n rows old new whole lt e f g h =
      ap (λ o. least_with o (alone-from (n + 1))) (g ∙ ap (λ m. Some (lesser_with old m)) f)
      ∙ sym (least-more old (set_rows c range t (one n)) (alone-from (n + 1)))
      ∙ ap (λ rs. least_with old (map (λ q. set_rows c range t (one q)) rs)) (sym (numbers-at set n (length range) true lt e))
      ∙ h

  pub least-no : (n : ℕ) (old new : Option ℕ) (whole : ℕ) → n < length range → set n ≡ false → new ≡ old → least_with old (alone-from n) ≡ whole → least_with new (alone-from (n + 1)) ≡ whole
  least-no n old new whole lt e g h =
      ap (λ o. least_with o (alone-from (n + 1))) g
      ∙ ap (λ rs. least_with old (map (λ q. set_rows c range t (one q)) rs)) (sym (numbers-at set n (length range) false lt e))
      ∙ h

  pub least-all : (n : ℕ) (o : Option ℕ) (whole : ℕ) → length range ≤ n → least_with o (alone-from n) ≡ whole → least_with o [] ≡ whole
  least-all n o whole past h =
      ap (λ len. least_with o (map (λ q. set_rows c range t (one q)) (set_numbers_from n len set))) (let none : 0 ≡ length range - n = omega (arith, past) in none) ∙ h

-- the lesser of two estimates is one
pub lesser-estimate : (o : Option ℕ) (n : ℕ) → IfSome o IsEstimate → IsEstimate n → IsEstimate (lesser_with o n)
lesser-estimate None n h k = k
lesser-estimate (Some m) n h k = record { some = omega (arith, h.some, k.some); most = omega (arith, h.most, k.most) }

-- what one of so many runs pays for pages is no more than all of them cost
pub run-least : (n rows pages price : ℕ) → 1 ≤ n → run_cost n rows pages price ≤ pages * price
run-least n rows pages price once =
    ceil-least (heap_pages_of rows' pages * price) (pages * price) n once (le_trans (mul-le-mul_right price (few rows' pages)) (times (pages * price) n once))
  where
    rows' : ℕ
    rows' = rows * n

    few : (m p : ℕ) → heap_pages_of m p ≤ p
    few m p = omega arith

    times : (x m : ℕ) → 1 ≤ m → x ≤ x * m
    times x m h = subst (λ y. x ≤ y) (mul_comm m x) (once-at_least m x h)

pub leaves-least : (n leaves pages : ℕ) → 1 ≤ n → leaves ≤ pages → leaves_cost n leaves pages ≤ pages * RANDOM_PAGE
leaves-least n leaves pages once few = by (nat_eq n 1)
  where
    by : (b : Bool) → cond b (leaves * RANDOM_PAGE) (run_cost n leaves pages RANDOM_PAGE) ≤ pages * RANDOM_PAGE
    by true = mul-le-mul_right RANDOM_PAGE few
    by false = run-least n leaves pages RANDOM_PAGE once

-- a set is taken to have a row, and so a scan is run once at least
pub set-some : (c : Contents) (range : Range) (t : ClassTable) (set : Set) → 1 ≤ set_rows c range t set
set-some c range t set = omega arith

least-some : (m : ℕ) (f : ℕ → ℕ) (rs : List ℕ) → ((r : ℕ) → 1 ≤ f r) → 1 ≤ m → 1 ≤ fold min m (map f rs)
least-some m f [] each h = h
least-some m f (r ∷ rs) each h = least-some (min m (f r)) f rs each (omega (arith, h, each r))

pub runs-some : (c : Contents) (range : Range) (t : ClassTable) (p : Set) → 1 ≤ runs c range t p
runs-some c range t p = by (relations range p)
  where
    by : (rs : List ℕ) → 1 ≤ least_or_one (map (λ q. set_rows c range t (one q)) rs)
    by [] = omega arith
    by (r ∷ rs) = least-some (set_rows c range t (one r)) (λ q. set_rows c range t (one q)) rs (λ q. set-some c range t (one q)) (set-some c range t (one r))
