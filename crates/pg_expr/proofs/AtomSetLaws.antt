-- The operations on sets of words, by those on one word.
use Rattle.std.proofs.Common.{◌≡◌, ℕ, ◌*◌, ◌/◌, ◌%◌, ◌^◌, ◌<◌, Bool, true, false, ◌||◌, nat_eq, refl, sym, ◌∙◌, ap, arith, bit_or, bit_and, List, length, get_or, set, replicate, inl, inr, get_or-set_same, get_or-set_other}
use Rattle.std.proofs.lemmas.Bool.{cases_lt}
use Rattle.std.proofs.Math.ListN.{get_or-eq_default}
use Rattle.std.proofs.lemmas.List.{get_or-replicate}
use Rattle.std.proofs.lemmas.Bool.Decides.{nat_tests}
use Rattle.pg_base.specs.Sets.{has}
use Rattle.pg_expr.specs.work.AtomSets.{contains}
use Rattle.pg_base.proofs.SetLaws.{has-zero, has-or, has-shr, has-one_wide}
use Rattle.pg_base.proofs.NumberLemmas.{same-place as same_place}
use Rattle.pg_base.proofs.NumberLemmas.{other-place as other_place}

pub contains-shr : (words : List ℕ) (n w : ℕ) → w ≡ get_or words (n / 64) 0 → nat_eq (bit_and (w / 2 ^ (n % 64)) 1) 1 ≡ contains words n
unfolding contains
contains-shr words n w is = has-shr w (n % 64) ∙ ap (λ x. has x (n % 64)) is

zeros : (i : ℕ) → get_or {A = ℕ} (replicate 4 0) i 0 ≡ 0
zeros i = elim (cases_lt i 4) [ inl below ↦ get_or-replicate 4 i 0 0 below | inr above ↦ get_or-eq_default (replicate 4 0) 0 above ]

pub contains-zeros : (k : ℕ) → contains (replicate 4 0) k ≡ false
unfolding contains
contains-zeros k = ap (λ x. has x (k % 64)) (zeros (k / 64)) ∙ has-zero (k % 64)

or_false : (b c : Bool) → c ≡ false → b ≡ b || c
or_false true c e = refl
or_false false c e = sym e

module _ (words : List ℕ) (n k : ℕ) (lt : n / 64 < length words) where
  abbrev after : List ℕ
  after = set words (n / 64) (bit_or (get_or words (n / 64) 0) (1 * 2 ^ (n % 64) % 2 ^ 64))

  insert_same : k / 64 ≡ n / 64 → has (get_or after (k / 64) 0) (k % 64) ≡ has (get_or words (k / 64) 0) (k % 64) || nat_eq k n
  insert_same e = rw (e, get_or-set_same, has-or, has-one_wide 64 (n % 64) (k % 64) (omega arith), same_place k n e)

  insert_other : (k / 64 ≡ n / 64 → ⊥) → has (get_or after (k / 64) 0) (k % 64) ≡ has (get_or words (k / 64) 0) (k % 64) || nat_eq k n
  insert_other ne = rw (get_or-set_other) (or_false _ _ (other_place k n ne))

  pub contains-insert : contains after k ≡ contains words k || nat_eq k n
  unfolding contains
  contains-insert = elim (cases_lt (k / 64) (n / 64)) [
    | inl below ↦ insert_other (λ e. omega arith)
    | inr least ↦ elim (cases_lt (n / 64) (k / 64)) [ inl above ↦ insert_other (λ e. omega arith) | inr most ↦ insert_same (omega arith) ]
  ]

pub ruleset atom_sets = (contains-shr, contains-zeros, contains-insert)
