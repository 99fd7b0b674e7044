-- Tuples that were sorted and kept.
use Rattle.std.proofs.Common.{◌≡◌, ℕ, ◌+◌, ◌*◌, ◌≤◌, List, ◌∷◌, drop, Some, ap, ◌∙◌, arith}
use Rattle.std.specs.Prelude.{slice_get}
use Rattle.std.proofs.Math.Nat.{mul-le-mul_right}
use Rattle.std.proofs.lemmas.List.{drop_more}
use Rattle.std.proofs.lemmas.Option.{get_or_from_slice_get, slice_get_within}
use Rattle.pg_base.specs.Sets.{has}
use Rattle.pg_base.specs.declared.rel_set.RelSet.{RelSet}
use Rattle.heap.specs.Tuples.{relation_count}
use Rattle.heap.proofs.RankLemmas.{rank-most}

-- one tuple further
pub next_kept : {A : Type 0} (rows : List A) (at : ℕ) (row : A) → slice_get rows at ≡ Some row → drop at rows ≡ row ∷ drop (at + 1) rows
next_kept rows at row is =
    drop_more rows at row (slice_get_within rows at row is) ∙ ap (λ r. r ∷ drop (at + 1) rows) (get_or_from_slice_get rows at row row is)

-- a tuple has at most 16 relations
pub few_looks : (s : RelSet) (n before after : ℕ) → after ≤ before + relation_count s * n → after ≤ before + 32 * n
few_looks s n before after le =
    let most = rank-most (has s.0) 16 in
    let times : relation_count s * n ≤ 32 * n = mul-le-mul_right n (omega (arith, most)) in
    omega (arith, le, times)
