-- The different keys of tuples, each once, and the tuples that have one of them.
use Rattle.std.proofs.Common.{◌≡◌, Bool, true, false, not, cond, List, [], ◌∷◌, length, map, refl, sym, subst, ap, ◌∙◌, arith}
use Rattle.std.specs.Prelude.{filter}
use Rattle.std.specs.List.{AllByRecursion}
use Rattle.pg_value.specs.declared.value.Value.{Value}
use Rattle.plan_laws.proofs.PermLemmas.{Perm, none, keep, turn, join, Perm-filter, Perm-refl, Perm-same}
use Rattle.group_values.specs.Groups.{Seen, firsts, keys_of_group, same_keys}
use Rattle.group_values.proofs.GroupLemmas.{alike_equiv}
use Rattle.group_values.proofs.OrderLemmas.{same-is}
use Rattle.group_runs.proofs.LeastLemmas.{Perm-length}
use Rattle.pg_base.proofs.ListLemmas.{map-filter, filters-swapped}

abbrev pub Keys : Type 0
Keys = List Value

abbrev pub other_than : Keys → Keys → Bool
other_than k l = not (same_keys k l)

-- each once, in order
abbrev pub once : List Keys → List Keys
once [] = []
once (k ∷ ks) = k ∷ filter (other_than k) (once ks)

-- the keys of the first of each group are the keys of all, each once
pub keys-of-firsts : (ss : List Seen) → map (λ (s : Seen). s.keys) (firsts ss) ≡ once (map (λ (s : Seen). s.keys) ss)
keys-of-firsts [] = refl
keys-of-firsts (s ∷ ss) = ap (λ l. s.keys ∷ l) (map-filter (λ (t : Seen). t.keys) (other_than s.keys) (firsts ss) ∙ ap (filter (other_than s.keys)) (keys-of-firsts ss))

same-back : (k l : Keys) → same_keys k l ≡ same_keys l k
same-back k l = alike_equiv.symm (record { keys = k; args = [] }) (record { keys = l; args = [] })

turned : (k l : Keys) (ks : List Keys) (b : Bool) → same_keys k l ≡ b → Perm (once (k ∷ l ∷ ks)) (once (l ∷ k ∷ ks))
turned k l ks true e = subst (λ m. Perm (once (k ∷ m ∷ ks)) (once (m ∷ k ∷ ks))) (same-is k l e) (Perm-refl (once (k ∷ k ∷ ks)))
turned k l ks false e =
    let d = once ks in
    let here : once (k ∷ l ∷ ks) ≡ k ∷ l ∷ filter (other_than k) (filter (other_than l) d) =
    ap (λ b. k ∷ cond (not b) (l ∷ filter (other_than k) (filter (other_than l) d)) (filter (other_than k) (filter (other_than l) d))) e in
    let there : once (l ∷ k ∷ ks) ≡ l ∷ k ∷ filter (other_than k) (filter (other_than l) d) =
    ap (λ b. l ∷ cond (not b) (k ∷ filter (other_than l) (filter (other_than k) d)) (filter (other_than l) (filter (other_than k) d))) (same-back l k ∙ e)
    ∙ ap (λ r. l ∷ k ∷ r) (filters-swapped (other_than l) (other_than k) d) in
    let r = filter (other_than k) (filter (other_than l) d) in
    join (once (k ∷ l ∷ ks)) (k ∷ l ∷ r) (once (l ∷ k ∷ ks)) (Perm-same (once (k ∷ l ∷ ks)) (k ∷ l ∷ r) here)
    (join (k ∷ l ∷ r) (l ∷ k ∷ r) (once (l ∷ k ∷ ks)) (turn k l r) (Perm-same (l ∷ k ∷ r) (once (l ∷ k ∷ ks)) (sym there)))

pub once-moved : (ks ls : List Keys) → Perm ks ls → Perm (once ks) (once ls)
once-moved _ _ none = none
once-moved _ _ (keep k ks ls p) = keep k (filter (other_than k) (once ks)) (filter (other_than k) (once ls)) (Perm-filter (other_than k) (once ks) (once ls) (once-moved ks ls p))
once-moved _ _ (turn k l ks) = turned k l ks (same_keys k l) refl
once-moved _ _ (join ks ls ms p q) = join (once ks) (once ls) (once ms) (once-moved ks ls p) (once-moved ls ms q)

-- the tuples with some keys, all of them the same
abbrev pub with_keys : Keys → List Seen → List Seen
with_keys k ss = filter (λ (t : Seen). same_keys k t.keys) ss

all-have : (k : Keys) (ss : List Seen) → AllByRecursion (λ (t : Seen). t.keys ≡ k) (with_keys k ss)
all-have k [] = tt
all-have k (s ∷ ss) = by (same_keys k s.keys) refl (all-have k ss)
  where
    by : (b : Bool) → same_keys k s.keys ≡ b → AllByRecursion (λ (t : Seen). t.keys ≡ k) (with_keys k ss) → AllByRecursion (λ (t : Seen). t.keys ≡ k) (cond b (s ∷ with_keys k ss) (with_keys k ss))
    by true e more = (sym (same-is k s.keys e), more)
    by false e more = more

-- lists of as many tuples with the same keys
same-first : (k : Keys) (ss ts : List Seen) → AllByRecursion (λ (t : Seen). t.keys ≡ k) ss → AllByRecursion (λ (t : Seen). t.keys ≡ k) ts → length ss ≡ length ts → keys_of_group ss ≡ keys_of_group ts
same-first k [] [] p q e = refl
same-first k [] (t ∷ ts) p q e = absurd (omega (arith, e))
same-first k (s ∷ ss) [] p q e = absurd (omega (arith, e))
same-first k (s ∷ ss) (t ∷ ts) p q e = p.0 ∙ sym q.0

pub keys-moved : (k : Keys) (ss ts : List Seen) → Perm ss ts → keys_of_group (with_keys k ss) ≡ keys_of_group (with_keys k ts)
keys-moved k ss ts p =
    same-first k (with_keys k ss) (with_keys k ts) (all-have k ss) (all-have k ts) (Perm-length (with_keys k ss) (with_keys k ts) (Perm-filter (λ (t : Seen). same_keys k t.keys) ss ts p))
