-- Values with their rows: what more of them, fewer, or new values change.
use Rattle.std.proofs.Common.{◌≡◌, ◌≢◌, ℕ, zero, suc, ◌<◌, ◌≤◌, Bool, true, false, cond, List, [], ◌∷◌, ◌++◌, length, map, take, drop, filter, set, get_or, refl, sym, ap, ap₂, ◌∙◌, arith, All}
use Rattle.std.specs.Prelude.{nat_lt}
use Rattle.std.specs.List.{insert, remove}
use Rattle.std.proofs.lemmas.List.{append_assoc, append-nil, map-append, take-append-drop, get_or_append_left, length-append, length-set, get_or_default}
use Rattle.std.proofs.lemmas.List.Concat.{flat_map-append}
use Rattle.std.proofs.lemmas.List.Elements.{All-head, All-tail, All-append, All-from_recursion, filter-append}
use Rattle.pg_base.specs.declared.numbers.Tid.{Tid}
use Rattle.pg_value.specs.declared.value.Value.{Value}
use Rattle.pg_value.specs.declared.value.Value.TheVariants.{Null}
use Rattle.hash_index.specs.work.Held.{Held}
use Rattle.hash_index.specs.work.Groups.{RowsOf, HasPut, below, blank, group_at, held_by, held_of, value_at, with_tid, without_at, without_tid}
use Rattle.hash_index.specs.work.Chains.{IsWider}

abbrev pub held : Value → Tid → Held
held v t = record { value = v; row = t.0 }

-- a row put in and taken out again
remove_insert : {X : Type 0} (xs : List X) (i : ℕ) (x : X) → i ≤ length xs → remove (insert xs i x) i ≡ xs
remove_insert xs zero x le = refl
remove_insert [] (suc i) x le = absurd (omega arith)
remove_insert (y ∷ xs) (suc i) x le = ap (λ l. y ∷ l) (remove_insert xs i x (omega arith))

pub put_out : (gs : List RowsOf) (s at : ℕ) (t : Tid) → s < length gs → at ≤ length (group_at gs s).tids → without_at s at (set gs s (with_tid at t (group_at gs s))) ≡ gs
put_out [] s at t lt le = absurd (omega arith)
put_out (g ∷ gs) zero at t lt le = ap (λ l. (record { value = g.value; tids = l }) ∷ gs) (remove_insert g.tids at t le)
put_out (g ∷ gs) (suc s) at t lt le = ap (λ l. g ∷ l) (put_out gs s at t (omega arith) le)

-- a row put in is one row more of all
pub put_held : (gs : List RowsOf) (s at : ℕ) (t : Tid) → s < length gs → HasPut (held (value_at gs s) t) (held_by gs) (held_by (set gs s (with_tid at t (group_at gs s))))
put_held [] s at t lt = absurd (omega arith)
put_held (g ∷ gs) zero at t lt = record {
  front = map (held g.value) (take at g.tids);
  back = map (held g.value) (drop at g.tids) ++ held_by gs;
  was = ap (λ l. l ++ held_by gs) (ap (map (held g.value)) (sym (take-append-drop at g.tids)) ∙ map-append (held g.value) (take at g.tids) (drop at g.tids)) ∙ append_assoc (map (held g.value) (take at g.tids)) (map (held g.value) (drop at g.tids)) (held_by gs);
  is = ap (λ l. l ++ held_by gs) (map-append (held g.value) (take at g.tids) (t ∷ drop at g.tids)) ∙ append_assoc (map (held g.value) (take at g.tids)) (held g.value t ∷ map (held g.value) (drop at g.tids)) (held_by gs);
}
put_held (g ∷ gs) (suc s) at t lt =
    let put = put_held gs s at t (omega arith) in
    record {
      front = held_of g ++ put.front;
      back = put.back;
      was = ap (λ l. held_of g ++ l) put.was ∙ sym (append_assoc (held_of g) put.front put.back);
      is = ap (λ l. held_of g ++ l) put.is ∙ sym (append_assoc (held_of g) put.front (held (value_at gs s) t ∷ put.back));
    }

pub put_as : (h h' : Held) (a a' b b' : List Held) → HasPut h a b → h' ≡ h → a' ≡ a → b' ≡ b → HasPut h' a' b'
put_as h h' a a' b b' put eh ea eb = record { front = put.front; back = put.back; was = ea ∙ put.was; is = eb ∙ put.is ∙ ap (λ x. put.front ++ x ∷ put.back) (sym eh) }

-- the value at a slot, as it is read
pub group_is : (gs : List RowsOf) (s : ℕ) (g : RowsOf) → s < length gs → g ≡ get_or gs s g → g ≡ group_at gs s
group_is gs s g lt read = read ∙ get_or_default gs s g blank lt

-- the values stay as they are
pub put_value : (gs : List RowsOf) (s at : ℕ) (t : Tid) (i : ℕ) → value_at (set gs s (with_tid at t (group_at gs s))) i ≡ value_at gs i
put_value [] s at t i = refl
put_value (g ∷ gs) zero at t zero = refl
put_value (g ∷ gs) zero at t (suc i) = refl
put_value (g ∷ gs) (suc s) at t zero = refl
put_value (g ∷ gs) (suc s) at t (suc i) = put_value gs s at t i

pub without_value : (gs : List RowsOf) (s at i : ℕ) → value_at (without_at s at gs) i ≡ value_at gs i
without_value [] s at i = refl
without_value (g ∷ gs) zero at zero = refl
without_value (g ∷ gs) zero at (suc i) = refl
without_value (g ∷ gs) (suc s) at zero = refl
without_value (g ∷ gs) (suc s) at (suc i) = without_value gs s at i

pub without_many : (gs : List RowsOf) (s at : ℕ) → length (without_at s at gs) ≡ length gs
without_many gs s at = length-set gs s (without_tid at (group_at gs s))

pub without_append : (gs more : List RowsOf) (s at : ℕ) → s < length gs → without_at s at (gs ++ more) ≡ without_at s at gs ++ more
without_append [] more s at lt = absurd (omega arith)
without_append (g ∷ gs) more zero at lt = refl
without_append (g ∷ gs) more (suc s) at lt = ap (λ l. g ∷ l) (without_append gs more s at (omega arith))

pub below_value : (rows : ℕ) (gs : List RowsOf) (i : ℕ) → value_at (map (below rows) gs) i ≡ value_at gs i
below_value rows [] i = refl
below_value rows (g ∷ gs) zero = refl
below_value rows (g ∷ gs) (suc i) = below_value rows gs i

-- the rows below a number, of each value and of all
below_of : (rows : ℕ) (v : Value) (ts : List Tid) → map (held v) (filter (λ (t : Tid). nat_lt t.0 rows) ts) ≡ filter (λ (h : Held). nat_lt h.row rows) (map (held v) ts)
below_of rows v [] = refl
below_of rows v (t ∷ ts) = by (nat_lt t.0 rows) (below_of rows v ts)
  where
    by : (b : Bool) → map (held v) (filter (λ (t : Tid). nat_lt t.0 rows) ts) ≡ filter (λ (h : Held). nat_lt h.row rows) (map (held v) ts) → map (held v) (cond b (t ∷ filter (λ (t : Tid). nat_lt t.0 rows) ts) (filter (λ (t : Tid). nat_lt t.0 rows) ts)) ≡ cond b (held v t ∷ filter (λ (h : Held). nat_lt h.row rows) (map (held v) ts)) (filter (λ (h : Held). nat_lt h.row rows) (map (held v) ts))
    by true more = ap (λ l. held v t ∷ l) more
    by false more = more

pub below_held : (rows : ℕ) (gs : List RowsOf) → held_by (map (below rows) gs) ≡ filter (λ (h : Held). nat_lt h.row rows) (held_by gs)
below_held rows [] = refl
below_held rows (g ∷ gs) = ap₂ (λ a b. a ++ b) (below_of rows g.value g.tids) (below_held rows gs) ∙ sym (filter-append (λ (h : Held). nat_lt h.row rows) (held_of g) (held_by gs))

-- values without rows hold nothing
held_empty : (gs : List RowsOf) → All (λ (g : RowsOf). g.tids ≡ []) gs → held_by gs ≡ []
held_empty [] h = refl
held_empty (g ∷ gs) h = ap₂ (λ a b. a ++ b) (ap (map (held g.value)) (All-head (λ (g : RowsOf). g.tids ≡ []) g gs h)) (held_empty gs (All-tail (λ (g : RowsOf). g.tids ≡ []) g gs h))

pub wider_held : (old new : List RowsOf) → IsWider old new → held_by new ≡ held_by old
wider_held old new w = ap held_by w.is ∙ flat_map-append held_of old w.more ∙ ap (λ l. held_by old ++ l) (held_empty w.more w.empty) ∙ append-nil (held_by old)

pub wider_many : (old new : List RowsOf) → IsWider old new → length old ≤ length new
wider_many old new w = omega (arith, ap (λ (l : List RowsOf). length l) w.is, length-append old w.more)

pub wider_same : (old new : List RowsOf) → new ≡ old → IsWider old new
wider_same old new e = record { more = []; is = e ∙ sym (append-nil old); empty = λ k d lt. absurd (omega arith) }

pub wider_on : (old mid new : List RowsOf) → IsWider old mid → IsWider mid new → IsWider old new
wider_on old mid new a b = record {
  more = a.more ++ b.more;
  is = b.is ∙ ap (λ l. l ++ b.more) a.is ∙ append_assoc old a.more b.more;
  empty = All-append (λ (g : RowsOf). g.tids ≡ []) a.more b.more a.empty b.empty;
}

pub wider_push : (old new : List RowsOf) (v : Value) → new ≡ old ++ (record { value = v; tids = [] }) ∷ [] → IsWider old new
wider_push old new v e = record { more = (record { value = v; tids = [] }) ∷ []; is = e; empty = All-from_recursion (λ (g : RowsOf). g.tids ≡ []) ((record { value = v; tids = [] }) ∷ []) (refl, tt) }

-- the value at a slot once there is one slot more
pub push_last : (gs : List RowsOf) (g : RowsOf) → group_at (gs ++ g ∷ []) (length gs) ≡ g
push_last [] g = refl
push_last (x ∷ gs) g = push_last gs g

pub push_kept : (gs more : List RowsOf) (s : ℕ) → s < length gs → value_at (gs ++ more) s ≡ value_at gs s
push_kept gs more s lt = ap (λ (g : RowsOf). g.value) (get_or_append_left gs more blank s lt)

pub push_null : (gs : List RowsOf) (s : ℕ) → value_at (gs ++ blank ∷ []) s ≡ value_at gs s
push_null [] zero = refl
push_null [] (suc s) = refl
push_null (g ∷ gs) zero = refl
push_null (g ∷ gs) (suc s) = push_null gs s

pub push_other : (gs : List RowsOf) (g : RowsOf) (s : ℕ) → s ≢ length gs → value_at (gs ++ g ∷ []) s ≡ value_at gs s
push_other [] g zero ne = absurd (ne refl)
push_other [] g (suc s) ne = refl
push_other (x ∷ gs) g zero ne = refl
push_other (x ∷ gs) g (suc s) ne = push_other gs g s (λ e. ne (ap suc e))

-- behind the last slot there is NULL alone
pub past_null : (gs : List RowsOf) (s : ℕ) → length gs ≤ s → value_at gs s ≡ Null
past_null [] s le = refl
past_null (g ∷ gs) zero le = absurd (omega arith)
past_null (g ∷ gs) (suc s) le = past_null gs s (omega arith)
