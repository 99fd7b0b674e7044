-- What calls give, with one more tuple.
use Rattle.std.proofs.Common.{◌≡◌, ℕ, zero, suc, ◌+◌, Bool, true, false, cond, List, [], ◌∷◌, ◌++◌, length, map, drop, take, get_or, pos, refl, sym, ap, ap₂, ◌∙◌, append-nil, arith}
use Rattle.std.specs.Prelude.{filter, ◌+ℤ◌}
use Rattle.std.proofs.lemmas.Bool.{false≢true}
use Rattle.std.proofs.lemmas.List.{length-append, map-append}
use Rattle.std.proofs.lemmas.List.Elements.{filter-append}
use Rattle.pg_value.specs.declared.value.Value.{Value}
use Rattle.pg_value.specs.declared.value.Value.TheVariants.{Null, Int, Bool as Flag, Text as String}
use Rattle.pg_value.specs.Kinds.{directed_order}
use Rattle.pg_value.specs.Sorting.{in_order}
use Rattle.pg_value.proofs.KindLemmas.{directed_total}
use Rattle.group_values.specs.declared.shape.Call.{Call}
use Rattle.group_values.specs.declared.shape.Call.TheVariants.{CountAll, Count, Min, Max}
use Rattle.group_values.specs.Groups.{Seen, all_called, values_of_call, called, first_or_null, is_known, count_value}
use Rattle.group_values.specs.work.Steps.{blank, can_rise, first_of, has_room, have_room, risen, with_args, with_one}
use Rattle.group_values.proofs.LeastLemmas.{first-more}
use Rattle.group_values.proofs.OrderLemmas.{both-true}

abbrev arg : ℕ → Seen → Value
arg n s = get_or s.args n Null

args-more : (n : ℕ) (ss : List Seen) (s : Seen) (b : Bool) → is_known (arg n s) ≡ b → values_of_call n (ss ++ s ∷ []) ≡ values_of_call n ss ++ cond b (arg n s ∷ []) []
args-more n ss s b e =
    ap (filter is_known) (map-append (arg n) ss (s ∷ []))
    ∙ filter-append is_known (map (arg n) ss) (arg n s ∷ [])
    ∙ ap (λ c. filter is_known (map (arg n) ss) ++ cond c (arg n s ∷ []) []) e

risen-is : (k l : ℕ) → l ≡ k + 1 → can_rise (count_value k) ≡ true → risen (count_value k) ≡ count_value l
risen-is k l e h = ap (λ b. cond b (Int (pos k +ℤ pos 1)) (Int (pos k))) h ∙ ap count_value (sym e)

-- a value that is known stands before NULL, and NULL leaves what there is
known-first : (d : Bool) (w : Value) → is_known w ≡ true → first_of d Null w ≡ w
known-first d Null e = absurd (false≢true e)
known-first d (Int n) e = refl
known-first d (Flag b) e = refl
known-first d (String t) e = refl

null-last : (d : Bool) (v w : Value) → is_known w ≡ false → first_of d v w ≡ v
null-last d Null Null e = refl
null-last d (Int n) Null e = refl
null-last d (Flag b) Null e = refl
null-last d (String t) Null e = refl
null-last d v (Int n) e = absurd (false≢true (sym e))
null-last d v (Flag b) e = absurd (false≢true (sym e))
null-last d v (String t) e = absurd (false≢true (sym e))

first-kept : (d : Bool) (vs : List Value) (w : Value) → is_known w ≡ true → first_of d (first_or_null (in_order (directed_order d false) vs)) w ≡ first_or_null (in_order (directed_order d false) (vs ++ w ∷ []))
first-kept d [] w e = known-first d w e
first-kept d (v ∷ vs) w e = sym (first-more (directed_order d false) (directed_total d false) (v ∷ vs) w)

least-more : (d : Bool) (n : ℕ) (ss : List Seen) (s : Seen) → first_of d (first_or_null (in_order (directed_order d false) (values_of_call n ss))) (arg n s) ≡ first_or_null (in_order (directed_order d false) (values_of_call n (ss ++ s ∷ [])))
least-more d n ss s = by (is_known (arg n s)) refl
  where
    by : (b : Bool) → is_known (arg n s) ≡ b → first_of d (first_or_null (in_order (directed_order d false) (values_of_call n ss))) (arg n s) ≡ first_or_null (in_order (directed_order d false) (values_of_call n (ss ++ s ∷ [])))
    by true e = first-kept d (values_of_call n ss) (arg n s) e ∙ sym (ap (λ vs. first_or_null (in_order (directed_order d false) vs)) (args-more n ss s true e))
    by false e =
        null-last d (first_or_null (in_order (directed_order d false) (values_of_call n ss))) (arg n s) e
        ∙ sym (ap (λ vs. first_or_null (in_order (directed_order d false) vs)) (args-more n ss s false e ∙ append-nil (values_of_call n ss)))

count-more : (n : ℕ) (ss : List Seen) (s : Seen) → can_rise (count_value (length (values_of_call n ss))) ≡ true → with_one Count (count_value (length (values_of_call n ss))) (arg n s) ≡ count_value (length (values_of_call n (ss ++ s ∷ [])))
count-more n ss s h = by (is_known (arg n s)) refl
  where
    by : (b : Bool) → is_known (arg n s) ≡ b → with_one Count (count_value (length (values_of_call n ss))) (arg n s) ≡ count_value (length (values_of_call n (ss ++ s ∷ [])))
    by true e =
        ap (λ b. cond b (risen (count_value (length (values_of_call n ss)))) (count_value (length (values_of_call n ss)))) e
        ∙ risen-is (length (values_of_call n ss)) (length (values_of_call n (ss ++ s ∷ []))) (ap (λ (l : List Value). length l) (args-more n ss s true e) ∙ length-append (values_of_call n ss) (arg n s ∷ [])) h
    by false e =
        ap (λ b. cond b (risen (count_value (length (values_of_call n ss)))) (count_value (length (values_of_call n ss)))) e
        ∙ sym (ap (λ (l : List Value). count_value (length l)) (args-more n ss s false e ∙ append-nil (values_of_call n ss)))

pub called-more : (c : Call) (n : ℕ) (ss : List Seen) (s : Seen) → has_room c (called c n ss) ≡ true → with_one c (called c n ss) (arg n s) ≡ called c n (ss ++ s ∷ [])
called-more CountAll n ss s h = risen-is (length ss) (length (ss ++ s ∷ [])) (length-append ss (s ∷ [])) h
called-more Count n ss s h = count-more n ss s h
called-more Min n ss s h = least-more false n ss s
called-more Max n ss s h = least-more true n ss s

drop-head : (n : ℕ) (xs ys : List Value) (w d : Value) → w ∷ ys ≡ drop n xs → (w ≡ get_or xs n d) × (ys ≡ drop (suc n) xs)
drop-head zero [] ys w d e = absurd (no e)
  where
    no : w ∷ ys ≡ [] → ⊥
    no e = cc
drop-head zero (x ∷ xs) ys w d e = (cc, cc)
drop-head (suc n) [] ys w d e = absurd (no e)
  where
    no : w ∷ ys ≡ [] → ⊥
    no e = cc
drop-head (suc n) (x ∷ xs) ys w d e = drop-head n xs ys w d e

all-more : (calls : List Call) (n : ℕ) (ss : List Seen) (s : Seen) (ws : List Value) → ws ≡ drop n s.args → length ws ≡ length calls → have_room calls (all_called n calls ss) ≡ true
    → with_args calls (all_called n calls ss) ws ≡ all_called n calls (ss ++ s ∷ [])
all-more [] n ss s ws e m h = refl
all-more (c ∷ cs) n ss s [] e m h = absurd (omega (arith, m))
all-more (c ∷ cs) n ss s (w ∷ ws) e m h =
    let at = drop-head n s.args ws w Null e in
    let room = both-true (has_room c (called c n ss)) (have_room cs (all_called (suc n) cs ss)) h in
    ap₂ (λ v vs. v ∷ vs) (ap (with_one c (called c n ss)) at.0 ∙ called-more c n ss s room.0) (all-more cs (suc n) ss s ws at.1 (omega (arith, m)) room.1)

pub calls-more : (calls : List Call) (ss : List Seen) (s : Seen) → length s.args ≡ length calls → have_room calls (all_called 0 calls ss) ≡ true → with_args calls (all_called 0 calls ss) s.args ≡ all_called 0 calls (ss ++ s ∷ [])
calls-more calls ss s m h = all-more calls 0 ss s s.args refl m h

pub none-called : (calls : List Call) (n : ℕ) → all_called n calls [] ≡ map blank calls
none-called [] n = refl
none-called (CountAll ∷ cs) n = ap (λ vs. blank CountAll ∷ vs) (none-called cs (suc n))
none-called (Count ∷ cs) n = ap (λ vs. blank Count ∷ vs) (none-called cs (suc n))
none-called (Min ∷ cs) n = ap (λ vs. blank Min ∷ vs) (none-called cs (suc n))
none-called (Max ∷ cs) n = ap (λ vs. blank Max ∷ vs) (none-called cs (suc n))

pub blank-room : (calls : List Call) → have_room calls (map blank calls) ≡ true
blank-room [] = refl
blank-room (CountAll ∷ cs) = blank-room cs
blank-room (Count ∷ cs) = blank-room cs
blank-room (Min ∷ cs) = blank-room cs
blank-room (Max ∷ cs) = blank-room cs

pub called-many : (calls : List Call) (n : ℕ) (ss : List Seen) → length (all_called n calls ss) ≡ length calls
called-many [] n ss = refl
called-many (c ∷ cs) n ss = ap suc (called-many cs (suc n) ss)

pub with-many : (calls : List Call) (vs ws : List Value) → length vs ≡ length calls → length ws ≡ length calls → length (with_args calls vs ws) ≡ length calls
with-many [] vs ws m l = refl
with-many (c ∷ cs) [] ws m l = absurd (omega (arith, m))
with-many (c ∷ cs) (v ∷ vs) [] m l = absurd (omega (arith, l))
with-many (c ∷ cs) (v ∷ vs) (w ∷ ws) m l = ap suc (with-many cs vs ws (omega (arith, m)) (omega (arith, l)))

-- calls with the values of one more tuple, as far as they are taken in
pub record IsJoined (cs : List Call) (first firstargs now args : List Value) (n : ℕ) : Type 0 where
  pub many : length now ≡ length first
  pub rest : drop n now ≡ drop n first
  pub rest_args : drop n args ≡ drop n firstargs
  pub done : take n now ++ with_args (drop n cs) (drop n first) (drop n firstargs) ≡ with_args cs first firstargs
