-- Tuples drawn up to a limit, and what is fetched for them.
use Rattle.std.proofs.Common.{◌≡◌, ◌≤◌, ◌<◌, ◌+◌, ◌-◌, ◌*◌, ℕ, zero, suc, Bool, true, false, cond, nat_eq, nat_lt, List, [], ◌∷◌, ◌++◌, length, filter, drop, Option, Some, None, IfSome, refl, sym, ap, ◌∙◌, length-append, arith}
use Rattle.std.proofs.Math.ListN.{drop_of_length-le}
use Rattle.std.proofs.Math.Numerals.{add-one}
use Rattle.std.proofs.lemmas.Bool.Decides.{nat_tests}
use Rattle.std.proofs.lemmas.List.{drop-drop, length-drop}
use Rattle.std.proofs.lemmas.List.Elements.{filter-append}
use Rattle.executor.specs.scan_exec_Coming.{Coming, is_given, owed}
use Rattle.executor.specs.scan_exec_work_Coming.{behind}
use Rattle.sql_query.specs.Meaning.{up_to, windowed}
use Rattle.sql_query.specs.Tuples.{Tuple}
use Rattle.sql_query.specs.declared.window.Window.{Window}
use Rattle.executor.specs.work.Reading.{Reading}
use Rattle.reply.specs.work.Drawing.{Draws, drawn_by, past}
use Rattle.reply.specs.Effort.{HasRisen, exactly, fetched_by, fetched_for_all, fetched_for_first, fetched_for_none, fetched_to, last_by, limit_in, looked_by, offset_in, through}

module _ {A : Type 0} (test : A → Bool) where
  past_none : (n : ℕ) → past test n [] ≡ []
  past_none zero = refl
  past_none (suc n) = past_none n

  -- a list is what stands up to and with the n-th that passes, and what stands behind it
  through_past : (n : ℕ) (xs : List A) → through test n xs ++ past test n xs ≡ xs
  through_past zero xs = refl
  through_past (suc n) [] = past_none n
  through_past (suc n) (x ∷ xs) = by (test x) (through_past n xs) (through_past (suc n) xs)
    where
      by : (b : Bool) → through test n xs ++ past test n xs ≡ xs → through test (suc n) xs ++ past test (suc n) xs ≡ xs → x ∷ (through test (cond b n (suc n)) xs ++ past test n (cond b xs (behind test xs))) ≡ x ∷ xs
      by true first second = ap (λ (l : List A). x ∷ l) first
      by false first second = ap (λ (l : List A). x ∷ l) second

  past_suc : (n : ℕ) (xs : List A) → past test (suc n) xs ≡ behind test (past test n xs)
  past_suc zero xs = refl
  past_suc (suc n) xs = past_suc n (behind test xs)

  past_more : (n : ℕ) (xs : List A) → past test (n + 1) xs ≡ behind test (past test n xs)
  past_more n xs = ap (λ (k : ℕ). past test k xs) (add-one n) ∙ past_suc n xs

  past_past : (n m : ℕ) (xs : List A) → past test m (past test n xs) ≡ past test (n + m) xs
  past_past zero m xs = let e : m ≡ zero + m = omega arith in ap (λ (k : ℕ). past test k xs) e
  past_past (suc n) m xs = let e : suc (n + m) ≡ suc n + m = omega arith in past_past n m (behind test xs) ∙ ap (λ (k : ℕ). past test k xs) e

-- what is fetched for the first ones, and for those behind them
owed_parts : (n : ℕ) (cs : List Coming) → owed (through is_given n cs) + owed (past is_given n cs) ≡ owed cs
owed_parts n cs =
    let fetched : Coming → Bool = λ c. c.fetched in
    sym (length-append (filter fetched (through is_given n cs)) (filter fetched (past is_given n cs)))
    ∙ ap (λ (l : List Coming). length l) (sym (filter-append fetched (through is_given n cs) (past is_given n cs)))
    ∙ ap owed (through_past is_given n cs)

-- the first of those that are left behind n
module _ (n : ℕ) (ts rest : List Tuple) (t : Tuple) (left : drop n ts ≡ t ∷ rest) where
  drop_next : rest ≡ drop (n + 1) ts
  drop_next = sym (ap (drop 1) left) ∙ drop-drop 1 n ts

  drop_some : n < length ts
  drop_some = omega (arith, length-drop n ts, ap (λ (l : List Tuple). length l) left)

drop_ended : (n : ℕ) (ts : List Tuple) → drop n ts ≡ [] → length ts ≤ n
drop_ended n ts none = omega (arith, length-drop n ts, ap (λ (l : List Tuple). length l) none)

-- no tuple is drawn
pub draws_none : (r : Reading) (f : ℕ) → Draws 0 r r f f
draws_none r f = record {
  left = refl;
  one = refl;
  none = λ is. (refl, refl);
  ended = λ few. absurd (omega (arith, few));
  exact = refl;
  rise = omega arith;
  opened = λ some. absurd (omega (arith, some));
  coming = λ some. refl;
  paced = λ is. refl;
}

-- one tuple is drawn behind n others, or none is left
module _ (n : ℕ) (first now later : Reading) (f f' f'' : ℕ) (is : Draws n first now f f') (one : later.one ≡ now.one) (exact : f'' + later.owed ≡ f' + now.owed) (opened : f' + now.opening ≤ f'')
    (paced : now.one ≡ true → f'' + owed later.coming ≡ f' + owed now.coming) where
  paced_on : first.one ≡ true → f'' + owed later.coming ≡ f + owed first.coming
  paced_on is_one = omega (arith, paced (is.one ∙ is_one), is.paced is_one)

  rise_on : f ≤ f''
  rise_on = omega (arith, opened, is.rise)

  opened_on : f + first.opening ≤ f''
  opened_on = by (nat_eq n 0) refl
    where
      by : (b : Bool) → nat_eq n 0 ≡ b → f + first.opening ≤ f''
      by true e =
          let none : n ≡ 0 = grind (arith, nat_tests) in
          let same : now.opening ≡ first.opening = ap (λ (r : Reading). r.opening) (is.none none).0 in
          let fetched : f' ≡ f = (is.none none).1 in
          omega (arith, opened, same, fetched)
      by false e =
          let some : 0 < n = grind (arith, nat_tests) in
          let before : f + first.opening ≤ f' = is.opened some in
          omega (arith, opened, before)

  module _ (t : Tuple) (left : now.left ≡ t ∷ later.left) where
    pub enough : n + 1 ≤ length first.left
    enough = omega (arith, drop_some n first.left later.left t (sym is.left ∙ left))

    pub draws_more : later.coming ≡ behind is_given now.coming → Draws (n + 1) first later f f''
    draws_more coming = record {
      left = drop_next n first.left later.left t (sym is.left ∙ left);
      one = one ∙ is.one;
      none = λ none. absurd (omega (arith, none));
      ended = λ few. absurd (omega (arith, few, enough));
      exact = omega (arith, exact, is.exact);
      rise = rise_on;
      opened = λ some. opened_on;
      coming = λ some. coming ∙ ap (behind is_given) (is.coming (omega (arith, enough))) ∙ sym (past_more is_given n first.coming);
      paced = paced_on;
    }

  module _ (none : now.left ≡ []) where
    pub all_drawn : length first.left ≤ n
    all_drawn = drop_ended n first.left (sym is.left ∙ none)

    pub draws_ended : (m : ℕ) → n < m → later.left ≡ [] → later.owed ≡ 0 → Draws m first later f f''
    draws_ended m less left owed = record {
      left = left ∙ sym (drop_of_length-le first.left (omega (arith, less, all_drawn)));
      one = one ∙ is.one;
      none = λ is. absurd (omega (arith, less, is));
      ended = λ few. owed;
      exact = omega (arith, exact, is.exact);
      rise = rise_on;
      opened = λ some. opened_on;
      coming = λ some. absurd (omega (arith, some, less, all_drawn));
      paced = paced_on;
    }

-- some tuples are drawn, and others behind them
module _ (n m : ℕ) (first mid now : Reading) (f f' f'' : ℕ) (is : Draws n first mid f f') (more : Draws m mid now f' f'') where
  behind_them : length mid.left ≡ length first.left - n
  behind_them = ap (λ (l : List Tuple). length l) is.left ∙ length-drop n first.left

  ended_then : length first.left < n + m → now.owed ≡ 0
  ended_then few = by (nat_eq m 0) refl
    where
      by : (b : Bool) → nat_eq m 0 ≡ b → now.owed ≡ 0
      by true e =
          let m_is : m ≡ 0 = grind (arith, nat_tests) in
          ap (λ (r : Reading). r.owed) (more.none m_is).0 ∙ is.ended (omega (arith, few, m_is))
      by false e =
          let some : 0 < m = grind (arith, nat_tests) in
          more.ended (omega (arith, few, some, behind_them))

  none_then : n + m ≡ 0 → (now ≡ first) × (f'' ≡ f)
  none_then none =
      let one = is.none (omega (arith, none)) in
      let two = more.none (omega (arith, none)) in
      (two.0 ∙ one.0, two.1 ∙ one.1)

  opened_then : 0 < n + m → f + first.opening ≤ f''
  opened_then some = by (nat_eq n 0) refl
    where
      by : (b : Bool) → nat_eq n 0 ≡ b → f + first.opening ≤ f''
      by true e =
          let none : n ≡ 0 = grind (arith, nat_tests) in
          let same : mid.opening ≡ first.opening = ap (λ (r : Reading). r.opening) (is.none none).0 in
          let fetched : f' ≡ f = (is.none none).1 in
          let behind : f' + mid.opening ≤ f'' = more.opened (omega (arith, some, none)) in
          omega (arith, behind, same, fetched)
      by false e =
          let few : 0 < n = grind (arith, nat_tests) in
          let before : f + first.opening ≤ f' = is.opened few in
          omega (arith, before, more.rise)

  pub draws_then : Draws (n + m) first now f f''
  draws_then = record {
    left = more.left ∙ ap (drop m) is.left ∙ drop-drop m n first.left;
    one = more.one ∙ is.one;
    none = none_then;
    ended = ended_then;
    exact = omega (arith, more.exact, is.exact);
    rise = omega (arith, is.rise, more.rise);
    opened = opened_then;
    coming = λ some. more.coming (omega (arith, some, behind_them)) ∙ ap (past is_given m) (is.coming (omega (arith, some))) ∙ past_past is_given n m first.coming;
    paced = λ is_one. omega (arith, more.paced (is.one ∙ is_one), is.paced is_one);
  }

-- what is fetched for tuples up to the n-th
module _ (n : ℕ) (first now : Reading) (f f' : ℕ) (is : Draws n first now f f') where
  of_scan : first.one ≡ true → n ≤ length first.left → f' ≡ f + owed (through is_given n first.coming)
  of_scan is_one some = omega (arith, is.paced is_one, ap owed (is.coming some), owed_parts n first.coming)

  scan_is : (c : Bool) → first.one ≡ c → n ≤ length first.left → IfSome (cond c (Some (owed (through is_given n first.coming))) None) (λ k. f' ≡ f + k)
  scan_is true is_one some = of_scan is_one some
  scan_is false is_one some = tt

  pub risen_to : HasRisen (fetched_to n (length first.left) first.owed first.opening first.one first.coming) f f'
  risen_to = by (nat_eq n 0) (nat_lt (length first.left) n) refl refl
    where
      by : (a b : Bool) → nat_eq n 0 ≡ a → nat_lt (length first.left) n ≡ b →
          HasRisen (cond a fetched_for_none (cond b (fetched_for_all first.owed) (fetched_for_first n first.owed first.opening first.one first.coming))) f f'
      by true b e few =
          let same : f' ≡ f = (is.none (grind (arith, nat_tests))).1 in
          record { above = omega (arith, same); within = omega (arith, same); exact = omega (arith, same) }
      by false true e few =
          let all : f' ≡ f + first.owed = omega (arith, is.exact, is.ended (grind (arith, nat_tests))) in
          record { above = omega (arith, all); within = omega (arith, all); exact = all }
      by false false e few =
          let some : 0 < n = grind (arith, nat_tests) in
          let there : n ≤ length first.left = grind (arith, nat_tests) in
          record { above = is.opened some; within = omega (arith, is.exact); exact = scan_is first.one refl there }

-- without LIMIT all are drawn
pub risen_all : (n : ℕ) (first now : Reading) (f f' : ℕ) → Draws n first now f f' → length first.left < n → HasRisen (exactly first.owed) f f'
risen_all n first now f f' is few = let e : f' ≡ f + first.owed = omega (arith, is.exact, is.ended few) in record { above = omega (arith, e); within = omega (arith, e); exact = e }

-- what is fetched behind the tuples passed over, up to the last one that is drawn
pub risen_by : (limit : Option ℕ) (offset : ℕ) (first mid now : Reading) (f f' f'' : ℕ) → Draws offset first mid f f' → Draws (drawn_by limit mid.left) mid now f' f''
    → HasRisen (fetched_by (last_by offset limit) (length first.left) first.owed first.opening first.one first.coming) f f''
risen_by None offset first mid now f f' f'' passed shown =
    risen_all (offset + (length mid.left + 1)) first now f f'' (draws_then offset (length mid.left + 1) first mid now f f' f'' passed shown)
    (omega (arith, behind_them offset (length mid.left + 1) first mid now f f' f'' passed shown))
risen_by (Some n) offset first mid now f f' f'' passed shown = risen_to (offset + n) first now f f'' (draws_then offset n first mid now f f' f'' passed shown)

-- no more is fetched, nor looked at, than in all, and nothing for no tuple
pub few_by : (limit : Option ℕ) (offset : ℕ) (first : Reading) (f f' : ℕ) → f' ≤ f + first.owed → (limit ≡ Some 0 → offset ≡ 0 → f' ≡ f)
    → f' ≤ f + (fetched_by (last_by offset limit) (length first.left) first.owed first.opening first.one first.coming).most
few_by None offset first f f' most none = most
few_by (Some n) offset first f f' most none = by (nat_eq (offset + n) 0) (nat_lt (length first.left) (offset + n)) refl
  where
    by : (a b : Bool) → nat_eq (offset + n) 0 ≡ a
        → f' ≤ f + (cond a fetched_for_none (cond b (fetched_for_all first.owed) (fetched_for_first (offset + n) first.owed first.opening first.one first.coming))).most
    by true b e =
        let n_is : n ≡ 0 = grind (arith, nat_tests) in
        let offset_is : offset ≡ 0 = grind (arith, nat_tests) in
        omega (arith, none (ap (λ (k : ℕ). Some k) n_is) offset_is)
    by false true e = most
    by false false e = most

pub looked_few : (limit : Option ℕ) (offset all shown l l' : ℕ) → l' ≤ l + (all + 32 * shown) → (limit ≡ Some 0 → offset ≡ 0 → l' ≡ l)
    → l' ≤ l + looked_by (last_by offset limit) all shown
looked_few None offset all shown l l' most none = most
looked_few (Some n) offset all shown l l' most none = by (nat_eq (offset + n) 0) refl
  where
    by : (b : Bool) → nat_eq (offset + n) 0 ≡ b → l' ≤ l + cond b 0 (all + 32 * shown)
    by true e =
        let n_is : n ≡ 0 = grind (arith, nat_tests) in
        let offset_is : offset ≡ 0 = grind (arith, nat_tests) in
        omega (arith, none (ap (λ (k : ℕ). Some k) n_is) offset_is)
    by false e = most

-- the window of a list, by what is left behind its offset
pub windowed_is : (w : Option Window) (ts left : List Tuple) → left ≡ drop (offset_in w) ts → up_to (limit_in w) left ≡ windowed w ts
windowed_is None ts left same = same
windowed_is (Some w) ts left same = ap (up_to w.limit) same
