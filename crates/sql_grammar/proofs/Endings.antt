-- An item that takes a statement's end stays the last one of the stack.
use Rattle.std.proofs.Common.{◌≡◌, ℕ, Bool, true, false, ◌&&◌, not, List, [], ◌∷◌, ◌++◌, Option, Some, None, refl, subst, append-nil, cond, nat_le}
use Rattle.std.proofs.lemmas.Bool.{and_parts}
use Rattle.sql_grammar.specs.declared.class.Class.{Class}
use Rattle.sql_grammar.specs.declared.table.Item.{Item}
use Rattle.sql_grammar.specs.declared.table.Item.TheVariants.{Whole}
use Rattle.sql_grammar.specs.work.Table.{Expansion, takes_of, is_optional, takes_end, is_ending}
use Rattle.sql_grammar.specs.work.Machine.{depth_of, opens, by_row, step_of, may_end, is_empty, is_closed}
use Rattle.sql_grammar.proofs.RoomTests.{row_test}
use Rattle.sql_grammar.proofs.Room.{row-room}

-- computed for each item
ends-or-optional : (i : Item) → is_optional i && takes_end i ≡ false
ends-or-optional Whole = refl
ends-or-optional _ = refl

not-both : (o e : Bool) → o && e ≡ false → o ≡ true → e ≡ false
not-both true e none is = none
not-both false e none is = absurd (cc)

nor-both : (o e : Bool) → o && e ≡ false → e ≡ true → o ≡ false
nor-both true e none is = absurd (cc)
nor-both false e none is = refl

optional-inner : (i : Item) → is_optional i ≡ true → takes_end i ≡ false
optional-inner i = not-both (is_optional i) (takes_end i) (ends-or-optional i)

-- without such an item in front the stack's end is what counts
inner-parts : (b x : Bool) → cond b false x ≡ true → (b ≡ false) × (x ≡ true)
inner-parts true x e = absurd (cc)
inner-parts false x e = (refl, e)

closed-append : (none last : Bool) (is s : List Item) → is_closed true false is ≡ true → is_closed none last s ≡ true → is_closed none last (is ++ s) ≡ true
closed-append none last [] s a b = b
closed-append none last (i ∷ is) s a b =
    let parts = inner-parts (takes_end i) (is_closed true false is) a in
    rw (parts.0) (closed-append none last is s parts.1 b)

closed-either : (none b : Bool) (x y z : Bool) → (y ≡ true → z ≡ true) → cond b x y ≡ true → cond b x z ≡ true
closed-either none true x y z h e = e
closed-either none false x y z h e = h e

closed-more : (none : Bool) (s : List Item) → is_closed false true s ≡ true → is_closed none true s ≡ true
closed-more none [] e = absurd (cc)
closed-more none (i ∷ s) e = closed-either none (takes_end i) (is_empty s) (is_closed false true s) (is_closed none true s) (closed-more none s) e

-- what a stack is after a terminal of the class
pub record Closed (none last : Bool) (t : Class) (n : List Item) : Type 0 where
  pub at_end : is_ending t ≡ true → (n ≡ []) × (last ≡ true)
  pub before_end : is_ending t ≡ false → is_closed none last n ≡ true

by-cases : (none last : Bool) (t : Class) (is s : List Item) (l e : Bool) → is_ending t ≡ e →
    cond l (cond e (is_empty is) (is_closed false true is)) (not e && is_closed true false is) ≡ true →
    cond l (last && is_empty s) (is_closed none last s) ≡ true → Closed none last t (is ++ s)
by-cases none true t [] [] true true is' test closed = record { at_end = λ _. (refl, refl); before_end = λ f. absurd (cc (is', f)) }
by-cases none true t (_ ∷ _) [] true true is' test closed = absurd (cc)
by-cases none true t is [] true false is' test closed =
    record { at_end = λ f. absurd (cc (is', f)); before_end = λ _. rw (append-nil is) (closed-more none is test) }
by-cases none true t is (_ ∷ _) true e is' test closed = absurd (cc)
by-cases none false t is s true e is' test closed = absurd (cc)
by-cases none last t is s false true is' test closed = absurd (cc)
by-cases none last t is s false false is' test closed =
    record { at_end = λ f. absurd (cc (is', f)); before_end = λ _. closed-append none last is s test closed }

pushed-same : (x n : List Item) (b c : Bool) → cond b (cond c (Some x) None) (Some x) ≡ Some n → x ≡ n
pushed-same x n false c e = cc
pushed-same x n true true e = cc
pushed-same x n true false e = absurd (cc)

closed-steps : (limit : ℕ) (none last : Bool) (i : Item) (t : Class) (s n : List Item) (row : Expansion) (o : Bool) (below : Option (List Item)) →
    row_test i t row ≡ true → (o ≡ true → takes_end i ≡ false) → is_closed none last (i ∷ s) ≡ true →
    (is_closed none last s ≡ true → below ≡ Some n → Closed none last t n) → by_row limit row o s below ≡ Some n → Closed none last t n
closed-steps limit none last i t s n (Some is) o below test inner closed more e =
    let same = pushed-same (is ++ s) n (opens is) (nat_le (depth_of (is ++ s)) limit) e in
    subst (Closed none last t) same (by-cases none last t is s (takes_end i) (is_ending t) refl (and_parts _ _ test).1 closed)
closed-steps limit none last i t s n None true below test inner closed more e =
    more (subst (λ b. cond b (last && is_empty s) (is_closed none last s) ≡ true) (inner refl) closed) e
closed-steps limit none last i t s n None false below test inner closed more e = absurd (cc)

pub step-closed : (limit : ℕ) (none last : Bool) (t : Class) (s n : List Item) → is_closed none last s ≡ true → step_of limit t s ≡ Some n → Closed none last t n
step-closed limit none last t [] n closed e = absurd (cc)
step-closed limit none last t (i ∷ s) n closed e =
    closed-steps limit none last i t s n (takes_of i t) (is_optional i) (step_of limit t s) (row-room i t) (optional-inner i) closed (step-closed limit none last t s n) e

-- a statement that has not come to its end awaits it
end-awaited : (l o m : Bool) (e c : Bool) → (l ≡ true → o ≡ false) → (c ≡ true → m ≡ false) → cond l (true && e) c ≡ true → o && m ≡ false
end-awaited true o m e c inner more closed = rw (inner refl) refl
end-awaited false true m e c inner more closed = more closed
end-awaited false false m e c inner more closed = refl

last-needed : (i : Item) → takes_end i ≡ true → is_optional i ≡ false
last-needed i = nor-both (is_optional i) (takes_end i) (ends-or-optional i)

pub still-open : (s : List Item) → is_closed false true s ≡ true → may_end s ≡ false
still-open [] closed = absurd (cc)
still-open (i ∷ s) closed = end-awaited (takes_end i) (is_optional i) (may_end s) (is_empty s) (is_closed false true s) (last-needed i) (still-open s) closed
