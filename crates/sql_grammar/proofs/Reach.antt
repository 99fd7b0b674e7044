-- What the walk tells of a list of terminals.
use Rattle.std.proofs.Common.{◌≡◌, ℕ, ◌+◌, ◌≤◌, Bool, true, false, List, [], ◌∷◌, ◌++◌, length, drop, Option, Some, None, Result, Ok, Err, refl, sym, ap, ◌∙◌, subst, arith, append_assoc, append-nil, cond, nat_le, max}
use Rattle.std.proofs.lemmas.Bool.{leb-true, le-leb}
use Rattle.pg_base.specs.declared.faults.Code.{Code}
use Rattle.pg_base.specs.declared.faults.Code.TheVariants.{S1, S15}
use Rattle.pg_base.specs.declared.faults.Limit.TheVariants.{Depth}
use Rattle.pg_base.specs.declared.faults.Fault.{Fault}
use Rattle.pg_base.specs.declared.limits.TheConstants.{MOST_LEVELS}
use Rattle.sql_lex.specs.declared.tokens.Token.{Token}
use Rattle.sql_grammar.specs.Terminals.{Terminal}
use Rattle.sql_grammar.specs.work.Terminals.{class_of}
use Rattle.sql_grammar.specs.Reading.{terminal_of}
use Rattle.sql_grammar.specs.declared.class.Class.{Class}
use Rattle.sql_grammar.specs.declared.table.Item.{Item}
use Rattle.sql_grammar.specs.declared.table.Item.TheVariants.{Whole, Query, Negation, MoreAnds, MoreOrs, MaybeOrder, MaybeLimit, MaybeOffset, Candidate}
use Rattle.sql_grammar.specs.work.Table.{Expansion, takes_of, is_optional}
use Rattle.sql_grammar.specs.work.Machine.{depth_of, opens, by_row, step_of, and_then, run_of, may_end, takes_then, takes_all, is_closed}
use Rattle.sql_grammar.specs.Syntax.{either_of, both_of, window, windowed_select}
use Rattle.sql_grammar.specs.Words.{words_of, words_of_select, words_of_order, words_of_limit, words_of_offset, words_of_cand, words_of_neg, words_of_ands, words_of_ors}
use Rattle.sql_grammar.specs.Faults.{Production, IsStatement, IsPrefix, IsAtFault, IsFirstFault, terminals, AreWithinLimits}
use Rattle.sql_grammar.specs.work.Faults.{IsSelect, IsWindowed, IsCand, IsExpr, EndsAt, IsPartEnd, IsWhole}
use Rattle.sql_grammar.specs.work.Walk.{StopsBy, IsUnawaitedAt, WalkEnds, WalkStops, IsWalk}
use Rattle.sql_grammar.proofs.Forest.{Parts, words_of_parts}
use Rattle.sql_grammar.proofs.Sound.{begun, ended}
use Rattle.sql_grammar.proofs.Complete.{alone}
use Rattle.sql_grammar.proofs.FromComplete.{selected_alone}
use Rattle.sql_grammar.proofs.OrderComplete.{windowed_alone}
use Rattle.sql_grammar.proofs.IndexComplete.{cand}
use Rattle.sql_grammar.proofs.StatementComplete.{statement}

-- a greater limit takes no less
test-more : (x : Option (List Item)) (m : List Item) (b c : Bool) → (b ≡ true → c ≡ true) → cond b x None ≡ Some m → cond c x None ≡ Some m
test-more x m true c h e = rw (h refl) e
test-more x m false c h e = absurd (cc)

pushed-more : (limit more : ℕ) (is s m : List Item) (b : Bool) → limit ≤ more → cond b (cond (nat_le (depth_of (is ++ s)) limit) (Some (is ++ s)) None) (Some (is ++ s)) ≡ Some m →
    cond b (cond (nat_le (depth_of (is ++ s)) more) (Some (is ++ s)) None) (Some (is ++ s)) ≡ Some m
pushed-more limit more is s m false le e = e
pushed-more limit more is s m true le e =
    test-more (Some (is ++ s)) m (nat_le (depth_of (is ++ s)) limit) (nat_le (depth_of (is ++ s)) more) (λ h. let low = leb-true _ _ h in le-leb _ _ (omega (arith, low, le))) e

after-more : (limit more : ℕ) (row : Expansion) (o : Bool) (s m : List Item) (x y : Option (List Item)) → limit ≤ more → (x ≡ Some m → y ≡ Some m) → by_row limit row o s x ≡ Some m → by_row more row o s y ≡ Some m
after-more limit more (Some is) o s m x y le h e = pushed-more limit more is s m (opens is) le e
after-more limit more None true s m x y le h e = h e
after-more limit more None false s m x y le h e = absurd (cc)

step-more : (limit more : ℕ) (t : Class) (s m : List Item) → limit ≤ more → step_of limit t s ≡ Some m → step_of more t s ≡ Some m
step-more limit more t [] m le e = absurd (cc)
step-more limit more t (i ∷ s) m le e =
    after-more limit more (takes_of i t) (is_optional i) s m (step_of limit t s) (step_of more t s) le (step-more limit more t s m le) e

then-more : (limit more : ℕ) (ts : List Terminal) (m : List Item) (x y : Option (List Item)) → ((n : List Item) → x ≡ Some n → y ≡ Some n) →
    ((n : List Item) → run_of limit ts n ≡ Some m → run_of more ts n ≡ Some m) → and_then x (run_of limit ts) ≡ Some m → and_then y (run_of more ts) ≡ Some m
then-more limit more ts m None y h k e = absurd (cc)
then-more limit more ts m (Some n) y h k e = rw (h n refl) (k n e)

run-more : (limit more : ℕ) (ts : List Terminal) (s m : List Item) → limit ≤ more → run_of limit ts s ≡ Some m → run_of more ts s ≡ Some m
run-more limit more [] s m le e = e
run-more limit more (t ∷ ts) s m le e =
    then-more limit more ts m (step_of limit (class_of t) s) (step_of more (class_of t) s) (λ n. step-more limit more (class_of t) s n le) (λ n. run-more limit more ts n m le) e

module _ (limit : ℕ) where
  then-snoc : (ts us : List Terminal) (m : List Item) (x : Option (List Item)) → ((n : List Item) → run_of limit ts n ≡ Some m → run_of limit (ts ++ us) n ≡ run_of limit us m) →
      and_then x (run_of limit ts) ≡ Some m → and_then x (run_of limit (ts ++ us)) ≡ run_of limit us m
  then-snoc ts us m None h e = absurd (cc)
  then-snoc ts us m (Some n) h e = h n e

  run-append : (ts us : List Terminal) (s m : List Item) → run_of limit ts s ≡ Some m → run_of limit (ts ++ us) s ≡ run_of limit us m
  run-append [] us s m e = let same : s ≡ m = cc in ap (run_of limit us) same
  run-append (t ∷ ts) us s m e = then-snoc ts us m (step_of limit (class_of t) s) (λ n. run-append ts us n m) e

  pub run-snoc : (ts : List Terminal) (t : Terminal) (s m n : List Item) → run_of limit ts s ≡ Some m → step_of limit (class_of t) m ≡ Some n → run_of limit (ts ++ t ∷ []) s ≡ Some n
  run-snoc ts t s m n e f = run-append ts (t ∷ []) s m e ∙ ap (λ x. and_then x (run_of limit [])) f

  then-takes_all : (ts us : List Terminal) (m : List Item) (x : Option (List Item)) → ((n : List Item) → run_of limit ts n ≡ Some m → takes_all limit (ts ++ us) n ≡ takes_all limit us m) →
      and_then x (run_of limit ts) ≡ Some m → takes_then x (takes_all limit (ts ++ us)) ≡ takes_all limit us m
  then-takes_all ts us m None h e = absurd (cc)
  then-takes_all ts us m (Some n) h e = h n e

  takes_all-append : (ts us : List Terminal) (s m : List Item) → run_of limit ts s ≡ Some m → takes_all limit (ts ++ us) s ≡ takes_all limit us m
  takes_all-append [] us s m e = let same : s ≡ m = cc in ap (takes_all limit us) same
  takes_all-append (t ∷ ts) us s m e = then-takes_all ts us m (step_of limit (class_of t) s) (λ n. takes_all-append ts us n m) e

-- a production that the walk knows, by what is awaited at first
pub record Begins (start : List Item) (Of : Production) : Type 0 where
  pub flat : depth_of start ≡ 0
  pub whole : (limit : ℕ) (ts : List Terminal) (g : Parts limit start) → words_of_parts limit start g ≡ ts → Of limit ts
  pub taken : (limit : ℕ) (ts : List Terminal) → Of limit ts → takes_all limit ts start ≡ true
  pub more : (limit more : ℕ) (ts : List Terminal) → limit ≤ more → Of limit ts → Of more ts

module _ (start : List Item) (Of : Production) (known : Begins start Of) where
  prefix : (limit : ℕ) (ts : List Terminal) (m : List Item) → run_of limit ts start ≡ Some m → IsPrefix Of limit ts
  prefix limit ts m run =
      let (g, rest, is) = begun limit start m ts (omega (arith, known.flat)) run in
      (rest, known.whole limit (ts ++ rest) g is)

  excluded-at : (limit : ℕ) (ts : List Terminal) (t : Terminal) (m : List Item) → run_of limit ts start ≡ Some m → step_of limit (class_of t) m ≡ None → ¬ IsPrefix Of limit (ts ++ t ∷ [])
  excluded-at limit ts t m run stuck (rest, d) =
      let accepted = known.taken limit _ d in
      let regroup = ap (λ l. takes_all limit l start) (append_assoc ts (t ∷ []) rest) in
      let stops : takes_all limit (t ∷ rest) m ≡ false = ap (λ x. takes_then x (takes_all limit rest)) stuck in
      absurd (cc (accepted, regroup, takes_all-append limit ts (t ∷ rest) start m run, stops))

  unfinished-at : (limit : ℕ) (ts : List Terminal) (m : List Item) → run_of limit ts start ≡ Some m → may_end m ≡ false → ¬ Of limit ts
  unfinished-at limit ts m run open' d =
      let accepted = known.taken limit ts d in
      let all = ap (λ l. takes_all limit l start) (append-nil ts) in
      absurd (cc (accepted, all, takes_all-append limit ts [] start m run, open'))

  excluded : (ts : List Terminal) (t : Terminal) (m : List Item) → run_of MOST_LEVELS ts start ≡ Some m → ((l : ℕ) → step_of l (class_of t) m ≡ None) → (l : ℕ) → ¬ IsPrefix Of l (ts ++ t ∷ [])
  excluded ts t m run stuck l (rest, d) =
      excluded-at (max l MOST_LEVELS) ts t m (run-more MOST_LEVELS (max l MOST_LEVELS) ts start m (omega arith) run) (stuck (max l MOST_LEVELS)) (rest, known.more l (max l MOST_LEVELS) _ (omega arith) d)

  pub unfinished : (ts : List Terminal) (m : List Item) → run_of MOST_LEVELS ts start ≡ Some m → may_end m ≡ false → (l : ℕ) → ¬ Of l ts
  unfinished ts m run open' l d = unfinished-at (max l MOST_LEVELS) ts m (run-more MOST_LEVELS (max l MOST_LEVELS) ts start m (omega arith) run) open' (known.more l (max l MOST_LEVELS) ts (omega arith) d)

  pub whole-at : (ts : List Terminal) (m : List Item) → run_of MOST_LEVELS ts start ≡ Some m → may_end m ≡ true → Of MOST_LEVELS ts
  whole-at ts m run ends = let (g, is) = ended MOST_LEVELS start m ts (omega (arith, known.flat)) run ends in known.whole MOST_LEVELS ts g is

  -- why the walk stops is why the terminal is in error
  at-fault : (ts : List Terminal) (t : Terminal) (m : List Item) (code : Code) → run_of MOST_LEVELS ts start ≡ Some m → StopsBy code t m → IsAtFault Of ts t code
  at-fault ts t m S1 run (stuck, open') = excluded ts t m run stuck
  at-fault ts t m (S15 Depth) run (stuck, (n, deeper)) = (
    excluded-at MOST_LEVELS ts t m run stuck,
    prefix (MOST_LEVELS + 1) (ts ++ t ∷ []) n (run-snoc (MOST_LEVELS + 1) ts t start m n (run-more MOST_LEVELS (MOST_LEVELS + 1) ts start m (omega arith) run) deeper),
  )
  at-fault ts t m (S15 limit) run ((n, step), is) = (prefix MOST_LEVELS (ts ++ t ∷ []) n (run-snoc MOST_LEVELS ts t start m n run step), is)
  at-fault ts t m _ run by = absurd by

  pub first-fault : (text : List ℕ) (tokens : List Token) (first : ℕ) (fault : Fault) → WalkStops text tokens first start fault → IsFirstFault Of text (drop first tokens) fault
  first-fault text tokens first fault w = record {
    before = w.before;
    token = w.token;
    after = w.after;
    split = w.split;
    begins = prefix MOST_LEVELS (terminals text w.before) w.stack w.run;
    within = w.within;
    cause = at-fault (terminals text w.before) (terminal_of text w.token) w.stack fault.code w.run w.stops;
    unfinished = λ is. unfinished (terminals text w.before) w.stack w.run (subst (λ c. StopsBy c (terminal_of text w.token) w.stack) is w.stops).1;
    place = w.place;
  }

  part-by : (text : List ℕ) (tokens : List Token) (first end : ℕ) (before after' : List Token) (m : List Item) → drop first tokens ≡ before ++ after' → end ≡ first + length before →
      run_of MOST_LEVELS (terminals text before) start ≡ Some m → may_end m ≡ true → AreWithinLimits (terminals text before) → IsUnawaitedAt text m after' → 1 ≤ length after' → EndsAt Of text tokens first end
  part-by text tokens first end before [] m split place run ends within stuck some = absurd (omega (arith, some))
  part-by text tokens first end before (t ∷ rest) m split place run ends within stuck some = record {
    before = before;
    token = t;
    after = rest;
    split = split;
    place = place;
    whole = whole-at (terminals text before) m run ends;
    within = within;
    longest = excluded (terminals text before) (terminal_of text t) m run stuck;
  }

  pub part-end : (text : List ℕ) (tokens : List Token) (first end : ℕ) → is_closed true false start ≡ true → WalkEnds text tokens first start end → EndsAt Of text tokens first end
  part-end text tokens first end inner w = part-by text tokens first end w.before w.after w.stack w.split w.place w.run w.ends w.within w.stuck (w.inner inner)

  pub part : (text : List ℕ) (tokens : List Token) (first : ℕ) (r : Result ℕ Fault) → is_closed true false start ≡ true → IsWalk text tokens first start r → IsPartEnd Of text tokens first r
  part text tokens first (Ok end) inner w = part-end text tokens first end inner w
  part text tokens first (Err fault) inner w = first-fault text tokens first fault w

pub statements : Begins (Whole ∷ []) IsStatement
statements = record {
  flat = refl;
  whole = λ limit ts ((x, low), _) is. (x, omega (arith, low), sym (append-nil (words_of x)) ∙ is);
  taken = λ limit ts (x, low, is). subst (λ l. takes_all limit l (Whole ∷ []) ≡ true) is (statement limit x low);
  more = λ limit more ts le (x, low, is). (x, omega (arith, le, low), is);
}

pub selects : Begins (Query ∷ []) IsSelect
selects = record {
  flat = refl;
  whole = λ limit ts ((q, low), _) is. (q, omega (arith, low), sym (append-nil (words_of_select q)) ∙ is);
  taken = λ limit ts (q, low, is). subst (λ l. takes_all limit l (Query ∷ []) ≡ true) is (selected_alone limit q low);
  more = λ limit more ts le (q, low, is). (q, omega (arith, le, low), is);
}

pub windowed : Begins (Query ∷ MaybeOrder ∷ MaybeLimit ∷ MaybeOffset ∷ []) IsWindowed
windowed = record {
  flat = refl;
  whole = λ limit ts ((q, low), (y, (l, (o, _)))) is. (
    windowed_select q y (window l o),
    omega (arith, low),
    ap (λ v. words_of_select q ++ (words_of_order y ++ (words_of_limit l ++ v))) (sym (append-nil (words_of_offset o))) ∙ is,
  );
  taken = λ limit ts (x, low, is). subst (λ l. takes_all limit l (Query ∷ MaybeOrder ∷ MaybeLimit ∷ MaybeOffset ∷ []) ≡ true) is (windowed_alone limit x low);
  more = λ limit more ts le (x, low, is). (x, omega (arith, le, low), is);
}

pub cands : Begins (Candidate ∷ []) IsCand
cands = record {
  flat = refl;
  whole = λ limit ts ((x, low), _) is. (x, omega (arith, low), sym (append-nil (words_of_cand x)) ∙ is);
  taken = λ limit ts (x, low, is). subst (λ l. takes_all limit l (Candidate ∷ []) ≡ true) is (cand limit x low);
  more = λ limit more ts le (x, low, is). (x, omega (arith, le, low), is);
}

pub exprs : Begins (Negation ∷ MoreAnds ∷ MoreOrs ∷ []) IsExpr
exprs = record {
  flat = refl;
  whole = λ limit ts ((n, en), ((ns, ens), ((os, eos), _))) is. (
    either_of (both_of n ns) os,
    omega (arith, en, ens, eos),
    append_assoc (words_of_neg n) (words_of_ands ns) (words_of_ors os) ∙
        (ap (λ l. words_of_neg n ++ (words_of_ands ns ++ l)) (sym (append-nil (words_of_ors os))) ∙ is),
  );
  taken = λ limit ts (e, low, is). subst (λ l. takes_all limit l (Negation ∷ MoreAnds ∷ MoreOrs ∷ []) ≡ true) is (alone limit e low);
  more = λ limit more ts le (x, low, is). (x, omega (arith, le, low), is);
}

-- a walk over a whole statement ends at its last token
pub whole : (text : List ℕ) (tokens : List Token) (first end : ℕ) → WalkEnds text tokens first (Whole ∷ []) end → IsWhole text (drop first tokens)
whole text tokens first end w =
    let all : drop first tokens ≡ w.before = w.split ∙ (ap (λ l. w.before ++ l) (w.outer refl) ∙ append-nil w.before) in
    subst (IsWhole text) (sym all) (record { statement = whole-at (Whole ∷ []) IsStatement statements (terminals text w.before) w.stack w.run w.ends; within = w.within })
