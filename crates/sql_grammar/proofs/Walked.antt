-- The walk's loop: the tokens that it has taken, and the stack after them.
use Rattle.std.proofs.Common.{◌≡◌, ℕ, ◌+◌, ◌-◌, ◌≤◌, ◌<◌, Bool, true, false, List, [], ◌∷◌, ◌++◌, length, take, drop, get_or, Some, None, refl, zero, suc, sym, ap, ◌∙◌, subst, arith, cond, nat_eq, length-append, length-drop}
use Rattle.std.proofs.Math.Seq.{take-suc}
use Rattle.std.proofs.lemmas.Bool.{eqb-true}
use Rattle.std.proofs.lemmas.List.{get_or-drop, drop-drop, drop_more, take-append-drop, map-append, length-take-le, nil_from_length}
use Rattle.std.proofs.lemmas.List.Elements.{All-append}
use Rattle.pg_base.specs.declared.faults.Fault.{Fault}
use Rattle.pg_base.specs.declared.faults.Code.{Code}
use Rattle.pg_base.specs.declared.limits.TheConstants.{MOST_LEVELS}
use Rattle.sql_lex.specs.declared.tokens.Token.{Token}
use Rattle.sql_grammar.specs.declared.table.Item.{Item}
use Rattle.sql_grammar.specs.Terminals.{Terminal}
use Rattle.sql_grammar.specs.work.Terminals.{class_of}
use Rattle.sql_grammar.specs.Reading.{terminal_of}
use Rattle.sql_grammar.specs.work.Reading.{is_end, ends_once, AreTokens}
use Rattle.sql_grammar.specs.work.Machine.{depth_of, run_of, may_end, Fits, is_closed}
use Rattle.sql_grammar.specs.Faults.{terminals, limit_of, AreWithinLimits, fault_at}
use Rattle.sql_grammar.specs.work.Walk.{TakenOn, IsUnawaited, IsUnawaitedAt, StopsBy, WalkEnds, WalkStops}
use Rattle.sql_grammar.proofs.Endings.{Closed, step-closed, still-open}
use Rattle.sql_grammar.proofs.Reach.{run-snoc}

-- the tokens from `first` up to `at`
abbrev pub seen : List Token → ℕ → ℕ → List Token
seen tokens first at = take (at - first) (drop first tokens)

seen-none : (tokens : List Token) (first : ℕ) → seen tokens first first ≡ []
seen-none tokens first = let none : first - first ≡ 0 = omega arith in ap (λ n. take n (drop first tokens)) none

length-seen : (tokens : List Token) (first at : ℕ) → first ≤ at → at ≤ length tokens → length (seen tokens first at) ≡ at - first
length-seen tokens first at le lt = length-take-le (at - first) (drop first tokens) (omega (arith, length-drop first tokens))

rest-at : (tokens : List Token) (first at : ℕ) → first ≤ at → drop (at - first) (drop first tokens) ≡ drop at tokens
rest-at tokens first at le = let back : first + (at - first) ≡ at = omega arith in drop-drop (at - first) first tokens ∙ ap (λ n. drop n tokens) back

pub split-from : (tokens : List Token) (first at : ℕ) → first ≤ at → drop first tokens ≡ seen tokens first at ++ drop at tokens
split-from tokens first at le = sym (take-append-drop (at - first) (drop first tokens)) ∙ ap (λ l. seen tokens first at ++ l) (rest-at tokens first at le)

pub split-at : (tokens : List Token) (first at : ℕ) (d : Token) → first ≤ at → at < length tokens →
    drop first tokens ≡ seen tokens first at ++ get_or tokens at d ∷ drop (at + 1) tokens
split-at tokens first at d le lt = split-from tokens first at le ∙ ap (λ l. seen tokens first at ++ l) (drop_more tokens at d lt)

one-more : (tokens : List Token) (first at : ℕ) (d : Token) → first ≤ at → at < length tokens →
    seen tokens first (at + 1) ≡ seen tokens first at ++ get_or tokens at d ∷ []
one-more tokens first at d le lt =
    let next : (at + 1) - first ≡ suc (at - first) = omega arith in
    let back : first + (at - first) ≡ at = omega arith in
    ap (λ n. take n (drop first tokens)) next ∙
    (take-suc (drop first tokens) (at - first) d (omega (arith, length-drop first tokens)) ∙
    ap (λ t. seen tokens first at ++ t ∷ []) (get_or-drop first tokens (at - first) d ∙ ap (λ n. get_or tokens n d) back))

terminals-more : (text : List ℕ) (tokens : List Token) (first at : ℕ) (d : Token) → first ≤ at → at < length tokens →
    terminals text (seen tokens first (at + 1)) ≡ terminals text (seen tokens first at) ++ terminal_of text (get_or tokens at d) ∷ []
terminals-more text tokens first at d le lt =
    ap (terminals text) (one-more tokens first at d le lt) ∙ map-append (terminal_of text) (seen tokens first at) (get_or tokens at d ∷ [])

within-one : (t : Terminal) → limit_of t ≡ None → AreWithinLimits (t ∷ [])
within-one t is zero d lt = is
within-one t is (suc k) d lt = absurd (omega (arith, lt))

-- the last token alone is an end
pub record EndsAfter (text : List ℕ) (t : Token) (rest : List Token) : Type 0 where
  pub yes : is_end text t ≡ true → rest ≡ []
  pub no : is_end text t ≡ false → 1 ≤ length rest

ends-by : (text : List ℕ) (t : Token) (rest : List Token) (b : Bool) → is_end text t ≡ b → cond b (nat_eq (length rest) 0) (ends_once text rest) ≡ true → EndsAfter text t rest
ends-by text t rest true is once = record { yes = λ _. nil_from_length rest (eqb-true _ _ once); no = λ f. absurd (cc (is, f)) }
ends-by text t [] false is once = absurd (cc)
ends-by text t (u ∷ rest) false is once = record { yes = λ f. absurd (cc (is, f)); no = λ _. omega arith }

ends-cons : (text : List ℕ) (t : Token) (before rest : List Token) (b : Bool) → cond b (nat_eq (length (before ++ t ∷ rest)) 0) (ends_once text (before ++ t ∷ rest)) ≡ true →
    ends_once text (before ++ t ∷ rest) ≡ true
ends-cons text t before rest false once = once
ends-cons text t before rest true once = let none = eqb-true _ _ once in absurd (omega (arith, none, length-append before (t ∷ rest)))

ends-at : (text : List ℕ) (before : List Token) (t : Token) (rest : List Token) → ends_once text (before ++ t ∷ rest) ≡ true → EndsAfter text t rest
ends-at text [] t rest once = ends-by text t rest (is_end text t) refl once
ends-at text (b ∷ before) t rest once = ends-at text before t rest (ends-cons text t before rest (is_end text b) once)

-- the loop, before token `at`
pub record Walking (text : List ℕ) (tokens : List Token) (first : ℕ) (start : List Item) (at : ℕ) (stack : List Item) : Type 0 where
  pub from : first ≤ at
  pub below : at < length tokens
  pub run : run_of MOST_LEVELS (terminals text (seen tokens first at)) start ≡ Some stack
  pub within : AreWithinLimits (terminals text (seen tokens first at))
  pub fits : Fits 16 stack
  pub shallow : depth_of stack ≤ MOST_LEVELS
  pub closed : (none last : Bool) → is_closed none last start ≡ true → is_closed none last stack ≡ true

pub begins : (text : List ℕ) (tokens : List Token) (first : ℕ) (start : List Item) → first < length tokens → Fits 16 start → depth_of start ≡ 0 → Walking text tokens first start first start
begins text tokens first start lt fits flat =
    let none = seen-none tokens first in
    record {
      from = omega arith;
      below = lt;
      run = ap (λ l. run_of MOST_LEVELS (terminals text l) start) none;
      within = subst (λ l. AreWithinLimits (terminals text l)) (sym none) (λ k d lt. absurd (omega (arith, lt)));
      fits = fits;
      shallow = omega (arith, flat);
      closed = λ none last c. c;
    }

module _ (text : List ℕ) (tokens : List Token) (first : ℕ) (start : List Item) (at : ℕ) (stack : List Item) (d : Token)
    (given : AreTokens text tokens) (w : Walking text tokens first start at stack) where
  abbrev now : Token
  now = get_or tokens at d

  abbrev later : List Token
  later = drop (at + 1) tokens

  once : EndsAfter text now later
  once = ends-at text (take at tokens) now later (subst (λ l. ends_once text l ≡ true) (sym (take-append-drop at tokens) ∙ ap (λ l. take at tokens ++ l) (drop_more tokens at d w.below)) given.last)

  pub stops : (code : Code) (fault : Fault) → StopsBy code (terminal_of text now) stack → fault ≡ fault_at code now → WalkStops text tokens first start fault
  stops code fault by is = record {
    before = seen tokens first at;
    token = now;
    after = later;
    stack = stack;
    split = split-at tokens first at d w.from w.below;
    run = w.run;
    within = w.within;
    stops = subst (λ f. StopsBy f.code (terminal_of text now) stack) (sym is) by;
    place = subst (λ f. f ≡ fault_at f.code now) (sym is) refl;
  }

  pub ended : IsUnawaited stack (terminal_of text now) × (may_end stack ≡ true) → WalkEnds text tokens first start at
  ended (stuck, ends) = record {
    before = seen tokens first at;
    after = now ∷ later;
    stack = stack;
    split = split-at tokens first at d w.from w.below;
    place = omega (arith, w.from, length-seen tokens first at w.from (omega (arith, w.below)));
    run = w.run;
    ends = ends;
    within = w.within;
    stuck = stuck;
    inner = λ _. omega arith;
    outer = λ c. let open' = still-open stack (w.closed false true c) in absurd (cc (ends, open'));
  }

  module _ (new : List Item) (on : TakenOn (terminal_of text now) stack new) where
    closed-now : (none last : Bool) → is_closed none last start ≡ true → Closed none last (class_of (terminal_of text now)) new
    closed-now none last c = step-closed MOST_LEVELS none last (class_of (terminal_of text now)) stack new (w.closed none last c) on.step

    run-on : run_of MOST_LEVELS (terminals text (seen tokens first (at + 1))) start ≡ Some new
    run-on =
        ap (λ l. run_of MOST_LEVELS l start) (terminals-more text tokens first at d w.from w.below) ∙
        run-snoc MOST_LEVELS (terminals text (seen tokens first at)) (terminal_of text now) start stack new w.run on.step

    within-on : AreWithinLimits (terminals text (seen tokens first (at + 1)))
    within-on =
        subst AreWithinLimits (sym (terminals-more text tokens first at d w.from w.below))
        (All-append (λ t. limit_of t ≡ None) (terminals text (seen tokens first at)) (terminal_of text now ∷ []) w.within (within-one (terminal_of text now) on.within))

    stuck-at : (rest : List Token) → IsUnawaitedAt text [] rest
    stuck-at [] = tt
    stuck-at (t ∷ rest) = λ limit. refl

    inner-by : (b : Bool) → is_end text now ≡ b → Closed true false (class_of (terminal_of text now)) new → 1 ≤ length later
    inner-by true is c = let no = (c.at_end is).1 in absurd (cc)
    inner-by false is c = once.no is

    outer-by : (b : Bool) → is_end text now ≡ b → new ≡ [] → Closed false true (class_of (terminal_of text now)) new → later ≡ []
    outer-by true is none c = once.yes is
    outer-by false is none c = let open' = c.before_end is in absurd (cc (open', ap (is_closed false true) none))

    -- nothing more is awaited
    pub done : nat_eq (length new) 0 ≡ true → WalkEnds text tokens first start (at + 1)
    done empty =
        let none : new ≡ [] = nil_from_length new (eqb-true _ _ empty) in
        record {
          before = seen tokens first (at + 1);
          after = later;
          stack = new;
          split = split-from tokens first (at + 1) (omega (arith, w.from));
          place = omega (arith, w.from, length-seen tokens first (at + 1) (omega (arith, w.from)) (omega (arith, w.below)));
          run = run-on;
          ends = ap may_end none;
          within = within-on;
          stuck = subst (λ s. IsUnawaitedAt text s later) (sym none) (stuck-at later);
          inner = λ c. inner-by (is_end text now) refl (closed-now true false c);
          outer = λ c. outer-by (is_end text now) refl none (closed-now false true c);
        }

    not-end : (b : Bool) → is_end text now ≡ b → nat_eq (length new) 0 ≡ false → is_closed true true start ≡ true → is_end text now ≡ false
    not-end true is some c = let none = (closed-now true true c).at_end is in absurd (cc (some, ap (λ n. nat_eq (length n) 0) none.0))
    not-end false is some c = is

    -- more is awaited
    pub goes-on : nat_eq (length new) 0 ≡ false → is_closed true true start ≡ true → Walking text tokens first start (at + 1) new
    goes-on some c =
        let no = not-end (is_end text now) refl some c in
        let more = once.no no in
        record {
          from = omega (arith, w.from);
          below = omega (arith, w.below, more, length-drop (at + 1) tokens);
          run = run-on;
          within = within-on;
          fits = on.fits;
          shallow = on.shallow;
          closed = λ none last c'. (closed-now none last c').before_end no;
        }
