-- The parts of an AND and of an OR that are read and those that are left.
use Rattle.std.specs.declared.alloc.Global.{Global}
use Rattle.std.proofs.Common.{rules, Box, ◌≡◌, ◌≢◌, ◌<◌, ◌+◌, arith, length, true, List, [], ◌∷◌, ◌++◌, Result, Ok, Err, refl, sym, ap, ◌∙◌, append_assoc}
use Rattle.pg_base.specs.declared.faults.Fault.{Fault}
use Rattle.pg_value.specs.declared.value.SqlType.{SqlType}
use Rattle.pg_expr.specs.declared.operand.ColRef.{ColRef}
use Rattle.pg_expr.specs.declared.expr.Expr.{Expr as Tree}
use Rattle.pg_expr.specs.declared.expr.Exprs.{Exprs}
use Rattle.pg_expr.specs.declared.expr.Expr.{And as AndOf, Not as NotOf, Or as OrOf}
use Rattle.pg_expr.specs.declared.expr.Expr.TheViews.{the_lemmas}
use Rattle.pg_expr.specs.declared.expr.Expr.TheVariants.{rolls-Or, rolls-And, rolls-Not}
use Rattle.pg_expr.specs.declared.expr.Expr.TheFolds.{fold_out-Expr, fold_out-Exprs}
use Rattle.pg_expr.specs.work.View.{cond, conds}
use Rattle.pg_expr.specs.Cond.{Cond, Conds, no_conds, cond_and, all_of, any_of, negation, joined}
use Rattle.pg_expr.proofs.CondLaws.{conds-append, joined_assoc, joined-nil}
use Rattle.sql_lex.specs.declared.tokens.Token.{Token}
use Rattle.sql_grammar.specs.declared.class.Word.TheVariants.{And, Or}
use Rattle.sql_grammar.specs.Terminals.{Terminal, t_key}
use Rattle.sql_grammar.specs.Syntax.{Expr, either_of, Ors, no_or, or_conj, Conj, both_of, Ands, no_and, and_neg, Neg}
use Rattle.sql_grammar.specs.work.Unique.{ends_atom, ends_conj, ends_expr}
use Rattle.sql_grammar.specs.Words.{words_of_expr, words_of_ors, words_of_conj, words_of_ands, words_of_neg}
use Rattle.sql_grammar.proofs.ExprTrees.{ands-end, ors-end, tested}
use Rattle.expr_reader.specs.work.Reading.{BeginsNot}
use Rattle.expr_reader.specs.Conditions.{next, then_parts, or_of, and_of, meaning_of_expr, meaning_of_ors, meaning_of_conj, meaning_of_ands, meaning_of_neg}
use Rattle.expr_reader.specs.Scope.{Scope}

-- the tree of an OR and of an AND
pub cond-or : (parts : Exprs) → cond (OrOf parts) ≡ any_of (conds parts.items.items)
cond-or parts = search (rules, the_lemmas, rolls-Or, fold_out-Expr, fold_out-Exprs)

pub cond-and-of : (parts : Exprs) → cond (AndOf parts) ≡ all_of (conds parts.items.items)
cond-and-of parts = search (rules, the_lemmas, rolls-And, fold_out-Expr, fold_out-Exprs)

-- the tree of a NOT
pub cond-not : (inner : Box Tree Global) → cond (NotOf inner) ≡ negation (cond inner.value)
cond-not inner = search (rules, the_lemmas, rolls-Not, fold_out-Expr)

-- an OR and an AND of more than one part
pub many-or : (xs : List Tree) → 0 < length xs → length xs ≢ 1 → any_of (conds xs) ≡ or_of (conds xs)
many-or [] some more = absurd (omega (arith, some))
many-or (x ∷ []) some more = absurd (more refl)
many-or (x ∷ y ∷ zs) some more = refl

pub many-and : (xs : List Tree) → 0 < length xs → length xs ≢ 1 → all_of (conds xs) ≡ and_of (conds xs)
many-and [] some more = absurd (omega (arith, some))
many-and (x ∷ []) some more = absurd (more refl)
many-and (x ∷ y ∷ zs) some more = refl

-- parts that are read, and then those that are left
abbrev pub after : Conds → Result Conds Fault → Result Conds Fault
after ready parts = next parts (λ xs. Ok (joined ready xs))

pub more-ready : (ready : Conds) (x : Cond) (part : Result Cond Fault) (parts : Result Conds Fault) → part ≡ Ok x → after ready (then_parts part parts) ≡ after (joined ready (cond_and x no_conds)) parts
more-ready ready x (Err f) parts is = absurd (cc (is))
more-ready ready x (Ok y) (Err f) is = refl
more-ready ready x (Ok y) (Ok ys) is =
    let same : y ≡ x = cc (is) in
    ap (λ (z : Cond). Ok (joined ready (cond_and z ys))) same ∙ ap (λ (zs : Conds). Ok zs) (sym (joined_assoc ready (cond_and x no_conds) ys))

pub first-ready : (x : Cond) (part : Result Cond Fault) (parts : Result Conds Fault) → part ≡ Ok x → then_parts part parts ≡ after (cond_and x no_conds) parts
first-ready x (Err f) parts is = absurd (cc (is))
first-ready x (Ok y) (Err f) is = refl
first-ready x (Ok y) (Ok ys) is = let same : y ≡ x = cc (is) in ap (λ (z : Cond). Ok (cond_and z ys)) same

pub first-fault : (f : Fault) (part : Result Cond Fault) (parts : Result Conds Fault) → part ≡ Err f → then_parts part parts ≡ Err f
first-fault f (Ok x) parts is = absurd (cc (is))
first-fault f (Err g) parts is = cc (is)

pub no-more : (ready : Conds) (f : Fault) (part : Result Cond Fault) (parts : Result Conds Fault) → part ≡ Err f → after ready (then_parts part parts) ≡ Err f
no-more ready f (Ok x) parts is = absurd (cc (is))
no-more ready f (Err g) parts is = cc (is)

pub some-parts : (xs ys : List Tree) (x : Tree) → ys ≡ xs ++ x ∷ [] → 0 < length ys
some-parts [] ys x is = rw is (omega arith)
some-parts (z ∷ zs) ys x is = rw is (omega arith)

pub first-parts : (none ys : List Tree) (x : Tree) → none ≡ [] → ys ≡ none ++ x ∷ [] → conds ys ≡ cond_and (cond x) no_conds
first-parts none ys x empty is = ap conds (is ∙ ap (λ l. l ++ x ∷ []) empty)

pub more-parts : (xs ys : List Tree) (x : Tree) → ys ≡ xs ++ x ∷ [] → conds ys ≡ joined (conds xs) (cond_and (cond x) no_conds)
more-parts xs ys x is = ap conds is ∙ conds-append xs (x ∷ [])

pub fewer : (old left : List Terminal) (w : Terminal) → old ≡ w ∷ left → length left + 1 ≡ length old
fewer old left w is = rw is (omega arith)

module _ (scope : Scope) (type_of : ColRef → SqlType) where
  -- the OR of parts that are read, and of those that are left
  pub record OrsLeft (e : Expr) (rest : List Terminal) (ready : Conds) (now : List Terminal) : Type 0 where
    pub left : Ors
    pub words : now ≡ words_of_ors left ++ rest
    pub meant : meaning_of_expr scope type_of e ≡ next (after ready (meaning_of_ors scope type_of left)) (λ xs. Ok (or_of xs))

  -- the first part
  pub record FirstOr (e : Expr) (rest old : List Terminal) : Type 0 where
    pub part : Conj
    pub more : Ors
    pub tree : e ≡ either_of part more
    pub ends : ends_conj (words_of_ors more ++ rest) ≡ true
    pub words : old ≡ words_of_conj part ++ (words_of_ors more ++ rest)

  pub first-or : (e : Expr) (rest old : List Terminal) → ends_expr rest ≡ true → old ≡ words_of_expr e ++ rest → FirstOr e rest old
  first-or (either_of c cs) rest old ends is = record {
    part = c;
    more = cs;
    tree = refl;
    ends = ors-end cs rest ends;
    words = is ∙ append_assoc (words_of_conj c) (words_of_ors cs) rest;
  }

  pub first-or-read : (e : Expr) (rest old now : List Terminal) (ready : Conds) (x : Cond) (a : FirstOr e rest old) → meaning_of_conj scope type_of a.part ≡ Ok x → now ≡ words_of_ors a.more ++ rest → ready ≡ cond_and x no_conds → OrsLeft e rest ready now
  first-or-read e rest old now ready x a part is one = record {
    left = a.more;
    words = is;
    meant = ap (meaning_of_expr scope type_of) a.tree ∙ ap (λ (m : Result Conds Fault). next m (λ xs. Ok (or_of xs))) (first-ready x (meaning_of_conj scope type_of a.part) (meaning_of_ors scope type_of a.more) part ∙ ap (λ (zs : Conds). after zs (meaning_of_ors scope type_of a.more)) (sym one));
  }

  pub first-or-fault : (e : Expr) (rest old : List Terminal) (f : Fault) (a : FirstOr e rest old) → meaning_of_conj scope type_of a.part ≡ Err f → meaning_of_expr scope type_of e ≡ Err f
  first-or-fault e rest old f a part =
      ap (meaning_of_expr scope type_of) a.tree ∙ ap (λ (m : Result Conds Fault). next m (λ xs. Ok (or_of xs))) (first-fault f (meaning_of_conj scope type_of a.part) (meaning_of_ors scope type_of a.more) part)

  -- the part after OR
  pub record NextOr (e : Expr) (rest : List Terminal) (ready : Conds) (left : List Terminal) : Type 0 where
    pub part : Conj
    pub more : Ors
    pub ends : ends_conj (words_of_ors more ++ rest) ≡ true
    pub words : left ≡ words_of_conj part ++ (words_of_ors more ++ rest)
    pub meant : meaning_of_expr scope type_of e ≡ next (after ready (then_parts (meaning_of_conj scope type_of part) (meaning_of_ors scope type_of more))) (λ xs. Ok (or_of xs))

  or-by : (e : Expr) (rest : List Terminal) (ready : Conds) (left : Ors) (now mid : List Terminal) (t : Token) → ends_expr rest ≡ true → now ≡ t_key Or t ∷ mid → now ≡ words_of_ors left ++ rest →
      meaning_of_expr scope type_of e ≡ next (after ready (meaning_of_ors scope type_of left)) (λ xs. Ok (or_of xs)) → NextOr e rest ready mid
  or-by e rest ready no_or now mid t ends took is meant = absurd (tested ends_expr rest (t_key Or t ∷ mid) ends refl (sym is ∙ took))
  or-by e rest ready (or_conj k c cs) now mid t ends took is meant =
      let same : t_key Or t ∷ mid ≡ t_key Or k ∷ ((words_of_conj c ++ words_of_ors cs) ++ rest) = sym took ∙ is in
      let words : mid ≡ (words_of_conj c ++ words_of_ors cs) ++ rest = cc (same) in
      record { part = c; more = cs; ends = ors-end cs rest ends; words = words ∙ append_assoc (words_of_conj c) (words_of_ors cs) rest; meant = meant }

  pub next-or : (e : Expr) (rest : List Terminal) (ready : Conds) (now mid : List Terminal) (t : Token) → ends_expr rest ≡ true → now ≡ t_key Or t ∷ mid → OrsLeft e rest ready now → NextOr e rest ready mid
  next-or e rest ready now mid t ends took a = or-by e rest ready a.left now mid t ends took a.words a.meant

  pub next-or-read : (e : Expr) (rest : List Terminal) (ready ready' : Conds) (mid now : List Terminal) (x : Cond) (a : NextOr e rest ready mid) → meaning_of_conj scope type_of a.part ≡ Ok x → now ≡ words_of_ors a.more ++ rest →
      ready' ≡ joined ready (cond_and x no_conds) → OrsLeft e rest ready' now
  next-or-read e rest ready ready' mid now x a part is grown = record {
    left = a.more;
    words = is;
    meant = a.meant ∙ ap (λ (m : Result Conds Fault). next m (λ xs. Ok (or_of xs)))
        (more-ready ready x (meaning_of_conj scope type_of a.part) (meaning_of_ors scope type_of a.more) part ∙ ap (λ (zs : Conds). after zs (meaning_of_ors scope type_of a.more)) (sym grown));
  }

  pub next-or-fault : (e : Expr) (rest : List Terminal) (ready : Conds) (mid : List Terminal) (f : Fault) (a : NextOr e rest ready mid) → meaning_of_conj scope type_of a.part ≡ Err f → meaning_of_expr scope type_of e ≡ Err f
  next-or-fault e rest ready mid f a part =
      a.meant ∙ ap (λ (m : Result Conds Fault). next m (λ xs. Ok (or_of xs))) (no-more ready f (meaning_of_conj scope type_of a.part) (meaning_of_ors scope type_of a.more) part)

  -- no part is left
  or-end : (e : Expr) (rest : List Terminal) (ready : Conds) (left : Ors) (now : List Terminal) → BeginsNot (t_key Or) now → now ≡ words_of_ors left ++ rest →
      meaning_of_expr scope type_of e ≡ next (after ready (meaning_of_ors scope type_of left)) (λ xs. Ok (or_of xs)) → (meaning_of_expr scope type_of e ≡ Ok (or_of ready)) × (now ≡ rest)
  or-end e rest ready no_or now absent is meant = (meant ∙ ap (λ (zs : Conds). Ok (or_of zs)) (joined-nil ready), is)
  or-end e rest ready (or_conj k c cs) now absent is meant = absurd (absent _ (k, is))

  pub last-or : (e : Expr) (rest : List Terminal) (ready : Conds) (now : List Terminal) → BeginsNot (t_key Or) now → OrsLeft e rest ready now → (meaning_of_expr scope type_of e ≡ Ok (or_of ready)) × (now ≡ rest)
  last-or e rest ready now absent a = or-end e rest ready a.left now absent a.words a.meant

  -- the AND of parts that are read, and of those that are left
  pub record AndsLeft (e : Conj) (rest : List Terminal) (ready : Conds) (now : List Terminal) : Type 0 where
    pub left : Ands
    pub words : now ≡ words_of_ands left ++ rest
    pub meant : meaning_of_conj scope type_of e ≡ next (after ready (meaning_of_ands scope type_of left)) (λ xs. Ok (and_of xs))

  -- the first part
  pub record FirstAnd (e : Conj) (rest old : List Terminal) : Type 0 where
    pub part : Neg
    pub more : Ands
    pub tree : e ≡ both_of part more
    pub ends : ends_atom (words_of_ands more ++ rest) ≡ true
    pub words : old ≡ words_of_neg part ++ (words_of_ands more ++ rest)

  pub first-and : (e : Conj) (rest old : List Terminal) → ends_conj rest ≡ true → old ≡ words_of_conj e ++ rest → FirstAnd e rest old
  first-and (both_of c cs) rest old ends is = record {
    part = c;
    more = cs;
    tree = refl;
    ends = ands-end cs rest ends;
    words = is ∙ append_assoc (words_of_neg c) (words_of_ands cs) rest;
  }

  pub first-and-read : (e : Conj) (rest old now : List Terminal) (ready : Conds) (x : Cond) (a : FirstAnd e rest old) → meaning_of_neg scope type_of a.part ≡ Ok x → now ≡ words_of_ands a.more ++ rest → ready ≡ cond_and x no_conds → AndsLeft e rest ready now
  first-and-read e rest old now ready x a part is one = record {
    left = a.more;
    words = is;
    meant = ap (meaning_of_conj scope type_of) a.tree ∙ ap (λ (m : Result Conds Fault). next m (λ xs. Ok (and_of xs))) (first-ready x (meaning_of_neg scope type_of a.part) (meaning_of_ands scope type_of a.more) part ∙ ap (λ (zs : Conds). after zs (meaning_of_ands scope type_of a.more)) (sym one));
  }

  pub first-and-fault : (e : Conj) (rest old : List Terminal) (f : Fault) (a : FirstAnd e rest old) → meaning_of_neg scope type_of a.part ≡ Err f → meaning_of_conj scope type_of e ≡ Err f
  first-and-fault e rest old f a part =
      ap (meaning_of_conj scope type_of) a.tree ∙ ap (λ (m : Result Conds Fault). next m (λ xs. Ok (and_of xs))) (first-fault f (meaning_of_neg scope type_of a.part) (meaning_of_ands scope type_of a.more) part)

  -- the part after AND
  pub record NextAnd (e : Conj) (rest : List Terminal) (ready : Conds) (left : List Terminal) : Type 0 where
    pub part : Neg
    pub more : Ands
    pub ends : ends_atom (words_of_ands more ++ rest) ≡ true
    pub words : left ≡ words_of_neg part ++ (words_of_ands more ++ rest)
    pub meant : meaning_of_conj scope type_of e ≡ next (after ready (then_parts (meaning_of_neg scope type_of part) (meaning_of_ands scope type_of more))) (λ xs. Ok (and_of xs))

  and-by : (e : Conj) (rest : List Terminal) (ready : Conds) (left : Ands) (now mid : List Terminal) (t : Token) → ends_conj rest ≡ true → now ≡ t_key And t ∷ mid → now ≡ words_of_ands left ++ rest →
      meaning_of_conj scope type_of e ≡ next (after ready (meaning_of_ands scope type_of left)) (λ xs. Ok (and_of xs)) → NextAnd e rest ready mid
  and-by e rest ready no_and now mid t ends took is meant = absurd (tested ends_conj rest (t_key And t ∷ mid) ends refl (sym is ∙ took))
  and-by e rest ready (and_neg k c cs) now mid t ends took is meant =
      let same : t_key And t ∷ mid ≡ t_key And k ∷ ((words_of_neg c ++ words_of_ands cs) ++ rest) = sym took ∙ is in
      let words : mid ≡ (words_of_neg c ++ words_of_ands cs) ++ rest = cc (same) in
      record { part = c; more = cs; ends = ands-end cs rest ends; words = words ∙ append_assoc (words_of_neg c) (words_of_ands cs) rest; meant = meant }

  pub next-and : (e : Conj) (rest : List Terminal) (ready : Conds) (now mid : List Terminal) (t : Token) → ends_conj rest ≡ true → now ≡ t_key And t ∷ mid → AndsLeft e rest ready now → NextAnd e rest ready mid
  next-and e rest ready now mid t ends took a = and-by e rest ready a.left now mid t ends took a.words a.meant

  pub next-and-read : (e : Conj) (rest : List Terminal) (ready ready' : Conds) (mid now : List Terminal) (x : Cond) (a : NextAnd e rest ready mid) → meaning_of_neg scope type_of a.part ≡ Ok x → now ≡ words_of_ands a.more ++ rest →
      ready' ≡ joined ready (cond_and x no_conds) → AndsLeft e rest ready' now
  next-and-read e rest ready ready' mid now x a part is grown = record {
    left = a.more;
    words = is;
    meant = a.meant ∙ ap (λ (m : Result Conds Fault). next m (λ xs. Ok (and_of xs)))
        (more-ready ready x (meaning_of_neg scope type_of a.part) (meaning_of_ands scope type_of a.more) part ∙ ap (λ (zs : Conds). after zs (meaning_of_ands scope type_of a.more)) (sym grown));
  }

  pub next-and-fault : (e : Conj) (rest : List Terminal) (ready : Conds) (mid : List Terminal) (f : Fault) (a : NextAnd e rest ready mid) → meaning_of_neg scope type_of a.part ≡ Err f → meaning_of_conj scope type_of e ≡ Err f
  next-and-fault e rest ready mid f a part =
      a.meant ∙ ap (λ (m : Result Conds Fault). next m (λ xs. Ok (and_of xs))) (no-more ready f (meaning_of_neg scope type_of a.part) (meaning_of_ands scope type_of a.more) part)

  -- no part is left
  and-end : (e : Conj) (rest : List Terminal) (ready : Conds) (left : Ands) (now : List Terminal) → BeginsNot (t_key And) now → now ≡ words_of_ands left ++ rest →
      meaning_of_conj scope type_of e ≡ next (after ready (meaning_of_ands scope type_of left)) (λ xs. Ok (and_of xs)) → (meaning_of_conj scope type_of e ≡ Ok (and_of ready)) × (now ≡ rest)
  and-end e rest ready no_and now absent is meant = (meant ∙ ap (λ (zs : Conds). Ok (and_of zs)) (joined-nil ready), is)
  and-end e rest ready (and_neg k c cs) now absent is meant = absurd (absent _ (k, is))

  pub last-and : (e : Conj) (rest : List Terminal) (ready : Conds) (now : List Terminal) → BeginsNot (t_key And) now → AndsLeft e rest ready now → (meaning_of_conj scope type_of e ≡ Ok (and_of ready)) × (now ≡ rest)
  last-and e rest ready now absent a = and-end e rest ready a.left now absent a.words a.meant
