-- The comparisons for which IN and BETWEEN stand: those that are read, and those that are left.
use Rattle.std.proofs.Common.{◌≡◌, ◌≢◌, ℕ, Bool, true, false, List, [], ◌∷◌, ◌++◌, Result, Ok, Err, refl, sym, ap, ap₂, subst, ◌∙◌, append_assoc, codes}
use Rattle.pg_base.specs.declared.faults.Fault.{Fault}
use Rattle.pg_value.specs.declared.value.SqlType.{SqlType}
use Rattle.pg_expr.specs.declared.operand.ColRef.{ColRef}
use Rattle.pg_expr.specs.Cond.{Cond, Conds, no_conds, cond_and, negation, joined}
use Rattle.pg_expr.proofs.CondLaws.{joined-nil}
use Rattle.sql_lex.specs.declared.tokens.Token.{Token}
use Rattle.sql_grammar.specs.declared.class.Free.TheVariants.{Between, In}
use Rattle.sql_grammar.specs.declared.class.Word.TheVariants.{And, Is, Not}
use Rattle.sql_grammar.specs.declared.class.Symbol.TheVariants.{Close, Comma, Open}
use Rattle.sql_grammar.specs.Terminals.{Terminal, free, t_key, t_mark, t_name}
use Rattle.sql_grammar.specs.Syntax.{Mark, Key, Lit, OperandTree, column, literal, Col, Negated, no_not, not_before, Atom, parens, compare, is_null, is_not_null, in_list, between, column_alone, constant_alone}
use Rattle.sql_grammar.specs.work.Unique.{ends_operand, ends_atom, is_parens, front, tail}
use Rattle.sql_grammar.specs.Words.{words_of_bounds, words_of_lit, words_of_operand}
use Rattle.sql_grammar.proofs.ExprTrees.{tested, atom-dotless}
use Rattle.expr_reader.specs.declared.written.Literal.{Literal}
use Rattle.expr_reader.specs.declared.written.Side.{Side as SideRead}
use Rattle.expr_reader.specs.declared.written.Side.TheVariants.{Column, Literal as LiteralSide}
use Rattle.expr_reader.specs.work.Reading.{Begins, BeginsNot, BeginsNoOperator, free_name}
use Rattle.expr_reader.specs.Conditions.{next, then_parts, standing_for, negated_by, literals_after, equal_to, bounded_by, comparison, or_of, and_of, BoundSide, of_column, of_literal, of_typed, side_of, compare_sides, meaning_of_atom}
use Rattle.expr_reader.specs.work.Expressions.{against, each_equal}
use Rattle.expr_reader.specs.Scope.{Scope}
use Rattle.expr_reader.specs.work.Written.{literal_of, side_read}
use Rattle.expr_reader.proofs.AtomLemmas.{NoList, no-column, no-typed-column}
use Rattle.expr_reader.proofs.PartLemmas.{after, first-ready, first-fault, more-ready, no-more}

-- the AND of two parts
abbrev pub both : Result Cond Fault → Result Cond Fault → Result Cond Fault
both p q = next (then_parts p (then_parts q (Ok no_conds))) (λ xs. Ok (and_of xs))

pub first-of-both : (p q : Result Cond Fault) (f : Fault) → p ≡ Err f → both p q ≡ Err f
first-of-both p q f is = ap (λ r. both r q) is

pub second-of-both : (p q : Result Cond Fault) (x : Cond) (f : Fault) → p ≡ Ok x → q ≡ Err f → both p q ≡ Err f
second-of-both p q x f first is = ap (λ r. both r q) first ∙ ap (λ r. both (Ok x) r) is

pub both-read : (p q : Result Cond Fault) (x y : Cond) (xs : Conds) → p ≡ Ok x → q ≡ Ok y → xs ≡ cond_and x (cond_and y no_conds) → Ok (and_of xs) ≡ both p q
both-read p q x y xs first second is = ap (λ (zs : Conds). Ok (and_of zs)) is ∙ sym (ap (λ r. both r q) first ∙ ap (λ r. both (Ok x) r) second)

-- one of the comparisons of IN
abbrev pub equal_one : BoundSide → Token → Lit → Result Cond Fault
equal_one s word l = compare_sides (standing_for (codes "=") word) s (of_literal l)

-- the comparisons of IN, of which some are read and others left
pub record EqualsLeft (s : BoundSide) (word : Token) (all : Result Conds Fault) (rest : List Terminal) (ready : Conds) (now : List Terminal) : Type 0 where
  pub left : List (Mark × Lit)
  pub words : now ≡ words_of_bounds left ++ rest
  pub meant : all ≡ after ready (each_equal s word (literals_after left))

pub first-equal : (s : BoundSide) (word : Token) (l : Lit) (ls : List (Mark × Lit)) (rest now : List Terminal) (ready : Conds) (x : Cond) → equal_one s word l ≡ Ok x → now ≡ words_of_bounds ls ++ rest → ready ≡ cond_and x no_conds →
    EqualsLeft s word (each_equal s word (l ∷ literals_after ls)) rest ready now
first-equal s word l ls rest now ready x part is one = record {
  left = ls;
  words = is;
  meant = first-ready x (equal_one s word l) (each_equal s word (literals_after ls)) part ∙ ap (λ (zs : Conds). after zs (each_equal s word (literals_after ls))) (sym one);
}

pub first-equal-fault : (s : BoundSide) (word : Token) (l : Lit) (ls : List (Mark × Lit)) (f : Fault) → equal_one s word l ≡ Err f → each_equal s word (l ∷ literals_after ls) ≡ Err f
first-equal-fault s word l ls f part = first-fault f (equal_one s word l) (each_equal s word (literals_after ls)) part

-- their OR
abbrev pub any : Result Conds Fault → Result Cond Fault
any all = next all (λ xs. Ok (or_of xs))

pub any-fault : (all : Result Conds Fault) (f : Fault) → all ≡ Err f → any all ≡ Err f
any-fault all f is = ap any is

pub any-read : (all : Result Conds Fault) (xs : Conds) → all ≡ Ok xs → Ok (or_of xs) ≡ any all
any-read all xs is = sym (ap any is)

-- the literal behind a comma
pub record NextEqual (s : BoundSide) (word : Token) (all : Result Conds Fault) (rest : List Terminal) (ready : Conds) (mid : List Terminal) : Type 0 where
  pub part : Lit
  pub more : List (Mark × Lit)
  pub words : mid ≡ words_of_lit part ++ (words_of_bounds more ++ rest)
  pub meant : all ≡ after ready (then_parts (equal_one s word part) (each_equal s word (literals_after more)))

equal-by : (s : BoundSide) (word : Token) (all : Result Conds Fault) (m : Mark) (rest : List Terminal) (ready : Conds) (left : List (Mark × Lit)) (now mid : List Terminal) (t : Token) → now ≡ t_mark Comma t ∷ mid → now ≡ words_of_bounds left ++ t_mark Close m ∷ rest →
    all ≡ after ready (each_equal s word (literals_after left)) → NextEqual s word all (t_mark Close m ∷ rest) ready mid
equal-by s word all m rest ready [] now mid t took is meant = absurd (cc (took, is))
equal-by s word all m rest ready ((j, l) ∷ ls) now mid t took is meant =
    let same : t_mark Comma t ∷ mid ≡ t_mark Comma j ∷ ((words_of_lit l ++ words_of_bounds ls) ++ t_mark Close m ∷ rest) = sym took ∙ is in
    let words : mid ≡ (words_of_lit l ++ words_of_bounds ls) ++ t_mark Close m ∷ rest = cc (same) in
    record { part = l; more = ls; words = words ∙ append_assoc (words_of_lit l) (words_of_bounds ls) (t_mark Close m ∷ rest); meant = meant }

pub next-equal : (s : BoundSide) (word : Token) (all : Result Conds Fault) (m : Mark) (rest : List Terminal) (ready : Conds) (now mid : List Terminal) (t : Token) → now ≡ t_mark Comma t ∷ mid → EqualsLeft s word all (t_mark Close m ∷ rest) ready now →
    NextEqual s word all (t_mark Close m ∷ rest) ready mid
next-equal s word all m rest ready now mid t took a = equal-by s word all m rest ready a.left now mid t took a.words a.meant

pub next-equal-read : (s : BoundSide) (word : Token) (all : Result Conds Fault) (rest : List Terminal) (ready ready' : Conds) (mid now : List Terminal) (x : Cond) (a : NextEqual s word all rest ready mid) → equal_one s word a.part ≡ Ok x → now ≡ words_of_bounds a.more ++ rest →
    ready' ≡ joined ready (cond_and x no_conds) → EqualsLeft s word all rest ready' now
next-equal-read s word all rest ready ready' mid now x a part is grown = record {
  left = a.more;
  words = is;
  meant = a.meant ∙ (more-ready ready x (equal_one s word a.part) (each_equal s word (literals_after a.more)) part ∙ ap (λ (zs : Conds). after zs (each_equal s word (literals_after a.more))) (sym grown));
}

pub next-equal-fault : (s : BoundSide) (word : Token) (all : Result Conds Fault) (rest : List Terminal) (ready : Conds) (mid : List Terminal) (f : Fault) (a : NextEqual s word all rest ready mid) → equal_one s word a.part ≡ Err f → all ≡ Err f
next-equal-fault s word all rest ready mid f a part = a.meant ∙ no-more ready f (equal_one s word a.part) (each_equal s word (literals_after a.more)) part

equal-end : (s : BoundSide) (word : Token) (all : Result Conds Fault) (rest : List Terminal) (ready : Conds) (left : List (Mark × Lit)) (now : List Terminal) → BeginsNot (t_mark Comma) now → now ≡ words_of_bounds left ++ rest →
    all ≡ after ready (each_equal s word (literals_after left)) → (all ≡ Ok ready) × (now ≡ rest)
equal-end s word all rest ready [] now absent is meant = (meant ∙ ap (λ (zs : Conds). Ok zs) (joined-nil ready), is)
equal-end s word all rest ready ((j, l) ∷ ls) now absent is meant = absurd (absent _ (j, is))

pub last-equal : (s : BoundSide) (word : Token) (all : Result Conds Fault) (rest : List Terminal) (ready : Conds) (now : List Terminal) → BeginsNot (t_mark Comma) now → EqualsLeft s word all rest ready now → (all ≡ Ok ready) × (now ≡ rest)
last-equal s word all rest ready now absent a = equal-end s word all rest ready a.left now absent a.words a.meant

-- a condition, negated or not
abbrev pub perhaps_negated : Negated → Result Cond Fault → Result Cond Fault
perhaps_negated n m = next m (λ x. Ok (negated_by n x))

negated-whole : (m : Result Conds Fault) (n : Negated) (whole : Conds → Cond) → next m (λ xs. Ok (negated_by n (whole xs))) ≡ perhaps_negated n (next m (λ xs. Ok (whole xs)))
negated-whole (Ok xs) n whole = refl
negated-whole (Err f) n whole = refl

-- NOT is written
abbrev pub is_written : Negated → Bool
is_written no_not = false
is_written (not_before k) = true

pub negated-read : (n : Negated) (b : Bool) (m : Result Cond Fault) (e x : Cond) → is_written n ≡ b → m ≡ Ok e → (b ≡ false → x ≡ e) → (b ≡ true → x ≡ negation e) → Ok x ≡ perhaps_negated n m
negated-read no_not b m e x is meant plain not = ap (λ (z : Cond). Ok z) (plain (sym is)) ∙ sym (ap (perhaps_negated no_not) meant)
negated-read (not_before k) b m e x is meant plain not = ap (λ (z : Cond). Ok z) (not (sym is)) ∙ sym (ap (perhaps_negated (not_before k)) meant)

-- whether NOT was taken
pub record TakesNot (b : Bool) (old mid : List Terminal) : Type 0 where
  pub took : b ≡ true → Begins (t_key Not) old mid
  pub left : b ≡ false → mid ≡ old
  pub other : b ≡ false → BeginsNot (t_key Not) old

-- the words behind the NOT that may stand there
not-taken : (x old mid : List Terminal) (k : Token) (b : Bool) → TakesNot b old mid → old ≡ t_key Not k ∷ x → (b ≡ true) × (mid ≡ x)
not-taken x old mid k true t is = let (j, took) = t.took refl in (refl, cc (took, is))
not-taken x old mid k false t is = absurd (t.other refl x (k, is))

no-not-taken : (w : Terminal) (x old mid : List Terminal) (b : Bool) → ((k : Token) → ¬ (w ≡ t_key Not k)) → TakesNot b old mid → old ≡ w ∷ x → (b ≡ false) × (mid ≡ w ∷ x)
no-not-taken w x old mid true apart t is = let (j, took) = t.took refl in absurd (apart j (cc (took, is)))
no-not-taken w x old mid false apart t is = (refl, t.left refl ∙ is)

-- at a list's end no word of IN or BETWEEN is left
ended : (rest old mid left : List Terminal) (w : Token) (b : Bool) → ends_atom rest ≡ true → TakesNot b old mid → old ≡ rest → (mid ≡ t_name (free Between w) ∷ left) → ⊥
ended rest old mid left w true ends t is ahead = let (j, took) = t.took refl in tested ends_atom rest (t_key Not j ∷ mid) ends refl (sym is ∙ took)
ended rest old mid left w false ends t is ahead = tested ends_atom rest (t_name (free Between w) ∷ left) ends refl (sym is ∙ (sym (t.left refl) ∙ ahead))

ended-in : (rest old mid left : List Terminal) (w : Token) (b : Bool) → ends_atom rest ≡ true → TakesNot b old mid → old ≡ rest → (mid ≡ t_name (free In w) ∷ left) → ⊥
ended-in rest old mid left w true ends t is ahead = let (j, took) = t.took refl in tested ends_atom rest (t_key Not j ∷ mid) ends refl (sym is ∙ took)
ended-in rest old mid left w false ends t is ahead = tested ends_atom rest (t_name (free In w) ∷ left) ends refl (sym is ∙ (sym (t.left refl) ∙ ahead))

module _ (scope : Scope) (type_of : ColRef → SqlType) where
  -- a condition that BETWEEN makes, of which BETWEEN is taken
  pub record IsRange (a : Atom) (s : BoundSide) (b : Bool) (word : Token) (rest left : List Terminal) : Type 0 where
    pub negated : Negated
    pub low : OperandTree
    pub and_at : Key
    pub high : OperandTree
    pub taken : is_written negated ≡ b
    pub ends : ends_operand rest ≡ true
    pub words : left ≡ words_of_operand low ++ t_key And and_at ∷ (words_of_operand high ++ rest)
    pub meant : meaning_of_atom scope type_of a ≡ perhaps_negated negated (both (against scope type_of s (codes ">=") word low) (against scope type_of s (codes "<=") word high))

  range-meant : (l : OperandTree) (n : Negated) (w : Token) (low high : OperandTree) (s : BoundSide) (word : Token) → side_of scope type_of l ≡ Ok s → w ≡ word →
      next (bounded_by scope type_of l w low high) (λ xs. Ok (negated_by n (and_of xs))) ≡ perhaps_negated n (both (against scope type_of s (codes ">=") word low) (against scope type_of s (codes "<=") word high))
  range-meant l n w low high s word side same =
      negated-whole (bounded_by scope type_of l w low high) n and_of ∙
      (ap (λ x. perhaps_negated n (both (next x (λ a. next (side_of scope type_of low) (λ y. compare_sides (standing_for (codes ">=") w) a y))) (next x (λ a. next (side_of scope type_of high) (λ y. compare_sides (standing_for (codes "<=") w) a y))))) side ∙
      ap (λ v. perhaps_negated n (both (against scope type_of s (codes ">=") v low) (against scope type_of s (codes "<=") v high))) same)

  pub range-next : (a : Atom) (s : BoundSide) (rest old mid left : List Terminal) (b : Bool) (word : Token) → is_parens a ≡ false → ends_atom rest ≡ true → side_of scope type_of (front a) ≡ Ok s → old ≡ tail a rest → BeginsNoOperator old →
      TakesNot b old mid → mid ≡ t_name (free Between word) ∷ left → IsRange a s b word rest left
  range-next (parens o e d) s rest old mid left b word flat ends side is none t ahead = absurd (cc (flat))
  range-next (compare l op u) s rest old mid left b word flat ends side is none t ahead = absurd (none op (words_of_operand u ++ rest) is)
  range-next (is_null c i k) s rest old mid left b word flat ends side is none t ahead =
      let (taken, same) = no-not-taken (t_key Is i) _ old mid b (λ j e. cc (e)) t is in absurd (cc (same, ahead))
  range-next (is_not_null c i n k) s rest old mid left b word flat ends side is none t ahead =
      let (taken, same) = no-not-taken (t_key Is i) _ old mid b (λ j e. cc (e)) t is in absurd (cc (same, ahead))
  range-next (in_list u c no_not w p l ls m) s rest old mid left b word flat ends side is none t ahead =
      let (taken, same) = no-not-taken (t_name (free In w)) _ old mid b (λ j e. cc (e)) t is in absurd (cc (same, ahead))
  range-next (in_list u c (not_before z) w p l ls m) s rest old mid left b word flat ends side is none t ahead =
      let (taken, same) = not-taken _ old mid z b t is in absurd (cc (same, ahead))
  range-next (between u l no_not w low k high) s rest old mid left b word flat ends side is none t ahead =
      let (taken, same) = no-not-taken (t_name (free Between w)) _ old mid b (λ j e. cc (e)) t is in
      let words : t_name (free Between word) ∷ left ≡ t_name (free Between w) ∷ ((words_of_operand low ++ t_key And k ∷ (words_of_operand high ++ rest))) = sym ahead ∙ same in
      record { negated = no_not; low = low; and_at = k; high = high; taken = sym taken; ends = atom-dotless rest ends; words = cc (words); meant = range-meant l no_not w low high s word side (cc (words)) }
  range-next (between u l (not_before z) w low k high) s rest old mid left b word flat ends side is none t ahead =
      let (taken, same) = not-taken _ old mid z b t is in
      let words : t_name (free Between word) ∷ left ≡ t_name (free Between w) ∷ ((words_of_operand low ++ t_key And k ∷ (words_of_operand high ++ rest))) = sym ahead ∙ same in
      record { negated = not_before z; low = low; and_at = k; high = high; taken = sym taken; ends = atom-dotless rest ends; words = cc (words); meant = range-meant l (not_before z) w low high s word side (cc (words)) }
  range-next (column_alone c) s rest old mid left b word flat ends side is none t ahead = absurd (ended rest old mid left word b ends t is ahead)
  range-next (constant_alone k d) s rest old mid left b word flat ends side is none t ahead = absurd (ended rest old mid left word b ends t is ahead)

  -- a condition that IN makes, of which IN is taken
  pub record IsListed (a : Atom) (s : BoundSide) (b : Bool) (word : Token) (rest left : List Terminal) : Type 0 where
    pub negated : Negated
    pub col : Col
    pub open_at : Mark
    pub one : Lit
    pub more : List (Mark × Lit)
    pub close_at : Mark
    pub taken : is_written negated ≡ b
    pub side : side_of scope type_of (column col) ≡ Ok s
    pub words : left ≡ t_mark Open open_at ∷ (words_of_lit one ++ (words_of_bounds more ++ t_mark Close close_at ∷ rest))
    pub meant : meaning_of_atom scope type_of a ≡ perhaps_negated negated (next (each_equal s word (one ∷ literals_after more)) (λ xs. Ok (or_of xs)))

  equal-each : (c : Col) (w : Token) (s : BoundSide) (ls : List Lit) → side_of scope type_of (column c) ≡ Ok s → equal_to scope type_of c w ls ≡ each_equal s w ls
  equal-each c w s [] side = refl
  equal-each c w s (l ∷ ls) side = ap₂ then_parts (ap (λ m. next m (λ a. compare_sides (standing_for (codes "=") w) a (of_literal l))) side) (equal-each c w s ls side)

  list-meant : (c : Col) (n : Negated) (w : Token) (ls : List Lit) (s : BoundSide) (word : Token) → side_of scope type_of (column c) ≡ Ok s → w ≡ word →
      next (equal_to scope type_of c w ls) (λ xs. Ok (negated_by n (or_of xs))) ≡ perhaps_negated n (next (each_equal s word ls) (λ xs. Ok (or_of xs)))
  list-meant c n w ls s word side same =
      negated-whole (equal_to scope type_of c w ls) n or_of ∙
      (ap (λ m. perhaps_negated n (next m (λ xs. Ok (or_of xs)))) (equal-each c w s ls side) ∙
      ap (λ v. perhaps_negated n (next (each_equal s v ls) (λ xs. Ok (or_of xs)))) same)

  pub list-next : (a : Atom) (s : BoundSide) (rest old mid left : List Terminal) (b : Bool) (word : Token) → is_parens a ≡ false → ends_atom rest ≡ true → side_of scope type_of (front a) ≡ Ok s → old ≡ tail a rest → BeginsNoOperator old →
      TakesNot b old mid → mid ≡ t_name (free In word) ∷ left → IsListed a s b word rest left
  list-next (parens o e d) s rest old mid left b word flat ends side is none t ahead = absurd (cc (flat))
  list-next (compare l op u) s rest old mid left b word flat ends side is none t ahead = absurd (none op (words_of_operand u ++ rest) is)
  list-next (is_null c i k) s rest old mid left b word flat ends side is none t ahead =
      let (taken, same) = no-not-taken (t_key Is i) _ old mid b (λ j e. cc (e)) t is in absurd (cc (same, ahead))
  list-next (is_not_null c i n k) s rest old mid left b word flat ends side is none t ahead =
      let (taken, same) = no-not-taken (t_key Is i) _ old mid b (λ j e. cc (e)) t is in absurd (cc (same, ahead))
  list-next (between u l no_not w low k high) s rest old mid left b word flat ends side is none t ahead =
      let (taken, same) = no-not-taken (t_name (free Between w)) _ old mid b (λ j e. cc (e)) t is in absurd (cc (same, ahead))
  list-next (between u l (not_before z) w low k high) s rest old mid left b word flat ends side is none t ahead =
      let (taken, same) = not-taken _ old mid z b t is in absurd (cc (same, ahead))
  list-next (in_list u c no_not w p l ls m) s rest old mid left b word flat ends side is none t ahead =
      let (taken, same) = no-not-taken (t_name (free In w)) _ old mid b (λ j e. cc (e)) t is in
      let words : t_name (free In word) ∷ left ≡ t_name (free In w) ∷ t_mark Open p ∷ (words_of_lit l ++ (words_of_bounds ls ++ t_mark Close m ∷ rest)) = sym ahead ∙ same in
      record { negated = no_not; col = c; open_at = p; one = l; more = ls; close_at = m; taken = sym taken; side = side; words = cc (words); meant = list-meant c no_not w (l ∷ literals_after ls) s word side (cc (words)) }
  list-next (in_list u c (not_before z) w p l ls m) s rest old mid left b word flat ends side is none t ahead =
      let (taken, same) = not-taken _ old mid z b t is in
      let words : t_name (free In word) ∷ left ≡ t_name (free In w) ∷ t_mark Open p ∷ (words_of_lit l ++ (words_of_bounds ls ++ t_mark Close m ∷ rest)) = sym ahead ∙ same in
      record { negated = not_before z; col = c; open_at = p; one = l; more = ls; close_at = m; taken = sym taken; side = side; words = cc (words); meant = list-meant c (not_before z) w (l ∷ literals_after ls) s word side (cc (words)) }
  list-next (column_alone c) s rest old mid left b word flat ends side is none t ahead = absurd (ended-in rest old mid left word b ends t is ahead)
  list-next (constant_alone k d) s rest old mid left b word flat ends side is none t ahead = absurd (ended-in rest old mid left word b ends t is ahead)

  -- the side of a list's column is the column that was read
  pub listed-side : (s : BoundSide) (c : ColRef) (t : SqlType) (first : Token) → Column c t first ≡ side_read s → s ≡ of_column c t first
  listed-side (of_column d u q) c t first is = cc (is)
  listed-side (of_literal l) c t first is = absurd (cc (is))
  listed-side (of_typed n q) c t first is = absurd (cc (is))

  literal-by : (c : Col) (s : BoundSide) (x : Literal) → side_of scope type_of (column c) ≡ Ok s → LiteralSide x ≡ side_read s → ⊥
  literal-by c s x side read = no-column scope type_of _ s _ x side read

  -- the side of a list's column is no literal
  pub listed-column : (a : Atom) (s : BoundSide) (b : Bool) (word : Token) (rest left : List Terminal) (x : Literal) → IsListed a s b word rest left → LiteralSide x ≡ side_read s → ⊥
  listed-column a s b word rest left x at read = literal-by at.col s x at.side read

  -- a side that means a column was read as one
  pub listed-read : (s : BoundSide) (left : SideRead) (col : Col) → side_of scope type_of (column col) ≡ Ok s → left ≡ side_read s → ((c : ColRef) (t : SqlType) (first : Token) → ¬ (left ≡ Column c t first)) → ⊥
  listed-read (of_column c t first) left col side read none = none c t first read
  listed-read (of_literal m) left col side read none = literal-by col (of_literal m) (literal_of m) side refl
  listed-read (of_typed n q) left col side read none = no-typed-column scope type_of _ (of_typed n q) _ _ _ _ side refl

  -- neither IN nor BETWEEN is there, and so no NOT
  pub record IsNoList (old mid : List Terminal) : Type 0 where
    pub same : mid ≡ old
    pub lists : NoList old

  none-left : (rest old mid : List Terminal) (k : Token) → ends_atom rest ≡ true → old ≡ t_key Not k ∷ mid → old ≡ rest → ⊥
  none-left rest old mid k ends took is = tested ends_atom rest (t_key Not k ∷ mid) ends refl (sym is ∙ took)

  pub none-next : (a : Atom) (rest old mid : List Terminal) (b : Bool) → is_parens a ≡ false → ends_atom rest ≡ true → old ≡ tail a rest → BeginsNoOperator old → TakesNot b old mid →
      BeginsNot (free_name Between) mid → BeginsNot (free_name In) mid → IsNoList old mid
  none-next a rest old mid false flat ends is none t range list = record {
    same = t.left refl;
    lists = record { negated = t.other refl; in_list = subst (λ x. BeginsNot (free_name In) x) (t.left refl) list; between = subst (λ x. BeginsNot (free_name Between) x) (t.left refl) range };
  }
  none-next (parens o e d) rest old mid true flat ends is none t range list = absurd (cc (flat))
  none-next (compare l op u) rest old mid true flat ends is none t range list = absurd (none op (words_of_operand u ++ rest) is)
  none-next (is_null c i k) rest old mid true flat ends is none t range list = let (j, took) = t.took refl in absurd (cc (took, is))
  none-next (is_not_null c i n k) rest old mid true flat ends is none t range list = let (j, took) = t.took refl in absurd (cc (took, is))
  none-next (in_list u c no_not w p l ls m) rest old mid true flat ends is none t range list = let (j, took) = t.took refl in absurd (cc (took, is))
  none-next (in_list u c (not_before z) w p l ls m) rest old mid true flat ends is none t range list = let (j, took) = t.took refl in absurd (list (t_mark Open p ∷ (words_of_lit l ++ (words_of_bounds ls ++ t_mark Close m ∷ rest))) (w, cc (took, is)))
  none-next (between u l no_not w low k high) rest old mid true flat ends is none t range list = let (j, took) = t.took refl in absurd (cc (took, is))
  none-next (between u l (not_before z) w low k high) rest old mid true flat ends is none t range list = let (j, took) = t.took refl in absurd (range (words_of_operand low ++ t_key And k ∷ (words_of_operand high ++ rest)) (w, cc (took, is)))
  none-next (column_alone c) rest old mid true flat ends is none t range list = let (j, took) = t.took refl in absurd (none-left rest old mid j ends took is)
  none-next (constant_alone k d) rest old mid true flat ends is none t range list = let (j, took) = t.took refl in absurd (none-left rest old mid j ends took is)
