-- WHERE where it is next, and where it is not.
use Rattle.std.proofs.Common.{◌≡◌, true, not, List, [], ◌∷◌, ◌++◌, map, Result, Ok, Err, IsErrAnd, refl, sym, ap, ◌∙◌, subst}
use Rattle.std.proofs.lemmas.Bool.{and_parts, true≢false}
use Rattle.pg_base.specs.declared.faults.Fault.{Fault}
use Rattle.pg_base.specs.declared.faults.Refusal.{Refusal}
use Rattle.pg_base.specs.declared.faults.Refusal.TheVariants as refusal
use Rattle.pg_value.specs.declared.value.SqlType.{SqlType}
use Rattle.pg_expr.specs.declared.operand.ColRef.{ColRef}
use Rattle.pg_expr.specs.declared.expr.Expr.{Expr as ExprRead}
use Rattle.pg_expr.specs.declared.expr.Exprs.{Exprs}
use Rattle.pg_expr.specs.Cond.{Cond}
use Rattle.pg_expr.specs.Conjuncts.{conjuncts_of}
use Rattle.pg_expr.specs.work.View.{cond, conds}
use Rattle.eq_classes.specs.Classes.{listed}
use Rattle.sql_lex.specs.declared.tokens.Token.{Token}
use Rattle.sql_grammar.specs.Terminals.{Terminal, t_key}
use Rattle.sql_grammar.specs.declared.class.Word.TheVariants.{Where as WhereKey}
use Rattle.sql_grammar.specs.Syntax.{Expr, Where, no_where, where_expr}
use Rattle.sql_grammar.specs.work.Unique.{ends_expr}
use Rattle.sql_grammar.specs.Words.{words_of_expr, words_of_where}
use Rattle.expr_reader.specs.work.Reading.{BeginsNot}
use Rattle.expr_reader.specs.Conditions.{meaning_of_expr, next}
use Rattle.expr_reader.specs.work.Reads.{Reads}
use Rattle.expr_reader.specs.Scope.{Scope}
use Rattle.query_reader.specs.Binding.{conjuncts_written}
use Rattle.query_reader.specs.From.{conjuncts_of_expr}
use Rattle.query_reader.specs.work.Ends.{begins_where, ends_where}
use Rattle.query_reader.proofs.ConjunctLemmas.{listed-as}

-- the conditions that expressions stand for
abbrev pub seen : Exprs → List Cond
seen es = map cond es.items.items

-- WHERE is next: its expression
pub record There (w : Where) (rest left : List Terminal) : Type 0 where
  pub key : Token
  pub condition : Expr
  pub is : w ≡ where_expr key condition
  pub ends : ends_expr rest ≡ true
  pub words : left ≡ words_of_expr condition ++ rest

pub there : (w : Where) (rest left : List Terminal) (k : Token) → ends_where rest ≡ true → t_key WhereKey k ∷ left ≡ words_of_where w ++ rest → There w rest left
there no_where rest left k ends is = absurd (true≢false (sym (and_parts (not (begins_where rest)) (ends_expr rest) ends).0 ∙ ap (λ ts. not (begins_where ts)) (sym is)))
there (where_expr key e) rest left k ends is = record {
  key = key;
  condition = e;
  is = refl;
  ends = (and_parts (not (begins_where rest)) (ends_expr rest) ends).1;
  words = cc;
}

module _ (scope : Scope) (type_of : ColRef → SqlType) where
  -- WHERE is not next
  pub no-condition : (w : Where) (rest old new : List Terminal) (es : Exprs) → es.items.items ≡ [] → new ≡ old → BeginsNot (t_key WhereKey) old → old ≡ words_of_where w ++ rest →
      Reads seen (conjuncts_written scope type_of w) rest (Ok es) new
  no-condition no_where rest old new es none left absent is = (ap (λ l. map cond l) none, left ∙ is)
  no-condition (where_expr k e) rest old new es none left absent is = absurd (absent (words_of_expr e ++ rest) (k, is))

  stopped-by : (m : Result Cond Fault) (rest new other : List Terminal) (f : Refusal) (r : Result Exprs Refusal) → Reads cond m rest (Err f) new → IsErrAnd r (λ g. g ≡ f) →
      Reads seen (next m (λ c. Ok (listed (conjuncts_of c)))) rest r other
  stopped-by m rest new other f (Ok es) told stop = absurd stop
  stopped-by (Ok c) rest new other refusal.Memory (Err g) told stop = rw stop tt
  stopped-by (Ok c) rest new other (refusal.Fault h) (Err g) told stop = absurd told
  stopped-by (Err x) rest new other refusal.Memory (Err g) told stop = rw stop tt
  stopped-by (Err x) rest new other (refusal.Fault h) (Err g) told stop = rw stop told

  read-by : (m : Result Cond Fault) (rest new : List Terminal) (x : ExprRead) (es : Exprs) → Reads cond m rest (Ok x) new → conds es.items.items ≡ conjuncts_of (cond x) →
      Reads seen (next m (λ c. Ok (listed (conjuncts_of c)))) rest (Ok es) new
  read-by (Ok c) rest new x es told listed-parts = (listed-as es.items.items (conjuncts_of (cond x)) listed-parts ∙ ap (λ d. listed (conjuncts_of d)) told.0, told.1)
  read-by (Err f) rest new x es told listed-parts = absurd told

  -- an expression that is refused
  pub condition-stopped : (e : Expr) (rest new : List Terminal) (f : Refusal) (r : Result Exprs Refusal) → Reads cond (meaning_of_expr scope type_of e) rest (Err f) new → IsErrAnd r (λ g. g ≡ f) →
      Reads seen (conjuncts_of_expr scope type_of e) rest r new
  condition-stopped e rest new f r told stop = stopped-by (meaning_of_expr scope type_of e) rest new new f r told stop

  -- an expression that is read, and taken apart
  pub condition-read : (e : Expr) (rest new : List Terminal) (x : ExprRead) (es : Exprs) → Reads cond (meaning_of_expr scope type_of e) rest (Ok x) new → conds es.items.items ≡ conjuncts_of (cond x) →
      Reads seen (conjuncts_of_expr scope type_of e) rest (Ok es) new
  condition-read e rest new x es told listed-parts = read-by (meaning_of_expr scope type_of e) rest new x es told listed-parts

  -- WHERE before it
  pub where-read : (w : Where) (rest left new : List Terminal) (r : Result Exprs Refusal) → There w rest left →
      ((e : Expr) (rest : List Terminal) → ends_expr rest ≡ true → left ≡ words_of_expr e ++ rest → Reads seen (conjuncts_of_expr scope type_of e) rest r new) →
      Reads seen (conjuncts_written scope type_of w) rest r new
  where-read w rest left new r at told =
      subst (λ (v : Where). Reads seen (conjuncts_written scope type_of v) rest r new) (sym at.is) (told at.condition rest at.ends at.words)
