-- The literals of STATISTICS.
use Rattle.std.proofs.Common.{◌≡◌, true, List, [], ◌∷◌, ◌++◌, drop, refl, sym, ap, ◌∙◌, Result, Ok, Err, append_assoc, OnOk, IfOk}
use Rattle.pg_base.specs.declared.faults.Fault.{Fault}
use Rattle.pg_base.specs.declared.faults.Refusal.{Refusal}
use Rattle.pg_base.specs.declared.faults.Refusal.TheVariants as refusal
use Rattle.pg_value.specs.declared.value.SqlType.{SqlType}
use Rattle.pg_value.specs.declared.value.Value.{Value}
use Rattle.sql_lex.specs.declared.tokens.Token.{Token}
use Rattle.sql_grammar.specs.declared.class.Free.TheVariants.{Common as CommonWord, Histogram as HistogramWord}
use Rattle.sql_grammar.specs.declared.class.Symbol.TheVariants.{Close}
use Rattle.sql_grammar.specs.Terminals.{Terminal, Said, free, t_mark, t_name, t_number}
use Rattle.sql_grammar.specs.Syntax.{Mark, Lit, Share, share, CommonPart, no_common, common, Histogram, no_histogram, histogram}
use Rattle.sql_grammar.specs.Words.{words_of_lit, words_of_share, words_of_shares, words_of_common, words_of_bounds, words_of_histogram}
use Rattle.expr_reader.specs.declared.cursor.Number.{Number}
use Rattle.expr_reader.specs.work.Reading.{numbered, BeginsNot, BeginsNumber}
use Rattle.expr_reader.specs.declared.value.Placed.{Placed}
use Rattle.expr_reader.specs.Literals.{typed_value, place_of_lit}
use Rattle.expr_reader.specs.Conditions.{next}
use Rattle.expr_reader.specs.work.Reads.{Reads as ReadsOn}
use Rattle.ddl_reader.specs.declared.literals.CommonRead.{CommonRead}
use Rattle.ddl_reader.specs.Statistics.{CommonWords, common_words, commons_of, bounds_of}
use Rattle.expr_reader.specs.Lists.{further_parts}
use Rattle.ddl_reader.specs.work.AsMeant.{IsAsMeant, ends_common, ends_histogram, words_of_shares_left, words_of_bounds_left, placed, common_placed}
use Rattle.ddl_reader.proofs.ListLemmas.{Parts}

-- the kinds of list
abbrev pub bound_parts : SqlType → Parts Lit Lit Placed
bound_parts t = record { part = λ x. x; bind = placed t; words = words_of_lit; further = words_of_bounds; none = refl; some = λ m x xs. refl }

abbrev pub share_parts : SqlType → Parts Share CommonWords CommonRead
share_parts t = record { part = common_words; bind = common_placed t; words = words_of_share; further = words_of_shares; none = refl; some = λ m x xs. refl }

-- a literal that is read
literal-by : (m : Result Value Fault) (place : Token) (rest : List Terminal) (r : Result Placed Refusal) (left : List Terminal) → ReadsOn (λ x. x.value) m rest r left → IfOk r (λ x. x.token ≡ place) →
    IsAsMeant Placed Placed (λ x. x) r (next m (λ v. Ok (record { value = v; token = place }))) × OnOk r (left ≡ rest)
literal-by (Ok v) place rest (Ok x) left (is, after) at = (ap (λ b. Ok b) (rw (sym is, sym at) refl), after)
literal-by (Ok v) place rest (Err (refusal.Fault f)) left read at = absurd read
literal-by (Ok v) place rest (Err refusal.Memory) left read at = (tt, tt)
literal-by (Err f) place rest (Ok x) left read at = absurd read
literal-by (Err f) place rest (Err (refusal.Fault g)) left read at = (ap Err (sym read), tt)
literal-by (Err f) place rest (Err refusal.Memory) left read at = (tt, tt)

pub literal-read : (t : SqlType) (l : Lit) (rest : List Terminal) (r : Result Placed Refusal) (left : List Terminal) → ReadsOn (λ x. x.value) (typed_value t l) rest r left → IfOk r (λ x. x.token ≡ place_of_lit l) →
    IsAsMeant Placed Placed (λ x. x) r (placed t l) × OnOk r (left ≡ rest)
literal-read t l rest r left = literal-by (typed_value t l) (place_of_lit l) rest r left

-- a number that is taken
pub numbered-is : (n : Said) (ws : List Terminal) (x : Number) (old new : List Terminal) → old ≡ t_number n ∷ ws → BeginsNumber x old new → (x ≡ numbered n) × (new ≡ ws)
numbered-is n ws x old new is (m, said, e) =
    let same : t_number m ∷ new ≡ t_number n ∷ ws = sym e ∙ is in
    let number : m ≡ n = cc (same) in
    (said ∙ ap numbered number, cc (same))

-- the words of a common value
pub share-words : (s : Share) (rest : List Terminal) → words_of_share s ++ rest ≡ words_of_lit (common_words s).0 ++ t_number (common_words s).1 ∷ rest
share-words (share l n) rest = append_assoc (words_of_lit l) (t_number n ∷ []) rest

-- what is left, by what was read
pub left-of : (old new : List Terminal) (r : Result Placed Refusal) → ((l : Lit) (rest : List Terminal) → old ≡ words_of_lit l ++ rest → OnOk r (new ≡ rest)) →
    OnOk r ((l : Lit) (rest : List Terminal) → old ≡ words_of_lit l ++ rest → new ≡ rest)
left-of old new (Ok x) each = each
left-of old new (Err e) each = tt

-- a common value whose literal is read, and its share; or the literal is wrong
pub share-ok : (t : SqlType) (w : CommonWords) (x : Placed) (n : Number) → placed t w.0 ≡ Ok x → n ≡ numbered w.1 → common_placed t w ≡ Ok (record { literal = x; share = n })
share-ok t w x n is number =
    ap (λ m. next m (λ (p : Placed). Ok (record { literal = p; share = numbered w.1 }))) is ∙ ap (λ (k : Number). Ok (record { literal = x; share = k })) (sym number)

pub share-err : (t : SqlType) (w : CommonWords) (f : Fault) → placed t w.0 ≡ Err f → common_placed t w ≡ Err f
share-err t w f wrong = ap (λ m. next m (λ (p : Placed). Ok (record { literal = p; share = numbered w.1 }))) wrong

-- the words of an optional list end
closes : (words further rest : List Terminal) (m : Mark) → (words ++ (further ++ t_mark Close m ∷ [])) ++ rest ≡ words ++ (further ++ t_mark Close m ∷ rest)
closes words further rest m = append_assoc words (further ++ t_mark Close m ∷ []) rest ∙ ap (λ l. words ++ l) (append_assoc further (t_mark Close m ∷ []) rest)

-- a histogram that is there, whose words after HISTOGRAM are these
pub record HasBounds (h : Histogram) (rest left : List Terminal) : Type 0 where
  pub first : Lit
  pub further : List (Mark × Lit)
  pub close : Mark
  pub is : bounds_of h ≡ first ∷ further_parts (λ l. l) further
  pub words : drop 1 left ≡ words_of_bounds_left first further close rest

pub has-bounds : (h : Histogram) (rest old left : List Terminal) (token : Token) → ends_histogram rest ≡ true → old ≡ t_name (free HistogramWord token) ∷ left → old ≡ words_of_histogram h ++ rest → HasBounds h rest left
has-bounds no_histogram rest old left token ends is e = let wrong = ap ends_histogram (sym is ∙ e) ∙ ends in absurd (cc (wrong))
has-bounds (histogram k o l ls m) rest old left token ends is e =
    record { first = l; further = ls; close = m; is = refl; words = ap (drop 2) (sym is ∙ e) ∙ closes (words_of_lit l) (words_of_bounds ls) rest m }

pub no-bounds : (h : Histogram) (rest old : List Terminal) → BeginsNot (λ token. t_name (free HistogramWord token)) old → old ≡ words_of_histogram h ++ rest → (bounds_of h ≡ []) × (old ≡ rest)
no-bounds no_histogram rest old other e = (refl, e)
no-bounds (histogram k o l ls m) rest old other e = absurd (other _ (k, e))

-- common values that are there, whose words after COMMON are these
pub record HasShares (c : CommonPart) (rest left : List Terminal) : Type 0 where
  pub first : Share
  pub further : List (Mark × Share)
  pub close : Mark
  pub is : commons_of c ≡ common_words first ∷ further_parts common_words further
  pub words : drop 1 left ≡ words_of_shares_left first further close rest

pub has-shares : (c : CommonPart) (rest old left : List Terminal) (token : Token) → ends_common rest ≡ true → old ≡ t_name (free CommonWord token) ∷ left → old ≡ words_of_common c ++ rest → HasShares c rest left
has-shares no_common rest old left token ends is e = let wrong = ap ends_common (sym is ∙ e) ∙ ends in absurd (cc (wrong))
has-shares (common k o s ss m) rest old left token ends is e =
    record { first = s; further = ss; close = m; is = refl; words = ap (drop 2) (sym is ∙ e) ∙ closes (words_of_share s) (words_of_shares ss) rest m }

pub no-shares : (c : CommonPart) (rest old : List Terminal) → BeginsNot (λ token. t_name (free CommonWord token)) old → old ≡ words_of_common c ++ rest → (commons_of c ≡ []) × (old ≡ rest)
no-shares no_common rest old other e = (refl, e)
no-shares (common k o s ss m) rest old other e = absurd (other _ (k, e))

-- a histogram is no common value
pub lists-end : (h : Histogram) (rest : List Terminal) → ends_common rest ≡ true → ends_common (words_of_histogram h ++ rest) ≡ true
lists-end no_histogram rest ends = ends
lists-end (histogram k o l ls m) rest ends = refl
