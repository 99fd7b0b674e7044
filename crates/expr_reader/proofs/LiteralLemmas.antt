-- What the next word tells of the literal whose words are left.
use Rattle.std.proofs.Common.{◌≡◌, List, ◌∷◌, ◌++◌, Option, Some, None, MatchOption, refl, sym, ap, subst, ◌∙◌}
use Rattle.sql_lex.specs.declared.tokens.Token.{Token}
use Rattle.sql_grammar.specs.declared.class.Word.TheVariants.{True, False, Null}
use Rattle.sql_grammar.specs.declared.class.Symbol.TheVariants.{Minus}
use Rattle.sql_grammar.specs.Terminals.{Terminal, Said, t_key, t_mark, t_number}
use Rattle.sql_grammar.specs.Syntax.{Constant, yes, no, unknown, Lit, number, negative, quoted, constant}
use Rattle.sql_grammar.specs.work.Unique.{token_in}
use Rattle.sql_grammar.specs.Words.{words_of_lit, constant_word}
use Rattle.expr_reader.specs.declared.cursor.Spelled.{Spelled}
use Rattle.expr_reader.specs.work.Reading.{BeginsNot, BeginsQuoted, BeginsNoQuoted}
use Rattle.expr_reader.specs.Literals.{place_of_lit}

-- none of TRUE, FALSE and NULL is next
pub no-constant : (old second third : List Terminal) → BeginsNot (t_key True) old → BeginsNot (t_key False) second → BeginsNot (t_key Null) third → second ≡ old → third ≡ old →
    (c : Constant) (k : Token) (left : List Terminal) → ¬ (old ≡ t_key (constant_word c) k ∷ left)
no-constant old second third a b c is so yes k left e = a left (k, e)
no-constant old second third a b c is so no k left e = b left (k, is ∙ e)
no-constant old second third a b c is so unknown k left e = c left (k, so ∙ e)

-- the number after a minus
pub record AfterMinus (l : Lit) (rest left : List Terminal) (minus : Token) : Type 0 where
  pub said : Said
  pub literal : l ≡ negative minus said
  pub words : left ≡ t_number said ∷ rest

pub after-minus : (l : Lit) (rest old left : List Terminal) (minus : Token) → old ≡ t_mark Minus minus ∷ left → old ≡ words_of_lit l ++ rest → AfterMinus l rest left minus
after-minus (number n) rest old left minus took is = absurd (cc (took, is))
after-minus (negative m n) rest old left minus took is = let same : m ≡ minus = cc (took, is) in record { said = n; literal = ap (λ k. negative k n) same; words = cc (took, is) }
after-minus (quoted q) rest old left minus took is = absurd (cc (took, is))
after-minus (constant c k) rest old left minus took is = absurd (cc (took, is))

same-constant : (c d : Constant) → constant_word c ≡ constant_word d → c ≡ d
same-constant yes yes is = refl
same-constant yes no is = absurd (cc (is))
same-constant yes unknown is = absurd (cc (is))
same-constant no yes is = absurd (cc (is))
same-constant no no is = refl
same-constant no unknown is = absurd (cc (is))
same-constant unknown yes is = absurd (cc (is))
same-constant unknown no is = absurd (cc (is))
same-constant unknown unknown is = refl

-- TRUE, FALSE or NULL
pub constant-lit : (l : Lit) (rest old left : List Terminal) (c : Constant) (k : Token) → old ≡ t_key (constant_word c) k ∷ left → old ≡ words_of_lit l ++ rest → (l ≡ constant c k) × (left ≡ rest)
constant-lit (number n) rest old left c k took is = absurd (cc (took, is))
constant-lit (negative m n) rest old left c k took is = absurd (cc (took, is))
constant-lit (quoted q) rest old left c k took is = absurd (cc (took, is))
constant-lit (constant d j) rest old left c k took is =
    let words : t_key (constant_word d) j ∷ rest ≡ t_key (constant_word c) k ∷ left = sym is ∙ took in
    let word : constant_word d ≡ constant_word c = cc (words) in
    let same : d ≡ c = same-constant d c word in
    (cc (words, same), cc (words))

-- a number, where nothing else is next
pub record OnlyNumber (l : Lit) (rest old : List Terminal) : Type 0 where
  pub said : Said
  pub literal : l ≡ number said
  pub words : old ≡ t_number said ∷ rest

pub only-number : (l : Lit) (rest old : List Terminal) → BeginsNot (t_mark Minus) old → BeginsNoQuoted old → ((c : Constant) (k : Token) (left : List Terminal) → ¬ (old ≡ t_key (constant_word c) k ∷ left)) →
    old ≡ words_of_lit l ++ rest → OnlyNumber l rest old
only-number (number n) rest old minus text constants is = record { said = n; literal = refl; words = is }
only-number (negative m n) rest old minus text constants is = absurd (minus (t_number n ∷ rest) (m, is))
only-number (quoted q) rest old minus text constants is = absurd (text q.value q.token rest is)
only-number (constant c k) rest old minus text constants is = absurd (constants c k rest is)

-- no quoted text is found
pub no-text : (found : Option Spelled) (old new : List Terminal) → ((s : Spelled) → ¬ (found ≡ Some s)) → MatchOption found ((new ≡ old) × BeginsNoQuoted old) (λ s. BeginsQuoted s old new) →
    (new ≡ old) × BeginsNoQuoted old
no-text None old new absent given = given
no-text (Some s) old new absent given = absurd (absent s refl)

-- a number, after the calls that found nothing else
pub number-left : (l : Lit) (rest old second third : List Terminal) → second ≡ old → BeginsNot (t_mark Minus) old → (third ≡ second) × BeginsNoQuoted second →
    ((c : Constant) (k : Token) (left : List Terminal) → ¬ (third ≡ t_key (constant_word c) k ∷ left)) → old ≡ words_of_lit l ++ rest → OnlyNumber l rest old
number-left l rest old second third first minus text constants is =
    only-number l rest old minus (subst BeginsNoQuoted first text.1) (λ c k left e. constants c k left (text.0 ∙ (first ∙ e))) is

-- the first token of a literal
pub place-is : (l : Lit) (rest old : List Terminal) (token : Token) → old ≡ words_of_lit l ++ rest → ((word : Terminal) (left : List Terminal) → old ≡ word ∷ left → token ≡ token_in word) → token ≡ place_of_lit l
place-is (number n) rest old token is at = at _ _ is
place-is (negative m n) rest old token is at = at _ _ is
place-is (quoted q) rest old token is at = at _ _ is
place-is (constant c k) rest old token is at = at _ _ is
