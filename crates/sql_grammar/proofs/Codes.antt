-- Words and symbols with one code are one.
use Rattle.std.proofs.Common.{◌≡◌, ℕ, true, [], ◌∷◌, get_or, refl, sym, ap, ◌∙◌, nat_eq}
use Rattle.std.proofs.lemmas.Bool.{eqb-true}
use Rattle.sql_grammar.specs.declared.class.Free.{Free}
use Rattle.sql_grammar.specs.declared.class.Free.TheVariants.{Advise, Analyze, Between, By, Character, Check, Common, Copy, Csv, Distinct, Explain, First, Format, Full, Histogram, In, Include, Index, Last, Left, Natural, Nulls, Outer, Pages, Plan, Right, Rows, Statistics, Stdin, Time, Timestamp, Use, Varying, Without, Zone}
use Rattle.sql_grammar.specs.declared.class.Word.{Word}
use Rattle.sql_grammar.specs.declared.class.Word.TheVariants.{And, As, Asc, Create, Cross, Desc, False, From, Group, Inner, Is, Join, Limit, Not, Null, Offset, On, Or, Order, Select, Table, True, Using, Where, With}
use Rattle.sql_grammar.specs.declared.class.Symbol.{Symbol}
use Rattle.sql_grammar.specs.declared.class.Symbol.TheVariants.{Open, Close, Comma, Dot, Minus, Star}
use Rattle.sql_grammar.specs.work.Table.{word_code, sign_code, free_code}

abbrev word_at : ℕ → Word
word_at n = get_or (And ∷ As ∷ Asc ∷ Create ∷ Cross ∷ Desc ∷ False ∷ From ∷ Group ∷ Inner ∷ Is ∷ Join ∷ Limit ∷ Not ∷ Null ∷ Offset ∷ On ∷ Or ∷ Order ∷ Select ∷ Table ∷ True ∷ Using ∷ Where ∷ With ∷ []) n And

word_back : (w : Word) → word_at (word_code w) ≡ w
word_back And = refl
word_back _ = refl

pub same_word : (v w : Word) → nat_eq (word_code v) (word_code w) ≡ true → v ≡ w
same_word v w e = sym (word_back v) ∙ (ap word_at (eqb-true (word_code v) (word_code w) e) ∙ word_back w)

abbrev sign_at : ℕ → Symbol
sign_at n = get_or (Open ∷ Close ∷ Comma ∷ Dot ∷ Minus ∷ Star ∷ []) n Open

sign_back : (w : Symbol) → sign_at (sign_code w) ≡ w
sign_back Open = refl
sign_back _ = refl

pub same_sign : (v w : Symbol) → nat_eq (sign_code v) (sign_code w) ≡ true → v ≡ w
same_sign v w e = sym (sign_back v) ∙ (ap sign_at (eqb-true (sign_code v) (sign_code w) e) ∙ sign_back w)

abbrev free_at : ℕ → Free
free_at n = get_or (Advise ∷ Analyze ∷ Between ∷ By ∷ Character ∷ Check ∷ Common ∷ Copy ∷ Csv ∷ Distinct ∷ Explain ∷ First ∷ Format ∷ Full ∷ Histogram ∷ In ∷ Include ∷ Index ∷ Last ∷ Left ∷ Natural ∷ Nulls ∷ Outer ∷ Pages ∷ Plan ∷ Right ∷ Rows ∷ Statistics ∷ Stdin ∷ Time ∷ Timestamp ∷ Use ∷ Varying ∷ Without ∷ Zone ∷ []) n Advise

free_back : (w : Free) → free_at (free_code w) ≡ w
free_back Advise = refl
free_back _ = refl

pub same_free : (v w : Free) → nat_eq (free_code v) (free_code w) ≡ true → v ≡ w
same_free v w e = sym (free_back v) ∙ (ap free_at (eqb-true (free_code v) (free_code w) e) ∙ free_back w)
