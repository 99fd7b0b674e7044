-- Parts of a list, parted by commas and bound one after another.
use Rattle.std.proofs.Common.{◌≡◌, List, [], ◌∷◌, ◌++◌, drop, map, refl, sym, ap, ◌∙◌, Result, Ok, Err, append_assoc, append-nil}
use Rattle.pg_base.specs.declared.faults.Fault.{Fault}
use Rattle.sql_lex.specs.declared.tokens.Token.{Token}
use Rattle.sql_grammar.specs.declared.class.Symbol.TheVariants.{Close, Comma}
use Rattle.sql_grammar.specs.Terminals.{Terminal, t_mark}
use Rattle.sql_grammar.specs.Syntax.{Mark}
use Rattle.expr_reader.specs.work.Reading.{BeginsNot}
use Rattle.expr_reader.specs.Lists.{further_parts, before_all, bound_each}
use Rattle.expr_reader.proofs.EachLemmas.{bound-err, bound-ok}

-- a kind of list: each part of the syntax with its words and what is bound of it, and the words of further parts
pub record Parts (T A B : Type 0) : Type 0 where
  pub part : T → A
  pub bind : A → Result B Fault
  pub words : T → List Terminal
  pub further : List (Mark × T) → List Terminal
  pub none : further [] ≡ []
  pub some : (m : Mark) (x : T) (xs : List (Mark × T)) → further ((m, x) ∷ xs) ≡ t_mark Comma m ∷ (words x ++ further xs)

module _ {T A B : Type 0} (p : Parts T A B) where
  -- parts read so far, and those still to come
  pub record So (all : List A) (bs : List B) (left : List Terminal) (m : Mark) (rest : List Terminal) : Type 0 where
    pub so : List A
    pub ys : List (Mark × T)
    pub whole : all ≡ so ++ further_parts p.part ys
    pub read : bound_each p.bind so ≡ Ok bs
    pub words : left ≡ p.further ys ++ t_mark Close m ∷ rest

  -- the next one of them
  pub record Next (all : List A) (bs : List B) (left : List Terminal) (m : Mark) (rest : List Terminal) : Type 0 where
    pub so : List A
    pub y : T
    pub ys : List (Mark × T)
    pub whole : all ≡ so ++ p.part y ∷ further_parts p.part ys
    pub read : bound_each p.bind so ≡ Ok bs
    pub words : left ≡ p.words y ++ (p.further ys ++ t_mark Close m ∷ rest)

  abbrev pub first : (x : T) (xs : List (Mark × T)) (m : Mark) (rest left : List Terminal) → left ≡ p.words x ++ (p.further xs ++ t_mark Close m ∷ rest) → Next (p.part x ∷ further_parts p.part xs) [] left m rest
  first x xs m rest left e = record { so = []; y = x; ys = xs; whole = refl; read = refl; words = e }

  next-by : (all : List A) (bs : List B) (left new : List Terminal) (token : Token) (m : Mark) (rest : List Terminal) (so : List A) (ys : List (Mark × T)) → left ≡ t_mark Comma token ∷ new →
      all ≡ so ++ further_parts p.part ys → bound_each p.bind so ≡ Ok bs → left ≡ p.further ys ++ t_mark Close m ∷ rest → Next all bs new m rest
  next-by all bs left new token m rest so [] is whole read e =
      let wrong : t_mark Comma token ∷ new ≡ t_mark Close m ∷ rest = sym is ∙ (e ∙ ap (λ l. l ++ t_mark Close m ∷ rest) p.none) in
      absurd (cc (wrong))
  next-by all bs left new token m rest so ((c, y) ∷ ys) is whole read e =
      let after : new ≡ (p.words y ++ p.further ys) ++ t_mark Close m ∷ rest = ap (drop 1) (sym is ∙ (e ∙ ap (λ l. l ++ t_mark Close m ∷ rest) (p.some c y ys))) in
      record { so = so; y = y; ys = ys; whole = whole; read = read; words = after ∙ append_assoc (p.words y) (p.further ys) (t_mark Close m ∷ rest) }

  pub next : (all : List A) (bs : List B) (left new : List Terminal) (token : Token) (m : Mark) (rest : List Terminal) → left ≡ t_mark Comma token ∷ new → So all bs left m rest → Next all bs new m rest
  next all bs left new token m rest is s = next-by all bs left new token m rest s.so s.ys is s.whole s.read s.words

  -- its fault is that of all
  pub at-fault : (all : List A) (bs : List B) (left : List Terminal) (m : Mark) (rest : List Terminal) (n : Next all bs left m rest) (f : Fault) → p.bind (p.part n.y) ≡ Err f → bound_each p.bind all ≡ Err f
  at-fault all bs left m rest n f wrong = ap (bound_each p.bind) n.whole ∙ bound-err p.bind n.so bs _ _ f n.read wrong

  -- one more is read
  pub more : (all : List A) (bs now : List B) (left new : List Terminal) (m : Mark) (rest : List Terminal) (n : Next all bs left m rest) (b : B) → p.bind (p.part n.y) ≡ Ok b →
      new ≡ p.further n.ys ++ t_mark Close m ∷ rest → now ≡ bs ++ b ∷ [] → So all now new m rest
  more all bs now left new m rest n b right is grown = record {
    so = n.so ++ p.part n.y ∷ [];
    ys = n.ys;
    whole = n.whole ∙ sym (append_assoc n.so (p.part n.y ∷ []) (further_parts p.part n.ys));
    read = bound-ok p.bind n.so bs _ b n.read right ∙ ap Ok (sym grown);
    words = is;
  }

  whole-by : (all : List A) (bs : List B) (left : List Terminal) (m : Mark) (rest : List Terminal) (so : List A) (ys : List (Mark × T)) → BeginsNot (t_mark Comma) left →
      all ≡ so ++ further_parts p.part ys → bound_each p.bind so ≡ Ok bs → left ≡ p.further ys ++ t_mark Close m ∷ rest → (bound_each p.bind all ≡ Ok bs) × (left ≡ t_mark Close m ∷ rest)
  whole-by all bs left m rest so [] other whole read e = (ap (bound_each p.bind) (whole ∙ append-nil so) ∙ read, e ∙ ap (λ l. l ++ t_mark Close m ∷ rest) p.none)
  whole-by all bs left m rest so ((c, y) ∷ ys) other whole read e = absurd (other _ (c, e ∙ ap (λ l. l ++ t_mark Close m ∷ rest) (p.some c y ys)))

  -- all are read, and `)` is left
  pub all-read : (all : List A) (bs : List B) (left : List Terminal) (m : Mark) (rest : List Terminal) → BeginsNot (t_mark Comma) left → So all bs left m rest → (bound_each p.bind all ≡ Ok bs) × (left ≡ t_mark Close m ∷ rest)
  all-read all bs left m rest other s = whole-by all bs left m rest s.so s.ys other s.whole s.read s.words

-- a list bound in another way, part by part
module _ {A B C : Type 0} (f : A → Result B Fault) (g : A → Result C Fault) (h : B → C) (ok : (x : A) (b : B) → f x ≡ Ok b → g x ≡ Ok (h b)) where
  each-ok-by : (x : A) (xs : List A) (r : Result B Fault) (rs : Result (List B) Fault) (bs : List B) → f x ≡ r → ((cs : List B) → rs ≡ Ok cs → bound_each g xs ≡ Ok (map h cs)) →
      before_all r rs ≡ Ok bs → bound_each g (x ∷ xs) ≡ Ok (map h bs)
  each-ok-by x xs (Err e) rs bs is on all = absurd (cc (all))
  each-ok-by x xs (Ok b) (Err e) bs is on all = absurd (cc (all))
  each-ok-by x xs (Ok b) (Ok cs) bs is on all = let same : b ∷ cs ≡ bs = cc (all) in rw (ok x b is, on cs refl) (ap (λ l. Ok (map h l)) same)

  pub each-ok : (xs : List A) (bs : List B) → bound_each f xs ≡ Ok bs → bound_each g xs ≡ Ok (map h bs)
  each-ok [] bs all = let none : [] ≡ bs = cc (all) in ap (λ l. Ok (map h l)) none
  each-ok (x ∷ xs) bs all = each-ok-by x xs (f x) (bound_each f xs) bs refl (λ cs is. each-ok xs cs is) all

  module _ (wrong : (x : A) (e : Fault) → f x ≡ Err e → g x ≡ Err e) where
    each-err-by : (x : A) (xs : List A) (r : Result B Fault) (rs : Result (List B) Fault) (e : Fault) → f x ≡ r → ((d : Fault) → rs ≡ Err d → bound_each g xs ≡ Err d) →
        before_all r rs ≡ Err e → bound_each g (x ∷ xs) ≡ Err e
    each-err-by x xs (Err d) rs e is on all = rw (wrong x d is) (let same : d ≡ e = cc (all) in ap Err same)
    each-err-by x xs (Ok b) (Err d) e is on all = rw (ok x b is, on d refl) (let same : d ≡ e = cc (all) in ap Err same)
    each-err-by x xs (Ok b) (Ok cs) e is on all = absurd (cc (all))

    pub each-err : (xs : List A) (e : Fault) → bound_each f xs ≡ Err e → bound_each g xs ≡ Err e
    each-err [] e all = absurd (cc (all))
    each-err (x ∷ xs) e all = each-err-by x xs (f x) (bound_each f xs) e refl (λ d is. each-err xs d is) all

-- what each bound part has of the part itself
module _ {A B C : Type 0} (f : A → Result B Fault) (p : A → C) (q : B → C) (alike : (x : A) (b : B) → f x ≡ Ok b → p x ≡ q b) where
  each-same-by : (x : A) (xs : List A) (r : Result B Fault) (rs : Result (List B) Fault) (bs : List B) → f x ≡ r → ((cs : List B) → rs ≡ Ok cs → map p xs ≡ map q cs) →
      before_all r rs ≡ Ok bs → map p (x ∷ xs) ≡ map q bs
  each-same-by x xs (Err e) rs bs is on all = absurd (cc (all))
  each-same-by x xs (Ok b) (Err e) bs is on all = absurd (cc (all))
  each-same-by x xs (Ok b) (Ok cs) bs is on all = let same : b ∷ cs ≡ bs = cc (all) in rw (alike x b is, on cs refl) (ap (map q) same)

  pub each-same : (xs : List A) (bs : List B) → bound_each f xs ≡ Ok bs → map p xs ≡ map q bs
  each-same [] bs all = let none : [] ≡ bs = cc (all) in ap (map q) none
  each-same (x ∷ xs) bs all = each-same-by x xs (f x) (bound_each f xs) bs refl (λ cs is. each-same xs cs is) all
