-- Texts are taken to pieces: behind a name stands a byte that no name has.
use Prim.Native.Nat.{suc, zero}
use Rattle.std.proofs.Common.{◌≡◌, ◌<◌, ℕ, ◌+◌, ◌/◌, ◌%◌, ◌==◌, Bool, true, false, not, cond, ◌||◌, nat_lt, List, [], ◌∷◌, ◌++◌, codes, get_or, drop, refl, sym, ◌∙◌, ap, ap₂, append_assoc, arith}
use Rattle.std.specs.Prelude.{if◌then◌else◌, Option, Some, None}
use Rattle.std.specs.Char.{is_ascii_digit, is_ascii_lowercase}
use Rattle.std.specs.Fmt.{decimal, digit_glyph, digits, digits_onto}
use Rattle.std.specs.List.{AllByRecursion, list_all}
use Rattle.std.specs.Str.{bytes_eq}
use Rattle.std.proofs.lemmas.Bool.{and_from, and_parts, true≢false}
use Rattle.std.proofs.lemmas.Bool.Decides.{nat_tests}
use Rattle.std.proofs.lemmas.Slice.Eq.{bytes_eq-Decides}
use Rattle.pg_base.specs.Names.{IsName, is_in_name}
use Rattle.pg_base.proofs.NameLemmas.{decimal-word, first-in, name-word}
use Rattle.sql_query.specs.declared.window.Window.{Window}
use Rattle.cost_rules.specs.declared.pair.Pair.{Pair}
use Rattle.explain.specs.Texts.{cost_text, with_commas, numbers_text, relation_text}

-- no byte of a name begins a text
abbrev pub stops : List ℕ → Bool
stops [] = true
stops (b ∷ bs) = not (is_in_name b)

pub both : (b : Bool) → b ≡ true → not b ≡ true → ⊥
both true y n = true≢false (sym n)
both false y n = true≢false (sym y)

pub split : (v w x y : List ℕ) → list_all is_in_name v ≡ true → list_all is_in_name w ≡ true → stops x ≡ true → stops y ≡ true → v ++ x ≡ w ++ y → (v ≡ w) × (x ≡ y)
split [] [] x y hv hw sx sy e = (refl, e)
split [] (b ∷ bs) x y hv hw sx sy e = absurd (both (is_in_name b) (and_parts (is_in_name b) (list_all is_in_name bs) hw).0 (sym (ap stops e) ∙ sx))
split (a ∷ us) [] x y hv hw sx sy e = absurd (both (is_in_name a) (and_parts (is_in_name a) (list_all is_in_name us) hv).0 (ap stops e ∙ sy))
split (a ∷ us) (b ∷ bs) x y hv hw sx sy e =
    let same : a ≡ b = ap (λ (l : List ℕ). get_or l 0 0) e in
    let rest : us ++ x ≡ bs ++ y = ap (λ (l : List ℕ). drop 1 l) e in
    let more = split us bs x y (and_parts (is_in_name a) (list_all is_in_name us) hv).1 (and_parts (is_in_name b) (list_all is_in_name bs) hw).1 sx sy rest in
    (ap₂ (λ (c : ℕ) (l : List ℕ). c ∷ l) same more.0, more.1)

-- no name begins with a space
pub no-space : (b : ℕ) (bs : List ℕ) → IsName (b ∷ bs) → b ≡ 32 → ⊥
no-space b bs h e = true≢false (sym (first-in b bs h) ∙ ap is_in_name e)

-- behind the cost of a node
cost-split : (window : Option Window) (m n : Pair) (x y : List ℕ) → stops x ≡ true → stops y ≡ true → cost_text window m ++ x ≡ cost_text window n ++ y → x ≡ y
cost-split None m n x y sx sy e = (split (decimal m.total) (decimal n.total) x y (decimal-word m.total) (decimal-word n.total) sx sy e).1
cost-split (Some w) m n x y sx sy e =
    let one = split (decimal m.startup) (decimal n.startup) ((codes ".." ++ decimal m.total) ++ x) ((codes ".." ++ decimal n.total) ++ y) (decimal-word m.startup) (decimal-word n.startup) refl refl
    (sym (append_assoc (decimal m.startup) (codes ".." ++ decimal m.total) x) ∙ e ∙ append_assoc (decimal n.startup) (codes ".." ++ decimal n.total) y) in
    (split (decimal m.total) (decimal n.total) x y (decimal-word m.total) (decimal-word n.total) sx sy (ap (λ (l : List ℕ). drop 2 l) one.1)).1

-- behind the numbers of a node
abbrev pub rows_part : ℕ → List ℕ
rows_part n = codes " rows=" ++ (decimal n ++ codes ")\n")

pub numbers-split : (window : Option Window) (m n : Pair) (a b : ℕ) (x y : List ℕ) → numbers_text window m a ++ x ≡ numbers_text window n b ++ y → x ≡ y
numbers-split window m n a b x y e =
    let one : (cost_text window m ++ rows_part a) ++ x ≡ (cost_text window n ++ rows_part b) ++ y = ap (λ (l : List ℕ). drop 8 l) e in
    let two = cost-split window m n (rows_part a ++ x) (rows_part b ++ y) refl refl (sym (append_assoc (cost_text window m) (rows_part a) x) ∙ one ∙ append_assoc (cost_text window n) (rows_part b) y) in
    let three : (decimal a ++ codes ")\n") ++ x ≡ (decimal b ++ codes ")\n") ++ y = ap (λ (l : List ℕ). drop 6 l) two in
    let four = split (decimal a) (decimal b) (codes ")\n" ++ x) (codes ")\n" ++ y) (decimal-word a) (decimal-word b) refl refl (sym (append_assoc (decimal a) (codes ")\n") x) ∙ three ∙ append_assoc (decimal b) (codes ")\n") y) in
    ap (λ (l : List ℕ). drop 2 l) four.1

-- lists of names
abbrev pub Names : List (List ℕ) → Type 0
Names ws = AllByRecursion IsName ws

stops-more : (us : List (List ℕ)) (s : List ℕ) → stops (with_commas (codes ", ") us ++ 32 ∷ s) ≡ true
stops-more [] s = refl
stops-more (a ∷ us) s = refl

more-split : (us bs : List (List ℕ)) (s t : List ℕ) → Names us → Names bs → with_commas (codes ", ") us ++ 32 ∷ s ≡ with_commas (codes ", ") bs ++ 32 ∷ t → (us ≡ bs) × (s ≡ t)
more-split [] [] s t h k e = (refl, ap (λ (l : List ℕ). drop 1 l) e)
more-split [] (b ∷ bs) s t h k e = let bad : 32 ≡ 44 = ap (λ (l : List ℕ). get_or l 0 0) e in absurd (omega (arith, bad))
more-split (a ∷ us) [] s t h k e = let bad : 44 ≡ 32 = ap (λ (l : List ℕ). get_or l 0 0) e in absurd (omega (arith, bad))
more-split (a ∷ us) (b ∷ bs) s t h k e =
    let one : (a ++ with_commas (codes ", ") us) ++ 32 ∷ s ≡ (b ++ with_commas (codes ", ") bs) ++ 32 ∷ t = ap (λ (l : List ℕ). drop 2 l) e in
    let two = split a b (with_commas (codes ", ") us ++ 32 ∷ s) (with_commas (codes ", ") bs ++ 32 ∷ t) (name-word a h.0) (name-word b k.0) (stops-more us s) (stops-more bs t)
    (sym (append_assoc a (with_commas (codes ", ") us) (32 ∷ s)) ∙ one ∙ append_assoc b (with_commas (codes ", ") bs) (32 ∷ t)) in
    let rest = more-split us bs s t h.1 k.1 two.1 in
    (ap₂ (λ (c : List ℕ) (l : List (List ℕ)). c ∷ l) two.0 rest.0, rest.1)

-- the relations that are given, and what stands behind them
abbrev pub after : List (List ℕ) → List ℕ → List ℕ
after us s = with_commas (codes " for ") us ++ 32 ∷ 32 ∷ s

stops-after : (us : List (List ℕ)) (s : List ℕ) → stops (after us s) ≡ true
stops-after [] s = refl
stops-after (a ∷ us) s = refl

pub given-split : (us bs : List (List ℕ)) (s t : List ℕ) → Names us → Names bs → after us s ≡ after bs t → (us ≡ bs) × (s ≡ t)
given-split [] [] s t h k e = (refl, ap (λ (l : List ℕ). drop 2 l) e)
given-split [] (b ∷ bs) s t h k e = let bad : 32 ≡ 102 = ap (λ (l : List ℕ). get_or l 1 0) e in absurd (omega (arith, bad))
given-split (a ∷ us) [] s t h k e = let bad : 102 ≡ 32 = ap (λ (l : List ℕ). get_or l 1 0) e in absurd (omega (arith, bad))
given-split (a ∷ us) (b ∷ bs) s t h k e =
    let one : (a ++ with_commas (codes ", ") us) ++ 32 ∷ 32 ∷ s ≡ (b ++ with_commas (codes ", ") bs) ++ 32 ∷ 32 ∷ t = ap (λ (l : List ℕ). drop 5 l) e in
    let two = split a b (with_commas (codes ", ") us ++ 32 ∷ 32 ∷ s) (with_commas (codes ", ") bs ++ 32 ∷ 32 ∷ t) (name-word a h.0) (name-word b k.0) (stops-more us (32 ∷ s)) (stops-more bs (32 ∷ t))
    (sym (append_assoc a (with_commas (codes ", ") us) (32 ∷ 32 ∷ s)) ∙ one ∙ append_assoc b (with_commas (codes ", ") bs) (32 ∷ 32 ∷ t)) in
    let rest = more-split us bs (32 ∷ s) (32 ∷ t) h.1 k.1 two.1 in
    (ap₂ (λ (c : List ℕ) (l : List (List ℕ)). c ∷ l) two.0 rest.0, ap (λ (l : List ℕ). drop 1 l) rest.1)

-- an alias beside the table's name is told from given relations, though it may be the name-word `for`
mixed-last : (us : List (List ℕ)) (b s z : List ℕ) → IsName b → with_commas (codes ", ") us ++ 32 ∷ 32 ∷ s ≡ 32 ∷ (b ++ z) → ⊥
mixed-last [] [] s z n e = n
mixed-last [] (c ∷ cs) s z n e = no-space c cs n (sym (ap (λ (l : List ℕ). get_or l 1 0) e))
mixed-last (a ∷ us) b s z n e = let bad : 44 ≡ 32 = ap (λ (l : List ℕ). get_or l 0 0) e in omega (arith, bad)

mixed-for : (a : List ℕ) (us bs : List (List ℕ)) (s t : List ℕ) → IsName a → Names bs → 32 ∷ ((a ++ with_commas (codes ", ") us) ++ 32 ∷ 32 ∷ s) ≡ after bs t → ⊥
mixed-for [] us bs s t h k e = h
mixed-for (c ∷ cs) us [] s t h k e = no-space c cs h (ap (λ (l : List ℕ). get_or l 1 0) e)
mixed-for (c ∷ cs) us (b ∷ bs) s t h k e =
    let a = c ∷ cs in
    let one : (a ++ with_commas (codes ", ") us) ++ 32 ∷ 32 ∷ s ≡ codes "for" ++ 32 ∷ ((b ++ with_commas (codes ", ") bs) ++ 32 ∷ 32 ∷ t) = ap (λ (l : List ℕ). drop 1 l) e in
    let two = split a (codes "for") (with_commas (codes ", ") us ++ 32 ∷ 32 ∷ s) (32 ∷ ((b ++ with_commas (codes ", ") bs) ++ 32 ∷ 32 ∷ t)) (name-word a h) refl (stops-more us (32 ∷ s)) refl
    (sym (append_assoc a (with_commas (codes ", ") us) (32 ∷ 32 ∷ s)) ∙ one) in
    mixed-last us b s (with_commas (codes ", ") bs ++ 32 ∷ 32 ∷ t) k.0 (two.1 ∙ ap (λ (l : List ℕ). 32 ∷ l) (append_assoc b (with_commas (codes ", ") bs) (32 ∷ 32 ∷ t)))

mixed : (us bs : List (List ℕ)) (w s t : List ℕ) → Names us → Names bs → IsName w → after us s ≡ 32 ∷ (w ++ after bs t) → ⊥
mixed [] bs [] s t h k n e = n
mixed [] bs (c ∷ cs) s t h k n e = no-space c cs n (sym (ap (λ (l : List ℕ). get_or l 1 0) e))
mixed (a ∷ us) bs w s t h k n e =
    let one : codes "for" ++ 32 ∷ ((a ++ with_commas (codes ", ") us) ++ 32 ∷ 32 ∷ s) ≡ w ++ after bs t = ap (λ (l : List ℕ). drop 1 l) e in
    let two = split (codes "for") w (32 ∷ ((a ++ with_commas (codes ", ") us) ++ 32 ∷ 32 ∷ s)) (after bs t) refl (name-word w n) refl (stops-after bs t) one in
    mixed-for a us bs s t h.0 k two.1

pub relation-split : (m n a b : List ℕ) (us bs : List (List ℕ)) (s t : List ℕ) → IsName m → IsName n → IsName a → IsName b → Names us → Names bs →
    relation_text m a ++ after us s ≡ relation_text n b ++ after bs t → (a ≡ b) × (us ≡ bs) × (s ≡ t)
relation-split m n a b us bs s t hm hn ha hb h k e = by (bytes_eq m a) (bytes_eq n b) refl refl e
  where
    by : (x y : Bool) → bytes_eq m a ≡ x → bytes_eq n b ≡ y → cond x m (m ++ 32 ∷ a) ++ after us s ≡ cond y n (n ++ 32 ∷ b) ++ after bs t → (a ≡ b) × (us ≡ bs) × (s ≡ t)
    by true true p q e =
        let one = split m n (after us s) (after bs t) (name-word m hm) (name-word n hn) (stops-after us s) (stops-after bs t) e in
        let rest = given-split us bs s t h k one.1 in
        (sym ((bytes_eq-Decides m a).0 p) ∙ one.0 ∙ (bytes_eq-Decides n b).0 q, rest.0, rest.1)
    by true false p q e =
        let one = split m n (after us s) (32 ∷ (b ++ after bs t)) (name-word m hm) (name-word n hn) (stops-after us s) refl (e ∙ append_assoc n (32 ∷ b) (after bs t)) in
        absurd (mixed us bs b s t h k hb one.1)
    by false true p q e =
        let one = split m n (32 ∷ (a ++ after us s)) (after bs t) (name-word m hm) (name-word n hn) refl (stops-after bs t) (sym (append_assoc m (32 ∷ a) (after us s)) ∙ e) in
        absurd (mixed bs us a t s k h ha (sym one.1))
    by false false p q e =
        let one = split m n (32 ∷ (a ++ after us s)) (32 ∷ (b ++ after bs t)) (name-word m hm) (name-word n hn) refl refl (sym (append_assoc m (32 ∷ a) (after us s)) ∙ e ∙ append_assoc n (32 ∷ b) (after bs t)) in
        let two = split a b (after us s) (after bs t) (name-word a ha) (name-word b hb) (stops-after us s) (stops-after bs t) (ap (λ (l : List ℕ). drop 1 l) one.1) in
        let rest = given-split us bs s t h k two.1 in
        (two.0, rest.0, rest.1)
