-- Lines put one after another.
use Rattle.std.proofs.Common.{◌≡◌, ℕ, ◌+◌, ◌<◌, List, [], ◌∷◌, ◌++◌, length, take, drop, get_or, sym, ap, ◌∙◌, subst, Option, ◌≤◌, append-nil, append_assoc}
use Rattle.std.specs.List.{flat_map}
use Rattle.std.proofs.lemmas.List.{take-append-drop, take_all, take_more}
use Rattle.std.proofs.lemmas.List.Concat.{flat_map-append}
use Rattle.pg_base.specs.Writing.{AppendsPrefix}
use Rattle.pg_value.specs.declared.value.SqlType.{SqlType}
use Rattle.pg_value.specs.declared.value.Value.{Value}
use Rattle.reply_text.specs.Texts.{row_line}
use Rattle.group_explain.specs.reply_work_Putting.{HasPut}
use Rattle.group_explain.specs.reply_PuttingLemmas.{line_cut, line_put}
use Rattle.pg_base.proofs.OptionLemmas.{appends-none}
use Rattle.reply_text.proofs.PieceLaws.{prefix-longer as prefix-of}

module _ (types : List SqlType) where
  abbrev text_of : List (List Value) → List ℕ
  text_of ls = flat_map (row_line types) ls

  -- nothing put yet
  pub put-none : (a : Option (List ℕ)) (p : List ℕ) (ls : List (List Value)) → HasPut a a p p (text_of (take 0 ls))
  put-none a p ls = record { written = []; appended = appends-none a; together = sym (append-nil p) }

  module _ (ls : List (List Value)) (i : ℕ) (d : List Value) (lt : i < length ls) where
    line-more : text_of (take (i + 1) ls) ≡ text_of (take i ls) ++ row_line types (get_or ls i d)
    line-more =
        ap text_of (take_more ls i d lt) ∙ flat_map-append (row_line types) (take i ls) (get_or ls i d ∷ [])
        ∙ ap (λ (l : List ℕ). text_of (take i ls) ++ l) (append-nil (row_line types (get_or ls i d)))

    -- one line more
    pub put-more : (a b c : Option (List ℕ)) (p q r line : List ℕ) → line ≡ row_line types (get_or ls i d) → HasPut a b p q (text_of (take i ls)) → HasPut b c q r line
        → HasPut a c p r (text_of (take (i + 1) ls))
    put-more a b c p q r line is put more =
        let P : List ℕ → Type 0 = λ text. HasPut a c p r text in
        subst P (sym line-more) (line_put a b c p q r (text_of (take i ls)) (row_line types (get_or ls i d)) line is put more)

  -- the first lines, and the rest
  parts : (ls : List (List Value)) (i : ℕ) → text_of (take i ls) ++ text_of (drop i ls) ≡ text_of ls
  parts ls i = sym (flat_map-append (row_line types) (take i ls) (drop i ls)) ∙ ap text_of (take-append-drop i ls)

  -- printing stopped on the way of a line
  pub put-cut : (ls : List (List Value)) (i : ℕ) (d : List Value) → i < length ls → (a b c : Option (List ℕ)) (p q line : List ℕ) → line ≡ row_line types (get_or ls i d)
      → HasPut a b p q (text_of (take i ls)) → AppendsPrefix b c (q ++ line) → AppendsPrefix a c (p ++ text_of ls)
  put-cut ls i d lt a b c p q line is put some =
      prefix-of a c (p ++ (text_of (take i ls) ++ row_line types (get_or ls i d))) (text_of (drop (i + 1) ls)) (p ++ text_of ls)
      (line_cut a b c p q (text_of (take i ls)) (row_line types (get_or ls i d)) line is put some)
      (append_assoc p (text_of (take i ls) ++ row_line types (get_or ls i d)) (text_of (drop (i + 1) ls))
      ∙ ap (λ (l : List ℕ). p ++ l) (ap (λ (l : List ℕ). l ++ text_of (drop (i + 1) ls)) (sym (line-more ls i d lt)) ∙ parts ls (i + 1)))

  -- all lines
  pub put-all : (ls : List (List Value)) (i : ℕ) → length ls ≤ i → (a b : Option (List ℕ)) (p q : List ℕ) → HasPut a b p q (text_of (take i ls)) → HasPut a b p q (text_of ls)
  put-all ls i all a b p q put =
      let P : List (List Value) → Type 0 = λ l. HasPut a b p q (text_of l) in
      subst P (take_all i ls all) put
