-- Values that were put at the end of a list.
use Rattle.std.proofs.Common.{◌≡◌, ℕ, suc, ◌≤◌, ◌+◌, ◌*◌, List, [], ◌∷◌, ◌++◌, length, take, drop, refl, sym, ap, ap₂, subst, ◌∙◌, arith, length-append}
use Rattle.std.proofs.lemmas.List.{take_all, take-append-drop, take-append-le, drop_all, drop-append-le}
use Rattle.pg_value.specs.declared.columns.Column.{Column}
use Rattle.heap.specs.work.Loading.{BeginsWith, appended, appended_rows}
use Rattle.heap.specs.Stored.{Values}
use Rattle.heap.specs.work.Tuples.{runs_of}
use Rattle.heap.proofs.RunLemmas.{runs-before, runs-more, runs-split}

-- nothing yet
pub kept-none : (xs : Values) → BeginsWith xs xs
kept-none xs = take_all (length xs) xs (omega arith)

pub appended-none : (xs : Values) → appended xs xs ≡ []
appended-none xs = drop_all (length xs) xs (omega arith)

pub kept-long : (a b : Values) → BeginsWith a b → length a ≤ length b
kept-long [] b h = omega arith
kept-long (x ∷ a) [] h = cc
kept-long (x ∷ a) (y ∷ b) h =
    let rest : take (length a) b ≡ a = cc in
    omega (arith, kept-long a b rest)

pub kept-split : (a b : Values) → BeginsWith a b → b ≡ a ++ appended a b
kept-split a b h = sym (take-append-drop (length a) b) ∙ ap (λ (l : Values). l ++ appended a b) h

pub length-appended : (a b : Values) → BeginsWith a b → length b ≡ length a + length (appended a b)
length-appended a b h = ap (λ (l : Values). length l) (kept-split a b h) ∙ length-append a (appended a b)

-- values behind those
pub kept-push : (a b t : Values) → BeginsWith a b → BeginsWith a (b ++ t)
kept-push a b t h = take-append-le (length a) b t (kept-long a b h) ∙ h

pub appended-push : (a b t : Values) → BeginsWith a b → appended a (b ++ t) ≡ appended a b ++ t
appended-push a b t h = drop-append-le (length a) b t (kept-long a b h)

-- what was put, and what was put behind that
pub kept-then : (a b c : Values) → BeginsWith a b → BeginsWith b c → BeginsWith a c
kept-then a b c h k = subst (λ (l : Values). BeginsWith a l) (sym (kept-split b c k)) (kept-push a b (appended b c) h)

pub appended-then : (a b c : Values) → BeginsWith a b → BeginsWith b c → appended a c ≡ appended a b ++ appended b c
appended-then a b c h k = ap (appended a) (kept-split b c k) ∙ appended-push a b (appended b c) h

module _ (columns : List Column) where
  abbrev width : ℕ
  width = length columns

  pub rows-none : (a : Values) → appended_rows columns 0 a a ≡ []
  unfolding runs_of
  rows-none a = refl

  -- one more row
  pub rows-push : (n : ℕ) (a b c : Values) → BeginsWith a b → BeginsWith b c → length b ≡ length a + n * width → length (appended b c) ≡ width
      → appended_rows columns (n + 1) a c ≡ appended_rows columns n a b ++ appended b c ∷ []
  rows-push n a b c h k long one =
      let many : length (appended a b) ≡ n * width = omega (arith, length-appended a b h) in
      ap (runs_of width (n + 1)) (appended-then a b c h k) ∙ runs-more width n (appended a b) (appended b c) many one

  pub longer : (n : ℕ) (a b c : Values) → BeginsWith b c → length b ≡ length a + n * width → length (appended b c) ≡ width → length c ≡ length a + (n + 1) * width
  longer n a b c k long one =
      let next : suc n * width ≡ width + n * width = omega arith in
      let same : (n + 1) * width ≡ suc n * width = ap (λ (m : ℕ). m * width) (let more : n + 1 ≡ suc n = omega arith in more) in
      omega (arith, length-appended b c k, next, same)

  -- the rows of a list and those that were put behind it
  pub rows-joined : (m n : ℕ) (a b : Values) → BeginsWith a b → length a ≡ m * width → runs_of width (m + n) b ≡ runs_of width m a ++ appended_rows columns n a b
  rows-joined m n a b h whole =
      runs-split width m n b
      ∙ ap₂ (λ (x y : List Values). x ++ y)
      (ap (runs_of width m) (kept-split a b h) ∙ runs-before width m a (appended a b) (omega (arith, whole)))
      (ap (λ (k : ℕ). runs_of width n (drop k b)) (sym whole))
