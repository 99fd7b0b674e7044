-- The indexes of a table with candidates.
use Rattle.std.proofs.Common.{◌≡◌, ◌≢◌, ◌<◌, ◌≤◌, ◌+◌, ℕ, Bool, true, false, cond, nat_eq, nat_lt, List, [], ◌∷◌, ◌++◌, length, take, drop, get_or, Result, Ok, Err, refl, sym, ap, subst, ◌∙◌, arith, append_assoc, append-nil, length-append}
use Rattle.std.proofs.lemmas.Bool.Decides.{nat_tests}
use Rattle.std.proofs.lemmas.List.{take_all, take_more, drop_more, drop_all}
use Rattle.pg_base.specs.declared.faults.Code.TheVariants.{S15}
use Rattle.pg_base.specs.declared.faults.Fault.{Fault}
use Rattle.pg_base.specs.declared.faults.Limit.TheVariants.{Indexes}
use Rattle.pg_base.specs.declared.limits.TheConstants.{MOST_INDEXES}
use Rattle.pg_base.specs.declared.numbers.TableNo.{TableNo}
use Rattle.sql_lex.specs.declared.tokens.Token.{Token}
use Rattle.sql_lex.specs.declared.tokens.Kind.TheVariants.{End}
use Rattle.sql_grammar.specs.Faults.{fault_at}
use Rattle.catalog.specs.Contents.{Contents, NamedIndex, indexes_of, numbers_from}
use Rattle.catalog.proofs.NumberLemmas.{numbers-other, numbers-same}
use Rattle.catalog.specs.Candidates.{with_candidates}
use Rattle.index_reader.specs.AdviseCandidates.{with_room}
use Rattle.index_reader.specs.work.Walk.{HaveRoom}

-- how many indexes a table has with one more
one-more : (c : Contents) (xs : List NamedIndex) (x : NamedIndex) (t : TableNo) → with_candidates c (xs ++ x ∷ []) ≡ record { tables = c.tables; indexes = (c.indexes ++ xs) ++ x ∷ [] }
one-more c xs x t = ap (λ l. let d : Contents = record { tables = c.tables; indexes = l } in d) (sym (append_assoc c.indexes xs (x ∷ [])))

module _ (c : Contents) (xs : List NamedIndex) (x : NamedIndex) (t : TableNo) where
  pub count-same : x.index.table.0 ≡ t.0 → length (indexes_of (with_candidates c (xs ++ x ∷ [])) t) ≡ length (indexes_of (with_candidates c xs) t) + 1
  count-same is =
      ap (λ (d : Contents). length (indexes_of d t)) (one-more c xs x t) ∙ (ap length (numbers-same 0 (c.indexes ++ xs) x t is) ∙
      length-append (indexes_of (with_candidates c xs) t) (record { 0 = 0 + length (c.indexes ++ xs) } ∷ []))

  pub count-other : x.index.table.0 ≢ t.0 → length (indexes_of (with_candidates c (xs ++ x ∷ [])) t) ≡ length (indexes_of (with_candidates c xs) t)
  count-other other = ap (λ (d : Contents). length (indexes_of d t)) (one-more c xs x t) ∙ ap length (numbers-other 0 (c.indexes ++ xs) x t other)

  room-by : (b : Bool) → nat_eq x.index.table.0 t.0 ≡ b → length (indexes_of (with_candidates c xs) x.index.table) < MOST_INDEXES → length (indexes_of (with_candidates c xs) t) ≤ MOST_INDEXES →
      length (indexes_of (with_candidates c (xs ++ x ∷ [])) t) ≤ MOST_INDEXES
  room-by true same few all =
      let is : x.index.table.0 ≡ t.0 = grind (arith, nat_tests, same) in
      let few' = subst (λ (n : ℕ). length (indexes_of (with_candidates c xs) (record { 0 = n })) < MOST_INDEXES) is few in
      omega (arith, count-same is, few')
  room-by false same few all =
      let other : x.index.table.0 ≢ t.0 = λ e. grind (arith, nat_tests, same, e) in
      omega (arith, count-other other, all)

-- with one more for which there is room each table has room
pub room-more : (c : Contents) (xs : List NamedIndex) (x : NamedIndex) → length (indexes_of (with_candidates c xs) x.index.table) < MOST_INDEXES → HaveRoom (with_candidates c xs) → HaveRoom (with_candidates c (xs ++ x ∷ []))
room-more c xs x few all t = room-by c xs x t (nat_eq x.index.table.0 t.0) refl few (all t)

-- without candidates
pub room-none : (c : Contents) → ((t : TableNo) → length (indexes_of c t) ≤ MOST_INDEXES) → HaveRoom (with_candidates c [])
room-none c all t = subst (λ (l : List NamedIndex). length (numbers_from 0 l t) ≤ MOST_INDEXES) (sym (append-nil c.indexes)) (all t)

pub count-none : (c : Contents) (t : TableNo) → length (indexes_of c t) ≡ length (indexes_of (with_candidates c []) t)
count-none c t = ap (λ (l : List NamedIndex). length (numbers_from 0 l t)) (sym (append-nil c.indexes))

module _ (c : Contents) (names : List Token) (xs : List NamedIndex) (n : ℕ) (t : Token) (x : NamedIndex) (in-names : n < length names) (in-all : n < length xs) where
  abbrev name : Token
  name = get_or names n t

  abbrev here : NamedIndex
  here = get_or xs n x

  abbrev after : Result (List NamedIndex) Fault
  after = with_room c (take n xs ++ here ∷ []) (drop (n + 1) names) (drop (n + 1) xs)

  split : with_room c (take n xs) (drop n names) (drop n xs) ≡ cond (nat_lt (length (indexes_of (with_candidates c (take n xs)) here.index.table)) MOST_INDEXES) after (Err (fault_at (S15 Indexes) name))
  split =
      ap (λ l. with_room c (take n xs) l (drop n xs)) (drop_more names n t in-names) ∙
      ap (λ l. with_room c (take n xs) (name ∷ drop (n + 1) names) l) (drop_more xs n x in-all)

  -- a candidate finds room
  pub finds-room : length (indexes_of (with_candidates c (take n xs)) here.index.table) < MOST_INDEXES → with_room c (take n xs) (drop n names) (drop n xs) ≡ with_room c (take (n + 1) xs) (drop (n + 1) names) (drop (n + 1) xs)
  finds-room few =
      let is : nat_lt (length (indexes_of (with_candidates c (take n xs)) here.index.table)) MOST_INDEXES ≡ true = grind (arith, nat_tests, few) in
      split ∙ (ap (λ b. cond b after (Err (fault_at (S15 Indexes) name))) is ∙ ap (λ l. with_room c l (drop (n + 1) names) (drop (n + 1) xs)) (sym (take_more xs n x in-all)))

  -- a candidate finds no room
  pub finds-none : MOST_INDEXES ≤ length (indexes_of (with_candidates c (take n xs)) here.index.table) → with_room c (take n xs) (drop n names) (drop n xs) ≡ Err (fault_at (S15 Indexes) name)
  finds-none full =
      let is : nat_lt (length (indexes_of (with_candidates c (take n xs)) here.index.table)) MOST_INDEXES ≡ false = grind (arith, nat_tests, full) in
      split ∙ ap (λ b. cond b after (Err (fault_at (S15 Indexes) name))) is

-- all found room
pub all-found : (c : Contents) (names : List Token) (xs : List NamedIndex) (n : ℕ) → length names ≤ n → length xs ≤ n → with_room c (take n xs) (drop n names) (drop n xs) ≡ Ok xs
all-found c names xs n few-names few =
    ap (λ l. with_room c (take n xs) l (drop n xs)) (drop_all n names few-names) ∙ (ap (λ l. with_room c (take n xs) [] l) (drop_all n xs few) ∙ ap Ok (take_all n xs few))

-- one more is counted
pub count-step : (c : Contents) (xs : List NamedIndex) (i n m : ℕ) (x : NamedIndex) (here : ℕ) (t : TableNo) (b : Bool) → i < length xs → x ≡ get_or xs i x → here ≡ x.index.table.0 → nat_eq here t.0 ≡ b →
    n ≡ length (indexes_of (with_candidates c (take i xs)) t) → n ≤ MOST_INDEXES + i → m ≡ cond b (n + 1) n → (m ≡ length (indexes_of (with_candidates c (take (i + 1) xs)) t)) × (m ≤ MOST_INDEXES + (i + 1))
count-step c xs i n m x here t true lt at is same count few more =
    let one : take (i + 1) xs ≡ take i xs ++ x ∷ [] = take_more xs i x lt ∙ ap (λ y. take i xs ++ y ∷ []) (sym at) in
    let on : x.index.table.0 ≡ t.0 = grind (arith, nat_tests, same, is) in
    let counted = count-same c (take i xs) x t on in
    (subst (λ (l : List NamedIndex). m ≡ length (indexes_of (with_candidates c l) t)) (sym one) (omega (arith, more, counted, count)), omega (arith, more, few))
count-step c xs i n m x here t false lt at is same count few more =
    let one : take (i + 1) xs ≡ take i xs ++ x ∷ [] = take_more xs i x lt ∙ ap (λ y. take i xs ++ y ∷ []) (sym at) in
    let off : x.index.table.0 ≢ t.0 = λ e. grind (arith, nat_tests, same, is, e) in
    let counted = count-other c (take i xs) x t off in
    (subst (λ (l : List NamedIndex). m ≡ length (indexes_of (with_candidates c l) t)) (sym one) (omega (arith, more, counted, count)), omega (arith, more, few))

abbrev no_token : Token
no_token = record { start = 0; end = 0; kind = End }

-- one more finds room
pub room-step : (c : Contents) (names : List Token) (xs : List NamedIndex) (n : ℕ) (x : NamedIndex) (t : TableNo) (count : ℕ) → n < length xs → length names ≡ length xs → x ≡ get_or xs n x → t ≡ x.index.table →
    count ≡ length (indexes_of (with_candidates c (take n xs)) t) → count < MOST_INDEXES → with_room c (take n xs) (drop n names) (drop n xs) ≡ with_room c [] names xs → HaveRoom (with_candidates c (take n xs)) →
    (with_room c (take (n + 1) xs) (drop (n + 1) names) (drop (n + 1) xs) ≡ with_room c [] names xs) × HaveRoom (with_candidates c (take (n + 1) xs))
room-step c names xs n x t count lt many at on counted few so all =
    let there : t ≡ (get_or xs n x).index.table = on ∙ ap (λ (y : NamedIndex). y.index.table) at in
    let room : length (indexes_of (with_candidates c (take n xs)) (get_or xs n x).index.table) < MOST_INDEXES =
    subst (λ (u : TableNo). length (indexes_of (with_candidates c (take n xs)) u) < MOST_INDEXES) there (omega (arith, counted, few)) in (
      sym (finds-room c names xs n no_token x (omega (arith, lt, many)) lt room) ∙ so,
      subst (λ (l : List NamedIndex). HaveRoom (with_candidates c l)) (sym (take_more xs n x lt)) (room-more c (take n xs) (get_or xs n x) room all),
    )
