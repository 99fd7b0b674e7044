-- ORDER BY: what its words tell, and what its items mean.
use Rattle.std.proofs.Common.{◌≡◌, ℕ, Bool, true, List, [], ◌∷◌, ◌++◌, All, IsErrAnd, drop, Some, None, Result, Ok, Err, refl, sym, ap, subst, ◌∙◌, append-nil, append_assoc}
use Rattle.std.specs.List.{list_any}
use Rattle.std.specs.Str.{bytes_eq}
use Rattle.std.proofs.lemmas.List.Elements.{All-filter, All-nil}
use Rattle.pg_base.specs.declared.faults.Fault.{Fault}
use Rattle.pg_base.specs.declared.faults.Refusal.{Refusal}
use Rattle.pg_expr.specs.declared.operand.ColRef.{ColRef}
use Rattle.eq_classes.specs.Equality.{is_column}
use Rattle.eq_classes.specs.declared.order.OrderItem.{OrderItem}
use Rattle.sql_lex.specs.declared.tokens.Token.{Token}
use Rattle.sql_grammar.specs.declared.class.Symbol.TheVariants.{Comma, Dot}
use Rattle.sql_grammar.specs.declared.class.Word.TheVariants.{Asc, Desc, Limit as LimitKey, Offset as OffsetKey, Order}
use Rattle.sql_grammar.specs.declared.class.Free.TheVariants.{Nulls}
use Rattle.sql_grammar.specs.Faults.{bytes_of}
use Rattle.sql_grammar.specs.Terminals.{Terminal, Ident, free, token_of, t_key, t_mark, t_name, t_semicolon, t_end}
use Rattle.sql_grammar.specs.Syntax.{Mark, Col, bare, qualified, Direction, no_direction, ascending, descending, NullsEnd, no_nulls_end, nulls_first, nulls_last, Ordering, ordering, OrderBy, no_order, order_by}
use Rattle.sql_grammar.specs.work.Unique.{ends_col}
use Rattle.sql_grammar.specs.Words.{words_of_col, words_of_direction, words_of_nulls_end, words_of_ordering, words_of_orderings, words_of_order}
use Rattle.expr_reader.specs.Lists.{further_parts, bound_each}
use Rattle.expr_reader.specs.declared.cursor.Spelled.{Spelled}
use Rattle.expr_reader.specs.Reading.{spelled}
use Rattle.expr_reader.specs.work.Reading.{BeginsName, BeginsNot}
use Rattle.expr_reader.specs.Sorts.{is_descending, has_nulls_first}
use Rattle.expr_reader.specs.work.Sorts.{ends_direction, ends_nulls_end}
use Rattle.expr_reader.proofs.EachLemmas.{bound-err, bound-ok, each-holds}
use Rattle.expr_reader.specs.declared.found.Found.{Found}
use Rattle.expr_reader.specs.declared.found.Found.TheVariants.{One}
use Rattle.expr_reader.specs.Conditions.{next, the_column}
use Rattle.expr_reader.specs.work.Reads.{Reads}
use Rattle.expr_reader.specs.Scope.{Visible, Scope, of_name, look_up}
use Rattle.expr_reader.proofs.OperandLemmas.{is-found}
use Rattle.expr_reader.proofs.ReadsLemmas.{read-ok, read-refused, was-read}
use Rattle.expr_reader.proofs.ScopeLemmas.{found-all, the-one-all}
use Rattle.query_reader.specs.work.Ends.{ends_order, ends_ordering}
use Rattle.query_reader.specs.Order.{shown_of_name, first_among, order_column, order_item, order_items}

-- what stands behind an item
pub end-orders : (rest : List Terminal) → ends_order rest ≡ true → ends_ordering rest ≡ true
end-orders [] ends = refl
end-orders (t_key LimitKey t ∷ rest) ends = refl
end-orders (t_key OffsetKey t ∷ rest) ends = refl
end-orders (t_semicolon t ∷ rest) ends = refl
end-orders (t_end t ∷ rest) ends = refl
end-orders _ ends = absurd (cc (ends))

pub more-orders : (os : List (Mark × Ordering)) (rest : List Terminal) → ends_order rest ≡ true → ends_ordering (words_of_orderings os ++ rest) ≡ true
more-orders [] rest ends = end-orders rest ends
more-orders ((m, o) ∷ os) rest ends = refl

ends-nulls : (rest : List Terminal) → ends_ordering rest ≡ true → ends_nulls_end rest ≡ true
ends-nulls (t_name (free Nulls _) ∷ rest) ends = absurd (cc (ends))
ends-nulls _ ends = refl

ends-direction : (z : NullsEnd) (rest : List Terminal) → ends_ordering rest ≡ true → ends_direction (words_of_nulls_end z ++ rest) ≡ true
ends-direction no_nulls_end (t_key Asc _ ∷ rest) ends = absurd (cc (ends))
ends-direction no_nulls_end (t_key Desc _ ∷ rest) ends = absurd (cc (ends))
ends-direction no_nulls_end _ ends = refl
ends-direction (nulls_first n f) rest ends = refl
ends-direction (nulls_last n l) rest ends = refl

ends-bare : (rest : List Terminal) → ends_ordering rest ≡ true → ends_col rest ≡ true
ends-bare (t_mark Dot _ ∷ rest) ends = absurd (cc (ends))
ends-bare _ ends = refl

ends-column : (d : Direction) (z : NullsEnd) (rest : List Terminal) → ends_ordering rest ≡ true → ends_col ((words_of_direction d ++ words_of_nulls_end z) ++ rest) ≡ true
ends-column no_direction no_nulls_end rest ends = ends-bare rest ends
ends-column no_direction (nulls_first n f) rest ends = refl
ends-column no_direction (nulls_last n l) rest ends = refl
ends-column (ascending k) z rest ends = refl
ends-column (descending k) z rest ends = refl

-- an item begins with its column
pub column-words : (o : Ordering) (rest old : List Terminal) → ends_ordering rest ≡ true → old ≡ words_of_ordering o ++ rest → (c : Col) × (more : List Terminal) × (ends_col more ≡ true) × (old ≡ words_of_col c ++ more)
column-words (ordering c d z) rest old ends is =
    let sort = words_of_direction d ++ words_of_nulls_end z in
    (c, sort ++ rest, ends-column d z rest ends, is ∙ append_assoc (words_of_col c) sort rest)

-- the column of a bare name of an order
pub bare-ordering : (scope : Scope) (select : List ColRef) (c : Col) (n : Ident) (s : Spelled) (f : Found) (bytes : List ℕ) → c ≡ bare n → s ≡ spelled n →
    f ≡ first_among (shown_of_name scope select bytes) (look_up scope None bytes) → bytes ≡ s.bytes → the_column f s.token s.token ≡ order_column scope select c
bare-ordering scope select c n s f bytes is says found value =
    let now : f ≡ first_among (shown_of_name scope select (bytes_of n)) (look_up scope None (bytes_of n)) =
    found ∙ ap (λ b. first_among (shown_of_name scope select b) (look_up scope None b)) (value ∙ ap (λ (x : Spelled). x.bytes) says) in
    ap (λ (x : Spelled). the_column f x.token x.token) says ∙ (ap (λ (x : Found). the_column x (token_of n) (token_of n)) now ∙ ap (order_column scope select) (sym is))

-- a qualified one
pub record QualifiedCol (c : Col) (rest : List Terminal) (s : Spelled) (left : List Terminal) : Type 0 where
  pub qualifier : Ident
  pub dot : Token
  pub name : Ident
  pub col : c ≡ qualified qualifier dot name
  pub says : s ≡ spelled qualifier
  pub words : left ≡ t_name name ∷ rest

pub qualified-col : (c : Col) (rest old mid left : List Terminal) (s : Spelled) (t : Token) → ends_col rest ≡ true → BeginsName s old mid → mid ≡ t_mark Dot t ∷ left → old ≡ words_of_col c ++ rest → QualifiedCol c rest s left
qualified-col (bare n) rest old mid left s t ends (m, says, first) took is =
    let same : t_name m ∷ mid ≡ t_name n ∷ rest = sym first ∙ is in
    let so : t_mark Dot t ∷ left ≡ rest = sym took ∙ cc (same) in
    let wrong = ap ends_col so ∙ ends in absurd (cc (wrong))
qualified-col (qualified q d n) rest old mid left s t ends (m, says, first) took is =
    let same : t_name m ∷ mid ≡ t_name q ∷ t_mark Dot d ∷ t_name n ∷ rest = sym first ∙ is in
    let name : m ≡ q = cc (same) in
    record { qualifier = q; dot = d; name = n; col = refl; says = says ∙ ap spelled name; words = cc (same, took) }

pub qualified-ordering : (scope : Scope) (select : List ColRef) (c : Col) (q n : Ident) (d : Token) (s u : Spelled) (f : Found) (alias bytes : List ℕ) → c ≡ qualified q d n → s ≡ spelled q → u ≡ spelled n →
    f ≡ look_up scope (Some alias) bytes → alias ≡ s.bytes → bytes ≡ u.bytes → the_column f s.token u.token ≡ order_column scope select c
qualified-ordering scope select c q n d s u f alias bytes is says told found under value =
    let now : f ≡ look_up scope (Some (bytes_of q)) (bytes_of n) =
    found ∙ (ap (λ a. look_up scope (Some a) bytes) (under ∙ ap (λ (x : Spelled). x.bytes) says) ∙ ap (look_up scope (Some (bytes_of q))) (value ∙ ap (λ (x : Spelled). x.bytes) told)) in
    ap (λ (x : Spelled). the_column f x.token u.token) says ∙ (ap (λ (x : Spelled). the_column f (token_of q) x.token) told ∙
    (ap (λ (x : Found). the_column x (token_of q) (token_of n)) now ∙ ap (order_column scope select) (sym is)))

-- the name behind the dot
pub second-name : (s : Spelled) (old left : List Terminal) (n : Ident) (rest : List Terminal) → BeginsName s old left → old ≡ t_name n ∷ rest → (s ≡ spelled n) × (left ≡ rest)
second-name s old left n rest (m, says, first) is =
    let same : t_name m ∷ left ≡ t_name n ∷ rest = sym first ∙ is in
    let name : m ≡ n = cc (same) in
    (says ∙ ap spelled name, cc (same))

module _ (scope : Scope) (select : List ColRef) where
  -- an item whose column is refused
  pub item-stopped : (o : Ordering) (rest old mid new : List Terminal) (e : Refusal) (r : Result OrderItem Refusal) → ends_ordering rest ≡ true → old ≡ words_of_ordering o ++ rest →
      ((c : Col) (more : List Terminal) → ends_col more ≡ true → old ≡ words_of_col c ++ more → Reads {T = ColRef} {A = ColRef} (λ x. x) (order_column scope select c) more (Err e) mid) → IsErrAnd r (λ g. g ≡ e) →
      Reads (λ i. i) (order_item scope select o) rest r new
  item-stopped (ordering c d z) rest old mid new e r ends is told stop =
      let sort = words_of_direction d ++ words_of_nulls_end z in
      read-refused ColRef OrderItem ColRef OrderItem (λ x. x) (λ i. i) (order_column scope select c) _ e r _ _ _ _
      (told c (sort ++ rest) (ends-column d z rest ends) (is ∙ append_assoc (words_of_col c) sort rest))
      (λ f wrong. ap (λ m. next m (λ x. Ok (record { col = x; descending = is_descending d; nulls_first = has_nulls_first (is_descending d) z }))) wrong) stop

  item-as : (x : ColRef) (down first wanted firsts : Bool) → down ≡ wanted → first ≡ firsts → ◌≡◌ {A = OrderItem} (record { col = x; descending = down; nulls_first = first }) (record { col = x; descending = wanted; nulls_first = firsts })
  item-as x down first wanted firsts d f = rw (d, f) refl

  -- an item that is read
  pub item-read : (o : Ordering) (rest old mid last new : List Terminal) (x : ColRef) (down first : Bool) → ends_ordering rest ≡ true → old ≡ words_of_ordering o ++ rest →
      ((c : Col) (more : List Terminal) → ends_col more ≡ true → old ≡ words_of_col c ++ more → Reads (λ x. x) (order_column scope select c) more (Ok x) mid) →
      ((d : Direction) (more : List Terminal) → ends_direction more ≡ true → mid ≡ words_of_direction d ++ more → (down ≡ is_descending d) × (last ≡ more)) →
      ((z : NullsEnd) (more : List Terminal) → ends_nulls_end more ≡ true → last ≡ words_of_nulls_end z ++ more → (first ≡ has_nulls_first down z) × (new ≡ more)) →
      Reads (λ i. i) (order_item scope select o) rest (Ok (record { col = x; descending = down; nulls_first = first })) new
  item-read (ordering c d z) rest old mid last new x down first ends is column direction nulls =
      let sort = words_of_direction d ++ words_of_nulls_end z in
      let told = was-read ColRef ColRef (λ y. y) (order_column scope select c) x (sort ++ rest) mid (column c (sort ++ rest) (ends-column d z rest ends) (is ∙ append_assoc (words_of_col c) sort rest)) in
      let (at, left) = direction d (words_of_nulls_end z ++ rest) (ends-direction z rest ends) (told.words ∙ append_assoc (words_of_direction d) (words_of_nulls_end z) rest) in
      let (end, done) = nulls z rest (ends-nulls rest ends) left in
      read-ok OrderItem OrderItem (λ i. i) _ _ rest new
      (ap (λ (i : OrderItem). Ok i) (item-as x down first (is_descending d) (has_nulls_first (is_descending d) z) at (end ∙ ap (λ b. has_nulls_first b z) at))
      ∙ sym (ap (λ m. next m (λ x. Ok (record { col = x; descending = is_descending d; nulls_first = has_nulls_first (is_descending d) z }))) told.meant)) done

module _ (bind : Ordering → Result OrderItem Fault) where
  -- items read so far, and those still to come
  pub record So (all : List Ordering) (items : List OrderItem) (left rest : List Terminal) : Type 0 where
    pub so : List Ordering
    pub ys : List (Mark × Ordering)
    pub whole : all ≡ so ++ further_parts (λ x. x) ys
    pub read : bound_each bind so ≡ Ok items
    pub words : left ≡ words_of_orderings ys ++ rest

  -- the next one of them
  pub record Next (all : List Ordering) (items : List OrderItem) (left rest : List Terminal) : Type 0 where
    pub so : List Ordering
    pub y : Ordering
    pub ys : List (Mark × Ordering)
    pub whole : all ≡ so ++ y ∷ further_parts (λ x. x) ys
    pub read : bound_each bind so ≡ Ok items
    pub words : left ≡ words_of_ordering y ++ (words_of_orderings ys ++ rest)

  abbrev pub first : (o : Ordering) (os : List (Mark × Ordering)) (rest left : List Terminal) → left ≡ words_of_ordering o ++ (words_of_orderings os ++ rest) → Next (o ∷ further_parts (λ x. x) os) [] left rest
  first o os rest left is = record { so = []; y = o; ys = os; whole = refl; read = refl; words = is }

  next-by : (all : List Ordering) (items : List OrderItem) (left new rest : List Terminal) (token : Token) (so : List Ordering) (ys : List (Mark × Ordering)) → ends_order rest ≡ true → left ≡ t_mark Comma token ∷ new →
      all ≡ so ++ further_parts (λ x. x) ys → bound_each bind so ≡ Ok items → left ≡ words_of_orderings ys ++ rest → Next all items new rest
  next-by all items left new rest token so [] ends is whole read e = let wrong = ap ends_order (sym is ∙ e) ∙ ends in absurd (cc (wrong))
  next-by all items left new rest token so ((c, y) ∷ ys) ends is whole read e =
      let after : t_mark Comma token ∷ new ≡ t_mark Comma c ∷ ((words_of_ordering y ++ words_of_orderings ys) ++ rest) = sym is ∙ e in
      let words : new ≡ (words_of_ordering y ++ words_of_orderings ys) ++ rest = cc (after) in
      record { so = so; y = y; ys = ys; whole = whole; read = read; words = words ∙ append_assoc (words_of_ordering y) (words_of_orderings ys) rest }

  pub next-item : (all : List Ordering) (items : List OrderItem) (left new rest : List Terminal) (token : Token) → ends_order rest ≡ true → left ≡ t_mark Comma token ∷ new → So all items left rest → Next all items new rest
  next-item all items left new rest token ends is s = next-by all items left new rest token s.so s.ys ends is s.whole s.read s.words

  -- its fault is that of all
  pub at-fault : (all : List Ordering) (items : List OrderItem) (left rest : List Terminal) (n : Next all items left rest) (f : Fault) → bind n.y ≡ Err f → bound_each bind all ≡ Err f
  at-fault all items left rest n f wrong = ap (bound_each bind) n.whole ∙ bound-err bind n.so items _ _ f n.read wrong

  -- one more is read
  pub more : (all : List Ordering) (items now : List OrderItem) (left new rest : List Terminal) (n : Next all items left rest) (b : OrderItem) → bind n.y ≡ Ok b →
      new ≡ words_of_orderings n.ys ++ rest → now ≡ items ++ b ∷ [] → So all now new rest
  more all items now left new rest n b right is grown = record {
    so = n.so ++ n.y ∷ [];
    ys = n.ys;
    whole = n.whole ∙ sym (append_assoc n.so (n.y ∷ []) (further_parts (λ x. x) n.ys));
    read = bound-ok bind n.so items _ b n.read right ∙ ap Ok (sym grown);
    words = is;
  }

  whole-by : (all : List Ordering) (items : List OrderItem) (left rest : List Terminal) (so : List Ordering) (ys : List (Mark × Ordering)) → BeginsNot (t_mark Comma) left →
      all ≡ so ++ further_parts (λ x. x) ys → bound_each bind so ≡ Ok items → left ≡ words_of_orderings ys ++ rest → (bound_each bind all ≡ Ok items) × (left ≡ rest)
  whole-by all items left rest so [] other whole read e = (ap (bound_each bind) (whole ∙ append-nil so) ∙ read, e)
  whole-by all items left rest so ((c, y) ∷ ys) other whole read e = absurd (other _ (c, e))

  -- all are read
  pub all-read : (all : List Ordering) (items : List OrderItem) (left rest : List Terminal) → BeginsNot (t_mark Comma) left → So all items left rest → (bound_each bind all ≡ Ok items) × (left ≡ rest)
  all-read all items left rest other s = whole-by all items left rest s.so s.ys other s.whole s.read s.words

-- ORDER is next: its items
pub record There (y : OrderBy) (rest left : List Terminal) : Type 0 where
  pub key : Token
  pub by_at : Token
  pub item : Ordering
  pub items : List (Mark × Ordering)
  pub is : y ≡ order_by key by_at item items
  pub words : left ≡ words_of_ordering item ++ (words_of_orderings items ++ rest)

pub there : (y : OrderBy) (rest old mid left : List Terminal) (k : Token) → ends_order rest ≡ true → old ≡ words_of_order y ++ rest → old ≡ t_key Order k ∷ mid → left ≡ drop 1 mid → There y rest left
there no_order rest old mid left k ends is took skipped = let wrong = ap ends_order (sym took ∙ is) ∙ ends in absurd (cc (wrong))
there (order_by key b o os) rest old mid left k ends is took skipped = record {
  key = key;
  by_at = b;
  item = o;
  items = os;
  is = refl;
  words = skipped ∙ (ap (drop 2) (sym took ∙ is) ∙ append_assoc (words_of_ordering o) (words_of_orderings os) rest);
}

-- ORDER is not next
pub no-order : (scope : Scope) (select : List ColRef) (y : OrderBy) (rest old new : List Terminal) → BeginsNot (t_key Order) old → new ≡ old → old ≡ words_of_order y ++ rest → (Ok [] ≡ order_items scope select y) × (new ≡ rest)
no-order scope select no_order rest old new other same is = (refl, same ∙ is)
no-order scope select (order_by k b o os) rest old new other same is = absurd (other _ (k, is))

-- the columns of the items are visible
module _ (scope : Scope) (test : ColRef → Bool) (all : All (λ (v : Visible). test v.column ≡ true) scope) (select : List ColRef) where
  abbrev P : ColRef → Type 0
  P x = test x ≡ true

  among-seen : (shown : Scope) (elsewhere : Found) (x : ColRef) → All (λ v. P v.column) shown → (elsewhere ≡ One x → P x) → first_among shown elsewhere ≡ One x → P x
  among-seen [] elsewhere x every other is = other is
  among-seen (v ∷ vs) elsewhere x every other is = the-one-all P (v ∷ vs) x every is

  column-seen : (c : Col) (x : ColRef) → order_column scope select c ≡ Ok x → P x
  column-seen (bare n) x is =
      let named = All-filter (λ u. bytes_eq (bytes_of n) u.name) (λ u. P u.column) scope all in
      among-seen (shown_of_name scope select (bytes_of n)) (look_up scope None (bytes_of n)) x
      (All-filter (λ u. list_any (is_column u.column) select) (λ u. P u.column) (of_name (bytes_of n) scope) named)
      (found-all P scope None (bytes_of n) x all) (is-found _ (token_of n) (token_of n) x is)
  column-seen (qualified q d n) x is = found-all P scope (Some (bytes_of q)) (bytes_of n) x all (is-found _ (token_of q) (token_of n) x is)

  item-by : (m : Result ColRef Fault) (down first : Bool) (i : OrderItem) → ((x : ColRef) → m ≡ Ok x → P x) → next m (λ x. Ok (record { col = x; descending = down; nulls_first = first })) ≡ Ok i → P i.col
  item-by (Ok x) down first i seen is = let same : x ≡ i.col = cc (is) in subst P same (seen x refl)
  item-by (Err f) down first i seen is = absurd (cc (is))

  item-seen : (o : Ordering) (i : OrderItem) → order_item scope select o ≡ Ok i → P i.col
  item-seen (ordering c d z) i is = item-by (order_column scope select c) (is_descending d) (has_nulls_first (is_descending d) z) i (column-seen c) is

  pub order-seen : (y : OrderBy) (items : List OrderItem) → order_items scope select y ≡ Ok items → All (λ i. P i.col) items
  order-seen no_order items is = let none : [] ≡ items = cc (is) in subst (All (λ i. P i.col)) none (All-nil (λ i. P i.col))
  order-seen (order_by k b o os) items is = each-holds (order_item scope select) (λ i. P i.col) item-seen (o ∷ further_parts (λ x. x) os) items is
