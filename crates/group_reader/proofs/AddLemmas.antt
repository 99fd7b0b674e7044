-- Lists of parts to which those of items are added, one after the other, and lists bound part by part.
use Rattle.std.proofs.Common.{◌≡◌, ℕ, ◌+◌, ◌<◌, ◌≤◌, List, [], ◌∷◌, ◌++◌, length, drop, get_or, Result, Ok, Err, IsErrAnd, refl, sym, ap, subst, ◌∙◌, append_assoc, append-nil, drop_of_length-le}
use Rattle.std.proofs.lemmas.List.{drop_more}
use Rattle.pg_base.specs.declared.faults.Fault.{Fault}
use Rattle.pg_base.specs.declared.faults.Refusal.{Refusal}
use Rattle.pg_base.specs.declared.faults.Refusal.TheVariants as refusal
use Rattle.pg_value.specs.declared.value.SqlType.{SqlType}
use Rattle.pg_expr.specs.declared.operand.ColRef.{ColRef}
use Rattle.expr_reader.specs.Lists.{before_all, bound_each}
use Rattle.expr_reader.specs.Conditions.{next}
use Rattle.expr_reader.specs.Scope.{Scope}
use Rattle.query_reader.specs.work.Adds.{Adds}
use Rattle.query_reader.specs.work.Conveys.{Conveys}
use Rattle.group_reader.specs.declared.parts.Part.{Part}
use Rattle.group_reader.specs.declared.written.Listed.{Listed}
use Rattle.group_reader.specs.work.Adds.{AddsParts}
use Rattle.group_reader.specs.work.Meaning.{list_said, listed_said, then_parts}

-- what is added after a call that succeeds
pub record Added (x : Result (List Part) Fault) (old new : List Part) : Type 0 where
  pub parts : List Part
  pub is : x ≡ Ok parts
  pub grown : new ≡ old ++ parts

pub adds-ok : {T : Type 0} (x : Result (List Part) Fault) (old new : List Part) (v : T) → AddsParts x old new (Ok v) → Added x old new
adds-ok (Ok ps) old new v a = record { parts = ps; is = refl; grown = a }
adds-ok (Err f) old new v a = absurd a

pub adds-memory : (T : Type 0) (x : Result (List Part) Fault) (old new : List Part) (r : Result T Refusal) → IsErrAnd r (λ e. e ≡ refusal.Memory) → AddsParts x old new r
adds-memory T x old new (Ok v) told = absurd told
adds-memory T (Ok ps) old new (Err e) told =
    let P : Refusal → Type 0 = λ h. AddsParts {T = T} (Ok ps) old new (Err h) in
    subst P (sym told) tt
adds-memory T (Err f) old new (Err e) told =
    let P : Refusal → Type 0 = λ h. AddsParts {T = T} (Err f) old new (Err h) in
    subst P (sym told) tt

pub adds-fault : (T : Type 0) (x : Result (List Part) Fault) (old new : List Part) (f : Fault) (r : Result T Refusal) → x ≡ Err f → IsErrAnd r (λ e. e ≡ refusal.Fault f) → AddsParts x old new r
adds-fault T x old new f (Ok v) is told = absurd told
adds-fault T x old new f (Err e) is told = rw (is, told) refl

pub adds-done : (T : Type 0) (x : Result (List Part) Fault) (old new ps : List Part) (v : T) → x ≡ Ok ps → new ≡ old ++ ps → AddsParts x old new (Ok v)
adds-done T x old new ps v is grown = rw is grown

-- what is told after an item that stops the list
pub list-stopped : (S T : Type 0) (whole x later : Result (List Part) Fault) (so old mid now new : List Part) (e : Refusal) (r : Result T Refusal) → then_parts (Ok so) (then_parts x later) ≡ whole →
    AddsParts {T = S} x mid now (Err e) → IsErrAnd r (λ told. told ≡ e) → AddsParts whole old new r
list-stopped S T whole x later so old mid now new e (Ok v) w a told = absurd told
list-stopped S T whole (Ok ps) later so old mid now new (refusal.Fault f) (Err g) w a told = absurd a
list-stopped S T whole x later so old mid now new refusal.Memory (Err g) w a told = adds-memory T whole old new (Err g) told
list-stopped S T whole (Err f) later so old mid now new (refusal.Fault h) (Err g) w a told = adds-fault T whole old new f (Err g) (sym w) (told ∙ ap refusal.Fault a)

-- what is told after columns that are not added
pub columns-stopped : (S T : Type 0) (x : Result (List ColRef) Fault) (F : List ColRef → Result (List Part) Fault) (a b : List ColRef) (old new : List Part) (e : Refusal) (r : Result T Refusal) → Adds {T = S} x a b (Err e) → IsErrAnd r (λ d. d ≡ e) →
    AddsParts (next x F) old new r
columns-stopped S T x F a b old new e (Ok v) told is = absurd is
columns-stopped S T x F a b old new refusal.Memory (Err d) told is = adds-memory T (next x F) old new (Err d) is
columns-stopped S T (Ok cs) F a b old new (refusal.Fault g) (Err d) told is = absurd told
columns-stopped S T (Err f) F a b old new (refusal.Fault g) (Err d) told is = adds-fault T (Err f) old new f (Err d) refl (is ∙ ap refusal.Fault told)

-- the list goes on after parts that are added
pub then-then : (a b : List Part) (r : Result (List Part) Fault) → then_parts (Ok a) (then_parts (Ok b) r) ≡ then_parts (Ok (a ++ b)) r
then-then a b (Ok c) = ap Ok (sym (append_assoc a b c))
then-then a b (Err f) = refl

pub next-listed : (scope : Scope) (type_of : ColRef → SqlType) (items : List Listed) (n : ℕ) (item : Listed) → n < length items → item ≡ get_or items n item →
    list_said scope type_of (drop n items) ≡ then_parts (listed_said scope type_of item) (list_said scope type_of (drop (n + 1) items))
next-listed scope type_of items n item lt at =
    ap (list_said scope type_of) (drop_more items n item lt) ∙ ap (λ i. then_parts (listed_said scope type_of i) (list_said scope type_of (drop (n + 1) items))) (sym at)

pub all-listed : (scope : Scope) (type_of : ColRef → SqlType) (items : List Listed) (n : ℕ) (so : List Part) → length items ≤ n → then_parts (Ok so) (list_said scope type_of (drop n items)) ≡ list_said scope type_of items → list_said scope type_of items ≡ Ok so
all-listed scope type_of items n so le is =
    sym is ∙ (ap (λ l. then_parts (Ok so) (list_said scope type_of l)) (drop_of_length-le items le) ∙ ap Ok (append-nil so))

-- a list bound part by part, from some number on
module _ {A B : Type 0} (bind : A → Result B Fault) where
  -- what is bound so far stands before what is left
  abbrev pub onward : List B → Result (List B) Fault → Result (List B) Fault
  onward bs (Ok cs) = Ok (bs ++ cs)
  onward bs (Err f) = Err f

  one-more : (bs : List B) (b : B) (r : Result (List B) Fault) → onward bs (before_all (Ok b) r) ≡ onward (bs ++ b ∷ []) r
  one-more bs b (Ok cs) = ap Ok (sym (append_assoc bs (b ∷ []) cs))
  one-more bs b (Err f) = refl

  next-bound : (xs : List A) (n : ℕ) (x : A) → n < length xs → x ≡ get_or xs n x → bound_each bind (drop n xs) ≡ before_all (bind x) (bound_each bind (drop (n + 1) xs))
  next-bound xs n x lt at = ap (bound_each bind) (drop_more xs n x lt) ∙ ap (λ y. before_all (bind y) (bound_each bind (drop (n + 1) xs))) (sym at)

  pub bound-more : (xs : List A) (n : ℕ) (x : A) (bs now : List B) (b : B) → n < length xs → x ≡ get_or xs n x → bind x ≡ Ok b → now ≡ bs ++ b ∷ [] → onward bs (bound_each bind (drop n xs)) ≡ bound_each bind xs →
      onward now (bound_each bind (drop (n + 1) xs)) ≡ bound_each bind xs
  bound-more xs n x bs now b lt at is grown so =
      let later = bound_each bind (drop (n + 1) xs) in
      ap (λ l. onward l later) grown ∙ (sym (one-more bs b later) ∙ (ap (λ r. onward bs (before_all r later)) (sym is) ∙ (ap (onward bs) (sym (next-bound xs n x lt at)) ∙ so)))

  pub bound-fault : (xs : List A) (n : ℕ) (x : A) (bs : List B) (f : Fault) → n < length xs → x ≡ get_or xs n x → bind x ≡ Err f → onward bs (bound_each bind (drop n xs)) ≡ bound_each bind xs → bound_each bind xs ≡ Err f
  bound-fault xs n x bs f lt at is so =
      sym so ∙ (ap (onward bs) (next-bound xs n x lt at) ∙ ap (λ r. onward bs (before_all r (bound_each bind (drop (n + 1) xs)))) is)

  pub bound-all : (xs : List A) (n : ℕ) (bs : List B) → length xs ≤ n → onward bs (bound_each bind (drop n xs)) ≡ bound_each bind xs → bound_each bind xs ≡ Ok bs
  bound-all xs n bs le so = sym so ∙ (ap (λ l. onward bs (bound_each bind l)) (drop_of_length-le xs le) ∙ ap Ok (append-nil bs))

  pub bound-first : (xs : List A) (bs : List B) → bs ≡ [] → onward bs (bound_each bind xs) ≡ bound_each bind xs
  bound-first xs bs none = ap (λ l. onward l (bound_each bind xs)) none ∙ by (bound_each bind xs)
    where
      by : (r : Result (List B) Fault) → onward [] r ≡ r
      by (Ok cs) = refl
      by (Err f) = refl

-- what is conveyed of a whole answer
pub conveys-ok : (A T : Type 0) (Says : A → T → Type 0) (m : Result A Fault) (x : A) (v : T) → m ≡ Ok x → Says x v → Conveys Says m (Ok v)
conveys-ok A T Says m x v is says = subst (λ (n : Result A Fault). Conveys Says n (Ok v)) (sym is) says

pub conveys-memory : (A T : Type 0) (Says : A → T → Type 0) (m : Result A Fault) (r : Result T Refusal) → IsErrAnd r (λ e. e ≡ refusal.Memory) → Conveys Says m r
conveys-memory A T Says m (Ok v) told = absurd told
conveys-memory A T Says (Ok x) (Err e) told = subst (λ (h : Refusal). Conveys Says (Ok x) (Err h)) (sym told) tt
conveys-memory A T Says (Err f) (Err e) told = subst (λ (h : Refusal). Conveys Says (Err f) (Err h)) (sym told) tt

pub conveys-fault : (A T : Type 0) (Says : A → T → Type 0) (m : Result A Fault) (f : Fault) (r : Result T Refusal) → m ≡ Err f → IsErrAnd r (λ e. e ≡ refusal.Fault f) → Conveys Says m r
conveys-fault A T Says m f (Ok v) is told = absurd told
conveys-fault A T Says m f (Err e) is told = rw (is, told) refl

-- the refusal of a part is that of the whole
pub conveys-refused : (A B S T : Type 0) (Says : A → S → Type 0) (Tells : B → T → Type 0) (m : Result A Fault) (n : Result B Fault) (e : Refusal) (r : Result T Refusal) → Conveys Says m (Err e) → ((f : Fault) → m ≡ Err f → n ≡ Err f) →
    IsErrAnd r (λ d. d ≡ e) → Conveys Tells n r
conveys-refused A B S T Says Tells m n e (Ok v) part on told = absurd told
conveys-refused A B S T Says Tells (Ok x) n (refusal.Fault f) (Err d) part on told = absurd part
conveys-refused A B S T Says Tells (Err g) n (refusal.Fault f) (Err d) part on told = conveys-fault B T Tells n f (Err d) (on f (ap Err (sym part))) told
conveys-refused A B S T Says Tells m n refusal.Memory (Err d) part on told = conveys-memory B T Tells n (Err d) told

pub conveys-stopped : (A T : Type 0) (Says : A → T → Type 0) (m : Result A Fault) (e : Refusal) (r : Result T Refusal) → ((f : Fault) → e ≡ refusal.Fault f → m ≡ Err f) → IsErrAnd r (λ d. d ≡ e) → Conveys Says m r
conveys-stopped A T Says m e (Ok v) wrong told = absurd told
conveys-stopped A T Says m (refusal.Fault f) (Err d) wrong told = conveys-fault A T Says m f (Err d) (wrong f refl) told
conveys-stopped A T Says m refusal.Memory (Err d) wrong told = conveys-memory A T Says m (Err d) told

pub was-conveyed : (A T : Type 0) (Says : A → T → Type 0) (m : Result A Fault) (v : T) → Conveys Says m (Ok v) → (x : A) × (m ≡ Ok x) × Says x v
was-conveyed A T Says (Ok x) v says = (x, refl, says)
was-conveyed A T Says (Err f) v says = absurd says

-- what is told after parts that are not added
pub parts-stopped : (S A T : Type 0) (Says : A → T → Type 0) (x : Result (List Part) Fault) (F : List Part → Result A Fault) (a b : List Part) (e : Refusal) (r : Result T Refusal) → AddsParts {T = S} x a b (Err e) → IsErrAnd r (λ d. d ≡ e) → Conveys Says (next x F) r
parts-stopped S A T Says x F a b e (Ok v) told is = absurd is
parts-stopped S A T Says x F a b refusal.Memory (Err d) told is = conveys-memory A T Says (next x F) (Err d) is
parts-stopped S A T Says (Ok ps) F a b (refusal.Fault g) (Err d) told is = absurd told
parts-stopped S A T Says (Err f) F a b (refusal.Fault g) (Err d) told is = conveys-fault A T Says (Err f) f (Err d) refl (is ∙ ap refusal.Fault told)
