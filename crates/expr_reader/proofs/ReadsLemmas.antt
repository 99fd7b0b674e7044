-- What a part's reading hands on.
use Rattle.std.proofs.Common.{◌≡◌, List, Result, Ok, Err, refl, sym, ap, subst, ◌∙◌}
use Rattle.std.specs.Result.{IfOk, IsErrAnd}
use Rattle.pg_base.specs.declared.faults.Fault.{Fault}
use Rattle.pg_base.specs.declared.faults.Refusal.{Refusal}
use Rattle.pg_base.specs.declared.faults.Refusal.TheVariants as refusal
use Rattle.sql_grammar.specs.Terminals.{Terminal}
use Rattle.expr_reader.specs.work.Reads.{Reads, IsReadAs, seen_as}

-- what is meant
pub read-ok : (T A : Type 0) (seen : T → A) (m : Result A Fault) (x : T) (rest left : List Terminal) → Ok (seen x) ≡ m → left ≡ rest → Reads seen m rest (Ok x) left
read-ok T A seen (Ok a) x rest left is so = (cc (is), so)
read-ok T A seen (Err f) x rest left is so = absurd (cc (is))

pub read-as : (T A : Type 0) (seen : T → A) (m : Result A Fault) (r : Result T Refusal) (x : T) (rest left now : List Terminal) → r ≡ Ok x → now ≡ left → Ok (seen x) ≡ m → left ≡ rest → Reads seen m rest r now
read-as T A seen m (Ok y) x rest left now so same is words = let value : y ≡ x = cc (so) in read-ok T A seen m y rest now (ap (λ (z : T). Ok (seen z)) value ∙ is) (same ∙ words)
read-as T A seen m (Err e) x rest left now so same is words = absurd (cc (so))

-- memory ran out
pub read-memory : (T A : Type 0) (seen : T → A) (m : Result A Fault) (rest left : List Terminal) → Reads seen m rest (Err refusal.Memory) left
read-memory T A seen (Ok a) rest left = tt
read-memory T A seen (Err f) rest left = tt

-- a fault that is handed on
pub read-fault : (T A : Type 0) (seen : T → A) (m : Result A Fault) (r : Result T Refusal) (f : Fault) (rest left : List Terminal) → m ≡ Err f → IsErrAnd r (λ e. e ≡ refusal.Fault f) → Reads seen m rest r left
read-fault T A seen (Ok a) r f rest left is told = absurd (cc (is))
read-fault T A seen (Err g) (Ok x) f rest left is told = absurd told
read-fault T A seen (Err g) (Err (refusal.Fault h)) f rest left is told = cc (is, told)
read-fault T A seen (Err g) (Err refusal.Memory) f rest left is told = tt

-- the refusal of a part that is handed on
pub read-refused : (T U A B : Type 0) (seen : T → A) (seen' : U → B) (m : Result A Fault) (m' : Result B Fault) (e : Refusal) (r : Result U Refusal) (rest rest' left left' : List Terminal) →
    Reads seen m rest (Err e) left → ((f : Fault) → m ≡ Err f → m' ≡ Err f) → IsErrAnd r (λ d. d ≡ e) → Reads seen' m' rest' r left'
read-refused T U A B seen seen' m m' e (Ok x) rest rest' left left' read on told = absurd told
read-refused T U A B seen seen' (Ok a) m' (refusal.Fault f) (Err d) rest rest' left left' read on told = absurd read
read-refused T U A B seen seen' (Err g) m' (refusal.Fault f) (Err d) rest rest' left left' read on told =
    read-fault U B seen' m' (Err d) f rest' left' (on f (ap (λ (h : Fault). Err h) (sym read))) told
read-refused T U A B seen seen' m m' refusal.Memory (Err refusal.Memory) rest rest' left left' read on told = read-memory U B seen' m' rest' left'
read-refused T U A B seen seen' m m' refusal.Memory (Err (refusal.Fault f)) rest rest' left left' read on told = absurd (cc (told))

-- what was read of a part that is read
pub record WasRead (T A : Type 0) (seen : T → A) (m : Result A Fault) (x : T) (rest left : List Terminal) : Type 0 where
  pub meant : m ≡ Ok (seen x)
  pub words : left ≡ rest

pub was-read : (T A : Type 0) (seen : T → A) (m : Result A Fault) (x : T) (rest left : List Terminal) → Reads seen m rest (Ok x) left → WasRead T A seen m x rest left
was-read T A seen (Ok a) x rest left read = record { meant = ap (λ (b : A). Ok b) (sym read.0); words = read.1 }
was-read T A seen (Err f) x rest left read = absurd read

-- an answer that takes no memory
pub seen-ok : (T A : Type 0) (seen : T → A) (r : Result T Fault) (m : Result A Fault) (x : T) → seen_as seen r ≡ m → r ≡ Ok x → Ok (seen x) ≡ m
seen-ok T A seen (Ok y) m x is so = ap (λ (z : Result T Fault). seen_as seen z) (sym so) ∙ is
seen-ok T A seen (Err f) m x is so = absurd (cc (so))

pub seen-err : (T A : Type 0) (seen : T → A) (r : Result T Fault) (m : Result A Fault) (f : Fault) → seen_as seen r ≡ m → r ≡ Err f → m ≡ Err f
seen-err T A seen r m f is so = sym is ∙ ap (seen_as seen) so

-- what is read to its end
pub read-whole : (T A : Type 0) (seen : T → A) (m : Result A Fault) (r : Result T Refusal) (rest left : List Terminal) → Reads seen m rest r left → IsReadAs seen m r
read-whole T A seen (Ok a) (Ok x) rest left read = read.0
read-whole T A seen (Ok a) (Err (refusal.Fault f)) rest left read = absurd read
read-whole T A seen (Ok a) (Err refusal.Memory) rest left read = tt
read-whole T A seen (Err f) (Ok x) rest left read = absurd read
read-whole T A seen (Err f) (Err (refusal.Fault g)) rest left read = read
read-whole T A seen (Err f) (Err refusal.Memory) rest left read = tt

-- what is meant has a property, and so has what is read
pub read-has : (T A : Type 0) (seen : T → A) (P : A → Type 0) (m : Result A Fault) (r : Result T Refusal) (rest left : List Terminal) → Reads seen m rest r left → ((a : A) → m ≡ Ok a → P a) → IfOk r (λ x. P (seen x))
read-has T A seen P (Ok a) (Ok x) rest left read has = subst P (sym read.0) (has a refl)
read-has T A seen P (Err f) (Ok x) rest left read has = absurd read
read-has T A seen P m (Err e) rest left read has = tt

-- a refusal for memory that is handed on
pub read-want : (T A : Type 0) (seen : T → A) (m : Result A Fault) (r : Result T Refusal) (rest left : List Terminal) → IsErrAnd r (λ e. e ≡ refusal.Memory) → Reads seen m rest r left
read-want T A seen m (Ok x) rest left told = absurd told
read-want T A seen m (Err refusal.Memory) rest left told = read-memory T A seen m rest left
read-want T A seen m (Err (refusal.Fault f)) rest left told = absurd (cc (told))
