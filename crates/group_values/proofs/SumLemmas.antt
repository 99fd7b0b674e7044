-- What is known of groups, with one more tuple.
use Rattle.std.proofs.Common.{◌≡◌, ℕ, zero, suc, ◌<◌, Bool, true, false, cond, List, [], ◌∷◌, ◌++◌, length, map, get_or, set, refl, sym, ap, ap₂, ◌∙◌, arith}
use Rattle.std.specs.Prelude.{All, filter}
use Rattle.std.specs.List.{AllByRecursion}
use Rattle.std.proofs.lemmas.Bool.{false≢true, true≢false}
use Rattle.std.proofs.lemmas.List.{get_or-map, length-map, map-append, map-set, nil_from_length}
use Rattle.std.proofs.lemmas.List.Elements.{All-push, All-head}
use Rattle.pg_value.specs.declared.value.Value.{Value}
use Rattle.group_values.specs.declared.shape.Call.{Call}
use Rattle.group_values.specs.Shapes.{GroupShape, Summary}
use Rattle.group_values.specs.Groups.{Seen, alike, all_called, firsts, groups, keys_of_group, same_keys, summary}
use Rattle.group_values.specs.work.Groups.{IsSumOf}
use Rattle.group_values.specs.work.Steps.{at_first, begun, blank, group_at, have_room, joined, none, with_args}
use Rattle.group_values.proofs.CallLemmas.{blank-room, calls-more, none-called}
use Rattle.group_values.proofs.GroupLemmas.{alike_equiv, all-at, any-at, any-first, any-none, first-keys, firsts-more, firsts-unlike, group-more, is_alike_one, none-left, none-more, one-more}

no-keys : (ks : List Value) → same_keys [] ks ≡ true → ks ≡ []
no-keys [] e = refl
no-keys (k ∷ ks) e = absurd (false≢true e)

keys-kept : (g : List Seen) (s : Seen) → same_keys (keys_of_group g) s.keys ≡ true → keys_of_group (g ++ s ∷ []) ≡ keys_of_group g
keys-kept [] s e = no-keys s.keys e
keys-kept (t ∷ ts) s e = refl

-- a group that a tuple joins
joined-is : (calls : List Call) (g : List Seen) (s : Seen) → length s.args ≡ length calls → same_keys (keys_of_group g) s.keys ≡ true → have_room calls (all_called 0 calls g) ≡ true
    → summary calls (g ++ s ∷ []) ≡ joined calls s.args (summary calls g)
joined-is calls g s m e h =
    ap₂ (λ (ks vs : List Value). let r : Summary = record { keys = ks; called = vs } in r) (keys-kept g s e) (sym (calls-more calls g s m h))

-- a group that a tuple begins
begun-is : (calls : List Call) (s : Seen) → length s.args ≡ length calls → summary calls (s ∷ []) ≡ begun calls s.keys s.args
begun-is calls s m =
    let none : all_called 0 calls [] ≡ map blank calls = none-called calls 0 in
    ap (λ (vs : List Value). let r : Summary = record { keys = s.keys; called = vs } in r)
    (sym (calls-more calls [] s m (ap (have_room calls) none ∙ blank-room calls)) ∙ ap (λ vs. with_args calls vs s.args) none)

blank-seen : Seen
blank-seen = record { keys = []; args = [] }

module _ (calls : List Call) (ss : List Seen) (s : Seen) (many : length s.args ≡ length calls) where
  abbrev members : Seen → List Seen
  members f = filter (alike f) ss

  -- what is known of the group of a first
  at-first : (n : ℕ) (d : Seen) → n < length (firsts ss) → group_at (map (summary calls) (map members (firsts ss))) n ≡ summary calls (members (get_or (firsts ss) n d))
  at-first n d lt =
      get_or-map (summary calls) (map members (firsts ss)) n [] none (omega (arith, length-map (firsts ss) members))
      ∙ ap (summary calls) (get_or-map members (firsts ss) n d [] lt)

  keys-at : (n : ℕ) (d : Seen) → n < length (firsts ss) → (group_at (map (summary calls) (map members (firsts ss))) n).keys ≡ (get_or (firsts ss) n d).keys
  keys-at n d lt = ap (λ (g : Summary). g.keys) (at-first n d lt) ∙ all-at (λ f. keys_of_group (filter (alike f) ss) ≡ f.keys) (firsts ss) n d (first-keys ss) lt

  join-keyed : (n : ℕ) → n < length (firsts ss) → (gs : List Summary) → gs ≡ map (summary calls) (map members (firsts ss)) → same_keys (group_at gs n).keys s.keys ≡ true → have_room calls (group_at gs n).called ≡ true
      → set gs n (joined calls s.args (group_at gs n)) ≡ map (summary calls) (map (λ f. filter (alike f) (ss ++ s ∷ [])) (firsts (ss ++ s ∷ [])))
  join-keyed n lt gs is same room =
      let f : Seen = get_or (firsts ss) n blank-seen in
      let at : group_at gs n ≡ summary calls (members f) = ap (λ l. group_at l n) is ∙ at-first n blank-seen lt in
      let keys : (group_at gs n).keys ≡ f.keys = ap (λ l. (group_at l n).keys) is ∙ keys-at n blank-seen lt in
      let like : alike f s ≡ true = ap (λ ks. same_keys ks s.keys) (sym keys) ∙ same in
      let one : is_alike_one ss s ≡ true = sym (any-first ss s) ∙ any-at (firsts ss) s n blank-seen lt like in
      let stay : firsts (ss ++ s ∷ []) ≡ firsts ss = firsts-more ss s ∙ ap (λ b. cond b (firsts ss) (firsts ss ++ s ∷ [])) one in
      let more : summary calls (members f ++ s ∷ []) ≡ joined calls s.args (group_at gs n) =
      joined-is calls (members f) s many (ap (λ (g : Summary). same_keys g.keys s.keys) (sym at) ∙ same) (ap (λ (g : Summary). have_room calls g.called) (sym at) ∙ room)
      ∙ ap (joined calls s.args) (sym at) in
      ap₂ (λ (l : List Summary) (x : Summary). set l n x) is (sym more)
      ∙ sym (map-set (summary calls) (map members (firsts ss)) n (members f ++ s ∷ []))
      ∙ ap (map (summary calls)) (sym (one-more ss s (firsts ss) (firsts-unlike ss) n blank-seen lt like))
      ∙ ap (λ fs. map (summary calls) (map (λ f. filter (alike f) (ss ++ s ∷ [])) fs)) (sym stay)

  all-from : (P : Seen → Type 0) (fs : List Seen) → ((n : ℕ) → n < length fs → P (get_or fs n blank-seen)) → AllByRecursion P fs
  all-from P [] h = tt
  all-from P (f ∷ fs) h = (h 0 (omega arith), all-from P fs (λ n lt. h (suc n) (omega arith)))

  begin-keyed : (gs : List Summary) → gs ≡ map (summary calls) (map members (firsts ss)) → ((n : ℕ) → n < length gs → same_keys (group_at gs n).keys s.keys ≡ false)
      → gs ++ begun calls s.keys s.args ∷ [] ≡ map (summary calls) (map (λ f. filter (alike f) (ss ++ s ∷ [])) (firsts (ss ++ s ∷ [])))
  begin-keyed gs is other =
      let count : length gs ≡ length (firsts ss) = ap (λ (l : List Summary). length l) is ∙ length-map (map members (firsts ss)) (summary calls) ∙ length-map (firsts ss) members in
      let unlike : AllByRecursion (λ f. alike f s ≡ false) (firsts ss) =
      all-from (λ f. alike f s ≡ false) (firsts ss) (λ n lt. ap (λ ks. same_keys ks s.keys) (sym (ap (λ l. (group_at l n).keys) is ∙ keys-at n blank-seen lt)) ∙ other n (omega (arith, lt, count))) in
      let none : is_alike_one ss s ≡ false = sym (any-first ss s) ∙ any-none (firsts ss) s unlike in
      let more : firsts (ss ++ s ∷ []) ≡ firsts ss ++ s ∷ [] = firsts-more ss s ∙ ap (λ b. cond b (firsts ss) (firsts ss ++ s ∷ [])) none in
      let own : filter (alike s) (ss ++ s ∷ []) ≡ s ∷ [] = group-more s ss s (alike s s) refl ∙ ap₂ (λ (l : List Seen) (b : Bool). l ++ cond b (s ∷ []) []) (none-left ss s none) (self s) in
      ap₂ (λ (l : List Summary) (x : Summary). l ++ x ∷ []) (is ∙ ap (map (summary calls)) (sym (none-more ss s (firsts ss) unlike))) (sym (ap (summary calls) own ∙ begun-is calls s many))
      ∙ sym (ap (λ fs. map (summary calls) (map (λ f. filter (alike f) (ss ++ s ∷ [])) fs)) more
      ∙ ap (map (summary calls)) (map-append (λ f. filter (alike f) (ss ++ s ∷ [])) (firsts ss) (s ∷ []))
      ∙ map-append (summary calls) (map (λ f. filter (alike f) (ss ++ s ∷ [])) (firsts ss)) (filter (alike s) (ss ++ s ∷ []) ∷ []))
    where
      self : (t : Seen) → alike t t ≡ true
      self t = alike_equiv.refl t

-- by the number of GROUP BY columns
join-by : (w : ℕ) (calls : List Call) (ss : List Seen) (s : Seen) (gs : List Summary) (n : ℕ) → length s.args ≡ length calls → gs ≡ map (summary calls) (groups w ss) → n < length gs → same_keys (group_at gs n).keys s.keys ≡ true
    → have_room calls (group_at gs n).called ≡ true → set gs n (joined calls s.args (group_at gs n)) ≡ map (summary calls) (groups w (ss ++ s ∷ []))
join-by zero calls ss s gs zero many is lt same room =
    let at : group_at gs 0 ≡ summary calls ss = ap (λ l. group_at l 0) is in
    ap₂ (λ (l : List Summary) (x : Summary). set l 0 (joined calls s.args x)) is at
    ∙ ap (λ x. x ∷ []) (sym (joined-is calls ss s many (ap (λ (g : Summary). same_keys g.keys s.keys) (sym at) ∙ same) (ap (λ (g : Summary). have_room calls g.called) (sym at) ∙ room)))
join-by zero calls ss s gs (suc n) many is lt same room = absurd (omega (arith, lt, ap (λ (l : List Summary). length l) is))
join-by (suc w) calls ss s gs n many is lt same room =
    join-keyed calls ss s many n
    (omega (arith, lt, ap (λ (l : List Summary). length l) is, length-map (map (members calls ss s many) (firsts ss)) (summary calls), length-map (firsts ss) (members calls ss s many))) gs is same room

pub no-width : (ss : List Seen) → All (λ (s : Seen). length s.keys ≡ 0) ss → keys_of_group ss ≡ []
no-width [] all = refl
no-width (s ∷ ss) all = nil_from_length s.keys (All-head (λ (s : Seen). length s.keys ≡ 0) s ss all)

begin-by : (w : ℕ) (calls : List Call) (ss : List Seen) (s : Seen) (gs : List Summary) → All (λ (t : Seen). length t.keys ≡ w) ss → length s.keys ≡ w → length s.args ≡ length calls → gs ≡ map (summary calls) (groups w ss)
    → ((n : ℕ) → n < length gs → same_keys (group_at gs n).keys s.keys ≡ false) → gs ++ begun calls s.keys s.args ∷ [] ≡ map (summary calls) (groups w (ss ++ s ∷ []))
begin-by zero calls ss s gs widths width many is other =
    absurd (true≢false (
    ap₂ (λ (a b : List Value). same_keys a b) (sym (ap (λ l. (group_at l 0).keys) is ∙ no-width ss widths)) (sym (nil_from_length s.keys width))
    ∙ other 0 (omega (arith, ap (λ (l : List Summary). length l) is))))
begin-by (suc w) calls ss s gs widths width many is other = begin-keyed calls ss s many gs is other

module _ (shape : GroupShape) (ss : List Seen) (keys args : List Value) (gs : List Summary) (sums : IsSumOf shape ss gs) (width : length keys ≡ shape.width) (many : length args ≡ length shape.calls) where
  abbrev seen : Seen
  seen = record { keys = keys; args = args }

  widths : All (λ (s : Seen). length s.keys ≡ shape.width) (ss ++ seen ∷ [])
  widths = All-push (λ (s : Seen). length s.keys ≡ shape.width) ss seen sums.widths width

  pub joins : (n : ℕ) → n < length gs → same_keys (group_at gs n).keys keys ≡ true → have_room shape.calls (group_at gs n).called ≡ true → IsSumOf shape (ss ++ seen ∷ []) (set gs n (joined shape.calls args (group_at gs n)))
  joins n lt same room = record { widths = widths; is = join-by shape.width shape.calls ss seen gs n many sums.is lt same room }

  pub begins : ((n : ℕ) → n < length gs → same_keys (group_at gs n).keys keys ≡ false) → IsSumOf shape (ss ++ seen ∷ []) (gs ++ begun shape.calls keys args ∷ [])
  begins other = record { widths = widths; is = begin-by shape.width shape.calls ss seen gs sums.widths width many sums.is other }

-- before the first tuple
first-by : (w : ℕ) (calls : List Call) → at_first w calls ≡ map (summary calls) (groups w [])
first-by zero calls = ap (λ (vs : List Value). let r : Summary = record { keys = []; called = vs } in r ∷ []) (sym (none-called calls 0))
first-by (suc w) calls = refl

pub first-sum : (shape : GroupShape) → IsSumOf shape [] (at_first shape.width shape.calls)
first-sum shape = record { widths = λ i d lt. absurd (omega arith); is = first-by shape.width shape.calls }
