-- States behind one another, and a record more.
use Rattle.std.proofs.Common.{◌≡◌, ℕ, zero, suc, ◌+◌, ◌*◌, ◌/◌, ◌%◌, ◌^◌, List, [], ◌∷◌, ◌++◌, append_assoc, append-nil, add-one, add-zero, add-suc, zero-add, codes, refl, sym, ap, ap₂, ◌∙◌, arith}
use Rattle.std.proofs.lemmas.List.Concat.{flat_map-append}
use Rattle.std.specs.Fmt.{decimal}
use Rattle.std.specs.List.{flat_map, range_with_len}
use Rattle.pgplan.specs.Script.{draw_at, drawn, record_line, records, state_behind}

-- one more draw
pub drawn-more : (s k : ℕ) → drawn s (k + 1) ≡ state_behind (drawn s k)
unfolding drawn
drawn-more s k = ap (drawn s) (add-one k)

pub drawn-none : (s : ℕ) → drawn s 0 ≡ s
unfolding drawn
drawn-none s = refl

-- draws behind others
pub drawn-then : (s j k : ℕ) → drawn (drawn s j) k ≡ drawn s (j + k)
unfolding drawn
drawn-then s j zero = ap (drawn s) (sym (add-zero j))
drawn-then s j (suc k) = ap state_behind (drawn-then s j k) ∙ ap (drawn s) (sym (add-suc j k))

-- the states that a record's two draws leave
pub drawn-two : (s a b c i : ℕ) → a ≡ drawn s (2 * i) → b ≡ state_behind a → c ≡ state_behind b → (b ≡ drawn s (2 * i + 1)) × (c ≡ drawn s (2 * (i + 1)))
drawn-two s a b c i is one two =
    let first : b ≡ drawn s (2 * i + 1) = one ∙ ap state_behind is ∙ sym (drawn-more s (2 * i)) in
    let place : 2 * i + 1 + 1 ≡ 2 * (i + 1) = omega arith in
    (first, two ∙ ap state_behind first ∙ sym (drawn-more s (2 * i + 1)) ∙ ap (drawn s) place)

pub records-none : (s least below : ℕ) → records s least below 0 ≡ []
unfolding records
records-none s least below = refl

-- one number more in a row of numbers
numbers-next : (a n m : ℕ) → a + n ≡ m → range_with_len a (suc n) ≡ range_with_len a n ++ m ∷ []
numbers-next a zero m is = ap (λ (k : ℕ). k ∷ []) (sym (add-zero a) ∙ is)
numbers-next a (suc n) m is = ap (λ (r : List ℕ). a ∷ r) (numbers-next (a + 1) n m (omega (arith, is)))

numbers-more : (n : ℕ) → range_with_len 0 (n + 1) ≡ range_with_len 0 n ++ n ∷ []
numbers-more n = ap (range_with_len 0) (add-one n) ∙ numbers-next 0 n n (zero-add n)

-- one record more
records-next : (s least below i : ℕ) → records s least below (i + 1) ≡ records s least below i ++ record_line s least below i
unfolding records
records-next s least below i =
    ap (flat_map (record_line s least below)) (numbers-more i) ∙ flat_map-append (record_line s least below) (range_with_len 0 i) (i ∷ [])
    ∙ ap (λ (r : List ℕ). flat_map (record_line s least below) (range_with_len 0 i) ++ r) (append-nil (record_line s least below i))

-- one record more of a text, of two numbers drawn at these states
pub records-more : (s least below i : ℕ) (text mid new : List ℕ) (first second : ℕ) {b c : ℕ} → b ≡ drawn s (2 * i + 1) → c ≡ drawn s (2 * (i + 1)) → first ≡ (b / 2 ^ 33) % below → second ≡ (c / 2 ^ 33) % 1000
    → mid ≡ text ++ records s least below i
    → new ≡ mid ++ (decimal (i + 1) ++ codes "," ++ decimal (least + first) ++ codes "," ++ decimal second ++ codes "\n")
    → new ≡ text ++ records s least below (i + 1)
records-more s least below i text mid new first second at at' is is' before after =
    let place : 2 * (i + 1) ≡ 2 * i + 1 + 1 = omega arith in
    let one : first ≡ draw_at s (2 * i) below = is ∙ ap (λ (x : ℕ). (x / 2 ^ 33) % below) at in
    let two : second ≡ draw_at s (2 * i + 1) 1000 = is' ∙ ap (λ (x : ℕ). (x / 2 ^ 33) % 1000) (at' ∙ ap (drawn s) place) in
    after
    ∙ ap₂ (λ (m : List ℕ) (l : List ℕ). m ++ l) before
    (ap₂ (λ (x y : ℕ). decimal (i + 1) ++ codes "," ++ decimal (least + x) ++ codes "," ++ decimal y ++ codes "\n") one two)
    ∙ append_assoc text (records s least below i) (record_line s least below i)
    ∙ ap (λ (r : List ℕ). text ++ r) (sym (records-next s least below i))

-- a draw and the state that it leaves, behind so many others
pub record IsDraw (s k state draw below : ℕ) : Type 0 where
  pub state_is : state ≡ drawn s (k + 1)
  pub draw_is : draw ≡ draw_at s k below

pub first-draw : (s a draw below : ℕ) → a ≡ state_behind s → draw ≡ (a / 2 ^ 33) % below → IsDraw s 0 a draw below
first-draw s a draw below turns draws =
    let is : a ≡ drawn s (0 + 1) = turns ∙ ap state_behind (sym (drawn-none s)) ∙ sym (drawn-more s 0) in
    record { state_is = is; draw_is = draws ∙ ap (λ (x : ℕ). (x / 2 ^ 33) % below) is }

pub next-draw : (s k j a b first draw other below : ℕ) → j ≡ k + 1 → IsDraw s k a first other → b ≡ state_behind a → draw ≡ (b / 2 ^ 33) % below → IsDraw s j b draw below
next-draw s k j a b first draw other below after is turns draws =
    let at : b ≡ drawn s (j + 1) = turns ∙ ap state_behind (is.state_is ∙ ap (drawn s) (sym after)) ∙ sym (drawn-more s j) in
    record { state_is = at; draw_is = draws ∙ ap (λ (x : ℕ). (x / 2 ^ 33) % below) at }
