-- Numbers whose bits are set in a list of words of 64 bits.
use Rattle.std.proofs.Common.{◌≡◌, ℕ, zero, suc, ◌<◌, ◌≤◌, ◌+◌, ◌-◌, ◌*◌, ◌/◌, ◌%◌, ◌^◌, true, false, ◌||◌, ◌&&◌, nat_eq, List, length, slice_index_or, slice_set, replicate, sym, ap, ap₂, ◌∙◌, arith, w64, bit_and, bit_or, inl, inr, Bool, refl}
use Rattle.std.specs.Int.{trailing_zeros}
use Rattle.std.proofs.Math.Nat.{div-add-mod, div-le_self}
use Rattle.std.proofs.lemmas.Nat.Bits.{bit_at_above, bit_at-trailing_zeros}
use Rattle.std.proofs.lemmas.Nat.{shr-shr}
use Rattle.std.proofs.lemmas.List.{get_or-set_same, get_or-set_other, get_or_past, length-set}
use Rattle.std.proofs.lemmas.Bool.{cases_lt, false≢true}
use Rattle.std.proofs.lemmas.Bool.Decides.{nat_tests}
use Rattle.pg_base.specs.Sets.{has}
use Rattle.pg_base.proofs.SetLaws.{has-or, has-and, has-zero, has-one_wide}
use Rattle.heap.specs.work.TidSets.{is_marked}
use Rattle.pg_base.proofs.NumberLemmas.{same-place as one_place}
use Rattle.pg_base.proofs.NumberLemmas.{other-place as other_place}

pub has-set_bit : (word bit k : ℕ) → bit < 64 → has (bit_or (1 * 2 ^ bit % 2 ^ 64) word) k ≡ nat_eq k bit || has word k
has-set_bit word bit k lt = has-or (1 * 2 ^ bit % 2 ^ 64) word k ∙ ap (λ (b : Bool). b || has word k) (has-one_wide 64 bit k lt)

-- the bits from one on
has-shifted : (word from k : ℕ) → has (word / 2 ^ from) k ≡ has word (from + k)
unfolding has
has-shifted word from k = ap (λ (n : ℕ). nat_eq (n % 2) 1) (shr-shr word from k)

has-from : (word from k : ℕ) → from ≤ k → has word k ≡ has (word / 2 ^ from) (k - from)
has-from word from k le = let same : k ≡ from + (k - from) = omega arith in ap (has word) same ∙ sym (has-shifted word from (k - from))

pub none-from : (word from k : ℕ) → word / 2 ^ from ≡ 0 → from ≤ k → has word k ≡ false
none-from word from k none le = has-from word from k le ∙ ap (λ (n : ℕ). has n (k - from)) none ∙ has-zero (k - from)

has-above_64 : (word k : ℕ) → word < 2 ^ 64 → 64 ≤ k → has word k ≡ false
unfolding has
has-above_64 word k fit above = ap (λ (n : ℕ). nat_eq n 1) (bit_at_above word 64 k fit above)

module _ (word from : ℕ) (fit : word < 2 ^ 64) (some : 0 < word / 2 ^ from) where
  shifted-fits : word / 2 ^ from < 2 ^ 64
  shifted-fits = omega (arith, div-le_self word (2 ^ from))

  pub lowest-has : has word (from + trailing_zeros w64 (word / 2 ^ from)) ≡ true
  unfolding has
  lowest-has = sym (has-shifted word from (trailing_zeros w64 (word / 2 ^ from))) ∙ ap (λ (n : ℕ). nat_eq n 1) (bit_at-trailing_zeros w64 (word / 2 ^ from) some shifted-fits).1

  pub lowest-fits : from + trailing_zeros w64 (word / 2 ^ from) < 64
  lowest-fits = elim (cases_lt (from + trailing_zeros w64 (word / 2 ^ from)) 64) [
    | inl below ↦ below
    | inr above ↦ absurd (false≢true (sym (has-above_64 word (from + trailing_zeros w64 (word / 2 ^ from)) fit above) ∙ lowest-has))
  ]

  pub lowest-least : (k : ℕ) → from ≤ k → k < from + trailing_zeros w64 (word / 2 ^ from) → has word k ≡ false
  unfolding has
  lowest-least k le lt = has-from word from k le ∙ ap (λ (n : ℕ). nat_eq n 1) ((bit_at-trailing_zeros w64 (word / 2 ^ from) some shifted-fits).2 (k - from) (omega arith))

-- the place of a number: its word and its bit
pub of_word : (n place bit : ℕ) → bit < 64 → n ≡ place * 64 + bit → (n / 64 ≡ place) × (n % 64 ≡ bit)
of_word n place bit lt is = (omega arith, omega arith)

module _ (words : List ℕ) (t w : ℕ) (inside : t / 64 < length words) (bits : (k : ℕ) → has w k ≡ nat_eq k (t % 64) || has (slice_index_or words (t / 64) 0) k) where
  marked-same : (n : ℕ) → n / 64 ≡ t / 64 → is_marked (slice_set words (t / 64) w) n ≡ nat_eq n t || is_marked words n
  marked-same n same =
      ap (λ (k : ℕ). has (slice_index_or (slice_set words (t / 64) w) k 0) (n % 64)) same
      ∙ ap (λ (x : ℕ). has x (n % 64)) (get_or-set_same words (t / 64) w 0 inside)
      ∙ bits (n % 64)
      ∙ ap₂ (λ (a b : Bool). a || b) (one_place n t same) (ap (λ (k : ℕ). has (slice_index_or words k 0) (n % 64)) (sym same))

  marked-other : (n : ℕ) → (n / 64 ≡ t / 64 → ⊥) → is_marked (slice_set words (t / 64) w) n ≡ nat_eq n t || is_marked words n
  marked-other n other =
      ap (λ (x : ℕ). has x (n % 64)) (get_or-set_other words (t / 64) (n / 64) w 0 other)
      ∙ ap (λ (b : Bool). b || is_marked words n) (sym (other_place n t other))

  pub marked-more : (n : ℕ) → is_marked (slice_set words (t / 64) w) n ≡ nat_eq n t || is_marked words n
  marked-more n = elim (cases_lt (n / 64) (t / 64)) [
    | inl below ↦ marked-other n (λ e. omega (arith, e, below))
    | inr least ↦ elim (cases_lt (t / 64) (n / 64)) [ inl above ↦ marked-other n (λ e. omega (arith, e, above)) | inr most ↦ marked-same n (omega (arith, least, most)) ]
  ]

-- words that are changed one after another
pub record AreChanged (f : ℕ → ℕ → ℕ) (old others now : List ℕ) (place : ℕ) : Type 0 where
  pub count : length now ≡ length old
  pub done : (k : ℕ) → k < place → slice_index_or now k 0 ≡ f (slice_index_or old k 0) (slice_index_or others k 0)
  pub rest : (k : ℕ) → place ≤ k → slice_index_or now k 0 ≡ slice_index_or old k 0

module _ (f : ℕ → ℕ → ℕ) (old others : List ℕ) where
  pub none-changed : AreChanged f old others old 0
  none-changed = record { count = refl; done = λ k lt. absurd (omega arith); rest = λ k le. refl }

  pub one-changed : (now : List ℕ) (place w : ℕ) → place < length now → AreChanged f old others now place → w ≡ f (slice_index_or now place 0) (slice_index_or others place 0) → AreChanged f old others (slice_set now place w) (place + 1)
  one-changed now place w lt are is = record {
    count = length-set now place w ∙ are.count;
    done = λ k low. elim (cases_lt k place) [
      | inl below ↦ get_or-set_other now place k w 0 (λ e. omega (arith, e, below)) ∙ are.done k below
      | inr least ↦
          let same : k ≡ place = omega (arith, low, least) in
          ap (λ (j : ℕ). slice_index_or (slice_set now place w) j 0) same ∙ get_or-set_same now place w 0 lt ∙ is
          ∙ ap₂ f (ap (λ (j : ℕ). slice_index_or now j 0) (sym same) ∙ are.rest k (omega (arith, same))) (ap (λ (j : ℕ). slice_index_or others j 0) (sym same))
    ];
    rest = λ k least. get_or-set_other now place k w 0 (λ e. omega (arith, e, least)) ∙ are.rest k (omega (arith, least));
  }

  pub all-changed : (now : List ℕ) (place : ℕ) → length now ≤ place → length old ≡ length others → f 0 0 ≡ 0 → AreChanged f old others now place → (k : ℕ) → slice_index_or now k 0 ≡ f (slice_index_or old k 0) (slice_index_or others k 0)
  all-changed now place past same none are k = elim (cases_lt k place) [
    | inl below ↦ are.done k below
    | inr least ↦
        get_or_past now k 0 (omega (arith, past, least))
        ∙ sym none
        ∙ ap₂ f (sym (get_or_past old k 0 (omega (arith, past, least, are.count)))) (sym (get_or_past others k 0 (omega (arith, past, least, are.count, same))))
  ]

module _ (a b words : List ℕ) (n : ℕ) where
  pub marked-both : ((k : ℕ) → slice_index_or words k 0 ≡ bit_and (slice_index_or a k 0) (slice_index_or b k 0)) → is_marked words n ≡ (is_marked a n && is_marked b n)
  marked-both is = ap (λ (x : ℕ). has x (n % 64)) (is (n / 64)) ∙ has-and (slice_index_or a (n / 64) 0) (slice_index_or b (n / 64) 0) (n % 64)

  pub marked-either : ((k : ℕ) → slice_index_or words k 0 ≡ bit_or (slice_index_or a k 0) (slice_index_or b k 0)) → is_marked words n ≡ (is_marked a n || is_marked b n)
  marked-either is = ap (λ (x : ℕ). has x (n % 64)) (is (n / 64)) ∙ has-or (slice_index_or a (n / 64) 0) (slice_index_or b (n / 64) 0) (n % 64)

abbrev nothing : ℕ
nothing = 0

zero-at : (k i : ℕ) → slice_index_or (replicate k 0) i 0 ≡ nothing
zero-at zero i = refl
zero-at (suc k) zero = refl
zero-at (suc k) (suc i) = zero-at k i

pub none-marked : (k n : ℕ) → is_marked (replicate k 0) n ≡ false
none-marked k n = ap (λ (x : ℕ). has x (n % 64)) (zero-at k (n / 64)) ∙ has-zero (n % 64)

-- past the words no bit is set
pub past-marked : (words : List ℕ) (n : ℕ) → length words ≤ n / 64 → is_marked words n ≡ false
past-marked words n past = ap (λ (x : ℕ). has x (n % 64)) (get_or_past words (n / 64) 0 past) ∙ has-zero (n % 64)
