-- Parts of the script put behind one another.
use Rattle.std.proofs.Common.{◌≡◌, ℕ, ◌+◌, List, ◌++◌, append_assoc, codes, ap, ap₂, ◌∙◌, cond, Result, Ok, Err, OnOk, is_ok}
use Rattle.pgplan.specs.Script.{chain_query, copied, data_of, definitions, draw_at, drawn, either_query, one_group_query, head_of, pair_query, self_query, value_query, queries_of, records, script}
use Rattle.pgplan.proofs.DrawLemmas.{IsDraw, drawn-then}

-- two and three parts behind a text
pub both : (t u v x y : List ℕ) → u ≡ t ++ x → v ≡ u ++ y → v ≡ t ++ (x ++ y)
both t u v x y one two = two ∙ ap (λ (l : List ℕ). l ++ y) one ∙ append_assoc t x y

three : (t u v w x y z : List ℕ) → u ≡ t ++ x → v ≡ u ++ y → w ≡ v ++ z → w ≡ t ++ (x ++ y ++ z)
three t u v w x y z one two more = both t v w (x ++ y) z (both t u v x y one two) more

-- COPY of so many records, where its end was written
pub copied-all : {E : Type 0} (r : Result (Unit {0}) E) (t u v w table : List ℕ) (s least below count : ℕ) → u ≡ t ++ head_of table → v ≡ u ++ records s least below count → w ≡ cond (is_ok r) (v ++ codes "\\.\n") v
    → OnOk r (w ≡ t ++ copied table s least below count)
copied-all (Ok done) t u v w table s least below count one two more = three t u v w (head_of table) (records s least below count) (codes "\\.\n") one two more
copied-all (Err e) t u v w table s least below count one two more = tt

-- the rows of three tables
pub data-all : (t u v w : List ℕ) (s b c : ℕ) → b ≡ drawn s 1000 → c ≡ drawn b 2000 → u ≡ t ++ copied (codes "a") s 0 50 500 → v ≡ u ++ copied (codes "b") b 1 500 1000 → w ≡ v ++ copied (codes "c") c 1 1000 2000
    → w ≡ t ++ data_of s
unfolding data_of
data-all t u v w s b c is is' one two more =
    let at : c ≡ drawn s 3000 = is' ∙ ap (λ (x : ℕ). drawn x 2000) is ∙ drawn-then s 1000 2000 in
    three t u v w (copied (codes "a") s 0 50 500) (copied (codes "b") (drawn s 1000) 1 500 1000) (copied (codes "c") (drawn s 3000) 1 1000 2000)
    one (two ∙ ap (λ (x : ℕ). u ++ copied (codes "b") x 1 500 1000) is) (more ∙ ap (λ (x : ℕ). v ++ copied (codes "c") x 1 1000 2000) at)

pub state-all : (s b c d : ℕ) → b ≡ drawn s 1000 → c ≡ drawn b 2000 → d ≡ drawn c 4000 → d ≡ drawn s 7000
state-all s b c d is is' more = more ∙ ap (λ (x : ℕ). drawn x 4000) (is' ∙ ap (λ (x : ℕ). drawn x 2000) is ∙ drawn-then s 1000 2000) ∙ drawn-then s 3000 4000

-- the six queries, by seven numbers drawn one after another
pub queries-all : (t u₁ u₂ u₃ u₄ u₅ u₆ : List ℕ) (s : ℕ) {s₀ s₁ s₂ s₃ s₄ s₅ s₆ d₀ d₁ d₂ d₃ d₄ d₅ d₆ : ℕ}
    → IsDraw s 0 s₀ d₀ 50 → IsDraw s 1 s₁ d₁ 1000 → IsDraw s 2 s₂ d₂ 500 → IsDraw s 3 s₃ d₃ 500 → IsDraw s 4 s₄ d₄ 1000 → IsDraw s 5 s₅ d₅ 1000 → IsDraw s 6 s₆ d₆ 500
    → u₁ ≡ t ++ one_group_query d₀ → u₂ ≡ u₁ ++ pair_query d₁ → u₃ ≡ u₂ ++ chain_query (1 + d₂) → u₄ ≡ u₃ ++ either_query (1 + d₃) d₄ → u₅ ≡ u₄ ++ value_query d₅ → u₆ ≡ u₅ ++ self_query (1 + d₆)
    → u₆ ≡ t ++ queries_of s
unfolding queries_of
queries-all t u₁ u₂ u₃ u₄ u₅ u₆ s i₀ i₁ i₂ i₃ i₄ i₅ i₆ one two more four five six =
    let a = one_group_query (draw_at s 0 50) in
    let b = pair_query (draw_at s 1 1000) in
    let c = chain_query (1 + draw_at s 2 500) in
    let d = either_query (1 + draw_at s 3 500) (draw_at s 4 1000) in
    let e = value_query (draw_at s 5 1000) in
    let f = self_query (1 + draw_at s 6 500) in
    both t u₅ u₆ (a ++ b ++ c ++ d ++ e) f
    (both t u₄ u₅ (a ++ b ++ c ++ d) e
    (both t u₃ u₄ (a ++ b ++ c) d
    (both t u₂ u₃ (a ++ b) c
    (both t u₁ u₂ a b (one ∙ ap (λ (x : ℕ). t ++ one_group_query x) i₀.draw_is) (two ∙ ap (λ (x : ℕ). u₁ ++ pair_query x) i₁.draw_is))
    (more ∙ ap (λ (x : ℕ). u₂ ++ chain_query (1 + x)) i₂.draw_is))
    (four ∙ ap₂ (λ (x y : ℕ). u₃ ++ either_query (1 + x) y) i₃.draw_is i₄.draw_is))
    (five ∙ ap (λ (x : ℕ). u₄ ++ value_query x) i₅.draw_is))
    (six ∙ ap (λ (x : ℕ). u₅ ++ self_query (1 + x)) i₆.draw_is)

-- the text of the definitions
pub begun-by : (t : List ℕ) → t ≡ codes "CREATE TABLE a (id int4 NOT NULL, g int4, v int4);\nCREATE TABLE b (id int4 NOT NULL, a_id int4, v int4);\nCREATE TABLE c (id int4 NOT NULL, b_id int4, v int4);\nCREATE INDEX ia ON a (id);\nCREATE INDEX iag ON a (g, v);\nCREATE INDEX iba ON b (a_id);\nCREATE INDEX icb ON c (b_id);\nCREATE INDEX icv ON c (v);\n" → t ≡ definitions
unfolding definitions
begun-by t is = is

-- the whole script
pub script-all : (t u v : List ℕ) (n s : ℕ) → t ≡ definitions → s ≡ drawn n 7000 → u ≡ t ++ data_of n → v ≡ u ++ queries_of s → v ≡ script n
unfolding script
script-all t u v n s is at one two =
    two ∙ ap₂ (λ (l : List ℕ) (x : ℕ). l ++ queries_of x) (one ∙ ap (λ (l : List ℕ). l ++ data_of n) is) at
