-- The sample script of a number: three tables with drawn rows, their indexes, and six queries. The form is own; the draws are
-- those of a linear congruential generator (D. E. Knuth, The Art of Computer Programming, volume 2, section 3.3.4, MMIX).
use Rattle.std.specs.Prelude.{ℕ, zero, suc, ◌+◌, ◌*◌, ◌/◌, ◌%◌, ◌^◌, List, ◌++◌, codes}
use Rattle.std.specs.Fmt.{decimal}
use Rattle.std.specs.List.{flat_map, range_with_len}

-- the state of 64 bits behind a state
abbrev pub state_behind : ℕ → ℕ
state_behind s = (s * 6364136223846793005 + 1442695040888963407) % 2 ^ 64

-- the state so many draws behind a state
unfoldable pub drawn : ℕ → ℕ → ℕ
drawn s zero = s
drawn s (suc k) = state_behind (drawn s k)

-- the draw below a number that comes behind k others: the upper 31 bits of the state that it leaves, modulo that number
abbrev pub draw_at : ℕ → ℕ → (below : ℕ) → ℕ
draw_at s k below = (drawn s (k + 1) / 2 ^ 33) % below

-- three numbers as a record of data
abbrev pub numbers_line : (id other value : ℕ) → List ℕ
numbers_line id other value = decimal id ++ codes "," ++ decimal other ++ codes "," ++ decimal value ++ codes "\n"

-- a record of data: its number, from 1 on, a number drawn from those below a bound behind the least, and one below 1000
abbrev pub record_line : ℕ → (least below : ℕ) → ℕ → List ℕ
record_line s least below i = numbers_line (i + 1) (least + draw_at s (2 * i) below) (draw_at s (2 * i + 1) 1000)

-- the records of data with the numbers 1 to `count`
unfoldable pub records : ℕ → (least below count : ℕ) → List ℕ
records s least below count = flat_map (record_line s least below) (range_with_len 0 count)

-- the line before the records of a table
abbrev pub head_of : List ℕ → List ℕ
head_of table = codes "COPY " ++ table ++ codes " FROM STDIN WITH (FORMAT CSV, NULL '\\N');\n"

-- COPY of so many records into a table
abbrev pub copied : List ℕ → ℕ → (least below count : ℕ) → List ℕ
copied table s least below count = head_of table ++ records s least below count ++ codes "\\.\n"

-- three tables and five indexes
unfoldable pub definitions : List ℕ
definitions =
    codes "CREATE TABLE a (id int4 NOT NULL, g int4, v int4);\n"
    ++ codes "CREATE TABLE b (id int4 NOT NULL, a_id int4, v int4);\n"
    ++ codes "CREATE TABLE c (id int4 NOT NULL, b_id int4, v int4);\n"
    ++ codes "CREATE INDEX ia ON a (id);\n"
    ++ codes "CREATE INDEX iag ON a (g, v);\n"
    ++ codes "CREATE INDEX iba ON b (a_id);\n"
    ++ codes "CREATE INDEX icb ON c (b_id);\n"
    ++ codes "CREATE INDEX icv ON c (v);\n"

-- the rows of the three tables, each draw behind the one before
unfoldable pub data_of : ℕ → List ℕ
data_of s = copied (codes "a") s 0 50 500 ++ copied (codes "b") (drawn s 1000) 1 500 1000 ++ copied (codes "c") (drawn s 3000) 1 1000 2000

-- a number between two texts
abbrev pub between : List ℕ → ℕ → List ℕ → List ℕ
between before n behind = before ++ decimal n ++ behind

-- the rows of one group, in an order that an index has
abbrev pub one_group_query : ℕ → List ℕ
one_group_query g = between (codes "SELECT * FROM a WHERE g = ") g (codes " ORDER BY v;\n")

-- a join of two tables, with a range of values of one
abbrev pub pair_query : ℕ → List ℕ
pair_query v = between (codes "SELECT a.id, b.id FROM a, b WHERE a.id = b.a_id AND a.v < ") v (codes ";\n")

-- a join of three tables in a chain, from one row of the first, sorted by a column of the last
abbrev pub chain_query : ℕ → List ℕ
chain_query id = between (codes "SELECT a.id, c.id FROM a, b, c WHERE a.id = b.a_id AND b.id = c.b_id AND a.id = ") id (codes " ORDER BY c.v;\n")

-- rows of one table by an OR of two columns, each with an index
abbrev pub either_query : ℕ → ℕ → List ℕ
either_query id v = between (codes "SELECT id FROM c WHERE b_id = ") id (codes " OR v = ") ++ (decimal v ++ codes ";\n")

-- a join of two tables, with one value of a column that has an index
abbrev pub value_query : ℕ → List ℕ
value_query v = between (codes "SELECT b.id FROM b, c WHERE b.id = c.b_id AND c.v = ") v (codes ";\n")

-- a table joined with itself: the rows of one row's group, sorted
abbrev pub self_query : ℕ → List ℕ
self_query id = between (codes "SELECT x.id, y.id FROM a x, a y WHERE x.g = y.g AND x.id = ") id (codes " ORDER BY y.v;\n")

-- the six queries, by seven draws from the left
unfoldable pub queries_of : ℕ → List ℕ
queries_of s =
    one_group_query (draw_at s 0 50) ++ pair_query (draw_at s 1 1000) ++ chain_query (1 + draw_at s 2 500) ++ either_query (1 + draw_at s 3 500) (draw_at s 4 1000)
    ++ value_query (draw_at s 5 1000) ++ self_query (1 + draw_at s 6 500)

-- the script of a number, which is the first state
unfoldable pub script : ℕ → List ℕ
script n = definitions ++ data_of n ++ queries_of (drawn n 7000)
