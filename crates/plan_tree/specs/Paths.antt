-- Paths: plans with the numbers by which they are compared (PostgreSQL, src/backend/optimizer/README, Optimizer Data
-- Structures; src/backend/optimizer/util/pathnode.c, add_path).
use Rattle.std.specs.Prelude.{ℕ, Option, Some, None}
use Rattle.sql_query.specs.declared.window.Window.{Window}

-- the startup that a path keeps: 0 where the query has no window
abbrev pub startup_kept : Option Window → ℕ → ℕ
startup_kept None n = 0
startup_kept (Some w) n = n
