-- Candidate indexes: which of them may be made together. Own; what an index is to be is that of CREATE INDEX (PostgreSQL
-- manual).
use Rattle.std.specs.Prelude.{◌++◌, List}
use Rattle.catalog.specs.Contents.{Contents, NamedIndex}

-- the catalogue with these indexes behind its own, in list order
abbrev pub with_candidates : Contents → List NamedIndex → Contents
with_candidates c xs = record { tables = c.tables; indexes = c.indexes ++ xs }
