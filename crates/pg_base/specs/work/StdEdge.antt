-- What a source and a sink over std's readers and writers stand for. Own.
use Rattle.std.specs.Prelude.{ℕ}
use Rattle.pg_base.specs.declared.std_edge.StdSource.{StdSource}
use Rattle.pg_base.specs.declared.std_edge.StdSink.{StdSink}

-- the reader underneath, and how often it has failed
abbrev pub reader_of : {R : Type 0} → StdSource R → R
reader_of s = s.inner

-- how many reads of the source have failed
abbrev pub read_faults : {R : Type 0} → StdSource R → ℕ
read_faults s = s.faults

-- the writer underneath, and how often it has failed
abbrev pub writer_of : {W : Type 0} → StdSink W → W
writer_of s = s.inner

-- how many writes to the sink have failed
abbrev pub write_faults : {W : Type 0} → StdSink W → ℕ
write_faults s = s.faults
