-- A reader: the bytes of an envelope, and the place that has been reached.
use Rattle.std.specs.Prelude.{ℕ, ◌+◌, List, drop}
use Rattle.envelope.specs.declared.reader.Reader.{Reader}

-- what has not been read yet
abbrev pub rest_of : Reader → List ℕ
rest_of r = drop r.place r.bytes.now

-- the reader, so many bytes further
abbrev pub moved : Reader → ℕ → Reader
moved r n = record { bytes = r.bytes; place = r.place + n }
