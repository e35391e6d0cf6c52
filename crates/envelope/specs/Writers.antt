-- A writer: the buffer that was lent, and the place that has been reached.
use Rattle.std.specs.Prelude.{◌≡◌, ℕ, ◌+◌, List, length}
use Rattle.sheet.specs.Edits.{overwritten}
use Rattle.envelope.specs.declared.writing.Writer.{Writer}

-- Bytes were written at the place: they stand there, every other byte of the same buffer is as it was, and the place is behind them.
pub record Wrote (before after : Writer) (bytes : List ℕ) : Type 0 where
  pub buffer_is : after.buffer.now ≡ overwritten before.buffer.now before.place bytes
  pub place_is : after.place ≡ before.place + length bytes
  pub same_length : length after.buffer.now ≡ length before.buffer.now
  pub tied : after.buffer.ghost_name ≡ before.buffer.ghost_name
