use Rattle.std.proofs.Common.{◌≡◌, ◌+◌, ◌-◌, length, take}
use Rattle.sheet.proofs.held.drop_to.Given as goal

abbrev pub invariant-loop-k : goal.invariant-loop-k
invariant-loop-k g l =
    (g.H.ReadBlocks.list l.h ≡ take (length (g.H.ReadBlocks.list l.initial.h) + l.count - l._k) (g.H.ReadBlocks.list l.initial.h))
    × (g.H.ReadBlocks.room l.h ≡ g.H.ReadBlocks.room l.initial.h)
