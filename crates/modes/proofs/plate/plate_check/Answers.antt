use Rattle.std.proofs.Common.{rules}
use Rattle.modes.specs.PlateLaws.{exactly_at}
use Rattle.modes.proofs.plate.plate_check.Goals as goal

pub returns-in_err-tag-clause-exactly : goal.returns-in_err-tag-clause-exactly
returns-in_err-tag-clause-exactly g c = exactly_at g.K.Permutation.forth c.args.key.now c.args.plate.now c.args.tag.now _ (search rules)

pub returns-then-not-same_bytes-clause-exactly : goal.returns-then-not-same_bytes-clause-exactly
returns-then-not-same_bytes-clause-exactly g c = exactly_at g.K.Permutation.forth c.args.key.now c.args.plate.now c.args.tag.now _ (search rules)

pub returns-clause-exactly : goal.returns-clause-exactly
returns-clause-exactly g c = exactly_at g.K.Permutation.forth c.args.key.now c.args.plate.now c.args.tag.now _ (search rules)
