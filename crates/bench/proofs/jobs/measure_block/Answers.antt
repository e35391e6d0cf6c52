use denote.Param.Always.{mut_by, always_fn}
use Rattle.std.proofs.Common.{rules}
use Rattle.bench.proofs.jobs.measure_block.Goals as goal

pub measure-requires : goal.measure-requires
measure-requires g c = mut_by _ (λ s. always_fn g.F.Fn s.1.now) (λ s a i. i) (λ s a r t i e. search rules) _ c.requires
