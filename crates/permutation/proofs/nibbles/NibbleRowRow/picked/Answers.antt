use Rattle.std.proofs.Common.{rules, get_or, ap, ◌∙◌, ◌<◌, lit<}
use Rattle.permutation.specs.Minalpher.{picked}
use Rattle.permutation.proofs.Mapped.{callable, map_row}
use Rattle.permutation.proofs.nibbles.NibbleRowRow.picked.Goals as goal

pub map-requires : goal.map-requires
map-requires c = (lit< tt, (lit< tt, (lit< tt, callable (λ n. n < 8) c.places.result _ (λ k d h. search rules) (λ q x l. search rules))))

pub returns : goal.returns
returns c =
    map_row _ _ _ _ (λ j. get_or c.args.self.cells j 0) (λ x y q e. search rules) c.map.ensures.items
    ∙ ap (λ l. picked l c.args.self.cells) c.places.ensures.is
