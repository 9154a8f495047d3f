-- What is the same in every part is the same.
use mathlib.Core.Path.{◌≡◌}
use Rattle.cluster.specs.declared.Site.{Site}
use Rattle.cluster.specs.Cluster.{world_of}

pub same-world :
    (a b : Site) → a.log ≡ b.log → a.cached ≡ b.cached → a.best ≡ b.best → a.store ≡ b.store → a.book ≡ b.book → a.row ≡ b.row → a.node ≡ b.node →
    world_of a ≡ world_of b
same-world a b log cached best store book row node = rw (log, cached, best, store, book, row, node)
