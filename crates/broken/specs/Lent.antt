-- What a caller lends a step beside record and row: the log, the buffers of the cached and of the best promise's sync, the entry store, the book.
use Rattle.std.specs.Prelude.{ℕ, List}
use Rattle.broken.specs.declared.Lists.{Lists}

pub record Lent : Type 0 where
  pub log : List ℕ
  pub cached : List ℕ
  pub best : List ℕ
  pub store : List ℕ
  pub book : List ℕ

abbrev pub lent : List ℕ → List ℕ → List ℕ → List ℕ → List ℕ → Lent
lent log cached best store book = record { log = log; cached = cached; best = best; store = store; book = book }

-- the lists that are read, as they stand
abbrev pub lent_of : Lists → Lent
lent_of l = lent l.log.now l.cached.now l.best.now l.store.now l.book.now
