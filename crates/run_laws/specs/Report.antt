-- The report that a history gives, from its entries alone.
use Rattle.std.specs.Prelude.{ℕ, List}
use Rattle.hire_book.specs.Hire.{charges_of, days_of, total}
use Rattle.page.specs.Page.{page_of}

abbrev pub report_from : List ℕ → List ℕ
report_from entries = page_of (λ pump. days_of pump (charges_of entries)) (total entries)
