use Rattle.book_laws.proofs.LawLemmas.{days_counted, sheets_show}
use Rattle.book_laws.proofs.laws.sheets_show.Goals as goal

pub returns-clause-shown : goal.returns-clause-shown
returns-clause-shown c = sheets_show

pub returns-clause-counted : goal.returns-clause-counted
returns-clause-counted c = days_counted
