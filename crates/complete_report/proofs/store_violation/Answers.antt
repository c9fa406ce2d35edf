-- `complete_report::store_violation` meets its contract.
use Rattle.words.proofs.Mapped.{mapped_set}
use Rattle.complete_report.specs.Lists.{violation_in, words_of}
use Rattle.complete_report.proofs.store_violation.Goals as goal

pub returns-then-index-list : goal.returns-then-index-list
returns-then-index-list c =
    mapped_set violation_in c.args.list.now c.args.index (words_of c.args.violation)
