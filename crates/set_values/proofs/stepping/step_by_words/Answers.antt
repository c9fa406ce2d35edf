-- `set_values::stepping::step_by_words` meets its contract.
use mathlib.Core.Path.{◌≡◌, ◌∙◌}
use lib.ListN.{length, length-map}
use Rattle.demand.specs.SetContract.{set_step_of, SetStepPromise}
use Rattle.cell_runs.specs.Moves.{Stands}
use Rattle.running.specs.Records.{rule_in, rules_in}
use Rattle.set_stepping.specs.Answers.{set_step_answer}
use Rattle.set_values.specs.declared.RuleSet.{RuleSet}
use Rattle.set_values.proofs.Held.{by_words}
use Rattle.set_values.proofs.Lists.{length_mapped}
use borrow.Author.Rules.{rules}
use Rattle.set_values.proofs.stepping.step_by_words.Goals as goal

pub returns : goal.returns
returns c =
    let values : RuleSet = c.args.set in
    let all : length values.rules ≡ 32 = search (rules, length_mapped, c.well_formed.1.0) in
    let sheet = c.args.sheet.now in
    let words = c.step-answer.new.records in
    by_words
    (λ records records'. SetStepPromise Stands (set_step_of (set_step_answer c.step-answer.result sheet records') sheet records c.args.flag c.args.history.now c.args.cells.now c.args.report.now records' c.step-answer.new.history c.step-answer.new.cells c.step-answer.new.report))
    values c.read_words-stepped.result (rules_in c.write_words.new.words) (rules_in words) (length c.args.words.now) all c.requires c.write_words.ensures
    (length-map words rule_in ∙ c.step-answer.auto.records ∙ c.write_words.auto.words) c.read_words-stepped.ensures c.step-answer.ensures
