-- What the check answers, by what reading the rule and the comparison answered.
use Prim.Native.Nat.{ℕ}
use mathlib.Core.Path.{◌≡◌, ap, ◌∙◌}
use mathlib.Core.List.{List}
use Rattle.refusal.specs.Answer.{refused, accepted}
use Rattle.rule.specs.Formula.{Formula}
use Rattle.complete_report.specs.declared.Violation.{Violation}
use Rattle.complete_report.specs.declared.Comparison.{Comparison}
use Rattle.complete_report.specs.Report.{complete, compared, recorded_rule, checked_report}
use Rattle.recorded_rule.proofs.Admitted.{report_accepted, report_refused}

module _ (sheet : List ℕ) (index : ℕ) (rec : List ℕ) (claimed : List Violation) where
  pub checks : {r : Comparison} (F : Formula) → accepted F ≡ recorded_rule sheet index rec → r ≡ compared 0 claimed (complete F rec)
      → accepted r ≡ checked_report sheet index rec claimed
  unfolding checked_report
  checks F e c = ap accepted c ∙ report_accepted sheet index rec F (λ report. accepted (compared 0 claimed report)) e

  pub refuses : (number : ℕ) → refused number ≡ recorded_rule sheet index rec → refused number ≡ checked_report sheet index rec claimed
  unfolding checked_report
  refuses number e = report_refused sheet index rec number (λ report. accepted (compared 0 claimed report)) e
