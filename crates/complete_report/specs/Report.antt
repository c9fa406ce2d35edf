-- The complete report of a recording, document 02, point 8: "each tick which 01's meaning over the recording makes false, once, with its step, and no other",
-- "ordered by step and then tick", "with open ticks not listed".
use Rattle.std.specs.Prelude.{ℕ, zero, suc, ◌-◌, cond, List, [], ◌∷◌, ◌++◌, map, leb, length, drop}
use Rattle.refusal.specs.Answer.{Answer, refused, accepted, and_then, or_kept}
use Rattle.sheet.specs.Sheet.{rule_body}
use Rattle.rule.specs.declared.Outcome.{Outcome}
use Rattle.rule.specs.Formula.{Formula}
use Rattle.rule.specs.Body.{body}
use Rattle.rule.specs.Meaning.{rule}
use Rattle.rule.specs.Recording.{recorded}
use Rattle.rule.specs.Steps.{false_at, passing}
use Rattle.complete_report.specs.declared.Violation.{Violation}
use Rattle.complete_report.specs.declared.Comparison.{Comparison}
use Rattle.complete_report.specs.declared.Comparison.TheVariants.{Same, Differs, Ends}
use Rattle.complete_report.specs.Lists.{same}

-- ---- the report

abbrev pub violation : ℕ → ℕ → Violation
violation step tick = record { tick = tick; step = step }

-- Of `count` ticks from p on, those that are false at one of `steps` steps from d on: step by step, and at each step by tick.
unfoldable pub by_step : (ℕ → Outcome) → ℕ → ℕ → ℕ → ℕ → List Violation
by_step outcomes count p zero d = []
by_step outcomes count p (suc steps) d = map (violation d) (passing (false_at d) outcomes count p) ++ by_step outcomes count p steps (suc d)

-- The complete report of a rule over a recording. Its ticks are 0 to its length less 1, and so are the steps. An empty recording has the empty report.
unfoldable pub complete : Formula → List ℕ → List Violation
complete F rec = by_step (rule F (recorded rec) (length rec - 1)) (length rec) 0 (length rec) 0

-- ---- the rule that is asked for: 1 to 3 for the sheet, 4 to 10, 23 and 24 for the body, "and with 16 only for a recording too long"

unfoldable pub recorded_body : List ℕ → List ℕ → Answer Formula
recorded_body bytes rec = and_then (body bytes) (λ F. cond (leb (length rec) 65535) (accepted F) (refused 16))

unfoldable pub recorded_rule : List ℕ → ℕ → List ℕ → Answer Formula
recorded_rule sheet index rec = and_then (rule_body sheet index) (λ bytes. recorded_body bytes rec)

unfoldable pub complete_report : List ℕ → ℕ → List ℕ → Answer (List Violation)
complete_report sheet index rec = and_then (recorded_rule sheet index rec) (λ F. accepted (complete F rec))

-- ---- the check: "answer yes exactly when the list is the complete report"; where it is not, the first entry that differs, and what stands there in the complete
-- report

unfoldable pub compared : ℕ → List Violation → List Violation → Comparison
compared index [] [] = Same
compared index [] (v ∷ report) = Differs index v
compared index (c ∷ claimed) [] = Ends index
compared index (c ∷ claimed) (v ∷ report) =
    cond (same c v) (compared (suc index) claimed report) (Differs index v)

unfoldable pub checked_report : List ℕ → ℕ → List ℕ → List Violation → Answer Comparison
checked_report sheet index rec claimed = and_then (complete_report sheet index rec) (λ report. accepted (compared 0 claimed report))

-- ---- writing it: 22 "if the list is too short"; entries after it keep their content

unfoldable pub if_room : ℕ → List Violation → Answer (List Violation)
if_room room report = cond (leb (length report) room) (accepted report) (refused 22)

unfoldable pub delivered_report : List ℕ → ℕ → List ℕ → ℕ → Answer (List Violation)
delivered_report sheet index rec room = and_then (complete_report sheet index rec) (if_room room)

-- How many violations it has.
abbrev pub how_many : Answer (List Violation) → Answer ℕ
how_many (refused number) = refused number
how_many (accepted report) = accepted (length report)

-- A list with others at its start, in place of as many of its own.
abbrev pub with_front : List Violation → List Violation → List Violation
with_front front list = front ++ drop (length front) list

abbrev pub list_with : Answer (List Violation) → List Violation → List Violation
list_with answer list = or_kept (λ report. with_front report list) answer list
