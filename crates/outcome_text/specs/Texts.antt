-- Outcomes and refusals as text, in the words of document 01's examples.
use Rattle.std.specs.Prelude.{ℕ, List, ◌++◌, Result, Ok, Err, codes}
use Rattle.std.specs.Fmt.{decimal}
use Rattle.rule.specs.declared.Outcome.{Outcome}
use Rattle.rule.specs.declared.Outcome.TheVariants.{Decided, Open}
use Rattle.rule.specs.declared.Verdict.TheVariants.{True, False}
use Rattle.refusal.specs.declared.Refusal.{Refusal}
use Rattle.refusal.specs.Numbers.{number_of}

-- as `refused 16`
abbrev pub refused_text : Refusal → List ℕ
refused_text refusal = codes "refused " ++ decimal (number_of refusal)

-- as `false at 7`, `open` or `refused 16`
abbrev pub shown_text : Result Outcome Refusal → List ℕ
shown_text (Ok (Decided True step)) = codes "true at " ++ decimal step
shown_text (Ok (Decided False step)) = codes "false at " ++ decimal step
shown_text (Ok Open) = codes "open"
shown_text (Err refusal) = refused_text refusal
