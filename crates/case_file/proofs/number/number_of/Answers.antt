-- `case_file::number_of` meets its contract: digits are ASCII, so that they are text.
use Rattle.std.proofs.Common.{arith}
use Rattle.std.proofs.lemmas.Grind.{common_steps}
use Rattle.std.proofs.lemmas.Str.{IsUtf8-from_ascii}
use Rattle.std.proofs.lemmas.Fmt.{IsAscii-from_digits}
use Rattle.case_file.proofs.number.number_of.Goals as goal

pub returns-in_err-text-clause-found : goal.returns-in_err-text-clause-found
returns-in_err-text-clause-found c =
    let text = IsUtf8-from_ascii c.args.digits.now (IsAscii-from_digits c.args.digits.now c.requires) in
    grind (arith, common_steps, text)
