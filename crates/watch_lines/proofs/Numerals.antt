-- The digits that std writes of a number are the numeral of specs/Lines.antt.
use Rattle.std.proofs.Common.{◌≡◌, ◌<◌, ◌^◌, ℕ, rules, sym, arith}
use Rattle.std.proofs.lemmas.Fmt.{decimal_from_appends, length-decimal-le, AppendsLastDigit}
use Rattle.std.specs.Fmt.{decimal as written}
use Rattle.watch_lines.specs.Lines.{decimal, numeral_within}

appends : AppendsLastDigit numeral_within
unfolding numeral_within
appends = search rules

pub decimal_is : (n : ℕ) → n < 2 ^ 64 → written n ≡ decimal n
unfolding decimal
decimal_is n h = sym (decimal_from_appends numeral_within appends 20 n h (length-decimal-le 20 n (omega arith) (omega arith) h))
