-- A set by value, and the records that it holds.
use Rattle.std.specs.Prelude.{ℕ, ◌≡◌, List, ◌++◌, length, get_or, take, drop, set, replicate}
use Rattle.demand.specs.declared.Running.{Running}
use Rattle.demand.specs.SetContract.{no_rule}
use Rattle.set_values.specs.declared.RuleSet.{RuleSet}

-- The lent records among the 32: all of them where more are lent.
abbrev pub held_rules : RuleSet → List Running
held_rules values = take values.lent values.rules

abbrev pub empty_values : ℕ → RuleSet
empty_values lent = record { rules = replicate 32 no_rule; lent = lent }

abbrev pub rule_of_values : RuleSet → ℕ → Running
rule_of_values values index = get_or values.rules index no_rule

abbrev pub values_with : RuleSet → ℕ → Running → RuleSet
values_with values index rule = record { rules = set values.rules index rule; lent = values.lent }

-- A list with its first places from another one; and a set with its first records from a list.
abbrev pub over : {A : Type 0} → List A → List A → List A
over front whole = front ++ drop (length front) whole

abbrev pub values_from : RuleSet → List Running → RuleSet
values_from values front = record { rules = over front values.rules; lent = values.lent }

-- As many records are lent, and those after them are as they were.
abbrev pub OthersKept : RuleSet → RuleSet → Type 0
OthersKept old new = (new.lent ≡ old.lent) × (drop old.lent new.rules ≡ drop old.lent old.rules)
