-- The records of a lent list as a set by value, and back.
use Rattle.std.specs.Prelude.{List, ◌++◌, length, take, drop, replicate}
use Rattle.demand.specs.declared.Running.{Running}
use Rattle.demand.specs.SetContract.{no_rule}
use Rattle.set_values.specs.declared.RuleSet.{RuleSet}

-- The first 32 records; of fewer, the others are of no rule.
unfoldable pub loaded : List Running → RuleSet
loaded records = record { rules = take 32 (records ++ replicate 32 no_rule); lent = length records }

-- The first 32 records are those of the set, as far as they are there.
unfoldable pub saved : List Running → RuleSet → List Running
saved records values = take (length records) values.rules ++ drop 32 records
