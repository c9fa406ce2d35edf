-- The running rules that lent words hold: eight words to a record, in the order of the struct's fields. Delay and opened length share word 4, and the next tick
-- has the words 6 and 7, the low half and the low word first.
use Rattle.std.specs.Prelude.{ℕ, ◌+◌, ◌*◌, ◌%◌, ◌/◌, List, [], ◌∷◌, map, get_or}
use Rattle.demand.specs.declared.Running.{Running}

abbrev pub rule_in : List ℕ → Running
rule_in words =
    record {
      start = get_or words 0 0;
      size = get_or words 1 0;
      first = get_or words 2 0;
      cells = get_or words 3 0;
      delay = get_or words 4 0 % 65536;
      opened = get_or words 4 0 / 65536;
      live = get_or words 5 0;
      next = get_or words 6 0 + 4294967296 * get_or words 7 0;
    }

-- The words that a rule is stored as.
abbrev pub words_of : Running → List ℕ
words_of rule =
    rule.start ∷ rule.size ∷ rule.first ∷ rule.cells ∷ (rule.delay + 65536 * rule.opened) ∷ rule.live ∷ (rule.next % 4294967296)
    ∷ (rule.next / 4294967296) ∷ []

abbrev pub rules_in : List (List ℕ) → List Running
rules_in records = map rule_in records
