-- Beside the marked cases: limits at their boundary, and the order of the refusals ("code present (4), known (5), 9, its fixed bytes present (4), then for a
-- flag 6, 7; for each bound 5, 6" and document 02's 23, 24, 8), each in the bytes of a body or a sheet. proofs/Cases.antt proves them.
use Rattle.std.specs.Prelude.{ℕ, zero, suc, ◌≡◌, List, [], ◌∷◌, ◌++◌, replicate}
use Rattle.refusal.specs.Answer.{refused, accepted}
use Rattle.sheet.specs.Sheet.{rule_body}
use Rattle.rule.specs.Formula.{flag}
use Rattle.rule.specs.Body.{body}
use Rattle.rule.specs.Figures.{body_figures}
use Rattle.marked_cases.specs.Marked.{figures_are, example}

-- Flag 0 of a variable; a range and its body.
abbrev pub up_at : ℕ → List ℕ
up_at variable = 1 ∷ variable ∷ 0 ∷ []

abbrev pub over : List ℕ → List ℕ → List ℕ → List ℕ
over B₁ B₂ part = 5 ∷ (B₁ ++ (B₂ ++ part))

-- The bounds of the three kinds, with this variable byte and an offset of these two bytes: a variable, position 0, infinity.
abbrev pub var : ℕ → ℕ → ℕ → List ℕ
var variable low high = 2 ∷ variable ∷ low ∷ high ∷ []

abbrev pub start_with : ℕ → ℕ → ℕ → List ℕ
start_with variable low high = 0 ∷ variable ∷ low ∷ high ∷ []

abbrev pub infinity_with : ℕ → ℕ → ℕ → List ℕ
infinity_with variable low high = 1 ∷ variable ∷ low ∷ high ∷ []

-- Position 0 and infinity, as they should be.
abbrev pub start : List ℕ
start = start_with 0 0 0

abbrev pub never : List ℕ
never = infinity_with 0 0 0

-- So many times "not" before a flag; so many times "flag beside" before one; so many nested quantifiers from position 0 to X.
unfoldable pub nots : ℕ → List ℕ
nots count = replicate count 2 ++ up_at 0

unfoldable pub besides : ℕ → List ℕ
besides zero = up_at 0
besides (suc count) = 4 ∷ (up_at 0 ++ besides count)

unfoldable pub nested : ℕ → List ℕ
nested zero = up_at 0
nested (suc count) = over start (var 0 0 0) (nested count)

pub record Limits : Type 0 where
  -- Y in X-4,095..X-4,095, inside it Z in Y-1..Y-1: history 4,096; Y-2..Y-2: 14
  pub history_within : body_figures (over (var 0 1 0xF0) (var 0 1 0xF0) (over (var 1 0xFF 0xFF) (var 1 0xFF 0xFF) (up_at 2))) ≡ figures_are 4096 0 5
  pub history_above : body_figures (over (var 0 1 0xF0) (var 0 1 0xF0) (over (var 1 0xFE 0xFF) (var 1 0xFE 0xFF) (up_at 2))) ≡ refused 14
  -- offset 4,096: 8, on either side of either bound
  pub offset_above : body (over (var 0 0 0x10) (var 0 0 0x10) (up_at 1)) ≡ refused 8
  pub offset_below : body (over (var 0 0 0xF0) (var 0 0 0) (up_at 1)) ≡ refused 8
  pub second_offset_above : body (over (var 0 0 0) (var 0 0 0x10) (up_at 1)) ≡ refused 8
  pub offsets_within : body_figures (over (var 0 1 0xF0) (var 0 0xFF 0x0F) (up_at 1)) ≡ refused 12
  -- 64 formulas and 4 nested quantifiers are read, one more is not
  pub formulas_within : body_figures (nots 63) ≡ figures_are 0 0 1
  pub formulas_above : body (nots 64) ≡ refused 9
  pub pairs_within : body_figures (besides 31) ≡ figures_are 0 0 32
  pub pairs_above : body (besides 32) ≡ refused 9
  pub nested_within : body_figures (nested 4) ≡ refused 13
  pub nested_above : body (nested 5) ≡ refused 9

pub record Orders : Type 0 where
  pub empty : body [] ≡ refused 4
  pub code_0 : body (0 ∷ []) ≡ refused 5
  pub code_6 : body (6 ∷ []) ≡ refused 5
  pub fine : body (1 ∷ 0 ∷ 7 ∷ []) ≡ accepted (flag 0 7)
  pub flag_cut : body (1 ∷ 1 ∷ []) ≡ refused 4
  pub variable_before_flag : body (1 ∷ 1 ∷ 8 ∷ []) ≡ refused 6
  pub flag_8 : body (1 ∷ 0 ∷ 8 ∷ []) ≡ refused 7
  pub flag_before_rest : body (1 ∷ 0 ∷ 8 ∷ 0 ∷ []) ≡ refused 7
  pub rest : body (1 ∷ 0 ∷ 7 ∷ 0 ∷ []) ≡ refused 10
  pub part_missing : body (2 ∷ []) ≡ refused 4
  pub second_missing : body (3 ∷ up_at 0) ≡ refused 4
  pub left_before_right : body (4 ∷ 1 ∷ 0 ∷ 8 ∷ 9 ∷ []) ≡ refused 7
  pub first_part_before_end : body (4 ∷ 9 ∷ []) ≡ refused 5
  pub bounds_cut : body (5 ∷ 3 ∷ 9 ∷ 0 ∷ 0 ∷ 0 ∷ 0 ∷ 0 ∷ []) ≡ refused 4
  pub kind_before_variable : body (over (3 ∷ 9 ∷ 0 ∷ 16 ∷ []) start []) ≡ refused 5
  pub variable_before_offset : body (over (var 1 0 16) start []) ≡ refused 6
  pub offset_before_second : body (over (var 0 0 16) (3 ∷ 0 ∷ 0 ∷ 0 ∷ []) []) ≡ refused 8
  pub second_kind : body (over (var 0 1 0xF0) (3 ∷ 0 ∷ 0 ∷ 0 ∷ []) []) ≡ refused 5
  pub own_variable : body (over start (var 1 0 0) (up_at 1)) ≡ refused 6
  pub bounds_before_part : body (over never (var 1 0 0) []) ≡ refused 6
  pub body_missing : body (over never (var 0 0 0) []) ≡ refused 4
  pub outer_after_range : body (4 ∷ (over start start (up_at 1) ++ up_at 1)) ≡ refused 6
  -- "a 65th formula": 5 comes before 9, and 9 before the second 4
  pub code_before_count : body (replicate 64 2 ++ (9 ∷ [])) ≡ refused 5
  pub count_before_bytes : body (replicate 64 2 ++ (1 ∷ [])) ≡ refused 9
  pub missing_before_count : body (replicate 64 2) ≡ refused 4
  pub nesting_before_bytes : body (over start start (over start start (over start start (over start start (5 ∷ []))))) ≡ refused 9
  -- the sheet: 1, 2, 3
  pub no_sheet : rule_body [] 0 ≡ refused 1
  pub no_rules : rule_body (0 ∷ []) 0 ≡ refused 1
  pub too_many_rules : rule_body (33 ∷ replicate 200 0) 0 ≡ refused 1
  pub contents_cut : rule_body (1 ∷ 5 ∷ 0 ∷ 1 ∷ []) 9 ≡ refused 1
  pub one_byte_more : rule_body (example ++ (0 ∷ [])) 9 ≡ refused 2
  pub no_such_rule : rule_body example 1 ≡ refused 3

-- "In the place of 8, the variable byte is looked at first with 23, then an infinity's offset with 24, then 8"; 5,000 is 0x88 0x13. In the names, "byte" is a
-- variable byte that gets 23, "infinity" an offset on infinity that gets 24, and "offset" one out of range that gets 8.
pub record Bounds : Type 0 where
  -- 23: the variable byte of position 0 or infinity, also where that variable is bound, and before 24 and 8
  pub start_byte : body (over (start_with 1 0 0) start []) ≡ refused 23
  pub infinity_byte : body (over (infinity_with 1 0 0) start []) ≡ refused 23
  pub second_byte : body (over start (infinity_with 255 0 0) (up_at 1)) ≡ refused 23
  pub byte_of_outer : body (over start start (over (start_with 1 0 0) start (up_at 2))) ≡ refused 23
  pub byte_before_infinity : body (over (infinity_with 1 1 0) start []) ≡ refused 23
  pub byte_before_both : body (over (infinity_with 1 0x88 0x13) start []) ≡ refused 23
  pub byte_before_offset : body (over (start_with 1 0x88 0x13) start []) ≡ refused 23
  -- 24: an offset on infinity, also one out of range
  pub infinity_above : body (over (infinity_with 0 1 0) start []) ≡ refused 24
  pub infinity_high_byte : body (over (infinity_with 0 0 1) start []) ≡ refused 24
  pub infinity_below : body (over (infinity_with 0 0xFF 0xFF) start []) ≡ refused 24
  pub infinity_before_offset : body (over (infinity_with 0 0x88 0x13) start []) ≡ refused 24
  pub second_infinity : body (over never (infinity_with 0 0 0x80) (up_at 1)) ≡ refused 24
  -- 8: only an offset out of range, on position 0 as on a variable
  pub start_offset : body (over (start_with 0 0x88 0x13) start []) ≡ refused 8
  pub start_within : body (over (start_with 0 0xFF 0x0F) (start_with 0 1 0xF0) []) ≡ refused 4
  -- all of the first bound's before the second's, and these before the part's
  pub offset_then_byte : body (over (var 0 0x88 0x13) (start_with 1 0 0) []) ≡ refused 8
  pub byte_then_kind : body (over (start_with 1 0 0) (3 ∷ 0 ∷ 0 ∷ 0 ∷ []) []) ≡ refused 23
  pub infinity_then_byte : body (over (infinity_with 0 1 0) (start_with 1 0 0) []) ≡ refused 24
  pub variable_then_infinity : body (over (var 1 0 0) (infinity_with 0 1 0) []) ≡ refused 6
  pub infinity_then_part : body (over start (infinity_with 0 1 0) (9 ∷ [])) ≡ refused 24
  -- before 10, and after the bounds' 4, 9 and what stands to the left
  pub byte_before_rest : body (over (start_with 1 0 0) start (up_at 1) ++ (0 ∷ [])) ≡ refused 23
  pub infinity_before_rest : body (over (infinity_with 0 1 0) start (up_at 1) ++ (0 ∷ [])) ≡ refused 24
  pub cut_before_byte : body (5 ∷ 0 ∷ 1 ∷ 0 ∷ 0 ∷ 0 ∷ 0 ∷ 0 ∷ []) ≡ refused 4
  pub cut_before_infinity : body (5 ∷ 1 ∷ 0 ∷ 1 ∷ 0 ∷ 0 ∷ 0 ∷ 0 ∷ []) ≡ refused 4
  pub nesting_before_byte : body (over start start (over start start (over start start (over start start (over (start_with 1 0 0) start (up_at 1)))))) ≡ refused 9
  pub left_before_byte : body (4 ∷ ((1 ∷ 0 ∷ 8 ∷ []) ++ over (start_with 1 0 0) start (up_at 1))) ≡ refused 7
