-- The cases of document 01's proving ground hold: each is computed by the definitions.
-- Assumes nothing.
use mathlib.Core.Path.{refl}
use Rattle.refusal.specs.Answer.{and_then}
use Rattle.words.specs.Words.{word}
use Rattle.sheet.specs.Sheet.{has_contents, entry_fits, laid_out, body_offset, extent, rule_place, rule_body}
use Rattle.rule.specs.Body.{require, signed, bound, require_bound, fixed, after_code, head, one, two, parts, formula, formula_at, whole, body}
use Rattle.rule.specs.Figures.{larger, plus, times, shift, at_tick, anywhere, bound_pair, range_pair, N, N_back, positions_from, width, none_between, always_empty, unless_empty, delay, history, cells, needed, limit_cells, limit_history, limit_delay, figures, body_figures}
use Rattle.rule.specs.Meaning.{opposite, after, both, up, point, up_to, positions, range, walk, seen, every, outcome, rule}
use Rattle.rule.specs.Recording.{over_recording}
use Rattle.rule.specs.Steps.{false_at, is_open, passing, report, live}
use Rattle.marked_cases.specs.Marked.{Marked}
use Rattle.marked_cases.specs.Orders.{nots, besides, nested, Limits, Orders, Bounds}
use Rattle.marked_cases.specs.EmptyRanges.{EmptyRanges}
use Rattle.marked_cases.specs.Runs.{ExampleRun, Recorded}

pub marked : Marked
unfolding and_then word has_contents entry_fits laid_out body_offset extent rule_place rule_body require signed bound require_bound fixed after_code head one two parts formula formula_at whole body larger plus times shift at_tick anywhere bound_pair range_pair N N_back positions_from width none_between always_empty unless_empty delay history cells needed limit_cells limit_history limit_delay figures body_figures opposite after both up point up_to positions range walk seen every outcome rule
marked =
    record {
      example_is = refl;
      example_figures = refl;
      later_start = refl;
      A_then_B = refl;
      A_beside_B = refl;
      from_zero = refl;
      to_zero = refl;
      to_infinity = refl;
      from_infinity = refl;
      infinity_to_infinity = refl;
      above_its_end = refl;
      cells_within = refl;
      cells_above = refl;
      delay_within = refl;
      delay_above = refl;
      before_the_stream = λ flags t. refl;
    }

pub limits : Limits
unfolding and_then word has_contents entry_fits laid_out body_offset extent rule_place rule_body require signed bound require_bound fixed after_code head one two parts formula formula_at whole body larger plus times shift at_tick anywhere bound_pair range_pair N N_back positions_from width none_between always_empty unless_empty delay history cells needed limit_cells limit_history limit_delay figures body_figures nots besides nested
limits =
    record {
      history_within = refl;
      history_above = refl;
      offset_above = refl;
      offset_below = refl;
      second_offset_above = refl;
      offsets_within = refl;
      formulas_within = refl;
      formulas_above = refl;
      pairs_within = refl;
      pairs_above = refl;
      nested_within = refl;
      nested_above = refl;
    }

pub orders : Orders
unfolding and_then word has_contents entry_fits laid_out body_offset extent rule_place rule_body require signed bound require_bound fixed after_code head one two parts formula formula_at whole body larger plus times shift at_tick anywhere bound_pair range_pair N N_back positions_from width none_between always_empty unless_empty delay history cells needed limit_cells limit_history limit_delay figures body_figures
orders =
    record {
      empty = refl;
      code_0 = refl;
      code_6 = refl;
      fine = refl;
      flag_cut = refl;
      variable_before_flag = refl;
      flag_8 = refl;
      flag_before_rest = refl;
      rest = refl;
      part_missing = refl;
      second_missing = refl;
      left_before_right = refl;
      first_part_before_end = refl;
      bounds_cut = refl;
      kind_before_variable = refl;
      variable_before_offset = refl;
      offset_before_second = refl;
      second_kind = refl;
      own_variable = refl;
      bounds_before_part = refl;
      body_missing = refl;
      outer_after_range = refl;
      code_before_count = refl;
      count_before_bytes = refl;
      missing_before_count = refl;
      nesting_before_bytes = refl;
      no_sheet = refl;
      no_rules = refl;
      too_many_rules = refl;
      contents_cut = refl;
      one_byte_more = refl;
      no_such_rule = refl;
    }

pub bounds : Bounds
unfolding word require signed bound require_bound fixed after_code head one two parts formula formula_at whole body
bounds =
    record {
      start_byte = refl;
      infinity_byte = refl;
      second_byte = refl;
      byte_of_outer = refl;
      byte_before_infinity = refl;
      byte_before_both = refl;
      byte_before_offset = refl;
      infinity_above = refl;
      infinity_high_byte = refl;
      infinity_below = refl;
      infinity_before_offset = refl;
      second_infinity = refl;
      start_offset = refl;
      start_within = refl;
      offset_then_byte = refl;
      byte_then_kind = refl;
      infinity_then_byte = refl;
      variable_then_infinity = refl;
      infinity_then_part = refl;
      byte_before_rest = refl;
      infinity_before_rest = refl;
      cut_before_byte = refl;
      cut_before_infinity = refl;
      nesting_before_byte = refl;
      left_before_byte = refl;
    }

pub empty_ranges : EmptyRanges
unfolding word require signed bound require_bound fixed after_code head one two parts formula formula_at whole body larger plus times shift at_tick anywhere bound_pair range_pair N N_back positions_from width none_between always_empty unless_empty delay history cells needed limit_cells limit_history limit_delay figures opposite point positions range every outcome rule
empty_ranges =
    record {
      infinity_to_later = refl;
      just_above = refl;
      equal = refl;
      above_for_all_outer = refl;
      from_the_start = refl;
      none_at_any_tick = refl;
      over_the_start = refl;
      over_no_end = refl;
      over_far = refl;
      over_many = refl;
      over_empty = refl;
      under_not = refl;
      first_of_then = refl;
      second_of_then = refl;
      beside_a_flag = refl;
      in_a_range = refl;
      true_at_once = λ flags t p. refl;
      false_under_not = λ flags t p. refl;
      body_missing = refl;
      unknown_code = refl;
      not_bound = refl;
      flag_8 = refl;
      offset_above = refl;
      nested_five = refl;
      left_over = refl;
      variable_byte = refl;
      infinity_offset = refl;
    }

pub run : ExampleRun
unfolding opposite after both up point up_to positions range walk seen every outcome rule false_at is_open passing report live
run =
    record {
      step_0 = (refl, refl);
      step_1 = (refl, refl);
      step_2 = (refl, refl);
      step_3 = (refl, refl);
      step_4 = (refl, refl);
      step_5 = (refl, refl);
      step_6 = (refl, refl);
      step_7 = (refl, refl);
      step_8 = (refl, refl);
      step_9 = (refl, refl);
    }

pub evaluated : Recorded
unfolding opposite after both up point up_to positions range walk seen every outcome rule over_recording
evaluated =
    record {
      tick_0 = refl;
      tick_4 = refl;
      tick_5 = refl;
      tick_6 = refl;
      tick_9 = refl;
      tick_10 = refl;
      still_open = refl;
    }
