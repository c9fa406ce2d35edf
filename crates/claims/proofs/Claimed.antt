-- The library's claims hold. Assumes nothing.
use mathlib.Core.Path.{ap}
use Rattle.sheet_writer.proofs.RoundTrip as sheets
use Rattle.rule.proofs.Every.{forall_said}
use Rattle.rule.proofs.Progress as progress
use Rattle.rule.proofs.Delay.{delay_law}
use Rattle.rule.proofs.Locality.{locality}
use Rattle.rule.proofs.Window.{rule_window}
use Rattle.rule.proofs.AlwaysEmpty as empty
use Rattle.rule.proofs.OneBody as bodies
use Rattle.rule.proofs.BodyNumbers as numbers
use Rattle.rule.proofs.BodyLengths as lengths
use Rattle.marked_cases.proofs.Cases as cases
use Rattle.notation.specs.Notation.{monitor}
use Rattle.notation.proofs.OneReading as reading
use Rattle.notation.proofs.Answered as answered
use Rattle.notation.proofs.RoundTrip as printed
use Rattle.engine.proofs.States.{fresh_is}
use Rattle.engine.proofs.Demand3 as values
use Rattle.exports_watch.proofs.Demand3 as bytes
use Rattle.exports_sets.proofs.Demand3 as sets
use Rattle.exports_calendar.proofs.Demand3 as calendars
use Rattle.exports_questions.proofs.Told as told
use Rattle.calendar.proofs.Said as said
use Rattle.demand.proofs.SetAlone as alone
use Rattle.cell_runs.specs.Moves.{Stands}
use Rattle.state_bytes.specs.States.{in_bytes}
use Rattle.rule.specs.Meaning.{range}
use Rattle.ranges.proofs.Clamping.{clamped_same}
use Rattle.running.proofs.Fields.{read_again, stored_again}
use Rattle.state_bytes.proofs.States.{load_stored, load_moved, moved_own, store_loaded}
use Rattle.claims.specs.Claims.{Claims}

pub claimed : Claims
claimed =
    record {
      of_values = values.theorem;
      of_bytes = bytes.theorem;
      of_sets = sets.theorem;
      as_alone = alone.as_alone Stands Stands in_bytes;
      of_calendars = calendars.theorem;
      words_agree = calendars.words_agree;
      value_fresh = fresh_is;
      bytes_moved = load_moved;
      bytes_kept = moved_own;
      state_back = load_stored;
      bytes_back = store_loaded;
      sums_exact = λ B₁ B₂ pos low. ap (range B₁ B₂) (clamped_same pos low);
      rule_back = read_again;
      words_back = stored_again;
      for_all = forall_said;
      not_before = progress.started;
      not_after = progress.within;
      stays = progress.stays;
      now_decided = progress.fresh;
      in_time = delay_law;
      none_later = locality;
      none_older = rule_window;
      empty_is_true = empty.empty_true;
      empty_delay = empty.empty_delay;
      empty_history = empty.empty_history;
      empty_cells = empty.empty_cells;
      ups_are = said.ups_said;
      first_up_is = said.first_up_said;
      last_up_is = said.last_up_said;
      nearest_up_is = said.nearest_up_said;
      none_told = told.none_told;
      sheet_back = sheets.round_trip;
      sheet_front = sheets.buffer_front;
      sheet_rest = sheets.buffer_rest;
      one_body = bodies.one_body;
      body_refusals = numbers.body_refusals;
      body_short = lengths.body_short;
      one_reading = reading.one_reading;
      text_answered = answered.reading_answered;
      text_accepted = λ s b room e. let (c, i, F, f, l) = answered.acceptances s b room e in (monitor c.0 c.1, c.3, F, f, l);
      text_25 = λ s room. (answered.only_misspelt s room, answered.misspelt s room);
      text_26 = λ s room. (answered.only_unbound s room, answered.unbound s room);
      text_back = printed.text_back;
      body_room = answered.fits_always;
      text_room = printed.text_fits;
      marked_cases = cases.marked;
      at_limits = cases.limits;
      refusal_order = cases.orders;
      bound_order = cases.bounds;
      empty_ranges = cases.empty_ranges;
      example_run = cases.run;
      example_recorded = cases.evaluated;
    }
