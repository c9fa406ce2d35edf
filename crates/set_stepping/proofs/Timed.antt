-- One flag of a batch: its pairs become triples in place, and the words after them are as they were.
use Prim.Native.Nat.{ℕ, zero, suc, ◌+◌, ◌*◌, ◌≤◌}
use mathlib.Core.Path.{◌≡◌, refl, sym, ap, ◌∙◌}
use mathlib.Core.List.{List, [], ◌∷◌, ◌++◌}
use native.Mathlib.Omega.{arith}
use lib.ListN.{length, get_or, take, drop, length-append, length-drop, take-append-drop}
use lib.Seq.{length-take-le, take-append-le, drop-append-le, drop_at, drop-drop, take-nil}
use Rattle.refusal.specs.Answer.{accepted}
use Rattle.demand.specs.declared.Running.{Running}
use Rattle.demand.specs.SetContract.{all_numbered, timed, admit_records, no_rule, set_step_of, SetTakes, all_live}
use Rattle.demand.proofs.SetLists.{all_numbered_length}
use Rattle.cell_runs.specs.Moves.{Stands}
use Rattle.set_stepping.specs.Answers.{set_taken}
use Rattle.set_stepping.specs.Moves.{SetFits, SetMoved}
use Rattle.set_stepping.specs.Batches.{TimedFit, TimedMoved}

-- The live ticks of one rule more.
pub live_next : (rules : List Running) (i : ℕ) → all_live (take (suc i) rules) ≡ all_live (take i rules) + (get_or rules i no_rule).live
live_next [] i = rw (take-nil {A = Running} i) refl
live_next (rule ∷ rules) zero = omega arith
live_next (rule ∷ rules) (suc i) = omega (arith, live_next rules i)

module _ (sheet : List ℕ) (records : List Running) (history : List ℕ) (flag : ℕ) (cells report : List ℕ) (pairs : ℕ)
    (fit : TimedFit sheet records (length history) (length cells) (length report) pairs) where
  pub lent_long : length (take (2 * pairs) report) ≡ 2 * pairs
  lent_long = length-take-le (2 * pairs) report (omega (arith, fit.room))

  admitted : admit_records sheet records (length history) (length cells) (length (take (2 * pairs) report)) ≡ accepted fit.figures
  admitted = rw lent_long fit.admitted

  pub flag_fits : SetFits sheet records (length history) (length cells) (length (take (2 * pairs) report))
  flag_fits = record { figures = fit.figures; admitted = admitted }

  module _ (reported live : ℕ) (records' : List Running) (history' cells' words : List ℕ)
      (moved : SetMoved sheet records history flag cells (take (2 * pairs) report) reported live records' history' cells' words)
      (long : length words ≡ length (take (2 * pairs) report)) where
    takes : SetTakes Stands
        (set_step_of (accepted (set_taken reported live sheet records')) sheet records flag history cells (take (2 * pairs) report) records' history' cells' words) fit.figures
        (set_taken reported live sheet records')
    takes = moved fit.figures admitted

    abbrev front : List ℕ
    front = all_numbered 0 takes.parts

    front_long : length front ≡ 2 * reported
    front_long = all_numbered_length 0 takes.parts ∙ ap (λ (k : ℕ). 2 * k) (sym takes.pairs_are)

    pub few_reported : reported ≤ pairs
    few_reported =
        omega (
          arith,
          ap length takes.report_is,
          length-append front (drop (2 * reported) (take (2 * pairs) report)),
          length-drop (2 * reported) (take (2 * pairs) report),
          front_long,
          long,
          lent_long,
        )

    pub timed_room : 3 * reported ≤ length (words ++ drop (2 * pairs) report)
    timed_room = omega (arith, few_reported, long, lent_long, length-append words (drop (2 * pairs) report), length-drop (2 * pairs) report, fit.room)

    kept_words : drop (2 * reported) (words ++ drop (2 * pairs) report) ≡ drop (2 * reported) report
    kept_words =
        drop-append-le (2 * reported) words (drop (2 * pairs) report) (omega (arith, few_reported, long, lent_long))
        ∙ ap (λ (l : List ℕ). l ++ drop (2 * pairs) report)
        (ap (drop (2 * reported)) takes.report_is ∙ drop_at front (drop (2 * reported) (take (2 * pairs) report)) (2 * reported) front_long)
        ∙ sym (drop-append-le (2 * reported) (take (2 * pairs) report) (drop (2 * pairs) report) (omega (arith, few_reported, lent_long)))
        ∙ ap (drop (2 * reported)) (take-append-drop (2 * pairs) report)

    kept_rest : drop (3 * reported) (words ++ drop (2 * pairs) report) ≡ drop (3 * reported) report
    kept_rest =
        let e : 3 * reported ≡ 2 * reported + reported = omega arith in
        rw e (sym (drop-drop reported (2 * reported) (words ++ drop (2 * pairs) report)) ∙ ap (drop reported) kept_words ∙ drop-drop reported (2 * reported) report)

    pub timed_moved : (lead : Running) → lead ≡ get_or records 0 no_rule → (report' : List ℕ)
        → report' ≡ timed lead.next (take (2 * reported) (words ++ drop (2 * pairs) report)) ++ drop (3 * reported) (words ++ drop (2 * pairs) report)
        → TimedMoved sheet records history flag cells report pairs reported live records' history' cells' report'
    timed_moved lead lead_is report' e =
        record {
          words = words;
          words_long = long ∙ lent_long;
          moved = moved;
          report_is =
              e
              ∙ ap (λ (l : List ℕ). timed lead.next l ++ drop (3 * reported) (words ++ drop (2 * pairs) report))
              (take-append-le (2 * reported) words (drop (2 * pairs) report) (omega (arith, few_reported, long, lent_long)))
              ∙ ap (λ (l : List ℕ). timed lead.next (take (2 * reported) words) ++ l) kept_rest
              ∙ ap (λ (r : Running). timed r.next (take (2 * reported) words) ++ drop (3 * reported) report) lead_is;
        }
