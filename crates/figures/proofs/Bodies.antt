-- A body's figures from what reading and measuring it give.
use Prim.Native.Nat.{ℕ, ◌*◌, ◌≤◌}
use mathlib.Core.Path.{◌≡◌, sym, ap, ◌∙◌, subst}
use mathlib.Core.List.{List, [], ◌∷◌}
use Rattle.std.specs.Prelude.{Result, Ok, Err}
use native.Mathlib.Omega.{arith}
use lib.ListN.{length}
use Rattle.refusal.specs.Answer.{Answer, refused, accepted, and_then, answer_of}
use Rattle.rule.specs.Formula.{Formula, formulas}
use Rattle.rule.specs.Body.{body}
use Rattle.rule.specs.Figures.{at_tick, delay, history, cells, limit_delay, figures, body_figures}
use Rattle.rule.specs.declared.Size.TheVariants.{Finite}
use Rattle.rule.specs.declared.Figures.{Figures}
use Rattle.nodes.proofs.Nodes.{tabled}
use Rattle.refusal.specs.declared.Refusal.{Refusal}
use Rattle.reader.specs.Decoded.{TableHolds, Decoded}
use Rattle.reader.proofs.Told.{refused_body, refused_table, read_formula}
use Rattle.figure_limits.specs.Answers.{KeptOrCleared, capped_needed}
use Rattle.figure_limits.proofs.CountedLimits.{capped_limits}
use Rattle.figures.specs.declared.figure.Figure.{Figure}
use Rattle.figures.specs.Parts.{FigureOf}
use Rattle.figures.specs.Measured.{Measured, Promise}
use Rattle.figures.specs.Prepared.{SizedTable, Leaves, Prepared}

rule_limited : (F : Formula) (r : Figure) → FigureOf F (at_tick ∷ []) (Finite 0) r → limit_delay r.history r.delay (capped_needed r.delay r.cells) ≡ figures F
unfolding figures
rule_limited F r f =
    rw (f.delay_is, f.history_is, f.cells_is) (capped_limits (history F (at_tick ∷ []) (Finite 0)) (delay F (at_tick ∷ [])) (cells F (at_tick ∷ [])))

-- the reader refused the body
pub refused_prepared : (s ns : List ℕ) (q : Result (Unit {0}) Refusal) (x : Refusal) → Decoded s q ns → q ≡ Err x → Prepared s (Err x) ns
unfolding body_figures and_then
refused_prepared s ns q x d e =
    record { answer = ap (λ (y : Answer Formula). and_then y figures) (sym (refused_body d e)); leaves = refused_table d e }

-- what is left is the table before, or zeros
pub kept_leaves : (s new last : List ℕ) (a : Answer Figures) → SizedTable new (body s) → KeptOrCleared a new last → Leaves s last a
kept_leaves s new last (refused n) l k = k
kept_leaves s new last (accepted f) l k = subst (λ (ns : List ℕ). SizedTable ns (body s)) (sym k) l

-- the reader read it, its formula was measured, and a refusal cleared the table
pub measured_prepared : (s old new last : List ℕ) (q : Result (Unit {0}) Refusal) (r : Figure) (a : Result Figures Refusal) → Decoded s q old → q ≡ Ok tt → 768 ≤ length old
    → Promise 64 0 0 (at_tick ∷ []) (Finite 0) old new r → answer_of a ≡ limit_delay r.history r.delay (capped_needed r.delay r.cells) → KeptOrCleared (answer_of a) new last → Prepared s a last
unfolding body_figures and_then
measured_prepared s old new last q r a d eq room p ea k = go f.0 (sym f.1) f.2
  where
    f : (F : Formula) × (body s ≡ accepted F) × TableHolds F old
    f = read_formula d eq

    go : (F : Formula) → accepted F ≡ body s → TableHolds F old → Prepared s a last
    go F b t =
        let x : Measured F (at_tick ∷ []) (Finite 0) 0 0 (12 * formulas F) old new r = p F (12 * formulas F) t.holds (omega (arith, t.room)) (omega (arith, t.room)) in
        let stands : TableHolds F new = record { holds = x.holds; room = t.room; is = tabled F 64 new 0 0 (12 * formulas F) (omega (arith, t.room)) x.holds } in
        record {
          answer = ea ∙ rule_limited F r x.figure ∙ ap (λ (y : Answer Formula). and_then y figures) b;
          leaves = kept_leaves s new last (answer_of a) (subst (SizedTable new) b (stands, x.sizes)) k;
        }
