-- From the outcome of a table's formula at a tick to what the recording evaluator answers.
use Prim.Native.Nat.{ℕ, zero, suc, ◌-◌, ◌≤◌, ◌<◌}
use mathlib.Core.Path.{◌≡◌, refl, sym, ap, ◌∙◌, subst}
use mathlib.Core.Bool.{Bool, true, false, cond, ◌&&◌}
use mathlib.Core.List.{List, [], ◌∷◌}
use native.Mathlib.Omega.{arith}
use lib.Dec.{leb}
use lib.ListN.{length, get_or}
use borrow.Author.Tests.{le-leb, lt-leb, lt-ltb, le-ltb}
use Rattle.refusal.specs.Answer.{Answer, refused, accepted, and_then}
use Rattle.refusal.specs.Numbers.{number_of}
use Rattle.refusal.specs.declared.Refusal.{Refusal}
use Rattle.rule.specs.declared.Outcome.{Outcome}
use Rattle.rule.specs.Formula.{Formula}
use Rattle.rule.specs.Meaning.{outcome, rule}
use Rattle.rule.specs.Recording.{recorded, over_recording, recording_outcome}
use Rattle.nodes.specs.Table.{formula_in}
use Rattle.std.specs.Prelude.{Result, Ok, Err}
use Rattle.reader.specs.Decoded.{Decoded}
use Rattle.reader.proofs.Told.{refused_body, read_formula}
use Rattle.recording.specs.declared.env.Env.{Env}
use Rattle.recording.specs.Evaluating.{bound_positions, started, Evaluable}

-- ---- refusal 16

module _ (F : Formula) (rec : List ℕ) (p : ℕ) where
  pub too_long : 65535 < length rec → refused 16 ≡ over_recording F rec p
  unfolding over_recording
  too_long h = simp (lt-leb (length rec) 65535 h)

  pub no_tick : length rec ≤ p → refused 16 ≡ over_recording F rec p
  unfolding over_recording
  no_tick h = simp (le-ltb p (length rec) h) (go (leb (length rec) 65535))
    where
      go : (b : Bool) → refused 16 ≡ cond (b && false) (accepted (rule F (recorded rec) (length rec - 1) p)) (refused 16)
      go true = refl
      go false = refl

  pub in_recording : {o : Outcome} → length rec ≤ 65535 → p < length rec → o ≡ rule F (recorded rec) (length rec - 1) p → accepted o ≡ over_recording F rec p
  unfolding over_recording
  in_recording h k e = simp (le-leb (length rec) 65535 h, lt-ltb p (length rec) k) (ap accepted e)

-- ---- the rule at a tick

pub ready_tick : {t p : ℕ} (e : Env) → p ≤ t → t < 65536 → e ≡ started p → Evaluable 64 0 t e
ready_tick {t} {p} e h k x = subst (Evaluable 64 0 t) (sym x) ready
  where
    clear : (v : ℕ) → 0 < v → get_or (p ∷ (0 ∷ (0 ∷ (0 ∷ (0 ∷ []))))) v 0 ≡ 0
    clear zero a = absurd (omega arith)
    clear (suc zero) a = refl
    clear (suc (suc zero)) a = refl
    clear (suc (suc (suc zero))) a = refl
    clear (suc (suc (suc (suc zero)))) a = refl
    clear (suc (suc (suc (suc (suc v))))) a = refl

    within : (v : ℕ) → get_or (p ∷ (0 ∷ (0 ∷ (0 ∷ (0 ∷ []))))) v 0 ≤ t
    within zero = h
    within (suc v) = omega (arith, clear (suc v) (omega arith))

    ready : Evaluable 64 0 t (started p)
    ready =
        record {
          few = omega arith;
          near = omega arith;
          early = omega arith;
          nested = omega arith;
          five = refl;
          clear = clear;
          within = within;
        }

pub by_rule : (ns rec : List ℕ) (t p : ℕ) (e : Env) {o : Outcome} → e ≡ started p
    → o ≡ outcome (formula_in 64 ns e.depth 0) (recorded rec) t (bound_positions e) p → o ≡ rule (formula_in 64 ns 0 0) (recorded rec) t p
unfolding rule
by_rule ns rec t p e x y = y ∙ ap (λ (w : Env). outcome (formula_in 64 ns w.depth 0) (recorded rec) t (bound_positions w) p) x

-- ---- after the body is read

module _ (s rec : List ℕ) (p : ℕ) {r : Result (Unit {0}) Refusal} {ns : List ℕ} (d : Decoded s r ns) where
  pub read_well : {a : Answer Outcome} {u : Unit {0}} → r ≡ Ok u → a ≡ over_recording (formula_in 64 ns 0 0) rec p → a ≡ recording_outcome s rec p
  unfolding recording_outcome and_then
  read_well x y = let f = read_formula d x in rw f.1 (y ∙ ap (λ (G : Formula). over_recording G rec p) f.2.is)

  pub read_ill : {x : Refusal} → r ≡ Err x → refused (number_of x) ≡ recording_outcome s rec p
  unfolding recording_outcome and_then
  read_ill y = rw (refused_body d y) refl
