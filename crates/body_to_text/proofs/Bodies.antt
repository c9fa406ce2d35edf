-- The formula of an accepted body can be written; and from its text to what the body's text is.
use Prim.Native.Nat.{ℕ, suc}
use mathlib.Core.Path.{◌≡◌, refl, ap, sym, subst}
use mathlib.Core.List.{List}
use Rattle.refusal.specs.Answer.{refused, and_then}
use Rattle.refusal.specs.Numbers.{number_of}
use Rattle.refusal.specs.declared.Refusal.{Refusal}
use Rattle.rule.specs.Formula.{Formula, flag, negate, then, beside, forall}
use Rattle.rule.proofs.Written.{Legal}
use Rattle.rule.proofs.OneBody.{body_accepted}
use Rattle.nodes.specs.Table.{formula_in}
use Rattle.std.specs.Prelude.{Result, Ok, Err}
use Rattle.reader.specs.Decoded.{Decoded}
use Rattle.reader.proofs.Told.{refused_body, read_formula}
use Rattle.notation.specs.Notation.{text}
use Rattle.notation.specs.Bodies.{fitted}
use Rattle.notation.specs.Printing.{rule_named, text_of_body}
use Rattle.notation.proofs.RoundTrip.{text_short}
use Rattle.body_to_text.specs.Parts.{rule_text}
use Rattle.body_to_text.specs.Writable.{FlagsFit, Writable}

flags_fit : (m : ℕ) (F : Formula) → Legal m F → FlagsFit F
unfolding FlagsFit
flags_fit m (flag v k) l = l.1
flags_fit m (negate F) l = flags_fit m F l
flags_fit m (then F G) l = (flags_fit m F l.0, flags_fit m G l.1)
flags_fit m (beside F G) l = (flags_fit m F l.0, flags_fit m G l.1)
flags_fit m (forall B C F) l = flags_fit (suc m) F l.3

-- ---- after the body is read

module _ (s : List ℕ) {r : Result (Unit {0}) Refusal} {ns : List ℕ} (d : Decoded s r ns) where
  pub writable : {u : Unit {0}} → r ≡ Ok u → Writable (formula_in 64 ns 0 0)
  writable x =
      let f = read_formula d x in
      subst Writable (sym f.2.is) (record { flags = flags_fit 0 f.0 (body_accepted s f.0 f.1).legal; short = text_short s f.0 f.1 })

  pub text_read : {u : Unit {0}} (room : ℕ) → r ≡ Ok u → fitted room (rule_text ns) ≡ text_of_body s room
  unfolding text_of_body and_then
  text_read room x = let f = read_formula d x in rw f.1 (ap (λ (G : Formula). fitted room (text (rule_named G))) f.2.is)

  pub text_refused : {x : Refusal} (room : ℕ) → r ≡ Err x → refused (number_of x) ≡ text_of_body s room
  unfolding text_of_body and_then
  text_refused room y = rw (refused_body d y) refl
