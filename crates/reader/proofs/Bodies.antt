-- What reading a whole body answers, from what reading its formula does.
use Prim.Native.Nat.{ℕ, ◌*◌}
use mathlib.Core.Path.{◌≡◌, refl, sym, ap, ◌∙◌, subst}
use mathlib.Core.List.{List}
use native.Mathlib.Omega.{arith}
use lib.ListN.{length}
use borrow.Author.Tests.{eq-eqb, ne_eqb}
use Rattle.std.specs.Prelude.{Result, Ok, Err}
use Rattle.refusal.specs.Answer.{Answer, refused, accepted, answer_of}
use Rattle.refusal.specs.Numbers.{number_of}
use Rattle.refusal.specs.declared.Refusal.{Refusal}
use Rattle.refusal.specs.declared.Refusal.TheVariants.{BytesLeftOver}
use Rattle.rule.specs.Formula.{Formula, formulas}
use Rattle.rule.specs.Body.{Read, stop, read, formula_at, whole, body}
use Rattle.nodes.specs.Table.{formula_in, Holds, Cleared}
use Rattle.nodes.proofs.Nodes.{tabled}
use Rattle.reader.specs.declared.Position.{Position}
use Rattle.reader.specs.Written.{node_start}
use Rattle.reader.specs.Filled.{ending, formula_end, Placed, Filled}
use Rattle.reader.specs.Decoded.{reading_answer, Tabled, Decoded}
use Rattle.reader.proofs.Ends.{same_ends}
use Rattle.reader.proofs.Nodes.{end_at}

-- an answer's promise from the same one about another text of the body
decoded : (s ns : List ℕ) (r : Result (Unit {0}) Refusal) (b : Answer Formula) → b ≡ body s → reading_answer r ns ≡ b → Tabled ns b → Decoded s r ns
decoded s ns r b e f t = record { answer = f ∙ e; tabled = subst (Tabled ns) e t }

module _ (s old new : List ℕ) (p : Result Position Refusal) (f : Filled s 0 0 64 old p new) where
  pub body_refused : (ns : List ℕ) (x : Refusal) → p ≡ Err x → Cleared ns → Decoded s (Err x) ns
  unfolding body whole
  body_refused ns x e t = go (formula_at s 0 0 64) refl (sym (ap answer_of e) ∙ f.answer)
    where
      go : (q : Read) → q ≡ formula_at s 0 0 64 → refused (number_of x) ≡ formula_end q → Decoded s (Err x) ns
      go (stop k) q y = let z : number_of x ≡ k = cc in decoded s ns (Err x) (refused k) (ap (whole s) q) (ap refused z) t
      go (read F next rest) q y = let z : ◌≡◌ {A = ℕ} 0 1 = cc in absurd (omega arith)

  module _ (x y : ℕ) (e : p ≡ Ok (ending x y)) where
    pub body_whole : x ≡ length s → Decoded s (Ok tt) new
    unfolding body whole
    body_whole l = go (formula_at s 0 0 64) refl f.placed (sym (ap answer_of e) ∙ f.answer)
      where
        go : (q : Read) → q ≡ formula_at s 0 0 64 → Placed new 0 64 q → accepted (ending x y) ≡ formula_end q → Decoded s (Ok tt) new
        go (stop k) q h w = let z : ◌≡◌ {A = ℕ} 0 1 = cc in absurd (omega arith)
        go (read F next rest) q h w =
            let u = (same_ends w).0 in
            let k : whole s (read F next rest) ≡ accepted F = simp (eq-eqb next (length s) (sym u ∙ l)) in
            let n : node_start rest ≡ 12 * formulas F = omega (arith, end_at F new 0 0 (node_start rest) h) in
            let g : Holds F new 0 0 (12 * formulas F) = subst (λ (z : ℕ). Holds F new 0 0 z) n h in
            let i : formula_in 64 new 0 0 ≡ F = tabled F 64 new 0 0 (12 * formulas F) (omega arith) g in
            decoded s new (Ok tt) (accepted F) (sym k ∙ ap (whole s) q) (ap accepted i) (record { holds = g; room = omega arith; is = i })

    pub body_longer : (ns : List ℕ) → (x ≡ length s → ⊥) → Cleared ns → Decoded s (Err BytesLeftOver) ns
    unfolding body whole
    body_longer ns l t = go (formula_at s 0 0 64) refl (sym (ap answer_of e) ∙ f.answer)
      where
        go : (q : Read) → q ≡ formula_at s 0 0 64 → accepted (ending x y) ≡ formula_end q → Decoded s (Err BytesLeftOver) ns
        go (stop k) q w = let z : ◌≡◌ {A = ℕ} 0 1 = cc in absurd (omega arith)
        go (read F next rest) q w =
            let u = (same_ends w).0 in
            let k : whole s (read F next rest) ≡ refused 10 = simp (ne_eqb next (length s) (λ o. l (u ∙ o))) in
            decoded s ns (Err BytesLeftOver) (refused 10) (sym k ∙ ap (whole s) q) refl t
