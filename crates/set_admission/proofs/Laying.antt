-- A sheet's bodies: which refusals they meet, and that the reader gives each of them back.
use Prim.Native.Nat.{ℕ, ◌+◌, ◌*◌, ◌≤◌, ◌<◌}
use mathlib.Core.Path.{◌≡◌, refl, sym, ap}
use mathlib.Core.Bool.{Bool, true, false, cond}
use mathlib.Core.List.{List}
use lib.Dec.{ltb}
use borrow.Author.Tests.{lt-ltb}
use Rattle.refusal.specs.Answer.{refused, accepted}
use Rattle.refusal.proofs.Answers.{not_accepted, same_refusal, same_value, passed}
use Rattle.sheet.specs.declared.reader.BodyPlace.{BodyPlace}
use Rattle.sheet.specs.Sheet.{rule_count, has_contents, laid_out, rule_place, rule_body}
use Rattle.sheet.proofs.Entries.{contents_told, place_here, body_at}
use Rattle.demand.specs.Contract.{must}
use Rattle.demand.specs.SetContract.{bodies_from, sheet_bodies}
use Rattle.demand.proofs.Admission.{must_passed}
use Rattle.set_admission.specs.Together.{Laid}
use Rattle.set_admission.proofs.Added.{entry_body}

-- ---- all rules of a sheet, by the place of its first

same_refusals : (a b c : Bool) (p : BodyPlace) {A : Type 0} (x : A) (n : ℕ) → (a ≡ true → c ≡ true)
    → cond a (cond b (cond c (accepted p) (refused 3)) (refused 2)) (refused 1) ≡ refused n → must a 1 (must b 2 (accepted x)) ≡ refused n
unfolding must
same_refusals true true c p x n h e = absurd (not_accepted (sym (rw (h refl) at e)))
same_refusals true false c p x n h e = ap refused (same_refusal e)
same_refusals false b c p x n h e = ap refused (same_refusal e)

pub sheet_refused : (s : List ℕ) (n : ℕ) → rule_place s 0 ≡ refused n → sheet_bodies s ≡ refused n
unfolding rule_place sheet_bodies
sheet_refused s n e =
    same_refusals (has_contents s) (laid_out (rule_count s) s 0 (1 + 4 * rule_count s)) (ltb 0 (rule_count s)) _ (bodies_from (rule_count s) s 0) n
    (λ h. lt-ltb 0 (rule_count s) (contents_told s h).least) e

pub sheet_laid : (s : List ℕ) (p : BodyPlace) → rule_place s 0 ≡ accepted p → Laid s
unfolding rule_place sheet_bodies must
sheet_laid s p e =
    let t₁ = passed (has_contents s) _ 1 p e in
    let t₂ = passed (laid_out (rule_count s) s 0 (1 + 4 * rule_count s)) _ 2 p t₁.1 in
    rw (t₁.0, t₂.0)

-- ---- a sheet that is laid out

pub record LaidOut (s : List ℕ) : Type 0 where
  pub contents : has_contents s ≡ true
  pub layout : laid_out (rule_count s) s 0 (1 + 4 * rule_count s) ≡ true
  pub least : 1 ≤ rule_count s
  pub most : rule_count s ≤ 32

pub laid_told : (s : List ℕ) {bodies : List (List ℕ)} → sheet_bodies s ≡ accepted bodies → LaidOut s × (bodies ≡ bodies_from (rule_count s) s 0)
unfolding sheet_bodies
laid_told s {bodies} e =
    let a = must_passed (has_contents s) 1 _ e in
    let b = must_passed (laid_out (rule_count s) s 0 (1 + 4 * rule_count s)) 2 _ a.1 in
    let c = contents_told s a.0 in
    (record { contents = a.0; layout = b.0; least = c.least; most = c.most }, sym (same_value b.1))

pub entry_is : (s : List ℕ) → LaidOut s → (i : ℕ) → i < rule_count s → rule_body s i ≡ accepted (entry_body s i)
entry_is s l i h = body_at s i _ (sym (place_here s i (rule_count s) refl l.contents l.layout h))
