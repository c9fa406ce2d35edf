-- The way back and again: the text of a body is a rule in the notation, and is read as that body. Assumes only that bytes are below 256.
use Prim.Native.Nat.{ℕ, ◌≤◌}
use mathlib.Core.Path.{◌≡◌, refl, sym, subst}
use mathlib.Core.Bool.{cond, false≢true}
use mathlib.Core.List.{List, [], ◌++◌}
use native.Mathlib.Omega.{arith}
use lib.Dec.{leb}
use lib.ListN.{length, length-append}
use borrow.Author.Tests.{le-leb}
use Rattle.refusal.specs.Answer.{Answer, refused, accepted, and_then}
use Rattle.refusal.proofs.Answers.{not_accepted, same_refusal, same_value, passed, both_accepted}
use Rattle.words.specs.Words.{Bytes}
use Rattle.rule.specs.Formula.{Formula}
use Rattle.rule.specs.Body.{body, OfABody}
use Rattle.rule.proofs.OneBody.{body_accepted}
use Rattle.rule.proofs.BodyNumbers.{body_refusals}
use Rattle.notation.specs.Notation.{Rule, colon_sign, formula_text, text, SpeltRule, Reads}
use Rattle.notation.specs.Reading.{reading}
use Rattle.notation.specs.Bodies.{named_body, translated, checked, fitted, body_of_text}
use Rattle.notation.specs.Printing.{variable_name, named, rule_named, text_of_body}
use Rattle.notation.proofs.OneReading.{read_back}
use Rattle.notation.proofs.PrintedBounds.{scope, variable_spelt, variable_short}
use Rattle.notation.proofs.PrintedFormulas.{named_spelt, named_bound, named_back, named_short}

-- A body's text is a rule in the notation, ..
pub text_spelt : (b : List ℕ) (F : Formula) → body b ≡ accepted F → SpeltRule (rule_named F)
unfolding rule_named
text_spelt b F e = (variable_spelt 0, named_spelt 0 F (body_accepted b F e).legal)

-- .. no longer than a text may be, ..
pub text_short : (b : List ℕ) (F : Formula) → body b ≡ accepted F → length (text (rule_named F)) ≤ 4096
unfolding rule_named text
text_short b F e =
    let f = formula_text (named 0 F) [] in
    omega (
      arith,
      (body_accepted b F e).few,
      named_short 0 F [],
      variable_short 0,
      length-append (variable_name 0) (colon_sign ++ f),
    )

pub text_read : (b : List ℕ) (F : Formula) → body b ≡ accepted F → reading (text (rule_named F)) ≡ accepted (rule_named F)
text_read b F e = read_back (text (rule_named F)) (rule_named F) (text_short b F e) (text_spelt b F e, refl)

-- .. whose bytes are the body.
pub same_body : (b : List ℕ) (F : Formula) → Bytes b → body b ≡ accepted F → translated (text (rule_named F)) ≡ accepted b
unfolding translated and_then rule_named named_body scope
same_body b F h e =
    let a = body_accepted b F e in
    rw (text_read b F e, named_bound 0 F (omega arith) a.legal, named_back 0 F (omega arith) a.legal, a.bytes h)

again : (b : List ℕ) (F : Formula) (room : ℕ) → Bytes b → body b ≡ accepted F → length b ≤ room → body_of_text (text (rule_named F)) room ≡ accepted b
unfolding body_of_text and_then checked fitted
again b F room h e l = rw (same_body b F h e, e, le-leb (length b) room l)

-- The text that a body's bytes are answered as has a reading, and is answered as the same bytes, given room for them.
pub text_back : (b t : List ℕ) (room room' : ℕ) → Bytes b → text_of_body b room ≡ accepted t → length b ≤ room'
    → (N : Rule) × Reads t N × (body_of_text t room' ≡ accepted b)
unfolding text_of_body fitted
text_back b t room room' h e l =
    let (F, f, x) = both_accepted (body b) (λ F. fitted room (text (rule_named F))) t e in
    let g : text (rule_named F) ≡ t = same_value (passed (leb (length (text (rule_named F))) room) (accepted (text (rule_named F))) 22 t x).1 in
    (rule_named F, (text_spelt b F f, g), subst (λ s. body_of_text s room' ≡ accepted b) g (again b F room' h f l))

-- 4,096 bytes take every text.
pub text_fits : (b : List ℕ) (room : ℕ) → 4096 ≤ room → text_of_body b room ≡ refused 22 → ⊥
unfolding text_of_body and_then fitted
text_fits b room h e = go (body b) refl e
  where
    go : (x : Answer Formula) → body b ≡ x → and_then x (λ F. cond (leb (length (text (rule_named F))) room) (accepted (text (rule_named F))) (refused 22)) ≡ refused 22 → ⊥
    go (refused n) f e = false≢true (subst OfABody (same_refusal e) (body_refusals b n f))
    go (accepted F) f e =
        let l : length (text (rule_named F)) ≤ room = omega (arith, text_short b F f) in
        not_accepted (sym (rw (le-leb (length (text (rule_named F))) room l) at e))
