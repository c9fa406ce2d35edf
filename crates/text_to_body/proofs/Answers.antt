-- The whole answer, from what reading the text and reading the body give.
use Prim.Native.Nat.{ℕ, ◌≤◌}
use mathlib.Core.Path.{◌≡◌, refl, ap, sym, ◌∙◌}
use mathlib.Core.List.{List}
use lib.ListN.{length, take}
use Rattle.std.specs.Prelude.{Result, Ok, Err}
use Rattle.refusal.specs.Answer.{Answer, refused, accepted, and_then}
use Rattle.refusal.specs.Numbers.{number_of}
use Rattle.refusal.specs.declared.Refusal.{Refusal}
use Rattle.refusal.proofs.Answers.{not_accepted, same_value}
use Rattle.reader.specs.Decoded.{Decoded}
use Rattle.reader.proofs.Told.{refused_body, read_formula}
use Rattle.notation.specs.Bodies.{translated, checked, fitted, body_of_text, length_of}
use Rattle.text_to_body.specs.Cursors.{Translated}

-- ---- a body's bytes

module _ (b : List ℕ) {r : Result (Unit {0}) Refusal} {ns : List ℕ} (d : Decoded b r ns) (room : ℕ) where
  pub illegal : {x : Refusal} → r ≡ Err x → and_then (checked b) (fitted room) ≡ refused (number_of x)
  unfolding checked and_then
  illegal h = rw (refused_body d h) refl

  pub legal : {u : Unit {0}} → r ≡ Ok u → and_then (checked b) (fitted room) ≡ fitted room b
  unfolding checked and_then
  legal h = let f = read_formula d h in rw f.1 refl

-- ---- a text

pub too_long_text : (s : List ℕ) (room : ℕ) → refused 25 ≡ translated s → body_of_text s room ≡ refused 25
unfolding body_of_text and_then
too_long_text s room e = rw (← e) refl

module _ (s : List ℕ) (bytes : List ℕ) where
  pub untranslated : (x : Refusal) (room : ℕ) → Translated s (refused (number_of x)) bytes → body_of_text s room ≡ refused (number_of x)
  unfolding body_of_text and_then
  untranslated x room t = go (translated s) t.answer
    where
      go : (y : Answer (List ℕ)) → refused (number_of x) ≡ length_of y → and_then (and_then y checked) (fitted room) ≡ refused (number_of x)
      go (refused n) k = let i : number_of x ≡ n = cc in ap refused (sym i)
      go (accepted b) k = absurd (not_accepted k)

  module _ (n : ℕ) (t : Translated s (accepted n) bytes) where
    found : (b : List ℕ) × (translated s ≡ accepted b) × (length b ≡ n)
    found = go (translated s) refl t.answer
      where
        go : (y : Answer (List ℕ)) → translated s ≡ y → accepted n ≡ length_of y → (b : List ℕ) × (translated s ≡ accepted b) × (length b ≡ n)
        go (refused m) e k = absurd (not_accepted (sym k))
        go (accepted b) e k = (b, e, same_value (sym k))

    pub bytes_inside : n ≤ length bytes
    bytes_inside = rw (← found.2) (t.room found.0 found.1)

    is_body : take n bytes ≡ found.0
    is_body = ap (λ (m : ℕ). take m bytes) (sym found.2) ∙ t.bytes found.0 found.1

    pub translates : (room : ℕ) → body_of_text s room ≡ and_then (checked (take n bytes)) (fitted room)
    unfolding body_of_text and_then
    translates room = rw (found.1, is_body) refl
