-- What a text is answered, said by `Reads`: `reading`, which finds the reading, stands in no statement here. Assumes nothing.
use Prim.Native.Nat.{ℕ, ◌≤◌, ◌<◌}
use mathlib.Core.Path.{◌≡◌, refl, ap, sym, ◌∙◌, subst}
use mathlib.Core.Logic.{◌⊎◌, inl, inr, ⊎_elim}
use mathlib.Core.Bool.{Bool, true, false, cond, false≢true}
use mathlib.Core.List.{List, [], ◌∷◌}
use native.Mathlib.Omega.{arith}
use lib.Dec.{leb}
use lib.ListN.{length}
use borrow.Author.Tests.{leb-true, leb-false}
use Rattle.refusal.specs.Answer.{Answer, refused, accepted, and_then}
use Rattle.refusal.proofs.Answers.{not_accepted, same_refusal, same_value, passed, both_accepted}
use Rattle.rule.specs.Formula.{Formula}
use Rattle.rule.specs.Body.{body}
use Rattle.rule.proofs.Order.{by_order}
use Rattle.rule.proofs.BodyNumbers.{body_refusals}
use Rattle.rule.proofs.BodyLengths.{body_short}
use Rattle.notation.specs.Notation.{Named, Rule, monitor, Reads}
use Rattle.notation.specs.Reading.{reading}
use Rattle.notation.specs.Bodies.{formula_bytes, all_bound, named_body, translated, checked, fitted, body_of_text, Misspelt, Unbound}
use Rattle.notation.proofs.OneReading.{read_back, reads, refused_reading}

-- ---- the texts, by their reading

-- With a reading in which all names are bound.
abbrev pub Closed : List ℕ → Type 0
Closed s = (n : List ℕ) × (F : Named) × (length s ≤ 4096) × Reads s (monitor n F) × (all_bound (n ∷ []) F ≡ true)

-- Its bytes.
abbrev pub closed_bytes : (s : List ℕ) → Closed s → List ℕ
closed_bytes s c = formula_bytes (c.0 ∷ []) c.1

-- There are no others.
pub texts : (s : List ℕ) → Misspelt s ⊎ (Unbound s ⊎ Closed s)
texts s = go (reading s) refl
  where
    bound : (n : List ℕ) (F : Named) (b : Bool) → all_bound (n ∷ []) F ≡ b → (length s ≤ 4096) × Reads s (monitor n F) → Unbound s ⊎ Closed s
    bound n F false e h = inl (n, F, h.0, h.1, e)
    bound n F true e h = inr (n, F, h.0, h.1, e)

    go : (x : Answer Rule) → reading s ≡ x → Misspelt s ⊎ (Unbound s ⊎ Closed s)
    go (refused n) e = inl (⊎_elim (λ l. inr ((refused_reading s n e).1 l)) (λ l. inl l) (by_order (length s) 4096))
    go (accepted (monitor n F)) e = inr (bound n F (all_bound (n ∷ []) F) refl (reads s (monitor n F) e))

-- ---- from the reading to the answer

pub reading_answered : (s : List ℕ) (N : Rule) (room : ℕ) → length s ≤ 4096 → Reads s N
    → body_of_text s room ≡ and_then (and_then (named_body N) checked) (fitted room)
unfolding body_of_text translated and_then
reading_answered s N room l h = rw (read_back s N l h)

pub misspelt : (s : List ℕ) (room : ℕ) → Misspelt s → body_of_text s room ≡ refused 25
unfolding body_of_text translated and_then
misspelt s room m = go (reading s) refl
  where
    none : (N : Rule) → (length s ≤ 4096) × Reads s N → Misspelt s → ⊥
    none N h (inl l) = omega (arith, h.0)
    none N h (inr n) = n N h.1

    go : (x : Answer Rule) → reading s ≡ x → and_then (and_then (and_then x named_body) checked) (fitted room) ≡ refused 25
    go (refused n) e = ap refused (refused_reading s n e).0
    go (accepted N) e = absurd (none N (reads s N e) m)

pub unbound : (s : List ℕ) (room : ℕ) → Unbound s → body_of_text s room ≡ refused 26
unfolding named_body and_then
unbound s room (n, F, l, h, b) = reading_answered s (monitor n F) room l h ∙ rw b

pub closed : (s : List ℕ) (room : ℕ) (c : Closed s) → body_of_text s room ≡ and_then (checked (closed_bytes s c)) (fitted room)
unfolding named_body and_then
closed s room (n, F, l, h, b) = reading_answered s (monitor n F) room l h ∙ rw b

-- ---- from the answer to the reading

checked_accepted : (b c : List ℕ) → checked b ≡ accepted c → (F : Formula) × (body b ≡ accepted F) × (b ≡ c)
unfolding checked
checked_accepted b c e =
    let (F, f, x) = both_accepted (body b) (λ F. accepted b) c e in
    (F, f, same_value x)

checked_refused : (b : List ℕ) (n : ℕ) → checked b ≡ refused n → body b ≡ refused n
unfolding checked and_then
checked_refused b n e = go (body b) e
  where
    go : (x : Answer Formula) → and_then x (λ F. accepted b) ≡ refused n → x ≡ refused n
    go (refused k) e = ap refused (same_refusal e)
    go (accepted F) e = absurd (not_accepted (sym e))

-- The last two questions, on a body's bytes.
last_refused : (b : List ℕ) (room n : ℕ) → and_then (checked b) (fitted room) ≡ refused n
    → (body b ≡ refused n) ⊎ ((n ≡ 22) × (F : Formula) × (body b ≡ accepted F) × (room < length b))
unfolding and_then fitted
last_refused b room n e = go (checked b) refl e
  where
    over : (t : Bool) → leb (length b) room ≡ t → cond t (accepted b) (refused 22) ≡ refused n → (n ≡ 22) × (room < length b)
    over true f e = absurd (not_accepted (sym e))
    over false f e = (sym (same_refusal e), leb-false (length b) room f)

    go : (x : Answer (List ℕ)) → checked b ≡ x → and_then x (fitted room) ≡ refused n
        → (body b ≡ refused n) ⊎ ((n ≡ 22) × (F : Formula) × (body b ≡ accepted F) × (room < length b))
    go (refused k) f e = inl (checked_refused b n (f ∙ e))
    go (accepted c) f e =
        let (F, g, i) = checked_accepted b c f in
        let o = over (leb (length b) room) refl (rw i e) in
        inr (o.0, F, g, o.1)

-- What a refusal's number says.
abbrev pub Refusal : List ℕ → ℕ → ℕ → Type 0
Refusal s room n =
    ((n ≡ 25) × Misspelt s)
    ⊎ (((n ≡ 26) × Unbound s)
    ⊎ (((c : Closed s) × (body (closed_bytes s c) ≡ refused n))
    ⊎ ((n ≡ 22) × (c : Closed s) × (F : Formula) × (body (closed_bytes s c) ≡ accepted F) × (room < length (closed_bytes s c)))))

pub refusals : (s : List ℕ) (room n : ℕ) → body_of_text s room ≡ refused n → Refusal s room n
refusals s room n e = go (texts s)
  where
    go : Misspelt s ⊎ (Unbound s ⊎ Closed s) → Refusal s room n
    go (inl m) = inl (same_refusal (sym e ∙ misspelt s room m), m)
    go (inr (inl u)) = inr (inl (same_refusal (sym e ∙ unbound s room u), u))
    go (inr (inr c)) =
        inr (inr (⊎_elim (λ x. inl (c, x)) (λ x. inr (x.0, c, x.1, x.2, x.3)) (last_refused (closed_bytes s c) room n (sym (closed s room c) ∙ e))))

pub only_misspelt : (s : List ℕ) (room : ℕ) → body_of_text s room ≡ refused 25 → Misspelt s
only_misspelt s room e = go (refusals s room 25 e)
  where
    go : Refusal s room 25 → Misspelt s
    go (inl x) = x.1
    go (inr (inl x)) = absurd (omega (arith, x.0))
    go (inr (inr (inl (c, x)))) = absurd (false≢true (body_refusals (closed_bytes s c) 25 x))
    go (inr (inr (inr x))) = absurd (omega (arith, x.0))

pub only_unbound : (s : List ℕ) (room : ℕ) → body_of_text s room ≡ refused 26 → Unbound s
only_unbound s room e = go (refusals s room 26 e)
  where
    go : Refusal s room 26 → Unbound s
    go (inl x) = absurd (omega (arith, x.0))
    go (inr (inl x)) = x.1
    go (inr (inr (inl (c, x)))) = absurd (false≢true (body_refusals (closed_bytes s c) 26 x))
    go (inr (inr (inr x))) = absurd (omega (arith, x.0))

-- What an acceptance says.
pub acceptances : (s b : List ℕ) (room : ℕ) → body_of_text s room ≡ accepted b
    → (c : Closed s) × (closed_bytes s c ≡ b) × (F : Formula) × (body b ≡ accepted F) × (length b ≤ room)
unfolding fitted
acceptances s b room e = go (texts s)
  where
    go : Misspelt s ⊎ (Unbound s ⊎ Closed s) → (c : Closed s) × (closed_bytes s c ≡ b) × (F : Formula) × (body b ≡ accepted F) × (length b ≤ room)
    go (inl m) = absurd (not_accepted (sym (misspelt s room m) ∙ e))
    go (inr (inl u)) = absurd (not_accepted (sym (unbound s room u) ∙ e))
    go (inr (inr c)) =
        let (d, f, x) = both_accepted (checked (closed_bytes s c)) (fitted room) b (sym (closed s room c) ∙ e) in
        let (F, g, i) = checked_accepted (closed_bytes s c) d f in
        let p = passed (leb (length d) room) (accepted d) 22 b x in
        let j : d ≡ b = same_value p.1 in
        (c, i ∙ j, F, subst (λ y. body y ≡ accepted F) (i ∙ j) g, subst (λ y. length y ≤ room) j (leb-true (length d) room p.0))

-- ---- how long a body is

pub fits_always : (s : List ℕ) (room : ℕ) → 432 ≤ room → body_of_text s room ≡ refused 22 → ⊥
fits_always s room h e = go (refusals s room 22 e)
  where
    go : Refusal s room 22 → ⊥
    go (inl x) = omega (arith, x.0)
    go (inr (inl x)) = omega (arith, x.0)
    go (inr (inr (inl (c, x)))) = false≢true (body_refusals (closed_bytes s c) 22 x)
    go (inr (inr (inr (z, c, F, f, l)))) = omega (arith, l, body_short (closed_bytes s c) F f)
