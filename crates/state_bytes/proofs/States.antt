-- Laws of a state's bytes: what was stored is loaded again, what was loaded is stored as the same bytes, and the progress stored is the progress loaded.
-- Assumes nothing.
use Prim.Native.Nat.{ℕ, zero, suc, ◌+◌, ◌*◌, ◌/◌, ◌%◌, ◌≤◌, ◌<◌}
use mathlib.Core.Path.{◌≡◌, refl, sym, ap, ap₂, ◌∙◌}
use mathlib.Core.List.{List, [], ◌∷◌, ◌++◌, append-nil}
use native.Mathlib.Omega.{arith}
use lib.ListN.{length, take, drop, length-append, length-drop, take-append-drop, drop_of_length-le}
use lib.Seq.{take-add, get_or-drop, take-length, take_at, take_all, take-take, take-append-le, length-take-le}
use Rattle.words.specs.Words.{Bytes}
use Rattle.words.specs.Words.{splice}
use Rattle.words.proofs.Splices.{take_splice, length_splice}
use Rattle.engine.specs.declared.state.State as code
use Rattle.engine.specs.States.{moved_code}
use Rattle.state_bytes.specs.Numbers.{value, low_bytes, number_at}
use Rattle.state_bytes.specs.States.{loaded, stored, moved_bytes, Storable}
use Rattle.state_bytes.proofs.Numbers.{length_low, number_before, number_last}

-- ---- copying the body

-- A list filled with the first bytes of another.
pub front_filled : (from to w : List ℕ) → length to ≤ length from
    → w ≡ take (length (take (length to) from)) (take (length to) from) ++ drop (length (take (length to) from)) to → w ≡ take (length to) from
front_filled from to w h e =
    let n : length (take (length to) from) ≡ length to = length-take-le (length to) from h in
    let gone : drop (length (take (length to) from)) to ≡ [] = drop_of_length-le to {i = length (take (length to) from)} (omega arith) in
    e ∙ ap₂ (λ (x y : List ℕ). x ++ y) (take-length (take (length to) from)) gone ∙ append-nil (take (length to) from)

-- ---- storing one number after another

-- A list whose first bytes are known, and a number is stored after them.
module _ (l : List ℕ) (at x : ℕ) (p : List ℕ) (e : take at l ≡ p) (fits : at + 8 ≤ length l) where
  stored_front : take (at + 8) (splice l at (low_bytes 8 x)) ≡ p ++ low_bytes 8 x
  stored_front =
      let n = length_low 8 x in
      ap (λ (k : ℕ). take (at + k) (splice l at (low_bytes 8 x))) (sym n) ∙ take_splice l at (low_bytes 8 x) (omega arith) ∙ ap (λ (h : List ℕ). h ++ low_bytes 8 x) e

  stored_length : length (splice l at (low_bytes 8 x)) ≡ length l
  stored_length = let n = length_low 8 x in length_splice l at (low_bytes 8 x) (omega arith)

pub progress_stored : (st m w : List ℕ) (next live : ℕ) → length st ≡ 544
    → m ≡ splice st 528 (low_bytes 8 next) → w ≡ splice m 536 (low_bytes 8 live) → w ≡ moved_bytes st next live
unfolding moved_bytes
progress_stored st m w next live n e₁ e₂ =
    let n₁ : length m ≡ 544 = ap length e₁ ∙ stored_length st 528 next (take 528 st) refl (omega arith) ∙ n in
    let n₂ : length w ≡ 544 = ap length e₂ ∙ stored_length m 536 live (take 536 m) refl (omega arith) ∙ n₁ in
    let f₁ : take 536 m ≡ take 528 st ++ low_bytes 8 next = ap (take 536) e₁ ∙ stored_front st 528 next (take 528 st) refl (omega arith) in
    let f₂ : take 544 w ≡ (take 528 st ++ low_bytes 8 next) ++ low_bytes 8 live = ap (take 544) e₂ ∙ stored_front m 536 live _ f₁ (omega arith) in
    sym (take_all 544 w (omega arith)) ∙ f₂

pub whole_stored : (st : List ℕ) (s : code.State) (s₀ s₁ s₂ s₃ s₄ : List ℕ) → length st ≡ 544 → length s.body ≡ 512
    → s₀ ≡ take (length s.body) s.body ++ drop (length s.body) st
    → s₁ ≡ splice s₀ 512 (low_bytes 8 s.size) → s₂ ≡ splice s₁ 520 (low_bytes 8 s.opened) → s₃ ≡ splice s₂ 528 (low_bytes 8 s.next)
    → s₄ ≡ splice s₃ 536 (low_bytes 8 s.live) → s₄ ≡ stored s
unfolding stored
whole_stored st s s₀ s₁ s₂ s₃ s₄ n r e₀ e₁ e₂ e₃ e₄ =
    let b₀ : s₀ ≡ s.body ++ drop 512 st =
    e₀ ∙ ap₂ (λ (x y : List ℕ). x ++ y) (take_all (length s.body) s.body (omega arith)) (ap (λ (k : ℕ). drop k st) r) in
    let n₀ : length s₀ ≡ 544 = ap length b₀ ∙ length-append s.body (drop 512 st) ∙ (let d = length-drop 512 st in omega arith) in
    let n₁ : length s₁ ≡ 544 = ap length e₁ ∙ stored_length s₀ 512 s.size (take 512 s₀) refl (omega arith) ∙ n₀ in
    let n₂ : length s₂ ≡ 544 = ap length e₂ ∙ stored_length s₁ 520 s.opened (take 520 s₁) refl (omega arith) ∙ n₁ in
    let n₃ : length s₃ ≡ 544 = ap length e₃ ∙ stored_length s₂ 528 s.next (take 528 s₂) refl (omega arith) ∙ n₂ in
    let n₄ : length s₄ ≡ 544 = ap length e₄ ∙ stored_length s₃ 536 s.live (take 536 s₃) refl (omega arith) ∙ n₃ in
    let f₀ : take 512 s₀ ≡ s.body = ap (take 512) b₀ ∙ take_at s.body (drop 512 st) 512 r in
    let f₁ : take 520 s₁ ≡ s.body ++ low_bytes 8 s.size = ap (take 520) e₁ ∙ stored_front s₀ 512 s.size _ f₀ (omega arith) in
    let f₂ : take 528 s₂ ≡ (s.body ++ low_bytes 8 s.size) ++ low_bytes 8 s.opened = ap (take 528) e₂ ∙ stored_front s₁ 520 s.opened _ f₁ (omega arith) in
    let f₃ : take 536 s₃ ≡ ((s.body ++ low_bytes 8 s.size) ++ low_bytes 8 s.opened) ++ low_bytes 8 s.next = ap (take 536) e₃ ∙ stored_front s₂ 528 s.next _ f₂ (omega arith) in
    sym (take_all 544 s₄ (omega arith)) ∙ ap (take 544) e₄ ∙ stored_front s₃ 536 s.live _ f₃ (omega arith)

-- ---- loading what was stored

length_after : (p : List ℕ) (x n : ℕ) → length p ≡ n → length (p ++ low_bytes 8 x) ≡ n + 8
length_after p x n e = length-append p (low_bytes 8 x) ∙ (let d = length_low 8 x in omega arith)

pub load_stored : (s : code.State) → Storable s → loaded (stored s) ≡ s
unfolding loaded stored
load_stored s h =
    let R = s.body in
    let A = R ++ low_bytes 8 s.size in
    let B = A ++ low_bytes 8 s.opened in
    let C = B ++ low_bytes 8 s.next in
    let D = low_bytes 8 s.live in
    let r : length R ≡ 512 = h.room in
    let a : length A ≡ 520 = length_after R s.size 512 r in
    let bb : length B ≡ 528 = length_after A s.opened 520 a in
    let cc' : length C ≡ 536 = length_after B s.next 528 bb in
    let e₁ : number_at (C ++ D) 512 ≡ s.size =
    number_before C D 512 (omega arith) ∙ number_before B (low_bytes 8 s.next) 512 (omega arith) ∙ number_before A (low_bytes 8 s.opened) 512 (omega arith)
    ∙ number_last R s.size 512 r h.size_fits in
    let e₂ : number_at (C ++ D) 520 ≡ s.opened =
    number_before C D 520 (omega arith) ∙ number_before B (low_bytes 8 s.next) 520 (omega arith) ∙ number_last A s.opened 520 a h.opened_fits in
    let e₃ : number_at (C ++ D) 528 ≡ s.next = number_before C D 528 (omega arith) ∙ number_last B s.next 528 bb h.next_fits in
    let e₄ : number_at (C ++ D) 536 ≡ s.live = number_last C s.live 536 cc' h.live_fits in
    let f : take 512 (C ++ D) ≡ R =
    take-append-le 512 C D (omega arith) ∙ take-append-le 512 B (low_bytes 8 s.next) (omega arith) ∙ take-append-le 512 A (low_bytes 8 s.opened) (omega arith)
    ∙ take_at R (low_bytes 8 s.size) 512 r in
    simp (e₁, e₂, e₃, e₄, f)

-- The progress stored is loaded again, and the rest is as it was.
pub load_moved : (st : List ℕ) (next live : ℕ) → length st ≡ 544 → next < 18446744073709551616 → live < 18446744073709551616
    → loaded (moved_bytes st next live) ≡ moved_code (loaded st) next live
unfolding loaded moved_bytes
load_moved st next live n low fits =
    let P = take 528 st in
    let A = P ++ low_bytes 8 next in
    let p : length P ≡ 528 = length-take-le 528 st (omega arith) in
    let a : length A ≡ 536 = length_after P next 528 p in
    let kept : (at : ℕ) → at + 8 ≤ 528 → number_at (A ++ low_bytes 8 live) at ≡ number_at st at = λ at h.
    number_before A (low_bytes 8 live) at (omega arith) ∙ number_before P (low_bytes 8 next) at (omega arith)
    ∙ sym (ap (λ (l : List ℕ). number_at l at) (sym (take-append-drop 528 st)) ∙ number_before P (drop 528 st) at (omega arith)) in
    let e₃ : number_at (A ++ low_bytes 8 live) 528 ≡ next = number_before A (low_bytes 8 live) 528 (omega arith) ∙ number_last P next 528 p low in
    let e₄ : number_at (A ++ low_bytes 8 live) 536 ≡ live = number_last A live 536 a fits in
    let f : take 512 (A ++ low_bytes 8 live) ≡ take 512 st =
    take-append-le 512 A (low_bytes 8 live) (omega arith) ∙ take-append-le 512 P (low_bytes 8 next) (omega arith) ∙ take-take 512 528 st (omega arith) in
    rw (kept 512 (omega arith), kept 520 (omega arith), e₃, e₄, f)

-- ---- storing what was loaded

low_value : (l : List ℕ) → Bytes l → low_bytes (length l) (value l) ≡ l
unfolding low_bytes value
low_value [] h = refl
low_value (b ∷ l) h =
    let here : b < 256 = h 0 in
    let m : (b + 256 * value l) % 256 ≡ b = omega arith in
    let d : (b + 256 * value l) / 256 ≡ value l = omega arith in
    ap₂ (λ (x : ℕ) (y : List ℕ). x ∷ y) m (ap (low_bytes (length l)) d ∙ low_value l (λ i. h (suc i)))

bytes_taken : (n : ℕ) (l : List ℕ) → Bytes l → Bytes (take n l)
bytes_taken zero l h i = omega arith
bytes_taken (suc n) [] h i = omega arith
bytes_taken (suc n) (b ∷ l) h zero = h 0
bytes_taken (suc n) (b ∷ l) h (suc i) = bytes_taken n l (λ j. h (suc j)) i

-- The bytes of the number at a position are the bytes there.
module _ (st : List ℕ) (bytes : Bytes st) where
  there : (at : ℕ) → at + 8 ≤ length st → low_bytes 8 (number_at st at) ≡ take 8 (drop at st)
  unfolding number_at
  there at h =
      let d = length-drop at st in
      let n : length (take 8 (drop at st)) ≡ 8 = length-take-le 8 (drop at st) (omega arith) in
      ap (λ (k : ℕ). low_bytes k (value (take 8 (drop at st)))) (sym n)
      ∙ low_value (take 8 (drop at st)) (bytes_taken 8 (drop at st) (λ i. rw (get_or-drop at st i 0) (bytes (at + i))))

  after : (at : ℕ) → at + 8 ≤ length st → take at st ++ low_bytes 8 (number_at st at) ≡ take (at + 8) st
  after at h = ap (λ (l : List ℕ). take at st ++ l) (there at h) ∙ sym (take-add at 8 st)

  -- Bytes that are given their own next tick and live count again stay as they are.
  pub moved_own : length st ≡ 544 → moved_bytes st (number_at st 528) (number_at st 536) ≡ st
  unfolding moved_bytes
  moved_own n = rw (after 528 (omega arith), after 536 (omega arith)) (take_all 544 st (omega arith))

  pub store_loaded : length st ≡ 544 → stored (loaded st) ≡ st
  unfolding loaded stored
  store_loaded n =
      rw (after 512 (omega arith), after 520 (omega arith), after 528 (omega arith), after 536 (omega arith)) (take_all 544 st (omega arith))
