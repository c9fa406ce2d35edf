-- The words agree with the stream: after clearing, and the flag bytes of the ticks 0, 1, .. filled one after another, flag k is up at a kept tick
-- exactly if it is up in the tick's byte, and at no tick that is not filled yet.
use mathlib.Core.Path.{◌≡◌, refl, sym, ap, ◌∙◌, subst}
use mathlib.Core.Bool.{Bool, true, false, cond}
use mathlib.Core.List.{List, [], ◌∷◌, ◌++◌}
use Prim.{⊥}
use Prim.Native.Nat.{ℕ, suc, ◌+◌, ◌-◌, ◌*◌, ◌/◌, ◌%◌, ◌≤◌, ◌<◌}
use native.Mathlib.Omega.{arith}
use lib.Dec.{ltb, eqb}
use lib.ListN.{length, get_or, drop}
use lib.Pow.{pow_pos}
use borrow.Author.Tests.{lt-ltb, le-ltb, ltb-true, ltb-false, eqb-true, eqb-false}
use Rattle.rule.specs.Meaning.{up}
use Rattle.calendar.specs.Calendar.{kept, run_word, up_at, each, cleared_word, cleared, flagged, marked_word, marked, filled}
use Rattle.calendar.proofs.Marking.{up_above, flagged_here, flagged_other}
use Rattle.calendar.proofs.Each.{length_each, getD_each, drop_each, cleared_in, cleared_out, marked_in, marked_out}

-- ---- the word of a kept tick

word_in : (ws : List ℕ) (k q : ℕ) → k < 8 → q < kept ws → 8 * (q / 64) + k < length ws
unfolding kept
word_in ws k q l h = omega arith

run_word_each : (f : ℕ → ℕ → ℕ) (ws : List ℕ) (k q : ℕ) → k < 8 → q < kept ws
    → run_word (each f 0 ws) k q ≡ f (8 * (q / 64) + k) (run_word ws k q)
unfolding run_word
run_word_each f ws k q l h =
    getD_each f 0 ws (8 * (q / 64) + k) (word_in ws k q l h)
    ∙ ap (λ (x : ℕ). f x (get_or ws (8 * (q / 64) + k) 0)) (let e : 0 + (8 * (q / 64) + k) ≡ 8 * (q / 64) + k = omega arith in e)

-- as many words keep as many ticks
kept_length : (vs ws : List ℕ) → length vs ≡ length ws → kept vs ≡ kept ws
unfolding kept
kept_length vs ws e = ap (λ (x : ℕ). 64 * (x / 8)) e

-- ---- clearing

pub length_cleared : (ws : List ℕ) → length (cleared ws) ≡ length ws
unfolding cleared
length_cleared ws = length_each (cleared_word (8 * (length ws / 8))) 0 ws

pub kept_cleared : (ws : List ℕ) → kept (cleared ws) ≡ kept ws
kept_cleared ws = kept_length (cleared ws) ws (length_cleared ws)

-- a last group under eight keeps its content
pub rest_cleared : (ws : List ℕ) → drop (8 * (length ws / 8)) (cleared ws) ≡ drop (8 * (length ws / 8)) ws
unfolding cleared
rest_cleared ws =
    let n = 8 * (length ws / 8) in drop_each (cleared_word n) 0 ws n (λ j w l. cleared_out n j w (omega arith))

pub up_zero : (k : ℕ) → up k 0 ≡ false
up_zero k = up_above 0 k (pow_pos k)

up_cleared : (ws : List ℕ) (k q : ℕ) → k < 8 → q < kept ws → up_at (cleared ws) k q ≡ false
unfolding up_at cleared kept
up_cleared ws k q l h =
    ap (up (q % 64))
    (run_word_each (cleared_word (8 * (length ws / 8))) ws k q l h
    ∙ cleared_in (8 * (length ws / 8)) (8 * (q / 64) + k) (run_word ws k q) (omega arith))
    ∙ up_zero (q % 64)

-- ---- one tick

length_marked : (ws : List ℕ) (t b : ℕ) → length (marked ws t b) ≡ length ws
unfolding marked
length_marked ws t b = go (ltb t (kept ws))
  where
    go : (x : Bool) → length (cond x (each (marked_word t b) 0 ws) ws) ≡ length ws
    go true = length_each (marked_word t b) 0 ws
    go false = refl

pub kept_marked : (ws : List ℕ) (t b : ℕ) → kept (marked ws t b) ≡ kept ws
kept_marked ws t b = kept_length (marked ws t b) ws (length_marked ws t b)

pub marked_kept : (ws : List ℕ) (t b : ℕ) → t < kept ws → marked ws t b ≡ each (marked_word t b) 0 ws
unfolding marked
marked_kept ws t b h = ap (λ (x : Bool). cond x (each (marked_word t b) 0 ws) ws) (lt-ltb t (kept ws) h)

pub marked_past : (ws : List ℕ) (t b : ℕ) → kept ws ≤ t → marked ws t b ≡ ws
unfolding marked
marked_past ws t b h = ap (λ (x : Bool). cond x (each (marked_word t b) 0 ws) ws) (le-ltb t (kept ws) h)

-- a last group under eight keeps its content
rest_marked : (ws : List ℕ) (t b : ℕ) → drop (8 * (length ws / 8)) (marked ws t b) ≡ drop (8 * (length ws / 8)) ws
unfolding marked kept
rest_marked ws t b = go (ltb t (64 * (length ws / 8))) refl
  where
    n : ℕ
    n = 8 * (length ws / 8)

    go : (x : Bool) → ltb t (64 * (length ws / 8)) ≡ x → drop n (cond x (each (marked_word t b) 0 ws) ws) ≡ drop n ws
    go true e =
        let h : t < 64 * (length ws / 8) = ltb-true t (64 * (length ws / 8)) e in
        drop_each (marked_word t b) 0 ws n (λ j w l. marked_out t b j w (λ r. omega arith))
    go false e = refl

module _ (ws : List ℕ) (t b k : ℕ) (l : k < 8) where
  word_after : (q : ℕ) → t < kept ws → q < kept ws → run_word (marked ws t b) k q ≡ marked_word t b (8 * (q / 64) + k) (run_word ws k q)
  word_after q h i = ap (λ (v : List ℕ). run_word v k q) (marked_kept ws t b h) ∙ run_word_each (marked_word t b) ws k q l i

  -- the tick itself: its flags, where the words had none
  pub marked_here : t < kept ws → up_at ws k t ≡ false → up_at (marked ws t b) k t ≡ up k b
  unfolding up_at
  marked_here h z =
      ap (up (t % 64))
      (word_after t h h ∙ marked_in t b (8 * (t / 64) + k) (run_word ws k t) (omega arith)
      ∙ ap (λ (x : ℕ). flagged (t % 64) b x (run_word ws k t)) (let e : (8 * (t / 64) + k) % 8 ≡ k = omega arith in e))
      ∙ flagged_here (t % 64) b k (run_word ws k t) z

  -- every other tick: as before
  pub marked_other : (q : ℕ) → q < kept ws → (q ≡ t → ⊥) → up_at (marked ws t b) k q ≡ up_at ws k q
  unfolding up_at
  marked_other q i ne = go (ltb t (kept ws)) refl (eqb (q / 64) (t / 64)) refl
    where
      go : (x : Bool) → ltb t (kept ws) ≡ x → (y : Bool) → eqb (q / 64) (t / 64) ≡ y → up (q % 64) (run_word (marked ws t b) k q) ≡ up (q % 64) (run_word ws k q)
      go false e y e' = ap (λ (v : List ℕ). up (q % 64) (run_word v k q)) (marked_past ws t b (ltb-false t (kept ws) e))
      go true e true e' =
          let s : q / 64 ≡ t / 64 = eqb-true (q / 64) (t / 64) e' in
          ap (up (q % 64)) (word_after q (ltb-true t (kept ws) e) i ∙ marked_in t b (8 * (q / 64) + k) (run_word ws k q) (omega arith))
          ∙ flagged_other (t % 64) b ((8 * (q / 64) + k) % 8) (run_word ws k q) (q % 64) (λ r. ne (omega arith))
      go true e false e' =
          let s : q / 64 ≡ t / 64 → ⊥ = eqb-false (q / 64) (t / 64) e' in
          ap (up (q % 64))
          (word_after q (ltb-true t (kept ws) e) i
          ∙ marked_out t b (8 * (q / 64) + k) (run_word ws k q) (λ r. s ((let a : (8 * (q / 64) + k) / 8 ≡ q / 64 = omega arith in sym a) ∙ r)))

-- ---- all ticks

pub length_filled : (ws : List ℕ) (t : ℕ) (bs : List ℕ) → length (filled ws t bs) ≡ length ws
unfolding filled
length_filled ws t [] = refl
length_filled ws t (b ∷ bs) = length_filled (marked ws t b) (suc t) bs ∙ length_marked ws t b

pub kept_filled : (ws : List ℕ) (t : ℕ) (bs : List ℕ) → kept (filled ws t bs) ≡ kept ws
kept_filled ws t bs = kept_length (filled ws t bs) ws (length_filled ws t bs)

-- a last group under eight keeps its content
rest_same : (n : ℕ) (ws : List ℕ) (t : ℕ) (bs : List ℕ) → 8 * (length ws / 8) ≡ n → drop n (filled ws t bs) ≡ drop n ws
unfolding filled
rest_same n ws t [] e = refl
rest_same n ws t (b ∷ bs) e =
    rest_same n (marked ws t b) (suc t) bs (ap (λ (x : ℕ). 8 * (x / 8)) (length_marked ws t b) ∙ e)
    ∙ subst (λ (x : ℕ). drop x (marked ws t b) ≡ drop x ws) e (rest_marked ws t b)

pub rest_filled : (ws : List ℕ) (t : ℕ) (bs : List ℕ) → drop (8 * (length ws / 8)) (filled ws t bs) ≡ drop (8 * (length ws / 8)) ws
rest_filled ws t bs = rest_same (8 * (length ws / 8)) ws t bs refl

-- from the kept end on nothing changes
pub filled_past : (ws : List ℕ) (t : ℕ) (bs : List ℕ) → kept ws ≤ t → filled ws t bs ≡ ws
unfolding filled
filled_past ws t [] h = refl
filled_past ws t (b ∷ bs) h = ap (λ (v : List ℕ). filled v (suc t) bs) (marked_past ws t b h) ∙ filled_past ws (suc t) bs (omega arith)

-- bytes taken in two parts
pub filled_append : (ws : List ℕ) (t : ℕ) (bs cs : List ℕ) → filled ws t (bs ++ cs) ≡ filled (filled ws t bs) (t + length bs) cs
unfolding filled
filled_append ws t [] cs = ap (λ (n : ℕ). filled ws n cs) (let e : t ≡ t + 0 = omega arith in e)
filled_append ws t (b ∷ bs) cs =
    filled_append (marked ws t b) (suc t) bs cs
    ∙ ap (λ (n : ℕ). filled (filled (marked ws t b) (suc t) bs) n cs) (let e : suc t + length bs ≡ t + suc (length bs) = omega arith in e)

kept_still : (ws : List ℕ) (t b q : ℕ) → q < kept ws → q < kept (marked ws t b)
kept_still ws t b q h = subst (λ (n : ℕ). q < n) (sym (kept_marked ws t b)) h

-- ticks before t stay as they are
filled_before : (ws : List ℕ) (t : ℕ) (bs : List ℕ) (k q : ℕ) → k < 8 → q < kept ws → q < t → up_at (filled ws t bs) k q ≡ up_at ws k q
unfolding filled
filled_before ws t [] k q l h i = refl
filled_before ws t (b ∷ bs) k q l h i =
    filled_before (marked ws t b) (suc t) bs k q l (kept_still ws t b q h) (omega arith) ∙ marked_other ws t b k l q h (λ e. omega arith)

-- ticks from t on are up as their bytes say, where none was up before
filled_from : (bs : List ℕ) (ws : List ℕ) (t k : ℕ) → k < 8 → ((q : ℕ) → q < kept ws → t ≤ q → up_at ws k q ≡ false)
    → (q : ℕ) → q < kept ws → t ≤ q → up_at (filled ws t bs) k q ≡ up k (get_or bs (q - t) 0)
unfolding filled
filled_from [] ws t k l z q h i = z q h i ∙ sym (up_zero k)
filled_from (b ∷ bs) ws t k l z q h i =
    go (ltb t q) refl (filled_from bs (marked ws t b) (suc t) k l
    (λ p j m. marked_other ws t b k l p (subst (λ (n : ℕ). p < n) (kept_marked ws t b) j) (λ e. omega arith) ∙ z p (subst (λ (n : ℕ). p < n) (kept_marked ws t b) j) (omega arith))
    q (kept_still ws t b q h))
  where
    go : (x : Bool) → ltb t q ≡ x → (suc t ≤ q → up_at (filled (marked ws t b) (suc t) bs) k q ≡ up k (get_or bs (q - suc t) 0))
        → up_at (filled (marked ws t b) (suc t) bs) k q ≡ up k (get_or (b ∷ bs) (q - t) 0)
    go true e later =
        let m : t < q = ltb-true t q e in
        later m ∙ ap (λ (n : ℕ). up k (get_or (b ∷ bs) n 0)) (let s : suc (q - suc t) ≡ q - t = omega arith in s)
    go false e later =
        let s : q ≡ t = omega (arith, ltb-false t q e) in
        let n : q - t ≡ 0 = omega arith in
        filled_before (marked ws t b) (suc t) bs k q l (kept_still ws t b q h) (omega arith)
        ∙ ap (up_at (marked ws t b) k) s ∙ marked_here ws t b k l (omega arith) (z t (omega arith) (omega arith))
        ∙ ap (λ (x : ℕ). up k (get_or (b ∷ bs) x 0)) (sym n)

-- Words that were cleared, and then took the bytes bs at the ticks 0, 1, ..: flag k is up at a kept tick exactly if it is up in the tick's byte
-- (`get_or` gives 0, which has no flag up, for a tick that is not filled yet).
pub agrees : (ws bs : List ℕ) (k q : ℕ) → k < 8 → q < kept ws → up_at (filled (cleared ws) 0 bs) k q ≡ up k (get_or bs q 0)
agrees ws bs k q l h =
    let c = kept_cleared ws in
    filled_from bs (cleared ws) 0 k l (λ p i m. up_cleared ws k p l (omega arith)) q (omega arith) (omega arith)
    ∙ ap (λ (n : ℕ). up k (get_or bs n 0)) (let e : q - 0 ≡ q = omega arith in e)
