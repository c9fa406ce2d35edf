-- The law of masked words: the bits of a run's word, shifted and masked, show their ticks. All four questions stand on it.
use mathlib.Core.Path.{◌≡◌, sym, ap, ap₂, ◌∙◌, subst}
use mathlib.Core.List.{List}
use Prim.Native.Nat.{ℕ, ◌+◌, ◌*◌, ◌/◌, ◌%◌, ◌^◌, ◌≤◌, ◌<◌}
use native.Mathlib.Nat.{mod-lt, div-one, mod-eq_of_lt}
use native.Mathlib.Omega.{arith}
use lib.ListN.{get_or}
use lib.Pow.{pow_pos}
use Rattle.rule.specs.Meaning.{up}
use Rattle.calendar.specs.Calendar.{run_word, up_at}
use Rattle.calendar_questions.proofs.Digits.{up_shr, up_mod}
use Rattle.calendar_questions.specs.Parts.{Shown, Quiet}
use Rattle.calendar_questions.proofs.Searching.{quiet_shown}

pub run_shown : (ws : List ℕ) (k q d m : ℕ) → q % 64 + d ≤ 64 → m ≡ run_word ws k q / 2 ^ (q % 64) % 2 ^ d → Shown (up_at ws k) q d m
unfolding Shown up_at run_word
run_shown ws k q d m h e =
    let n = run_word ws k q / 2 ^ (q % 64) in (
      subst (λ (x : ℕ). x < 2 ^ d) (sym e) (mod-lt n (pow_pos d)),
      λ j l.
          ap₂ (λ (x y : ℕ). up x (get_or ws (8 * y + k) 0)) (let a : (q + j) % 64 ≡ q % 64 + j = omega arith in a) (let a : (q + j) / 64 ≡ q / 64 = omega arith in a)
          ∙ sym (up_shr (run_word ws k q) (q % 64) j) ∙ sym (up_mod n d j l) ∙ ap (up j) (sym e),
    )

-- a run's whole word, which needs no mask, shows its 64 ticks
pub whole_shown : (ws : List ℕ) (k r m : ℕ) → m < 2 ^ 64 → m ≡ run_word ws k (64 * r) → Shown (up_at ws k) (64 * r) 64 m
whole_shown ws k r m h e =
    run_shown ws k (64 * r) 64 m (omega arith)
    (e
    ∙ sym
    (ap (λ (x : ℕ). run_word ws k (64 * r) / 2 ^ x % 2 ^ 64) (let z : 64 * r % 64 ≡ 0 = omega arith in z)
    ∙ ap (λ (x : ℕ). x % 2 ^ 64) (div-one (run_word ws k (64 * r)))
    ∙ mod-eq_of_lt (subst (λ (x : ℕ). x < 2 ^ 64) e h)))

-- a run whose word is 0 has no tick that is up
pub quiet_run : (ws : List ℕ) (k r m : ℕ) → m ≡ 0 → m ≡ run_word ws k (64 * r) → Quiet (up_at ws k) (64 * r) (64 * (r + 1))
quiet_run ws k r m z e =
    subst (Quiet (up_at ws k) (64 * r)) (let s : 64 * r + 64 ≡ 64 * (r + 1) = omega arith in s)
    (quiet_shown (up_at ws k) (64 * r) 64 m (whole_shown ws k r m (subst (λ (x : ℕ). x < 2 ^ 64) (sym z) (pow_pos 64)) e) z)

-- the word of a tick is its run's
word_of_run : (ws : List ℕ) (k q : ℕ) → run_word ws k (64 * (q / 64)) ≡ run_word ws k q
unfolding run_word
word_of_run ws k q = ap (λ (x : ℕ). get_or ws (8 * x + k) 0) (omega arith)

-- a word of a tick's run, masked
pub masked_shown : (ws : List ℕ) (k q d m w : ℕ) → q % 64 + d ≤ 64 → w ≡ run_word ws k (64 * (q / 64)) → m ≡ w / 2 ^ (q % 64) % 2 ^ d → Shown (up_at ws k) q d m
masked_shown ws k q d m w h e f = run_shown ws k q d m h (f ∙ ap (λ (x : ℕ). x / 2 ^ (q % 64) % 2 ^ d) (e ∙ word_of_run ws k q))
