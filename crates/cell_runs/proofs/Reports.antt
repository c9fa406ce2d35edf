-- The report of a step: one tick is written or not.
use Prim.Native.Nat.{ℕ, ◌+◌, ◌≤◌, ◌<◌}
use mathlib.Core.Path.{◌≡◌, refl, sym, ap, ◌∙◌}
use mathlib.Core.Bool.{Bool, true, false, cond}
use mathlib.Core.List.{List, [], ◌∷◌, ◌++◌, append_assoc}
use native.Mathlib.Omega.{arith}
use native.Mathlib.Numerals.{add-one}
use borrow.Author.Tests.{eq-eqb, ne_eqb}
use lib.ListN.{length, take, drop, set, take-append-drop}
use lib.Seq.{take_at, drop_at, drop-append-add, drop-drop, set_split, length-take-le}
use Rattle.rule.specs.declared.Verdict.{Verdict}
use Rattle.rule.specs.declared.Verdict.TheVariants.{True, False}
use Rattle.rule.specs.declared.Outcome.{Outcome}
use Rattle.rule.specs.declared.Outcome.TheVariants.{Decided, Open}
use Rattle.rule.specs.Steps.{false_at}
use Rattle.cell_runs.specs.Instances.{tick_if_false}

pub tick_open : (o : Outcome) (t p : ℕ) → o ≡ Open → tick_if_false o t p ≡ []
unfolding tick_if_false false_at
tick_open o t p e = rw e refl

pub tick_true : (o : Outcome) (v : Verdict) (d t p : ℕ) → o ≡ Decided v d → v ≡ True → tick_if_false o t p ≡ []
unfolding tick_if_false false_at
tick_true o v d t p e f = rw (e, f) refl

pub tick_now : (o : Outcome) (v : Verdict) (d t p : ℕ) → o ≡ Decided v d → v ≡ False → d ≡ t → tick_if_false o t p ≡ p ∷ []
unfolding tick_if_false false_at
tick_now o v d t p e f g = rw (e, f, eq-eqb d t g) refl

pub tick_past : (o : Outcome) (v : Verdict) (d t p : ℕ) → o ≡ Decided v d → v ≡ False → (d ≡ t → ⊥) → tick_if_false o t p ≡ []
unfolding tick_if_false false_at
tick_past o v d t p e f g = rw (e, f, ne_eqb d t g) refl

pub tick_other : (o : Outcome) (t p : ℕ) → (o ≡ Decided False t → ⊥) → tick_if_false o t p ≡ []
tick_other Open t p n = tick_open Open t p refl
tick_other (Decided True d) t p n = tick_true (Decided True d) True d t p refl refl
tick_other (Decided False d) t p n = tick_past (Decided False d) False d t p refl refl (λ e. n (ap (Decided False) e))

pub report_none : (report : List ℕ) (at : ℕ) (h : List ℕ) → h ≡ []
    → ((at ≡ at + length h) × (at ≤ at + 1)) × (report ≡ take at report ++ (h ++ drop at report))
report_none report at h e = rw e ((omega arith, omega arith), sym (take-append-drop at report))

pub report_one : (report : List ℕ) (at p : ℕ) (h : List ℕ) → h ≡ p ∷ [] → at < length report
    → ((at + 1 ≡ at + length h) × (at + 1 ≤ at + 1)) × (set report at p ≡ take at report ++ (h ++ drop (at + 1) report))
report_one report at p h e g = rw (e, add-one at) ((omega arith, omega arith), set_split report at p g)

pub count_one : (b : Bool) (i : ℕ) → length (cond b (i ∷ []) []) ≡ cond b 1 0
count_one true i = refl
count_one false i = refl

-- words written so far, and some more
pub report_more : (report₀ report : List ℕ) (at : ℕ) (H g : List ℕ) (at' : ℕ) → at ≡ length H → report ≡ H ++ drop at report₀ → at' ≡ at + length g
    → take at report ++ (g ++ drop at' report) ≡ (H ++ g) ++ drop at' report₀
report_more report₀ report at H g at' eb er eb' =
    let a : take at report ≡ H = ap (take at) er ∙ take_at H (drop at report₀) at (sym eb) in
    let d : drop at' report ≡ drop at' report₀ =
    ap (λ (k : ℕ). drop k report) (eb' ∙ ap (λ (k : ℕ). k + length g) eb)
    ∙ ap (drop (length H + length g)) er
    ∙ drop-append-add H (drop at report₀) (length g)
    ∙ drop-drop (length g) at report₀ ∙ ap (λ (k : ℕ). drop k report₀) (sym eb') in
    ap (λ (l : List ℕ). l ++ (g ++ drop at' report)) a ∙ ap (λ (l : List ℕ). H ++ (g ++ l)) d ∙ sym (append_assoc H g (drop at' report₀))

pub keeps_more : (report₀ report report' h : List ℕ) (at at' : ℕ) → at < length report → at' ≡ at + length h → report' ≡ take at report ++ (h ++ drop at' report)
    → drop at report ≡ drop at report₀ → drop at' report' ≡ drop at' report₀
keeps_more report₀ report report' h at at' i eb er k =
    let l : length (take at report) ≡ at = length-take-le at report (omega arith) in
    ap (drop at') er
    ∙ ap (λ (x : ℕ). drop x (take at report ++ (h ++ drop at' report))) (eb ∙ ap (λ (x : ℕ). x + length h) (sym l))
    ∙ drop-append-add (take at report) (h ++ drop at' report) (length h)
    ∙ drop_at h (drop at' report) (length h) refl
    ∙ ap (λ (x : ℕ). drop x report) eb ∙ sym (drop-drop (length h) at report)
    ∙ ap (drop (length h)) k
    ∙ drop-drop (length h) at report₀ ∙ ap (λ (x : ℕ). drop x report₀) (sym eb)
