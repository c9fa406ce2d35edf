-- A question about a flag: refused with 7 if it is above 7, and answered if not.
use mathlib.Core.Path.{◌≡◌, sym, ap}
use mathlib.Core.Bool.{Bool, cond}
use Prim.Native.Nat.{ℕ, ◌≤◌, ◌<◌}
use borrow.Author.Tests.{lt-ltb, le-ltb}
use Rattle.refusal.specs.Answer.{refused, accepted}
use Rattle.calendar_questions.specs.Answers.{of_flag}

pub no_flag : {A : Type 0} (k : ℕ) (a : A) → 7 < k → refused 7 ≡ of_flag k a
unfolding of_flag
no_flag k a h = ap (λ (t : Bool). cond t (refused 7) (accepted a)) (sym (lt-ltb 7 k h))

pub a_flag : {A : Type 0} (k : ℕ) (a : A) → k ≤ 7 → accepted a ≡ of_flag k a
unfolding of_flag
a_flag k a h = ap (λ (t : Bool). cond t (refused 7) (accepted a)) (sym (le-ltb 7 k h))
