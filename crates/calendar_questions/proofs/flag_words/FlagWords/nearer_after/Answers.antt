-- `calendar_questions::FlagWords::nearer_after` meets its contract: a tick as far from t as p, or farther, is not nearer.
use mathlib.Core.Path.{◌≡◌, ap₂, ◌∙◌}
use mathlib.Core.Bool.{Bool}
use Prim.Native.Nat.{ℕ, suc, ◌+◌, ◌-◌, min}
use native.Mathlib.Omega.{arith}
use Rattle.std.specs.Prelude.{Option}
use Rattle.calendar.specs.Search.{earliest}
use Rattle.calendar.specs.Calendar.{kept, up_at}
use Rattle.calendar_questions.proofs.Nearness.{nearer_cut}
use Rattle.calendar_questions.proofs.flag_words.FlagWords.nearer_after.Goals as goal

-- what was sought: the first up after t, and nearer to it than p
sought : (f : ℕ → Bool) (t p n end : ℕ) (o : Option ℕ) → o ≡ earliest f (t + 1) (end - (t + 1)) → end ≡ min n (t + (t - p))
    → o ≡ earliest f (suc t) (min n (t + (t - p)) - suc t)
sought f t p n end o e l = e ∙ ap₂ (λ (x y : ℕ). earliest f x (y - x)) (omega arith) l

pub returns : goal.returns
returns c =
    let f = up_at c.args.self.now.words.now c.args.self.now.flag in
    let n = kept c.args.self.now.words.now in
    c.or.ensures
    ∙ nearer_cut f c.args.t c.args.p n c.requires.0 c.earliest.result
    (sought f c.args.t c.args.p n c.nearer_end-end.result c.earliest.result c.earliest.ensures (omega arith))
