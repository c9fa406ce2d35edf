-- `calendar_questions::FlagWords::nearest` meets its contract: the nearest is the last up to t, or the first after it.
use mathlib.Core.Path.{◌≡◌, sym, ap, ap₂, ◌∙◌}
use mathlib.Core.Bool.{Bool}
use Prim.Native.Nat.{ℕ, suc, ◌+◌, ◌-◌}
use native.Mathlib.Omega.{arith}
use Rattle.std.specs.Prelude.{Option, Some, None}
use Rattle.calendar.specs.Search.{earliest, latest, nearer}
use Rattle.calendar.specs.Calendar.{kept, up_at, nearest_up}
use Rattle.calendar_questions.proofs.Nearness.{up_to, both_sides, last_before}
use Rattle.calendar_questions.proofs.flag_words.FlagWords.nearest.Goals as goal

-- what was sought first: the last up to t
sought : (f : ℕ → Bool) (t : ℕ) (o : Option ℕ) → o ≡ latest f 0 (t + 1 - 0) → latest f 0 (suc t) ≡ o
sought f t o e = sym (e ∙ ap (latest f 0) (omega arith))

pub returns-then-end-t : goal.returns-then-end-t
unfolding nearest_up
returns-then-end-t c =
    let f = up_at c.args.self.now.words.now c.args.self.now.flag in
    c.latest.ensures ∙ ap (latest f 0) (omega arith) ∙ sym (up_to f c.args.t (kept c.args.self.now.words.now) (omega arith))

pub nearer_after-requires : goal.nearer_after-requires
nearer_after-requires c =
    let f = up_at c.args.self.now.words.now c.args.self.now.flag in (
      last_before f c.args.t c.in-Some.p (sought f c.args.t c.latest-2.result c.latest-2.ensures ∙ c.in-Some.is),
      omega arith,
    )

pub returns-in-Some : goal.returns-in-Some
unfolding nearest_up
returns-in-Some c =
    let f = up_at c.args.self.now.words.now c.args.self.now.flag in
    c.nearer_after.ensures
    ∙ both_sides f c.args.t (kept c.args.self.now.words.now) (Some c.in-Some.p) (omega arith)
    (sought f c.args.t c.latest-2.result c.latest-2.ensures ∙ c.in-Some.is)

pub returns-in-None : goal.returns-in-None
unfolding nearest_up nearer
returns-in-None c =
    let f = up_at c.args.self.now.words.now c.args.self.now.flag in
    c.earliest.ensures ∙ ap₂ (λ (x y : ℕ). earliest f x (y - x)) (omega arith) (omega arith)
    ∙ both_sides f c.args.t (kept c.args.self.now.words.now) None (omega arith)
    (sought f c.args.t c.latest-2.result c.latest-2.ensures ∙ c.in-None.is)
