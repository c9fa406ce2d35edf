-- What a question to the calendar answers: "A flag above 7 gets 7."
use Rattle.std.specs.Prelude.{ℕ, cond, ltb}
use Rattle.refusal.specs.Answer.{Answer, refused, accepted}

-- A question about flag k that has this answer.
unfoldable pub of_flag : {A : Type 0} → ℕ → A → Answer A
of_flag k answer = cond (ltb 7 k) (refused 7) (accepted answer)
