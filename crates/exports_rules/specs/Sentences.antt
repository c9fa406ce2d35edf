-- A refusal's sentence in a lent buffer, with a byte 0 after it, as C ends a text.
use Rattle.std.specs.Prelude.{ℕ, ◌+◌, cond, List, ◌∷◌, ◌++◌, ltb, length, drop}
use Rattle.refusal.specs.Answer.{Answer, refused, accepted}
use Rattle.refusal_text.specs.Sentences.{sentence_of}

-- The sentence's length, without the 0; refused by 22 where the buffer has no room for both.
unfoldable pub sentence_length : ℕ → ℕ → Answer ℕ
sentence_length number room = cond (ltb (length (sentence_of number)) room) (accepted (length (sentence_of number))) (refused 22)

-- What the buffer holds then: the bytes after the 0 are those that it held before.
unfoldable pub with_sentence : ℕ → List ℕ → List ℕ
with_sentence number out = cond (ltb (length (sentence_of number)) (length out)) (sentence_of number ++ (0 ∷ drop (length (sentence_of number) + 1) out)) out
