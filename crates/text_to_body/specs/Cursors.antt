-- A cursor in a text: what will be answered from there, and what a step does.
use Rattle.std.specs.Prelude.{ℕ, suc, ◌+◌, ◌-◌, ◌*◌, ◌≤◌, ◌<◌, ◌≡◌, Option, Some, None, Bool, List, length, drop, take}
use Rattle.refusal.specs.Answer.{Answer, refused, accepted}
use Rattle.notation.specs.Bodies.{if_bound, translated, length_of}
use Rattle.text_to_body.specs.Work.{before_formula, after_formula, scope_of}
use Rattle.text_to_body.specs.declared.cursor.Cursor.{Cursor}
use Rattle.text_to_body.specs.declared.cursor.Frame.{Frame}
use Rattle.text_to_body.specs.declared.cursor.Work.{Work}
use Rattle.text_to_body.specs.declared.cursor.Mode.{Mode}
use Rattle.text_to_body.specs.declared.cursor.Mode.TheVariants.{Before, After, Whole}

-- By what comes next: a formula, what follows one, or nothing.
unfoldable pub to_come : Mode → ℕ → List Frame → List (List ℕ) → List ℕ → Bool → List ℕ → Answer (List ℕ)
to_come Before opened frames scope bytes resolved text = before_formula opened frames scope bytes resolved text
to_come After opened frames scope bytes resolved text = after_formula opened frames scope bytes resolved text
to_come Whole opened frames scope bytes resolved text = if_bound resolved bytes

-- What will be answered, from the text, the open frames, where the names in scope stand, the bytes written and the cursor.
abbrev pub answer_at : List ℕ → List Frame → List ℕ → List ℕ → Cursor → Answer (List ℕ)
answer_at text frames names out cursor =
    to_come cursor.mode cursor.opened frames (scope_of text names cursor.scope) (take cursor.written out) cursor.resolved
    (drop cursor.at text)

-- How far it is to the end: each step reads a byte or takes a frame away, and opens one frame at most.
unfoldable pub way : Mode → ℕ → ℕ
way Before far = suc far
way After far = suc far
way Whole far = 0

abbrev pub left : List ℕ → Cursor → ℕ
left text cursor = way cursor.mode (2 * (length text - cursor.at) + cursor.opened)

-- A frame takes at least one byte of text, and so does a byte of the body. A name takes 19, the rule's own 12; that is 16 each after 4 more, so that
-- 256 names are enough.
pub record CursorFits (text : List ℕ) (cursor : Cursor) : Type 0 where
  pub place : cursor.at ≤ length text
  pub frames_fit : cursor.opened ≤ cursor.at
  pub bytes_fit : cursor.written ≤ cursor.at
  pub names_fit : 16 * cursor.scope ≤ cursor.at + 4

-- What a step does: the answer stays, the way is shorter, and the cursor stays within the text.
pub record Moved (text : List ℕ) (frames : List Frame) (names out : List ℕ) (cursor : Cursor) (frames' : List Frame) (names' out' : List ℕ) (cursor' : Cursor) : Type 0 where
  pub same_answer : answer_at text frames names out cursor ≡ answer_at text frames' names' out' cursor'
  pub shorter : left text cursor' < left text cursor
  pub within : CursorFits text cursor'

-- .. where the text isn't misspelt there.
abbrev pub Goes : List ℕ → List Frame → List ℕ → List ℕ → Cursor → List Frame → List ℕ → List ℕ → Option Cursor → Type 0
Goes text frames names out cursor frames' names' out' None = answer_at text frames names out cursor ≡ refused 25
Goes text frames names out cursor frames' names' out' (Some cursor') = Moved text frames names out cursor frames' names' out' cursor'

-- A step of the code, which leaves the text and the memory's length as they were.
pub record Stepped (work : Work) (cursor : Cursor) (work' : Work) (result : Option Cursor) : Type 0 where
  pub same_text : work'.text.now ≡ work.text.now
  pub same_room : length work'.bytes ≡ length work.bytes
  pub goes : Goes work.text.now work.frames work.names work.bytes cursor work'.frames work'.names work'.bytes result

-- Past the last step, where `due` is what was to be answered: no cursor where the text is misspelt.
abbrev pub Reached : Answer (List ℕ) → List ℕ → Option Cursor → Type 0
Reached due out None = due ≡ refused 25
Reached due out (Some cursor) = (due ≡ if_bound cursor.resolved (take cursor.written out)) × (cursor.written ≤ length out)

-- A text's body stands at the start of `out`, if it has one; so many bytes, or 25 or 26, are answered.
pub record Translated (text : List ℕ) (answered : Answer ℕ) (out : List ℕ) : Type 0 where
  pub answer : answered ≡ length_of (translated text)
  pub bytes : (body : List ℕ) → translated text ≡ accepted body → take (length body) out ≡ body
  pub room : (body : List ℕ) → translated text ≡ accepted body → length body ≤ length out
