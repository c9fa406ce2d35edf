-- Writing the body without recursion: what is still to come of a text. A frame is a bracket whose second part is being read, a
-- quantifier whose formula is being read, or a bracket whose first part is being read and whose code is to stand at a byte of the body.
use Rattle.std.specs.Prelude.{ℕ, zero, suc, Option, Some, None, length, Bool, cond, ◌&&◌, List, [], ◌∷◌, ◌++◌, drop, get_or, set}
use Rattle.text_to_body.specs.declared.cursor.Frame.{Frame}
use Rattle.text_to_body.specs.declared.cursor.Frame.TheVariants.{Second, Range, First}
use Rattle.text_to_body.specs.declared.scope.Scope.{Scope}
use Rattle.refusal.specs.Answer.{Answer, refused}
use Rattle.notation.specs.Notation.{letter}
use Rattle.notation.specs.Reading.{Got, none, got, starts, run, joint, formula_read}
use Rattle.notation.specs.Bodies.{if_bound, joint_code, formula_bytes, all_bound}

unfoldable pub read_on : {A : Type 0} → Got A → (A → List ℕ → Answer (List ℕ)) → Answer (List ℕ)
read_on none next = refused 25
read_on (got value rest) next = next value rest

unfoldable pub close_with : (List ℕ → Answer (List ℕ)) → List ℕ → Answer (List ℕ)
close_with next text = cond (starts (41 ∷ []) text) (next (drop 1 text)) (refused 25)

unfoldable pub finish : List ℕ → Bool → List ℕ → Answer (List ℕ)
finish bytes resolved [] = if_bound resolved bytes
finish bytes resolved (byte ∷ rest) = refused 25

-- What comes next, from the names in scope, the bytes so far, whether all names so far are bound, and the text.
abbrev pub Next : Type 0
Next = List (List ℕ) → List ℕ → Bool → List ℕ → Answer (List ℕ)

unfoldable pub resume_frame : Next → Frame → Next
resume_frame next Second scope bytes resolved text = close_with (next scope bytes resolved) text
resume_frame next Range scope bytes resolved text = next (drop 1 scope) bytes resolved text
resume_frame next (First at) scope bytes resolved text =
    read_on (joint text) (λ connective after. read_on (formula_read after) (λ G rest.
    close_with (next scope (set bytes at (joint_code connective) ++ formula_bytes scope G) (resolved && all_bound scope G)) rest))

-- After a formula.
unfoldable pub after_formula : ℕ → List Frame → Next
after_formula zero frames scope bytes resolved text = finish bytes resolved text
after_formula (suc inner) frames scope bytes resolved text = resume_frame (after_formula inner frames) (get_or frames inner Second) scope bytes resolved text

-- Before a formula.
unfoldable pub before_formula : ℕ → List Frame → Next
before_formula opened frames scope bytes resolved text =
    read_on (formula_read text) (λ F rest. after_formula opened frames scope (bytes ++ formula_bytes scope F) (resolved && all_bound scope F) rest)

-- The names in scope, from the positions where they stand in the text.
unfoldable pub scope_of : List ℕ → List ℕ → ℕ → List (List ℕ)
scope_of text names zero = []
scope_of text names (suc outer) = run letter (drop (get_or names outer 0) text) ∷ scope_of text names outer

-- .. of a scope.
abbrev pub in_scope : Scope → List (List ℕ)
in_scope scope = scope_of scope.text.now scope.names.now (length scope.names.now)

-- What was sought, as `seek` of the notation has it: a variable plus 1, or 0.
abbrev pub sought : Option ℕ → ℕ
sought None = 0
sought (Some variable) = suc variable
