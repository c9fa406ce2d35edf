-- Where in a text something ends that was read at a position of it: what the functions over positions promise.
use Rattle.std.specs.Prelude.{ℕ, ◌+◌, ◌≤◌, ◌≡◌, Option, Some, None, List, length, drop}
use Rattle.notation.specs.Notation.{End}
use Rattle.notation.specs.Reading.{Got, none, got, expect, Token, flag_token, negate_token, open_token, forall_token, read_flag, read_forall}
use Rattle.text_pieces.specs.declared.pieces.Piece.{Piece}
use Rattle.text_pieces.specs.declared.pieces.Piece.TheVariants.{Flag, Negate, Open, Forall}

-- A position is answered where something was read, and none where nothing was.
abbrev pub Found : {A : Type 0} → List ℕ → Option ℕ → Got A → Type 0
Found text None none = Unit {0}
Found text None (got value rest) = ⊥
Found text (Some end) none = ⊥
Found text (Some end) (got value rest) = (1 ≤ end) × (end ≤ length text) × (rest ≡ drop end text)

-- A fixed word at the start of a text.
abbrev pub word_read : List ℕ → List ℕ → Got (Unit {0})
word_read word text = expect word text (λ rest. got tt rest)

-- A flag whose name stands at a position, and a quantifier whose name stands there: `token` is what was read, and the text goes on at `end`.
pub record FlagAt (text : List ℕ) (at end : ℕ) (token : Got Token) : Type 0 where
  pub inside : end ≤ length text
  pub name : List ℕ
  pub digit : ℕ
  pub is : token ≡ got (flag_token name digit) (drop end text)
  pub named : read_flag (drop at text) ≡ got (flag_token name digit) (drop end text)

pub record ForallAt (text : List ℕ) (at end : ℕ) (token : Got Token) : Type 0 where
  pub inside : end ≤ length text
  pub name : List ℕ
  pub first : End
  pub second : End
  pub is : token ≡ got (forall_token name first second) (drop end text)
  pub named : read_forall (drop at text) ≡ got (forall_token name first second) (drop end text)

-- The start of the formula at a position, and the position after it.
abbrev pub Pieced : List ℕ → ℕ → Option Piece → Got Token → Type 0
Pieced text at None token = token ≡ none
Pieced text at (Some (Flag end)) token = FlagAt text (at + 1) end token
Pieced text at (Some (Negate end)) token = (end ≤ length text) × (token ≡ got negate_token (drop end text))
Pieced text at (Some (Open end)) token = (end ≤ length text) × (token ≡ got open_token (drop end text))
Pieced text at (Some (Forall end)) token = ForallAt text (at + 7) end token
