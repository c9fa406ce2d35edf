-- Worked examples by computation: texts with their bodies or refusals, and bodies with their texts.
use mathlib.Core.Path.{◌≡◌, refl}
use mathlib.Core.List.{[], ◌∷◌}
use Rattle.refusal.specs.Answer.{refused, accepted, and_then}
use Rattle.words.specs.Words.{word}
use Rattle.rule.specs.Body as rules
use Rattle.notation.specs.Notation.{between, all, same, reserved, is_name, is_numeral, base_text, offset_text, end_text, formula_text, text}
use Rattle.notation.specs.Reading.{and_read, starts, expect, run, past, read_name, read_numeral, one_digit, read_base, read_offset, read_end, flag_digit, flag_point, read_flag, forall_colon, forall_second, forall_to, forall_first, forall_range, read_forall, read_token, joint, joined, second, read_parts, read_formula, formula_read, rule_colon, rule_name, rule_head, rule_at, whole_text, reading}
use Rattle.notation.specs.Bodies.{seek, is_bound, variable_byte, value_on, offset_word, base_bytes, word_bytes, end_bytes, flag_bytes, forall_bytes, formula_bytes, base_bound, end_bound, all_bound, named_body, translated, checked, fitted, body_of_text}
use Rattle.notation.specs.Printing.{variable_name, digits, offset_named, end_named, named, rule_named, text_of_body}

-- What body-of-text answers for a text and a buffer of so many bytes.
record Bodies : Type 0 where
  -- "monitor x : ~(@x.0 /\ forall y in x-1..x+2 : @y.0)": the rule of 01's proving ground, with the bytes printed there
  text_1 : body_of_text (109 ∷ 111 ∷ 110 ∷ 105 ∷ 116 ∷ 111 ∷ 114 ∷ 32 ∷ 120 ∷ 32 ∷ 58 ∷ 32 ∷ 126 ∷ 40 ∷ 64 ∷ 120 ∷ 46 ∷ 48 ∷ 32 ∷ 47 ∷ 92 ∷ 32 ∷ 102 ∷ 111 ∷ 114 ∷ 97 ∷ 108 ∷ 108 ∷ 32 ∷ 121 ∷ 32 ∷ 105 ∷ 110 ∷ 32 ∷ 120 ∷ 45 ∷ 49 ∷ 46 ∷ 46 ∷ 120 ∷ 43 ∷ 50 ∷ 32 ∷ 58 ∷ 32 ∷ 64 ∷ 121 ∷ 46 ∷ 48 ∷ 41 ∷ []) 512 ≡ accepted (2 ∷ 4 ∷ 1 ∷ 0 ∷ 0 ∷ 5 ∷ 2 ∷ 0 ∷ 255 ∷ 255 ∷ 2 ∷ 0 ∷ 2 ∷ 0 ∷ 1 ∷ 1 ∷ 0 ∷ [])
  -- "monitor x : (@x.0 && ~@x.1)"
  text_2 : body_of_text (109 ∷ 111 ∷ 110 ∷ 105 ∷ 116 ∷ 111 ∷ 114 ∷ 32 ∷ 120 ∷ 32 ∷ 58 ∷ 32 ∷ 40 ∷ 64 ∷ 120 ∷ 46 ∷ 48 ∷ 32 ∷ 38 ∷ 38 ∷ 32 ∷ 126 ∷ 64 ∷ 120 ∷ 46 ∷ 49 ∷ 41 ∷ []) 512 ≡ accepted (3 ∷ 1 ∷ 0 ∷ 0 ∷ 2 ∷ 1 ∷ 0 ∷ 1 ∷ [])
  -- "monitor x : forall x in 0+5..infinity : @x.7": the inner name hides the outer one
  text_3 : body_of_text (109 ∷ 111 ∷ 110 ∷ 105 ∷ 116 ∷ 111 ∷ 114 ∷ 32 ∷ 120 ∷ 32 ∷ 58 ∷ 32 ∷ 102 ∷ 111 ∷ 114 ∷ 97 ∷ 108 ∷ 108 ∷ 32 ∷ 120 ∷ 32 ∷ 105 ∷ 110 ∷ 32 ∷ 48 ∷ 43 ∷ 53 ∷ 46 ∷ 46 ∷ 105 ∷ 110 ∷ 102 ∷ 105 ∷ 110 ∷ 105 ∷ 116 ∷ 121 ∷ 32 ∷ 58 ∷ 32 ∷ 64 ∷ 120 ∷ 46 ∷ 55 ∷ []) 512 ≡ accepted (5 ∷ 0 ∷ 0 ∷ 5 ∷ 0 ∷ 1 ∷ 0 ∷ 0 ∷ 0 ∷ 1 ∷ 1 ∷ 7 ∷ [])
  -- "monitor x : forall x in x-1..x+2 : @x.0": bounds see the outer name
  text_4 : body_of_text (109 ∷ 111 ∷ 110 ∷ 105 ∷ 116 ∷ 111 ∷ 114 ∷ 32 ∷ 120 ∷ 32 ∷ 58 ∷ 32 ∷ 102 ∷ 111 ∷ 114 ∷ 97 ∷ 108 ∷ 108 ∷ 32 ∷ 120 ∷ 32 ∷ 105 ∷ 110 ∷ 32 ∷ 120 ∷ 45 ∷ 49 ∷ 46 ∷ 46 ∷ 120 ∷ 43 ∷ 50 ∷ 32 ∷ 58 ∷ 32 ∷ 64 ∷ 120 ∷ 46 ∷ 48 ∷ []) 512 ≡ accepted (5 ∷ 2 ∷ 0 ∷ 255 ∷ 255 ∷ 2 ∷ 0 ∷ 2 ∷ 0 ∷ 1 ∷ 1 ∷ 0 ∷ [])
  -- "monitor abcdefgh : forall y in abcdefgh-0..infinity+0 : forall z in y+0001..abcdefgh+4095 : @z.0": eight letters, offsets 0, four digits
  text_5 : body_of_text (109 ∷ 111 ∷ 110 ∷ 105 ∷ 116 ∷ 111 ∷ 114 ∷ 32 ∷ 97 ∷ 98 ∷ 99 ∷ 100 ∷ 101 ∷ 102 ∷ 103 ∷ 104 ∷ 32 ∷ 58 ∷ 32 ∷ 102 ∷ 111 ∷ 114 ∷ 97 ∷ 108 ∷ 108 ∷ 32 ∷ 121 ∷ 32 ∷ 105 ∷ 110 ∷ 32 ∷ 97 ∷ 98 ∷ 99 ∷ 100 ∷ 101 ∷ 102 ∷ 103 ∷ 104 ∷ 45 ∷ 48 ∷ 46 ∷ 46 ∷ 105 ∷ 110 ∷ 102 ∷ 105 ∷ 110 ∷ 105 ∷ 116 ∷ 121 ∷ 43 ∷ 48 ∷ 32 ∷ 58 ∷ 32 ∷ 102 ∷ 111 ∷ 114 ∷ 97 ∷ 108 ∷ 108 ∷ 32 ∷ 122 ∷ 32 ∷ 105 ∷ 110 ∷ 32 ∷ 121 ∷ 43 ∷ 48 ∷ 48 ∷ 48 ∷ 49 ∷ 46 ∷ 46 ∷ 97 ∷ 98 ∷ 99 ∷ 100 ∷ 101 ∷ 102 ∷ 103 ∷ 104 ∷ 43 ∷ 52 ∷ 48 ∷ 57 ∷ 53 ∷ 32 ∷ 58 ∷ 32 ∷ 64 ∷ 122 ∷ 46 ∷ 48 ∷ []) 512 ≡ accepted (5 ∷ 2 ∷ 0 ∷ 0 ∷ 0 ∷ 1 ∷ 0 ∷ 0 ∷ 0 ∷ 5 ∷ 2 ∷ 1 ∷ 1 ∷ 0 ∷ 2 ∷ 0 ∷ 255 ∷ 15 ∷ 1 ∷ 2 ∷ 0 ∷ [])
  -- ""
  text_6 : body_of_text ([]) 512 ≡ refused 25
  -- "monitor x : @x.0 ": a blank at the end
  text_7 : body_of_text (109 ∷ 111 ∷ 110 ∷ 105 ∷ 116 ∷ 111 ∷ 114 ∷ 32 ∷ 120 ∷ 32 ∷ 58 ∷ 32 ∷ 64 ∷ 120 ∷ 46 ∷ 48 ∷ 32 ∷ []) 512 ≡ refused 25
  -- "monitor x : @x.0\n": a newline at the end
  text_8 : body_of_text (109 ∷ 111 ∷ 110 ∷ 105 ∷ 116 ∷ 111 ∷ 114 ∷ 32 ∷ 120 ∷ 32 ∷ 58 ∷ 32 ∷ 64 ∷ 120 ∷ 46 ∷ 48 ∷ 10 ∷ []) 512 ≡ refused 25
  -- "monitor x :  @x.0": two blanks
  text_9 : body_of_text (109 ∷ 111 ∷ 110 ∷ 105 ∷ 116 ∷ 111 ∷ 114 ∷ 32 ∷ 120 ∷ 32 ∷ 58 ∷ 32 ∷ 32 ∷ 64 ∷ 120 ∷ 46 ∷ 48 ∷ []) 512 ≡ refused 25
  -- "monitor monitor : @monitor.0"
  text_10 : body_of_text (109 ∷ 111 ∷ 110 ∷ 105 ∷ 116 ∷ 111 ∷ 114 ∷ 32 ∷ 109 ∷ 111 ∷ 110 ∷ 105 ∷ 116 ∷ 111 ∷ 114 ∷ 32 ∷ 58 ∷ 32 ∷ 64 ∷ 109 ∷ 111 ∷ 110 ∷ 105 ∷ 116 ∷ 111 ∷ 114 ∷ 46 ∷ 48 ∷ []) 512 ≡ refused 25
  -- "monitor forall : @forall.0"
  text_11 : body_of_text (109 ∷ 111 ∷ 110 ∷ 105 ∷ 116 ∷ 111 ∷ 114 ∷ 32 ∷ 102 ∷ 111 ∷ 114 ∷ 97 ∷ 108 ∷ 108 ∷ 32 ∷ 58 ∷ 32 ∷ 64 ∷ 102 ∷ 111 ∷ 114 ∷ 97 ∷ 108 ∷ 108 ∷ 46 ∷ 48 ∷ []) 512 ≡ refused 25
  -- "monitor in : @in.0"
  text_12 : body_of_text (109 ∷ 111 ∷ 110 ∷ 105 ∷ 116 ∷ 111 ∷ 114 ∷ 32 ∷ 105 ∷ 110 ∷ 32 ∷ 58 ∷ 32 ∷ 64 ∷ 105 ∷ 110 ∷ 46 ∷ 48 ∷ []) 512 ≡ refused 25
  -- "monitor infinity : @infinity.0"
  text_13 : body_of_text (109 ∷ 111 ∷ 110 ∷ 105 ∷ 116 ∷ 111 ∷ 114 ∷ 32 ∷ 105 ∷ 110 ∷ 102 ∷ 105 ∷ 110 ∷ 105 ∷ 116 ∷ 121 ∷ 32 ∷ 58 ∷ 32 ∷ 64 ∷ 105 ∷ 110 ∷ 102 ∷ 105 ∷ 110 ∷ 105 ∷ 116 ∷ 121 ∷ 46 ∷ 48 ∷ []) 512 ≡ refused 25
  -- "monitor abcdefghi : @abcdefghi.0": nine letters
  text_14 : body_of_text (109 ∷ 111 ∷ 110 ∷ 105 ∷ 116 ∷ 111 ∷ 114 ∷ 32 ∷ 97 ∷ 98 ∷ 99 ∷ 100 ∷ 101 ∷ 102 ∷ 103 ∷ 104 ∷ 105 ∷ 32 ∷ 58 ∷ 32 ∷ 64 ∷ 97 ∷ 98 ∷ 99 ∷ 100 ∷ 101 ∷ 102 ∷ 103 ∷ 104 ∷ 105 ∷ 46 ∷ 48 ∷ []) 512 ≡ refused 25
  -- "monitor x : forall y in 00..x : @y.0"
  text_15 : body_of_text (109 ∷ 111 ∷ 110 ∷ 105 ∷ 116 ∷ 111 ∷ 114 ∷ 32 ∷ 120 ∷ 32 ∷ 58 ∷ 32 ∷ 102 ∷ 111 ∷ 114 ∷ 97 ∷ 108 ∷ 108 ∷ 32 ∷ 121 ∷ 32 ∷ 105 ∷ 110 ∷ 32 ∷ 48 ∷ 48 ∷ 46 ∷ 46 ∷ 120 ∷ 32 ∷ 58 ∷ 32 ∷ 64 ∷ 121 ∷ 46 ∷ 48 ∷ []) 512 ≡ refused 25
  -- "monitor x : forall y in x-10000..x : @y.0": five digits
  text_16 : body_of_text (109 ∷ 111 ∷ 110 ∷ 105 ∷ 116 ∷ 111 ∷ 114 ∷ 32 ∷ 120 ∷ 32 ∷ 58 ∷ 32 ∷ 102 ∷ 111 ∷ 114 ∷ 97 ∷ 108 ∷ 108 ∷ 32 ∷ 121 ∷ 32 ∷ 105 ∷ 110 ∷ 32 ∷ 120 ∷ 45 ∷ 49 ∷ 48 ∷ 48 ∷ 48 ∷ 48 ∷ 46 ∷ 46 ∷ 120 ∷ 32 ∷ 58 ∷ 32 ∷ 64 ∷ 121 ∷ 46 ∷ 48 ∷ []) 512 ≡ refused 25
  -- "monitor x : (@y.0 && @x.0": misspelt, before the name that is not bound
  text_17 : body_of_text (109 ∷ 111 ∷ 110 ∷ 105 ∷ 116 ∷ 111 ∷ 114 ∷ 32 ∷ 120 ∷ 32 ∷ 58 ∷ 32 ∷ 40 ∷ 64 ∷ 121 ∷ 46 ∷ 48 ∷ 32 ∷ 38 ∷ 38 ∷ 32 ∷ 64 ∷ 120 ∷ 46 ∷ 48 ∷ []) 512 ≡ refused 25
  -- "monitor x : @y.0"
  text_18 : body_of_text (109 ∷ 111 ∷ 110 ∷ 105 ∷ 116 ∷ 111 ∷ 114 ∷ 32 ∷ 120 ∷ 32 ∷ 58 ∷ 32 ∷ 64 ∷ 121 ∷ 46 ∷ 48 ∷ []) 512 ≡ refused 26
  -- "monitor x : forall y in y..x : @y.0": bounds do not see their own quantifier's name
  text_19 : body_of_text (109 ∷ 111 ∷ 110 ∷ 105 ∷ 116 ∷ 111 ∷ 114 ∷ 32 ∷ 120 ∷ 32 ∷ 58 ∷ 32 ∷ 102 ∷ 111 ∷ 114 ∷ 97 ∷ 108 ∷ 108 ∷ 32 ∷ 121 ∷ 32 ∷ 105 ∷ 110 ∷ 32 ∷ 121 ∷ 46 ∷ 46 ∷ 120 ∷ 32 ∷ 58 ∷ 32 ∷ 64 ∷ 121 ∷ 46 ∷ 48 ∷ []) 512 ≡ refused 26
  -- "monitor x : (forall y in x..x : @y.0 && @y.0)": out of scope
  text_20 : body_of_text (109 ∷ 111 ∷ 110 ∷ 105 ∷ 116 ∷ 111 ∷ 114 ∷ 32 ∷ 120 ∷ 32 ∷ 58 ∷ 32 ∷ 40 ∷ 102 ∷ 111 ∷ 114 ∷ 97 ∷ 108 ∷ 108 ∷ 32 ∷ 121 ∷ 32 ∷ 105 ∷ 110 ∷ 32 ∷ 120 ∷ 46 ∷ 46 ∷ 120 ∷ 32 ∷ 58 ∷ 32 ∷ 64 ∷ 121 ∷ 46 ∷ 48 ∷ 32 ∷ 38 ∷ 38 ∷ 32 ∷ 64 ∷ 121 ∷ 46 ∷ 48 ∷ 41 ∷ []) 512 ≡ refused 26
  -- "monitor x : (@x.8 && @y.0)": before the flag 8
  text_21 : body_of_text (109 ∷ 111 ∷ 110 ∷ 105 ∷ 116 ∷ 111 ∷ 114 ∷ 32 ∷ 120 ∷ 32 ∷ 58 ∷ 32 ∷ 40 ∷ 64 ∷ 120 ∷ 46 ∷ 56 ∷ 32 ∷ 38 ∷ 38 ∷ 32 ∷ 64 ∷ 121 ∷ 46 ∷ 48 ∷ 41 ∷ []) 512 ≡ refused 26
  -- "monitor x : @x.8": before the buffer
  text_22 : body_of_text (109 ∷ 111 ∷ 110 ∷ 105 ∷ 116 ∷ 111 ∷ 114 ∷ 32 ∷ 120 ∷ 32 ∷ 58 ∷ 32 ∷ 64 ∷ 120 ∷ 46 ∷ 56 ∷ []) 0 ≡ refused 7
  -- "monitor x : forall y in x..x+4096 : @y.0"
  text_23 : body_of_text (109 ∷ 111 ∷ 110 ∷ 105 ∷ 116 ∷ 111 ∷ 114 ∷ 32 ∷ 120 ∷ 32 ∷ 58 ∷ 32 ∷ 102 ∷ 111 ∷ 114 ∷ 97 ∷ 108 ∷ 108 ∷ 32 ∷ 121 ∷ 32 ∷ 105 ∷ 110 ∷ 32 ∷ 120 ∷ 46 ∷ 46 ∷ 120 ∷ 43 ∷ 52 ∷ 48 ∷ 57 ∷ 54 ∷ 32 ∷ 58 ∷ 32 ∷ 64 ∷ 121 ∷ 46 ∷ 48 ∷ []) 512 ≡ refused 8
  -- "monitor x : forall y in x..infinity+1 : @y.0"
  text_24 : body_of_text (109 ∷ 111 ∷ 110 ∷ 105 ∷ 116 ∷ 111 ∷ 114 ∷ 32 ∷ 120 ∷ 32 ∷ 58 ∷ 32 ∷ 102 ∷ 111 ∷ 114 ∷ 97 ∷ 108 ∷ 108 ∷ 32 ∷ 121 ∷ 32 ∷ 105 ∷ 110 ∷ 32 ∷ 120 ∷ 46 ∷ 46 ∷ 105 ∷ 110 ∷ 102 ∷ 105 ∷ 110 ∷ 105 ∷ 116 ∷ 121 ∷ 43 ∷ 49 ∷ 32 ∷ 58 ∷ 32 ∷ 64 ∷ 121 ∷ 46 ∷ 48 ∷ []) 512 ≡ refused 24
  -- "monitor x : forall a in x..x : forall b in x..x : forall c in x..x : forall d in x..x : forall e in x..x : @x.0"
  text_25 : body_of_text (109 ∷ 111 ∷ 110 ∷ 105 ∷ 116 ∷ 111 ∷ 114 ∷ 32 ∷ 120 ∷ 32 ∷ 58 ∷ 32 ∷ 102 ∷ 111 ∷ 114 ∷ 97 ∷ 108 ∷ 108 ∷ 32 ∷ 97 ∷ 32 ∷ 105 ∷ 110 ∷ 32 ∷ 120 ∷ 46 ∷ 46 ∷ 120 ∷ 32 ∷ 58 ∷ 32 ∷ 102 ∷ 111 ∷ 114 ∷ 97 ∷ 108 ∷ 108 ∷ 32 ∷ 98 ∷ 32 ∷ 105 ∷ 110 ∷ 32 ∷ 120 ∷ 46 ∷ 46 ∷ 120 ∷ 32 ∷ 58 ∷ 32 ∷ 102 ∷ 111 ∷ 114 ∷ 97 ∷ 108 ∷ 108 ∷ 32 ∷ 99 ∷ 32 ∷ 105 ∷ 110 ∷ 32 ∷ 120 ∷ 46 ∷ 46 ∷ 120 ∷ 32 ∷ 58 ∷ 32 ∷ 102 ∷ 111 ∷ 114 ∷ 97 ∷ 108 ∷ 108 ∷ 32 ∷ 100 ∷ 32 ∷ 105 ∷ 110 ∷ 32 ∷ 120 ∷ 46 ∷ 46 ∷ 120 ∷ 32 ∷ 58 ∷ 32 ∷ 102 ∷ 111 ∷ 114 ∷ 97 ∷ 108 ∷ 108 ∷ 32 ∷ 101 ∷ 32 ∷ 105 ∷ 110 ∷ 32 ∷ 120 ∷ 46 ∷ 46 ∷ 120 ∷ 32 ∷ 58 ∷ 32 ∷ 64 ∷ 120 ∷ 46 ∷ 48 ∷ []) 512 ≡ refused 9
  -- "monitor x : @x.0"
  text_26 : body_of_text (109 ∷ 111 ∷ 110 ∷ 105 ∷ 116 ∷ 111 ∷ 114 ∷ 32 ∷ 120 ∷ 32 ∷ 58 ∷ 32 ∷ 64 ∷ 120 ∷ 46 ∷ 48 ∷ []) 2 ≡ refused 22
  -- "monitor x : @x.0"
  text_27 : body_of_text (109 ∷ 111 ∷ 110 ∷ 105 ∷ 116 ∷ 111 ∷ 114 ∷ 32 ∷ 120 ∷ 32 ∷ 58 ∷ 32 ∷ 64 ∷ 120 ∷ 46 ∷ 48 ∷ []) 3 ≡ accepted (1 ∷ 0 ∷ 0 ∷ [])

bodies : Bodies
unfolding between all same reserved is_name is_numeral and_read starts expect run past read_name read_numeral one_digit read_base read_offset read_end flag_digit flag_point read_flag forall_colon forall_second forall_to forall_first forall_range read_forall read_token joint joined second read_parts read_formula formula_read rule_colon rule_name rule_head rule_at whole_text reading seek is_bound variable_byte value_on offset_word base_bytes word_bytes end_bytes flag_bytes forall_bytes formula_bytes base_bound end_bound all_bound named_body translated checked fitted body_of_text and_then rules.require rules.signed rules.bound rules.require_bound rules.fixed rules.after_code rules.head rules.one rules.two rules.parts rules.formula rules.formula_at rules.whole rules.body word
bodies =
    record {
      text_1 = refl;
      text_2 = refl;
      text_3 = refl;
      text_4 = refl;
      text_5 = refl;
      text_6 = refl;
      text_7 = refl;
      text_8 = refl;
      text_9 = refl;
      text_10 = refl;
      text_11 = refl;
      text_12 = refl;
      text_13 = refl;
      text_14 = refl;
      text_15 = refl;
      text_16 = refl;
      text_17 = refl;
      text_18 = refl;
      text_19 = refl;
      text_20 = refl;
      text_21 = refl;
      text_22 = refl;
      text_23 = refl;
      text_24 = refl;
      text_25 = refl;
      text_26 = refl;
      text_27 = refl;
    }

-- What text-of-body answers for a body and a buffer of so many bytes.
record Texts : Type 0 where
  -- monitor x : ~(@x.0 /\ forall y in x-1..x+2 : @y.0)
  body_1 : text_of_body (2 ∷ 4 ∷ 1 ∷ 0 ∷ 0 ∷ 5 ∷ 2 ∷ 0 ∷ 255 ∷ 255 ∷ 2 ∷ 0 ∷ 2 ∷ 0 ∷ 1 ∷ 1 ∷ 0 ∷ []) 50 ≡ accepted (109 ∷ 111 ∷ 110 ∷ 105 ∷ 116 ∷ 111 ∷ 114 ∷ 32 ∷ 120 ∷ 32 ∷ 58 ∷ 32 ∷ 126 ∷ 40 ∷ 64 ∷ 120 ∷ 46 ∷ 48 ∷ 32 ∷ 47 ∷ 92 ∷ 32 ∷ 102 ∷ 111 ∷ 114 ∷ 97 ∷ 108 ∷ 108 ∷ 32 ∷ 121 ∷ 32 ∷ 105 ∷ 110 ∷ 32 ∷ 120 ∷ 45 ∷ 49 ∷ 46 ∷ 46 ∷ 120 ∷ 43 ∷ 50 ∷ 32 ∷ 58 ∷ 32 ∷ 64 ∷ 121 ∷ 46 ∷ 48 ∷ 41 ∷ [])
  -- one byte short
  body_2 : text_of_body (2 ∷ 4 ∷ 1 ∷ 0 ∷ 0 ∷ 5 ∷ 2 ∷ 0 ∷ 255 ∷ 255 ∷ 2 ∷ 0 ∷ 2 ∷ 0 ∷ 1 ∷ 1 ∷ 0 ∷ []) 49 ≡ refused 22
  -- monitor x : forall y in 0+5..infinity : forall z in x-4095..y+4095 : forall u in z..y+10 : forall v in u-100..x+1000 : (@v.7 && @x.0)
  body_3 : text_of_body (5 ∷ 0 ∷ 0 ∷ 5 ∷ 0 ∷ 1 ∷ 0 ∷ 0 ∷ 0 ∷ 5 ∷ 2 ∷ 0 ∷ 1 ∷ 240 ∷ 2 ∷ 1 ∷ 255 ∷ 15 ∷ 5 ∷ 2 ∷ 2 ∷ 0 ∷ 0 ∷ 2 ∷ 1 ∷ 10 ∷ 0 ∷ 5 ∷ 2 ∷ 3 ∷ 156 ∷ 255 ∷ 2 ∷ 0 ∷ 232 ∷ 3 ∷ 3 ∷ 1 ∷ 4 ∷ 7 ∷ 1 ∷ 0 ∷ 0 ∷ []) 4096 ≡ accepted (109 ∷ 111 ∷ 110 ∷ 105 ∷ 116 ∷ 111 ∷ 114 ∷ 32 ∷ 120 ∷ 32 ∷ 58 ∷ 32 ∷ 102 ∷ 111 ∷ 114 ∷ 97 ∷ 108 ∷ 108 ∷ 32 ∷ 121 ∷ 32 ∷ 105 ∷ 110 ∷ 32 ∷ 48 ∷ 43 ∷ 53 ∷ 46 ∷ 46 ∷ 105 ∷ 110 ∷ 102 ∷ 105 ∷ 110 ∷ 105 ∷ 116 ∷ 121 ∷ 32 ∷ 58 ∷ 32 ∷ 102 ∷ 111 ∷ 114 ∷ 97 ∷ 108 ∷ 108 ∷ 32 ∷ 122 ∷ 32 ∷ 105 ∷ 110 ∷ 32 ∷ 120 ∷ 45 ∷ 52 ∷ 48 ∷ 57 ∷ 53 ∷ 46 ∷ 46 ∷ 121 ∷ 43 ∷ 52 ∷ 48 ∷ 57 ∷ 53 ∷ 32 ∷ 58 ∷ 32 ∷ 102 ∷ 111 ∷ 114 ∷ 97 ∷ 108 ∷ 108 ∷ 32 ∷ 117 ∷ 32 ∷ 105 ∷ 110 ∷ 32 ∷ 122 ∷ 46 ∷ 46 ∷ 121 ∷ 43 ∷ 49 ∷ 48 ∷ 32 ∷ 58 ∷ 32 ∷ 102 ∷ 111 ∷ 114 ∷ 97 ∷ 108 ∷ 108 ∷ 32 ∷ 118 ∷ 32 ∷ 105 ∷ 110 ∷ 32 ∷ 117 ∷ 45 ∷ 49 ∷ 48 ∷ 48 ∷ 46 ∷ 46 ∷ 120 ∷ 43 ∷ 49 ∷ 48 ∷ 48 ∷ 48 ∷ 32 ∷ 58 ∷ 32 ∷ 40 ∷ 64 ∷ 118 ∷ 46 ∷ 55 ∷ 32 ∷ 38 ∷ 38 ∷ 32 ∷ 64 ∷ 120 ∷ 46 ∷ 48 ∷ 41 ∷ [])
  -- a flag 8
  body_4 : text_of_body (1 ∷ 0 ∷ 8 ∷ []) 4096 ≡ refused 7
  -- an empty body
  body_5 : text_of_body ([]) 4096 ≡ refused 4

texts : Texts
unfolding variable_name digits offset_named end_named named rule_named text_of_body base_text offset_text end_text formula_text text fitted and_then rules.require rules.signed rules.bound rules.require_bound rules.fixed rules.after_code rules.head rules.one rules.two rules.parts rules.formula rules.formula_at rules.whole rules.body word
texts =
    record {
      body_1 = refl;
      body_2 = refl;
      body_3 = refl;
      body_4 = refl;
      body_5 = refl;
    }
