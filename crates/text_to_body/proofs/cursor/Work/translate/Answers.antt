-- `text_to_body::cursor::Work::translate` meets its contract.
use mathlib.Core.Path.{refl, ap, sym, ◌∙◌}
use mathlib.Core.Bool.{Bool}
use native.Mathlib.Omega.{arith}
use lib.ListN.{take}
use Rattle.notation.specs.Bodies.{if_bound}
use Rattle.text_to_body.proofs.Texts.{no_start, start_inside, start_least, from_cursor, translated_none, translated_all}
use Rattle.text_to_body.proofs.cursor.Work.translate.Goals as goal

pub returns-in_default : goal.returns-in_default
returns-in_default c =
    let w = c.args.self.now in
    record { room = refl; translated = translated_none w.text.now w.bytes 25 (no_start w.text.now w.short c.in_default.ensures) }

pub go_on-requires : goal.go_on-requires
go_on-requires c =
    let w = c.args.self.now in
    let f = c.in-Some.ensures in
    let i = start_inside w.text.now w.short c.in-Some.at f in
    let l = start_least w.text.now w.short c.in-Some.at f in
    record { place = i; frames_fit = omega arith; bytes_fit = omega arith; names_fit = omega (arith, l) }

pub returns-in_default-go_on : goal.returns-in_default-go_on
returns-in_default-go_on c =
    let w = c.args.self.now in
    let e = from_cursor w.text.now w.short c.in-Some.at c.in-Some.ensures w.frames w.names w.bytes (omega arith) in
    record { room = c.go_on.ensures.room; translated = translated_none w.text.now c.go_on.new.self.bytes 25 (sym (e ∙ c.in_default-go_on.ensures.reached)) }

pub returns-then-last : goal.returns-then-last
returns-then-last c =
    let w = c.args.self.now in
    let e = from_cursor w.text.now w.short c.in-Some.at c.in-Some.ensures w.frames w.names w.bytes (omega arith) in
    let g = c.in-Some-go_on.ensures.reached in
    let n = c.in-Some-go_on.last.written in
    let l = take n c.go_on.new.self.bytes in
    record { room = c.go_on.ensures.room; translated = translated_all w.text.now c.go_on.new.self.bytes l n (e ∙ g.0 ∙ ap (λ (b : Bool). if_bound b l) c.if-last.true) refl g.1 }

pub returns-else-last : goal.returns-else-last
returns-else-last c =
    let w = c.args.self.now in
    let e = from_cursor w.text.now w.short c.in-Some.at c.in-Some.ensures w.frames w.names w.bytes (omega arith) in
    let g = c.in-Some-go_on.ensures.reached in
    let l = take c.in-Some-go_on.last.written c.go_on.new.self.bytes in
    record { room = c.go_on.ensures.room; translated = translated_none w.text.now c.go_on.new.self.bytes 26 (sym (e ∙ g.0 ∙ ap (λ (b : Bool). if_bound b l) c.if-last.false)) }
