-- `exports_rules::sentences::sw_sentence` meets its contract.
use Prim.Native.Nat.{ℕ}
use mathlib.Core.Path.{sym, ap, ◌∙◌}
use native.Mathlib.Omega.{arith}
use Rattle.refusal.specs.Answer.{Answer, or_kept, number}
use Rattle.exports_rules.proofs.Texts.{no_room, there, put_there}
use Rattle.exports_rules.proofs.sentences.sw_sentence.Goals as goal

pub returns-then-out-length : goal.returns-then-out-length
returns-then-out-length c =
    let a = c.args in
    let s = c.as_bytes-sentence in
    let none = no_room a.refused s.result.now a.out.now (s.ensures.value ∙ c.sentence_text.ensures.value) c.if-out-length.true in
    record {
      value = c.number.ensures ∙ sym (ap number none.0);
      out_after = sym none.1;
      written_after = sym (ap (λ (w : Answer ℕ). or_kept (λ n. n) w a.written.now) none.0);
    }

pub returns : goal.returns
returns c =
    let a = c.args in
    let s = c.as_bytes-sentence in
    let is = s.ensures.value ∙ c.sentence_text.ensures.value in
    let e = there a.refused s.result.now a.out.now is (omega (arith, c.if-out-length.false)) in
    record {
      value = sym (ap number e);
      out_after = put_there a.refused s.result.now a.out.now is (omega (arith, c.if-out-length.false)) c.copy_from_slice.new.self c.copy_from_slice.ensures.after;
      written_after = sym (ap (λ (w : Answer ℕ). or_kept (λ n. n) w a.written.now) e);
    }
