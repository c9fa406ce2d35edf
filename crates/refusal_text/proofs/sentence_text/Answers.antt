-- `refusal_text::sentence_text` meets its contract: each arm answers the sentence of its number.
use native.Mathlib.Omega.{arith}
use Rattle.refusal_text.specs.Sentences.{sentence_of, ascii}
use Rattle.refusal_text.proofs.Others.{other}
use Rattle.refusal_text.proofs.sentence_text.Goals as goal

pub returns-in-1-clause-value : goal.returns-in-1-clause-value
unfolding sentence_of ascii
returns-in-1-clause-value c = rw c.in-1.is

pub returns-in-2-clause-value : goal.returns-in-2-clause-value
unfolding sentence_of ascii
returns-in-2-clause-value c = rw c.in-2.is

pub returns-in-3-clause-value : goal.returns-in-3-clause-value
unfolding sentence_of ascii
returns-in-3-clause-value c = rw c.in-3.is

pub returns-in-4-clause-value : goal.returns-in-4-clause-value
unfolding sentence_of ascii
returns-in-4-clause-value c = rw c.in-4.is

pub returns-in-5-clause-value : goal.returns-in-5-clause-value
unfolding sentence_of ascii
returns-in-5-clause-value c = rw c.in-5.is

pub returns-in-6-clause-value : goal.returns-in-6-clause-value
unfolding sentence_of ascii
returns-in-6-clause-value c = rw c.in-6.is

pub returns-in-7-clause-value : goal.returns-in-7-clause-value
unfolding sentence_of ascii
returns-in-7-clause-value c = rw c.in-7.is

pub returns-in-8-clause-value : goal.returns-in-8-clause-value
unfolding sentence_of ascii
returns-in-8-clause-value c = rw c.in-8.is

pub returns-in-9-clause-value : goal.returns-in-9-clause-value
unfolding sentence_of ascii
returns-in-9-clause-value c = rw c.in-9.is

pub returns-in-10-clause-value : goal.returns-in-10-clause-value
unfolding sentence_of ascii
returns-in-10-clause-value c = rw c.in-10.is

pub returns-in-11-clause-value : goal.returns-in-11-clause-value
unfolding sentence_of ascii
returns-in-11-clause-value c = rw c.in-11.is

pub returns-in-12-clause-value : goal.returns-in-12-clause-value
unfolding sentence_of ascii
returns-in-12-clause-value c = rw c.in-12.is

pub returns-in-13-clause-value : goal.returns-in-13-clause-value
unfolding sentence_of ascii
returns-in-13-clause-value c = rw c.in-13.is

pub returns-in-14-clause-value : goal.returns-in-14-clause-value
unfolding sentence_of ascii
returns-in-14-clause-value c = rw c.in-14.is

pub returns-in-15-clause-value : goal.returns-in-15-clause-value
unfolding sentence_of ascii
returns-in-15-clause-value c = rw c.in-15.is

pub returns-in-16-clause-value : goal.returns-in-16-clause-value
unfolding sentence_of ascii
returns-in-16-clause-value c = rw c.in-16.is

pub returns-in-17-clause-value : goal.returns-in-17-clause-value
unfolding sentence_of ascii
returns-in-17-clause-value c = rw c.in-17.is

pub returns-in-18-clause-value : goal.returns-in-18-clause-value
unfolding sentence_of ascii
returns-in-18-clause-value c = rw c.in-18.is

pub returns-in-19-clause-value : goal.returns-in-19-clause-value
unfolding sentence_of ascii
returns-in-19-clause-value c = rw c.in-19.is

pub returns-in-20-clause-value : goal.returns-in-20-clause-value
unfolding sentence_of ascii
returns-in-20-clause-value c = rw c.in-20.is

pub returns-in-21-clause-value : goal.returns-in-21-clause-value
unfolding sentence_of ascii
returns-in-21-clause-value c = rw c.in-21.is

pub returns-in-22-clause-value : goal.returns-in-22-clause-value
unfolding sentence_of ascii
returns-in-22-clause-value c = rw c.in-22.is

pub returns-in-23-clause-value : goal.returns-in-23-clause-value
unfolding sentence_of ascii
returns-in-23-clause-value c = rw c.in-23.is

pub returns-in-24-clause-value : goal.returns-in-24-clause-value
unfolding sentence_of ascii
returns-in-24-clause-value c = rw c.in-24.is

pub returns-in-25-clause-value : goal.returns-in-25-clause-value
unfolding sentence_of ascii
returns-in-25-clause-value c = rw c.in-25.is

pub returns-in-26-clause-value : goal.returns-in-26-clause-value
unfolding sentence_of ascii
returns-in-26-clause-value c = rw c.in-26.is

pub returns-in-27-clause-value : goal.returns-in-27-clause-value
unfolding sentence_of ascii
returns-in-27-clause-value c = rw c.in-27.is

pub returns-in_default-clause-value : goal.returns-in_default-clause-value
unfolding sentence_of ascii
returns-in_default-clause-value c = other c.args.number (λ k i j e. omega (arith, e))
