-- `recording::outcome_at` meets its contract.
use Rattle.refusal.proofs.Answers.{handed_on}
use Rattle.recording.proofs.Entry.{read_well, read_ill}
use Rattle.recording.proofs.outcome_at.Goals as goal

pub returns-in_err-read_body : goal.returns-in_err-read_body
returns-in_err-read_body c = rw (handed_on c.from_residual.result c.in_err-read_body.field-0.0 c.from_residual.ensures)
    (read_ill c.args.body.now c.args.recording.now c.args.tick c.read_body.ensures c.in_err-read_body.was)

pub returns : goal.returns
returns c = read_well c.args.body.now c.args.recording.now c.args.tick c.read_body.ensures c.in_ok-read_body.was c.over_recording.ensures
