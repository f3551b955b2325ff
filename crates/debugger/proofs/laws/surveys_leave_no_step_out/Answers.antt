use Rattle.debugger.proofs.SurveyLines.{no_step_left_out}
use Rattle.debugger.proofs.laws.surveys_leave_no_step_out.Goals as goal

pub returns : goal.returns
returns c = no_step_left_out
