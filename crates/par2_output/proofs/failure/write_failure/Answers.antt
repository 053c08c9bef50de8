use Rattle.par2_output.proofs.Common.{error_of, failure_line}
use Rattle.par2_output.proofs.failure.write_failure.Goals as goal

pub returns-in-Arguments : goal.returns-in-Arguments
unfolding error_of failure_line
returns-in-Arguments g c = rw c.in-Arguments.is c.write_line-in-Arguments.ensures

pub returns-in-JournalInvalid : goal.returns-in-JournalInvalid
unfolding error_of failure_line
returns-in-JournalInvalid g c = rw c.in-JournalInvalid.is c.write_line-in-JournalInvalid.ensures
