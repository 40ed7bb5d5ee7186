use Rattle.schedule_maker.proofs.MakingLemmas.{schedule_writable}
use Rattle.schedule_maker.proofs.laws.schedules_can_be_written.Goals as goal

pub returns : goal.returns
returns c = schedule_writable
