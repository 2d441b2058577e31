use Rattle.extract_call.proofs.Readings.{one_reading}
use Rattle.extract_call.proofs.laws.one_reading.Goals as goal

pub returns : goal.returns
returns c = one_reading c.laws_below.ensures
