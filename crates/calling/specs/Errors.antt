-- What a call says where a run stops.
use Rattle.tasks.specs.declared.store.Stop.{Stop}
use Rattle.tasks.specs.declared.store.Stop.TheVariants as stop
use Rattle.calling.specs.declared.error.CallError.{CallError}
use Rattle.calling.specs.declared.error.CallError.TheVariants.{Full, Deep}

abbrev pub error_of : Stop → CallError
error_of stop.Full = Full
error_of stop.Deep = Deep
