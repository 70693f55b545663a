-- What comes to a replica as code, as the rules see it.
use Rattle.ab_order.specs.Inputs as told
use Rattle.ab_slots.specs.declared.reading.Reading.{Reading}
use Rattle.ab_slots.specs.declared.reading.Reading.TheVariants.{Request, PrePrepareBase, PrePrepare, Prepare, Commit, ViewChange, NewView, Timeout, Other}

abbrev pub input_of : Reading → told.Reading
input_of (Request m) = told.request m
input_of (PrePrepareBase by view x base) = told.pre_prepare_base by view x base
input_of (PrePrepare by view slot x m) = told.pre_prepare by view slot x m
input_of (Prepare by view slot x) = told.prepare by view slot x
input_of (Commit by view slot x) = told.commit by view slot x
input_of (ViewChange change) = told.view_change change
input_of (NewView by view changes) = told.new_view by view changes.items
input_of Timeout = told.timeout
input_of Other = told.other
