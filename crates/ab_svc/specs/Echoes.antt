-- The service echo.
use Rattle.std.specs.Prelude.{take}
use Rattle.ab_hist.specs.declared.request.Request.{Request}
use Rattle.ab_svc.specs.declared.echo.Echo.{Echo}
use Rattle.ab_svc.specs.Machines.{Machine, Reply}

-- the first 72 bytes of the command
unfoldable pub echo_of : Request → Reply
echo_of m = record { items = take 72 m.command.items }

-- it keeps nothing, and answers so
abbrev pub echo_machine : Machine Echo
echo_machine = record { begin = record {}; after = λ s m. s; answer = λ s m. echo_of m }
