-- The lines of a node.
use Rattle.std.specs.Prelude.{ℕ, List, ◌++◌, None, codes, decimal}
use Rattle.ab_num.specs.declared.party.Party.{Party}
use Rattle.ab_text.specs.declared.event.Core.{Core}
use Rattle.ab_text.specs.declared.event.Event.{Event as Happening}
use Rattle.ab_text.specs.declared.event.Event.TheVariants.{Invoke, Timeout, Inject}
use Rattle.ab_text.specs.EventLines.{event_line}
use Rattle.ab_loop.specs.declared.party_core.Commit.{Commit}
use Rattle.ab_loop.specs.Cores.{NodeEvent, invoke, message, timeout}

-- the one core of a party
abbrev pub own_core : Party → Core
own_core me = record { party = me; twin = None }

-- an event of this party in a schedule
abbrev pub happening : Party → NodeEvent → Happening
happening me (invoke command) = Invoke (own_core me) (record { items = command })
happening me (message bytes) = Inject (own_core me) bytes
happening me timeout = Timeout (own_core me)

-- an event as a line of a schedule
unfoldable pub event_text : Party → NodeEvent → List ℕ
event_text me e = event_line (happening me e) ++ codes "\n"

abbrev pub reply_front : ℕ → ℕ → ℕ → List ℕ
reply_front stamp instance n = codes "reply " ++ (decimal stamp ++ (codes " " ++ (decimal instance ++ (codes " " ++ (decimal n ++ codes " ")))))

-- a commit
unfoldable pub reply_text : Commit → List ℕ
reply_text c = reply_front c.stamp c.instance c.n ++ (c.reply.items ++ codes "\n")

-- the numbers of a node that has ended
unfoldable pub end_text : ℕ → ℕ → ℕ → ℕ → List ℕ
end_text events sent lost spent =
    codes "end " ++ (decimal events ++ (codes " " ++ (decimal sent ++ (codes " " ++ (decimal lost ++ (codes " " ++ (decimal spent ++ codes "\n")))))))
