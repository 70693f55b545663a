-- What a link over UDP is.
use Rattle.std.specs.Prelude.{ℕ, Option, None}
use Rattle.std.specs.declared.net.udp.UdpSocket.{UdpSocket}
use Rattle.ab_io.specs.States.{LinkState}

-- its socket, once the port is open, how often it has failed, and how many datagrams it has lost
pub record UdpState : Type 0 where
  pub socket : Option UdpSocket
  pub faults : ℕ
  pub losses : ℕ

-- a link that isn't open
abbrev pub unopened : UdpState
unopened = record { socket = None; faults = 0; losses = 0 }

-- what it tells: no datagram, and its counts
abbrev pub link_of : UdpState → LinkState
link_of l = record { to_come = None; sent = None; faults = l.faults; losses = l.losses }
