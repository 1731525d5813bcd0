-- From where a face takes datagrams.

use Rattle.std.specs.Prelude.{◌≡◌, ℕ, List}
use Rattle.std.specs.declared.net.socket_addr.SocketAddr.{SocketAddr}
use Rattle.std.specs.declared.net.socket_addr.SocketAddr.TheVariants.{V4, V6}
use Rattle.std.specs.Net.Addr.{embedded_segments, ipv6_segments}
use Rattle.std.specs.Net.Socket.{v4_ip, v6_ip, socket_port}
use Rattle.gate_config.specs.declared.file.Accept.{Accept}
use Rattle.gate_config.specs.declared.file.Accept.TheVariants as accepts

-- the host of an address, as the eight numbers of an IPv6 address: one of IPv4 is within ::ffff:0:0/96
abbrev pub host_of : SocketAddr → List ℕ
host_of (V4 a) = embedded_segments 0xffff (v4_ip a)
host_of (V6 a) = ipv6_segments (v6_ip a)

-- a face with this peer takes what comes from there: the hosts are the same, and where that is wanted
-- the ports; a scope isn't looked at
abbrev pub Takes : Accept → SocketAddr → SocketAddr → Type 0
Takes accepts.Address peer from = host_of peer ≡ host_of from
Takes accepts.Port peer from = (host_of peer ≡ host_of from) × (socket_port peer ≡ socket_port from)
