-- What was done outside, kept in memory.
use Rattle.std.specs.Prelude.{List, [], ◌∷◌}
use Rattle.serve_run.specs.Outside.{failed, empty, gave}
use Rattle.serve_run.specs.Deeds.{Deed, read_clock, polled_link, sent_datagram, lost_datagram, write_failed, written}
use Rattle.serve_run.specs.declared.mem_deeds.MemDeed.{MemDeed}
use Rattle.serve_run.specs.declared.mem_deeds.MemDeed.TheVariants as deeds

-- what one of them is
abbrev pub deeds_in : MemDeed → List Deed
deeds_in (deeds.Read now) = read_clock now ∷ []
deeds_in (deeds.PollFailed face) = polled_link face failed ∷ []
deeds_in (deeds.PolledEmpty face) = polled_link face empty ∷ []
deeds_in (deeds.Polled face datagram) = polled_link face (gave datagram) ∷ []
deeds_in (deeds.Sent face datagram) = sent_datagram face datagram ∷ []
deeds_in (deeds.Lost face datagram) = lost_datagram face datagram ∷ []
deeds_in (deeds.Wrote text) = written text
deeds_in deeds.WriteFailed = write_failed ∷ []
