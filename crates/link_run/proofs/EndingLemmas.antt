-- The end of an input.
use Rattle.std.proofs.Common.{◌<◌, length, arith}
use Rattle.link_run.specs.declared.link.Course.TheVariants as courses
use Rattle.link_run.specs.Link.{LinkState, no_link, planned, on_link, drained, link_ending}
use Rattle.link_run.specs.Shows.{StandsFor}

-- of an input without lines a line is written
pub unset-writes : (state : LinkState) → StandsFor courses.Unset state → 0 < length (link_ending state).text
unset-writes no_link stands = omega arith
unset-writes (planned start windows) stands = absurd stands
unset-writes (on_link s c) stands = absurd stands
unset-writes drained stands = absurd stands
