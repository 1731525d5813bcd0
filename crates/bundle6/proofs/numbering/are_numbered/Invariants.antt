use Rattle.std.proofs.Common.{◌≡◌, true, take}
use Rattle.std.specs.List.{list_all}
use Rattle.bundle6.specs.Spelling.{is_numbered}
use Rattle.bundle6.specs.Numbering.{lent_out}
use Rattle.bundle6.proofs.numbering.are_numbered.Given as goal

abbrev pub invariant-loop-endpoint : goal.invariant-loop-endpoint
invariant-loop-endpoint l = list_all is_numbered (lent_out (take l.endpoint-index l.endpoints)) ≡ true
