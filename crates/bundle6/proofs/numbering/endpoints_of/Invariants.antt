use Rattle.std.proofs.Common.{◌≡◌, ◌∷◌, take}
use Rattle.std.specs.List.{flat_map}
use Rattle.bundle6.specs.Numbering.{lent_out}
use Rattle.bundle6.proofs.numbering.endpoints_of.Given as goal

abbrev pub invariant-loop-block : goal.invariant-loop-block
invariant-loop-block l = lent_out l.found.items
    ≡ l.bundle.primary.destination ∷ l.bundle.primary.source ∷ l.bundle.primary.report_to ∷ l.bundle.primary.custodian
    ∷ flat_map (λ block. block.refs) (take l.block-index l.bundle.blocks)
