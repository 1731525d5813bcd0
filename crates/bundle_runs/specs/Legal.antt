-- Bundles that were read are legal.
use Rattle.bundle6.specs.Legal as legal6
use Rattle.bundle7.specs.Legal as legal7
use Rattle.bundle_runs.specs.declared.front.Bundle.{Bundle}
use Rattle.bundle_runs.specs.declared.front.Bundle.TheVariants as bundles

abbrev pub IsLegal : Bundle → Type 0
IsLegal (bundles.Six bundle) = legal6.IsLegal bundle
IsLegal (bundles.Seven bundle) = legal7.IsLegal7 bundle
