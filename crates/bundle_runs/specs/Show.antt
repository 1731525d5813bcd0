-- What `show` says of a bundle: a JSON object.
use Rattle.serde_json.specs.Data.{Data}
use Rattle.bundle_json.specs.Json.{bundle6, bundle7}
use Rattle.bundle_runs.specs.declared.front.Bundle.{Bundle}
use Rattle.bundle_runs.specs.declared.front.Bundle.TheVariants as bundles

-- a bundle of either version
abbrev pub shown : Bundle → Data
shown (bundles.Six bundle) = bundle6 bundle
shown (bundles.Seven bundle) = bundle7 bundle
