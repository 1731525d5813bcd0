use Rattle.std.proofs.Common.{◌≡◌, ℕ, ◌-◌, ◌++◌, List, length}
use Rattle.endpoint.specs.declared.name.Endpoint.{Endpoint}
use Rattle.bundle_json.specs.Laid.{AreRefs, LiesAt}
use Rattle.bundle_json.proofs.WalkLemmas.{Passing}
use Rattle.bundle_json.proofs.walk.skip_refs.Given as goal

abbrev pub invariant-references : goal.invariant-references
invariant-references l = (dictionary text rest : List ℕ) (refs : List Endpoint) → AreRefs dictionary text refs
    → l.count ≡ length refs → LiesAt l.octets l.at (text ++ rest)
    → Passing l.octets dictionary l.after l.counter (l.count - l.counter) rest
