use Rattle.std.specs.String.{string_bytes}
use Rattle.bundle_json.proofs.TellingLemmas.{tells-more}
use Rattle.bundle_json.proofs.telling6.Telling6.tell.Goals as goal

pub steps-preserved : goal.steps-preserved
steps-preserved c = λ rest left.
    tells-more c.args.octets.now c.args.self.now c.steps.self c.step-in-steps.new.self (string_bytes c.args.text.now) (string_bytes c.steps.text)
    (string_bytes c.step-in-steps.new.text) rest (c.steps.invariant rest left) (λ later mid. c.in_ok-step-2.ensures later mid)
