use Rattle.std.proofs.Common.{◌+◌, arith, subst, sym}
use Rattle.std.specs.String.{string_bytes}
use Rattle.bundle_json.specs.Telling.{Tells}
use Rattle.bundle_json.proofs.TellingLemmas.{tells-body, tells-head}
use Rattle.bundle_json.proofs.telling6.Telling6.body.Goals as goal

pub returns-then-self-view : goal.returns-then-self-view
returns-then-self-view c = λ rest left.
    subst (λ stage. Tells c.args.octets.now c.args.self.now (record { primary = c.args.self.now.primary; at = c.args.self.now.at + c.min-size.result; stage = stage })
    (string_bytes c.args.text.now) (string_bytes c.write_hex.new.text) rest) (sym c.requires)
    (tells-body c.args.octets.now c.args.self.now c.args.view c.min-size.result c.part_of.result.now _ _ rest c.requires left
    (omega (arith, c.min-size.ensures, c.if-self-view.true)) (omega (arith, c.min-size.ensures, c.if-self-view.true))
    c.part_of.ensures c.in_ok-write_hex.ensures)

pub returns : goal.returns
returns c = λ rest left.
    tells-head c.args.octets.now c.args.self.now c.args.view _ _ rest c.requires left (omega (arith, c.if-self-view.false)) c.in_ok-write_head.ensures
