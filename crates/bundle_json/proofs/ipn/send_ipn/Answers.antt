use Rattle.std.proofs.Common.{rules, ◌≡◌, ◌-◌, ◌∙◌, length, take, drop, sym, subst, arith}
use Rattle.std.proofs.lemmas.List.{take_all, length-drop}
use Rattle.std.specs.Str.{IsUtf8}
use Rattle.hex_text.proofs.DigitLemmas.{reads-text}
use Rattle.bundle_json.specs.Frames.{ipn_text}
use Rattle.bundle_json.proofs.IpnLemmas.{ipn-utf8}
use Rattle.bundle_json.proofs.ipn.send_ipn.Goals as goal

pub unwrap-requires : goal.unwrap-requires
unwrap-requires g c =
    let room = c.write_ipn-at.new.room in
    let at = c.write_ipn-at.result in
    let long : length room ≡ 45 = search rules in
    let whole : take (45 - at) (drop at room) ≡ ipn_text c.args.node c.args.service =
    take_all (45 - at) (drop at room) (omega (arith, long, length-drop at room)) ∙ c.write_ipn-at.ensures.text in
    reads-text c.from_utf8.result _ _ _ c.from_utf8.ensures.cases
    (subst IsUtf8 (sym whole) (ipn-utf8 c.args.node c.args.service c.ranges.node.fits c.ranges.service.fits))
