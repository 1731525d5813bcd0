use Rattle.std.proofs.Common.{◌++◌, arith, ap, ◌∙◌}
use Rattle.std.specs.String.{string_bytes}
use Rattle.serde_json.specs.Written.{compact_text}
use Rattle.serde_json.specs.Data.{string}
use Rattle.bundle_json.proofs.TellingLemmas.{tells-ref, tells-end}
use Rattle.bundle_json.proofs.telling6.Telling6.refs.Goals as goal

pub returns-then-left-eq0 : goal.returns-then-left-eq0
returns-then-left-eq0 c = λ rest left.
    tells-end c.args.octets.now c.args.self.now c.args.left c.args.after c.args.later _ _ rest c.requires left c.if-left-eq0.true c.in_ok-push_str.ensures.bytes

pub returns : goal.returns
returns c = λ rest left.
    tells-ref c.args.octets.now c.args.self.now c.args.left _ c.args.after c.args.later c.pair_at-at.result _ _ _ rest c.requires left
    (omega (arith, c.if-left-eq0.false)) c.pair_at-at.ensures (rw c.comma.ensures at c.in_ok-push_str-2.ensures.bytes)
    (λ endpoint named. c.in_ok-write_name.ensures
    ∙ ap (λ v. string_bytes c.push_str-2.new.self ++ compact_text (string v))
    (c.in_ok-name.ensures endpoint (rw (c.lent.ensures left.shows.order left.shows.inside) named)))
