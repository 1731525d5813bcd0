use Rattle.std.proofs.Common.{arith, ap, sym, ◌+◌, ◌<◌, ◌∙◌, length, drop}
use Rattle.piece_gathering.specs.Gathered.{is_apart, with_piece, front_from}
use Rattle.piece_gathering.specs.Fronts.{front_value}
use Rattle.piece_gathering.proofs.FrontLemmas.{front-stops, front-goes, front-ends, fits-with}
use Rattle.piece_gathering.proofs.gathering.front_of.Goals as goal

pub returns-then-is_apart : goal.returns-then-is_apart
returns-then-is_apart c =
    let item = c.in-Some-get.piece.now in
    let within : c.joining.front.count < length c.args.waiting.now.items = c.in-Some-get.ensures.item.3.0 in
    let apart =
    sym (ap (λ p. is_apart c.args.wanted c.joining.front.size p.size) c.in-Some-get.ensures.lookup) ∙ sym c.if-is_apart.ensures in
    sym (front-stops c.args.wanted (front_value c.joining.front) c.args.waiting.now.items c.joining.front.count item within apart) ∙ c.joining.invariant.all

pub joining-preserved : goal.joining-preserved
joining-preserved c =
    let item = c.in-Some-get.piece.now in
    let within : c.joining.front.count < length c.args.waiting.now.items = c.in-Some-get.ensures.item.3.0 in
    let goes =
    sym (ap (λ p. is_apart c.args.wanted c.joining.front.size p.size) c.in-Some-get.ensures.lookup) ∙ sym c.if-is_apart.ensures in
    let front = front_value c.joining.front in
    record {
      all =
          ap (λ p. front_from c.args.wanted (with_piece front p) (drop (c.joining.front.count + 1) c.args.waiting.now.items)) c.in-Some-get.ensures.lookup
          ∙ (sym (front-goes c.args.wanted front c.args.waiting.now.items c.joining.front.count item within goes) ∙ c.joining.invariant.all);
      within = omega (arith, within);
      fits = fits-with c.args.wanted c.joining.front.size c.in-Some-get.piece.now.size (sym c.if-is_apart.ensures);
    }

pub returns : goal.returns
returns c =
    sym (front-ends c.args.wanted (front_value c.joining.front) c.args.waiting.now.items c.joining.front.count c.in_default-get.ensures.item.3)
    ∙ c.joining.invariant.all
