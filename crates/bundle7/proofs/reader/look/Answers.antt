-- What the pass tells.
use Rattle.std.proofs.Common.{arith, inr, refl}
use Rattle.bundle7.proofs.ReaderLemmas.{ended-whole, open-text, place-within, settled-text}
use Rattle.bundle7.proofs.reader.look.Goals as goal

pub returns-in-None : goal.returns-in-None
returns-in-None c = (
  ended-whole c.args.text.now c.run.new.self (λ i. omega (arith, c.type_inv.text i)) c.run.ensures.stands
      c.in-None.ensures.comes,
  c.restart.ensures,
)

pub returns-in-Truncated : goal.returns-in-Truncated
returns-in-Truncated c =
    rw c.at.ensures (
      omega arith,
      inr (record {
        begun = open-text c.args.text.now c.run.new.self c.in-Some.refused c.in-Some.ensures.comes c.in-Truncated.is;
        more = c.if-cut.true;
        spot = refl;
        named = refl;
      }),
      c.restart-in-Truncated.ensures,
    )

pub returns-in-Truncated-2 : goal.returns-in-Truncated-2
returns-in-Truncated-2 c = record {
  last = c.if-cut.false;
  begun = open-text c.args.text.now c.run.new.self c.in-Some.refused c.in-Some.ensures.comes c.in-Truncated-2.is;
  octets = λ i. omega (arith, c.type_inv.text i);
  fits = c.sum.ensures.fits;
  stands = c.sum.ensures.stands;
}

pub returns-in_default : goal.returns-in_default
returns-in_default c = (
  place-within c.args.text.now c.run.new.self c.in-Some.refused (λ i. omega (arith, c.type_inv.text i)) c.in-Some.ensures.comes,
  settled-text c.args.text.now c.args.cut c.run.new.self c.in-Some.refused c.in-Some.ensures.comes c.in_default.not-Truncated,
  c.restart-in_default.ensures,
)
