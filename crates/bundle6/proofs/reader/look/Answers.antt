-- What the pass tells.
use Rattle.std.proofs.Common.{arith, inr, refl}
use Rattle.bundle6.proofs.ReaderLemmas.{ended-whole, open-text, place-within, settled-text}
use Rattle.bundle6.proofs.reader.look.Goals as goal

pub returns-in_default-None : goal.returns-in_default-None
returns-in_default-None c =
    ended-whole c.args.text.now c.run.result.0 (λ i. omega (arith, c.type_inv.text i)) c.run.ensures.stands
    (rw c.in_default-None.is-1 at c.run.ensures.comes)

pub returns-in-Truncated : goal.returns-in-Truncated
returns-in-Truncated c =
    rw c.at.ensures (
      omega arith,
      inr (record {
        begun = open-text c.args.text.now c.run.result.0 c.in_default-Some.refused
            (rw c.in_default-Some.is-1 at c.run.ensures.comes) c.in-Truncated.is;
        more = c.if-cut.true;
        spot = refl;
        named = refl;
      }),
    )

pub returns-in-Truncated-2 : goal.returns-in-Truncated-2
returns-in-Truncated-2 c = record {
  last = c.if-cut.false;
  begun = open-text c.args.text.now c.run.result.0 c.in_default-Some.refused
      (rw c.in_default-Some.is-1 at c.run.ensures.comes) c.in-Truncated-2.is;
  octets = λ i. omega (arith, c.type_inv.text i);
  fits = c.run.ensures.fits;
  stands = c.run.ensures.stands;
}

pub returns-in_default : goal.returns-in_default
returns-in_default c = (
  place-within c.args.text.now c.run.result.0 c.in_default-Some.refused (λ i. omega (arith, c.type_inv.text i))
      (rw c.in_default-Some.is-1 at c.run.ensures.comes),
  settled-text c.args.text.now c.args.cut c.run.result.0 c.in_default-Some.refused
      (rw c.in_default-Some.is-1 at c.run.ensures.comes) c.in_default.not-Truncated,
)
