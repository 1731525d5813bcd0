use Rattle.std.proofs.Common.{true, refl, ◌∙◌}
use Rattle.command_frame.proofs.HandingLemmas.{telling-start, telling-more, told-write}
use Rattle.command_frame.proofs.LimitsRunLemmas.{telling-within, told-within}
use Rattle.command_frame.proofs.part_driver.tell_all.Goals as goal

pub telling-init : goal.telling-init
telling-init g c = record {
  due = c.requires;
  so_far = λ due settles stands. telling-start _ settles due _ true stands (λ none. absurd (cc));
  within = λ due limits awaits. record { rest = due; awaits = awaits; last = λ none. absurd (cc) };
  kept = refl;
}

pub telling-preserved : goal.telling-preserved
telling-preserved g c = record {
  due = c.in-Ok.ensures.leaves.1;
  so_far = λ due settles stands.
      let so_far = c.telling.invariant.so_far due settles stands in
      let tells = rw (c.clear.ensures.bytes, ← c.as_bytes.ensures.value) at (c.in-Ok.ensures.told so_far.rest settles so_far.stands) in
      telling-more _ _ settles due _ _ _ so_far c.as_bytes.result.now c.in-Ok.more tells _ c.in-Ok-write_all.ensures.ok c.in-Ok-write_all.ensures.calls;
  within = λ due limits awaits.
      let so_far = c.telling.invariant.within due limits awaits in
      telling-within _ limits so_far.rest _ _ c.in-Ok.more (c.in-Ok.ensures.within so_far.rest limits so_far.awaits);
  kept = c.in-Ok.ensures.kept ∙ c.telling.invariant.kept;
}

pub returns-in_default-clause-told : goal.returns-in_default-clause-told
returns-in_default-clause-told g c = λ due settles stands.
    let so_far = c.telling.invariant.so_far due settles stands in
    let tells = rw (c.clear.ensures.bytes, ← c.as_bytes.ensures.value) at (c.in-Ok.ensures.told so_far.rest settles so_far.stands) in
    told-write _ _ settles due _ _ _ so_far c.as_bytes.result.now c.in-Ok.more tells _ (Unit {0}) c.in_default.ensures.err c.in_default.ensures.calls

-- ---- the limits on lines

pub returns-in-Err-clause-kept : goal.returns-in-Err-clause-kept
returns-in-Err-clause-kept g c = c.in-Err.ensures.kept ∙ c.telling.invariant.kept

pub returns-in_default-clause-kept : goal.returns-in_default-clause-kept
returns-in_default-clause-kept g c = c.in-Ok.ensures.kept ∙ c.telling.invariant.kept

pub returns-clause-within : goal.returns-clause-within
returns-clause-within g c = λ due limits awaits is.
    told-within _ limits c.telling.more c.telling-test.false (c.telling.invariant.within due limits awaits)

pub returns-clause-kept : goal.returns-clause-kept
returns-clause-kept g c = c.telling.invariant.kept
