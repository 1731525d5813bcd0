use Rattle.std.proofs.Common.{rules}
use Rattle.std.proofs.lemmas.Fn.{filter_same}
use Rattle.block_types.specs.Bare.{is_seven}
use Rattle.block_types.proofs.leaving.bare_exts.Goals as goal

pub returns : goal.returns
returns c =
    let kept = filter_same _ is_seven _ (λ x b f' k. search rules) _ _ c.retain.ensures.filtered in
    rw (c.from_vec.ensures, kept, c.into_vec-items.ensures)
