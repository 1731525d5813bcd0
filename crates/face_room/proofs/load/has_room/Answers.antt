use Rattle.std.proofs.Common.{sym, ap, ◌+◌, ◌∙◌, drop, arith}
use Rattle.face_room.specs.Loads.{has_room}
use Rattle.face_room.proofs.RoomLemmas.{room-next, room-far, room-last, room-over}
use Rattle.face_room.proofs.load.has_room.Goals as goal

pub returns-then-size-gt-BLOCK_MAX : goal.returns-then-size-gt-BLOCK_MAX
returns-then-size-gt-BLOCK_MAX c =
    sym (room-far c.args.bounds c.adding.load c.args.sizes.now c.adding.size-index _ c.adding-test.true c.if-size-gt-BLOCK_MAX.true)
    ∙ c.adding.invariant

pub returns-then-not-is_within : goal.returns-then-not-is_within
returns-then-not-is_within c =
    sym (room-over c.args.bounds c.adding.load (drop c.adding.size-index c.args.sizes.now) (sym c.is_within.ensures ∙ c.if-not-is_within.true))
    ∙ c.adding.invariant

pub adding-preserved : goal.adding-preserved
adding-preserved c =
    ap (λ l. has_room c.args.bounds l (drop (c.adding.size-index + 1) c.args.sizes.now)) c.with_piece-load.ensures
    ∙ (sym (room-next c.args.bounds c.adding.load c.args.sizes.now c.adding.size-index _ c.adding-test.true (omega (arith, c.if-size-gt-BLOCK_MAX.false)))
    ∙ c.adding.invariant)

pub returns : goal.returns
returns c =
    c.is_within-2.ensures
    ∙ (sym (room-last c.args.bounds c.adding.load c.args.sizes.now c.adding.size-index (omega (arith, c.adding-test.false)))
    ∙ c.adding.invariant)
