-- A submit leaves no more than there was: it takes a number.

use Rattle.std.proofs.Common.{◌≡◌, ℕ, zero, suc, ◌+◌, ◌-◌, ◌*◌, ◌^◌, ◌<◌, ◌≤◌, Bool, true, false, List, []}
use Rattle.std.proofs.Common.{◌∷◌, ◌++◌, length, take, drop, Option, None, Some}
use Rattle.std.proofs.Common.{refl, sym, ◌∙◌, ap, arith, nat_lt, nat_le, ◌==◌}
use Rattle.std.proofs.Common.{if◌then◌else◌}
use Rattle.std.proofs.Math.Nat.{mul-le-mul, suc-mul}
use Rattle.std.proofs.lemmas.Bool.{ltb-false, leb-false}
use Rattle.std.proofs.lemmas.List.{drop-append-le}
use Rattle.ltp_segment.specs.Policy.{PolicyValue}
use Rattle.ltp_segment.specs.Values.{PieceValue}
use Rattle.ltp_session.specs.Engine.{Engine, Party, Reply, begun, block_empty, block_too_large}
use Rattle.ltp_session.specs.Engine.{numbers_spent, senders_busy, submits, submits_unless}
use Rattle.ltp_session.specs.Sender.{Sending, begin, checkpoint_at, green_pieces, green_segments}
use Rattle.ltp_session.specs.Sender.{last_segment, opened, red_pieces, red_segments}
use Rattle.ltp_session.specs.Step.{after}
use Rattle.ltp_session.specs.Table.{AreAscending, find}
use Rattle.ltp_session.specs.Timer.{first_serial}
use Rattle.ltp_session.specs.Views.{headed_all}
use Rattle.ltp_session.specs.World.{End, World, at_end, first_end, happens, replies, second_end}
use Rattle.ltp_session.specs.World.{sent_by, submit, submit_reply, submitted, unless_refused}
use Rattle.ltp_session.specs.declared.name.SessionName.{SessionName}
use Rattle.ltp_drain.specs.Left.{round_burden}
use Rattle.ltp_drain.specs.Left.{sent_burden}
use Rattle.ltp_drain.proofs.FallLemmas.{contents-append, contents_burden, kept_left}
use Rattle.ltp_drain.proofs.FallLemmas.{left-settled, parts-few, pieces-burden}
use Rattle.ltp_drain.proofs.LeftLemmas.{sent_burden-append, sent_burden-by}
use Rattle.path_drain.specs.Left.{all_left, engine_left, session_left}

-- ---- what a session sends when it is begun

greens-burden : (parts : List (ℕ × List ℕ)) → contents_burden (green_pieces parts)
    ≡ 3 * length parts
unfolding green_pieces contents_burden
greens-burden [] = omega arith
greens-burden (part ∷ []) = omega arith
greens-burden (part ∷ next ∷ parts) =
    let rest = greens-burden (next ∷ parts) in omega (arith, rest)

parts-in : (policy : PolicyValue) (block : List ℕ) (red : ℕ)
    → length (red_segments policy block red) + length (green_segments policy block red)
    ≤ length block
parts-in policy block red =
    let reds = parts-few policy.segment (length (take red block)) 0 (take red block) in
    let greens = parts-few policy.segment (length (drop red block)) red (drop red block) in
    let parts = halves red block in
    omega (arith, reds, greens, parts)
  where
    halves : (n : ℕ) (xs : List ℕ) → length (take n xs) + length (drop n xs) ≡ length xs
    halves zero xs = omega arith
    halves (suc n) [] = omega arith
    halves (suc n) (x ∷ xs) = let rest = halves n xs in omega (arith, rest)

begun-burden : (policy : PolicyValue) (n : ℕ) (block : List ℕ) (red now most : ℕ)
    → length block ≤ most → contents_burden (begin policy n block red now).out ≤ 3 * most
unfolding begin
begun-burden policy n block red now most low =
    let reds = pieces-burden (checkpoint_at (length block) red (first_serial n) 0)
    (red_segments policy block red) in
    let greens = greens-burden (green_segments policy block red) in
    let both = contents-append
    (red_pieces (checkpoint_at (length block) red (first_serial n) 0)
    (red_segments policy block red)) (green_pieces (green_segments policy block red)) in
    let few = parts-in policy block red in
    omega (arith, reds, greens, both, few, low)

-- ---- what it leaves

rounds-most : (c size most : ℕ) → size ≤ most
    → (2 ^ 64 - c) * round_burden size ≤ 2 ^ 64 * round_burden most
rounds-most c size most low =
    mul-le-mul {n₁ = 2 ^ 64 - c} {m₁ = round_burden size} {n₂ = 2 ^ 64} {m₂ = round_burden most}
    (omega arith) (omega (arith, low))

kept-most : (policy : PolicyValue) (block : List ℕ) (red now most : ℕ)
    (checkpoint : ℕ × List ℕ → PieceValue) (last : Option (ℕ × List ℕ)) (kept : Option Sending)
    → length block ≤ most
    → kept_left (after (opened policy block red now checkpoint last) kept)
    ≤ kept_left kept + 2 ^ 64 * round_burden most
kept-most policy block red now most checkpoint None kept low = omega arith
kept-most policy block red now most checkpoint (Some part) kept low =
    let few = rounds-most (checkpoint part).checkpoint (length block) most low in
    omega (arith, few)

begun-keeps : (policy : PolicyValue) (n : ℕ) (block : List ℕ) (red now most : ℕ)
    (kept : Option Sending) → length block ≤ most
    → kept_left (after (begin policy n block red now).next kept)
    ≤ kept_left kept + 2 ^ 64 * round_burden most
unfolding begin
begun-keeps policy n block red now most kept low =
    kept-most policy block red now most (checkpoint_at (length block) red (first_serial n) 0)
    (last_segment (red_segments policy block red)) kept low

-- a number that is taken
number-taken : (top n one : ℕ) → n < top → (top - (n + 1)) * one + one ≡ (top - n) * one
number-taken top n one below =
    let more : top - n ≡ suc (top - (n + 1)) = omega (arith, below) in
    sym (ap (λ m. m * one) more ∙ suc-mul (top - (n + 1)) one)

pub begun-left : (policy : PolicyValue) (e : Engine) (block : List ℕ) (red now most : ℕ)
    → e.next < 2 ^ 32 → length block ≤ most → AreAscending 0 e.senders
    → engine_left most (begun e (begin policy e.next block red now)).engine
    + contents_burden (begin policy e.next block red now).out ≤ engine_left most e
begun-left policy e block red now most below low ascending =
    let out = begun-burden policy e.next block red now most low in
    let table = left-settled e.next (begin policy e.next block red now).next e.senders ascending in
    let kept = begun-keeps policy e.next block red now most (find e.next e.senders) low in
    let number = number-taken (2 ^ 32) e.next (session_left most) below in
    omega (arith, out, table, kept, number)

-- ---- on a link

abbrev LeavesNoMore : ℕ → Engine → Option Reply → Type 0
LeavesNoMore most e None = Unit {0}
LeavesNoMore most e (Some r) =
    engine_left most r.engine + contents_burden r.out ≤ engine_left most e

submit-replies : (p : Party) (e : Engine) (block : List ℕ) (red now most : ℕ) → p.most ≤ most
    → AreAscending 0 e.senders
    → LeavesNoMore most e (unless_refused (submits p e block red now))
unfolding submits
submit-replies p e block red now most fits ascending =
    by_tests (length block == 0) (nat_lt p.most (length block)) refl (nat_le (2 ^ 32) e.next) refl
    (nat_le p.sessions (length e.senders))
  where
    by_tests : (empty large : Bool) → nat_lt p.most (length block) ≡ large → (spent : Bool)
        → nat_le (2 ^ 32) e.next ≡ spent → (busy : Bool)
        → LeavesNoMore most e (unless_refused
        (submits_unless (if empty then Some block_empty else if large
        then Some block_too_large else if spent then Some numbers_spent else if busy
        then Some senders_busy else None) p e block red now))
    by_tests true large is_large spent is_spent busy = tt
    by_tests false true is_large spent is_spent busy = tt
    by_tests false false is_large true is_spent busy = tt
    by_tests false false is_large false is_spent true = tt
    by_tests false false is_large false is_spent false =
        begun-left p.policy e block red now most (leb-false (2 ^ 32) e.next is_spent)
        (let short = ltb-false p.most (length block) is_large in omega (arith, short, fits))
        ascending

replies-left : (w : World) (end : End) (name : SessionName) (k most : ℕ) (reply : Option Reply)
    → k ≤ length w.sent → LeavesNoMore most (at_end w.engines end) reply
    → all_left most (replies w end name reply) k ≤ all_left most w k
replies-left w end name k most None low no_more = omega arith
replies-left w end name k most (Some r) low no_more = by_end end no_more
  where
    more : (end : End) → sent_burden (drop k (w.sent ++ sent_by end (headed_all name r.out)))
        ≡ sent_burden (drop k w.sent) + contents_burden r.out
    more end = ap sent_burden (drop-append-le k w.sent (sent_by end (headed_all name r.out)) low)
        ∙ (sent_burden-append (drop k w.sent) (sent_by end (headed_all name r.out))
        ∙ ap (λ n. sent_burden (drop k w.sent) + n) (sent_burden-by end name r.out))

    by_end : (end : End) → LeavesNoMore most (at_end w.engines end) (Some r)
        → all_left most (replies w end name (Some r)) k ≤ all_left most w k
    by_end first_end no_more = let after_it = more first_end in omega (arith, no_more, after_it)
    by_end second_end no_more = let after_it = more second_end in omega (arith, no_more, after_it)

pub submit-left : (parties : Party × Party) (w : World) (k most : ℕ) (end : End)
    (block : List ℕ) (red : ℕ) → ((o : End) → (at_end parties o).most ≤ most)
    → ((o : End) → AreAscending 0 (at_end w.engines o).senders) → k ≤ length w.sent
    → all_left most (happens parties w (submit end block red)) k ≤ all_left most w k
unfolding submitted
submit-left parties w k most end block red fits ascending low = by_length (nat_le red (length block))
  where
    by_length : (b : Bool) → all_left most (if b then replies w end
        (record { originator = (at_end parties end).own; number = (at_end w.engines end).next })
        (submit_reply parties w end block red) else w) k ≤ all_left most w k
    by_length true = replies-left w end _ k most (submit_reply parties w end block red) low
        (submit-replies (at_end parties end) (at_end w.engines end) block red w.now most (fits end)
        (ascending end))
    by_length false = omega arith
