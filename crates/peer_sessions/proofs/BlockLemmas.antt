-- The blocks that are being sent, after a step of the engine.

use Rattle.std.proofs.Common.{◌≡◌, ℕ, suc, ◌+◌, ◌<◌, ◌≤◌, Bool, true, false, nat_lt, ◌==◌, if◌then◌else◌, List, [], ◌∷◌, ◌++◌, length, map, Option, None, Some, is_some, refl, sym, ◌∙◌, ap, subst, arith, eqb-true}
use Rattle.std.specs.List.{AllByRecursion, flat_map}
use Rattle.std.proofs.lemmas.Bool.{eq-eqb, ne_eqb}
use Rattle.std.proofs.lemmas.Bool.Decides.{nat_tests}
use Rattle.std.proofs.lemmas.List.Concat.{flat_map-cons, flat_map_single}
use Rattle.ltp_session.specs.Step.{Change, stays, keeps, ends, after, StepValue}
use Rattle.ltp_session.specs.Table.{find, put, without, settled, ticked, then_kept, AreAscending}
use Rattle.ltp_session.specs.Engine.{list_of}
use Rattle.ltp_session.specs.Sender.{Sending, sender_tick, sender_answers}
use Rattle.ltp_laws.proofs.TableLemmas.{self_eqb, find_below, find-settled, find-settled_other, find-ticked, after_tick, ascending-settled}
use Rattle.ltp_engine.specs.Sessions.{is_open}
use Rattle.ltp_engine.proofs.KeepLemmas.{length-without_found}
use Rattle.ltp_sender.specs.Sender.{is_kept_open}
use Rattle.ltp_segment.specs.Policy.{PolicyValue}
use Rattle.ltp_segment.specs.Values.{ContentValue}
use Rattle.ltp_session.specs.Timer.{first_timer}
use Rattle.peer_sessions.specs.declared.blocks.Block.{Block}
use Rattle.peer_sessions.specs.Blocks.{block_of, heard_block, ticked_block, blocks_after, blocks_if, over_of}
use Rattle.peer_sessions.specs.declared.blocks.Event.TheVariants as events
use Rattle.peer_sessions.proofs.SenderLemmas.{block_kept, stays-kept, KeepsBy, answer-keeps, none-stays, tick-block}

-- ---- each session has its entry

-- each entry is found, in its own table and behind others
pub each-found : (low : ℕ) (es : List (ℕ × Sending)) → AreAscending low es → AllByRecursion (λ (e : ℕ × Sending). find e.0 es ≡ Some e.1) es
unfolding find
each-found low [] up = tt
each-found low (x ∷ es) up = (rw self_eqb refl, behind x (x.0 + 1) es (omega arith) up.1 es (each-found (x.0 + 1) es up.1)) where
  behind : (x : ℕ × Sending) (low : ℕ) (rest : List (ℕ × Sending)) → x.0 < low → AreAscending low rest → (t : List (ℕ × Sending)) → AllByRecursion (λ (e : ℕ × Sending). find e.0 t ≡ Some e.1) rest
      → AllByRecursion (λ (e : ℕ × Sending). (if x.0 == e.0 then Some x.1 else find e.0 t) ≡ Some e.1) rest
  behind x low [] less up t all = tt
  behind x low (e ∷ rest) less up t all = (rw (ne_eqb x.0 e.0 (λ same. absurd (omega (arith, same, less, up.0)))) all.0, behind x (e.0 + 1) rest (omega (arith, less, up.0)) up.1 t all.1)

-- ---- what a step leaves of each

-- each block is kept as its session is
pub blocks-kept : (f : Block → Option Block) (h : ℕ × Sending → Option Sending) (es : List (ℕ × Sending)) → AllByRecursion (λ (e : ℕ × Sending). f (block_of e) ≡ block_kept e.0 (h e)) es
    → flat_map (λ (b : Block). list_of (f b)) (map block_of es) ≡ flat_map (λ (e : ℕ × Sending). list_of (block_kept e.0 (h e))) es
blocks-kept f h [] all = refl
blocks-kept f h (e ∷ es) all =
    flat_map-cons (λ (b : Block). list_of (f b)) (block_of e) (map block_of es)
    ∙ (ap (λ (b : Option Block). list_of b ++ flat_map (λ (c : Block). list_of (f c)) (map block_of es)) all.0
    ∙ (ap (λ (bs : List Block). list_of (block_kept e.0 (h e)) ++ bs) (blocks-kept f h es all.1)
    ∙ sym (flat_map-cons (λ (x : ℕ × Sending). list_of (block_kept x.0 (h x))) e es)))

-- all sessions ticked
pub ticked-kept : (change : Sending → Change Sending) (es : List (ℕ × Sending))
    → flat_map (λ (e : ℕ × Sending). list_of (block_kept e.0 (after (change e.1) (Some e.1)))) es ≡ map block_of (ticked change es)
unfolding ticked
ticked-kept change [] = refl
ticked-kept change (e ∷ es) =
    flat_map-cons (λ (x : ℕ × Sending). list_of (block_kept x.0 (after (change x.1) (Some x.1)))) e es
    ∙ (ap (λ (bs : List Block). list_of (block_kept e.0 (after (change e.1) (Some e.1))) ++ bs) (ticked-kept change es) ∙ by (change e.1)) where
      by : (c : Change Sending) → list_of (block_kept e.0 (after c (Some e.1))) ++ map block_of (ticked change es) ≡ map block_of (then_kept e c (ticked change es))
      by stays = refl
      by (keeps s) = refl
      by ends = refl

-- one changed
abbrev pub changed_at : ℕ → Change Sending → ℕ × Sending → Option Sending
changed_at n change e = if e.0 == n then after change (Some e.1) else Some e.1

abbrev kept_at : ℕ → Change Sending → List (ℕ × Sending) → List Block
kept_at n change es = flat_map (λ (e : ℕ × Sending). list_of (block_kept e.0 (changed_at n change e))) es

kept-cons : (n : ℕ) (change : Change Sending) (e : ℕ × Sending) (es : List (ℕ × Sending)) → kept_at n change (e ∷ es) ≡ list_of (block_kept e.0 (changed_at n change e)) ++ kept_at n change es
kept-cons n change e es = flat_map-cons (λ (x : ℕ × Sending). list_of (block_kept x.0 (changed_at n change x))) e es

kept-stays : (n : ℕ) (es : List (ℕ × Sending)) → kept_at n stays es ≡ map block_of es
kept-stays n [] = refl
kept-stays n (e ∷ es) = kept-cons n stays e es ∙ by (e.0 == n) (kept-stays n es) where
  by : (same : Bool) → kept_at n stays es ≡ map block_of es → list_of (block_kept e.0 (if same then Some e.1 else Some e.1)) ++ kept_at n stays es ≡ map block_of (e ∷ es)
  by true rest = ap (λ bs. block_of e ∷ bs) rest
  by false rest = ap (λ bs. block_of e ∷ bs) rest

kept-without : (n : ℕ) (es : List (ℕ × Sending)) → kept_at n ends es ≡ map block_of (without n es)
unfolding without
kept-without n [] = refl
kept-without n (e ∷ es) = kept-cons n ends e es ∙ by (e.0 == n) (kept-without n es) where
  by : (same : Bool) → kept_at n ends es ≡ map block_of (without n es) → list_of (block_kept e.0 (if same then None else Some e.1)) ++ kept_at n ends es ≡ map block_of (if same then without n es else e ∷ without n es)
  by true rest = rest
  by false rest = ap (λ bs. block_of e ∷ bs) rest

-- no other has the number
kept-others : (n low : ℕ) (change : Change Sending) (es : List (ℕ × Sending)) → n < low → AreAscending low es → kept_at n change es ≡ map block_of es
kept-others n low change [] less up = refl
kept-others n low change (e ∷ es) less up = kept-cons n change e es ∙ rw (ne_eqb e.0 n (λ same. absurd (omega (arith, same, less, up.0))))
    (ap (λ bs. block_of e ∷ bs) (kept-others n (e.0 + 1) change es (omega (arith, less, up.0)) up.1))

kept-put : (n low : ℕ) (s : Sending) (es : List (ℕ × Sending)) → AreAscending low es → is_some (find n es) ≡ true → kept_at n (keeps s) es ≡ map block_of (put n s es)
unfolding find put
kept-put n low s [] up found = absurd (cc)
kept-put n low s (e ∷ es) up found = kept-cons n (keeps s) e es ∙ by (e.0 == n) refl (nat_lt n e.0) refl found (λ h. kept-put n (e.0 + 1) s es up.1 h) where
  by : (same : Bool) → (e.0 == n) ≡ same → (less : Bool) → nat_lt n e.0 ≡ less → is_some (if same then Some e.1 else find n es) ≡ true
      → (is_some (find n es) ≡ true → kept_at n (keeps s) es ≡ map block_of (put n s es))
      → list_of (block_kept e.0 (if same then Some s else Some e.1)) ++ kept_at n (keeps s) es ≡ map block_of (if same then (n, s) ∷ es else if less then (n, s) ∷ (e ∷ es) else e ∷ put n s es)
  by true is less is_less found rest =
      let here : e.0 ≡ n = eqb-true e.0 n is in
      rw (← here) (ap (λ bs. block_of (e.0, s) ∷ bs) (kept-others e.0 (e.0 + 1) (keeps s) es (omega arith) up.1))
  by false is true is_less found rest =
      let none : find n es ≡ None = find_below n (e.0 + 1) es (grind (arith, nat_tests)) up.1 in
      absurd (cc (none, found))
  by false is false is_less found rest = ap (λ bs. block_of e ∷ bs) (rest found)

pub settled-kept : (n : ℕ) (change : Change Sending) (es : List (ℕ × Sending)) → AreAscending 0 es → is_some (find n es) ≡ true → kept_at n change es ≡ map block_of (settled n change es)
settled-kept n stays es up found = kept-stays n es
settled-kept n (keeps s) es up found = kept-put n 0 s es up found
settled-kept n ends es up found = kept-without n es

-- ---- how many there are

pub length-put_same : (n low : ℕ) (s : Sending) (es : List (ℕ × Sending)) → AreAscending low es → is_some (find n es) ≡ true → length (put n s es) ≡ length es
unfolding find put
length-put_same n low s [] up found = absurd (cc)
length-put_same n low s (e ∷ es) up found = by (e.0 == n) (nat_lt n e.0) refl found (λ h. length-put_same n (e.0 + 1) s es up.1 h) where
  by : (same less : Bool) → nat_lt n e.0 ≡ less → is_some (if same then Some e.1 else find n es) ≡ true → (is_some (find n es) ≡ true → length (put n s es) ≡ length es)
      → length (if same then (n, s) ∷ es else if less then (n, s) ∷ (e ∷ es) else e ∷ put n s es) ≡ suc (length es)
  by true less is found rest = refl
  by false true is found rest =
      let none : find n es ≡ None = find_below n (e.0 + 1) es (grind (arith, nat_tests)) up.1 in
      absurd (cc (none, found))
  by false false is found rest = ap (λ m. suc m) (rest found)

-- ---- a new one is the last

pub put-last : (n : ℕ) (s : Sending) (es : List (ℕ × Sending)) → AllByRecursion (λ (e : ℕ × Sending). e.0 < n) es → put n s es ≡ es ++ (n, s) ∷ []
unfolding put
put-last n s [] below = refl
put-last n s (e ∷ es) below = rw (ne_eqb e.0 n (λ same. absurd (omega (arith, same, below.0))), past e.0 below.0) (ap (λ xs. e ∷ xs) (put-last n s es below.1)) where
  past : (m : ℕ) → m < n → nat_lt n m ≡ false
  past m less = grind (arith, nat_tests)

-- ---- each of some entries

all-map : {X : Type 0} (P Q : X → Type 0) (xs : List X) → AllByRecursion P xs → ((x : X) → P x → Q x) → AllByRecursion Q xs
all-map P Q [] all holds = tt
all-map P Q (x ∷ xs) all holds = (holds x all.0, all-map P Q xs all.1 holds)

below-put : (n next : ℕ) (s : Sending) (es : List (ℕ × Sending)) → n < next → AllByRecursion (λ (e : ℕ × Sending). e.0 < next) es → AllByRecursion (λ (e : ℕ × Sending). e.0 < next) (put n s es)
unfolding put
below-put n next s [] less all = (less, tt)
below-put n next s (e ∷ es) less all = by (e.0 == n) (nat_lt n e.0) (below-put n next s es less all.1) where
  by : (same below : Bool) → AllByRecursion (λ (e : ℕ × Sending). e.0 < next) (put n s es)
      → AllByRecursion (λ (e : ℕ × Sending). e.0 < next) (if same then (n, s) ∷ es else if below then (n, s) ∷ (e ∷ es) else e ∷ put n s es)
  by true below rest = (less, all.1)
  by false true rest = (less, all)
  by false false rest = (all.0, rest)

below-without : (n next : ℕ) (es : List (ℕ × Sending)) → AllByRecursion (λ (e : ℕ × Sending). e.0 < next) es → AllByRecursion (λ (e : ℕ × Sending). e.0 < next) (without n es)
unfolding without
below-without n next [] all = tt
below-without n next (e ∷ es) all = by (e.0 == n) (below-without n next es all.1) where
  by : (same : Bool) → AllByRecursion (λ (e : ℕ × Sending). e.0 < next) (without n es) → AllByRecursion (λ (e : ℕ × Sending). e.0 < next) (if same then without n es else e ∷ without n es)
  by true rest = rest
  by false rest = (all.0, rest)

below-ticked : (change : Sending → Change Sending) (next : ℕ) (es : List (ℕ × Sending)) → AllByRecursion (λ (e : ℕ × Sending). e.0 < next) es → AllByRecursion (λ (e : ℕ × Sending). e.0 < next) (ticked change es)
unfolding ticked
below-ticked change next [] all = tt
below-ticked change next (e ∷ es) all = by (change e.1) (below-ticked change next es all.1) where
  by : (c : Change Sending) → AllByRecursion (λ (e : ℕ × Sending). e.0 < next) (ticked change es) → AllByRecursion (λ (e : ℕ × Sending). e.0 < next) (then_kept e c (ticked change es))
  by stays rest = (all.0, rest)
  by (keeps s) rest = (all.0, rest)
  by ends rest = rest

-- ---- the blocks, after a step

same-some : {X : Type 0} {x y : X} → Some x ≡ Some y → x ≡ y
same-some is = cc

-- the sending sessions stayed as they were
hear-same : (policy : PolicyValue) (now : ℕ) (es : List (ℕ × Sending)) → AreAscending 0 es → blocks_after (events.Heard None) policy now es (map block_of es) ≡ map block_of es
hear-same policy now es up =
    blocks-kept (λ (b : Block). heard_block None (first_timer policy now) (is_open b.session es) b) (λ (e : ℕ × Sending). Some e.1) es
    (all-map (λ (e : ℕ × Sending). find e.0 es ≡ Some e.1) (λ (e : ℕ × Sending). heard_block None (first_timer policy now) (is_open e.0 es) (block_of e) ≡ block_kept e.0 (Some e.1)) es (each-found 0 es up) each)
    ∙ flat_map_single block_of es where
      each : (e : ℕ × Sending) → find e.0 es ≡ Some e.1 → heard_block None (first_timer policy now) (is_kept_open (find e.0 es)) (block_of e) ≡ Some (block_of e)
      each e found = rw (found, stays-kept e.1 (first_timer policy now)) refl

abbrev is_end : Change Sending → Bool
is_end stays = false
is_end (keeps s) = false
is_end ends = true

changed-is : (policy : PolicyValue) (now n : ℕ) (s : Sending) (change : Change Sending) (over : Option ℕ) (e : ℕ × Sending) → KeepsBy (first_timer policy now) s change
    → over ≡ over_of (is_end change) n → (e.0 == n) ≡ true → e.1 ≡ s
    → heard_block over (first_timer policy now) (is_kept_open (after change (Some s))) (block_of e) ≡ block_kept e.0 (after change (Some e.1))
changed-is policy now n s stays over e keep is_over here same = rw (is_over, same, stays-kept s (first_timer policy now)) refl
changed-is policy now n s (keeps t) over e keep is_over here same = rw (is_over, same, keep.cancel, keep.block) refl
changed-is policy now n s ends over e keep is_over here same = rw (is_over, flipped e.0 here) refl where
  flipped : (m : ℕ) → (m == n) ≡ true → (n == m) ≡ true
  flipped m is = grind (arith, nat_tests)

other-is : (policy : PolicyValue) (now n : ℕ) (fewer : Bool) (over : Option ℕ) (e : ℕ × Sending) → over ≡ over_of fewer n → (e.0 == n) ≡ false
    → heard_block over (first_timer policy now) (is_kept_open (Some e.1)) (block_of e) ≡ Some (block_of e)
other-is policy now n true over e is_over apart = rw (is_over, flipped e.0 apart, stays-kept e.1 (first_timer policy now)) refl where
  flipped : (m : ℕ) → (m == n) ≡ false → (n == m) ≡ false
  flipped m is = grind (arith, nat_tests)
other-is policy now n false over e is_over apart = rw (is_over, stays-kept e.1 (first_timer policy now)) refl

hear-changed : (policy : PolicyValue) (now n : ℕ) (s : Sending) (change : Change Sending) (over : Option ℕ) (es : List (ℕ × Sending)) → AreAscending 0 es → find n es ≡ Some s
    → KeepsBy (first_timer policy now) s change → over ≡ over_of (is_end change) n
    → blocks_after (events.Heard over) policy now (settled n change es) (map block_of es) ≡ map block_of (settled n change es)
hear-changed policy now n s change over es up found keep is_over =
    blocks-kept (λ (b : Block). heard_block over (first_timer policy now) (is_open b.session (settled n change es)) b) (changed_at n change) es
    (all-map (λ (e : ℕ × Sending). find e.0 es ≡ Some e.1) (λ (e : ℕ × Sending). heard_block over (first_timer policy now) (is_open e.0 (settled n change es)) (block_of e) ≡ block_kept e.0 (changed_at n change e)) es
    (each-found 0 es up) each)
    ∙ settled-kept n change es up (ap (λ x. is_some x) found) where
      each : (e : ℕ × Sending) → find e.0 es ≡ Some e.1 → heard_block over (first_timer policy now) (is_kept_open (find e.0 (settled n change es))) (block_of e) ≡ block_kept e.0 (changed_at n change e)
      each e at = by (e.0 == n) refl where
        differ : {b : Bool} → b ≡ false → b ≡ true → ⊥
        differ is also = cc

        by : (same : Bool) → (e.0 == n) ≡ same → heard_block over (first_timer policy now) (is_kept_open (find e.0 (settled n change es))) (block_of e) ≡ block_kept e.0 (if same then after change (Some e.1) else Some e.1)
        by true is =
            let here : e.0 ≡ n = eqb-true e.0 n is in
            let same : e.1 ≡ s = same-some (sym at ∙ (ap (λ m. find m es) here ∙ found)) in
            ap (λ (x : Option Sending). heard_block over (first_timer policy now) (is_kept_open x) (block_of e)) (ap (λ m. find m (settled n change es)) here ∙ (find-settled n change es ∙ ap (λ x. after change x) found))
            ∙ changed-is policy now n s change over e keep is_over is same
        by false is =
            ap (λ (x : Option Sending). heard_block over (first_timer policy now) (is_kept_open x) (block_of e)) (find-settled_other e.0 n change es (λ same. differ is (eq-eqb e.0 n same)) ∙ at)
            ∙ other-is policy now n (is_end change) over e is_over is

-- the code sees by their number whether a session is over
fewer-ends : (n : ℕ) (change : Change Sending) (es : List (ℕ × Sending)) → AreAscending 0 es → is_some (find n es) ≡ true → nat_lt (length (settled n change es)) (length es) ≡ is_end change
fewer-ends n stays es up found = never (length es) (length es) (omega arith) where
  never : (a b : ℕ) → b ≤ a → nat_lt a b ≡ false
  never a b most = grind (arith, nat_tests)
fewer-ends n (keeps s) es up found = never (length (put n s es)) (length es) (let same = length-put_same n 0 s es up found in omega (arith, same)) where
  never : (a b : ℕ) → b ≤ a → nat_lt a b ≡ false
  never a b most = grind (arith, nat_tests)
fewer-ends n ends es up found = always (length (without n es)) (length es) (let fewer = length-without_found n es found in omega (arith, fewer)) where
  always : (a b : ℕ) → a < b → nat_lt a b ≡ true
  always a b less = grind (arith, nat_tests)

-- sessions after a segment: whether there are fewer, the segment being of a session that the face began
pub record HeardBlocks (policy : PolicyValue) (now next n : ℕ) (before after_it : List (ℕ × Sending)) (own : Bool) : Type 0 where
  pub blocks : blocks_if own (events.Heard (over_of (nat_lt (length after_it) (length before)) n)) policy now after_it (map block_of before) ≡ map block_of after_it
  pub ascending : AreAscending 0 after_it
  pub below : AllByRecursion (λ (e : ℕ × Sending). e.0 < next) after_it

pub heard-same : (policy : PolicyValue) (now next n : ℕ) (before after_it : List (ℕ × Sending)) (own : Bool) → after_it ≡ before → AreAscending 0 before → AllByRecursion (λ (e : ℕ × Sending). e.0 < next) before
    → HeardBlocks policy now next n before after_it own
heard-same policy now next n before after_it own same up below = subst (λ (es : List (ℕ × Sending)). HeardBlocks policy now next n before es own) (sym same) (record {
  blocks = by own;
  ascending = up;
  below = below;
}) where
  never : (a : ℕ) → nat_lt a a ≡ false
  never a = grind (arith, nat_tests)

  by : (own : Bool) → blocks_if own (events.Heard (over_of (nat_lt (length before) (length before)) n)) policy now before (map block_of before) ≡ map block_of before
  by true = ap (λ (fewer : Bool). blocks_after (events.Heard (over_of fewer n)) policy now before (map block_of before)) (never (length before)) ∙ hear-same policy now before up
  by false = refl

pub heard-changed : (policy : PolicyValue) (now next n : ℕ) (before : List (ℕ × Sending)) (content : ContentValue) (step : StepValue Sending) (kept : Option Sending)
    → find n before ≡ kept → sender_answers policy kept content now ≡ Some step → n < next → AreAscending 0 before → AllByRecursion (λ (e : ℕ × Sending). e.0 < next) before
    → HeardBlocks policy now next n before (settled n step.next before) true
heard-changed policy now next n before content step None is answers less up below =
    heard-same policy now next n before (settled n step.next before) true (ap (λ (c : Change Sending). settled n c before) (none-stays policy content now step answers)) up below
heard-changed policy now next n before content step (Some s) is answers less up below = record {
  blocks =
      ap (λ (fewer : Bool). blocks_after (events.Heard (over_of fewer n)) policy now (settled n step.next before) (map block_of before)) (fewer-ends n step.next before up (ap (λ x. is_some x) is))
      ∙ hear-changed policy now n s step.next (over_of (is_end step.next) n) before up is (answer-keeps policy s content now step answers) refl;
  ascending = ascending-settled n 0 step.next before (omega arith) up;
  below = by step.next;
} where
  by : (c : Change Sending) → AllByRecursion (λ (e : ℕ × Sending). e.0 < next) (settled n c before)
  by stays = below
  by (keeps t) = below-put n next t before less below
  by ends = below-without n next before below

-- all sessions ticked
pub ticked-blocks : (policy : PolicyValue) (now : ℕ) (es : List (ℕ × Sending)) → AreAscending 0 es
    → blocks_after events.Ticked policy now (ticked (λ (s : Sending). (sender_tick policy s now).next) es) (map block_of es) ≡ map block_of (ticked (λ (s : Sending). (sender_tick policy s now).next) es)
ticked-blocks policy now es up =
    blocks-kept (λ (b : Block). ticked_block policy now (is_open b.session (ticked change es)) b) (λ (e : ℕ × Sending). after (change e.1) (Some e.1)) es
    (all-map (λ (e : ℕ × Sending). find e.0 es ≡ Some e.1) (λ (e : ℕ × Sending). ticked_block policy now (is_open e.0 (ticked change es)) (block_of e) ≡ block_kept e.0 (after (change e.1) (Some e.1))) es (each-found 0 es up) each)
    ∙ ticked-kept change es where
      change : Sending → Change Sending
      change s = (sender_tick policy s now).next

      each : (e : ℕ × Sending) → find e.0 es ≡ Some e.1 → ticked_block policy now (is_kept_open (find e.0 (ticked change es))) (block_of e) ≡ block_kept e.0 (after (change e.1) (Some e.1))
      each e at =
          ap (λ (x : Option Sending). ticked_block policy now (is_kept_open x) (block_of e)) (find-ticked change e.0 0 es up ∙ ap (λ x. after_tick change x) at)
          ∙ tick-block policy e.0 e.1 now

pub ticked-below : (policy : PolicyValue) (now next : ℕ) (es : List (ℕ × Sending)) → AllByRecursion (λ (e : ℕ × Sending). e.0 < next) es
    → AllByRecursion (λ (e : ℕ × Sending). e.0 < next) (ticked (λ (s : Sending). (sender_tick policy s now).next) es)
ticked-below policy now next es below = below-ticked (λ (s : Sending). (sender_tick policy s now).next) next es below
