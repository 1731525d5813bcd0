-- Of a command that answers line by line, what a front of the input settles is a front of what the
-- input settles.
use Rattle.std.proofs.Common.{◌≡◌, ℕ, ◌+◌, ◌≤◌, Bool, true, false, ◌||◌, List, [], ◌∷◌, ◌++◌, length, drop, Option, None, Some, refl, sym, ◌∙◌, ap, arith, append_assoc, if◌then◌else◌, nat_lt, length-append, length-drop, inl, inr, ◌⊎◌}
use Rattle.std.proofs.lemmas.List.{append-nil}
use Rattle.edge_traits.specs.declared.status.Status.{Status}
use Rattle.edge_traits.specs.declared.status.Status.TheVariants as statuses
use Rattle.edge_traits.specs.Settled.{at_end, goes_on, Settled, nothing_yet, put_before, GoesOnAs, IsFrontOf, EarliestDecides}
use Rattle.command_frame.specs.InputLines.{lines_of, ended_part, open_part}
use Rattle.command_frame.specs.Lines.{Turn, passes, ends_run, LineRules, turn_at, after_turn, lines_settle, opens_past, open_ending, lines_from}
use Rattle.command_frame.specs.Within.{or_limit}
use Rattle.command_frame.proofs.InputLinesLemmas.{lines-after, text-parts, open-none, ended-after, Begins, open-begins, ended-open}
use Rattle.command_frame.proofs.LinesLemmas.{past-some, past-turn, past-longer, turn-past}
use Rattle.command_frame.proofs.WithinLemmas.{same-front}

front-text : (text : List ℕ) (earlier later : Settled) → IsFrontOf earlier later → IsFrontOf (put_before text earlier) (put_before text later)
front-text text earlier later front = by_end earlier.ends refl front
  where
    by_end : (e : Option Status) → earlier.ends ≡ e → GoesOnAs earlier.ends earlier later → GoesOnAs earlier.ends (put_before text earlier) (put_before text later)
    by_end None is front = rw is (let (rest, more) = rw is at front in (rest, ap (λ (v : List ℕ). text ++ v) more ∙ sym (append_assoc text earlier.text rest)))
    by_end (Some status) is front = rw is (let same = rw is at front in ap (put_before text) same)

-- octets taken, and octets more
ended-parts : (taken more : List ℕ) → ended_part (taken ++ more) ≡ ended_part taken ++ ended_part (open_part taken ++ more)
ended-parts taken more =
    let parts : taken ++ more ≡ ended_part taken ++ (open_part taken ++ more) =
    ap (λ (v : List ℕ). v ++ more) (text-parts taken) ∙ append_assoc (ended_part taken) (open_part taken) more in
    ap ended_part parts ∙ ended-after taken (open_part taken ++ more)

-- a run that ends with the limit
abbrev at_limit : Settled
at_limit = record { text = []; ends = Some statuses.Limit }

module _ {S : Type 0} (rules : LineRules S) where
  turn-front : (turn : Turn S) (one two : S → Settled) → ((now : S) → IsFrontOf (one now) (two now))
      → IsFrontOf (after_turn turn one) (after_turn turn two)
  turn-front (passes text state) one two later = front-text text (one state) (two state) (later state)
  turn-front (ends_run text status) one two later = refl

  turn-same : (turn : Turn S) (one two : S → Settled) → ((now : S) → one now ≡ two now) → after_turn turn one ≡ after_turn turn two
  turn-same (passes text state) one two later = ap (put_before text) (later state)
  turn-same (ends_run text status) one two later = refl

  -- lines that have ended settle a front of what more lines settle
  lines-front : (n : ℕ) (state : S) (lines more : List (List ℕ)) (ending : S → Settled)
      → IsFrontOf (lines_settle rules n state lines (λ now. nothing_yet)) (lines_settle rules n state (lines ++ more) ending)
  unfolding lines_settle
  lines-front n state [] more ending = ((lines_settle rules n state more ending).text, refl)
  lines-front n state (line ∷ lines) more ending =
      turn-front (turn_at rules n state line) _ _ (λ now. lines-front (n + 1) now lines more ending)

  lines-same : (n : ℕ) (state : S) (lines : List (List ℕ)) (one two : S → Settled) → ((now : S) → one now ≡ two now)
      → lines_settle rules n state lines one ≡ lines_settle rules n state lines two
  unfolding lines_settle
  lines-same n state [] one two same = same state
  lines-same n state (line ∷ lines) one two same =
      turn-same (turn_at rules n state line) _ _ (λ now. lines-same (n + 1) now lines one two same)

  -- a line that passes a limit by its number or its length ends the run there
  lines-limit : (n : ℕ) (state : S) (lines : List (List ℕ)) (line : List ℕ) (later : List (List ℕ)) (ending : S → Settled)
      → (nat_lt rules.lines (n + length lines) || nat_lt rules.octets (length line)) ≡ true
      → lines_settle rules n state (lines ++ line ∷ later) ending ≡ lines_settle rules n state lines (λ now. at_limit)
  unfolding lines_settle
  lines-limit n state [] line later ending past =
      let same : n + 0 ≡ n = omega arith in
      let here = rw same at past in
      rw (turn-past rules n state line here) refl
  lines-limit n state (first ∷ lines) line later ending past =
      let same : n + length (first ∷ lines) ≡ n + 1 + length lines = omega arith in
      let there = rw same at past in
      turn-same (turn_at rules n state first) _ _ (λ now. lines-limit (n + 1) now lines line later ending there)

  -- the lines that follow begin with the open one, or there is none and the run ends with the limit
  abbrev FollowsOpen : List ℕ → List (List ℕ) → (S → Settled) → Type 0
  FollowsOpen begun lines ending = Begins begun lines ⊎ ((lines ≡ []) × ((now : S) → ending now ≡ at_limit))

  past-same : (n : ℕ) (state : S) (lines more : List (List ℕ)) (begun : List ℕ) (ending : S → Settled)
      → opens_past rules (n + length lines) begun ≡ true → FollowsOpen begun more ending
      → lines_settle rules n state (lines ++ more) ending ≡ lines_settle rules n state lines (λ now. at_limit)
  past-same n state lines more begun ending past (inl begins) =
      rw begins.lines_are
      (lines-limit n state lines begins.line begins.later ending (past-turn rules (n + length lines) begun begins.line past begins.longer))
  past-same n state lines more begun ending past (inr (none, is)) =
      rw (none, append-nil lines) (lines-same n state lines ending (λ now. at_limit) is)

  ended-front : (n : ℕ) (state : S) (lines more : List (List ℕ)) (begun : List ℕ) (ending : S → Settled)
      → (opens_past rules (n + length lines) begun ≡ true → FollowsOpen begun more ending)
      → IsFrontOf (lines_settle rules n state lines (λ now. open_ending rules (n + length lines) begun)) (lines_settle rules n state (lines ++ more) ending)
  ended-front n state lines more begun ending follows = by_test (opens_past rules (n + length lines) begun) refl
    where
      by_test : (t : Bool) → opens_past rules (n + length lines) begun ≡ t
          → IsFrontOf (lines_settle rules n state lines (λ now. if t then at_limit else nothing_yet)) (lines_settle rules n state (lines ++ more) ending)
      by_test false test = lines-front n state lines more ending
      by_test true test =
          rw (past-same n state lines more begun ending test (follows test))
          (same-front (lines_settle rules n state lines (λ now. at_limit)))

  module _ (n : ℕ) (state : S) (taken more : List ℕ) where
    at_end-front : IsFrontOf (lines_from rules n state goes_on taken) (lines_from rules n state at_end (taken ++ more))
    unfolding lines_from
    at_end-front =
        let parts : taken ++ more ≡ ended_part taken ++ (open_part taken ++ more) =
        ap (λ (v : List ℕ). v ++ more) (text-parts taken) ∙ append_assoc (ended_part taken) (open_part taken) more in
        rw (parts, lines-after taken (open_part taken ++ more))
        (ended-front n state (lines_of (ended_part taken)) (lines_of (open_part taken ++ more)) (open_part taken) rules.finish
        (λ past. inl (open-begins (open_part taken) more (past-some rules _ (open_part taken) past) (open-none taken))))

    goes_on-front : IsFrontOf (lines_from rules n state goes_on taken) (lines_from rules n state goes_on (taken ++ more))
    unfolding lines_from lines_of
    goes_on-front =
        rw (lines_are taken more)
        (ended-front n state (lines_of (ended_part taken)) (lines_of (ended_part (open_part taken ++ more))) (open_part taken)
        (λ now. open_ending rules (n + length (lines_of (ended_part taken) ++ lines_of (ended_part (open_part taken ++ more)))) (open_part (taken ++ more)))
        (λ past. by_ended past (ended-open (open_part taken) more (open-none taken))))
      where
        lines_are : (taken more : List ℕ)
            → lines_of (ended_part (taken ++ more)) ≡ lines_of (ended_part taken) ++ lines_of (ended_part (open_part taken ++ more))
        lines_are taken more = ap lines_of (ended-parts taken more) ∙ lines-after taken (ended_part (open_part taken ++ more))

        last : opens_past rules (n + length (lines_of (ended_part taken))) (open_part taken) ≡ true → ended_part (open_part taken ++ more) ≡ []
            → open_ending rules (n + length (lines_of (ended_part taken) ++ lines_of (ended_part (open_part taken ++ more)))) (open_part (taken ++ more)) ≡ at_limit
        last past none =
            let ended : ended_part (taken ++ more) ≡ ended_part taken = ended-parts taken more ∙ ap (λ (v : List ℕ). ended_part taken ++ v) none ∙ append-nil (ended_part taken) in
            let size : length taken ≡ length (ended_part taken) + length (open_part taken) = ap length (text-parts taken) ∙ length-append (ended_part taken) (open_part taken) in
            let longer : length (open_part taken) ≤ length (drop (length (ended_part taken)) (taken ++ more)) =
            omega (arith, length-drop (length (ended_part taken)) (taken ++ more), length-append taken more, size) in
            let passed = past-longer rules (n + length (lines_of (ended_part taken))) (open_part taken) (drop (length (ended_part taken)) (taken ++ more)) past longer in
            rw (ended, none, append-nil (lines_of (ended_part taken)), passed) refl

        by_ended : opens_past rules (n + length (lines_of (ended_part taken))) (open_part taken) ≡ true
            → (ended_part (open_part taken ++ more) ≡ []) ⊎ (ended_part (open_part taken ++ more) ≡ open_part taken ++ ended_part more)
            → FollowsOpen (open_part taken) (lines_of (ended_part (open_part taken ++ more)))
            (λ now. open_ending rules (n + length (lines_of (ended_part taken) ++ lines_of (ended_part (open_part taken ++ more)))) (open_part (taken ++ more)))
        by_ended past (inl none) = inr (ap lines_of none, λ now. last past none)
        by_ended past (inr is) = inl (rw is (open-begins (open_part taken) (ended_part more) (past-some rules _ (open_part taken) past) (open-none taken)))

  pub lines_from-front : (n : ℕ) (state : S) → EarliestDecides (lines_from rules n state)
  lines_from-front n state at_end taken more = at_end-front n state taken more
  lines_from-front n state goes_on taken more = goes_on-front n state taken more

  -- ---- lines that end, and then the limit

  or_limit-turn : (turn : Turn S) (one two : S → Settled) → ((now : S) → or_limit (one now) ≡ two now) → or_limit (after_turn turn one) ≡ after_turn turn two
  or_limit-turn (passes text state) one two later = ap (put_before text) (later state)
  or_limit-turn (ends_run text status) one two later = refl

  or_limit-lines : (n : ℕ) (state : S) (lines : List (List ℕ)) (one two : S → Settled) → ((now : S) → or_limit (one now) ≡ two now)
      → or_limit (lines_settle rules n state lines one) ≡ lines_settle rules n state lines two
  unfolding lines_settle
  or_limit-lines n state [] one two same = same state
  or_limit-lines n state (line ∷ lines) one two same =
      or_limit-turn (turn_at rules n state line) _ _ (λ now. or_limit-lines (n + 1) now lines one two same)

  open-limit : (n : ℕ) (first : List ℕ) → or_limit (open_ending rules n first) ≡ at_limit
  open-limit n first = by_test (opens_past rules n first)
    where
      by_test : (t : Bool) → or_limit (if t then at_limit else nothing_yet) ≡ at_limit
      by_test true = refl
      by_test false = refl

  -- of octets at a limit the lines that end within them are answered, and the run ends there
  pub from-limit : (n : ℕ) (state : S) (taken : List ℕ) → or_limit (lines_from rules n state goes_on taken)
      ≡ lines_settle rules n state (lines_of (ended_part taken)) (λ now. record { text = []; ends = Some statuses.Limit })
  unfolding lines_from
  from-limit n state taken =
      or_limit-lines n state (lines_of (ended_part taken)) _ _ (λ now. open-limit (n + length (lines_of (ended_part taken))) (open_part taken))

  pub from-end : (n : ℕ) (state : S) (input : List ℕ) → lines_from rules n state at_end input
      ≡ lines_settle rules n state (lines_of input) rules.finish
  unfolding lines_from
  from-end n state input = refl
