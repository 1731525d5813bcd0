-- A command that answers line by line, as its octets come.
use Rattle.std.proofs.Common.{◌≡◌, ℕ, ◌+◌, ◌<◌, ◌≤◌, true, false, ◌||◌, List, [], ◌∷◌, ◌++◌, length, Option, None, Some, IfSome, Result, Ok, Err, IfOk, refl, sym, ◌∙◌, ap, arith, append_assoc, nat_lt, length-append, inl, inr, ◌⊎◌}
use Rattle.std.proofs.lemmas.List.{append-nil, nil_from_length}
use Rattle.std.proofs.lemmas.Bool.Decides.{nat_tests}
use Rattle.edge_traits.specs.declared.status.Status.{Status}
use Rattle.edge_traits.specs.declared.status.Status.TheVariants as statuses
use Rattle.edge_traits.specs.Settled.{Ends, at_end, goes_on, Settled, nothing_yet}
use Rattle.command_frame.specs.InputLines.{lines_of, ended_part, open_part}
use Rattle.command_frame.specs.Stops.{IsStop}
use Rattle.command_frame.specs.Task.{Settling, IsQuiet, Feeds, Finishes, WritesOfNothing}
use Rattle.command_frame.specs.Lines.{Turn, passes, ends_run, LineRules, turn_at, after_turn, lines_settle, opens_past, open_ending, lines_from, by_lines, TurnsAs, EndsAs, InLine}
use Rattle.command_frame.proofs.WithinLemmas.{Takes-more}
use Rattle.command_frame.proofs.InputLinesLemmas.{Begins, open-begins, ended-open, plain-append, open-some, no-lines, ended-line, lines-line, open-line}

-- ---- feeding on

pub Feeds-over : (Stands : Settling → Type 0) (settles : Settling) (a b before now : List ℕ) (status : Status)
    → Feeds Stands settles a before now (Some status) → Feeds Stands settles (a ++ b) before now (Some status)
Feeds-over Stands settles a b before now status fed = record {
  text = fed.text;
  added = fed.added;
  takes = (fed.takes.0, λ ends more. rw (append_assoc a b more) (fed.takes.1 ends (b ++ more)));
}

pub Feeds-more : (Mid Stands : Settling → Type 0) (settles : Settling) (a b before between now : List ℕ) (ends : Option Status)
    → Feeds Mid settles a before between None → ((later : Settling) → Mid later → Feeds Stands later b between now ends)
    → Feeds Stands settles (a ++ b) before now ends
Feeds-more Mid Stands settles a b before between now ends fed more =
    let (mid, stands, quiet, goes) = fed.takes in
    let on = more mid stands in
    record {
      text = fed.text ++ on.text;
      added = rw (on.added, fed.added, append_assoc before fed.text on.text) refl;
      takes = Takes-more Stands settles mid a b fed.text on.text ends goes on.takes;
    }

-- ---- what lines settle

module _ {S : Type 0} (rules : LineRules S) where
  pub past-some : (n : ℕ) (first : List ℕ) → opens_past rules n first ≡ true → 0 < length first
  past-some n first past = grind (arith, nat_tests)

  pub past-turn : (n : ℕ) (first line : List ℕ) → opens_past rules n first ≡ true → length first ≤ length line
      → (nat_lt rules.lines n || nat_lt rules.octets (length line)) ≡ true
  past-turn n first line past longer = grind (arith, nat_tests)

  pub past-longer : (n : ℕ) (first longer : List ℕ) → opens_past rules n first ≡ true → length first ≤ length longer
      → opens_past rules n longer ≡ true
  past-longer n first longer past more = grind (arith, nat_tests)

  pub past-by : (n : ℕ) (first octets : List ℕ) → 0 < length octets
      → (nat_lt rules.lines n || nat_lt rules.octets (length first + length octets)) ≡ opens_past rules n (first ++ octets)
  past-by n first octets some = grind (arith, nat_tests, length-append first octets)

  pub turn-past : (n : ℕ) (state : S) (line : List ℕ) → (nat_lt rules.lines n || nat_lt rules.octets (length line)) ≡ true
      → turn_at rules n state line ≡ ends_run [] statuses.Limit
  unfolding turn_at
  turn-past n state line past = rw past refl

  pub turn-inside : (n : ℕ) (state : S) (line : List ℕ) → (nat_lt rules.lines n || nat_lt rules.octets (length line)) ≡ false
      → turn_at rules n state line ≡ rules.step n state line
  unfolding turn_at
  turn-inside n state line inside = rw inside refl

  -- the octets so far settle nothing
  pub lines-quiet : (n : ℕ) (state : S) (first : List ℕ) → ended_part first ≡ [] → opens_past rules n first ≡ false
      → lines_from rules n state goes_on (first ++ []) ≡ nothing_yet
  unfolding lines_from lines_settle lines_of
  lines-quiet n state first plain inside =
      let same : n + 0 ≡ n = omega arith in
      rw (append-nil first, plain, same, inside) refl

  -- a line that passes a limit
  first-past : (n : ℕ) (state : S) (first : List ℕ) (lines : List (List ℕ)) (ending : S → Settled) → opens_past rules n first ≡ true → Begins first lines
      → lines_settle rules n state lines ending ≡ record { text = []; ends = Some statuses.Limit }
  unfolding lines_settle
  first-past n state first lines ending past begins =
      rw (begins.lines_are, turn-past n state begins.line (past-turn n first begins.line past begins.longer)) refl

  pub lines-past : (n : ℕ) (state : S) (first : List ℕ) → ended_part first ≡ [] → opens_past rules n first ≡ true
      → (ends : Ends) (more : List ℕ) → lines_from rules n state ends (first ++ more) ≡ record { text = []; ends = Some statuses.Limit }
  unfolding lines_from lines_settle lines_of
  lines-past n state first plain past at_end more =
      first-past n state first (lines_of (first ++ more)) rules.finish past (open-begins first more (past-some n first past) plain)
  lines-past n state first plain past goes_on more = by_ended (ended-open first more plain)
    where
      by_ended : (ended_part (first ++ more) ≡ []) ⊎ (ended_part (first ++ more) ≡ first ++ ended_part more)
          → lines_settle rules n state (lines_of (ended_part (first ++ more)))
          (λ now. open_ending rules (n + length (lines_of (ended_part (first ++ more)))) (open_part (first ++ more)))
          ≡ record { text = []; ends = Some statuses.Limit }
      by_ended (inl none) =
          let same : n + 0 ≡ n = omega arith in
          let longer : opens_past rules n (first ++ more) ≡ true = past-longer n first (first ++ more) past (omega (arith, length-append first more)) in
          rw (none, same, longer) refl
      by_ended (inr is) =
          first-past n state first (lines_of (ended_part (first ++ more)))
          (λ now. open_ending rules (n + length (lines_of (ended_part (first ++ more)))) (open_part (first ++ more)))
          past (rw is (open-begins first (ended_part more) (past-some n first past) plain))

  -- a line that ends
  pub lines-ended : (n : ℕ) (state : S) (line : List ℕ) → ended_part line ≡ [] → (ends : Ends) (more : List ℕ)
      → lines_from rules n state ends (line ++ 10 ∷ more) ≡ after_turn (turn_at rules n state line) (λ now. lines_from rules (n + 1) now ends more)
  unfolding lines_from lines_settle
  lines-ended n state line plain at_end more = rw (lines-line line more plain) refl
  lines-ended n state line plain goes_on more =
      let same : n + length (line ∷ lines_of (ended_part more)) ≡ n + 1 + length (lines_of (ended_part more)) = omega arith in
      rw (open-line line more plain, ended-line line more plain, lines-line line (ended_part more) plain, same) refl

  -- the end of the input
  pub lines-done : (n : ℕ) (state : S) (first : List ℕ) → length first ≡ 0
      → lines_from rules n state at_end (first ++ []) ≡ rules.finish state
  unfolding lines_from lines_settle
  lines-done n state first none = rw (append-nil first, no-lines first none) refl

  pub lines-last : (n : ℕ) (state : S) (first : List ℕ) → 0 < length first → ended_part first ≡ []
      → lines_from rules n state at_end (first ++ []) ≡ after_turn (turn_at rules n state first) rules.finish
  unfolding lines_from lines_settle
  lines-last n state first some plain = rw (append-nil first, open-some first some plain) refl

  pub inside-line : (n : ℕ) (line : List ℕ) → 0 < length line → opens_past rules n line ≡ false
      → (nat_lt rules.lines n || nat_lt rules.octets (length line)) ≡ false
  inside-line n line some inside = grind (arith, nat_tests)

  pub fresh-inside : (n : ℕ) → opens_past rules n [] ≡ false
  fresh-inside n = grind (arith, nat_tests)

  -- ---- the reader of lines

  pub in_line-quiet : (Shows : S → Type 0) (n : ℕ) (rest : List ℕ) (settles : Settling) → InLine rules Shows n rest settles → IsQuiet settles
  in_line-quiet Shows n rest settles stands =
      let here = stands.is goes_on [] in
      here ∙ lines-quiet n stands.state rest stands.plain stands.inside

  pub in_line-start : (Shows : S → Type 0) (n : ℕ) (state : S) → Shows state → InLine rules Shows n [] (lines_from rules n state)
  unfolding ended_part
  in_line-start Shows n state shows = record {
    state = state;
    shows = shows;
    plain = refl;
    inside = fresh-inside n;
    is = λ ends more. refl;
  }

  pub in_line-new : (Shows : S → Type 0) (n : ℕ) (rest : List ℕ) (start : S) → Shows start → n ≡ 1 → rest ≡ [] → InLine rules Shows n rest (by_lines rules start)
  in_line-new Shows n rest start shows one none = rw (one, none) (in_line-start Shows 1 start shows)

  module _ (Shows Later : S → Type 0) (n : ℕ) (rest : List ℕ) (settles : Settling) (stands : InLine rules Shows n rest settles) where
    ends-so : (due : Settled) (status : Status) → due.ends ≡ Some status → due ≡ record { text = due.text; ends = Some status }
    ends-so due status is = ap (λ (ends : Option Status). record { text = due.text; ends = ends }) is

    pub finish-done : (before now : List ℕ) (status : Status) → length rest ≡ 0
        → ((state : S) → Shows state → EndsAs (rules.finish state) before now status) → Finishes settles before now status
    finish-done before now status none finished =
        let ends = finished stands.state stands.shows in
        record {
          text = (rules.finish stands.state).text;
          added = ends.added;
          ends = stands.is at_end [] ∙ (lines-done n stands.state rest none ∙ ends-so (rules.finish stands.state) status ends.ends);
        }

    -- nothing came of the line, and something is to be written where the input ends here
    pub finish-writes : rest ≡ [] → 0 < length (rules.finish stands.state).text → WritesOfNothing settles
    finish-writes none some =
        rw (stands.is at_end [] ∙ lines-done n stands.state rest (ap length none)) some

    pub last-settles : 0 < length rest → settles at_end [] ≡ after_turn (rules.step n stands.state rest) rules.finish
    last-settles some =
        stands.is at_end []
        ∙ (lines-last n stands.state rest some stands.plain
        ∙ ap (λ (turn : Turn S). after_turn turn rules.finish) (turn-inside n stands.state rest (inside-line n rest some stands.inside)))

    pub finished-done : {E : Type 0} (before now : List ℕ) (result : Result Status E) → length rest ≡ 0
        → ((state : S) → Shows state → IfOk result (EndsAs (rules.finish state) before now)) → IfOk result (Finishes settles before now)
    finished-done before now (Ok status) none finished = finish-done before now status none finished
    finished-done before now (Err e) none finished = tt

    -- octets of a line that hasn't ended
    pub keep-past : (Now : Settling → Type 0) (octets text : List ℕ) → 0 < length octets → ended_part octets ≡ []
        → (nat_lt rules.lines n || nat_lt rules.octets (length rest + length octets)) ≡ true
        → Feeds Now settles octets text text (Some statuses.Limit)
    keep-past Now octets text some plain past =
        let test : opens_past rules n (rest ++ octets) ≡ true = sym (past-by n rest octets some) ∙ past in
        record {
          text = [];
          added = sym (append-nil text);
          takes = (
            tt,
            λ ends more.
                stands.is ends (octets ++ more)
                ∙ rw (← append_assoc rest octets more) (lines-past n stands.state (rest ++ octets) (plain-append rest octets stands.plain plain) test ends more),
          );
        }

    pub keep-more : (octets text : List ℕ) → 0 < length octets → ended_part octets ≡ []
        → (nat_lt rules.lines n || nat_lt rules.octets (length rest + length octets)) ≡ false
        → (kept : List ℕ) → kept ≡ rest ++ octets → Feeds (InLine rules Shows n kept) settles octets text text None
    keep-more octets text some plain inside kept is =
        let test : opens_past rules n (rest ++ octets) ≡ false = sym (past-by n rest octets some) ∙ inside in
        let now : InLine rules Shows n (rest ++ octets) (λ ends more. lines_from rules n stands.state ends ((rest ++ octets) ++ more)) = record {
          state = stands.state;
          shows = stands.shows;
          plain = plain-append rest octets stands.plain plain;
          inside = test;
          is = λ ends more. refl;
        } in
        record {
          text = [];
          added = sym (append-nil text);
          takes = (
            λ ends more. lines_from rules n stands.state ends ((rest ++ octets) ++ more),
            rw is now,
            in_line-quiet Shows n (rest ++ octets) _ now,
            λ ends more. stands.is ends (octets ++ more) ∙ rw (append_assoc rest octets more) refl,
          );
        }

    -- a line that ends
    module _ (last : List ℕ) (plain : ended_part last ≡ []) where
      ended : (ends : Ends) (more : List ℕ) → settles ends ((last ++ 10 ∷ []) ++ more)
          ≡ after_turn (turn_at rules n stands.state (rest ++ last)) (λ now. lines_from rules (n + 1) now ends more)
      ended ends more =
          let same : rest ++ ((last ++ 10 ∷ []) ++ more) ≡ (rest ++ last) ++ 10 ∷ more =
          rw (append_assoc last (10 ∷ []) more, append_assoc rest last (10 ∷ more)) refl in
          stands.is ends ((last ++ 10 ∷ []) ++ more)
          ∙ rw same (lines-ended n stands.state (rest ++ last) (plain-append rest last stands.plain plain) ends more)

      pub line-past : (Now : Settling → Type 0) (text : List ℕ)
          → (nat_lt rules.lines n || nat_lt rules.octets (length rest + length last)) ≡ true
          → Feeds Now settles (last ++ 10 ∷ []) text text (Some statuses.Limit)
      line-past Now text past =
          let test : (nat_lt rules.lines n || nat_lt rules.octets (length (rest ++ last))) ≡ true = rw (length-append rest last) past in
          record {
            text = [];
            added = sym (append-nil text);
            takes = (tt, λ ends more. ended ends more ∙ rw (turn-past n stands.state (rest ++ last) test) refl);
          }

      line-turn-by : (turn : Turn S) (before now : List ℕ) (ends : Option Status) → IfSome ends IsStop
          → turn_at rules n stands.state (rest ++ last) ≡ turn → TurnsAs Later turn before now ends
          → Feeds (InLine rules Later (n + 1) []) settles (last ++ 10 ∷ []) before now ends
      line-turn-by (passes text state) before now None stop is turn =
          let here = in_line-start Later (n + 1) state turn.1 in
          record {
            text = text;
            added = turn.0;
            takes = (
              lines_from rules (n + 1) state,
              here,
              in_line-quiet Later (n + 1) [] _ here,
              λ ends more. ended ends more ∙ rw is refl,
            );
          }
      line-turn-by (passes text state) before now (Some status) stop is turn = absurd turn
      line-turn-by (ends_run text due) before now None stop is turn = absurd turn
      line-turn-by (ends_run text due) before now (Some status) stop is turn = record {
        text = text;
        added = turn.0;
        takes = (stop, λ ends more. ended ends more ∙ rw (is, turn.1, append-nil text) refl);
      }

      pub line-turn : (before now : List ℕ) (ends : Option Status) → IfSome ends IsStop
          → (nat_lt rules.lines n || nat_lt rules.octets (length rest + length last)) ≡ false
          → (line kept : List ℕ) → line ≡ rest ++ last → kept ≡ []
          → TurnsAs Later (rules.step n stands.state line) before now ends
          → Feeds (InLine rules Later (n + 1) kept) settles (last ++ 10 ∷ []) before now ends
      line-turn before now ends stop inside line kept line_is none turns =
          let test : (nat_lt rules.lines n || nat_lt rules.octets (length (rest ++ last))) ≡ false = rw (length-append rest last) inside in
          let turn = rw line_is at turns in
          rw none (line-turn-by (rules.step n stands.state (rest ++ last)) before now ends stop (turn-inside n stands.state (rest ++ last) test) turn)

-- ---- a piece, line by line

pub record FeedsOn (Old Now : Settling → Type 0) (before now piece left : List ℕ) : Type 0 where
  pub done : List ℕ
  pub parts : piece ≡ done ++ left
  pub goes : (settles : Settling) → Old settles → Feeds Now settles done before now None

pub FeedsOn-start : (Old : Settling → Type 0) (text piece : List ℕ) → ((settles : Settling) → Old settles → IsQuiet settles) → FeedsOn Old Old text text piece piece
FeedsOn-start Old text piece quiet = record {
  done = [];
  parts = refl;
  goes = λ settles stands. record {
    text = [];
    added = sym (append-nil text);
    takes = (settles, stands, quiet settles stands, λ ends more. refl);
  };
}

pub FeedsOn-more : (Old Mid Now : Settling → Type 0) (before between now piece left line rest : List ℕ)
    → FeedsOn Old Mid before between piece left → left ≡ line ++ 10 ∷ rest
    → ((settles : Settling) → Mid settles → Feeds Now settles (line ++ 10 ∷ []) between now None)
    → FeedsOn Old Now before now piece rest
FeedsOn-more Old Mid Now before between now piece left line rest so_far is more = record {
  done = so_far.done ++ (line ++ 10 ∷ []);
  parts = rw (so_far.parts, is, append_assoc so_far.done (line ++ 10 ∷ []) rest, append_assoc line (10 ∷ []) rest) refl;
  goes = λ settles stands. Feeds-more Mid Now settles so_far.done (line ++ 10 ∷ []) before between now None (so_far.goes settles stands) more;
}

pub FeedsOn-over : (Old Mid Now : Settling → Type 0) (before between now piece left line rest : List ℕ) (status : Status)
    → FeedsOn Old Mid before between piece left → left ≡ line ++ 10 ∷ rest
    → ((settles : Settling) → Mid settles → Feeds Now settles (line ++ 10 ∷ []) between now (Some status))
    → (settles : Settling) → Old settles → Feeds Now settles piece before now (Some status)
FeedsOn-over Old Mid Now before between now piece left line rest status so_far is more settles stands =
    let here = Feeds-more Mid Now settles so_far.done (line ++ 10 ∷ []) before between now (Some status) (so_far.goes settles stands) more in
    let all = Feeds-over Now settles (so_far.done ++ (line ++ 10 ∷ [])) rest before now status here in
    let same : piece ≡ (so_far.done ++ (line ++ 10 ∷ [])) ++ rest =
    rw (so_far.parts, is, append_assoc so_far.done (line ++ 10 ∷ []) rest, append_assoc line (10 ∷ []) rest) refl in
    rw same all

pub FeedsOn-last : (Old Mid Now : Settling → Type 0) (before between now piece left : List ℕ) (ends : Option Status)
    → FeedsOn Old Mid before between piece left → ((settles : Settling) → Mid settles → Feeds Now settles left between now ends)
    → (settles : Settling) → Old settles → Feeds Now settles piece before now ends
FeedsOn-last Old Mid Now before between now piece left ends so_far last settles stands =
    rw so_far.parts (Feeds-more Mid Now settles so_far.done left before between now ends (so_far.goes settles stands) last)

pub FeedsOn-none : (Old Now : Settling → Type 0) (before now piece left : List ℕ) → length left ≡ 0
    → FeedsOn Old Now before now piece left → (settles : Settling) → Old settles → Feeds Now settles piece before now None
FeedsOn-none Old Now before now piece left none so_far settles stands =
    let same : piece ≡ so_far.done = so_far.parts ∙ rw (nil_from_length left none) (append-nil so_far.done) in
    rw same (so_far.goes settles stands)
