-- Which limit on lines an input passes, as its octets come.
use Rattle.std.proofs.Common.{◌≡◌, ℕ, ◌+◌, ◌-◌, ◌<◌, Bool, true, false, ◌||◌, List, [], ◌∷◌, ◌++◌, length, take, Option, None, Some, Result, Ok, Err, IfOk, if◌then◌else◌, refl, sym, ◌∙◌, ap, arith, append_assoc, nat_lt, length-append, inl, inr, ◌⊎◌}
use Rattle.std.proofs.lemmas.List.{append-nil, nil_from_length}
use Rattle.std.proofs.Math.Seq.{take-append_seam}
use Rattle.edge_traits.specs.declared.status.Status.{Status}
use Rattle.edge_traits.specs.declared.status.Status.TheVariants as statuses
use Rattle.edge_traits.specs.Settled.{Ends, at_end, goes_on}
use Rattle.command_frame.specs.declared.line_passed.LinePassed.{LinePassed}
use Rattle.command_frame.specs.declared.line_passed.LinePassed.TheVariants.{Lines, Length, Own}
use Rattle.command_frame.specs.declared.part_task.Taken.TheVariants as taken
use Rattle.command_frame.specs.declared.turned.Turned.{Turned}
use Rattle.command_frame.specs.declared.turned.Turned.TheVariants as turned
use Rattle.command_frame.specs.InputLines.{lines_of, ended_part, open_part}
use Rattle.command_frame.specs.Lines.{Turn, passes, ends_run, LineRules, turn_at, after_turn, lines_settle, lines_from, opens_past, TurnsAs}
use Rattle.command_frame.specs.Limits.{Limiting, past_limit, own_limit, after_line, limit_at, lines_pass, open_limit, limits_from, limits_by_lines, turned_limit, HasPassed, IsWithin, LeadsOn, EndsWithin, InLimits}
use Rattle.command_frame.specs.PartTask.{Awaiting, TakesWithin, LastWithin}
use Rattle.command_frame.specs.PartLines.{TurnsPart, FeedsWithin}
use Rattle.command_frame.proofs.InputLinesLemmas.{Begins, open-begins, ended-open, plain-append, open-some, no-lines, ended-line, lines-line, open-line}
use Rattle.command_frame.proofs.LinesLemmas.{past-some, past-turn, past-longer, past-by, inside-line, fresh-inside}

-- ---- going on

pub LeadsOn-more : (Mid Now : Limiting → Type 0) (passed passed_now : Option LinePassed) (limits : Limiting) (a b : List ℕ)
    → (first : LeadsOn Mid passed limits a) → LeadsOn Now passed_now first.later b → LeadsOn Now passed_now limits (a ++ b)
LeadsOn-more Mid Now passed passed_now limits a b first on = record {
  later = on.later;
  within = on.within;
  leads = λ ends rest. rw (append_assoc a b rest) (first.leads ends (b ++ rest) ∙ on.leads ends rest);
}

pub HasPassed-more : (Mid : Limiting → Type 0) (passed limit : Option LinePassed) (limits : Limiting) (a b : List ℕ)
    → (first : LeadsOn Mid passed limits a) → HasPassed first.later b limit → HasPassed limits (a ++ b) limit
HasPassed-more Mid passed limit limits a b first has = λ ends rest.
    rw (append_assoc a b rest) (first.leads ends (b ++ rest) ∙ has ends rest)

pub HasPassed-over : (limit : Option LinePassed) (limits : Limiting) (a b : List ℕ) → HasPassed limits a limit → HasPassed limits (a ++ b) limit
HasPassed-over limit limits a b first = λ ends rest. rw (append_assoc a b rest) (first ends (b ++ rest))

-- nothing came
pub LeadsOn-none : (Awaits : Limiting → Type 0) (passed : Option LinePassed) (limits : Limiting) → IsWithin Awaits passed limits
    → LeadsOn Awaits passed limits []
LeadsOn-none Awaits passed limits within = record { later = limits; within = within; leads = λ ends more. refl }

-- ---- what lines pass

module _ {S : Type 0} (rules : LineRules S) where
  pub limit-past : (n : ℕ) (state : S) (line : List ℕ) (later : S → Option LinePassed)
      → (nat_lt rules.lines n || nat_lt rules.octets (length line)) ≡ true → limit_at rules n state line later ≡ past_limit rules n
  unfolding limit_at
  limit-past n state line later past = rw past refl

  pub limit-inside : (n : ℕ) (state : S) (line : List ℕ) (later : S → Option LinePassed)
      → (nat_lt rules.lines n || nat_lt rules.octets (length line)) ≡ false
      → limit_at rules n state line later ≡ after_line n (rules.step n state line) later
  unfolding limit_at
  limit-inside n state line later inside = rw inside refl

  -- the octets so far pass none
  pub limits-quiet : (n : ℕ) (state : S) (first : List ℕ) → ended_part first ≡ [] → opens_past rules n first ≡ false
      → limits_from rules n state goes_on (first ++ []) ≡ None
  unfolding limits_from lines_pass lines_of
  limits-quiet n state first plain inside =
      let same : n + 0 ≡ n = omega arith in
      rw (append-nil first, plain, same, inside) refl

  -- a line that passes one by its number or its length
  first-past : (n : ℕ) (state : S) (first : List ℕ) (lines : List (List ℕ)) (last : Option LinePassed) → opens_past rules n first ≡ true
      → Begins first lines → lines_pass rules n state lines last ≡ past_limit rules n
  unfolding lines_pass
  first-past n state first lines last past begins =
      rw begins.lines_are
      (limit-past n state begins.line (λ now. lines_pass rules (n + 1) now begins.later last)
      (past-turn rules n first begins.line past begins.longer))

  pub limits-past : (n : ℕ) (state : S) (first : List ℕ) → ended_part first ≡ [] → opens_past rules n first ≡ true
      → (ends : Ends) (more : List ℕ) → limits_from rules n state ends (first ++ more) ≡ past_limit rules n
  unfolding limits_from lines_pass lines_of
  limits-past n state first plain past at_end more =
      first-past n state first (lines_of (first ++ more)) None past (open-begins first more (past-some rules n first past) plain)
  limits-past n state first plain past goes_on more = by_ended (ended-open first more plain)
    where
      by_ended : (ended_part (first ++ more) ≡ []) ⊎ (ended_part (first ++ more) ≡ first ++ ended_part more)
          → lines_pass rules n state (lines_of (ended_part (first ++ more)))
          (open_limit rules (n + length (lines_of (ended_part (first ++ more)))) (open_part (first ++ more)))
          ≡ past_limit rules n
      by_ended (inl none) =
          let same : n + 0 ≡ n = omega arith in
          let longer : opens_past rules n (first ++ more) ≡ true = past-longer rules n first (first ++ more) past (omega (arith, length-append first more)) in
          rw (none, same, longer) refl
      by_ended (inr is) =
          first-past n state first (lines_of (ended_part (first ++ more)))
          (open_limit rules (n + length (lines_of (ended_part (first ++ more)))) (open_part (first ++ more)))
          past (rw is (open-begins first (ended_part more) (past-some rules n first past) plain))

  -- a line that ends
  pub limits-ended : (n : ℕ) (state : S) (line : List ℕ) → ended_part line ≡ [] → (ends : Ends) (more : List ℕ)
      → limits_from rules n state ends (line ++ 10 ∷ more) ≡ limit_at rules n state line (λ now. limits_from rules (n + 1) now ends more)
  unfolding limits_from lines_pass
  limits-ended n state line plain at_end more = rw (lines-line line more plain) refl
  limits-ended n state line plain goes_on more =
      let same : n + length (line ∷ lines_of (ended_part more)) ≡ n + 1 + length (lines_of (ended_part more)) = omega arith in
      rw (open-line line more plain, ended-line line more plain, lines-line line (ended_part more) plain, same) refl

  -- the end of the input
  pub limits-done : (n : ℕ) (state : S) (first : List ℕ) → length first ≡ 0
      → limits_from rules n state at_end (first ++ []) ≡ None
  unfolding limits_from lines_pass
  limits-done n state first none = rw (append-nil first, no-lines first none) refl

  pub limits-last : (n : ℕ) (state : S) (first : List ℕ) → 0 < length first → ended_part first ≡ []
      → limits_from rules n state at_end (first ++ []) ≡ limit_at rules n state first (λ now. None)
  unfolding limits_from lines_pass
  limits-last n state first some plain = rw (append-nil first, open-some first some plain) refl

  -- ---- where the answer to an input ends with a limit

  past-is : (n : ℕ) → past_limit rules n ≡ None → ⊥
  past-is n is = by_test (nat_lt rules.lines n) is
    where
      by_test : (t : Bool) → (if t then Some Lines else Some (Length n)) ≡ None → ⊥
      by_test true is = cc
      by_test false is = cc

  -- its lines pass one, where no answer to the end of an input is a limit
  module _ (free : (state : S) → (rules.finish state).ends ≡ Some statuses.Limit → ⊥) where
    lines-named : (n : ℕ) (state : S) (lines : List (List ℕ)) → (lines_settle rules n state lines rules.finish).ends ≡ Some statuses.Limit
        → lines_pass rules n state lines None ≡ None → ⊥
    unfolding lines_settle lines_pass turn_at limit_at
    lines-named n state [] ends none = free state ends
    lines-named n state (line ∷ lines) ends none =
        by_test (nat_lt rules.lines n || nat_lt rules.octets (length line)) (rules.step n state line)
        (λ now. lines-named (n + 1) now lines) ends none
      where
        Later : Type 0
        Later = (now : S) → (lines_settle rules (n + 1) now lines rules.finish).ends ≡ Some statuses.Limit
            → lines_pass rules (n + 1) now lines None ≡ None → ⊥

        by_turn : (turn : Turn S) → Later → (after_turn turn (λ now. lines_settle rules (n + 1) now lines rules.finish)).ends ≡ Some statuses.Limit
            → after_line n turn (λ now. lines_pass rules (n + 1) now lines None) ≡ None → ⊥
        by_turn (passes text now) later ends none = later now ends none
        by_turn (ends_run text status) later ends none =
            let same : status ≡ statuses.Limit = cc in
            let one : Some (Own n) ≡ None = rw same at none in
            cc

        by_test : (t : Bool) (turn : Turn S) → Later
            → (after_turn (if t then ends_run [] statuses.Limit else turn) (λ now. lines_settle rules (n + 1) now lines rules.finish)).ends ≡ Some statuses.Limit
            → (if t then past_limit rules n else after_line n turn (λ now. lines_pass rules (n + 1) now lines None)) ≡ None → ⊥
        by_test true turn later ends none = past-is n none
        by_test false turn later ends none = by_turn turn later ends none

    pub from-named : (n : ℕ) (state : S) (input : List ℕ) → (lines_from rules n state at_end input).ends ≡ Some statuses.Limit
        → limits_from rules n state at_end input ≡ None → ⊥
    unfolding lines_from limits_from
    from-named n state input = lines-named n state (lines_of input)

  -- ---- the reader of lines

  pub in_limits-within : (Shows : S → Type 0) (n : ℕ) (rest : List ℕ) (passed : Option LinePassed) (limits : Limiting)
      → InLimits rules Shows n rest passed limits → IsWithin (InLimits rules Shows n rest passed) passed limits
  in_limits-within Shows n rest passed limits awaits = record {
    awaits = awaits;
    none = awaits.none;
    quiet =
        awaits.is goes_on []
        ∙ limits-quiet n awaits.state rest awaits.plain awaits.inside;
  }

  pub in_limits-start : (Shows : S → Type 0) (n : ℕ) (state : S) (passed : Option LinePassed) → Shows state → passed ≡ None
      → InLimits rules Shows n [] passed (limits_from rules n state)
  unfolding ended_part
  in_limits-start Shows n state passed shows none = record {
    state = state;
    shows = shows;
    plain = refl;
    inside = fresh-inside rules n;
    none = none;
    is = λ ends more. refl;
  }

  pub in_limits-new : (Shows : S → Type 0) (n : ℕ) (rest : List ℕ) (passed : Option LinePassed) (start : S) → Shows start → n ≡ 1 → rest ≡ []
      → passed ≡ None → InLimits rules Shows n rest passed (limits_by_lines rules start)
  in_limits-new Shows n rest passed start shows one nothing none = rw (one, nothing) (in_limits-start Shows 1 start passed shows none)

  module _ (Shows : S → Type 0) (n : ℕ) (rest : List ℕ) (passed : Option LinePassed) (limits : Limiting)
      (awaits : InLimits rules Shows n rest passed limits) where
    -- octets of a line that hasn't ended
    pub keep-passed : (octets : List ℕ) → 0 < length octets → ended_part octets ≡ []
        → (nat_lt rules.lines n || nat_lt rules.octets (length rest + length octets)) ≡ true
        → (limit : Option LinePassed) → limit ≡ past_limit rules n → HasPassed limits octets limit
    keep-passed octets some plain past limit is = λ ends more.
        let test : opens_past rules n (rest ++ octets) ≡ true = sym (past-by rules n rest octets some) ∙ past in
        awaits.is ends (octets ++ more)
        ∙ (rw (← append_assoc rest octets more) (limits-past n awaits.state (rest ++ octets) (plain-append rest octets awaits.plain plain) test ends more)
        ∙ sym is)

    pub keep-within : (octets : List ℕ) → 0 < length octets → ended_part octets ≡ []
        → (nat_lt rules.lines n || nat_lt rules.octets (length rest + length octets)) ≡ false
        → (kept : List ℕ) → kept ≡ rest ++ octets → LeadsOn (InLimits rules Shows n kept passed) passed limits octets
    keep-within octets some plain inside kept is =
        let test : opens_past rules n (rest ++ octets) ≡ false = sym (past-by rules n rest octets some) ∙ inside in
        let now : InLimits rules Shows n (rest ++ octets) passed (λ ends more. limits_from rules n awaits.state ends ((rest ++ octets) ++ more)) = record {
          state = awaits.state;
          shows = awaits.shows;
          plain = plain-append rest octets awaits.plain plain;
          inside = test;
          none = awaits.none;
          is = λ ends more. refl;
        } in
        record {
          later = λ ends more. limits_from rules n awaits.state ends ((rest ++ octets) ++ more);
          within = rw is (in_limits-within Shows n (rest ++ octets) passed _ now);
          leads = λ ends more. awaits.is ends (octets ++ more) ∙ rw (append_assoc rest octets more) refl;
        }

    -- a line that ends
    module _ (last : List ℕ) (plain : ended_part last ≡ []) where
      ended : (ends : Ends) (more : List ℕ) → limits ends ((last ++ 10 ∷ []) ++ more)
          ≡ limit_at rules n awaits.state (rest ++ last) (λ now. limits_from rules (n + 1) now ends more)
      ended ends more =
          let same : rest ++ ((last ++ 10 ∷ []) ++ more) ≡ (rest ++ last) ++ 10 ∷ more =
          rw (append_assoc last (10 ∷ []) more, append_assoc rest last (10 ∷ more)) refl in
          awaits.is ends ((last ++ 10 ∷ []) ++ more)
          ∙ rw same (limits-ended n awaits.state (rest ++ last) (plain-append rest last awaits.plain plain) ends more)

      pub line-passed : (nat_lt rules.lines n || nat_lt rules.octets (length rest + length last)) ≡ true
          → (limit : Option LinePassed) → limit ≡ past_limit rules n → HasPassed limits (last ++ 10 ∷ []) limit
      line-passed past limit is = λ ends more.
          let test : (nat_lt rules.lines n || nat_lt rules.octets (length (rest ++ last))) ≡ true = rw (length-append rest last) past in
          ended ends more ∙ (limit-past n awaits.state (rest ++ last) (λ now. limits_from rules (n + 1) now ends more) test ∙ sym is)

      module _ (inside : (nat_lt rules.lines n || nat_lt rules.octets (length rest + length last)) ≡ false) where
        answered : (ends : Ends) (more : List ℕ) → limits ends ((last ++ 10 ∷ []) ++ more)
            ≡ after_line n (rules.step n awaits.state (rest ++ last)) (λ now. limits_from rules (n + 1) now ends more)
        answered ends more =
            let test : (nat_lt rules.lines n || nat_lt rules.octets (length (rest ++ last))) ≡ false = rw (length-append rest last) inside in
            ended ends more ∙ limit-inside n awaits.state (rest ++ last) (λ now. limits_from rules (n + 1) now ends more) test

        -- the run goes on after it
        line-on : (Now : S → Type 0) (turn : Turn S) (before now kept : List ℕ) (limit : Option LinePassed) → kept ≡ [] → limit ≡ None
            → rules.step n awaits.state (rest ++ last) ≡ turn → TurnsAs Now turn before now None
            → LeadsOn (InLimits rules Now (n + 1) kept limit) limit limits (last ++ 10 ∷ [])
        line-on Now (passes text state) before now kept limit nothing none is turn = record {
          later = limits_from rules (n + 1) state;
          within = rw nothing (in_limits-within Now (n + 1) [] limit _ (in_limits-start Now (n + 1) state limit turn.1 none));
          leads = λ ends more. answered ends more ∙ rw is refl;
        }
        line-on Now (ends_run text due) before now kept limit nothing none is turn = absurd turn

        -- the run ends with it
        line-over : (Now : S → Type 0) (turn : Turn S) (before now : List ℕ) (status : Status) (limit : Option LinePassed)
            → limit ≡ own_limit n status → rules.step n awaits.state (rest ++ last) ≡ turn
            → TurnsAs Now turn before now (Some status) → HasPassed limits (last ++ 10 ∷ []) limit
        line-over Now (passes text state) before now status limit own is turn = absurd turn
        line-over Now (ends_run text due) before now status limit own is turn = λ ends more.
            answered ends more ∙ rw (is, own, turn.1) refl

        pub line-within : (Later : List ℕ → S → Type 0) (before now : List ℕ) (came : Turned) (line kept : List ℕ) (limit : Option LinePassed)
            → line ≡ rest ++ last → kept ≡ [] → limit ≡ turned_limit n came
            → ((state : S) → Shows state → TurnsPart Later (rules.step n state line) before now came)
            → FeedsWithin (λ due. InLimits rules (Later due) (n + 1) kept limit) limit limits (last ++ 10 ∷ []) came
        line-within Later before now turned.Passes line kept limit line_is nothing own turns =
            line-on (Later []) _ before now kept limit nothing own refl (rw line_is at (turns awaits.state awaits.shows))
        line-within Later before now turned.Owes line kept limit line_is nothing own turns =
            let (same, (due, turn)) = rw line_is at (turns awaits.state awaits.shows) in
            (due, line-on (Later due) _ [] due kept limit nothing own refl turn)
        line-within Later before now (turned.Ends status) line kept limit line_is nothing own turns =
            line-over (Later []) _ before now status limit own refl (rw line_is at (turns awaits.state awaits.shows))

    -- ---- the end of the input

    last-limit : 0 < length rest → limits at_end [] ≡ after_line n (rules.step n awaits.state rest) (λ now. None)
    last-limit some =
        awaits.is at_end []
        ∙ (limits-last n awaits.state rest some awaits.plain
        ∙ limit-inside n awaits.state rest (λ now. None) (inside-line rules n rest some awaits.inside))

    last-on : (Now : S → Type 0) (turn : Turn S) (before now kept : List ℕ) (limit : Option LinePassed) → kept ≡ [] → limit ≡ None
        → limits at_end [] ≡ after_line n turn (λ now. None) → TurnsAs Now turn before now None
        → EndsWithin (InLimits rules Now n kept limit) limits
    last-on Now (passes text state) before now kept limit nothing none is turn = record {
      later = limits_from rules n state;
      awaits = rw nothing (in_limits-start Now n state limit turn.1 none);
      ends = is ∙ sym (limits-done n state [] refl);
    }
    last-on Now (ends_run text due) before now kept limit nothing none is turn = absurd turn

    last-over : (Now : S → Type 0) (turn : Turn S) (before now : List ℕ) (status : Status) (limit : Option LinePassed)
        → limit ≡ own_limit n status → limits at_end [] ≡ after_line n turn (λ now. None)
        → TurnsAs Now turn before now (Some status) → limits at_end [] ≡ limit
    last-over Now (passes text state) before now status limit own is turn = absurd turn
    last-over Now (ends_run text due) before now status limit own is turn = is ∙ rw (own, turn.1) refl

    pub last-within : (Later : List ℕ → S → Type 0) (before now : List ℕ) (came : Turned) → 0 < length rest
        → (line kept : List ℕ) (limit : Option LinePassed) → line ≡ rest → kept ≡ [] → limit ≡ turned_limit n came
        → ((state : S) → Shows state → TurnsPart Later (rules.step n state line) before now came)
        → LastWithin (λ due. InLimits rules (Later due) n kept limit) limit limits came
    last-within Later before now turned.Passes some line kept limit line_is nothing own turns =
        last-on (Later []) _ before now kept limit nothing own (last-limit some) (rw line_is at (turns awaits.state awaits.shows))
    last-within Later before now turned.Owes some line kept limit line_is nothing own turns =
        let (same, (due, turn)) = rw line_is at (turns awaits.state awaits.shows) in
        (due, last-on (Later due) _ [] due kept limit nothing own (last-limit some) turn)
    last-within Later before now (turned.Ends status) some line kept limit line_is nothing own turns =
        last-over (Later []) _ before now status limit own (last-limit some) (rw line_is at (turns awaits.state awaits.shows))

    pub done-within : length rest ≡ 0 → (limit : Option LinePassed) → limit ≡ passed → limits at_end [] ≡ limit
    done-within nothing limit same =
        awaits.is at_end [] ∙ (limits-done n awaits.state rest nothing ∙ sym (same ∙ awaits.none))

-- what holds however it ended holds where it did
pub if-ended : {A E P : Type 0} (result : Result A E) → P → IfOk result (λ a. P)
if-ended (Ok a) holds = holds
if-ended (Err e) holds = tt

-- ---- a piece, line by line

pub record LimitsOn (Old Now : Limiting → Type 0) (passed : Option LinePassed) (piece left : List ℕ) : Type 0 where
  pub done : List ℕ
  pub parts : piece ≡ done ++ left
  pub goes : (limits : Limiting) → Old limits → LeadsOn Now passed limits done

pub LimitsOn-start : (Old : Limiting → Type 0) (passed : Option LinePassed) (piece : List ℕ)
    → ((limits : Limiting) → Old limits → IsWithin Old passed limits) → LimitsOn Old Old passed piece piece
LimitsOn-start Old passed piece within = record {
  done = [];
  parts = refl;
  goes = λ limits awaits. LeadsOn-none Old passed limits (within limits awaits);
}

-- a piece is what was done, a line, and the rest
line-parts : (piece done left line rest : List ℕ) → piece ≡ done ++ left → left ≡ line ++ 10 ∷ rest
    → piece ≡ (done ++ (line ++ 10 ∷ [])) ++ rest
line-parts piece done left line rest parts is =
    rw (parts, is, append_assoc done (line ++ 10 ∷ []) rest, append_assoc line (10 ∷ []) rest) refl

module _ (Old Mid : Limiting → Type 0) (passed : Option LinePassed) (piece left : List ℕ) (so_far : LimitsOn Old Mid passed piece left) where
  module _ (line rest : List ℕ) (is : left ≡ line ++ 10 ∷ rest) where
    pub LimitsOn-more : (Now : Limiting → Type 0) (passed_now : Option LinePassed)
        → ((limits : Limiting) → Mid limits → LeadsOn Now passed_now limits (line ++ 10 ∷ []))
        → LimitsOn Old Now passed_now piece rest
    LimitsOn-more Now passed_now more = record {
      done = so_far.done ++ (line ++ 10 ∷ []);
      parts = line-parts piece so_far.done left line rest so_far.parts is;
      goes = λ limits awaits.
          let first = so_far.goes limits awaits in
          LeadsOn-more Mid Now passed passed_now limits so_far.done (line ++ 10 ∷ []) first (more first.later first.within.awaits);
    }

    pub LimitsOn-over : (limit : Option LinePassed) → ((limits : Limiting) → Mid limits → HasPassed limits (line ++ 10 ∷ []) limit)
        → (limits : Limiting) → Old limits → HasPassed limits piece limit
    LimitsOn-over limit more limits awaits =
        let first = so_far.goes limits awaits in
        rw (line-parts piece so_far.done left line rest so_far.parts is)
        (HasPassed-over limit limits (so_far.done ++ (line ++ 10 ∷ [])) rest
        (HasPassed-more Mid passed limit limits so_far.done (line ++ 10 ∷ []) first (more first.later first.within.awaits)))

    -- the text of the line is due
    pub LimitsOn-owes : (Now : Awaiting) (passed_now : Option LinePassed) (used : ℕ) → used ≡ length piece - length rest
        → ((limits : Limiting) → Mid limits → FeedsWithin Now passed_now limits (line ++ 10 ∷ []) turned.Owes)
        → (limits : Limiting) → Old limits → TakesWithin Now passed_now limits piece (taken.Due used)
    LimitsOn-owes Now passed_now used count more limits awaits =
        let first = so_far.goes limits awaits in
        let (due, on) = more first.later first.within.awaits in
        let front = so_far.done ++ (line ++ 10 ∷ []) in
        let parts : piece ≡ front ++ rest = line-parts piece so_far.done left line rest so_far.parts is in
        let size : used ≡ length front = omega (arith, count, ap length parts, length-append front rest) in
        let taken_is : take used piece ≡ front = rw (size, parts) (take-append_seam front rest) in
        (due, rw taken_is (LeadsOn-more Mid (Now due) passed passed_now limits so_far.done (line ++ 10 ∷ []) first on))

  pub LimitsOn-last : (Now : Limiting → Type 0) (passed_now : Option LinePassed)
      → ((limits : Limiting) → Mid limits → LeadsOn Now passed_now limits left)
      → (limits : Limiting) → Old limits → LeadsOn Now passed_now limits piece
  LimitsOn-last Now passed_now last limits awaits =
      let first = so_far.goes limits awaits in
      rw so_far.parts (LeadsOn-more Mid Now passed passed_now limits so_far.done left first (last first.later first.within.awaits))

  pub LimitsOn-stop : (limit : Option LinePassed) → ((limits : Limiting) → Mid limits → HasPassed limits left limit)
      → (limits : Limiting) → Old limits → HasPassed limits piece limit
  LimitsOn-stop limit last limits awaits =
      let first = so_far.goes limits awaits in
      rw so_far.parts (HasPassed-more Mid passed limit limits so_far.done left first (last first.later first.within.awaits))

  pub LimitsOn-none : length left ≡ 0 → (limits : Limiting) → Old limits → LeadsOn Mid passed limits piece
  LimitsOn-none nothing limits awaits =
      let same : piece ≡ so_far.done = so_far.parts ∙ rw (nil_from_length left nothing) (append-nil so_far.done) in
      rw same (so_far.goes limits awaits)
