-- A command that answers line by line, and hands on in parts a text that is too long to be kept whole.
use Rattle.std.proofs.Common.{◌≡◌, ℕ, ◌+◌, ◌-◌, ◌<◌, Bool, true, false, ◌||◌, List, [], ◌∷◌, ◌++◌, length, take, None, Some, Result, Ok, Err, IfOk, refl, sym, ◌∙◌, ap, arith, append_assoc, nat_lt, length-append}
use Rattle.std.proofs.lemmas.List.{append-nil}
use Rattle.std.proofs.Math.Seq.{take-append_seam}
use Rattle.edge_traits.specs.declared.status.Status.{Status}
use Rattle.edge_traits.specs.Settled.{at_end, put_before}
use Rattle.command_frame.specs.declared.part_task.Taken.TheVariants as taken
use Rattle.command_frame.specs.declared.turned.Turned.{Turned}
use Rattle.command_frame.specs.declared.turned.Turned.TheVariants.{Passes, Owes, Ends}
use Rattle.command_frame.specs.InputLines.{ended_part}
use Rattle.command_frame.specs.Task.{Settling, Feeds, Finishes}
use Rattle.command_frame.specs.PartTask.{Owing, FeedsPart, TellsPart, EndsOn, TakesLast, LeavesTurn}
use Rattle.command_frame.specs.Lines.{Turn, passes, ends_run, LineRules, after_turn, lines_from, TurnsAs, InLine}
use Rattle.command_frame.specs.PartLines.{TurnsPart, FeedsLine}
use Rattle.command_frame.proofs.WithinLemmas.{Takes-more}
use Rattle.command_frame.proofs.LinesLemmas.{lines-done, in_line-start, last-settles, line-turn, FeedsOn}

-- ---- what was fed of a piece

pub part-all : (Stands : Owing) (settles : Settling) (piece before now : List ℕ) → Feeds (Stands []) settles piece before now None
    → FeedsPart Stands settles piece before now taken.All
part-all Stands settles piece before now fed = record { text = fed.text; added = fed.added; takes = fed.takes }

pub part-ends : (Stands : Owing) (settles : Settling) (piece before now : List ℕ) (status : Status)
    → Feeds (Stands []) settles piece before now (Some status) → FeedsPart Stands settles piece before now (taken.Ends status)
part-ends Stands settles piece before now status fed = record { text = fed.text; added = fed.added; takes = fed.takes }

pub fed-all : (Stands : Owing) (settles : Settling) (piece before now : List ℕ) → FeedsPart Stands settles piece before now taken.All
    → Feeds (Stands []) settles piece before now None
fed-all Stands settles piece before now fed = record { text = fed.text; added = fed.added; takes = fed.takes }

pub fed-ends : (Stands : Owing) (settles : Settling) (piece before now : List ℕ) (status : Status)
    → FeedsPart Stands settles piece before now (taken.Ends status) → Feeds (Stands []) settles piece before now (Some status)
fed-ends Stands settles piece before now status fed = record { text = fed.text; added = fed.added; takes = fed.takes }

-- ---- the text that is due

module _ {S : Type 0} (Old Mid Now : List ℕ → S → Type 0) (state : S) (due : List ℕ) where
  pub telling-none : (text : List ℕ) → Old due state → TellsPart Old state due text text true
  telling-none text stands = record {
    part = [];
    rest = due;
    added = sym (append-nil text);
    parts = refl;
    stands = stands;
    last = λ none. absurd (cc);
  }

  pub telling-on : (before between now : List ℕ) (more : Bool) → (so_far : TellsPart Mid state due before between true)
      → TellsPart Now state so_far.rest between now more → TellsPart Now state due before now more
  telling-on before between now more so_far tells = record {
    part = so_far.part ++ tells.part;
    rest = tells.rest;
    added = rw (tells.added, so_far.added, append_assoc before so_far.part tells.part) refl;
    parts =
        so_far.parts ∙ ap (λ (v : List ℕ). so_far.part ++ v) tells.parts
        ∙ sym (append_assoc so_far.part tells.part tells.rest);
    stands = tells.stands;
    last = tells.last;
  }

  -- all of it was told
  pub told-whole : (before now : List ℕ) → TellsPart Now state due before now false → (now ≡ before ++ due) × Now [] state
  told-whole before now tells =
      let none : tells.rest ≡ [] = tells.last refl in
      let all : due ≡ tells.part = tells.parts ∙ ap (λ (v : List ℕ). tells.part ++ v) none ∙ append-nil tells.part in
      (rw all tells.added, rw none at tells.stands)

-- ---- a line

module _ {S : Type 0} (rules : LineRules S) (Later : List ℕ → S → Type 0) (n : ℕ) where
  -- it has ended
  module _ (Shows : S → Type 0) (rest : List ℕ) (settles : Settling) (stands : InLine rules Shows n rest settles) where
    pub line-turned : (last : List ℕ) → ended_part last ≡ [] → (before now : List ℕ) (turned : Turned) (parts : ℕ) → LeavesTurn parts turned
        → (nat_lt rules.lines n || nat_lt rules.octets (length rest + length last)) ≡ false
        → (line kept : List ℕ) → line ≡ rest ++ last → kept ≡ []
        → ((state : S) → Shows state → TurnsPart Later (rules.step n state line) before now turned)
        → FeedsLine (λ due. InLine rules (Later due) (n + 1) kept) settles (last ++ 10 ∷ []) before now turned
    line-turned last plain before now Passes parts leaves inside line kept is none turns =
        line-turn rules Shows (Later []) n rest settles stands last plain before now None tt inside line kept is none
        (turns stands.state stands.shows)
    line-turned last plain before now (Ends status) parts leaves inside line kept is none turns =
        line-turn rules Shows (Later []) n rest settles stands last plain before now (Some status) leaves inside line kept is none
        (turns stands.state stands.shows)
    line-turned last plain before now Owes parts leaves inside line kept is none turns =
        let (same, (due, turn)) = turns stands.state stands.shows in
        (same, (due, line-turn rules Shows (Later due) n rest settles stands last plain [] due None tt inside line kept is none turn))

    -- the input ended with it
    last-on : (Now : S → Type 0) (turn : Turn S) (before now kept : List ℕ) → kept ≡ [] → settles at_end [] ≡ after_turn turn rules.finish
        → TurnsAs Now turn before now None → EndsOn (InLine rules Now n kept) settles before now
    last-on Now (passes text state) before now kept none is turn = record {
      text = text;
      later = lines_from rules n state;
      added = turn.0;
      stands = rw none (in_line-start rules Now n state turn.1);
      ends = is ∙ ap (put_before text) (sym (lines-done rules n state [] refl));
    }
    last-on Now (ends_run text due) before now kept none is turn = absurd turn

    last-over : (turn : Turn S) (before now : List ℕ) (status : Status) → settles at_end [] ≡ after_turn turn rules.finish
        → TurnsAs (Later []) turn before now (Some status) → Finishes settles before now status
    last-over (passes text state) before now status is turn = absurd turn
    last-over (ends_run text due) before now status is turn = record { text = text; added = turn.0; ends = rw turn.1 is }

    pub last-turned : (before now : List ℕ) (turned : Turned) → 0 < length rest → (line kept : List ℕ) → line ≡ rest → kept ≡ []
        → ((state : S) → Shows state → TurnsPart Later (rules.step n state line) before now turned)
        → TakesLast (λ due. InLine rules (Later due) n kept) settles before now turned
    last-turned before now Passes some line kept is none turns =
        last-on (Later []) (rules.step n stands.state line) before now kept none
        (rw is (last-settles rules Shows Shows n rest settles stands some)) (turns stands.state stands.shows)
    last-turned before now (Ends status) some line kept is none turns =
        last-over (rules.step n stands.state line) before now status
        (rw is (last-settles rules Shows Shows n rest settles stands some)) (turns stands.state stands.shows)
    last-turned before now Owes some line kept is none turns =
        let (same, (due, turn)) = turns stands.state stands.shows in (
          same,
          (
            due,
            last-on (Later due) (rules.step n stands.state line) [] due kept none
                (rw is (last-settles rules Shows Shows n rest settles stands some)) turn,
          ),
        )

-- ---- the end of the input

-- after a line that was written, what an input without octets settles was
pub ends-on : {E : Type 0} (Stands : Settling → Type 0) (settles : Settling) (before between now : List ℕ) (result : Result Status E)
    → EndsOn Stands settles before between → ((later : Settling) → Stands later → IfOk result (Finishes later between now))
    → IfOk result (Finishes settles before now)
ends-on Stands settles before between now (Err e) on finished = tt
ends-on Stands settles before between now (Ok status) on finished =
    let last = finished on.later on.stands in
    record {
      text = on.text ++ last.text;
      added = rw (last.added, on.added, append_assoc before on.text last.text) refl;
      ends = on.ends ∙ ap (put_before on.text) last.ends;
    }

pub in_line-as : {S : Type 0} (rules : LineRules S) (Shows Now : S → Type 0) (n : ℕ) (rest : List ℕ) (settles : Settling)
    → ((state : S) → Shows state → Now state) → InLine rules Shows n rest settles → InLine rules Now n rest settles
in_line-as rules Shows Now n rest settles now stands = record {
  state = stands.state;
  shows = now stands.state stands.shows;
  plain = stands.plain;
  inside = stands.inside;
  is = stands.is;
}

-- the text that was due was told
pub ends-told : (Stands Now : Settling → Type 0) (settles : Settling) (due before now : List ℕ) → EndsOn Stands settles [] due
    → now ≡ before ++ due → ((later : Settling) → Stands later → Now later) → EndsOn Now settles before now
ends-told Stands Now settles due before now on is stands = record {
  text = on.text;
  later = on.later;
  added = is ∙ ap (λ (v : List ℕ). before ++ v) on.added;
  stands = stands on.later on.stands;
  ends = on.ends;
}

-- ---- a piece, line by line

-- the text of a line is due, up to which the piece was taken
pub owes-now : (Old Mid : Settling → Type 0) (Now : Owing) (before between now piece left line rest : List ℕ) (used : ℕ)
    → FeedsOn Old Mid before between piece left → left ≡ line ++ 10 ∷ rest → used ≡ length piece - length rest
    → ((settles : Settling) → Mid settles → FeedsLine Now settles (line ++ 10 ∷ []) between now Owes)
    → (settles : Settling) → Old settles → FeedsPart Now settles piece before now (taken.Due used)
owes-now Old Mid Now before between now piece left line rest used so_far is count more settles stands =
    let on = so_far.goes settles stands in
    let (mid, there, quiet, goes) = on.takes in
    let (same, (due, fed)) = more mid there in
    let first = so_far.done ++ (line ++ 10 ∷ []) in
    let parts : piece ≡ first ++ rest =
    rw (so_far.parts, is, append_assoc so_far.done (line ++ 10 ∷ []) rest, append_assoc line (10 ∷ []) rest) refl in
    let size : used ≡ length first = omega (arith, count, ap length parts, length-append first rest) in
    let taken : take used piece ≡ first = rw (size, parts) (take-append_seam first rest) in
    let all = Takes-more (Now due) settles mid so_far.done (line ++ 10 ∷ []) on.text fed.text None goes fed.takes in
    let whole : fed.text ≡ due = sym fed.added in
    record {
      text = on.text;
      added = same ∙ on.added;
      takes = (due, rw taken (rw whole at all));
    }
