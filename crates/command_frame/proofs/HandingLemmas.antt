-- What the loops of the driver do with one piece.
use Rattle.std.proofs.Common.{◌≡◌, ℕ, List, [], ◌++◌, length, take, drop, Bool, false, Option, None, Some, refl, sym, ◌∙◌, ap, append_assoc}
use Rattle.std.proofs.lemmas.List.{append-nil, take-append-drop, nil_from_length}
use Rattle.edge_traits.specs.declared.status.Status.{Status}
use Rattle.edge_traits.specs.declared.status.Status.TheVariants as statuses
use Rattle.edge_traits.specs.Content.{Gains, GainsFront}
use Rattle.edge_traits.specs.Faults.{NoneFailed, LastFailed}
use Rattle.edge_traits.specs.Outcome.{SinkTells}
use Rattle.edge_traits.specs.Settled.{at_end, Settled, put_before}
use Rattle.edge_traits.proofs.ContentLemmas.{Gains-none, Gains-more}
use Rattle.edge_traits.proofs.FaultsLemmas.{NoneFailed-same, NoneFailed-more, LastFailed-after}
use Rattle.command_frame.specs.Stops.{IsStop}
use Rattle.command_frame.specs.declared.part_task.Taken.{Taken}
use Rattle.command_frame.specs.declared.part_task.Taken.TheVariants.{All, Due, Ends}
use Rattle.command_frame.specs.Task.{Settling, IsQuiet, over, GoesOnTo, Takes}
use Rattle.command_frame.specs.PartTask.{TakesPart, FeedsPart, TellsPart, EndsOn}
use Rattle.command_frame.specs.Handing.{IsFront, Told, SettlesFirst, Handed, EndedSo, HandedEnd}
use Rattle.command_frame.proofs.WithinLemmas.{GoesOnTo-more, Takes-more}

-- a front of some text more was written
pub GainsFront-more : (a b c : Option (List ℕ)) (text new : List ℕ) → Gains a b text → GainsFront b c new → GainsFront a c (text ++ new)
GainsFront-more a b None text new first second = tt
GainsFront-more a None (Some now) text new first second = absurd second
GainsFront-more None (Some mid) (Some now) text new first second = absurd first
GainsFront-more (Some before) (Some mid) (Some now) text new first (front, rest, parts, gains) = (
  text ++ front,
  rest,
  rw (parts, append_assoc text front rest) refl,
  rw (gains, first, append_assoc before text front) refl,
)

-- ---- the text that is due

-- the parts so far, and the rest
pub record TellingSoFar (Stands : List ℕ → Settling → Type 0) (settles : Settling) (due : List ℕ) (before now : SinkTells) (more : Bool) : Type 0 where
  pub told : List ℕ
  pub rest : List ℕ
  pub parts : due ≡ told ++ rest
  pub stands : Stands rest settles
  pub last : more ≡ false → rest ≡ []
  pub gains : Gains before.held now.held told
  pub calls : NoneFailed before.calls now.calls

pub telling-start : (Stands : List ℕ → Settling → Type 0) (settles : Settling) (due : List ℕ) (sink : SinkTells) (more : Bool) → Stands due settles
    → (more ≡ false → due ≡ []) → TellingSoFar Stands settles due sink sink more
telling-start Stands settles due sink more stands last = record {
  told = [];
  rest = due;
  parts = refl;
  stands = stands;
  last = last;
  gains = Gains-none sink.held;
  calls = NoneFailed-same sink.calls;
}

module _ (Stands StandsNow : List ℕ → Settling → Type 0) (settles : Settling) (due : List ℕ) (a b : SinkTells) (more : Bool)
    (so_far : TellingSoFar Stands settles due a b more) where
  pub told-memory : (Later : Type 0) → Told Later due a b (Some statuses.Memory)
  told-memory Later = (so_far.told, (so_far.rest, so_far.parts), so_far.gains, so_far.calls)

  pub told-all : more ≡ false → Told (Stands [] settles) due a b None
  told-all none =
      let nothing : so_far.rest ≡ [] = so_far.last none in
      let all : due ≡ so_far.told = so_far.parts ∙ ap (λ (v : List ℕ). so_far.told ++ v) nothing ∙ append-nil so_far.told in
      (rw nothing at so_far.stands, rw all so_far.gains, so_far.calls)

  module _ (text : List ℕ) (again : Bool) (tells : TellsPart StandsNow settles so_far.rest [] text again) (c : SinkTells) where
    pub told-write : (Later : Type 0) → GainsFront b.held c.held text → LastFailed b.calls c.calls → Told Later due a c (Some statuses.WriteFault)
    told-write Later gains failed = (
      so_far.told ++ text,
      (
        tells.rest,
        so_far.parts ∙ ap (λ (v : List ℕ). so_far.told ++ v) tells.parts
            ∙ ap (λ (v : List ℕ). so_far.told ++ (v ++ tells.rest)) (sym tells.added)
            ∙ sym (append_assoc so_far.told text tells.rest),
      ),
      GainsFront-more a.held b.held c.held so_far.told text so_far.gains gains,
      LastFailed-after a.calls b.calls c.calls so_far.calls failed,
    )

    pub telling-more : Gains b.held c.held text → NoneFailed b.calls c.calls → TellingSoFar StandsNow settles due a c again
    telling-more gains calls = record {
      told = so_far.told ++ text;
      rest = tells.rest;
      parts =
          so_far.parts ∙ ap (λ (v : List ℕ). so_far.told ++ v) tells.parts
          ∙ ap (λ (v : List ℕ). so_far.told ++ (v ++ tells.rest)) (sym tells.added)
          ∙ sym (append_assoc so_far.told text tells.rest);
      stands = tells.stands;
      last = tells.last;
      gains = Gains-more a.held b.held c.held so_far.told text so_far.gains gains;
      calls = NoneFailed-more a.calls b.calls c.calls so_far.calls calls;
    }

-- ---- a piece

-- what was taken of it so far, and of what that settles all was written
pub record HandingSoFar (Stands : Settling → Type 0) (settles : Settling) (piece left : List ℕ) (before now : SinkTells) : Type 0 where
  pub taken : List ℕ
  pub text : List ℕ
  pub later : Settling
  pub parts : piece ≡ taken ++ left
  pub stands : Stands later
  pub quiet : IsQuiet later
  pub goes : GoesOnTo settles taken text later
  pub gains : Gains before.held now.held text
  pub calls : NoneFailed before.calls now.calls

pub handing-start : (Stands : Settling → Type 0) (settles : Settling) (piece : List ℕ) (sink : SinkTells) → Stands settles → IsQuiet settles
    → HandingSoFar Stands settles piece piece sink sink
handing-start Stands settles piece sink stands quiet = record {
  taken = [];
  text = [];
  later = settles;
  parts = refl;
  stands = stands;
  quiet = quiet;
  goes = λ ends more. refl;
  gains = Gains-none sink.held;
  calls = NoneFailed-same sink.calls;
}

first-more : (settles later : Settling) (piece taken left text new : List ℕ) → piece ≡ taken ++ left → GoesOnTo settles taken text later
    → SettlesFirst later left new → SettlesFirst settles piece (text ++ new)
first-more settles later piece taken left text new parts goes first = record {
  taken = taken ++ first.taken;
  left = first.left;
  parts = parts ∙ ap (λ (v : List ℕ). taken ++ v) first.parts ∙ sym (append_assoc taken first.taken first.left);
  due = first.due;
  later = first.later;
  goes = rw (append_assoc text new first.due) (GoesOnTo-more settles later first.later taken text first.taken (new ++ first.due) goes first.goes);
}

first-all : (settles later : Settling) (piece text : List ℕ) → GoesOnTo settles piece text later → SettlesFirst settles piece text
first-all settles later piece text goes = record {
  taken = piece;
  left = [];
  parts = sym (append-nil piece);
  due = [];
  later = later;
  goes = rw (append-nil text) goes;
}

pub first-none : (settles : Settling) (piece : List ℕ) → SettlesFirst settles piece []
first-none settles piece = record { taken = []; left = piece; parts = refl; due = []; later = settles; goes = λ ends more. refl }

first-some : (settles later : Settling) (piece text due rest : List ℕ) (used : ℕ) → GoesOnTo settles (take used piece) (text ++ due) later
    → due ≡ rest → SettlesFirst settles piece text
first-some settles later piece text due rest used goes is = record {
  taken = take used piece;
  left = drop used piece;
  parts = sym (take-append-drop used piece);
  due = due;
  later = later;
  goes = goes;
}

-- the first octets settle a text that begins with what was added
first-taken : (Stands : List ℕ → Settling → Type 0) (settles : Settling) (piece text : List ℕ) (taken : Taken) → TakesPart Stands settles piece text taken
    → SettlesFirst settles piece text
first-taken Stands settles piece text All (later, stands, quiet, goes) = first-all settles later piece text goes
first-taken Stands settles piece text (Due used) (due, (later, stands, quiet, goes)) = first-some settles later piece text due due used goes refl
first-taken Stands settles piece text (Ends status) (stop, goes) = first-all settles (over status) piece text goes

pub first-fed : (Stands : Settling → Type 0) (settles : Settling) (piece text : List ℕ) (ends : Option Status) → Takes Stands settles piece text ends
    → SettlesFirst settles piece text
first-fed Stands settles piece text None (later, stands, quiet, goes) = first-all settles later piece text goes
first-fed Stands settles piece text (Some status) (stop, goes) = first-all settles (over status) piece text goes

-- some of the text that is due was told too
first-told : (settles later : Settling) (piece text due part : List ℕ) (used : ℕ) → GoesOnTo settles (take used piece) (text ++ due) later
    → IsFront due part → SettlesFirst settles piece (text ++ part)
first-told settles later piece text due part used goes (rest, is) =
    first-some settles later piece (text ++ part) rest rest used
    (rw (append_assoc text part rest, ← is) goes) refl

module _ (Stands : Settling → Type 0) (StandsNow : List ℕ → Settling → Type 0) (settles : Settling) (piece left : List ℕ) (a b : SinkTells)
    (so_far : HandingSoFar Stands settles piece left a b) where
  pub handed-memory : (Later : Settling → Type 0) → Handed Later settles piece a b (Some statuses.Memory)
  handed-memory Later = (
    so_far.text,
    rw (append-nil so_far.text) at (first-more settles so_far.later piece so_far.taken left so_far.text [] so_far.parts so_far.goes (first-none so_far.later left)),
    so_far.gains,
    so_far.calls,
  )

  pub handed-none : length left ≡ 0 → Handed Stands settles piece a b None
  handed-none none =
      let all : piece ≡ so_far.taken =
      so_far.parts ∙ ap (λ (v : List ℕ). so_far.taken ++ v) (nil_from_length left none) ∙ append-nil so_far.taken in (
        so_far.text,
        (so_far.later, so_far.stands, so_far.quiet, rw all so_far.goes),
        so_far.gains,
        so_far.calls,
      )

  module _ (text : List ℕ) (taken : Taken) (fed : FeedsPart StandsNow so_far.later left [] text taken) (c : SinkTells) where
    so : TakesPart StandsNow so_far.later left text taken
    so = rw (← fed.added) at fed.takes

    pub handed-write : (Later : Settling → Type 0) → GainsFront b.held c.held text → LastFailed b.calls c.calls
        → Handed Later settles piece a c (Some statuses.WriteFault)
    handed-write Later gains failed = (
      so_far.text ++ text,
      first-more settles so_far.later piece so_far.taken left so_far.text text so_far.parts so_far.goes (first-taken StandsNow so_far.later left text taken so),
      GainsFront-more a.held b.held c.held so_far.text text so_far.gains gains,
      LastFailed-after a.calls b.calls c.calls so_far.calls failed,
    )

    module _ (gains : Gains b.held c.held text) (calls : NoneFailed b.calls c.calls) where
      gains-now : Gains a.held c.held (so_far.text ++ text)
      gains-now = Gains-more a.held b.held c.held so_far.text text so_far.gains gains

      calls-now : NoneFailed a.calls c.calls
      calls-now = NoneFailed-more a.calls b.calls c.calls so_far.calls calls

      takes-now : (ends : Option Status) → Takes (StandsNow []) so_far.later left text ends → Takes (StandsNow []) settles piece (so_far.text ++ text) ends
      takes-now ends takes = rw so_far.parts (Takes-more (StandsNow []) settles so_far.later so_far.taken left so_far.text text ends so_far.goes takes)

      pub handed-all : taken ≡ All → Handed (StandsNow []) settles piece a c None
      handed-all is = (so_far.text ++ text, takes-now None (rw is at so), gains-now, calls-now)

      handed-stop : (status : Status) → IsStop status → Takes (StandsNow []) settles piece (so_far.text ++ text) (Some status)
          → Handed (StandsNow []) settles piece a c (Some status)
      handed-stop statuses.Refused stop takes = (so_far.text ++ text, takes, gains-now, calls-now)
      handed-stop statuses.Limit stop takes = (so_far.text ++ text, takes, gains-now, calls-now)
      handed-stop statuses.Done stop takes = absurd stop
      handed-stop statuses.Usage stop takes = absurd stop
      handed-stop statuses.ReadFault stop takes = absurd stop
      handed-stop statuses.WriteFault stop takes = absurd stop
      handed-stop statuses.Memory stop takes = absurd stop

      pub handed-ends : (status : Status) → taken ≡ Ends status → Handed (StandsNow []) settles piece a c (Some status)
      handed-ends status is =
          let takes : Takes (StandsNow []) so_far.later left text (Some status) = rw is at so in
          handed-stop status takes.0 (takes-now (Some status) takes)

      -- text is due, and was told
      module _ (StandsAfter : Settling → Type 0) (used : ℕ) (is : taken ≡ Due used) (d : SinkTells) where
        owes : TakesPart StandsNow so_far.later left text (Due used)
        owes = rw is at so

        first-so : (part : List ℕ) → IsFront owes.0 part → SettlesFirst settles piece ((so_far.text ++ text) ++ part)
        first-so part front =
            let (due, (later, stands, quiet, goes)) = owes in
            rw (append_assoc so_far.text text part)
            (first-more settles so_far.later piece so_far.taken left so_far.text (text ++ part) so_far.parts so_far.goes
            (first-told so_far.later later left text due part used goes front))

        handed-by : (Later : Settling → Type 0) (status : Status) (After : Type 0) → Told After owes.0 c d (Some status)
            → Handed Later settles piece a d (Some status)
        handed-by Later statuses.WriteFault After (part, front, gains, failed) = (
          (so_far.text ++ text) ++ part,
          first-so part front,
          GainsFront-more a.held c.held d.held (so_far.text ++ text) part gains-now gains,
          LastFailed-after a.calls c.calls d.calls calls-now failed,
        )
        handed-by Later statuses.Memory After (part, front, gains, calls) = (
          (so_far.text ++ text) ++ part,
          first-so part front,
          Gains-more a.held c.held d.held (so_far.text ++ text) part gains-now gains,
          NoneFailed-more a.calls c.calls d.calls calls-now calls,
        )
        handed-by Later statuses.Done After told = absurd told
        handed-by Later statuses.Refused After told = absurd told
        handed-by Later statuses.Usage After told = absurd told
        handed-by Later statuses.ReadFault After told = absurd told
        handed-by Later statuses.Limit After told = absurd told

        pub handed-told : (Later : Settling → Type 0) (result : Option Status) (status : Status)
            → ((due : List ℕ) (settles : Settling) → StandsNow due settles → Told (StandsAfter settles) due c d result)
            → result ≡ Some status → Handed Later settles piece a d (Some status)
        handed-told Later result status tells some =
            let (due, (later, stands, quiet, goes)) = owes in
            handed-by Later status (StandsAfter later) (rw some at (tells due later stands))

        pub handing-more : (result : Option Status) → ((due : List ℕ) (settles : Settling) → StandsNow due settles → Told (StandsAfter settles) due c d result)
            → result ≡ None → HandingSoFar StandsAfter settles piece (drop used left) a d
        handing-more result tells none =
            let (due, (later, stands, quiet, goes)) = owes in
            let (now, gains, calls) : Told (StandsAfter later) due c d None = rw none at (tells due later stands) in
            record {
              taken = so_far.taken ++ take used left;
              text = so_far.text ++ (text ++ due);
              later = later;
              parts =
                  so_far.parts ∙ ap (λ (v : List ℕ). so_far.taken ++ v) (sym (take-append-drop used left))
                  ∙ sym (append_assoc so_far.taken (take used left) (drop used left));
              stands = now;
              quiet = quiet;
              goes = GoesOnTo-more settles so_far.later later so_far.taken so_far.text (take used left) (text ++ due) so_far.goes goes;
              gains = rw (← append_assoc so_far.text text due) (Gains-more a.held c.held d.held (so_far.text ++ text) due gains-now gains);
              calls = NoneFailed-more a.calls c.calls d.calls calls-now calls;
            }

-- ---- the end of the input

-- a longer text has the same fronts
GainsFront-in : (a b : Option (List ℕ)) (text whole more : List ℕ) → GainsFront a b text → whole ≡ text ++ more → GainsFront a b whole
GainsFront-in a None text whole more front is = tt
GainsFront-in None (Some now) text whole more front is = absurd front
GainsFront-in (Some before) (Some now) text whole more (first, rest, parts, gains) is =
    (first, rest ++ more, rw (is, parts, append_assoc first rest more) refl, gains)

pub front-settled : (a b : Option (List ℕ)) (text : List ℕ) (all later : Settled) → GainsFront a b text → all ≡ put_before text later
    → GainsFront a b all.text
front-settled a b text all later front is = rw is (GainsFront-in a b text (text ++ later.text) later.text front refl)

Gains-front : (a b : Option (List ℕ)) (text whole more : List ℕ) → Gains a b text → whole ≡ text ++ more → GainsFront a b whole
Gains-front a None text whole more gains is = tt
Gains-front None (Some now) text whole more gains is = absurd gains
Gains-front (Some before) (Some now) text whole more gains is = (text, more, is, gains)

pub closed-memory : (Began : Type 0) (settles : Settling) (sink : SinkTells) → Began → HandedEnd Began settles sink sink statuses.Memory
closed-memory Began settles sink began =
    (began, Gains-front sink.held sink.held [] (settles at_end []).text (settles at_end []).text (Gains-none sink.held) refl, NoneFailed-same sink.calls)

-- text was written that octets settle which were kept, and then all that is settled after it
module _ (Now Began : Type 0) (settles later : Settling) (text : List ℕ) (is : settles at_end [] ≡ put_before text (later at_end [])) (a b c : SinkTells)
    (gains : Gains a.held b.held text) (calls : NoneFailed a.calls b.calls) (began : Now → Began) where
  ended-more : (status : Status) → EndedSo status later b c → EndedSo status settles a c
  ended-more status ((ends, more), writes) = (
    rw is (ends, Gains-more a.held b.held c.held text (later at_end []).text gains more),
    NoneFailed-more a.calls b.calls c.calls calls writes,
  )

  pub closed-more : (status : Status) → HandedEnd Now later b c status → HandedEnd Began settles a c status
  closed-more statuses.Done ended = ended-more statuses.Done ended
  closed-more statuses.Refused ended = ended-more statuses.Refused ended
  closed-more statuses.Limit ended = ended-more statuses.Limit ended
  closed-more statuses.WriteFault (front, failed) = (
    rw is (GainsFront-more a.held b.held c.held text (later at_end []).text gains front),
    LastFailed-after a.calls b.calls c.calls calls failed,
  )
  closed-more statuses.Memory (now, front, writes) = (
    began now,
    rw is (GainsFront-more a.held b.held c.held text (later at_end []).text gains front),
    NoneFailed-more a.calls b.calls c.calls calls writes,
  )
  closed-more statuses.Usage ended = absurd ended
  closed-more statuses.ReadFault ended = absurd ended

-- text was due that octets settle which were kept
module _ (Began : Type 0) (Owed : List ℕ → Settling → Type 0) (Later : Settling → Type 0) (settles : Settling) (due : List ℕ) (on : EndsOn (Owed due) settles [] due)
    (a b : SinkTells) (result : Option Status) (told : (due : List ℕ) (later : Settling) → Owed due later → Told (Later later) due a b result) where
  is-due : settles at_end [] ≡ put_before due (on.later at_end [])
  is-due = rw on.added on.ends

  front-of : (text : List ℕ) → IsFront due text → (rest : List ℕ) × ((settles at_end []).text ≡ text ++ rest)
  front-of text (rest, parts) =
      (rest ++ (on.later at_end []).text, rw (is-due, parts, append_assoc text rest (on.later at_end []).text) refl)

  closed-by : (After : Type 0) (status : Status) → Began → Told After due a b (Some status) → HandedEnd Began settles a b status
  closed-by After statuses.WriteFault began (text, front, gains, failed) =
      let (rest, all) = front-of text front in
      (GainsFront-in a.held b.held text (settles at_end []).text rest gains all, failed)
  closed-by After statuses.Memory began (text, front, gains, calls) =
      let (rest, all) = front-of text front in
      (began, Gains-front a.held b.held text (settles at_end []).text rest gains all, calls)
  closed-by After statuses.Done began told = absurd told
  closed-by After statuses.Refused began told = absurd told
  closed-by After statuses.Limit began told = absurd told
  closed-by After statuses.Usage began told = absurd told
  closed-by After statuses.ReadFault began told = absurd told

  -- a part of it was written
  pub closed-told : (status : Status) → result ≡ Some status → Began → HandedEnd Began settles a b status
  closed-told status some began = closed-by (Later on.later) status began (rw some at (told due on.later on.stands))

  -- all of it was, and what is settled after it
  pub closed-owed : result ≡ None → Began → (Now : Type 0) (c : SinkTells) (status : Status)
      → ((later : Settling) → Later later → HandedEnd Now later b c status) → HandedEnd Began settles a c status
  closed-owed none began Now c status closes =
      let (there, gains, calls) : Told (Later on.later) due a b None = rw none at (told due on.later on.stands) in
      closed-more Now Began settles on.later due is-due a b c gains calls (λ now. began) status (closes on.later there)
