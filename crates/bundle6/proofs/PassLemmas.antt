-- What is left of the table, step by step.

use Rattle.std.proofs.Common.{◌≡◌, ℕ, zero, suc, ◌+◌, ◌-◌, ◌≤◌, Bool, true, false, List, [], ◌++◌, length, Option, None, Result, Ok, Err, IsErrAnd, refl, ap, ◌∙◌, arith, append-nil, subst}
use Rattle.endpoint.specs.declared.extent.Fragment.{Fragment}
use Rattle.wire_fields.specs.Format.{give, and_then}
use Rattle.wire_fields.specs.Refusal.{Stop}
use Rattle.wire_fields.specs.Reading.{read, IsOctets}
use Rattle.wire_fields.specs.Words.{repeated, until}
use Rattle.wire_fields.specs.Gives.{Continues, Judges}
use Rattle.wire_fields.proofs.ContinueLemmas.{continues-then, continues-in, continues-deep, fails-then}
use Rattle.wire_fields.proofs.JudgeLemmas.{judged-ok, judged-err}
use Rattle.bundle6.specs.declared.fault.Cause6.{Cause6}
use Rattle.bundle6.specs.declared.fault.Refused6.{Refused6}
use Rattle.bundle6.specs.declared.block.Seen.{Seen}
use Rattle.bundle6.specs.declared.pass.Head.{Head}
use Rattle.bundle6.specs.declared.pass.Pass.{Pass}
use Rattle.bundle6.specs.declared.pass.Stage.{Stage}
use Rattle.bundle6.specs.declared.pass.Stage.TheVariants as stages
use Rattle.bundle6.specs.Cause.{stop_of}
use Rattle.bundle6.specs.Seen.{how_many, Follows}
use Rattle.bundle6.specs.Table.{bundle}
use Rattle.bundle6.specs.Judging.{judged_primary, judged_name, judged_names, judged_head, judged_body, judged_tail, judged_block, judged_blocks, judged_bundle, none_seen}
use Rattle.bundle6.specs.Passing.{texts_in, judged_on, left_at, left_of, next_stage, Stands, Steps}
use Rattle.bundle6.proofs.JudgeLemmas.{bundle-keeps}

-- ---- steps

-- the primary block was read, and blocks follow
pub primary-continues : (most : ℕ) (text : List ℕ) (at to : ℕ) (part : Option Fragment) (dictionary : List ℕ) → IsOctets text
    → at ≤ length text → read judged_primary text at ≡ Ok ((part, dictionary), to)
    → Continues (judged_bundle most) at (left_at most part dictionary none_seen stages.Block) to text
unfolding judged_bundle
primary-continues most text at to part dictionary fits within is more =
    let all : most + 1 ≡ most + 1 - how_many none_seen = omega arith in
    continues-then judged_primary (λ main. judged_blocks (most + 1) most main.0 main.1 none_seen)
    text at to (part, dictionary) fits within is more
    ∙ ap (λ n. read (judged_blocks n most part dictionary none_seen) (text ++ more) to) all

pub primary-fails : (most : ℕ) (text : List ℕ) (at : ℕ) (s : ℕ × Stop Cause6) → read judged_primary text at ≡ Err s
    → read (judged_bundle most) text at ≡ Err s
unfolding judged_bundle
primary-fails most text at s is =
    fails-then judged_primary (λ main. judged_blocks (most + 1) most main.0 main.1 none_seen) text at s is

module _ (most : ℕ) (part : Option Fragment) (dictionary text : List ℕ) where
  -- the head of a block was read, and references and octets follow
  pub head-continues : (seen : Seen) (h : Head) (at to : ℕ) → IsOctets text → at ≤ length text → Follows most seen h.seen
      → read (judged_head most seen) text at ≡ Ok (h, to)
      → Continues (left_at most part dictionary seen stages.Block) at
      (left_at most part dictionary h.seen (stages.References h.count h.payload h.last)) to text
  unfolding until
  head-continues seen h at to fits within follows is more =
      let n = most + 1 - how_many h.seen in
      let some : most + 1 - how_many seen ≡ suc n = omega (arith, follows.counted, follows.room) in
      ap (λ m. read (judged_blocks m most part dictionary seen) (text ++ more) at) some
      ∙ continues-in (judged_head most seen) (λ h. judged_tail h.count part dictionary h.payload h.last h.seen)
      (judged_on n most part dictionary) text at to h fits within is more

  fails-at : (n : ℕ) (seen : Seen) (at : ℕ) (s : ℕ × Stop Cause6) → read (judged_head most seen) text at ≡ Err s
      → read (judged_blocks n most part dictionary seen) text at ≡ Err s
  unfolding until
  fails-at zero seen at s is =
      fails-then (judged_block most part dictionary seen) (λ t. give t.0) text at s
      (fails-then (judged_head most seen) (λ h. judged_tail h.count part dictionary h.payload h.last h.seen) text at s is)
  fails-at (suc n) seen at s is =
      fails-then (judged_block most part dictionary seen) (judged_on n most part dictionary) text at s
      (fails-then (judged_head most seen) (λ h. judged_tail h.count part dictionary h.payload h.last h.seen) text at s is)

  pub head-fails : (seen : Seen) (at : ℕ) (s : ℕ × Stop Cause6) → read (judged_head most seen) text at ≡ Err s
      → read (left_at most part dictionary seen stages.Block) text at ≡ Err s
  head-fails seen at s is = fails-at (most + 1 - how_many seen) seen at s is

  on-last : (seen : Seen) (last : Bool) (t : List ℕ) (to : ℕ)
      → read (judged_on (most + 1 - how_many seen) most part dictionary (seen, last)) t to
      ≡ read (left_at most part dictionary seen (next_stage last)) t to
  on-last seen true t to = refl
  on-last seen false t to = refl

  -- the octets of a block were read: the bundle ended, or a block follows
  pub body-continues : (seen : Seen) (payload last : Bool) (at to : ℕ) → IsOctets text → at ≤ length text
      → read (judged_body part payload) text at ≡ Ok (tt, to)
      → Continues (left_at most part dictionary seen (stages.References 0 payload last)) at
      (left_at most part dictionary seen (next_stage last)) to text
  body-continues seen payload last at to fits within is more =
      continues-in (judged_body part payload) (λ body. give (seen, last))
      (judged_on (most + 1 - how_many seen) most part dictionary) text at to tt fits within is more
      ∙ on-last seen last (text ++ more) to

  pub body-fails : (seen : Seen) (payload last : Bool) (at : ℕ) (s : ℕ × Stop Cause6)
      → read (judged_body part payload) text at ≡ Err s
      → read (left_at most part dictionary seen (stages.References 0 payload last)) text at ≡ Err s
  body-fails seen payload last at s is =
      fails-then (and_then (judged_body part payload) (λ body. give (seen, last)))
      (judged_on (most + 1 - how_many seen) most part dictionary) text at s
      (fails-then (judged_body part payload) (λ body. give (seen, last)) text at s is)

  -- one reference more was read
  pub reference-continues : (seen : Seen) (left : ℕ) (payload last : Bool) (at to : ℕ) → IsOctets text → at ≤ length text
      → left ≡ suc (left - 1) → read (judged_name dictionary) text at ≡ Ok (tt, to)
      → Continues (left_at most part dictionary seen (stages.References left payload last)) at
      (left_at most part dictionary seen (stages.References (left - 1) payload last)) to text
  reference-continues seen left payload last at to fits within some is more =
      ap (λ n. read (left_at most part dictionary seen (stages.References n payload last)) (text ++ more) at) some
      ∙ continues-deep (judged_name dictionary) (repeated (left - 1) (λ _. judged_name dictionary))
      (λ names. and_then (judged_body part payload) (λ body. give (seen, last)))
      (judged_on (most + 1 - how_many seen) most part dictionary) text at to tt fits within is more

  pub reference-fails : (seen : Seen) (left : ℕ) (payload last : Bool) (at : ℕ) (s : ℕ × Stop Cause6) → left ≡ suc (left - 1)
      → read (judged_name dictionary) text at ≡ Err s
      → read (left_at most part dictionary seen (stages.References left payload last)) text at ≡ Err s
  reference-fails seen left payload last at s some is =
      ap (λ n. read (left_at most part dictionary seen (stages.References n payload last)) text at) some
      ∙ fails-then (judged_tail (suc (left - 1)) part dictionary payload last seen)
      (judged_on (most + 1 - how_many seen) most part dictionary) text at s
      (fails-then (judged_names (suc (left - 1)) dictionary) (λ names. and_then (judged_body part payload) (λ body. give (seen, last))) text at s
      (fails-then (judged_name dictionary) (repeated (left - 1) (λ _. judged_name dictionary)) text at s is))

-- what a `?` passes on is the refusal that it met
pub steps-fault : (most : ℕ) (text : List ℕ) (pass : Pass) (stage : Stage) (result : Result Pass Refused6) (e : Refused6)
    → IsErrAnd result (λ d. d ≡ e)
    → read (left_at most pass.part (texts_in pass.texts text) pass.seen stage) text pass.at ≡ Err (stop_of e)
    → Steps most text pass stage result
steps-fault most text pass stage (Ok next) e is fails = absurd is
steps-fault most text pass stage (Err d) e is fails = rw is fails

-- ---- the whole pass

pub stands-start : (most : ℕ) (text : List ℕ) → Stands most text (record { at = 0; stage = stages.Primary; seen = none_seen; part = None; texts = record { from = 0; to = 0 } })
stands-start most text more = refl

pub stands-next : (most : ℕ) (text : List ℕ) (pass next : Pass) → Stands most text pass
    → Steps most text pass pass.stage (Ok next) → Stands most text next
stands-next most text pass next stands step more = stands more ∙ step more

-- what is left is refused, and so is the bundle
pub here : (most : ℕ) (text : List ℕ) (pass : Pass) → Stands most text pass
    → read (judged_bundle most) text 0 ≡ read (left_of most text pass) text pass.at
here most text pass stands =
    subst (λ t. read (judged_bundle most) t 0 ≡ read (left_of most text pass) t pass.at) (append-nil text) (stands [])

pub comes-refused : (most : ℕ) (text : List ℕ) (pass : Pass) (e : Refused6) → Stands most text pass
    → Steps most text pass pass.stage (Err e) → read (judged_bundle most) text 0 ≡ Err (stop_of e)
comes-refused most text pass e stands step = here most text pass stands ∙ step

-- ---- judging

pub ended : (most : ℕ) (text : List ℕ) (pass : Pass) → Stands most text pass → pass.stage ≡ stages.Ended
    → read (judged_bundle most) text 0 ≡ Ok (pass.seen, pass.at)
ended most text pass stands is =
    here most text pass stands
    ∙ ap (λ stage. read (left_at most pass.part (texts_in pass.texts text) pass.seen stage) text pass.at) is

pub judges-ended : (most : ℕ) (text : List ℕ) (pass : Pass) → Stands most text pass → pass.stage ≡ stages.Ended
    → Judges stop_of (Ok pass.at) (read (bundle most) text 0)
judges-ended most text pass stands is =
    judged-ok stop_of _ _ pass.seen pass.at ((bundle-keeps most).reads text 0 ∙ ended most text pass stands is)

pub judges-stopped : (most : ℕ) (text : List ℕ) (e : Refused6) → read (judged_bundle most) text 0 ≡ Err (stop_of e)
    → Judges stop_of (Err e) (read (bundle most) text 0)
judges-stopped most text e is = judged-err stop_of _ _ e ((bundle-keeps most).reads text 0 ∙ is)
