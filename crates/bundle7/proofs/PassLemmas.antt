-- What is left of the table, step by step.
use Rattle.std.proofs.Common.{◌≡◌, ℕ, zero, suc, ◌+◌, ◌-◌, ◌≤◌, ◌==◌, ◌≢◌, ◌||◌, eqb-true, Bool, true, false, List, [], ◌∷◌, ◌++◌, length, Option, Result, Ok, Err, IsErrAnd, refl, sym, ap, ◌∙◌, arith, append-nil, subst, length-append}
use Rattle.std.proofs.lemmas.Bool.{eq-eqb}
use Rattle.endpoint.specs.declared.extent.Fragment.{Fragment}
use Rattle.wire_fields.specs.Format.{give, and_then}
use Rattle.wire_fields.specs.Refusal.{Stop}
use Rattle.wire_fields.specs.Reading.{read, IsOctets}
use Rattle.wire_fields.specs.Words.{choice}
use Rattle.wire_fields.specs.Gives.{Continues, Judges}
use Rattle.wire_fields.proofs.ContinueLemmas.{continues-then, continues-in, fails-then}
use Rattle.wire_fields.proofs.JudgeLemmas.{judged-ok, judged-err}
use Rattle.bundle7.specs.declared.fault.Cause7.{Cause7}
use Rattle.bundle7.specs.declared.fault.Refused7.{Refused7}
use Rattle.bundle7.specs.declared.block.Lead.{Lead}
use Rattle.bundle7.specs.declared.seen.Seen.{Seen}
use Rattle.bundle7.specs.declared.check.Sum.{Sum}
use Rattle.bundle7.specs.declared.pass.Front.{Front}
use Rattle.bundle7.specs.declared.pass.Pass.{Pass}
use Rattle.bundle7.specs.declared.pass.Stage.{Stage}
use Rattle.bundle7.specs.declared.pass.Stage.TheVariants as stages
use Rattle.bundle7.specs.Cause.{stop_of}
use Rattle.bundle7.specs.Check.{crc_field}
use Rattle.bundle7.specs.Table.{bundle, body_field}
use Rattle.bundle7.specs.Seen.{seen_with}
use Rattle.bundle7.specs.Judging.{judged_start, judged_front, judged_check, judged_body, judged_block, judged_end, judged_blocks, judged_bundle, none_seen}
use Rattle.bundle7.specs.Passing.{blocks_left, judged_on, left_at, left_of, Stands, Steps}
use Rattle.bundle7.proofs.KeepingLemmas.{bundle-keeps}

-- ---- steps

-- the primary block was read, and blocks follow
pub start-continues : (most : ℕ) (text : List ℕ) (at to : ℕ) (part : Option Fragment) → IsOctets text → at ≤ length text
    → read judged_start text at ≡ Ok (part, to)
    → Continues (judged_bundle most) at (left_at most part none_seen stages.Block) to text
unfolding judged_bundle
start-continues most text at to part fits within is more =
    let all : most ≡ most - length none_seen.kinds = omega arith in
    continues-then judged_start (λ part. judged_blocks part most none_seen) text at to part fits within is more
    ∙ ap (λ n. read (judged_blocks part n none_seen) (text ++ more) to) all

pub start-fails : (most : ℕ) (text : List ℕ) (at : ℕ) (s : ℕ × Stop Cause7) → read judged_start text at ≡ Err s
    → read (judged_bundle most) text at ≡ Err s
unfolding judged_bundle
start-fails most text at s is = fails-then judged_start (λ part. judged_blocks part most none_seen) text at s is

module _ (part : Option Fragment) (text : List ℕ) where
  -- a block, and what is left after it
  blocks-are : (left : ℕ) (seen : Seen) (t : List ℕ) (at : ℕ)
      → read (judged_blocks part left seen) t at ≡ read (and_then (judged_block part left seen) (judged_on part left seen)) t at
  blocks-are zero seen t at = refl
  blocks-are (suc left) seen t at = refl

  -- what stands before a body was read
  pub front-continues : (left : ℕ) (seen : Seen) (front : Front) (at to : ℕ) → IsOctets text → at ≤ length text
      → read (judged_front part left seen) text at ≡ Ok (front, to)
      → Continues (judged_blocks part left seen) at (and_then (judged_body front at) (judged_on part left seen)) to text
  front-continues left seen front at to fits within is more =
      blocks-are left seen (text ++ more) at
      ∙ continues-in (judged_front part left seen) (λ front. judged_body front at) (judged_on part left seen) text at to front fits within is more

  pub front-fails : (left : ℕ) (seen : Seen) (at : ℕ) (s : ℕ × Stop Cause7) → read (judged_front part left seen) text at ≡ Err s
      → read (judged_blocks part left seen) text at ≡ Err s
  front-fails left seen at s is =
      blocks-are left seen text at
      ∙ fails-then (and_then (judged_front part left seen) (λ front. judged_body front at)) (judged_on part left seen) text at s
      (fails-then (judged_front part left seen) (λ front. judged_body front at) text at s is)

  -- a body was read
  pub body-continues : (left : ℕ) (seen : Seen) (front : Front) (start at to : ℕ) (body : List ℕ) → IsOctets text → at ≤ length text
      → read (body_field front.lead.kind front.size) text at ≡ Ok (body, to)
      → Continues (and_then (judged_body front start) (judged_on part left seen)) at
      (and_then (judged_check front.lead start) (judged_on part left seen)) to text
  body-continues left seen front start at to body fits within is =
      continues-in (body_field front.lead.kind front.size) (λ body. judged_check front.lead start) (judged_on part left seen)
      text at to body fits within is

  pub body-fails : (left : ℕ) (seen : Seen) (front : Front) (start at : ℕ) (s : ℕ × Stop Cause7)
      → read (body_field front.lead.kind front.size) text at ≡ Err s
      → read (and_then (judged_body front start) (judged_on part left seen)) text at ≡ Err s
  body-fails left seen front start at s is =
      fails-then (judged_body front start) (judged_on part left seen) text at s
      (fails-then (body_field front.lead.kind front.size) (λ body. judged_check front.lead start) text at s is)

  -- a check was read: what is left after the block
  pub check-continues : (left : ℕ) (seen : Seen) (lead : Lead) (start at to : ℕ) → IsOctets text → at ≤ length text
      → read (crc_field lead.crc start) text at ≡ Ok (tt, to)
      → Continues (and_then (judged_check lead start) (judged_on part left seen)) at (judged_on part left seen lead) to text
  check-continues left seen lead start at to fits within is =
      continues-in (crc_field lead.crc start) (λ check. give lead) (judged_on part left seen) text at to tt fits within is

  pub check-fails : (left : ℕ) (seen : Seen) (lead : Lead) (start at : ℕ) (s : ℕ × Stop Cause7)
      → read (crc_field lead.crc start) text at ≡ Err s
      → read (and_then (judged_check lead start) (judged_on part left seen)) text at ≡ Err s
  check-fails left seen lead start at s is =
      fails-then (judged_check lead start) (judged_on part left seen) text at s
      (fails-then (crc_field lead.crc start) (λ check. give lead) text at s is)

  -- after the payload, and after as many blocks as may stand, the end
  pub on-end : (left : ℕ) (seen : Seen) (lead : Lead) (t : List ℕ) (to : ℕ) → left ≡ 0
      → read (judged_on part left seen lead) t to ≡ read judged_end t to
  on-end left seen lead t to none = ap (λ n. read (judged_on part n seen lead) t to) none

  pub on-payload : (left : ℕ) (seen : Seen) (lead : Lead) (t : List ℕ) (to : ℕ) → (lead.kind == 1) ≡ true
      → read (judged_on part left seen lead) t to ≡ read judged_end t to
  on-payload zero seen lead t to is = refl
  on-payload (suc left) seen lead t to is =
      ap (λ c. read (choice c judged_end (judged_blocks part left (seen_with seen lead.kind lead.number))) t to) is

  pub on-other : (left : ℕ) (seen : Seen) (lead : Lead) (t : List ℕ) (to : ℕ) → left ≡ suc (left - 1) → (lead.kind == 1) ≡ false
      → read (judged_on part left seen lead) t to ≡ read (judged_blocks part (left - 1) (seen_with seen lead.kind lead.number)) t to
  on-other left seen lead t to some is =
      ap (λ n. read (judged_on part n seen lead) t to) some
      ∙ ap (λ c. read (choice c judged_end (judged_blocks part (left - 1) (seen_with seen lead.kind lead.number))) t to) is

  -- whether or not a block is the last
  pub on-last : (most count : ℕ) (seen : Seen) (lead : Lead) (t : List ℕ) (to : ℕ) → (lead.kind == 1 || count == most) ≡ true
      → read (judged_on part (most - count) seen lead) t to ≡ read judged_end t to
  on-last most count seen lead t to last = by (lead.kind == 1) refl last
    where
      by : (c : Bool) → (lead.kind == 1) ≡ c → (c || count == most) ≡ true
          → read (judged_on part (most - count) seen lead) t to ≡ read judged_end t to
      by true is last = on-payload (most - count) seen lead t to is
      by false is last = let same = eqb-true count most last in on-end (most - count) seen lead t to (omega (arith, same))

  pub on-more : (most count : ℕ) (seen : Seen) (lead : Lead) (t : List ℕ) (to : ℕ) → count ≤ most
      → (lead.kind == 1 || count == most) ≡ false
      → read (judged_on part (most - count) seen lead) t to
      ≡ read (judged_blocks part (most - count - 1) (seen_with seen lead.kind lead.number)) t to
  on-more most count seen lead t to few more = by (lead.kind == 1) refl more
    where
      by : (c : Bool) → (lead.kind == 1) ≡ c → (c || count == most) ≡ false
          → read (judged_on part (most - count) seen lead) t to
          ≡ read (judged_blocks part (most - count - 1) (seen_with seen lead.kind lead.number)) t to
      by true is more = absurd (cc)
      by false is more =
          let other : count ≢ most = λ same. let no : (count == most) ≡ true = eq-eqb count most same in absurd (cc) in
          on-other (most - count) seen lead t to (omega (arith, few, other)) is

-- ---- steps of a pass

left-is : (most : ℕ) (old : Pass) (stage : Stage) → old.stage ≡ stage → (t : List ℕ)
    → read (left_of most old) t old.at ≡ read (left_at most old.part old.seen stage) t old.at
left-is most old stage is t = ap (λ s. read (left_at most old.part old.seen s) t old.at) is

module _ (most : ℕ) (text : List ℕ) (old : Pass) (fits : IsOctets text) (within : old.at ≤ length text) where
  pub start-step : (part : Option Fragment) (seen : Seen) (to : ℕ) → old.stage ≡ stages.Primary → seen ≡ none_seen
      → read judged_start text old.at ≡ Ok (part, to)
      → Continues (left_of most old) old.at (left_at most part seen stages.Block) to text
  start-step part seen to stage none is more =
      left-is most old stages.Primary stage (text ++ more)
      ∙ start-continues most text old.at to part fits within is more
      ∙ ap (λ s. read (left_at most part s stages.Block) (text ++ more) to) (sym none)

  pub front-step : (left : ℕ) (front : Front) (sum : Sum) (to : ℕ) → old.stage ≡ stages.Block
      → left ≡ blocks_left most old.seen → sum.from ≡ old.at
      → read (judged_front old.part left old.seen) text old.at ≡ Ok (front, to)
      → Continues (left_of most old) old.at (left_at most old.part old.seen (stages.Body front sum)) to text
  front-step left front sum to stage few from is more =
      left-is most old stages.Block stage (text ++ more)
      ∙ front-continues old.part text (blocks_left most old.seen) old.seen front old.at to fits within
      (ap (λ n. read (judged_front old.part n old.seen) text old.at) (sym few) ∙ is) more
      ∙ ap (λ start. read (and_then (judged_body front start) (judged_on old.part (blocks_left most old.seen) old.seen)) (text ++ more) to) (sym from)

  check-read : (lead : Lead) (sum : Sum) (to : ℕ) → old.stage ≡ stages.Check lead sum → sum.crc ≡ lead.crc → sum.to ≡ old.at
      → read (crc_field sum.crc sum.from) text sum.to ≡ Ok (tt, to)
      → Continues (left_of most old) old.at (judged_on old.part (blocks_left most old.seen) old.seen lead) to text
  check-read lead sum to stage crc spot is more =
      left-is most old (stages.Check lead sum) stage (text ++ more)
      ∙ check-continues old.part text (blocks_left most old.seen) old.seen lead sum.from old.at to fits within
      (ap (λ n. read (crc_field n sum.from) text old.at) (sym crc) ∙ ap (λ n. read (crc_field sum.crc sum.from) text n) (sym spot) ∙ is) more

  pub last-step : (lead : Lead) (sum : Sum) (to : ℕ) → old.stage ≡ stages.Check lead sum → sum.crc ≡ lead.crc → sum.to ≡ old.at
      → read (crc_field sum.crc sum.from) text sum.to ≡ Ok (tt, to)
      → (lead.kind == 1 || length old.seen.kinds == most) ≡ true
      → Continues (left_of most old) old.at judged_end to text
  last-step lead sum to stage crc spot is last more =
      check-read lead sum to stage crc spot is more
      ∙ on-last old.part text most (length old.seen.kinds) old.seen lead (text ++ more) to last

  pub more-step : (lead : Lead) (sum : Sum) (seen : Seen) (to : ℕ) → old.stage ≡ stages.Check lead sum → sum.crc ≡ lead.crc
      → sum.to ≡ old.at → read (crc_field sum.crc sum.from) text sum.to ≡ Ok (tt, to) → length old.seen.kinds ≤ most
      → (lead.kind == 1 || length old.seen.kinds == most) ≡ false → seen ≡ seen_with old.seen lead.kind lead.number
      → Continues (left_of most old) old.at (left_at most old.part seen stages.Block) to text
  more-step lead sum seen to stage crc spot is few last next more =
      let long : length (old.seen.kinds ++ lead.kind ∷ []) ≡ length old.seen.kinds + 1 = length-append old.seen.kinds (lead.kind ∷ []) in
      let left : most - length old.seen.kinds - 1 ≡ most - length (old.seen.kinds ++ lead.kind ∷ []) = omega (arith, long) in
      check-read lead sum to stage crc spot is more
      ∙ on-more old.part text most (length old.seen.kinds) old.seen lead (text ++ more) to few last
      ∙ ap (λ n. read (judged_blocks old.part n (seen_with old.seen lead.kind lead.number)) (text ++ more) to) left
      ∙ ap (λ s. read (left_at most old.part s stages.Block) (text ++ more) to) (sym next)

pub start-refused : (most : ℕ) (text : List ℕ) (old : Pass) (s : ℕ × Stop Cause7) → old.stage ≡ stages.Primary
    → read judged_start text old.at ≡ Err s → read (left_of most old) text old.at ≡ Err s
start-refused most text old s stage is = left-is most old stages.Primary stage text ∙ start-fails most text old.at s is

-- what a `?` passes on is the refusal that it met
pub steps-fault : (most : ℕ) (text : List ℕ) (old new : Pass) (result : Result (Unit {0}) Refused7) (e : Refused7)
    → IsErrAnd result (λ d. d ≡ e) → new ≡ old → read (left_of most old) text old.at ≡ Err (stop_of e)
    → Steps most text old result new
steps-fault most text old new (Ok x) e is same fails = absurd is
steps-fault most text old new (Err d) e is same fails = rw is (same, fails)

-- ---- the whole pass

pub stands-next : (most : ℕ) (text : List ℕ) (old new : Pass) → Stands most text old
    → Steps most text old (Ok tt) new → Stands most text new
stands-next most text old new stands step more = stands more ∙ step more

pub stands-kept : (most : ℕ) (text : List ℕ) (old new : Pass) → new ≡ old → Stands most text old → Stands most text new
stands-kept most text old new same stands = subst (Stands most text) (sym same) stands

-- what is left is refused, and so is the bundle
pub here : (most : ℕ) (text : List ℕ) (pass : Pass) → Stands most text pass
    → read (judged_bundle most) text 0 ≡ read (left_of most pass) text pass.at
here most text pass stands =
    subst (λ t. read (judged_bundle most) t 0 ≡ read (left_of most pass) t pass.at) (append-nil text) (stands [])

pub comes-refused : (most : ℕ) (text : List ℕ) (pass : Pass) (e : Refused7) → Stands most text pass
    → read (left_of most pass) text pass.at ≡ Err (stop_of e) → read (judged_bundle most) text 0 ≡ Err (stop_of e)
comes-refused most text pass e stands fails = here most text pass stands ∙ fails

-- ---- judging

pub ended : (most : ℕ) (text : List ℕ) (pass : Pass) → Stands most text pass → pass.stage ≡ stages.Ended
    → read (judged_bundle most) text 0 ≡ Ok (tt, pass.at)
ended most text pass stands is =
    here most text pass stands
    ∙ ap (λ stage. read (left_at most pass.part pass.seen stage) text pass.at) is

pub judges-ended : (most : ℕ) (text : List ℕ) (pass : Pass) → Stands most text pass → pass.stage ≡ stages.Ended
    → Judges stop_of (Ok pass.at) (read (bundle most) text 0)
judges-ended most text pass stands is =
    judged-ok stop_of _ _ tt pass.at ((bundle-keeps most).reads text 0 ∙ ended most text pass stands is)

pub judges-stopped : (most : ℕ) (text : List ℕ) (e : Refused7) → read (judged_bundle most) text 0 ≡ Err (stop_of e)
    → Judges stop_of (Err e) (read (bundle most) text 0)
judges-stopped most text e is = judged-err stop_of _ _ e ((bundle-keeps most).reads text 0 ∙ is)
